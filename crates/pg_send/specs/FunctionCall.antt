-- FunctionCall: calls a function by its object id. Documentation: "Message Formats", FunctionCall (F).
use Rattle.std.specs.Prelude.{ℕ, ◌^◌, ◌<◌, List, length, map, All, Option, None}
use Rattle.std.specs.Option.{option_or}
use Rattle.pg_base.specs.declared.format.FrontendMessageFormat.TheVariants as formats
use Rattle.pg_base.specs.declared.error.ProtocolFault.{ProtocolFault}
use Rattle.pg_base.specs.declared.error.ProtocolFault.TheVariants.{TooManyParamFormats, BadParams}
use Rattle.pg_format.specs.Format.{Means}
use Rattle.pg_format.specs.Messages as page
use Rattle.pg_send.specs.declared.message.function_call.FunctionCall.{FunctionCall}
use Rattle.pg_send.specs.Counted.{too_many}
use Rattle.pg_base.specs.Part.{saturated}
use Rattle.pg_send.specs.FrontendMessage.{Law, plain}

-- it may have more formats than it can count, or more arguments
abbrev pub function_call_count_fault : page.FunctionCall → Option ProtocolFault
function_call_count_fault f = option_or (too_many TooManyParamFormats (length f.formats)) (too_many (λ _. BadParams) (length f.arguments))

-- the function, the formats of the arguments after their count, the arguments after theirs, and the format of
-- the result
abbrev pub function_call_body : page.FunctionCall → List ℕ
function_call_body f = page.function_call.Writes f

pub record IsFunctionCallInRange (f : page.FunctionCall) : Type 0 where
  pub object_id : f.object_id < 2 ^ 32
  pub formats : All (λ code. code < 2 ^ 16) f.formats
  pub result_format : f.result_format < 2 ^ 16

-- a reader takes it apart by the page
abbrev pub function_call_law : page.FunctionCall → Law
function_call_law f = record {
  format = formats.FunctionCall;
  form = plain;
  body = function_call_body f;
  count_fault = function_call_count_fault f;
  room_for = saturated;
  IsInRange = IsFunctionCallInRange f;
  Reads = λ bytes. Means page.function_call bytes f;
  CanRoundTrip = Unit {0};
  round_trip_fault = None;
}

-- of arguments that are in the caller's form
abbrev pub function_call_fields : {V : Type 0} → (V → Option (List ℕ)) → FunctionCall V → page.FunctionCall
function_call_fields value f = record { object_id = f.object_id.0; formats = f.formats.now; arguments = map value f.arguments.now; result_format = f.result_format }
