-- A message of parts: codes, types and a limit that come to the same by other ways.
use Rattle.std.proofs.Common.{◌≡◌, ℕ, ◌^◌, List, length, Option, Some, None, refl}
use Rattle.std.specs.Option.{option_or}
use Rattle.pg_base.specs.declared.error.ProtocolFault.TheVariants.{TooManyParamFormats, TooManyResultFormats, BadParams}
use Rattle.pg_base.specs.Naming.{Free}
use Rattle.pg_base.specs.Part.{both, both_from_last, number16, number32, name}
use Rattle.pg_format.specs.Messages as page
use Rattle.pg_send.specs.Composed.{IsBodyOf}
use Rattle.pg_send.specs.Counted.{codes, too_many}
use Rattle.pg_send.specs.FunctionCall.{function_call_law}
use Rattle.pg_send.specs.RawBind.{raw_bind_law}
use Rattle.pg_send.specs.Values.{values}

or_none : {A : Type 0} (x : Option A) → option_or x None ≡ x
or_none None = refl
or_none (Some y) = refl

-- a Bind with these lists of codes
pub raw_bind_of_parts : (b : page.Bind) (formats results : List ℕ) → formats ≡ b.formats → results ≡ b.result_formats
    → IsBodyOf (both (name (Free b.portal)) (both (name (Free b.statement)) (both (codes TooManyParamFormats (2 ^ 16) formats) (both_from_last (values b.values) (codes TooManyResultFormats (2 ^ 16) results))))) (raw_bind_law b)
raw_bind_of_parts b formats results f r =
    rw (f, r) (record { text = refl; fault = refl; range = λ it. record { formats = it.1.1.0; result_formats = it.1.1.1.1 } })

-- a FunctionCall with this list of codes
pub function_call_of_parts : (f : page.FunctionCall) (formats : List ℕ) → formats ≡ f.formats
    → IsBodyOf (both (number32 f.object_id) (both (codes TooManyParamFormats (2 ^ 16) formats) (both (values f.arguments) (number16 f.result_format)))) (function_call_law f)
function_call_of_parts f formats e =
    let arguments = too_many (λ _. BadParams) (length f.arguments) in
    let limits = too_many TooManyParamFormats (length f.formats) in
    rw e (record { text = refl; fault = λ i. option_or limits (or_none arguments i); range = λ it. record { object_id = it.0; formats = it.1.0; result_format = it.1.1.1 } })
