-- Bind: makes a portal of a prepared statement and the values of its parameters. Documentation:
-- "Message Formats", Bind (F).
use Rattle.std.specs.Prelude.{ℕ, ◌^◌, ◌<◌, ◌≤◌, List, [], ◌++◌, ◌≡◌, length, All, Option, Some}
use Rattle.std.specs.Option.{option_or}
use Rattle.pg_base.specs.declared.format.FrontendMessageFormat.TheVariants as formats
use Rattle.pg_base.specs.declared.error.ProtocolFault.{ProtocolFault}
use Rattle.pg_base.specs.declared.error.ProtocolFault.TheVariants.{TooManyParamFormats, TooManyResultFormats, BadParams}
use Rattle.pg_base.specs.Id.{named, statement_prefix, portal_prefix, max_id}
use Rattle.pg_base.specs.Format.{format_codes}
use Rattle.pg_base.specs.Numbers.{be16}
use Rattle.pg_base.specs.Reading.{Text, StatementName, PortalName, Number, Counted, Values}
use Rattle.pg_send.specs.declared.message.bind.Bind.{Bind}
use Rattle.pg_send.specs.Counted.{too_many, counted16}
use Rattle.pg_base.specs.Part.{saturated}
use Rattle.pg_send.specs.FrontendMessage.{Law, plain}

-- the formats are their codes, and the values of the parameters are as the caller spelled them
pub record BindFields : Type 0 where
  pub portal : ℕ
  pub statement : ℕ
  pub formats : List ℕ
  pub num_params : ℕ
  pub params : List ℕ
  pub result_formats : List ℕ

-- it may have more formats than it can count, first of the parameters and then of the results
abbrev pub bind_count_fault : BindFields → Option ProtocolFault
bind_count_fault b =
    option_or (too_many TooManyParamFormats (length b.formats)) (too_many TooManyResultFormats (length b.result_formats))

-- the names of the portal and the statement, the formats of the parameters after their count, the
-- parameters after theirs, and the formats of the results after theirs
abbrev pub bind_body : BindFields → List ℕ
bind_body b =
    named portal_prefix b.portal ++ (named statement_prefix b.statement ++ (counted16 b.formats ++ ((be16 b.num_params ++ b.params) ++ counted16 b.result_formats)))

-- its numbers are in their ranges
pub record IsBindInRange (b : BindFields) : Type 0 where
  pub portal : b.portal ≤ max_id
  pub statement : b.statement ≤ max_id
  pub formats : All (λ code. code < 2) b.formats
  pub num_params : b.num_params < 2 ^ 16
  pub result_formats : All (λ code. code < 2) b.result_formats

-- a reader takes the two names, the formats of the parameters, how many values there are, those
-- values, and the formats of the results
pub record ReadsBind (body : List ℕ) (b : BindFields) : Type 0 where
  pub portal_name : List ℕ
  pub statement_name : List ℕ
  pub after_portal : List ℕ
  pub after_statement : List ℕ
  pub after_formats : List ℕ
  pub after_count : List ℕ
  pub after_params : List ℕ
  pub first : Text body portal_name after_portal
  pub portal : PortalName portal_name b.portal
  pub second : Text after_portal statement_name after_statement
  pub statement : StatementName statement_name b.statement
  pub formats : Counted 2 after_statement b.formats after_formats
  pub codes : All (λ code. code < 2) b.formats
  pub count : Number 2 after_formats b.num_params after_count
  pub params : after_count ≡ b.params ++ after_params
  pub values : Values b.num_params after_count after_params
  pub result_formats : Counted 2 after_params b.result_formats []
  pub result_codes : All (λ code. code < 2) b.result_formats

-- parameters that are not as many values as it says aren't read back
abbrev pub bind_law : BindFields → Law
bind_law b = record {
  format = formats.Bind;
  form = plain;
  body = bind_body b;
  count_fault = bind_count_fault b;
  room_for = saturated;
  IsInRange = IsBindInRange b;
  Reads = λ bytes. ReadsBind bytes b;
  CanRoundTrip = Values b.num_params b.params [];
  round_trip_fault = Some BadParams;
}

abbrev pub bind_fields : Bind → BindFields
bind_fields b = record {
  portal = b.portal;
  statement = b.statement;
  formats = format_codes b.formats.now;
  num_params = b.num_params;
  params = b.params.now;
  result_formats = format_codes b.result_formats.now;
}
