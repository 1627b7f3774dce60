-- Execute: runs a portal. Documentation: "Message Formats", Execute (F).
use Rattle.std.specs.Prelude.{ℕ, ◌^◌, ◌<◌, ◌≤◌, List, [], None}
use Rattle.pg_base.specs.declared.format.FrontendMessageFormat.TheVariants as formats
use Rattle.pg_base.specs.Id.{name, portal_prefix, max_id}
use Rattle.pg_base.specs.Reading.{Text, PortalName, Number}
use Rattle.pg_format.specs.Messages as page
use Rattle.pg_send.specs.declared.message.execute.Execute.{Execute}
use Rattle.pg_base.specs.Part.{saturated}
use Rattle.pg_send.specs.FrontendMessage.{Law, plain}

pub record ExecuteFields : Type 0 where
  pub portal : ℕ
  pub limit : ℕ

-- what the page means by it
abbrev pub execute_value : ExecuteFields → page.Execute
execute_value e = record { portal = name portal_prefix e.portal; limit = e.limit }

-- the portal's name and the limit
abbrev pub execute_body : ExecuteFields → List ℕ
execute_body e = page.execute.Writes (execute_value e)

-- both numbers are in their ranges
pub record IsExecuteInRange (e : ExecuteFields) : Type 0 where
  pub portal : e.portal ≤ max_id
  pub limit : e.limit < 2 ^ 32

-- a reader takes the portal's name and the limit
pub record ReadsExecute (body : List ℕ) (e : ExecuteFields) : Type 0 where
  pub name : List ℕ
  pub after_name : List ℕ
  pub first : Text body name after_name
  pub portal : PortalName name e.portal
  pub limit : Number 4 after_name e.limit []

abbrev pub execute_law : ExecuteFields → Law
execute_law e = record {
  format = formats.Execute;
  form = plain;
  body = execute_body e;
  count_fault = None;
  room_for = saturated;
  IsInRange = IsExecuteInRange e;
  Reads = λ bytes. ReadsExecute bytes e;
  CanRoundTrip = Unit {0};
  round_trip_fault = None;
}

abbrev pub execute_fields : Execute → ExecuteFields
execute_fields e = record { portal = e.portal; limit = e.limit }
