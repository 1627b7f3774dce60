-- What a Describe or a Close names: a prepared statement or a portal.
use Rattle.std.specs.Prelude.{◌≡◌, ◌≤◌, ℕ, Bool, List, [], ◌∷◌, None, if◌then◌else◌}
use Rattle.pg_base.specs.declared.format.FrontendMessageFormat.{FrontendMessageFormat}
use Rattle.pg_base.specs.declared.format.FrontendMessageFormat.TheVariants as formats
use Rattle.pg_base.specs.Id.{name, statement_prefix, portal_prefix, max_id}
use Rattle.pg_base.specs.Reading.{Text, StatementName, PortalName}
use Rattle.pg_format.specs.Messages as page
use Rattle.pg_base.specs.Part.{saturated}
use Rattle.pg_send.specs.declared.message.target.TargetOf.{TargetOf}
use Rattle.pg_send.specs.declared.message.target.TargetOf.TheVariants as message
use Rattle.pg_send.specs.FrontendMessage.{Law, plain}

pub data Target : Type 0 where
  Statement : ℕ → Target
  Portal : ℕ → Target

-- what the page means by it
abbrev pub target_value : Target → page.Targeted
target_value (Statement id) = record { target = page.statement; name = name statement_prefix id }
target_value (Portal id) = record { target = page.portal; name = name portal_prefix id }

-- its letter, S or P, and its name
abbrev pub target_body : Target → List ℕ
target_body target = page.targeted.Writes (target_value target)

-- the id is in its range
abbrev pub IsTargetInRange : Target → Type 0
IsTargetInRange (Statement id) = id ≤ max_id
IsTargetInRange (Portal id) = id ≤ max_id

-- a letter, and after it a name of this kind
pub record ReadsName (body : List ℕ) (letter : ℕ) (Names : List ℕ → ℕ → Type 0) (id : ℕ) : Type 0 where
  pub name : List ℕ
  pub after : List ℕ
  pub begins : body ≡ letter ∷ after
  pub text : Text after name []
  pub is : Names name id

-- a reader takes the letter and the name
abbrev pub ReadsTarget : List ℕ → Target → Type 0
ReadsTarget body (Statement id) = ReadsName body 83 StatementName id
ReadsTarget body (Portal id) = ReadsName body 80 PortalName id

-- a message that names a target
abbrev pub target_law : FrontendMessageFormat → Target → Law
target_law format target = record {
  format = format;
  form = plain;
  body = target_body target;
  count_fault = None;
  room_for = saturated;
  IsInRange = IsTargetInRange target;
  Reads = λ bytes. ReadsTarget bytes target;
  CanRoundTrip = Unit {0};
  round_trip_fault = None;
}

abbrev pub close_law : Target → Law
close_law target = target_law formats.Close target

abbrev pub describe_law : Target → Law
describe_law target = target_law formats.Describe target

abbrev pub close_or_describe_law : Bool → Target → Law
close_or_describe_law closes target = target_law (if closes then formats.Close else formats.Describe) target

abbrev pub target_of : {closes : ℕ} → TargetOf closes → Target
target_of (message.Statement id) = Statement id
target_of (message.Portal id) = Portal id
