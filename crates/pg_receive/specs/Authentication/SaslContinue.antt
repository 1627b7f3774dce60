-- The challenge of a server in a SASL exchange. Documentation: "Message Formats",
-- AuthenticationSASLContinue (B), and "SCRAM-SHA-256 Authentication".
use Rattle.std.specs.Prelude.{◌≡◌, ℕ, List, [], ◌∷◌, None, length, unwrap_or}
use Rattle.pg_format.specs.Format.{Format, Lawful, IsBroken}
use Rattle.pg_format.specs.Format.Parts.{remaining}
use Rattle.pg_format.specs.Format.Sequences.{viewed}
use Rattle.pg_format.specs.Format.Tests.{checked}
use Rattle.pg_format.specs.Keyed.{plain, last}
use Rattle.pg_format.specs.Sasl.{salt_key, nonce_key, items_in, keyed, first_message_fault, item_fault}
use Rattle.pg_format.proofs.FormatLaws.Parts.{lawful_remaining}
use Rattle.pg_format.proofs.FormatLaws.Sequences.{lawful_viewed}
use Rattle.pg_format.proofs.FormatLaws.Tests.{lawful_checked}
use Rattle.pg_receive.specs.declared.message.authentication.sasl_continue.Challenge.{Challenge}
use Rattle.pg_receive.specs.Decimal.{leading_decimal}
use Rattle.pg_receive.specs.Authentication.SaslItems.{base64_value}

abbrev pub iterations_key : ℕ
iterations_key = 105

abbrev pub default_iterations : ℕ
default_iterations = 4096

abbrev pub greatest_iterations : ℕ
greatest_iterations = 4294967295

abbrev pub iterations_of : List ℕ → ℕ
iterations_of value = unwrap_or (leading_decimal greatest_iterations value) default_iterations

-- the message is the whole data
pub record ContinueValue : Type 0 where
  pub salt : List ℕ
  pub iterations : ℕ
  pub nonce : List ℕ
  pub message : List ℕ

abbrev pub nonce_of : List (ℕ × List ℕ) → List ℕ
nonce_of pairs = last plain [] nonce_key pairs

abbrev pub challenge_in : List ℕ → ContinueValue
challenge_in bytes = record {
  salt = last base64_value [] salt_key (keyed (items_in bytes));
  iterations = last iterations_of default_iterations iterations_key (keyed (items_in bytes));
  nonce = nonce_of (keyed (items_in bytes));
  message = bytes;
}

-- what the data of an AuthenticationSASLContinue says
abbrev pub challenges : Format ContinueValue
challenges = viewed challenge_in (checked first_message_fault remaining)

pub lawful_challenges : Lawful challenges
lawful_challenges = lawful_viewed challenge_in (lawful_checked first_message_fault lawful_remaining)

-- data with a fault is refused before a part of it is copied
abbrev pub ChallengeNeedsNoMemory : List ℕ → Type 0
ChallengeNeedsNoMemory bytes = IsBroken challenges (length bytes) bytes

-- an item without a fault is taken in: its value counts for its key, and for other keys what counted before
pub record TakesItem (item : List ℕ) (old new : Challenge) : Type 0 where
  pub clean : item_fault salt_key item ≡ None
  pub salt : new.salt ≡ last base64_value old.salt salt_key (keyed (item ∷ []))
  pub iterations : new.iterations ≡ last iterations_of old.iterations iterations_key (keyed (item ∷ []))
  pub nonce : new.nonce.now ≡ last plain old.nonce.now nonce_key (keyed (item ∷ []))
