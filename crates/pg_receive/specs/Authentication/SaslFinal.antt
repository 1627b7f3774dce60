-- The server-final-message of a SASL exchange. Documentation: "Message Formats",
-- AuthenticationSASLFinal (B), and "SCRAM-SHA-256 Authentication".
use Rattle.std.specs.Prelude.{◌≡◌, ℕ, List, []}
use Rattle.pg_format.specs.Format.{Format, Lawful, Means}
use Rattle.pg_format.specs.Format.Parts.{remaining}
use Rattle.pg_format.specs.Format.Sequences.{viewed}
use Rattle.pg_format.specs.Format.Tests.{checked}
use Rattle.pg_format.specs.Keyed.{last}
use Rattle.pg_format.specs.Sasl.{verifier_key, items_in, keyed, final_message_fault}
use Rattle.pg_format.proofs.FormatLaws.Parts.{lawful_remaining}
use Rattle.pg_format.proofs.FormatLaws.Sequences.{lawful_viewed}
use Rattle.pg_format.proofs.FormatLaws.Tests.{lawful_checked}
use Rattle.pg_receive.specs.Authentication.SaslItems.{base64_value}

abbrev pub verifier_in : List ℕ → List ℕ
verifier_in bytes = last base64_value [] verifier_key (keyed (items_in bytes))

-- what the data of an AuthenticationSASLFinal says
abbrev pub verifiers : Format (List ℕ)
verifiers = viewed verifier_in (checked final_message_fault remaining)

pub lawful_verifiers : Lawful verifiers
lawful_verifiers = lawful_viewed verifier_in (lawful_checked final_message_fault lawful_remaining)

-- memory is needed for the bytes of a verifier alone
abbrev pub VerifierNeedsNoMemory : List ℕ → Type 0
VerifierNeedsNoMemory bytes = (verifier : List ℕ) → Means verifiers bytes verifier → verifier ≡ []
