-- What an authentication request says to a client: of SASL data, what its items say.
pub mod Any
pub mod Base64Bytes
pub mod Mechanisms
pub mod Raw
pub mod SaslContinue
pub mod SaslFinal
pub mod SaslItems
pub mod Shown
use Rattle.std.specs.Prelude.{◌≢◌, ℕ, List, []}
use Rattle.pg_format.specs.Format.{Format, Means}
use Rattle.pg_format.specs.Format.Sequences.{viewed}
use Rattle.pg_format.specs.Messages as page
use Rattle.pg_receive.specs.Authentication.SaslContinue.{ContinueValue, challenge_in}
use Rattle.pg_receive.specs.Authentication.SaslFinal.{verifier_in}

pub data AuthenticationValue : Type 0 where
  accepted : AuthenticationValue
  cleartext_password : AuthenticationValue
  md5_password : List ℕ → AuthenticationValue
  sasl : List (List ℕ) → AuthenticationValue
  sasl_continue : ContinueValue → AuthenticationValue
  sasl_final : List ℕ → AuthenticationValue

abbrev pub value_of : page.Authentication → AuthenticationValue
value_of page.ok = accepted
value_of page.cleartext_password = cleartext_password
value_of (page.md5_password salt) = md5_password salt
value_of (page.sasl names) = sasl names
value_of (page.sasl_continue message) = sasl_continue (challenge_in message)
value_of (page.sasl_final message) = sasl_final (verifier_in message)

abbrev pub requests : Format AuthenticationValue
requests = viewed value_of page.authentication

-- the number of the method
abbrev pub method_of : AuthenticationValue → ℕ
method_of accepted = 0
method_of cleartext_password = 3
method_of (md5_password salt) = 5
method_of (sasl names) = 10
method_of (sasl_continue challenge) = 11
method_of (sasl_final verifier) = 12

-- a challenge is copied, and the bytes of a verifier, and nothing else
abbrev pub IsCopied : AuthenticationValue → Type 0
IsCopied accepted = ⊥
IsCopied cleartext_password = ⊥
IsCopied (md5_password salt) = ⊥
IsCopied (sasl names) = ⊥
IsCopied (sasl_continue challenge) = Unit {0}
IsCopied (sasl_final verifier) = verifier ≢ []

abbrev pub RequestNeedsNoMemory : List ℕ → Type 0
RequestNeedsNoMemory body = (value : AuthenticationValue) → Means requests body value → ¬ IsCopied value
