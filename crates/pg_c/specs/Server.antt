-- What a call that writes a message to a client into the caller's room answers, as a number of C's
-- `ptrdiff_t`.
pub mod Authentication
pub mod Letters
pub mod Lists
pub mod Messages
use Rattle.std.specs.Prelude.{◌≡◌, ◌≢◌, ◌≤◌, ℕ, ℤ, pos, List, length, Result, Ok, Err, IfOk}
use Rattle.pg_base.specs.declared.error.ProtocolFault.{ProtocolFault}
use Rattle.pg_base.specs.declared.error.ProtocolFault.TheVariants.{UnknownMessageType}
use Rattle.pg_server.specs.Backend.OutboundMessage.{IsWritten}
use Rattle.pg_server.specs.Backend.Message.{Message, law_of, IsRead}
use Rattle.pg_c.specs.Put.{IsRefused}
use Rattle.pg_c.specs.Refusal.{fault_number}

abbrev pub number_of_answer : Result ℕ ProtocolFault → ℤ
number_of_answer (Ok len) = pos len
number_of_answer (Err fault) = fault_number fault

-- the length of the message, which is given where the room is that long; or the number of its first
-- fault, and the room is as it was; what was given is read back as what the message says
pub record PutsServerMessage (m : Message) (old new : List ℕ) (result : ℤ) : Type 0 where
  pub answer : Result ℕ ProtocolFault
  pub is : IsWritten (law_of m) old new answer
  pub number : result ≡ number_of_answer answer
  pub read : IfOk answer (λ len. len ≤ length old → IsRead m)

-- the message of the kind with this letter is put; a letter of no kind is refused
pub record PutsByLetter {K : Type 0} (letter_of : K → ℕ) (message : K → Message) (fault : ProtocolFault) (letter : ℕ) (old new : List ℕ) (result : ℤ) : Type 0 where
  pub known : (kind : K) → letter_of kind ≡ letter → PutsServerMessage (message kind) old new result
  pub unknown : ((kind : K) → letter_of kind ≢ letter) → IsRefused fault old new result

-- the same where the letter is the tag of the message
abbrev pub PutsByTag : {K : Type 0} → (K → ℕ) → (K → Message) → ℕ → List ℕ → List ℕ → ℤ → Type 0
PutsByTag letter_of message tag old new result = PutsByLetter letter_of message (UnknownMessageType tag) tag old new result
