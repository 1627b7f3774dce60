-- What a call that writes a message into the caller's room answers, as a number of C's `ptrdiff_t`.
pub mod Copy
pub mod NoBody
pub mod Session
pub mod Startup
pub mod Values
use Rattle.std.specs.Prelude.{◌≡◌, ◌⊎◌, ℕ, ℤ, pos, List, length, Option, Some, None, MatchOption, Result, Ok, Err}
use Rattle.pg_base.specs.Sink.{IsGiven}
use Rattle.pg_base.specs.declared.error.Error.{Error}
use Rattle.pg_base.specs.declared.error.Error.TheVariants.{Protocol, OutOfMemory}
use Rattle.pg_base.specs.declared.error.ProtocolFault.{ProtocolFault}
use Rattle.pg_send.specs.FrontendMessage.{Law, CannotRoundTrip, fault, text}
use Rattle.pg_send.specs.Message.{Message, law_of}
use Rattle.pg_c.specs.Refusal.{fault_number, refusal_number}

-- the message breaks no limit, and a reader gets it back
abbrev pub IsSound : Law → Type 0
IsSound law = (fault law ≡ None) × law.CanRoundTrip

-- it breaks this limit first; or it breaks none, and a reader wouldn't get it back
abbrev pub IsDue : Law → Error → Type 0
IsDue law (Protocol reading why) = (reading ≡ None) × ((fault law ≡ Some why) ⊎ ((fault law ≡ None) × CannotRoundTrip law why))
IsDue law OutOfMemory = ⊥

-- the length of the message, which is given where it is sound; or the refusal that is due, and the room is as it was
abbrev pub IsWritten : Law → Result ℕ Error → List ℕ → List ℕ → Type 0
IsWritten law (Ok len) old new = IsSound law × (len ≡ length (text law)) × IsGiven (text law) old new
IsWritten law (Err error) old new = IsDue law error × (new ≡ old)

abbrev pub number_of_answer : Result ℕ Error → ℤ
number_of_answer (Ok len) = pos len
number_of_answer (Err error) = refusal_number error

-- the message of a law is put, or refused exactly where it has to be: memory doesn't run out
pub record PutsLaw (law : Law) (old new : List ℕ) (result : ℤ) : Type 0 where
  pub answer : Result ℕ Error
  pub is : IsWritten law answer old new
  pub number : result ≡ number_of_answer answer

abbrev pub PutsMessage : Message → List ℕ → List ℕ → ℤ → Type 0
PutsMessage m old new result = PutsLaw (law_of m) old new result

-- refused by that number, and what was to be written is as it was
abbrev pub IsRefusedBy : ℤ → List ℕ → List ℕ → ℤ → Type 0
IsRefusedBy number old new result = (result ≡ number) × (new ≡ old)

-- refused for that fault
abbrev pub IsRefused : ProtocolFault → List ℕ → List ℕ → ℤ → Type 0
IsRefused fault old new result = IsRefusedBy (fault_number fault) old new result

-- the text of a message without a tag is put, or refused for its fault
abbrev pub PutsText : List ℕ → Option ProtocolFault → List ℕ → List ℕ → ℤ → Type 0
PutsText text fault old new result = MatchOption fault ((result ≡ pos (length text)) × IsGiven text old new) (λ f. IsRefused f old new result)
