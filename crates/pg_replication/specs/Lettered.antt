-- What a reader of messages that begin with a letter answers.
use Rattle.std.specs.Prelude.{◌≡◌, ◌≢◌, ℕ, List, length, drop, Result, Ok, Err, MatchResult, ◌⊎◌}
use Rattle.pg_base.specs.declared.error.ProtocolFault.{ProtocolFault}
use Rattle.pg_base.specs.declared.error.ProtocolFault.TheVariants.{UnknownMessageType, BodyTooLong}
use Rattle.pg_base.specs.Error.{IsShort}
use Rattle.pg_format.specs.Format.{Format}
use Rattle.pg_format.specs.Format.Parts.{be_u8}
use Rattle.pg_format.specs.Format.Places.{ReadsAfter}

-- what follows the letter is read by its line to a value of this case, or has a fault
pub record Reads {M A V : Type 0} (case : A → M) (line : Format V) (shown : A → V) (message : List ℕ) (result : Result M ProtocolFault) : Type 0 where
  pub answer : Result A ProtocolFault
  pub reads : ReadsAfter line shown message 1 answer
  pub is : MatchResult answer (λ value. result ≡ Ok (case value)) (λ fault. result ≡ Err fault)

-- the kind whose letter stands at the front, and what is read as it
pub record ReadsKnown {K M : Type 0} (letter : K → ℕ) (ReadsKind : K → List ℕ → Result M ProtocolFault → Type 0) (message : List ℕ) (result : Result M ProtocolFault) : Type 0 where
  pub kind : K
  pub lettered : be_u8.Reads message (letter kind) (drop 1 message)
  pub reads : ReadsKind kind message result

-- no kind has the letter at the front
pub record IsUnknown {K M : Type 0} (letter : K → ℕ) (message : List ℕ) (result : Result M ProtocolFault) : Type 0 where
  pub letter_there : ℕ
  pub stands : be_u8.Reads message letter_there (drop 1 message)
  pub none : (kind : K) → letter kind ≢ letter_there
  pub is : result ≡ Err (UnknownMessageType letter_there)

-- no letter is there
pub record LacksLetter {M : Type 0} (message : List ℕ) (result : Result M ProtocolFault) : Type 0 where
  pub fault : ProtocolFault
  pub short : IsShort message 0 1 fault
  pub is : result ≡ Err fault

abbrev pub ReadsLettered : {K M : Type 0} → (K → ℕ) → (K → List ℕ → Result M ProtocolFault → Type 0) → List ℕ → Result M ProtocolFault → Type 0
ReadsLettered letter ReadsKind message result = ReadsKnown letter ReadsKind message result ⊎ (IsUnknown letter message result ⊎ LacksLetter message result)

-- refused for its length
abbrev pub IsTooLong : {M : Type 0} → List ℕ → Result M ProtocolFault → Type 0
IsTooLong message result = result ≡ Err (BodyTooLong (length message))
