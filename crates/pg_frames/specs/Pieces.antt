-- What a stream that comes in pieces is read into.
use Rattle.std.specs.Prelude.{◌≡◌, ℕ, List, [], ◌∷◌, ◌++◌, length, map, Vec}
use Rattle.std.specs.declared.alloc.Global.{Global}
use Rattle.std.specs.Borrow.{Bor}
use Rattle.pg_base.specs.Format.{backend_tag}
use Rattle.pg_format.specs.declared.received.ReceivedMessage.{ReceivedMessage}
use Rattle.pg_frames.specs.Stream.{Stream, WantsMore, IsStreamFault}
use Rattle.pg_frames.specs.declared.pieces.StreamEnd.{StreamEnd}
use Rattle.pg_frames.specs.declared.pieces.StreamEnd.TheVariants.{Rest, Fault}

-- the pieces, one after the other
abbrev pub joined : List (Bor (List ℕ)) → List ℕ
joined [] = []
joined (piece ∷ more) = piece.now ++ joined more

-- messages, each as its tag and its body
abbrev pub tags_and_bodies : List ReceivedMessage → List (ℕ × List ℕ)
tags_and_bodies messages = map (λ (message : ReceivedMessage). (backend_tag message.format, message.contents)) messages

-- why no more messages come: so many bytes that are no whole one, or a fault
abbrev pub IsEnd : List ℕ → StreamEnd → Type 0
IsEnd rest (Rest count) = (count ≡ length rest) × WantsMore rest
IsEnd rest (Fault fault) = IsStreamFault rest fault

-- all messages that stand whole in the bytes, and why it is no more
pub record IsRead (bytes : List ℕ) (messages : List (ℕ × List ℕ)) (end : StreamEnd) : Type 0 where
  pub rest : List ℕ
  pub stream : Stream bytes messages rest
  pub ends : IsEnd rest end

-- the pieces, when joined, are read into these messages and this end
abbrev pub ReadsPieces : {A M E : Type 0} → (List A → List M) → (List ℕ → List M → E → Type 0) → List (Bor (List ℕ)) → (Vec A Global × E) → Type 0
ReadsPieces shown Reads pieces read = Reads (joined pieces) (shown read.0.items) read.1

-- whatever stream the messages were, and then the rest, they and the rest are still
abbrev pub ReadsOn : Vec ReceivedMessage Global → Vec ReceivedMessage Global → List ℕ → List ℕ → Type 0
ReadsOn old new before after = (bytes : List ℕ) → Stream bytes (tags_and_bodies old.items) before → Stream bytes (tags_and_bodies new.items) after
