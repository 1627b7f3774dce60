-- What a client's stream that comes in pieces is read into.
use Rattle.std.specs.Prelude.{◌≡◌, ℕ, List, [], ◌∷◌, length, map, Vec}
use Rattle.std.specs.declared.alloc.Global.{Global}
use Rattle.pg_frames.specs.declared.frontend.frame.Expects.{Expects}
use Rattle.pg_frames.specs.declared.frontend.frame.Expects.TheVariants.{First}
use Rattle.pg_frames.specs.declared.frontend.message.ClientMessage.{ClientMessage}
use Rattle.pg_frames.specs.declared.frontend.message.ClientMessageKind.{ClientMessageKind}
use Rattle.pg_frames.specs.declared.frontend.pieces.ClientStreamEnd.{ClientStreamEnd}
use Rattle.pg_frames.specs.declared.frontend.pieces.ClientStreamEnd.TheVariants.{Rest, Fault}
use Rattle.pg_frames.specs.Frontend.Frame.{BeginsWith, WantsMore, IsStreamFault}
use Rattle.pg_frames.specs.Frontend.Reader.{Reading}

-- messages, each as its kind and its body
abbrev pub kinds_and_bodies : List ClientMessage → List (ClientMessageKind × List ℕ)
kinds_and_bodies messages = map (λ (message : ClientMessage). (message.kind, message.contents)) messages

-- where this is expected, the bytes are these messages one after the other, and then the rest, where that is
abbrev pub Stream : ℕ → Expects → List ℕ → List (ClientMessageKind × List ℕ) → Expects → List ℕ → Type 0
Stream limit state bytes [] last rest = (state ≡ last) × (bytes ≡ rest)
Stream limit state bytes (message ∷ more) last rest =
    (next : Expects) × (after : List ℕ) × BeginsWith limit state bytes message.0 message.1 after next × Stream limit next after more last rest

-- why no more messages come: so many bytes that are no whole one, or a fault
abbrev pub IsEnd : ℕ → Expects → List ℕ → ClientStreamEnd → Type 0
IsEnd limit state rest (Rest count) = (count ≡ length rest) × WantsMore limit state rest
IsEnd limit state rest (Fault fault) = IsStreamFault limit state rest fault

-- all messages that stand whole in the bytes of a connection, and why it is no more
pub record IsRead (limit : ℕ) (bytes : List ℕ) (messages : List (ClientMessageKind × List ℕ)) (end : ClientStreamEnd) : Type 0 where
  pub state : Expects
  pub rest : List ℕ
  pub stream : Stream limit First bytes messages state rest
  pub ends : IsEnd limit state rest end

-- a reading takes these messages, and is that one then
pub record TakesMany (old : Reading) (messages : List (ClientMessageKind × List ℕ)) (new : Reading) : Type 0 where
  pub limit : new.limit ≡ old.limit
  pub stream : Stream old.limit old.expects old.bytes messages new.expects new.bytes

-- whatever stream the messages were, and then the rest, they and the rest are still
abbrev pub ClientReadsOn : Vec ClientMessage Global → Vec ClientMessage Global → Reading → Reading → Type 0
ClientReadsOn old new before after =
    (state : Expects) (bytes : List ℕ) → Stream before.limit state bytes (kinds_and_bodies old.items) before.expects before.bytes
    → Stream before.limit state bytes (kinds_and_bodies new.items) after.expects after.bytes
