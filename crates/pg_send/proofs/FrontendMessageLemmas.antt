-- What is within the limits has a length that its field can say.
use Rattle.std.proofs.Common.{◌≡◌, ℕ, List, [], ◌∷◌, length, Option, Some, None, Ok, refl}
use Rattle.pg_base.specs.declared.error.ProtocolFault.{ProtocolFault}
use Rattle.pg_base.specs.Encode.{IsAnswer}
use Rattle.pg_base.specs.Cutting.{frame, IsCutInto}
use Rattle.pg_base.specs.Tagged.{first_fault}
use Rattle.pg_base.proofs.TaggedLemmas.{len_fits, one_frame}
use Rattle.pg_send.specs.FrontendMessage.{checked_len}

no_fault : (fault : Option ProtocolFault) (real len : ℕ) → checked_len fault real ≡ Ok len → fault ≡ None
no_fault None real len e = refl
no_fault (Some fault) real len e = absurd cc

-- the frame of a message whose length was checked is one message and nothing else
pub frame_is_cut : (fault : Option ProtocolFault) (tag : ℕ) (body : List ℕ) (len : ℕ) → checked_len (first_fault fault (length body)) (length body) ≡ Ok len → IsCutInto (frame tag body) ((tag, body) ∷ [])
frame_is_cut fault tag body len e = one_frame tag body (len_fits fault (length body) (no_fault (first_fault fault (length body)) (length body) len e))

-- an accepted message breaks no limit
pub accepted_fits : (o : Option ProtocolFault) (u : Unit {0}) → IsAnswer o (Ok u) → o ≡ None
accepted_fits None u h = refl
accepted_fits (Some f) u h = absurd cc
