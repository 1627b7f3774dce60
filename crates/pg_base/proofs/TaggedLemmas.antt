-- What has no fault has a length that its field can say, and its frame is one message.
use Rattle.std.proofs.Common.{◌≡◌, ℕ, ◌+◌, ◌≤◌, Bool, true, false, cond, List, [], ◌∷◌, ◌++◌, length, Option, Some, None, Ok, refl, arith, rules, leb, Vec, Global, vec_capacity}
use Rattle.std.proofs.lemmas.Bool.{leb-true, le-leb}
use Rattle.std.proofs.lemmas.List.{append-nil}
use Rattle.pg_base.specs.declared.error.ProtocolFault.{ProtocolFault}
use Rattle.pg_base.specs.declared.error.ProtocolFault.TheVariants.{MessageTooLong}
use Rattle.pg_base.specs.Cutting.{max_length, frame, IsCutInto}
use Rattle.pg_base.specs.Encode.{EncodesFrame}
use Rattle.pg_base.specs.Part.{saturated}
use Rattle.pg_base.specs.Tagged.{first_fault, checked_len}
use Rattle.pg_base.proofs.CuttingLemmas.{cut_frame, is_cut_into}

-- a test that let a length pass
pub passed : (b : Bool) (fault : ProtocolFault) → cond b None (Some fault) ≡ None → b ≡ true
passed true fault e = refl
passed false fault e = absurd cc

pub len_fits : (fault : Option ProtocolFault) (len : ℕ) → first_fault fault len ≡ None → 4 + len ≤ max_length
len_fits (Some fault) len e = absurd (let clash : Some fault ≡ None = e in cc)
len_fits None len e = omega (arith, leb-true (len + 4) max_length (passed (leb (len + 4) max_length) (MessageTooLong (saturated (len + 4))) e))

-- what was given a length has no fault
pub no_fault : (fault : Option ProtocolFault) (real len : ℕ) → checked_len fault real ≡ Ok len → fault ≡ None
no_fault None real len e = refl
no_fault (Some fault) real len e = absurd cc

-- and none in its parts
pub no_part_fault : (own : Option ProtocolFault) (len : ℕ) → first_fault own len ≡ None → own ≡ None
no_part_fault None len e = refl
no_part_fault (Some f) len e = absurd (let clash : Some f ≡ None = e in cc)

-- the frame of a body that fits is one message and nothing else
pub one_frame : (tag : ℕ) (body : List ℕ) → 4 + length body ≤ max_length → IsCutInto (frame tag body) ((tag, body) ∷ [])
one_frame tag body fits = is_cut_into (frame tag body) ((tag, body) ∷ []) (rw append-nil at (cut_frame tag body [] [] fits refl))

-- a message within the limits that was added in room that was there
pub put_within : (fault : Option ProtocolFault) (tag hint : ℕ) (body : List ℕ) (old new : Vec ℕ Global) → fault ≡ None → 4 + length body ≤ max_length → new.items ≡ old.items ++ frame tag body → vec_capacity old ≤ vec_capacity new
    → EncodesFrame tag body (first_fault fault (length body)) hint old new (Ok tt)
put_within (Some fault) tag hint body old new e fits adds grows = absurd (let clash : Some fault ≡ None = e in cc)
put_within None tag hint body old new e fits adds grows =
    rw (le-leb (length body + 4) max_length (omega (arith, fits)))
    (record { encodes = search rules; cut = one_frame tag body fits })
