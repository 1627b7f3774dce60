-- The fields of a message whose transaction may be streamed.
use Rattle.std.specs.Prelude.{ℕ, Bool, true, false, List, Some, None}
use Rattle.std.proofs.Common.{◌≡◌, refl, inl, inr}
use Rattle.pg_base.specs.declared.error.ProtocolFault.{ProtocolFault}
use Rattle.pg_format.specs.Format.{Format}
use Rattle.pg_format.specs.Format.Ends.{exactly}
use Rattle.pg_format.specs.Format.Parts.{be_u32}
use Rattle.pg_format.specs.Format.Sequences.{◌⨾◌}
use Rattle.pg_format.specs.Logical.{transaction}

module _ {V : Type 0} (g : Format V) (len : ℕ) (bytes : List ℕ) (fault : ProtocolFault) where
  -- where a number and the fields can't be read, neither can the number of a streamed transaction and the fields
  pub streamed_breaks : (streamed : Bool) → streamed ≡ true → (exactly (be_u32 ⨾ g)).Breaks len bytes fault → (exactly (transaction streamed ⨾ g)).Breaks len bytes fault
  streamed_breaks false e p = absurd (cc e)
  streamed_breaks true e (inl (inl p)) = inl (inl p)
  streamed_breaks true e (inl (inr p)) = inl (inr (record { value = Some p.value; mid = p.mid; reads = (p.value, p.reads, refl); breaks = p.breaks }))
  streamed_breaks true e (inr p) =
      inr (record {
        value = (Some p.value.0, p.value.1);
        mid = p.mid;
        reads = record { mid = p.reads.mid; first = (p.value.0, p.reads.first, refl); second = p.reads.second };
        breaks = p.breaks;
      })

  -- and where the fields alone can't be read, those of a transaction that isn't streamed can't
  pub whole_breaks : (streamed : Bool) → streamed ≡ false → (exactly g).Breaks len bytes fault → (exactly (transaction streamed ⨾ g)).Breaks len bytes fault
  whole_breaks true e p = absurd (cc e)
  whole_breaks false e (inl p) = inl (inr (record { value = None; mid = bytes; reads = (refl, refl); breaks = p }))
  whole_breaks false e (inr p) = inr (record { value = (None, p.value); mid = p.mid; reads = record { mid = bytes; first = (refl, refl); second = p.reads }; breaks = p.breaks })
