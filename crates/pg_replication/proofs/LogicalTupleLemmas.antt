-- What stands after a letter.
use Rattle.std.specs.Prelude.{◌≡◌, ◌≢◌, ℕ, ◌+◌, ◌≤◌, List, [], ◌∷◌, ◌++◌, length, drop, Result, Ok, Err}
use Rattle.std.proofs.Common.{refl, ap, ◌∙◌, arith, length-drop}
use Rattle.std.proofs.lemmas.Bool.{eq-eqb, ne_eqb}
use Rattle.pg_base.specs.declared.error.ProtocolFault.{ProtocolFault}
use Rattle.pg_base.specs.declared.error.ProtocolFault.TheVariants.{UnknownLetter}
use Rattle.pg_base.specs.Numbers.{num}
use Rattle.pg_base.specs.Reading.{BeginsWith, Number}
use Rattle.pg_format.specs.Format.{Format}
use Rattle.pg_format.specs.Format.Parts.{be_u8}
use Rattle.pg_format.specs.Format.Places.{IsReadAt, BreaksAt, ReadsAt}
use Rattle.pg_format.specs.Format.Sequences.{dep_pair, mapped}
use Rattle.pg_format.specs.Replication.{letter}

-- a letter, and what stands after it
pub lettered_reads : {I A : Type 0} (by : ℕ → Format A) (back : A → ℕ × A) (shown : I → A) (body : List ℕ) (at byte : ℕ) (result : Result (I × ℕ) ProtocolFault) → Number 1 (drop at body) byte (drop (at + 1) body)
    → ReadsAt (by byte) shown body (at + 1) result → ReadsAt (mapped (λ v. v.1) back (dep_pair be_u8 by)) shown body at result
lettered_reads by back shown body at byte (Err fault) p q = tt
lettered_reads by back shown body at byte (Ok found) p q =
    record { within = q.within; reads = ((byte, shown found.0), record { mid = drop (at + 1) body; first = p; second = q.reads }, refl) }

one_byte : (spelled : List ℕ) (n : ℕ) → length spelled ≡ 1 → n ≡ num spelled → spelled ≡ n ∷ []
one_byte [] n wide is = absurd (omega (arith, wide))
one_byte (b ∷ []) n wide is = let same : b ≡ n = omega (arith, is) in ap (λ (k : ℕ). k ∷ []) same
one_byte (b ∷ c ∷ more) n wide is = absurd (omega (arith, wide))

-- a number of one byte is the byte
pub byte_first : (bytes : List ℕ) (byte : ℕ) (rest : List ℕ) → Number 1 bytes byte rest → bytes ≡ byte ∷ rest
byte_first bytes byte rest p = p.parts ∙ ap (λ (l : List ℕ). l ++ rest) (one_byte p.spelled byte p.wide p.is)

-- this letter, and another one
pub letter_stands : (own byte : ℕ) (body : List ℕ) (at : ℕ) → byte ≡ own → at ≤ length body → Number 1 (drop at body) byte (drop (at + 1) body) → IsReadAt (letter own) body at tt (at + 1)
letter_stands own byte body at same within p =
    let front = byte_first (drop at body) byte (drop (at + 1) body) p in
    record {
      within = omega (arith, within, ap length front, length-drop at body, length-drop (at + 1) body);
      reads = (byte, front, rw same (rw (eq-eqb own own refl) refl));
    }

pub letter_breaks : (own byte : ℕ) (body : List ℕ) (at : ℕ) → byte ≢ own → Number 1 (drop at body) byte (drop (at + 1) body) → BreaksAt (letter own) body at (UnknownLetter byte)
letter_breaks own byte body at other p =
    let front = byte_first (drop at body) byte (drop (at + 1) body) p in
    rw front (rw (ne_eqb byte own other) refl, refl)

-- ---- what stands unless another byte does

pub begins : (own byte : ℕ) (body : List ℕ) (at : ℕ) → byte ≡ own → Number 1 (drop at body) byte (drop (at + 1) body) → BeginsWith own (drop at body)
begins own byte body at same p = rw (byte_first (drop at body) byte (drop (at + 1) body) p) same

pub begins_not : (own byte : ℕ) (body : List ℕ) (at : ℕ) → byte ≢ own → Number 1 (drop at body) byte (drop (at + 1) body) → ¬ (BeginsWith own (drop at body))
begins_not own byte body at other p = rw (byte_first (drop at body) byte (drop (at + 1) body) p) other
