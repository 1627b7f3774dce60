-- Equal bytes are read as one value, and leave one rest.
use Rattle.std.proofs.Common.{◌≡◌, ◌≢◌, ℕ, suc, ◌+◌, ◌<◌, ℤ, List, [], ◌∷◌, ◌++◌, length, get_or, refl, sym, ap, ◌∙◌, arith, length-append}
use Rattle.pg_base.specs.Numbers.{num, int}
use Rattle.pg_base.specs.Reading.{Number, Signed, HoldsNo, Text}
use Rattle.pg_base.proofs.CuttingLemmas.{parts_at}

pub one_number : (width : ℕ) (bytes : List ℕ) (m n : ℕ) (x y : List ℕ) → Number width bytes m x → Number width bytes n y → (m ≡ n) × (x ≡ y)
one_number width bytes m n x y p q =
    let both = parts_at p.spelled q.spelled x y (p.wide ∙ sym q.wide) (sym p.parts ∙ q.parts) in
    (p.is ∙ ap num both.0 ∙ sym q.is, both.1)

pub one_signed : (width : ℕ) (bytes : List ℕ) (a b : ℤ) (x y : List ℕ) → Signed width bytes a x → Signed width bytes b y → (a ≡ b) × (x ≡ y)
one_signed width bytes a b x y p q =
    let both = parts_at p.spelled q.spelled x y (p.wide ∙ sym q.wide) (sym p.parts ∙ q.parts) in
    (p.is ∙ ap int both.0 ∙ sym q.is, both.1)

-- the first 0 ends both
one_end : (t u x y : List ℕ) → HoldsNo 0 t → HoldsNo 0 u → t ++ 0 ∷ x ≡ u ++ 0 ∷ y → (t ≡ u) × (x ≡ y)
one_end [] [] x y p q e = let tails : x ≡ y = cc in (refl, tails)
one_end [] (b ∷ bs) x y p q e = absurd (q.0 (let heads : b ≡ 0 = cc in heads))
one_end (b ∷ bs) [] x y p q e = absurd (p.0 (let heads : b ≡ 0 = cc in heads))
one_end (a ∷ as') (b ∷ bs) x y p q e =
    let heads : a ≡ b = cc in
    let tails : as' ++ 0 ∷ x ≡ bs ++ 0 ∷ y = cc in
    let more = one_end as' bs x y p.1 q.1 tails in
    (rw (heads, more.0) refl, more.1)

pub one_text : (bytes t u x y : List ℕ) → Text bytes t x → Text bytes u y → (t ≡ u) × (x ≡ y)
one_text bytes t u x y p q = one_end t u x y p.clean q.clean (sym p.parts ∙ q.parts)

pub holds_no : (byte : ℕ) (bytes : List ℕ) → ((k : ℕ) → k < length bytes → get_or bytes k 0 ≢ byte) → HoldsNo byte bytes
holds_no byte [] h = tt
holds_no byte (b ∷ bs) h = (λ e. h 0 (omega arith) e, holds_no byte bs (λ k lt. h (suc k) (omega arith)))

-- bytes without a byte aren't parted by one
pub no_part : (byte : ℕ) (bytes front rest : List ℕ) → HoldsNo byte bytes → bytes ≡ front ++ byte ∷ rest → ⊥
no_part byte [] [] rest h e = absurd cc
no_part byte [] (c ∷ front) rest h e = absurd cc
no_part byte (b ∷ bytes) [] rest h e = h.0 (let heads : b ≡ byte = cc in heads)
no_part byte (b ∷ bytes) (c ∷ front) rest h e = no_part byte bytes front rest h.1 (let tails : bytes ≡ front ++ byte ∷ rest = cc in tails)

-- bytes without a 0 begin with no text
pub no_text : (bytes t rest : List ℕ) → HoldsNo 0 bytes → bytes ≡ t ++ 0 ∷ rest → ⊥
no_text = no_part 0

-- bytes that begin with a number are as long as it and the rest
pub number_fits : (width : ℕ) (bytes : List ℕ) (n : ℕ) (rest : List ℕ) → Number width bytes n rest → length bytes ≡ width + length rest
number_fits width bytes n rest p = omega (arith, ap length p.parts, length-append p.spelled rest, p.wide)

pub signed_fits : (width : ℕ) (bytes : List ℕ) (z : ℤ) (rest : List ℕ) → Signed width bytes z rest → length bytes ≡ width + length rest
signed_fits width bytes z rest p = omega (arith, ap length p.parts, length-append p.spelled rest, p.wide)
