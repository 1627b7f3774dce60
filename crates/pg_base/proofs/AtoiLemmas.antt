-- Bytes begin with one run of digits, and it has one value.
use Rattle.std.proofs.Common.{◌≡◌, ℕ, suc, zero, ◌+◌, ◌-◌, ◌*◌, ◌^◌, ◌<◌, ◌≤◌, List, [], ◌∷◌, ◌++◌, length, get_or, take, drop, MatchOption, inl, inr, refl, sym, ap, ◌∙◌, Option, Some, None, arith, length-append}
use Rattle.std.proofs.lemmas.List.{take-append-drop, take_more}
use Rattle.std.proofs.lemmas.Nat.{pow-add}
use Rattle.std.proofs.Math.Nat.{le-mul_of_pos_right}
use Rattle.std.specs.Char.{IsAsciiDigit, IsNotAsciiDigit}
use Rattle.pg_base.specs.Atoi.{AreDigits, BeginsWithDigit, decimal_value, Digits, IsDigitsUpTo, unsigned, plus, minus, Sign, SignedDigits, IsWithin, Atoi}

pub ten_pos : (k : ℕ) → 0 < 10 ^ k
ten_pos zero = omega arith
ten_pos (suc k) = omega (arith, ten_pos k)

pub decimal_value-append : (xs ys : List ℕ) → decimal_value (xs ++ ys) ≡ decimal_value xs * 10 ^ length ys + decimal_value ys
decimal_value-append [] ys = omega arith
decimal_value-append (x ∷ xs) ys =
    let power : 10 ^ length (xs ++ ys) ≡ 10 ^ length xs * 10 ^ length ys =
    ap (λ (k : ℕ). 10 ^ k) (length-append xs ys) ∙ pow-add 10 (length xs) (length ys) in
    rw (power, decimal_value-append xs ys) (omega arith)

pub decimal_value-push : (ds : List ℕ) (d : ℕ) → decimal_value (ds ++ d ∷ []) ≡ decimal_value ds * 10 + (d - 48)
decimal_value-push ds d = omega (arith, decimal_value-append ds (d ∷ []))

pub decimal_value-more : (ds : List ℕ) (i : ℕ) → i < length ds → decimal_value (take (i + 1) ds) ≡ decimal_value (take i ds) * 10 + (get_or ds i 0 - 48)
decimal_value-more ds i h =
    rw (take_more ds i 0 h) (decimal_value-push (take i ds) (get_or ds i 0))

pub decimal_value-take-le : (ds : List ℕ) (i : ℕ) → decimal_value (take i ds) ≤ decimal_value ds
decimal_value-take-le ds i =
    let parts : decimal_value ds ≡ decimal_value (take i ds) * 10 ^ length (drop i ds) + decimal_value (drop i ds) =
    ap decimal_value (sym (take-append-drop i ds)) ∙ decimal_value-append (take i ds) (drop i ds) in
    omega (arith, parts, le-mul_of_pos_right (decimal_value (take i ds)) (ten_pos (length (drop i ds))))

pub AreDigits-push : (ds : List ℕ) (d : ℕ) → AreDigits ds → IsAsciiDigit d → AreDigits (ds ++ d ∷ [])
AreDigits-push [] d h is = (is, tt)
AreDigits-push (x ∷ ds) d h is = (h.0, AreDigits-push ds d h.1 is)

pub AreDigits-at : (ds : List ℕ) (i : ℕ) → AreDigits ds → i < length ds → IsAsciiDigit (get_or ds i 0)
AreDigits-at [] i h lt = absurd (omega (arith, lt))
AreDigits-at (d ∷ ds) zero h lt = h.0
AreDigits-at (d ∷ ds) (suc i) h lt = AreDigits-at ds i h.1 (omega (arith, lt))

not_digit : (b : ℕ) → IsNotAsciiDigit b → IsAsciiDigit b → ⊥
not_digit b (inl low) h = omega (arith, low, h.0)
not_digit b (inr high) h = omega (arith, high, h.1)

pub no_digit_at : (bytes : List ℕ) (i : ℕ) → IsNotAsciiDigit (get_or bytes i 0) → ¬ (BeginsWithDigit (drop i bytes))
no_digit_at [] zero not_one h = h
no_digit_at [] (suc i) not_one h = h
no_digit_at (b ∷ bs) zero not_one h = not_digit b not_one h
no_digit_at (b ∷ bs) (suc i) not_one h = no_digit_at bs i not_one h

-- two runs of digits at the front of the same bytes are one
pub one_run : (xs ys r s : List ℕ) → AreDigits xs → AreDigits ys → ¬ (BeginsWithDigit r) → ¬ (BeginsWithDigit s) → xs ++ r ≡ ys ++ s → xs ≡ ys
one_run [] [] r s p q nr ns e = refl
one_run [] (y ∷ ys) [] s p q nr ns e = absurd cc
one_run [] (y ∷ ys) (b ∷ r) s p q nr ns e = absurd (nr (let heads : b ≡ y = cc in rw heads q.0))
one_run (x ∷ xs) [] r [] p q nr ns e = absurd cc
one_run (x ∷ xs) [] r (b ∷ s) p q nr ns e = absurd (ns (let heads : b ≡ x = cc in rw heads p.0))
one_run (x ∷ xs) (y ∷ ys) r s p q nr ns e =
    let heads : x ≡ y = cc in
    let tails : xs ++ r ≡ ys ++ s = cc in
    rw (heads, one_run xs ys r s p.1 q.1 nr ns tails) refl

pub one_decimal : (bytes : List ℕ) (m n : ℕ) → Digits bytes m → Digits bytes n → m ≡ n
one_decimal bytes m n p q =
    p.is ∙ ap decimal_value (one_run p.digits q.digits p.rest q.rest p.are_digits q.are_digits p.ends q.ends (sym p.parts ∙ q.parts)) ∙ sym q.is

-- bytes that begin with digits begin with a digit
pub first_digit : (b : ℕ) (bs digits rest : List ℕ) → 0 < length digits → AreDigits digits → b ∷ bs ≡ digits ++ rest → IsAsciiDigit b
first_digit b bs [] rest some_are are e = absurd (omega (arith, some_are))
first_digit b bs (d ∷ ds) rest some_are are e = let heads : b ≡ d = cc in rw heads are.0

digit_of : (b : ℕ) (bs : List ℕ) (n : ℕ) → Digits (b ∷ bs) n → IsAsciiDigit b
digit_of b bs n h = first_digit b bs h.digits h.rest h.some_are_there h.are_digits h.parts

no_digits : (digits rest : List ℕ) → 0 < length digits → [] ≡ digits ++ rest → ⊥
no_digits [] rest some_are e = omega (arith, some_are)
no_digits (d ∷ ds) rest some_are e = absurd cc

pub atoi_of_nothing : (top : ℕ) → Atoi top [] None
atoi_of_nothing top unsigned n h within =
    no_digits h.digits.digits h.digits.rest h.digits.some_are_there (h.parts ∙ h.digits.parts)
atoi_of_nothing top plus n h within = let e = h.parts in absurd cc
atoi_of_nothing top minus n h within = let e = h.parts in absurd cc

pub heads_of : (a b : ℕ) (x y : List ℕ) → a ∷ x ≡ b ∷ y → a ≡ b
heads_of a b x y e = cc

after_plus : (bs : List ℕ) (sign : Sign) (n top : ℕ) → SignedDigits (43 ∷ bs) sign n → IsWithin top sign n → Digits bs n × (n ≤ top)
after_plus bs unsigned n top h within = absurd (omega (arith, (digit_of 43 bs n (rw h.parts h.digits)).0))
after_plus bs plus n top h within = (let e = h.parts in let tails : bs ≡ h.after = cc in rw tails h.digits, within)
after_plus bs minus n top h within = absurd (omega (arith, heads_of 43 45 bs h.after h.parts))

after_minus : (bs : List ℕ) (sign : Sign) (n top : ℕ) → SignedDigits (45 ∷ bs) sign n → IsWithin top sign n → Digits bs n × (n ≤ 0)
after_minus bs unsigned n top h within = absurd (omega (arith, (digit_of 45 bs n (rw h.parts h.digits)).0))
after_minus bs plus n top h within = absurd (omega (arith, heads_of 45 43 bs h.after h.parts))
after_minus bs minus n top h within = (let e = h.parts in let tails : bs ≡ h.after = cc in rw tails h.digits, omega (arith, within))

after_no_sign : (b : ℕ) (bs : List ℕ) (sign : Sign) (n top : ℕ) → ¬ (b ≡ 43) → ¬ (b ≡ 45) → SignedDigits (b ∷ bs) sign n → IsWithin top sign n → Digits (b ∷ bs) n × (n ≤ top)
after_no_sign b bs unsigned n top np nm h within = (rw h.parts h.digits, within)
after_no_sign b bs plus n top np nm h within = absurd (np (let e = h.parts in cc))
after_no_sign b bs minus n top np nm h within = absurd (nm (let e = h.parts in cc))

pub atoi_of_plus : (top : ℕ) (bs : List ℕ) (result : Option ℕ) → IsDigitsUpTo top bs result → Atoi top (43 ∷ bs) result
atoi_of_plus top bs (Some n) h = (plus, record { after = bs; parts = refl; digits = h.0 }, h.1)
atoi_of_plus top bs None h = λ sign n signed within.
    let found = after_plus bs sign n top signed within in
    omega (arith, h n found.0, found.1)

pub atoi_of_minus : (top : ℕ) (bs : List ℕ) (result : Option ℕ) → IsDigitsUpTo 0 bs result → Atoi top (45 ∷ bs) result
atoi_of_minus top bs (Some n) h = (minus, record { after = bs; parts = refl; digits = h.0 }, omega (arith, h.1))
atoi_of_minus top bs None h = λ sign n signed within.
    let found = after_minus bs sign n top signed within in
    omega (arith, h n found.0, found.1)

pub atoi_of_no_sign : (top b : ℕ) (bs : List ℕ) (result : Option ℕ) → ¬ (b ≡ 43) → ¬ (b ≡ 45) → IsDigitsUpTo top (b ∷ bs) result → Atoi top (b ∷ bs) result
atoi_of_no_sign top b bs (Some n) np nm h = (unsigned, record { after = b ∷ bs; parts = refl; digits = h.0 }, h.1)
atoi_of_no_sign top b bs None np nm h = λ sign n signed within.
    let found = after_no_sign b bs sign n top np nm signed within in
    omega (arith, h n found.0, found.1)

-- a run of digits, and what was found of its value
pub digits_of_run : (top : ℕ) (bytes run rest : List ℕ) (result : Option ℕ) → 0 < length run → AreDigits run → ¬ (BeginsWithDigit rest) → bytes ≡ run ++ rest
    → MatchOption result (top < decimal_value run) (λ n. (n ≡ decimal_value run) × (n ≤ top)) → IsDigitsUpTo top bytes result
digits_of_run top bytes run rest (Some n) some_are are ends parts h =
    (record { digits = run; rest = rest; some_are_there = some_are; are_digits = are; ends = ends; is = h.0; parts = parts }, h.1)
digits_of_run top bytes run rest None some_are are ends parts h = λ n d.
    omega (arith, h, one_decimal bytes n (decimal_value run) d (record { digits = run; rest = rest; some_are_there = some_are; are_digits = are; ends = ends; is = refl; parts = parts }))

-- where the run is empty there are no digits
pub no_run : (bytes run rest : List ℕ) (n : ℕ) → length run ≡ 0 → ¬ (BeginsWithDigit rest) → bytes ≡ run ++ rest → Digits bytes n → ⊥
no_run bytes [] [] n none_are ends parts d = no_digits d.digits d.rest d.some_are_there (sym parts ∙ d.parts)
no_run bytes [] (b ∷ rest) n none_are ends parts d = ends (first_digit b rest d.digits d.rest d.some_are_there d.are_digits (sym parts ∙ d.parts))
no_run bytes (x ∷ run) rest n none_are ends parts d = omega (arith, none_are)
