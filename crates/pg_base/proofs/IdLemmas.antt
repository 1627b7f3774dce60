-- A name tells which id it is of.
use Rattle.std.proofs.Common.{◌≡◌, ◌≢◌, ℕ, ◌+◌, ◌*◌, ◌/◌, ◌%◌, ◌^◌, ◌<◌, ◌≤◌, List, [], ◌∷◌, ◌++◌, length, decimal, refl, sym, ap, ◌∙◌, arith, length-append, zero, suc}
use Rattle.std.specs.Str.Parse.{digits_value}
use Rattle.std.proofs.lemmas.Fmt.{decimal_is_IsNumeral, decimal_nonempty, decimal_digit, decimal_step}
use Rattle.std.proofs.lemmas.Bool.{ne_eqb}
use Rattle.pg_base.specs.Id.{name, max_id}
use Rattle.pg_base.proofs.CuttingLemmas.{parts_at}
use Rattle.pg_base.proofs.AtoiLemmas.{ten_pos}

-- a number has one digit more than its logarithm
pub decimal_length : (k n : ℕ) → 10 ^ k ≤ n → n < 10 * 10 ^ k → n < 2 ^ 64 → length (decimal n) ≡ k + 1
decimal_length zero n low high small = ap length (decimal_digit n (omega (arith, high)))
decimal_length (suc k) n low high small =
    let rest = decimal_length k (n / 10) (omega (arith, low)) (omega (arith, high)) (omega (arith, small)) in
    omega (arith, ap length (decimal_step n (omega (arith, low, ten_pos k)) small), length-append (decimal (n / 10)) ((48 + n % 10) ∷ []), rest)

pub one_decimal : (a b : ℕ) → a < 2 ^ 64 → b < 2 ^ 64 → decimal a ≡ decimal b → a ≡ b
one_decimal a b p q e = sym (decimal_is_IsNumeral a p).1 ∙ ap (digits_value 10) e ∙ (decimal_is_IsNumeral b q).1

pub name_of_other : (prefix : List ℕ) (n : ℕ) → n ≢ 0 → name prefix n ≡ prefix ++ decimal n
name_of_other prefix n h = rw (ne_eqb n 0 h) refl

pub name_length : (prefix : List ℕ) (k n : ℕ) → 10 ^ k ≤ n → n < 10 * 10 ^ k → n < 2 ^ 32 → length (name prefix n) ≡ length prefix + k + 1
name_length prefix k n low high small =
    let some : n ≢ 0 = λ e. omega (arith, low, ten_pos k, e) in
    omega (arith, ap length (name_of_other prefix n some), length-append prefix (decimal n), decimal_length k n low high (omega (arith, small)))

-- only 0 has no name
name_nonempty : (prefix : List ℕ) (n : ℕ) → n ≢ 0 → n ≤ max_id → 0 < length (name prefix n)
name_nonempty prefix n h small =
    omega (arith, ap length (name_of_other prefix n h), length-append prefix (decimal n), decimal_nonempty n (omega arith))

pub one_name : (prefix : List ℕ) (a b : ℕ) → a ≤ max_id → b ≤ max_id → name prefix a ≡ name prefix b → a ≡ b
one_name prefix zero zero p q e = refl
one_name prefix zero (suc b) p q e = absurd (omega (arith, ap length e, name_nonempty prefix (suc b) (omega arith) q))
one_name prefix (suc a) zero p q e = absurd (omega (arith, ap length e, name_nonempty prefix (suc a) (omega arith) p))
one_name prefix (suc a) (suc b) p q e =
    let same = sym (name_of_other prefix (suc a) (omega arith)) ∙ e ∙ name_of_other prefix (suc b) (omega arith) in
    one_decimal (suc a) (suc b) (omega arith) (omega arith) (parts_at prefix prefix (decimal (suc a)) (decimal (suc b)) refl same).1
