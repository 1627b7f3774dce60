-- The power of two that std finds is the least one.
use Rattle.std.proofs.Common.{◌≡◌, ℕ, zero, suc, ◌+◌, ◌-◌, ◌*◌, ◌/◌, ◌^◌, ◌<◌, ◌≤◌, min, max, inl, inr, Option, Some, None, MatchOption, unwrap_or, refl, sym, ap, ◌∙◌, arith}
use Rattle.std.specs.Int.{IsNextPowerOfTwo}
use Rattle.std.proofs.Math.Nat.{pow-suc}
use Rattle.std.proofs.Math.Pow.{pow_mono}
use Rattle.std.proofs.lemmas.Nat.{pow_pos}
use Rattle.std.proofs.lemmas.Bool.{le-leb, lt-leb, cases_lt}
use Rattle.pg_send.specs.Password.{power_from, power_over}

-- the search ends at 2 ^ k where no power before it is enough
found : (more j k n : ℕ) → j ≤ k → k < j + more → n ≤ 2 ^ k → ((i : ℕ) → i < k → 2 ^ i < n) → power_from more j n ≡ 2 ^ k
unfolding power_from
found zero j k n from to enough below = absurd (omega arith)
found (suc more) j k n from to enough below = elim (cases_lt j k) [
  | inl before ↦ rw (lt-leb n (2 ^ j) (below j before)) (found more (j + 1) k n (omega arith) (omega arith) enough below)
  | inr past ↦
      let e : j ≡ k = omega arith in
      rw (e, le-leb n (2 ^ k) enough) refl
]

-- and it fails where none is
missed : (more j n : ℕ) → ((i : ℕ) → i < j + more → 2 ^ i < n) → power_from more j n ≡ 2 ^ 64 - 1
unfolding power_from
missed zero j n below = refl
missed (suc more) j n below = rw (lt-leb n (2 ^ j) (below j (omega arith))) (missed more (j + 1) n (λ i h. below i (omega arith)))

-- where half of a power isn't enough, no lesser power is
lesser : (k n : ℕ) → 2 ^ k / 2 < max 1 n → (i : ℕ) → i < k → 2 ^ i < n
lesser zero n half i h = absurd (omega arith)
lesser (suc k) n half i h =
    let step : 2 ^ suc k ≡ 2 ^ k * 2 = pow-suc 2 k in
    let smaller : 2 ^ i ≤ 2 ^ k = pow_mono (omega arith) in
    omega (arith, step, smaller, pow_pos k, half)

exponent_below : (i j : ℕ) → 2 ^ i < 2 ^ j → i < j
exponent_below i j h = elim (cases_lt i j) [
  | inl below ↦ below
  | inr past ↦ absurd (omega (arith, pow_mono {i = j} {j = i} past))
]

pub power_over_is : (o : Option ℕ) (n : ℕ) → MatchOption o (2 ^ 63 < n) (IsNextPowerOfTwo n) → unwrap_or o (2 ^ 64 - 1) < 2 ^ 64 → unwrap_or o (2 ^ 64 - 1) ≡ power_over n
unfolding power_over
power_over_is None n past fits = sym (missed 64 0 n (λ i h. omega (arith, pow_mono {i = i} {j = 63} (omega arith))))
power_over_is (Some p) n h fits =
    let power : p ≡ 2 ^ h.0.0 = h.0.1 in
    let small : h.0.0 < 64 = exponent_below h.0.0 64 (rw power at fits) in
    power ∙ sym (found 64 0 h.0.0 n (omega arith) (omega arith) (rw power at h.1) (lesser h.0.0 n (rw power at h.2)))

pub power_over_saturated : (n : ℕ) → power_over (min n (2 ^ 64 - 1)) ≡ power_over n
unfolding power_over
power_over_saturated n = elim (cases_lt n (2 ^ 64)) [
  | inl fits ↦
      let e : min n (2 ^ 64 - 1) ≡ n = omega arith in
      ap power_over e
  | inr past ↦
      let e : min n (2 ^ 64 - 1) ≡ 2 ^ 64 - 1 = omega arith in
      rw e (missed 64 0 (2 ^ 64 - 1) (λ i h. omega (arith, pow_mono {i = i} {j = 63} (omega arith))) ∙ sym (missed 64 0 n (λ i h. omega (arith, pow_mono {i = i} {j = 63} (omega arith)))))
]

-- the search goes no further than a power that is enough
no_further : (more j k n : ℕ) → j ≤ k → k < j + more → n ≤ 2 ^ k → power_from more j n ≤ 2 ^ k
unfolding power_from
no_further zero j k n from to enough = absurd (omega arith)
no_further (suc more) j k n from to enough = elim (cases_lt (2 ^ j) n) [
  | inr here ↦ rw (le-leb n (2 ^ j) here) (pow_mono from)
  | inl past ↦
      let later : j + 1 ≤ k = elim (cases_lt j k) [
        | inl before ↦ omega arith
        | inr same ↦ absurd (let e : j ≡ k = omega arith in let here : n ≤ 2 ^ j = rw e enough in omega (arith, past, here))
      ] in
      rw (lt-leb n (2 ^ j) past) (no_further more (j + 1) k n later (omega arith) enough)
]

-- it ends at a power that is enough, where one of those that it tries is
ends_at : (more j k n : ℕ) → j ≤ k → k < j + more → n ≤ 2 ^ k → (i : ℕ) × (power_from more j n ≡ 2 ^ i) × (n ≤ 2 ^ i)
unfolding power_from
ends_at zero j k n from to enough = absurd (omega arith)
ends_at (suc more) j k n from to enough = elim (cases_lt (2 ^ j) n) [
  | inr here ↦ rw (le-leb n (2 ^ j) here) (j, refl, here)
  | inl past ↦
      let later : j + 1 ≤ k = elim (cases_lt j k) [
        | inl before ↦ omega arith
        | inr same ↦ absurd (let e : j ≡ k = omega arith in let here : n ≤ 2 ^ j = rw e enough in omega (arith, past, here))
      ] in
      rw (lt-leb n (2 ^ j) past) (ends_at more (j + 1) k n later (omega arith) enough)
]

pub power_over-least : (k n : ℕ) → k < 64 → n ≤ 2 ^ k → power_over n ≤ 2 ^ k
unfolding power_over
power_over-least k n small enough = no_further 64 0 k n (omega arith) (omega (arith, small)) enough

pub power_over-power : (n : ℕ) → n ≤ 2 ^ 63 → (k : ℕ) × (power_over n ≡ 2 ^ k) × (n ≤ 2 ^ k)
unfolding power_over
power_over-power n small = ends_at 64 0 63 n (omega arith) (omega arith) small
