-- When the bytes of some vectors are ASCII.
use Rattle.std.proofs.Common.{◌≡◌, ◌↔◌, ◌≤◌, inl, inr, ℕ, ◌+◌, ◌-◌, ◌%◌, ◌^◌, true, leb, eqb, cond, List, [], ◌∷◌, All, length, take, drop, map, replicate, refl, sym, ap, subst, ◌∙◌, arith, w8}
use Rattle.std.proofs.Math.Seq.{take-add}
use Rattle.std.proofs.lemmas.Bool.{cases_lt, eqb-true, eq-eqb, le-leb, lt-leb}
use Rattle.std.proofs.lemmas.List.{take_all, length-drop, length-map, take-append-drop, drop-drop}
use Rattle.std.proofs.lemmas.List.Elements.{All-nil, All-cons, All-head, All-tail, All-take, All-drop, All-append}
use Rattle.std.proofs.lemmas.Str.{IsUtf8-from_ascii}
use Rattle.std.proofs.lemmas.Str.Ascii.{IsAscii-from_all}
use Rattle.std.specs.Str.{IsUtf8}
use Rattle.std.proofs.lemmas.Simd.{mask_l-mod, tops_compared, zip2_splat_left}
use lib.Lanes.{zip2, mask_l, top}
use Rattle.pg_format.specs.Ascii.{IsLow}

-- the mask of the lanes that are not ASCII
high_mask : (lanes : List ℕ) (n : ℕ) → length lanes ≡ n → n ≤ 64
    → mask_l (map (top 7) (zip2 (λ a b. cond (leb a b) 255 0) (replicate n 128) lanes)) % 2 ^ 64 ≡ mask_l (map (leb 128) lanes)
high_mask lanes n long small =
    ap (λ ms. mask_l ms % 2 ^ 64) (tops_compared w8 leb (replicate n 128) lanes ∙ zip2_splat_left leb 128 n lanes long)
    ∙ mask_l-mod (map (leb 128) lanes) 64 (omega (arith, length-map lanes (leb 128), long))

low_of_mask : (lanes : List ℕ) → mask_l (map (leb 128) lanes) ≡ 0 → All IsLow lanes
low_of_mask [] e = All-nil IsLow
low_of_mask (x ∷ xs) e =
    elim (cases_lt x 128) [
      | inl low ↦ All-cons IsLow x xs low (low_of_mask xs (omega (arith, rw (lt-leb 128 x low) at e)))
      | inr high ↦ absurd (omega (arith, rw (le-leb 128 x high) at e))
    ]

mask_of_low : (lanes : List ℕ) → All IsLow lanes → mask_l (map (leb 128) lanes) ≡ 0
mask_of_low [] h = refl
mask_of_low (x ∷ xs) h =
    rw (lt-leb 128 x (All-head IsLow x xs h)) (omega (arith, mask_of_low xs (All-tail IsLow x xs h)))

-- no bit is set where all lanes are ASCII, and only then
pub lanes_tell : (lanes : List ℕ) (n : ℕ) → length lanes ≡ n → n ≤ 64
    → (eqb (mask_l (map (top 7) (zip2 (λ a b. cond (leb a b) 255 0) (replicate n 128) lanes)) % 2 ^ 64) 0 ≡ true) ↔ All IsLow lanes
lanes_tell lanes n long small =
    let mask = high_mask lanes n long small in
    ((λ e. low_of_mask lanes (sym mask ∙ eqb-true _ 0 e)), (λ h. eq-eqb _ 0 (mask ∙ mask_of_low lanes h)))

-- the bytes before a place and those from there on
pub further_low : (bytes : List ℕ) (at n : ℕ) → All IsLow (take at bytes) → All IsLow (take n (drop at bytes)) → All IsLow (take (at + n) bytes)
further_low bytes at n front more = subst (All IsLow) (sym (take-add at n bytes)) (All-append IsLow (take at bytes) (take n (drop at bytes)) front more)

-- the last bytes too, which may begin before that place
pub all_low : (bytes : List ℕ) (at n : ℕ) → n ≤ length bytes → length bytes - n ≤ at → All IsLow (take at bytes)
    → All IsLow (take n (drop (length bytes - n) bytes)) → All IsLow bytes
all_low bytes at n fits le front last =
    let from = length bytes - n in
    let whole : take n (drop from bytes) ≡ drop from bytes = take_all n (drop from bytes) (omega (arith, fits, length-drop from bytes)) in
    let back = All-drop IsLow (at - from) (drop from bytes) (subst (All IsLow) whole last) in
    let place : from + (at - from) ≡ at = omega (arith, le) in
    let rest : All IsLow (drop at bytes) = subst (λ j. All IsLow (drop j bytes)) place (subst (All IsLow) (drop-drop (at - from) from bytes) back) in
    subst (All IsLow) (take-append-drop at bytes) (All-append IsLow (take at bytes) (drop at bytes) front rest)

-- some bytes of those that are ASCII
pub some_low : (bytes : List ℕ) (at n : ℕ) → All IsLow bytes → All IsLow (take n (drop at bytes))
some_low bytes at n h = All-take IsLow n (drop at bytes) (All-drop IsLow at bytes h)

pub ascii_is_utf8 : (bytes : List ℕ) → All IsLow bytes → IsUtf8 bytes
ascii_is_utf8 bytes h = IsUtf8-from_ascii bytes (IsAscii-from_all bytes h)
