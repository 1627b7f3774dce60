-- What a search for a NUL by vectors keeps.
use Rattle.std.proofs.Common.{◌≡◌, ◌↔◌, ℕ, ◌+◌, ◌-◌, ◌%◌, ◌^◌, ◌≤◌, eqb, ltb, cond, true, zero, suc, List, [], ◌∷◌, length, take, drop, map, replicate, refl, sym, ap, subst, ◌∙◌, arith, w8}
use Rattle.std.proofs.lemmas.Bool.{cond_both, eqb-true, eq-eqb, ltb-false, ltb-true, ne_eqb}
use Rattle.std.proofs.lemmas.List.{take_all, length-drop}
use Rattle.std.proofs.lemmas.Simd.{bitmask_splat, length-chunk, length-zip2}
use lib.Lanes.{zip2, mask_l, sel_l, top}
use Rattle.pg_base.specs.Reading.{HoldsNo}

-- no lane of the least ones is 0 exactly where the bytes before a place hold no 0, nor the last ones
pub record IsLeast (bytes least : List ℕ) (at : ℕ) : Type 0 where
  pub all : HoldsNo 0 bytes → HoldsNo 0 least
  pub front : HoldsNo 0 least → HoldsNo 0 (take at bytes)
  pub back : HoldsNo 0 least → HoldsNo 0 (drop (length bytes - length least) bytes)

-- ---- parts of a list

pub take_clean : (n : ℕ) (xs : List ℕ) → HoldsNo 0 xs → HoldsNo 0 (take n xs)
take_clean zero xs h = tt
take_clean (suc n) [] h = tt
take_clean (suc n) (x ∷ xs) h = (h.0, take_clean n xs h.1)

pub drop_clean : (n : ℕ) (xs : List ℕ) → HoldsNo 0 xs → HoldsNo 0 (drop n xs)
drop_clean zero xs h = h
drop_clean (suc n) [] h = tt
drop_clean (suc n) (x ∷ xs) h = drop_clean n xs h.1

-- from a later place on
later_clean : (a b : ℕ) (xs : List ℕ) → a ≤ b → HoldsNo 0 (drop a xs) → HoldsNo 0 (drop b xs)
later_clean zero b xs le h = drop_clean b xs h
later_clean (suc a) zero xs le h = absurd (omega (arith, le))
later_clean (suc a) (suc b) [] le h = tt
later_clean (suc a) (suc b) (x ∷ xs) le h = later_clean a b xs (omega (arith, le)) h

both_clean : (n : ℕ) (xs : List ℕ) → HoldsNo 0 (take n xs) → HoldsNo 0 (drop n xs) → HoldsNo 0 xs
both_clean zero xs h k = k
both_clean (suc n) [] h k = tt
both_clean (suc n) (x ∷ xs) h k = (h.0, both_clean n xs h.1 k)

pub further_clean : (at n end : ℕ) (xs : List ℕ) → end ≡ at + n → HoldsNo 0 (take at xs) → HoldsNo 0 (take n (drop at xs)) → HoldsNo 0 (take end xs)
further_clean zero n end xs e h k = subst (λ j. HoldsNo 0 (take j xs)) (let same : n ≡ end = omega (arith, e) in same) k
further_clean (suc at) n zero xs e h k = tt
further_clean (suc at) n (suc end) [] e h k = tt
further_clean (suc at) n (suc end) (x ∷ xs) e h k = (h.0, further_clean at n end xs (omega (arith, e)) h.1 k)

-- ---- lanes

abbrev least : ℕ → ℕ → ℕ
least a b = cond (ltb a b) a b

least_clean : (a b : ℕ) → (a ≡ 0 → ⊥) → (b ≡ 0 → ⊥) → least a b ≡ 0 → ⊥
least_clean a b h k = cond_both (ltb a b) a b (λ x. x ≡ 0 → ⊥) (λ _. h) (λ _. k)

least_of_0 : (b : ℕ) → least 0 b ≡ 0
least_of_0 b = cond_both (ltb 0 b) 0 b (λ x. x ≡ 0) (λ _. refl) (λ e. let none : b ≡ 0 = omega (arith, ltb-false 0 b e) in none)

least_with_0 : (a : ℕ) → least a 0 ≡ 0
least_with_0 a = cond_both (ltb a 0) a 0 (λ x. x ≡ 0) (λ e. absurd (omega (arith, ltb-true a 0 e))) (λ _. refl)

-- the least of two lanes is a choice by their comparison
chosen : (xs ys : List ℕ) → sel_l (zip2 ltb xs ys) xs ys ≡ zip2 least xs ys
chosen [] ys = refl
chosen (x ∷ xs) [] = refl
chosen (x ∷ xs) (y ∷ ys) = ap (λ (l : List ℕ). least x y ∷ l) (chosen xs ys)

lanes_clean : (xs ys : List ℕ) → HoldsNo 0 xs → HoldsNo 0 ys → HoldsNo 0 (zip2 least xs ys)
lanes_clean [] ys h k = tt
lanes_clean (x ∷ xs) [] h k = tt
lanes_clean (x ∷ xs) (y ∷ ys) h k = (least_clean x y h.0 k.0, lanes_clean xs ys h.1 k.1)

first_clean : (xs ys : List ℕ) → length xs ≡ length ys → HoldsNo 0 (zip2 least xs ys) → HoldsNo 0 xs
first_clean [] ys e h = tt
first_clean (x ∷ xs) [] e h = absurd (omega (arith, e))
first_clean (zero ∷ xs) (y ∷ ys) e h = absurd (h.0 (least_of_0 y))
first_clean (suc x ∷ xs) (y ∷ ys) e h = ((λ z. omega (arith, z)), first_clean xs ys (omega (arith, e)) h.1)

second_clean : (xs ys : List ℕ) → length xs ≡ length ys → HoldsNo 0 (zip2 least xs ys) → HoldsNo 0 ys
second_clean [] [] e h = tt
second_clean [] (y ∷ ys) e h = absurd (omega (arith, e))
second_clean (x ∷ xs) [] e h = absurd (omega (arith, e))
second_clean (x ∷ xs) (zero ∷ ys) e h = absurd (h.0 (least_with_0 x))
second_clean (x ∷ xs) (suc y ∷ ys) e h = ((λ z. omega (arith, z)), second_clean xs ys (omega (arith, e)) h.1)

-- no bit is set of a mask of the lanes that are 0
pub clean_of_mask : (xs : List ℕ) → mask_l (map (λ x. eqb x 0) xs) ≡ 0 → HoldsNo 0 xs
clean_of_mask [] e = tt
clean_of_mask (zero ∷ xs) e = absurd (omega (arith, e))
clean_of_mask (suc x ∷ xs) e = ((λ z. omega (arith, z)), clean_of_mask xs (omega (arith, e)))

pub mask_of_clean : (xs : List ℕ) → HoldsNo 0 xs → mask_l (map (λ x. eqb x 0) xs) ≡ 0
mask_of_clean [] h = refl
mask_of_clean (x ∷ xs) h = rw (ne_eqb x 0 h.0) (omega (arith, mask_of_clean xs h.1))

-- ---- the search

-- the last n bytes, before any other
pub first_least : (bytes : List ℕ) (n : ℕ) → n ≤ length bytes → IsLeast bytes (take n (drop (length bytes - n) bytes)) 0
first_least bytes n fits =
    let last = length bytes - n in
    let long : length (take n (drop last bytes)) ≡ n = length-chunk last n bytes (omega (arith, fits)) in
    let whole : take n (drop last bytes) ≡ drop last bytes = take_all n (drop last bytes) (omega (arith, fits, length-drop last bytes)) in
    record {
      all = λ h. take_clean n (drop last bytes) (drop_clean last bytes h);
      front = λ h. tt;
      back = λ h. subst (λ k. HoldsNo 0 (drop (length bytes - k) bytes)) (sym long) (subst (HoldsNo 0) whole h);
    }

-- with the n bytes from a place on
pub next_least : (bytes lanes : List ℕ) (at n : ℕ) → IsLeast bytes lanes at → length lanes ≡ n → at + n ≤ length bytes
    → IsLeast bytes (sel_l (zip2 ltb lanes (take n (drop at bytes))) lanes (take n (drop at bytes))) (at + n)
next_least bytes lanes at n is long fits =
    let more = take n (drop at bytes) in
    let same : length lanes ≡ length more = long ∙ sym (length-chunk at n bytes fits) in
    subst (λ l. IsLeast bytes l (at + n)) (sym (chosen lanes more))
    (record {
      all = λ h. lanes_clean lanes more (is.all h) (take_clean n (drop at bytes) (drop_clean at bytes h));
      front = λ h. further_clean at n (at + n) bytes refl (is.front (first_clean lanes more same h)) (second_clean lanes more same h);
      back = λ h. subst (λ k. HoldsNo 0 (drop (length bytes - k) bytes)) (sym (length-zip2 least lanes more same)) (is.back (first_clean lanes more same h));
    })

-- where all are seen, the mask of the lanes that are 0 tells
pub all_seen : (bytes lanes : List ℕ) (at n : ℕ) → IsLeast bytes lanes at → length lanes ≡ n → n ≤ 64 → length bytes - n ≤ at
    → (eqb (mask_l (map (top 7) (zip2 (λ a b. cond (eqb a b) 255 0) lanes (replicate n 0))) % 2 ^ 64) 0 ≡ true) ↔ HoldsNo 0 bytes
all_seen bytes lanes at n is long small le =
    let mask = bitmask_splat w8 eqb lanes n 0 long small in
    let seen : HoldsNo 0 lanes → HoldsNo 0 bytes = λ h. both_clean at bytes (is.front h) (later_clean (length bytes - length lanes) at bytes (omega (arith, long, le)) (is.back h)) in
    ((λ e. seen (clean_of_mask lanes (sym mask ∙ eqb-true _ 0 e))), (λ h. eq-eqb _ 0 (mask ∙ mask_of_clean lanes (is.all h))))
