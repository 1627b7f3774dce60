-- Where a search for a NUL by vectors finds one.
use Rattle.std.proofs.Common.{inl, inr, ℕ, ◌≡◌, ◌-◌, ◌≤◌, drop, get_or, ap, ◌∙◌, ◌+◌, ◌*◌, ◌<◌, eqb, not, zero, suc, List, [], ◌∷◌, length, map, arith}
use Rattle.std.proofs.lemmas.Bool.{cases_lt, ne_eqb}
use Rattle.std.proofs.lemmas.List.{get_or-drop}
use Rattle.memchr.specs.Find.{Nowhere, Passes, is_byte}
use Rattle.std.specs.List.{prefix_len}
use lib.Lanes.{mask_l}

-- where some lane is 0, fewer lanes come before it than there are
pub found_inside : (xs : List ℕ) → 0 < mask_l (map (λ x. eqb x 0) xs) → prefix_len (λ x. not (eqb x 0)) xs < length xs
found_inside [] h = absurd (omega (arith, h))
found_inside (zero ∷ xs) h = omega arith
found_inside (suc x ∷ xs) h =
    let other = ne_eqb (suc x) 0 (λ z. omega (arith, z)) in
    let later : 0 < 0 + 2 * mask_l (map (λ x. eqb x 0) xs) = rw other at h in
    rw other (omega (arith, found_inside xs (omega (arith, later))))

-- a byte from a place on, among the bytes from there on
later_byte : (near k : ℕ) (bytes : List ℕ) → near ≤ k → get_or (drop near bytes) (k - near) 0 ≡ get_or bytes k 0
later_byte near k bytes le =
    let same : near + (k - near) ≡ k = omega (arith, le) in
    get_or-drop near bytes (k - near) 0 ∙ ap (λ j. get_or bytes j 0) same

-- no 0 stands before a place, nor among the next bytes
pub nowhere_later : (near end : ℕ) (bytes : List ℕ) → Nowhere (Passes (is_byte 0) bytes) 0 near → Nowhere (Passes (is_byte 0) (drop near bytes)) 0 end
    → Nowhere (Passes (is_byte 0) bytes) 0 (near + end)
nowhere_later near end bytes front back k low high is =
    elim (cases_lt k near) [
      | inl before ↦ front k low before is
      | inr after ↦ back (k - near) (omega arith) (omega (arith, after, high)) (ap (λ byte. eqb byte 0) (later_byte near k bytes after) ∙ is)
    ]
