-- Where the parts of a client's message stand.
use Rattle.std.proofs.Common.{◌≡◌, ℕ, zero, suc, ◌+◌, ℤ, pos, negsuc, List, [], ◌∷◌, ◌++◌, Option, Some, length, drop, refl, sym, ap, ◌∙◌, arith, append_assoc, length-append}
use Rattle.std.proofs.lemmas.List.{drop_at, drop_all}
use Rattle.pg_base.specs.Reading.{Text}
use Rattle.pg_format.specs.Format.{Means}
use Rattle.pg_format.specs.Format.Nullable.{cell, cell_after, value, value_after}
use Rattle.pg_format.specs.Format.Places.{IsReadAt}
use Rattle.pg_format.specs.Messages as page
use Rattle.pg_c.specs.Place.{bytes_in}
use Rattle.pg_c.proofs.PlaceLemmas.{bytes_are}

-- a name after a letter
pub name_is : (body : List ℕ) (t : page.Targeted) → Means page.targeted body t → bytes_in body 1 (length t.name) ≡ Some t.name
name_is body t p =
    let letter = p.0.first in
    bytes_are body (letter.0 ∷ []) t.name (0 ∷ []) 1 (letter.1 ∙ ap (λ (l : List ℕ). letter.0 ∷ l) p.0.second.parts) refl

-- ---- what follows a part

pub after_text : (bytes text rest : List ℕ) → Text bytes text rest → drop (length text + 1) bytes ≡ rest
after_text bytes text rest p =
    let spelled : List ℕ = text ++ 0 ∷ [] in
    let parts : bytes ≡ spelled ++ rest = p.parts ∙ sym (append_assoc text (0 ∷ []) rest) in
    rw parts (drop_at spelled rest (length text + 1) (length-append text (0 ∷ [])))

-- ---- the first message of a mechanism

pub mechanism_is : (body : List ℕ) (s : page.SaslInitial) → Means page.sasl_initial_response body s → bytes_in body 0 (length s.mechanism) ≡ Some s.mechanism
mechanism_is body s p = bytes_are body [] s.mechanism (0 ∷ p.0.mid) 0 p.0.first.parts refl

as_cell : (z : ℤ) (bytes rest : List ℕ) (v : Option (List ℕ)) → (value_after z).Reads bytes v rest → (cell_after z).Reads bytes v rest
as_cell (pos n) bytes rest v p = p
as_cell (negsuc zero) bytes rest v p = p
as_cell (negsuc (suc n)) bytes rest v p = absurd p

-- a value is read as a cell is
pub value_as_cell : (bytes rest : List ℕ) (v : Option (List ℕ)) → value.Reads bytes v rest → cell.Reads bytes v rest
value_as_cell bytes rest v p = (p.0, record { mid = p.1.mid; first = p.1.first; second = as_cell p.0.0 p.1.mid rest p.0.1 p.1.second }, p.2)

pub response_is : (body : List ℕ) (s : page.SaslInitial) → Means page.sasl_initial_response body s → IsReadAt cell body (length s.mechanism + 1) s.response (length body)
response_is body s p =
    let after : drop (length s.mechanism + 1) body ≡ p.0.mid = after_text body s.mechanism p.0.mid p.0.first in
    let none : drop (length body) body ≡ [] = drop_all (length body) body (omega arith) in
    record { within = omega arith; reads = rw (after, none) (value_as_cell p.0.mid [] s.response p.0.second) }
