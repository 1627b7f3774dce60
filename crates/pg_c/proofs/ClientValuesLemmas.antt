-- The values of a message from a client: a value is a cell whose length isn't below -1.
use Rattle.std.proofs.Common.{[], ◌≡◌, ℕ, zero, suc, ◌+◌, ◌-◌, ◌<◌, ◌≤◌, ℤ, pos, negsuc, List, ◌∷◌, ◌++◌, Option, Some, None, length, take, drop, get_or, refl, sym, ap, ◌∙◌, arith, inr, length-take, length-drop}
use Rattle.std.proofs.lemmas.List.{take-append-drop, length-take-le, drop-drop, drop_more}
use Rattle.pg_base.specs.Reading.{Signed}
use Rattle.pg_format.specs.Format.Lists.{times, counted}
use Rattle.pg_format.specs.Format.Nullable.{cell, cell_after, value, value_after}
use Rattle.pg_format.specs.Format.Parts.{until_nul, be_i32, bytes_of}
use Rattle.pg_format.specs.Format.Places.{IsReadAt}
use Rattle.pg_format.proofs.FormatLaws.Places.{stands_at, items_then_fault}
use Rattle.pg_format.proofs.FormatLaws.Takes.{takes_signed}
use Rattle.pg_server.proofs.FrontendValuesLemmas.{null_stands, some_stands}
use Rattle.pg_server.specs.Frontend.Message.{HasFault}
use Rattle.pg_server.specs.declared.frontend.error.FrontendFault.{FrontendFault}
use Rattle.pg_c.specs.Client.Parts.{Finds}
use Rattle.pg_c.specs.Client.Values.{FindsValue, GivesValues, GivesCounted}
use Rattle.pg_c.specs.Place.{part}
use Rattle.pg_c.specs.Read.{GivesItems}
use Rattle.pg_c.specs.Read.Row.{cell_in}
use Rattle.pg_c.specs.declared.place.PgmsgList.{PgmsgList}
use Rattle.pg_c.specs.declared.place.PgmsgSpan.{PgmsgSpan}
use Rattle.pg_c.specs.declared.read.row.PgmsgCell.{PgmsgCell}
use Rattle.pg_c.proofs.PlaceLemmas.{bytes_are}
use Rattle.pg_c.proofs.ReadRowLemmas.{value_found, null_found}

after_length : (z : ℤ) (bytes : List ℕ) (v : Option (List ℕ)) (rest : List ℕ) → (value_after z).Reads bytes v rest → (cell_after z).Reads bytes v rest
after_length (pos n) bytes v rest p = p
after_length (negsuc zero) bytes v rest p = p
after_length (negsuc (suc n)) bytes v rest p = absurd p

pub as_cell : (body : List ℕ) (at end : ℕ) (v : Option (List ℕ)) → IsReadAt value body at v end → IsReadAt cell body at v end
as_cell body at end v p = record {
  within = p.within;
  reads = (
    p.reads.0,
    record { mid = p.reads.1.mid; first = p.reads.1.first; second = after_length p.reads.0.0 p.reads.1.mid p.reads.0.1 (drop end body) p.reads.1.second },
    p.reads.2,
  );
}

-- ---- a value by its length

-- so many bytes that are there
pub bytes_stand : (body : List ℕ) (start n : ℕ) → start + n ≤ length body → IsReadAt (bytes_of n) body start (take n (drop start body)) (start + n)
bytes_stand body start n inside = record {
  within = inside;
  reads = (
    omega (arith, inside, length-take n (drop start body), length-drop start body),
    sym (take-append-drop n (drop start body)) ∙ ap (λ (l : List ℕ). take n (drop start body) ++ l) (drop-drop n start body),
  );
}

length_stands : (body : List ℕ) (at : ℕ) (z : ℤ) → at + 4 ≤ length body → Signed 4 (drop at body) z (drop (at + 4) body) → IsReadAt be_i32 body at z (at + 4)
length_stands body at z fits spelled = stands_at be_i32 4 (takes_signed 4) body at z (omega (arith, fits)) spelled

pub null_finds : (body : List ℕ) (at : ℕ) → at + 4 ≤ length body → Signed 4 (drop at body) (negsuc zero) (drop (at + 4) body) → FindsValue body at (negsuc zero) (at + 4)
null_finds body at fits spelled =
    let read = null_stands body at (at + 4) (negsuc zero) refl (length_stands body at (negsuc zero) fits spelled) in
    record { value = None; read = read; is = null_found body at (at + 4) (as_cell body at (at + 4) None read) }

pub some_finds : (body : List ℕ) (at n : ℕ) → at + 4 + n ≤ length body → Signed 4 (drop at body) (pos n) (drop (at + 4) body) → FindsValue body at (pos n) (at + 4 + n)
some_finds body at n inside spelled =
    let content = take n (drop (at + 4) body) in
    let wide : n ≡ at + 4 + n - (at + 4) = omega arith in
    let read = some_stands body at (at + 4) (at + 4 + n) n (pos n) content refl (length_stands body at (pos n) (omega (arith, inside)) spelled) (bytes_stand body (at + 4) n inside) in
    record { value = Some content; read = read; is = value_found body content at (at + 4 + n) n wide (as_cell body at (at + 4 + n) (Some content) read) }

-- ---- so many values

-- values after their count
pub values_stand : (body : List ℕ) (at : ℕ) (list : PgmsgList) (end : ℕ) (old new : List PgmsgCell) (p : GivesValues body at list end old new) → IsReadAt (counted value) body at p.gives.items end
values_stand body at list end old new p = record {
  within = p.gives.read.within;
  reads = ((list.count, p.gives.items), record { mid = drop list.at body; first = p.counted.reads; second = p.gives.read.reads }, refl);
}

pub values_given : (body : List ℕ) (at : ℕ) (list : PgmsgList) (end : ℕ) (old new : List PgmsgCell) → GivesValues body at list end old new → GivesCounted body at old new
values_given body at list end old new p = inr (list.count, list.at, p.counted, record { index = list.count; end = end; few = omega arith; gives = p.gives })

-- one that can't be read after fewer than are counted
pub one_is_broken : (body : List ℕ) (first at index count : ℕ) (old new : List PgmsgCell) (fault : FrontendFault) → GivesItems value (cell_in body) body first at index old new → index < count → HasFault value body at fault
    → HasFault (times count value) body first fault
one_is_broken body first at index count old new fault p fewer f =
    (f.0, f.1, items_then_fault value p.items count (length body) (drop first body) (drop at body) f.0 p.read.reads.1 f.2 (omega (arith, p.read.reads.0, fewer)))

-- ---- names

abbrev pub FindsName : List ℕ → ℕ → PgmsgSpan → ℕ → Type 0
FindsName body at span end = Finds until_nul (λ place name. part body place ≡ Some name) body at span end

pub name_finds : (body : List ℕ) (at end : ℕ) (name : List ℕ) → at ≤ length body → IsReadAt until_nul body at name end → FindsName body at (record { at = at; len = length name }) end
name_finds body at end name within read =
    let parts : body ≡ take at body ++ (name ++ 0 ∷ drop end body) = sym (take-append-drop at body) ∙ ap (λ (l : List ℕ). take at body ++ l) read.reads.parts in
    record { value = name; read = read; is = bytes_are body (take at body) name (0 ∷ drop end body) at parts (length-take-le at body within) }

-- a name without bytes before its NUL
pub empty_finds : (body : List ℕ) (at : ℕ) → at < length body → get_or body at 0 ≡ 0 → FindsName body at (record { at = at; len = 0 }) (at + 1)
empty_finds body at lt nul =
    let parts : drop at body ≡ 0 ∷ drop (at + 1) body = drop_more body at 0 lt ∙ ap (λ (b : ℕ). b ∷ drop (at + 1) body) nul in
    name_finds body at (at + 1) [] (omega (arith, lt)) (record { within = omega (arith, lt); reads = record { clean = tt; parts = parts } })
