-- The cells of a row: where they end, and how they are read.
use Rattle.std.proofs.Common.{◌≡◌, ℕ, Bool, true, not, Bor, option_copied, zero, suc, ◌+◌, ◌-◌, ◌*◌, ◌<◌, ◌≤◌, ℤ, pos, negsuc, List, [], ◌∷◌, ◌++◌, Option, Some, None, length, get_or, take, drop, false, true, inl, inr, refl, sym, ap, ◌∙◌, arith, length-append, length-take, length-drop}
use Rattle.std.specs.Prelude.{slice_get, slice_range, is_none, ◌<ℤ◌}
use Rattle.std.proofs.lemmas.Bool.{cases_lt, both_ways, le-leb}
use Rattle.std.proofs.lemmas.Int.{ints}
use Rattle.std.proofs.lemmas.List.{take-append-drop, drop-drop, take_at, drop_at}
use Rattle.pg_base.specs.declared.error.ProtocolFault.{ProtocolFault}
use Rattle.pg_base.specs.Error.{IsShort}
use Rattle.pg_base.specs.Reading.{Signed}
use Rattle.pg_base.proofs.ReadingLemmas.{number_fits}
use Rattle.pg_format.specs.Format.{Means}
use Rattle.pg_format.specs.Format.Parts.{be_i32}
use Rattle.pg_format.specs.Format.Lists.{AreRead, times}
use Rattle.pg_format.specs.Format.Nullable.{cell_after, cell}
use Rattle.pg_format.specs.Format.Places.{IsReadAt, BreaksAt}
use Rattle.pg_format.specs.Messages.{data_row}
use Rattle.pg_format.proofs.FormatLaws.Lists.{times_take}
use Rattle.pg_format.proofs.FormatLaws.Places.{lacks_at, stands_at}
use Rattle.pg_format.proofs.FormatLaws.Takes.{takes_signed, takes_cell}
use Rattle.pg_format.specs.Items.{Reading, Begins}
use Rattle.pg_format.proofs.ItemsLemmas.{all_meant}
use Rattle.pg_receive.specs.DataRow.CellEnd.{null_bit, is_null, end_of, cell_to, cells_from, last_end, start_of, EndsRise, KeepsEnds}
use Rattle.pg_receive.specs.DataRow.{IsAfter}

pub length-cells_from : (body : List ℕ) (start : ℕ) (ends : List ℕ) → length (cells_from body start ends) ≡ length ends
length-cells_from body start [] = refl
length-cells_from body start (entry ∷ ends) = ap suc (length-cells_from body (end_of entry) ends)

pub slice_get-cells_from : (body : List ℕ) (start : ℕ) (ends : List ℕ) (i : ℕ) → i < length ends → slice_get (cells_from body start ends) i ≡ Some (cell_to body (start_of start ends i) (get_or ends i 0))
slice_get-cells_from body start [] i lt = absurd (omega (arith, lt))
slice_get-cells_from body start (entry ∷ ends) zero lt = refl
slice_get-cells_from body start (entry ∷ ends) (suc i) lt = slice_get-cells_from body (end_of entry) ends i (omega (arith, lt))

pub start_of-zero : (start : ℕ) (ends : List ℕ) → start_of start ends 0 ≡ start
start_of-zero start [] = refl
start_of-zero start (entry ∷ ends) = refl

pub start_of-suc : (start : ℕ) (ends : List ℕ) (i : ℕ) → i < length ends → start_of start ends (suc i) ≡ end_of (get_or ends i 0)
start_of-suc start [] i lt = absurd (omega (arith, lt))
start_of-suc start (entry ∷ ends) zero lt = start_of-zero (end_of entry) ends
start_of-suc start (entry ∷ ends) (suc i) lt = start_of-suc (end_of entry) ends i (omega (arith, lt))

pub ends_rise_to : (start : ℕ) (ends : List ℕ) (len : ℕ) → EndsRise start ends len → start ≤ len
ends_rise_to start [] len h = h
ends_rise_to start (entry ∷ ends) len h = omega (arith, h.0, ends_rise_to (end_of entry) ends len h.1)

-- each cell has room for its length, and ends within the body
pub ends_rise_at : (start : ℕ) (ends : List ℕ) (len i : ℕ) → EndsRise start ends len → i < length ends → (start_of start ends i + 4 ≤ end_of (get_or ends i 0)) × (end_of (get_or ends i 0) ≤ len)
ends_rise_at start [] len i h lt = absurd (omega (arith, lt))
ends_rise_at start (entry ∷ ends) len zero h lt = (h.0, ends_rise_to (end_of entry) ends len h.1)
ends_rise_at start (entry ∷ ends) len (suc i) h lt = ends_rise_at (end_of entry) ends len i h.1 (omega (arith, lt))

pub cells_from-push : (body : List ℕ) (start : ℕ) (ends : List ℕ) (entry : ℕ) → cells_from body start (ends ++ entry ∷ []) ≡ cells_from body start ends ++ cell_to body (last_end start ends) entry ∷ []
cells_from-push body start [] entry = refl
cells_from-push body start (first ∷ ends) entry = ap (λ (cells : List (Option (List ℕ))). cell_to body start first ∷ cells) (cells_from-push body (end_of first) ends entry)

pub last_end-push : (start : ℕ) (ends : List ℕ) (entry : ℕ) → last_end start (ends ++ entry ∷ []) ≡ end_of entry
last_end-push start [] entry = refl
last_end-push start (first ∷ ends) entry = last_end-push (end_of first) ends entry

pub ends_rise_push : (start : ℕ) (ends : List ℕ) (entry len : ℕ) → EndsRise start ends len → last_end start ends + 4 ≤ end_of entry → end_of entry ≤ len → EndsRise start (ends ++ entry ∷ []) len
ends_rise_push start [] entry len h rises within = (rises, within)
ends_rise_push start (first ∷ ends) entry len h rises within = (h.0, ends_rise_push (end_of first) ends entry len h.1 rises within)

-- the end of a value is below the top bit
pub value_end : (entry : ℕ) → is_null entry ≡ false → end_of entry ≡ entry
value_end entry value =
    elim (cases_lt entry null_bit) [
      | inl small ↦ omega (arith, small)
      | inr large ↦ absurd (both_ways (is_null entry) value (le-leb null_bit entry large))
    ]

pub cell_to-value : (body : List ℕ) (start entry : ℕ) → is_null entry ≡ false → cell_to body start entry ≡ Some (slice_range body (start + 4) (end_of entry))
cell_to-value body start entry value = rw (value_end entry value, value) refl

pub cell_to-null : (body : List ℕ) (start entry : ℕ) → is_null entry ≡ true → cell_to body start entry ≡ None
cell_to-null body start entry null = rw null refl

-- ---- cells that are read

-- a value follows its length
pub value_is_at : (body value : List ℕ) (at n : ℕ) → Signed 4 (drop at body) (pos n) (drop (at + 4) body) → at + 4 + n ≤ length body → value ≡ take n (drop (at + 4) body)
    → IsReadAt cell body at (Some value) (at + 4 + n)
value_is_at body value at n length_is fits is =
    let after = drop (at + 4) body in
    let size : length value ≡ n = ap length is ∙ omega (arith, length-take n after, length-drop (at + 4) body) in
    let split : after ≡ value ++ drop (at + 4 + n) body = sym (take-append-drop n after) ∙ ap (λ (l : List ℕ). l ++ drop n after) (sym is) ∙ ap (λ (l : List ℕ). value ++ l) (drop-drop n (at + 4) body) in
    record { within = fits; reads = ((pos n, Some value), record { mid = after; first = length_is; second = (value, (size, split), refl) }, refl) }

-- nothing follows a length below 0
null_after : (z : ℤ) (rest : List ℕ) → z <ℤ pos 0 → (cell_after z).Reads rest None rest
null_after (pos n) rest h = absurd (omega (arith, ints, h))
null_after (negsuc n) rest h = (refl, refl)

pub null_is_at : (body : List ℕ) (at : ℕ) (z : ℤ) → at ≤ length body → Signed 4 (drop at body) z (drop (at + 4) body) → z <ℤ pos 0 → IsReadAt cell body at None (at + 4)
null_is_at body at z within length_is below =
    let after = drop (at + 4) body in
    let stands = stands_at be_i32 4 (takes_signed 4) body at z within length_is in
    record { within = stands.within; reads = ((z, None), record { mid = after; first = length_is; second = null_after z after below }, refl) }

-- a length, and fewer bytes after it
pub value_is_short : (body : List ℕ) (at n : ℕ) (fault : ProtocolFault) → at + 4 ≤ length body → Signed 4 (drop at body) (pos n) (drop (at + 4) body) → IsShort body (at + 4) n fault → BreaksAt cell body at fault
value_is_short body at n fault within length_is short =
    inr (record { value = pos n; mid = drop (at + 4) body; reads = length_is; breaks = lacks_at body (at + 4) n fault within short })

-- the bytes of a value after its length
value_bytes : (z : ℤ) (found : Option (List ℕ)) (value after rest : List ℕ) → Some value ≡ found → (cell_after z).Reads after found rest → after ≡ value ++ rest
value_bytes (pos n) found value after rest e p = let same : value ≡ p.0 = cc (e ∙ p.2) in p.1.1 ∙ ap (λ (l : List ℕ). l ++ rest) (sym same)
value_bytes (negsuc n) found value after rest e p = absurd (let none : Some value ≡ None = e ∙ p.0 in cc)

-- where a value is
pub value_at : (body value : List ℕ) (at end : ℕ) → IsReadAt cell body at (Some value) end → (end ≡ at + 4 + length value) × (slice_range body (at + 4) end ≡ value)
value_at body value at end p =
    let read = p.reads.1 in
    let field = read.first.spelled in
    let rest = drop end body in
    let bytes : read.mid ≡ value ++ rest = value_bytes p.reads.0.0 p.reads.0.1 value read.mid rest p.reads.2 read.second in
    let parts : drop at body ≡ field ++ (value ++ rest) = read.first.parts ∙ ap (λ (l : List ℕ). field ++ l) bytes in
    let long : end ≡ at + 4 + length value =
    omega (arith, p.within, ap length parts, length-append field (value ++ rest), length-append value rest, read.first.wide, length-drop at body, length-drop end body) in
    let count : end - (at + 4) ≡ length value = omega (arith, long) in
    let after : drop (at + 4) body ≡ value ++ rest = sym (drop-drop 4 at body) ∙ ap (drop 4) parts ∙ drop_at field (value ++ rest) 4 read.first.wide in
    (long, rw (count, after) (take_at value rest (length value) refl))

-- an entry that says where a cell ends, and whether it is NULL, gives the cell
pub entry_gives : (body : List ℕ) (found : Option (List ℕ)) (at end entry : ℕ) → IsReadAt cell body at found end → end_of entry ≡ end → is_null entry ≡ is_none found → cell_to body at entry ≡ found
entry_gives body None at end entry p ends null = cell_to-null body at entry null
entry_gives body (Some value) at end entry p ends null = cell_to-value body at entry null ∙ ap Some (rw ends ((value_at body value at end p).1))

-- a cell takes the bytes of its length at least
pub cell_is_wide : (body : List ℕ) (at end : ℕ) (found : Option (List ℕ)) → IsReadAt cell body at found end → at + 4 ≤ end
cell_is_wide body at end found p = omega (arith, p.within, takes_cell.takes (drop at body) (drop end body) found p.reads, length-drop at body, length-drop end body)

-- ---- rows

pub cells_fit : (body : List ℕ) (cells : List (Option (List ℕ))) → Means data_row body cells → 2 + 4 * length cells ≤ length body
cells_fit body cells p =
    let v = p.1 in
    omega (arith, number_fits 2 body v.0.0 v.1.mid v.1.first, (times_take 4 takes_cell v.0.0).takes v.1.mid p.0 v.0.1 v.1.second, v.1.second.0, ap length v.2)

-- what is read before a cell, and the cell
read_between : (front : List (Option (List ℕ))) (found : Option (List ℕ)) (back : List (Option (List ℕ))) (bytes rest : List ℕ) → AreRead cell bytes (front ++ found ∷ back) rest
    → (left : List ℕ) × (more : List ℕ) × AreRead cell bytes front left × cell.Reads left found more
read_between [] found back bytes rest p = (bytes, p.0, refl, p.1)
read_between (first ∷ front) found back bytes rest p = let q = read_between front found back p.0 rest p.2 in (q.0, q.1, (p.0, p.1, q.2), q.3)

pub value_is_after : (body : List ℕ) (front : List (Option (List ℕ))) (value : List ℕ) (back : List (Option (List ℕ))) → Means data_row body (front ++ Some value ∷ back) → IsAfter body front value
value_is_after body front value back p =
    let v = p.1 in
    let after_count : drop 2 body ≡ v.1.mid = rw v.1.first.parts (drop_at v.1.first.spelled v.1.mid 2 v.1.first.wide) in
    let all : AreRead cell (drop 2 body) (front ++ Some value ∷ back) p.0 = rw (after_count, v.2) v.1.second.1 in
    let q = read_between front (Some value) back (drop 2 body) p.0 all in
    let read = q.3.1 in
    let bytes = value_bytes q.3.0.0 q.3.0.1 value read.mid q.1 q.3.2 read.second in
    record {
      left = q.0;
      field = read.first.spelled;
      after = q.1;
      are_read = q.2;
      wide = read.first.wide;
      parts = read.first.parts ∙ ap (λ (l : List ℕ). read.first.spelled ++ l) bytes;
    }

-- ---- a cell that is missing

pub not_some : (none some : Bool) → some ≡ not none → none ≡ not some
not_some true some e = rw e refl
not_some false some e = rw e refl

pub is_none-copied : (cell : Option (Bor (List ℕ))) → is_none (option_copied cell) ≡ is_none cell
is_none-copied None = refl
is_none-copied (Some value) = refl

-- ---- ends that are kept

pub keeps_none : (body : List ℕ) (first : ℕ) → first ≤ length body → KeepsEnds body first [] [] first
keeps_none body first within = record { within = within; last = refl; rise = within; cells_are = refl }

pub keeps_one_more : (body : List ℕ) (first at end entry : ℕ) (ends : List ℕ) (cells : List (Option (List ℕ))) (found : Option (List ℕ)) → KeepsEnds body first ends cells at → IsReadAt cell body at found end
    → end_of entry ≡ end → is_null entry ≡ is_none found → KeepsEnds body first (ends ++ entry ∷ []) (cells ++ found ∷ []) end
keeps_one_more body first at end entry ends cells found kept read ends_there null =
    let gives : cell_to body at entry ≡ found = entry_gives body found at end entry read ends_there null in
    let rises : last_end first ends + 4 ≤ end_of entry = omega (arith, kept.last, ends_there, cell_is_wide body at end found read) in
    record {
      within = read.within;
      last = sym ends_there ∙ sym (last_end-push first ends entry);
      rise = ends_rise_push first ends entry (length body) kept.rise rises (omega (arith, ends_there, read.within));
      cells_are = rw (cells_from-push body first ends entry, ← kept.last, gives, kept.cells_are) refl;
    }

kept_there : (body bytes : List ℕ) (at end : ℕ) (ends : List ℕ) (cells : List (Option (List ℕ))) → bytes ≡ body → at ≡ 2 → KeepsEnds bytes at ends cells end → KeepsEnds body 2 ends cells end
kept_there body bytes at end ends cells e f p = rw (e, f) at p

-- where the cells of a row end, once all are read into a list without any
pub ends_read : (body : List ℕ) (reading : Reading) (old new : List ℕ) (cells : List (Option (List ℕ))) (end : ℕ) → Begins 4 body reading → old ≡ [] → IsReadAt (times reading.left cell) reading.body reading.at cells end
    → (KeepsEnds reading.body reading.at old [] reading.at → KeepsEnds reading.body reading.at new cells end) → Means data_row body (cells_from body 2 new) × EndsRise 2 new (length body)
ends_read body reading old new cells end begins none read keeps =
    let within : reading.at ≤ length reading.body = omega (arith, begins.first, begins.holds, ap length begins.whole) in
    let kept = kept_there body reading.body reading.at end new cells begins.whole begins.first (keeps (rw none (keeps_none reading.body reading.at within))) in
    (rw kept.cells_are (all_meant cell 4 body reading cells end begins read), kept.rise)
