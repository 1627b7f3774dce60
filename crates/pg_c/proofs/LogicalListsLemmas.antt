-- Lists of a message of logical replication that are there are read.
use Rattle.std.specs.Prelude.{◌==◌}
use Rattle.std.proofs.Common.{◌≡◌, ℕ, ◌+◌, ◌<◌, ◌≤◌, ◌⊎◌, Bool, true, false, List, [], ◌∷◌, length, take, drop, get_or, Option, Some, Result, Ok, Err, IfErr, inl, inr, refl, ap, subst, arith, length-append, length-drop}
use Rattle.std.proofs.lemmas.List.{drop_more}
use Rattle.pg_base.proofs.ReadingLemmas.{number_fits, signed_fits}
use Rattle.pg_base.specs.Reading.{Number}
use Rattle.pg_base.specs.declared.error.ProtocolFault.{ProtocolFault}
use Rattle.pg_base.specs.declared.error.ProtocolFault.TheVariants.{UnknownLetter}
use Rattle.pg_format.proofs.FormatLaws.Lists.{lawful_times}
use Rattle.pg_format.proofs.FormatLaws.Places.{items_then_fault}
use Rattle.pg_format.proofs.FormatLaws.Logical.{lawful_datum, lawful_table_column}
use Rattle.pg_format.specs.Format.{Format, Lawful}
use Rattle.pg_format.specs.Format.Lists.{AreRead, times}
use Rattle.pg_format.specs.Format.Parts.{success, fail}
use Rattle.pg_format.specs.Format.Places.{BreaksAt, IsReadAt}
use Rattle.pg_format.specs.Format.Sequences.{case_of, choose}
use Rattle.pg_format.specs.Logical.{Datum, datum, datum_by, sized, column, null, unchanged, text, binary, text_of, binary_of}
use Rattle.pg_format.specs.Logical as page
use Rattle.pg_format.specs.Received.{max_body}
use Rattle.pg_c.specs.Place.{bytes_in, nowhere, span_of}
use Rattle.pg_c.specs.Read.{GivesItems, IsBodyFault}
use Rattle.pg_c.specs.Replication.Logical.{ListStands}
use Rattle.pg_c.specs.Replication.Logical.Lists.{BreaksList, FaultAfter, Finds, GivesUpTo, datum_in}
use Rattle.pg_c.specs.Replication.Logical.Places.{Behind}
use Rattle.pg_c.specs.declared.place.PgmsgList.{PgmsgList}
use Rattle.pg_c.specs.declared.replication.logical.lists.PgmsgDatum.{PgmsgDatum}
use Rattle.pg_c.proofs.ClientValuesLemmas.{bytes_stand}
use Rattle.pg_c.proofs.LogicalPlacesLemmas.{after_number, text_stands, sized_stands}

-- an item has a byte at least
abbrev Takes : {X : Type 0} → Format X → Type 0
Takes {X} g = (bytes rest : List ℕ) (x : X) → g.Reads bytes x rest → 1 + length rest ≤ length bytes

many_take : {X : Type 0} (g : Format X) → Takes g → (items : List X) (bytes rest : List ℕ) → AreRead g bytes items rest → length items + length rest ≤ length bytes
many_take g takes [] bytes rest p = omega (arith, ap length p)
many_take g takes (x ∷ items) bytes rest p = omega (arith, takes bytes p.0 x p.1, many_take g takes items p.0 rest p.2)

-- a list that is there has no fault
never_breaks : {X : Type 0} (g : Format X) → Lawful g → Takes g → (bytes : List ℕ) (list : PgmsgList) (items : List X) (fault : ProtocolFault) → length bytes ≤ max_body → ListStands g bytes list items
    → IsBodyFault (BreaksList g list) bytes fault → ⊥
never_breaks g lawful takes bytes list items fault short p (inl long) = omega (arith, short, long.0)
never_breaks g lawful takes bytes list items fault short p (inr (_, inl lacks)) =
    let read = p.stand.read in
    omega (arith, lacks.lacks, p.within, read.reads.0, many_take g takes items (drop list.at bytes) (drop p.stand.end bytes) read.reads.1, length-drop list.at bytes)
never_breaks g lawful takes bytes list items fault short p (inr (_, inr breaks)) =
    (lawful_times lawful list.count).never_both (length bytes) (drop list.at bytes) (drop p.stand.end bytes) items fault p.stand.read.reads breaks

sized_takes : (bytes value rest : List ℕ) → sized.Reads bytes value rest → length rest ≤ length bytes
sized_takes bytes value rest p = omega (arith, number_fits 4 bytes p.0.0 p.1.mid p.1.first, ap length p.1.second.1, length-append p.0.1 rest)

datum_takes : (first second third fourth : Bool) (byte : ℕ) (bytes rest : List ℕ) (d : Datum)
    → (choose first (success null) (choose second (success unchanged) (choose third (case_of text text_of sized) (choose fourth (case_of binary binary_of sized) (fail (UnknownLetter byte)))))).Reads bytes d rest
    → length rest ≤ length bytes
datum_takes true second third fourth byte bytes rest d p = omega (arith, ap length p.1)
datum_takes false true third fourth byte bytes rest d p = omega (arith, ap length p.1)
datum_takes false false true fourth byte bytes rest d p = sized_takes bytes p.0 rest p.1
datum_takes false false false true byte bytes rest d p = sized_takes bytes p.0 rest p.1
datum_takes false false false false byte bytes rest d p = absurd p

datums_take : Takes datum
datums_take bytes rest d p =
    let byte = p.0.0 in
    omega (arith, number_fits 1 bytes byte p.1.mid p.1.first, datum_takes (byte == 110) (byte == 117) (byte == 116) (byte == 98) byte p.1.mid rest p.0.1 p.1.second)

columns_take : Takes column
columns_take bytes rest c p =
    let name = p.second in
    let type_id = name.second in
    let modifier = type_id.second in
    omega (
      arith,
      number_fits 1 bytes c.flags p.mid p.first,
      ap length name.first.parts,
      length-append c.name (0 ∷ name.mid),
      number_fits 4 name.mid c.type_id type_id.mid type_id.first,
      signed_fits 4 type_id.mid c.type_modifier rest modifier,
    )

pub row_never_breaks : (bytes : List ℕ) (list : PgmsgList) (items : List Datum) (fault : ProtocolFault) → length bytes ≤ max_body → ListStands datum bytes list items → IsBodyFault (BreaksList datum list) bytes fault → ⊥
row_never_breaks = never_breaks datum lawful_datum datums_take

pub columns_never_break : (bytes : List ℕ) (list : PgmsgList) (items : List page.Column) (fault : ProtocolFault) → length bytes ≤ max_body → ListStands column bytes list items → IsBodyFault (BreaksList column list) bytes fault → ⊥
columns_never_break = never_breaks column lawful_table_column columns_take

-- ---- where the parts of an item are

-- what follows a byte
after_byte : (body mid : List ℕ) (at byte : ℕ) → Number 1 (drop at body) byte mid → Behind body (at + 1) mid
after_byte body mid at byte p =
    let within : at ≤ length body = omega (arith, number_fits 1 (drop at body) byte mid p, length-drop at body) in
    after_number 1 body (drop at body) mid at byte (record { within = within; is = refl }) p

pub column_name : (body : List ℕ) (at end : ℕ) (c : page.Column) → IsReadAt column body at c end → bytes_in body (at + 1) (length c.name) ≡ Some c.name
column_name body at end c p =
    let name = p.reads.second in
    text_stands body p.reads.mid c.name name.mid (at + 1) (after_byte body p.reads.mid at c.flags p.reads.first) name.first

text_by : (first second third fourth : Bool) (byte : ℕ) (bytes rest t : List ℕ)
    → (choose first (success null) (choose second (success unchanged) (choose third (case_of text text_of sized) (choose fourth (case_of binary binary_of sized) (fail (UnknownLetter byte)))))).Reads bytes (text t) rest
    → sized.Reads bytes t rest
text_by true second third fourth byte bytes rest t p = absurd (cc p.0)
text_by false true third fourth byte bytes rest t p = absurd (cc p.0)
text_by false false true fourth byte bytes rest t p = let same : t ≡ p.0 = cc p.2 in rw same p.1
text_by false false false true byte bytes rest t p = absurd (cc p.2)
text_by false false false false byte bytes rest t p = absurd p

binary_by : (first second third fourth : Bool) (byte : ℕ) (bytes rest t : List ℕ)
    → (choose first (success null) (choose second (success unchanged) (choose third (case_of text text_of sized) (choose fourth (case_of binary binary_of sized) (fail (UnknownLetter byte)))))).Reads bytes (binary t) rest
    → sized.Reads bytes t rest
binary_by true second third fourth byte bytes rest t p = absurd (cc p.0)
binary_by false true third fourth byte bytes rest t p = absurd (cc p.0)
binary_by false false true fourth byte bytes rest t p = absurd (cc p.2)
binary_by false false false true byte bytes rest t p = let same : t ≡ p.0 = cc p.2 in rw same p.1
binary_by false false false false byte bytes rest t p = absurd p

-- bytes after their letter and their length
sent_at : (body mid t rest : List ℕ) (at byte : ℕ) → Number 1 (drop at body) byte mid → sized.Reads mid t rest → bytes_in body (at + 5) (length t) ≡ Some t
sent_at body mid t rest at byte p q =
    let place : at + 1 + 4 ≡ at + 5 = omega arith in
    rw (← place) (sized_stands body mid t rest (at + 1) (after_byte body mid at byte p) q)

pub text_is : (body : List ℕ) (at end : ℕ) (t : List ℕ) → IsReadAt datum body at (text t) end → datum_in body (record { kind = 116; value = span_of (at + 5) t }) ≡ Some (text t)
text_is body at end t p =
    let q = p.reads in
    let byte = q.0.0 in
    let value = text_by (byte == 110) (byte == 117) (byte == 116) (byte == 98) byte q.1.mid (drop end body) t (rw q.2 q.1.second) in
    rw (sent_at body q.1.mid t (drop end body) at byte q.1.first value) refl

pub binary_is : (body : List ℕ) (at end : ℕ) (t : List ℕ) → IsReadAt datum body at (binary t) end → datum_in body (record { kind = 98; value = span_of (at + 5) t }) ≡ Some (binary t)
binary_is body at end t p =
    let q = p.reads in
    let byte = q.0.0 in
    let value = binary_by (byte == 110) (byte == 117) (byte == 116) (byte == 98) byte q.1.mid (drop end body) t (rw q.2 q.1.second) in
    rw (sent_at body q.1.mid t (drop end body) at byte q.1.first value) refl

-- ---- values and places

-- an item that can't be read, after fewer than are counted
pub one_is_broken : {X P : Type 0} (g : Format X) (item_at : P → Option X) (bytes : List ℕ) (list : PgmsgList) (at index : ℕ) (old new : List P) (fault : ProtocolFault)
    → GivesItems g item_at bytes list.at at index old new → index < list.count → BreaksAt g bytes at fault → BreaksAt (times list.count g) bytes list.at fault
one_is_broken g item_at bytes list at index old new fault p fewer breaks =
    items_then_fault g p.items list.count (length bytes) (drop list.at bytes) (drop at bytes) fault p.read.reads.1 breaks (omega (arith, p.read.reads.0, fewer))

-- the byte at an offset
pub byte_at : (body : List ℕ) (at : ℕ) → at < length body → Number 1 (drop at body) (get_or body at 0) (drop (at + 1) body)
byte_at body at lt = record { spelled = get_or body at 0 ∷ []; wide = refl; is = omega arith; parts = drop_more body at 0 lt }

-- what follows a letter is a value
lettered : (body : List ℕ) (at end : ℕ) (d : Datum) → at < length body → IsReadAt (datum_by (get_or body at 0)) body (at + 1) d end → IsReadAt datum body at d end
lettered body at end d lt p = record { within = p.within; reads = ((get_or body at 0, d), record { mid = drop (at + 1) body; first = byte_at body at lt; second = p.reads }, refl) }

abbrev FindsDatum : List ℕ → ℕ → PgmsgDatum → ℕ → Type 0
FindsDatum body at place end = Finds datum datum_in body at place end

pub without_value_found : (body : List ℕ) (at : ℕ) → at < length body → (get_or body at 0 ≡ 110) ⊎ (get_or body at 0 ≡ 117) → FindsDatum body at (record { kind = get_or body at 0; value = nowhere }) (at + 1)
without_value_found body at lt (inl e) = record { item = null; read = lettered body at (at + 1) null lt (record { within = omega (arith, lt); reads = rw e (refl, refl) }); is = rw e refl }
without_value_found body at lt (inr e) = record { item = unchanged; read = lettered body at (at + 1) unchanged lt (record { within = omega (arith, lt); reads = rw e (refl, refl) }); is = rw e refl }

-- so many bytes after a letter and their number
record SizedAfter (body : List ℕ) (at n : ℕ) : Type 0 where
  reads : sized.Reads (drop (at + 1) body) (take n (drop (at + 5) body)) (drop (at + 5 + n) body)
  wide : length (take n (drop (at + 5) body)) ≡ n

sized_after : (body : List ℕ) (at n : ℕ) → at + 5 + n ≤ length body → Number 4 (drop (at + 1) body) n (drop (at + 5) body) → SizedAfter body at n
sized_after body at n inside p =
    let value = bytes_stand body (at + 5) n inside in
    record { reads = ((n, take n (drop (at + 5) body)), record { mid = drop (at + 5) body; first = p; second = value.reads }, refl); wide = value.reads.0 }

pub with_value_found : (body : List ℕ) (at n : ℕ) → at + 5 + n ≤ length body → (get_or body at 0 ≡ 116) ⊎ (get_or body at 0 ≡ 98) → Number 4 (drop (at + 1) body) n (drop (at + 5) body)
    → FindsDatum body at (record { kind = get_or body at 0; value = record { at = at + 5; len = n } }) (at + 5 + n)
with_value_found body at n inside (inl e) p =
    let value = take n (drop (at + 5) body) in
    let read : IsReadAt datum body at (text value) (at + 5 + n) = lettered body at (at + 5 + n) (text value) (omega (arith, inside)) (record { within = inside; reads = rw e (value, (sized_after body at n inside p).reads, refl) }) in
    let wide : length value ≡ n = (sized_after body at n inside p).wide in
    record { item = text value; read = read; is = rw e (subst (λ (k : ℕ). datum_in body (record { kind = 116; value = record { at = at + 5; len = k } }) ≡ Some (text value)) wide (text_is body at (at + 5 + n) value read)) }
with_value_found body at n inside (inr e) p =
    let value = take n (drop (at + 5) body) in
    let read : IsReadAt datum body at (binary value) (at + 5 + n) = lettered body at (at + 5 + n) (binary value) (omega (arith, inside)) (record { within = inside; reads = rw e (value, (sized_after body at n inside p).reads, refl) }) in
    let wide : length value ≡ n = (sized_after body at n inside p).wide in
    record { item = binary value; read = read; is = rw e (subst (λ (k : ℕ). datum_in body (record { kind = 98; value = record { at = at + 5; len = k } }) ≡ Some (binary value)) wide (binary_is body at (at + 5 + n) value read)) }

-- a fault of the rest is one of all, whatever is in front
pub fault_of_all : {X P : Type 0} (g : Format X) (item_in : List ℕ → P → Option X) (bytes : List ℕ) (list : PgmsgList) (at index : ℕ) (before now : List P) (r : Result ℕ ProtocolFault)
    → IfErr r (FaultAfter g item_in bytes list at index now) → GivesUpTo g item_in bytes list at index before now → IfErr r (BreaksAt (times list.count g) bytes list.at)
fault_of_all g item_in bytes list at index before now (Ok end) h front = tt
fault_of_all g item_in bytes list at index before now (Err fault) h front = h before front
