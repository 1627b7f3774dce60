-- Where the parts of a message of logical replication stand.
use Rattle.std.specs.Prelude.{◌==◌}
use Rattle.std.proofs.Common.{◌≡◌, ℕ, ◌+◌, ◌-◌, ◌≤◌, Bool, true, false, ℤ, List, [], ◌∷◌, ◌++◌, length, drop, Option, Some, refl, sym, ap, ◌∙◌, arith, append_assoc, length-append, length-drop}
use Rattle.std.proofs.lemmas.List.{drop-drop, drop_at, drop_all, take_at}
use Rattle.pg_base.specs.Reading.{Number, Signed, Text}
use Rattle.pg_base.specs.declared.error.ProtocolFault.TheVariants.{UnknownLetter}
use Rattle.pg_format.specs.Format.{Format, Means}
use Rattle.pg_format.specs.Format.Lists.{counted}
use Rattle.pg_format.specs.Format.Parts.{be_u32, fail}
use Rattle.pg_format.specs.Format.Sequences.{case_of, choose}
use Rattle.pg_format.specs.Logical as page
use Rattle.pg_format.specs.Logical.{transaction, sized, Datum, datum, tuple, new_tuple, column, key, whole, key_of, whole_of, old_tuple}
use Rattle.pg_format.specs.Replication.{letter}
use Rattle.pg_c.specs.Place.{bytes_in}
use Rattle.pg_c.specs.Replication.Logical.{ListStands, old_values}
use Rattle.pg_c.specs.Replication.Logical.Places.{Behind, list_of, fields_after, row_place}
use Rattle.pg_c.proofs.PlaceLemmas.{bytes_found}

-- ---- what follows a part

further : (bytes mid spelled rest : List ℕ) (at width : ℕ) → Behind bytes at mid → length spelled ≡ width → mid ≡ spelled ++ rest → Behind bytes (at + width) rest
further bytes mid spelled rest at width p wide parts = record {
  within = omega (arith, p.within, wide, ap length p.is, ap length parts, length-append spelled rest, length-drop at bytes);
  is = sym (drop-drop width at bytes) ∙ ap (λ (l : List ℕ). drop width l) (p.is ∙ parts) ∙ drop_at spelled rest width wide;
}

pub after_number : (width : ℕ) (bytes mid rest : List ℕ) (at n : ℕ) → Behind bytes at mid → Number width mid n rest → Behind bytes (at + width) rest
after_number width bytes mid rest at n p q = further bytes mid q.spelled rest at width p q.wide q.parts

after_signed : (width : ℕ) (bytes mid rest : List ℕ) (at : ℕ) (z : ℤ) → Behind bytes at mid → Signed width mid z rest → Behind bytes (at + width) rest
after_signed width bytes mid rest at z p q = further bytes mid q.spelled rest at width p q.wide q.parts

after_text : (bytes mid text rest : List ℕ) (at : ℕ) → Behind bytes at mid → Text mid text rest → Behind bytes (at + length text + 1) rest
after_text bytes mid text rest at p q =
    let place : at + (length text + 1) ≡ at + length text + 1 = omega arith in
    rw (← place) (further bytes mid (text ++ 0 ∷ []) rest at (length text + 1) p (length-append text (0 ∷ [])) (q.parts ∙ sym (append_assoc text (0 ∷ []) rest)))

pub after_letter : (own : ℕ) (bytes mid rest : List ℕ) (at : ℕ) → Behind bytes at mid → (letter own).Reads mid tt rest → Behind bytes (at + 1) rest
after_letter own bytes mid rest at p q = further bytes mid (q.0 ∷ []) rest at 1 p refl q.1

pub after_transaction : (streamed : Bool) (bytes mid : List ℕ) (t : Option ℕ) → Behind bytes 1 (drop 1 bytes) → (transaction streamed).Reads (drop 1 bytes) t mid → Behind bytes (fields_after t) mid
after_transaction true bytes mid t p q = rw q.2 (after_number 4 bytes (drop 1 bytes) mid 1 q.0 p q.1)
after_transaction false bytes mid t p q = rw (q.0, q.1) p

pub at_end : (bytes : List ℕ) → Behind bytes (length bytes) []
at_end bytes = record { within = omega arith; is = drop_all (length bytes) bytes (omega arith) }

pub moved : (bytes rest : List ℕ) (at place : ℕ) → at ≡ place → Behind bytes at rest → Behind bytes place rest
moved bytes rest at place e p = rw e at p

-- ---- what stands there

value_stands : (bytes mid value back : List ℕ) (at : ℕ) → Behind bytes at mid → mid ≡ value ++ back → bytes_in bytes at (length value) ≡ Some value
value_stands bytes mid value back at p parts =
    let all : drop at bytes ≡ value ++ back = p.is ∙ parts in
    let count : at + length value - at ≡ length value = omega arith in
    let inside : at + length value ≤ length bytes = omega (arith, p.within, ap length all, length-append value back, length-drop at bytes) in
    bytes_found bytes value at inside (rw (count, all) (take_at value back (length value) refl))

pub text_stands : (bytes mid text rest : List ℕ) (at : ℕ) → Behind bytes at mid → Text mid text rest → bytes_in bytes at (length text) ≡ Some text
text_stands bytes mid text rest at p q = value_stands bytes mid text (0 ∷ rest) at p q.parts

pub sized_stands : (bytes mid value rest : List ℕ) (at : ℕ) → Behind bytes at mid → sized.Reads mid value rest → bytes_in bytes (at + 4) (length value) ≡ Some value
sized_stands bytes mid value rest at p q = rw q.2 (value_stands bytes q.1.mid q.0.1 rest (at + 4) (after_number 4 bytes mid q.1.mid at q.0.0 p q.1.first) q.1.second.1)

pub counted_stand : {X : Type 0} (g : Format X) (bytes mid rest : List ℕ) (at place end : ℕ) (items : List X) → at + 2 ≡ place → Behind bytes at mid → Behind bytes end rest
    → (counted g).Reads mid items rest → ListStands g bytes (list_of place items) items
counted_stand g bytes mid rest at place end items e p q r =
    let first = moved bytes r.1.mid (at + 2) place e (after_number 2 bytes mid r.1.mid at r.0.0 p r.1.first) in
    record { within = first.within; stand = record { end = end; read = record { within = q.within; reads = (refl, rw (first.is, q.is, r.2) r.1.second.1) } } }

-- a new row
pub new_stands : (bytes mid : List ℕ) (at : ℕ) (values : List Datum) → Behind bytes at mid → new_tuple.Reads mid (tt, values) [] → ListStands datum bytes (row_place at values) values
new_stands bytes mid at values p q = counted_stand datum bytes q.mid [] (at + 1) (at + 3) (length bytes) values (omega arith) (after_letter 78 bytes mid q.mid at p q.first) (at_end bytes) q.second

row_by : (first second : Bool) (byte : ℕ) (mid rest : List ℕ) (o : page.Old) → (choose first (case_of key key_of tuple) (choose second (case_of whole whole_of tuple) (fail (UnknownLetter byte)))).Reads mid o rest
    → tuple.Reads mid (old_values o) rest
row_by true second byte mid rest o q = rw q.2 q.1
row_by false true byte mid rest o q = rw q.2 q.1
row_by false false byte mid rest o q = absurd q

-- what was sent of a row before its change: a letter, and a row
pub record OldRow (bytes : List ℕ) (at : ℕ) (o : page.Old) (rest : List ℕ) : Type 0 where
  pub mid : List ℕ
  pub behind : Behind bytes (at + 1) mid
  pub reads : tuple.Reads mid (old_values o) rest

pub old_row : (bytes mid rest : List ℕ) (at : ℕ) (o : page.Old) → Behind bytes at mid → old_tuple.Reads mid o rest → OldRow bytes at o rest
old_row bytes mid rest at o p q = record {
  mid = q.1.mid;
  behind = after_number 1 bytes mid q.1.mid at q.0.0 p q.1.first;
  reads = rw q.2 (row_by (q.0.0 == 75) (q.0.0 == 79) q.0.0 q.1.mid rest q.0.1 q.1.second);
}

pub old_stands : (bytes mid rest : List ℕ) (at end : ℕ) (o : page.Old) → Behind bytes at mid → Behind bytes end rest → old_tuple.Reads mid o rest → ListStands datum bytes (row_place at (old_values o)) (old_values o)
old_stands bytes mid rest at end o p q r =
    let row = old_row bytes mid rest at o p r in
    counted_stand datum bytes row.mid rest (at + 1) (at + 3) end (old_values o) (omega arith) row.behind q row.reads

-- ---- by the kind of message

module _ (bytes : List ℕ) (one : Behind bytes 1 (drop 1 bytes)) where
  pub message_at : (streamed : Bool) (m : page.Message) (at : ℕ) → at ≡ fields_after m.transaction → Means (page.message streamed) (drop 1 bytes) m
      → (bytes_in bytes (at + 9) (length m.prefix) ≡ Some m.prefix) × (bytes_in bytes (at + 9 + length m.prefix + 5) (length m.content) ≡ Some m.content)
  message_at streamed m at e p =
      let t = p.0 in
      let flags = t.second in
      let lsn = flags.second in
      let prefix = lsn.second in
      let fields = moved bytes t.mid (fields_after m.transaction) at (sym e) (after_transaction streamed bytes t.mid m.transaction one t.first) in
      let two = after_number 1 bytes t.mid flags.mid at m.flags fields flags.first in
      let three = moved bytes lsn.mid (at + 1 + 8) (at + 9) (omega arith) (after_number 8 bytes flags.mid lsn.mid (at + 1) m.lsn two lsn.first) in
      let four = after_text bytes lsn.mid m.prefix prefix.mid (at + 9) three prefix.first in
      let place : at + 9 + length m.prefix + 1 + 4 ≡ at + 9 + length m.prefix + 5 = omega arith in
      (text_stands bytes lsn.mid m.prefix prefix.mid (at + 9) three prefix.first, rw (← place) (sized_stands bytes prefix.mid m.content [] (at + 9 + length m.prefix + 1) four prefix.second))

  pub origin_at : (o : page.Origin) → Means page.origin (drop 1 bytes) o → bytes_in bytes 9 (length o.name) ≡ Some o.name
  origin_at o p = text_stands bytes p.0.mid o.name [] 9 (after_number 8 bytes (drop 1 bytes) p.0.mid 1 o.lsn one p.0.first) p.0.second

  -- after the number of a table or a type
  pub numbered : (streamed : Bool) (mid rest : List ℕ) (t : Option ℕ) (n at : ℕ) → at ≡ fields_after t → (transaction streamed).Reads (drop 1 bytes) t mid → Number 4 mid n rest → Behind bytes (at + 4) rest
  numbered streamed mid rest t n at e p q = after_number 4 bytes mid rest at n (moved bytes mid (fields_after t) at (sym e) (after_transaction streamed bytes mid t one p)) q

  pub record NamesStand (at : ℕ) (schema name : List ℕ) : Type 0 where
    pub schema_stands : bytes_in bytes at (length schema) ≡ Some schema
    pub name_stands : bytes_in bytes (at + length schema + 1) (length name) ≡ Some name

  names_at : (mid after rest schema name : List ℕ) (at : ℕ) → Behind bytes at mid → Text mid schema after → Text after name rest → NamesStand at schema name
  names_at mid after rest schema name at p q r = record {
    schema_stands = text_stands bytes mid schema after at p q;
    name_stands = text_stands bytes after name rest (at + length schema + 1) (after_text bytes mid schema after at p q) r;
  }

  pub type_name_at : (streamed : Bool) (t : page.TypeName) (at : ℕ) → at ≡ fields_after t.transaction → Means (page.type_name streamed) (drop 1 bytes) t → NamesStand (at + 4) t.schema t.name
  type_name_at streamed t at e p =
      let number = p.0.second in
      let names = number.second in
      names_at number.mid names.mid [] t.schema t.name (at + 4) (numbered streamed p.0.mid number.mid t.transaction t.type_id at e p.0.first number.first) names.first names.second

  pub record RelationStands (at : ℕ) (r : page.Relation) : Type 0 where
    pub names : NamesStand (at + 4) r.schema r.name
    pub columns : ListStands column bytes (list_of (at + 4 + length r.schema + 1 + length r.name + 4) r.columns) r.columns
    pub fits : length r.schema + length r.name ≤ length bytes

  pub relation_at : (streamed : Bool) (r : page.Relation) (at : ℕ) → at ≡ fields_after r.transaction → Means (page.relation streamed) (drop 1 bytes) r → RelationStands at r
  relation_at streamed r at e p =
      let number = p.0.second in
      let schema = number.second in
      let name = schema.second in
      let identity = name.second in
      let two = numbered streamed p.0.mid number.mid r.transaction r.relation at e p.0.first number.first in
      let three = after_text bytes number.mid r.schema schema.mid (at + 4) two schema.first in
      let four = after_text bytes schema.mid r.name name.mid (at + 4 + length r.schema + 1) three name.first in
      let five = after_number 1 bytes name.mid identity.mid (at + 4 + length r.schema + 1 + length r.name + 1) r.replica_identity four identity.first in
      record {
        names = names_at number.mid schema.mid name.mid r.schema r.name (at + 4) two schema.first name.first;
        columns = counted_stand column bytes identity.mid [] (at + 4 + length r.schema + 1 + length r.name + 1 + 1) (at + 4 + length r.schema + 1 + length r.name + 4) (length bytes) r.columns (omega arith) five (at_end bytes) identity.second;
        fits = omega (arith, five.within);
      }

  pub insert_at : (streamed : Bool) (i : page.Insert) (at : ℕ) → at ≡ fields_after i.transaction → Means (page.insert streamed) (drop 1 bytes) i → ListStands datum bytes (row_place (at + 4) i.new) i.new
  insert_at streamed i at e p =
      let number = p.0.second in
      new_stands bytes number.mid (at + 4) i.new (numbered streamed p.0.mid number.mid i.transaction i.relation at e p.0.first number.first) number.second

  pub delete_at : (streamed : Bool) (d : page.Delete) (at : ℕ) → at ≡ fields_after d.transaction → Means (page.delete streamed) (drop 1 bytes) d → ListStands datum bytes (row_place (at + 4) (old_values d.old)) (old_values d.old)
  delete_at streamed d at e p =
      let number = p.0.second in
      old_stands bytes number.mid [] (at + 4) (length bytes) d.old (numbered streamed p.0.mid number.mid d.transaction d.relation at e p.0.first number.first) (at_end bytes) number.second

  pub truncate_at : (streamed : Bool) (t : page.Truncate) (at : ℕ) → at ≡ fields_after t.transaction → Means (page.truncate streamed) (drop 1 bytes) t → ListStands be_u32 bytes (list_of (at + 5) t.relations) t.relations
  truncate_at streamed t at e p =
      let list = p.0.second in
      let count = list.1 in
      let options = count.second in
      let fields = moved bytes p.0.mid (fields_after t.transaction) at (sym e) (after_transaction streamed bytes p.0.mid t.transaction one p.0.first) in
      let two = after_number 4 bytes p.0.mid count.mid at list.0.0 fields count.first in
      let three = moved bytes options.mid (at + 4 + 1) (at + 5) (omega arith) (after_number 1 bytes count.mid options.mid (at + 4) list.0.1.0 two options.first) in
      let same : t.relations ≡ list.0.1.1 = cc list.2 in
      let last = at_end bytes in
      record { within = three.within; stand = record { end = length bytes; read = record { within = last.within; reads = (refl, rw (three.is, last.is, same) options.second.1) } } }

  pub begin_prepare_at : (b : page.BeginPrepare) → Means page.begin_prepare (drop 1 bytes) b → bytes_in bytes 29 (length b.gid) ≡ Some b.gid
  begin_prepare_at b p =
      let lsn = p.0 in
      let end = lsn.second in
      let clock = end.second in
      let number = clock.second in
      let two = after_number 8 bytes (drop 1 bytes) lsn.mid 1 b.lsn one lsn.first in
      let three = after_number 8 bytes lsn.mid end.mid 9 b.end_lsn two end.first in
      let four = after_signed 8 bytes end.mid clock.mid 17 b.clock three clock.first in
      text_stands bytes number.mid b.gid [] 29 (after_number 4 bytes clock.mid number.mid 25 b.transaction four number.first) number.second

  pub prepared_at : (b : page.Prepared) → Means page.prepared (drop 1 bytes) b → bytes_in bytes 30 (length b.gid) ≡ Some b.gid
  prepared_at b p =
      let flags = p.0 in
      let lsn = flags.second in
      let end = lsn.second in
      let clock = end.second in
      let number = clock.second in
      let one_more = after_number 1 bytes (drop 1 bytes) flags.mid 1 b.flags one flags.first in
      let two = after_number 8 bytes flags.mid lsn.mid 2 b.lsn one_more lsn.first in
      let three = after_number 8 bytes lsn.mid end.mid 10 b.end_lsn two end.first in
      let four = after_signed 8 bytes end.mid clock.mid 18 b.clock three clock.first in
      text_stands bytes number.mid b.gid [] 30 (after_number 4 bytes clock.mid number.mid 26 b.transaction four number.first) number.second

  pub rollback_prepared_at : (b : page.RollbackPrepared) → Means page.rollback_prepared (drop 1 bytes) b → bytes_in bytes 38 (length b.gid) ≡ Some b.gid
  rollback_prepared_at b p =
      let flags = p.0 in
      let lsn = flags.second in
      let end = lsn.second in
      let clock = end.second in
      let undone = clock.second in
      let number = undone.second in
      let one_more = after_number 1 bytes (drop 1 bytes) flags.mid 1 b.flags one flags.first in
      let two = after_number 8 bytes flags.mid lsn.mid 2 b.prepare_end_lsn one_more lsn.first in
      let three = after_number 8 bytes lsn.mid end.mid 10 b.rollback_end_lsn two end.first in
      let four = after_signed 8 bytes end.mid clock.mid 18 b.prepare_clock three clock.first in
      let five = after_signed 8 bytes clock.mid undone.mid 26 b.rollback_clock four undone.first in
      text_stands bytes number.mid b.gid [] 38 (after_number 4 bytes undone.mid number.mid 34 b.transaction five number.first) number.second
