-- Where the parts of a message of logical replication that was read stand.
use Rattle.std.proofs.Common.{◌≡◌, ℕ, ◌+◌, ◌<◌, ◌≤◌, Bool, List, [], length, drop, Option, Result, Ok, Err, Some, None, MatchResult, inl, inr, refl, sym, ap, ◌∙◌, arith}
use Rattle.std.specs.Prelude.{option_map}
use Rattle.std.proofs.lemmas.Bool.{cases_lt}
use Rattle.pg_base.proofs.ReadingLemmas.{number_fits}
use Rattle.pg_base.specs.declared.error.ProtocolFault.{ProtocolFault}
use Rattle.pg_format.proofs.FormatLaws.Lists.{lawful_counted}
use Rattle.pg_format.proofs.FormatLaws.Logical.{lawful_datum}
use Rattle.pg_format.specs.Format.{Format, Lawful, Means}
use Rattle.pg_format.specs.Format.Parts.{be_u8, be_u32}
use Rattle.pg_format.specs.Format.Places.{BreaksAt, IsReadAt, ReadsAfter}
use Rattle.pg_format.specs.Format.Tests.{unless}
use Rattle.pg_format.specs.Logical as page
use Rattle.pg_format.specs.Logical.{Datum, datum, tuple, new_tuple, column, logical_letter, old_tuple}
use Rattle.pg_format.specs.Received.{max_body}
use Rattle.pg_format.specs.declared.logical.LogicalKind.{LogicalKind}
use Rattle.pg_format.specs.declared.logical.LogicalKind.TheVariants as kinds
use Rattle.pg_replication.specs.Lettered.{Reads, IsTooLong}
use Rattle.pg_replication.specs.Logical.{LogicalAnswer, ReadsLogical, ReadsLogicalKind, shown_message, shown_origin, shown_relation, shown_type_name, shown_insert, shown_update, shown_delete, shown_truncate, shown_begin_prepare, shown_prepared, shown_rollback_prepared}
use Rattle.pg_replication.specs.Logical.TableColumns.{columns_shown}
use Rattle.pg_replication.specs.Logical.Old.{shown_old}
use Rattle.pg_replication.specs.Logical.Relations.{relation_ids}
use Rattle.pg_replication.specs.Logical.Tuple.{datums}
use Rattle.pg_replication.specs.declared.logical.change.Update.{Update}
use Rattle.pg_replication.specs.declared.logical.logical_message.LogicalMessage.{LogicalMessage}
use Rattle.pg_replication.specs.declared.logical.logical_message.LogicalMessage.TheVariants as messages
use Rattle.pg_c.specs.Place.{StandsIn, span_of}
use Rattle.pg_c.specs.Replication.Logical.{IsGivenAs, ListStands, ReadsLogicalContent, begun, no_list, old_values}
use Rattle.pg_c.specs.Replication.Logical.Places.{Behind, MeansUpdate, OldIsGiven, OldReads, RowEnds, RowReads, fields_after, prefix_place, content_place, schema_place, name_place, columns_place, row_letter_at, row_place, relations_place}
use Rattle.pg_c.specs.declared.place.PgmsgList.{PgmsgList}
use Rattle.pg_c.specs.declared.replication.logical.read.PgmsgLogical.{PgmsgLogical}
use Rattle.pg_format.proofs.FormatLaws.Places.{none_at}
use Rattle.pg_c.proofs.LogicalPlacesLemmas.{numbered, old_row, old_stands, message_at, origin_at, relation_at, type_name_at, insert_at, delete_at, truncate_at, begin_prepare_at, prepared_at, rollback_prepared_at}

-- what a message has of texts and lists stands at its places
abbrev Placed : List ℕ → LogicalMessage → Type 0
Placed bytes (messages.Message m) = StandsIn bytes (prefix_place m) m.prefix.now × StandsIn bytes (content_place m) m.content.now
Placed bytes (messages.Origin o) = StandsIn bytes (span_of 9 o.name.now) o.name.now
Placed bytes (messages.Relation r) =
    StandsIn bytes (schema_place r.transaction r.schema.now) r.schema.now × StandsIn bytes (name_place r.transaction r.schema.now r.name.now) r.name.now
    × ListStands column bytes (columns_place r) (columns_shown r.columns) × (length r.schema.now + length r.name.now ≤ length bytes)
Placed bytes (messages.TypeName t) = StandsIn bytes (schema_place t.transaction t.schema.now) t.schema.now × StandsIn bytes (name_place t.transaction t.schema.now t.name.now) t.name.now
Placed bytes (messages.Insert i) = ListStands datum bytes (row_place (row_letter_at i.transaction) (datums i.new)) (datums i.new)
Placed bytes (messages.Update u) = MeansUpdate bytes u
Placed bytes (messages.Delete d) = ListStands datum bytes (row_place (row_letter_at d.transaction) (old_values (shown_old d.old))) (old_values (shown_old d.old))
Placed bytes (messages.Truncate t) = ListStands be_u32 bytes (relations_place t) (relation_ids t.relations)
Placed bytes (messages.BeginPrepare p) = StandsIn bytes (span_of 29 p.gid.now) p.gid.now
Placed bytes (messages.Prepare p) = StandsIn bytes (span_of 30 p.gid.now) p.gid.now
Placed bytes (messages.CommitPrepared p) = StandsIn bytes (span_of 30 p.gid.now) p.gid.now
Placed bytes (messages.StreamPrepare p) = StandsIn bytes (span_of 30 p.gid.now) p.gid.now
Placed bytes (messages.RollbackPrepared r) = StandsIn bytes (span_of 38 r.gid.now) r.gid.now
Placed bytes other = Unit {0}

by_answer : {A V : Type 0} (case : A → LogicalMessage) (line : Format V) (shown : A → V) (bytes : List ℕ) (message : LogicalMessage) (answer : Result A ProtocolFault) (result : LogicalAnswer) → result ≡ Ok message
    → ReadsAfter line shown bytes 1 answer → MatchResult answer (λ value. result ≡ Ok (case value)) (λ fault. result ≡ Err fault) → (value : A) × (message ≡ case value) × Means line (drop 1 bytes) (shown value)
by_answer case line shown bytes message (Ok value) result ok reads is = (value, cc (ok, is), reads)
by_answer case line shown bytes message (Err fault) result ok reads is = absurd (cc (ok, is))

-- the value of the case that was read
value_of : {A V : Type 0} (case : A → LogicalMessage) (line : Format V) (shown : A → V) (bytes : List ℕ) (message : LogicalMessage) → Reads case line shown bytes (Ok message)
    → (value : A) × (message ≡ case value) × Means line (drop 1 bytes) (shown value)
value_of case line shown bytes message p = by_answer case line shown bytes message p.answer (Ok message) refl p.reads p.is

placed_by : (streamed : Bool) (kind : LogicalKind) (bytes : List ℕ) (message : LogicalMessage) → Behind bytes 1 (drop 1 bytes) → ReadsLogicalKind streamed kind bytes (Ok message) → Placed bytes message
placed_by s kinds.Begin bytes message one p = let v = value_of messages.Begin _ _ bytes message p in rw v.1 tt
placed_by s kinds.Message bytes message one p =
    let v = value_of messages.Message (page.message s) shown_message bytes message p in
    rw v.1 (message_at bytes one s (shown_message v.0) (fields_after v.0.transaction) refl v.2)
placed_by s kinds.Commit bytes message one p = let v = value_of messages.Commit _ _ bytes message p in rw v.1 tt
placed_by s kinds.Origin bytes message one p = let v = value_of messages.Origin page.origin shown_origin bytes message p in rw v.1 (origin_at bytes one (shown_origin v.0) v.2)
placed_by s kinds.Relation bytes message one p =
    let v = value_of messages.Relation (page.relation s) shown_relation bytes message p in
    let at = relation_at bytes one s (shown_relation v.0) (fields_after v.0.transaction) refl v.2 in
    rw v.1 (at.names.schema_stands, at.names.name_stands, at.columns, at.fits)
placed_by s kinds.TypeName bytes message one p =
    let v = value_of messages.TypeName (page.type_name s) shown_type_name bytes message p in
    let at = type_name_at bytes one s (shown_type_name v.0) (fields_after v.0.transaction) refl v.2 in
    rw v.1 (at.schema_stands, at.name_stands)
placed_by s kinds.Insert bytes message one p =
    let v = value_of messages.Insert (page.insert s) shown_insert bytes message p in
    rw v.1 (insert_at bytes one s (shown_insert v.0) (fields_after v.0.transaction) refl v.2)
placed_by s kinds.Update bytes message one p =
    let v = value_of messages.Update (page.update s) shown_update bytes message p in
    rw v.1 (record { streamed = s; means = v.2 })
placed_by s kinds.Delete bytes message one p =
    let v = value_of messages.Delete (page.delete s) shown_delete bytes message p in
    rw v.1 (delete_at bytes one s (shown_delete v.0) (fields_after v.0.transaction) refl v.2)
placed_by s kinds.Truncate bytes message one p =
    let v = value_of messages.Truncate (page.truncate s) shown_truncate bytes message p in
    rw v.1 (truncate_at bytes one s (shown_truncate v.0) (fields_after v.0.transaction) refl v.2)
placed_by s kinds.StreamStart bytes message one p = let v = value_of messages.StreamStart _ _ bytes message p in rw v.1 tt
placed_by s kinds.StreamStop bytes message one p = let v = value_of messages.StreamStop _ _ bytes message p in rw v.1 tt
placed_by s kinds.StreamCommit bytes message one p = let v = value_of messages.StreamCommit _ _ bytes message p in rw v.1 tt
placed_by s kinds.StreamAbort bytes message one p = let v = value_of messages.StreamAbort _ _ bytes message p in rw v.1 tt
placed_by s kinds.BeginPrepare bytes message one p =
    let v = value_of messages.BeginPrepare page.begin_prepare shown_begin_prepare bytes message p in
    rw v.1 (begin_prepare_at bytes one (shown_begin_prepare v.0) v.2)
placed_by s kinds.Prepare bytes message one p = let v = value_of messages.Prepare page.prepared shown_prepared bytes message p in rw v.1 (prepared_at bytes one (shown_prepared v.0) v.2)
placed_by s kinds.CommitPrepared bytes message one p =
    let v = value_of messages.CommitPrepared page.prepared shown_prepared bytes message p in
    rw v.1 (prepared_at bytes one (shown_prepared v.0) v.2)
placed_by s kinds.RollbackPrepared bytes message one p =
    let v = value_of messages.RollbackPrepared page.rollback_prepared shown_rollback_prepared bytes message p in
    rw v.1 (rollback_prepared_at bytes one (shown_rollback_prepared v.0) v.2)
placed_by s kinds.StreamPrepare bytes message one p =
    let v = value_of messages.StreamPrepare page.prepared shown_prepared bytes message p in
    rw v.1 (prepared_at bytes one (shown_prepared v.0) v.2)

-- the letter is there
lettered : (bytes : List ℕ) (letter : ℕ) → be_u8.Reads bytes letter (drop 1 bytes) → Behind bytes 1 (drop 1 bytes)
lettered bytes letter p = record { within = omega (arith, number_fits 1 bytes letter (drop 1 bytes) p); is = refl }

pub some_and_placed : (streamed : Bool) (bytes : List ℕ) (message : LogicalMessage) → ReadsLogical streamed bytes (Ok message) → (1 ≤ length bytes) × Placed bytes message
some_and_placed streamed bytes message (inl known) =
    let one = lettered bytes (logical_letter known.kind) known.lettered in
    (one.within, placed_by streamed known.kind bytes message one known.reads)
some_and_placed streamed bytes message (inr (inl unknown)) = absurd (cc unknown.is)
some_and_placed streamed bytes message (inr (inr short)) = absurd (cc short.is)

-- ---- the rows of an Update

-- what was sent of the row before its change, or nothing, and what follows it, which is the new row
pub record UpdateParts (bytes : List ℕ) (u : Update) : Type 0 where
  pub rest : List ℕ
  pub old : Behind bytes (row_letter_at u.transaction) (drop (row_letter_at u.transaction) bytes)
  pub reads : (unless 78 old_tuple).Reads (drop (row_letter_at u.transaction) bytes) (option_map shown_old u.old) rest
  pub new : new_tuple.Reads rest (tt, datums u.new) []

pub update_parts : (bytes : List ℕ) (u : Update) → 1 ≤ length bytes → MeansUpdate bytes u → UpdateParts bytes u
update_parts bytes u some p =
    let t = p.means.0 in
    let number = t.second in
    let rows = number.second in
    let one : Behind bytes 1 (drop 1 bytes) = record { within = some; is = refl } in
    let at = numbered bytes one p.streamed t.mid number.mid u.transaction u.relation (fields_after u.transaction) refl t.first number.first in
    record { rest = rows.mid; old = record { within = at.within; is = refl }; reads = rw at.is rows.first; new = rows.second }

tuples : Lawful tuple
tuples = lawful_counted lawful_datum

-- the offset after a row that was found
pub row_ends : (bytes : List ℕ) (at end : ℕ) (values : List Datum) → IsReadAt tuple bytes at values end → RowEnds bytes at end
row_ends bytes at end values p = λ others rest q. record {
  within = p.within;
  is = sym (tuples.one_value (drop at bytes) rest (drop end bytes) others values q p.reads).1;
}

pub row_never_breaks : (bytes : List ℕ) (at : ℕ) (fault : ProtocolFault) → RowReads bytes at → BreaksAt tuple bytes at fault → ⊥
row_never_breaks bytes at fault p q = tuples.never_both (length bytes) (drop at bytes) p.1 p.0 fault p.2 q

-- no row before the change
pub none_is_given : (bytes : List ℕ) (at : ℕ) → at ≤ length bytes → OldIsGiven bytes at None (no_list, at)
none_is_given bytes at within = λ rest p. (refl, record { within = within; is = sym p.1 })

-- the one that was sent: its row can be found after its letter
pub old_follows : (bytes : List ℕ) (at : ℕ) (o : page.Old) → at ≤ length bytes → OldReads bytes at (Some o) → (at + 1 ≤ length bytes) × RowReads bytes (at + 1)
old_follows bytes at o within p =
    let row = old_row bytes (drop at bytes) p.0 at o (record { within = within; is = refl }) p.1.1 in
    (row.behind.within, (old_values o, p.0, rw row.behind.is row.reads))

pub old_is_given : (bytes : List ℕ) (at end : ℕ) (o : page.Old) → at ≤ length bytes → RowEnds bytes (at + 1) end → OldIsGiven bytes at (Some o) (row_place at (old_values o), end)
old_is_given bytes at end o within ends = λ rest p.
    let here : Behind bytes at (drop at bytes) = record { within = within; is = refl } in
    let row = old_row bytes (drop at bytes) rest at o here p.1 in
    let after = ends (old_values o) rest (rw row.behind.is row.reads) in
    (old_stands bytes (drop at bytes) rest at end o here after p.1, after)

-- ---- a body of any length

pub content_read : (streamed : Bool) (bytes : List ℕ) (result : LogicalAnswer) → (length bytes ≤ max_body → ReadsLogical streamed bytes result) → (max_body < length bytes → IsTooLong bytes result) → ReadsLogicalContent streamed bytes result
content_read streamed bytes (Ok message) read long = elim (cases_lt max_body (length bytes)) [ inl more ↦ absurd (cc (long more)) | inr short ↦ (short, read short) ]
content_read streamed bytes (Err fault) read long = elim (cases_lt max_body (length bytes)) [ inl more ↦ inl (more, cc (long more)) | inr short ↦ inr (short, read short) ]

-- ---- the new row of any message

-- values stand where the new row is: none where there is none
pub record RowThere (bytes : List ℕ) (list : PgmsgList) : Type 0 where
  pub items : List Datum
  pub stand : ListStands datum bytes list items

no_row : (bytes : List ℕ) (list : PgmsgList) → list ≡ no_list → RowThere bytes list
no_row bytes list e = rw e (record { items = []; stand = record { within = omega arith; stand = record { end = 0; read = none_at datum bytes 0 (omega arith) } } })

begun_row : (letter : ℕ) (t : Option ℕ) → (begun letter t).new_row ≡ no_list
begun_row letter (Some number) = refl
begun_row letter None = refl

abbrev row_in : PgmsgLogical → PgmsgList
row_in given = given.new_row

pub row_there : (bytes : List ℕ) (message : LogicalMessage) (given : PgmsgLogical) → IsGivenAs bytes message given → RowThere bytes given.new_row
row_there bytes (messages.Begin b) given p = no_row bytes given.new_row (ap row_in p)
row_there bytes (messages.Message m) given p = no_row bytes given.new_row (ap row_in p.2 ∙ begun_row 77 m.transaction)
row_there bytes (messages.Commit c) given p = no_row bytes given.new_row (ap row_in p)
row_there bytes (messages.Origin o) given p = no_row bytes given.new_row (ap row_in p.1)
row_there bytes (messages.Relation r) given p = no_row bytes given.new_row (ap row_in p.3 ∙ begun_row 82 r.transaction)
row_there bytes (messages.TypeName t) given p = no_row bytes given.new_row (ap row_in p.2 ∙ begun_row 89 t.transaction)
row_there bytes (messages.Insert i) given p = record { items = datums i.new; stand = p.0 }
row_there bytes (messages.Update u) given p = record { items = datums u.new; stand = p.1 }
row_there bytes (messages.Delete d) given p = no_row bytes given.new_row (ap row_in p.1 ∙ begun_row 68 d.transaction)
row_there bytes (messages.Truncate t) given p = no_row bytes given.new_row (ap row_in p.1 ∙ begun_row 84 t.transaction)
row_there bytes (messages.StreamStart s) given p = no_row bytes given.new_row (ap row_in p)
row_there bytes (messages.StreamStop s) given p = no_row bytes given.new_row (ap row_in p)
row_there bytes (messages.StreamCommit c) given p = no_row bytes given.new_row (ap row_in p)
row_there bytes (messages.StreamAbort a) given p = no_row bytes given.new_row (ap row_in p)
row_there bytes (messages.BeginPrepare b) given p = no_row bytes given.new_row (ap row_in p.1)
row_there bytes (messages.Prepare b) given p = no_row bytes given.new_row (ap row_in p.1)
row_there bytes (messages.CommitPrepared b) given p = no_row bytes given.new_row (ap row_in p.1)
row_there bytes (messages.RollbackPrepared r) given p = no_row bytes given.new_row (ap row_in p.1)
row_there bytes (messages.StreamPrepare b) given p = no_row bytes given.new_row (ap row_in p.1)
