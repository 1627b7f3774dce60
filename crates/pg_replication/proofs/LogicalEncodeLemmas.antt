-- What is written of a message of logical replication is read as it.
use Rattle.std.specs.Prelude.{◌≡◌, ◌≢◌, ℕ, ◌==◌, ◌^◌, ◌<◌, ◌≤◌, Bool, true, false, List, [], ◌∷◌, ◌++◌, length, All, Option, Some, None, is_some, Result, Ok, Err, MatchResult, if◌then◌else◌}
use Rattle.std.specs.List.{flat_map, list_any}
use Rattle.std.specs.Option.{option_or}
use Rattle.std.proofs.Common.{refl, sym, ap, subst, inl, inr, ◌∙◌, arith, length-append}
use Rattle.std.proofs.lemmas.List.{append-nil}
use Rattle.std.proofs.lemmas.List.Elements.{All-head, All-tail}
use Rattle.pg_base.specs.Cutting.{max_length}
use Rattle.pg_base.specs.Numbers.{be16}
use Rattle.pg_base.specs.Ended.{ended}
use Rattle.pg_base.specs.declared.error.ProtocolFault.{ProtocolFault}
use Rattle.pg_base.proofs.TaggedLemmas.{len_fits, no_part_fault}
use Rattle.pg_format.specs.Format.{Format, Lawful}
use Rattle.pg_format.specs.Format.Lists.{AllFit, counted}
use Rattle.pg_format.specs.Format.Parts.{be_u8, be_u32, be_u64, until_nul}
use Rattle.pg_format.specs.Format.Places.{ReadsAfter}
use Rattle.pg_format.specs.Format.Sequences.{◌⨾◌}
use Rattle.pg_format.specs.Format.Tests.{unless}
use Rattle.pg_format.specs.Logical as page
use Rattle.pg_format.specs.Logical.{logical_letter}
use Rattle.pg_format.specs.Replication.{flag}
use Rattle.pg_format.specs.declared.logical.LogicalKind.{LogicalKind}
use Rattle.pg_format.specs.declared.logical.LogicalKind.TheVariants as kinds
use Rattle.pg_format.proofs.FormatLaws.Logical.{lawful_begin, lawful_begin_prepare, lawful_commit, lawful_delete, lawful_insert, lawful_message, lawful_origin, lawful_prepared, lawful_relation, lawful_rollback_prepared, lawful_stream_abort, lawful_stream_commit, lawful_stream_start, lawful_stream_stop, lawful_truncate, lawful_type_name, lawful_update}
use Rattle.pg_server.specs.Backend.OutboundItem.{too_many, max_unsigned, holds_nul, nul_fault, text_fault}
use Rattle.pg_server.proofs.BackendFitsLemmas.{numbers_fit}
use Rattle.pg_server.proofs.BackendOutboundItemLemmas.{few, neither, neither_is, no_nul_fault, clean, both_clean}
use Rattle.pg_replication.specs.Lettered.{Reads}
use Rattle.pg_replication.specs.Logical as shown
use Rattle.pg_replication.specs.Logical.{LogicalAnswer, ReadsLogical, ReadsLogicalKind}
use Rattle.pg_replication.specs.Logical.Encode.{IsNumberInRange, tuple_fault, values_of, old_fault, has_nul, IsColumnInRange, columns_fault, AreIds, says, fields_part, content_part, content, content_fault, IsNumbered, IsSaid, IsReadBack}
use Rattle.pg_replication.specs.declared.logical.logical_message.LogicalMessage.{LogicalMessage}
use Rattle.pg_replication.specs.declared.logical.logical_message.LogicalMessage.TheVariants as messages
use Rattle.pg_replication.proofs.LogicalTupleLemmas.{byte_first}

-- ---- letters

abbrev kind_by : ℕ → LogicalKind
kind_by n =
    if n == 66 then kinds.Begin else (
    if n == 77 then kinds.Message else (
    if n == 67 then kinds.Commit else (
    if n == 79 then kinds.Origin else (
    if n == 82 then kinds.Relation else (
    if n == 89 then kinds.TypeName else (
    if n == 73 then kinds.Insert else (
    if n == 85 then kinds.Update else (
    if n == 68 then kinds.Delete else (
    if n == 84 then kinds.Truncate else (
    if n == 83 then kinds.StreamStart else (
    if n == 69 then kinds.StreamStop else (
    if n == 99 then kinds.StreamCommit else (
    if n == 65 then kinds.StreamAbort else (
    if n == 98 then kinds.BeginPrepare else (
    if n == 80 then kinds.Prepare else (
    if n == 75 then kinds.CommitPrepared else (
    if n == 114 then kinds.RollbackPrepared else (
    kinds.StreamPrepare))))))))))))))))))

of_letter : (kind : LogicalKind) → kind_by (logical_letter kind) ≡ kind
of_letter kinds.Begin = refl
of_letter kinds.Message = refl
of_letter kinds.Commit = refl
of_letter kinds.Origin = refl
of_letter kinds.Relation = refl
of_letter kinds.TypeName = refl
of_letter kinds.Insert = refl
of_letter kinds.Update = refl
of_letter kinds.Delete = refl
of_letter kinds.Truncate = refl
of_letter kinds.StreamStart = refl
of_letter kinds.StreamStop = refl
of_letter kinds.StreamCommit = refl
of_letter kinds.StreamAbort = refl
of_letter kinds.BeginPrepare = refl
of_letter kinds.Prepare = refl
of_letter kinds.CommitPrepared = refl
of_letter kinds.RollbackPrepared = refl
of_letter kinds.StreamPrepare = refl

-- a letter is that of one kind
same_kind : (a b : LogicalKind) → logical_letter a ≡ logical_letter b → a ≡ b
same_kind a b e = sym (of_letter a) ∙ ap kind_by e ∙ of_letter b

-- ---- what has no fault fits its line

short_rest : (a b : List ℕ) → length (a ++ b) ≤ max_length → length b ≤ max_length
short_rest a b small = omega (arith, small, length-append a b)

number_fits : (number : Option ℕ) (rest : List ℕ) → IsNumberInRange number → (page.transaction (is_some number)).Fits number rest
number_fits (Some n) rest r = (r, refl)
number_fits None rest r = refl

sized_fits : (bytes rest : List ℕ) → length (page.sized.Writes bytes) ≤ max_length → page.sized.Fits bytes rest
sized_fits bytes rest small = ((omega (arith, small), refl), refl)

datum_fits : (datum : page.Datum) (rest : List ℕ) → length (page.datum.Writes datum) ≤ max_length → page.datum.Fits datum rest
datum_fits page.null rest small = ((omega arith, refl), refl)
datum_fits page.unchanged rest small = ((omega arith, refl), refl)
datum_fits (page.text value) rest small = ((omega arith, (sized_fits value rest (omega (arith, small)), refl)), refl)
datum_fits (page.binary value) rest small = ((omega arith, (sized_fits value rest (omega (arith, small)), refl)), refl)

datums_fit : (values : List page.Datum) (rest : List ℕ) → length (flat_map page.datum.Writes values) ≤ max_length → AllFit page.datum values rest
datums_fit [] rest small = tt
datums_fit (datum ∷ values) rest small =
    let split = length-append (page.datum.Writes datum) (flat_map page.datum.Writes values) in
    (datum_fits datum (flat_map page.datum.Writes values ++ rest) (omega (arith, small, split)), datums_fit values rest (omega (arith, small, split)))

tuple_fits : (values : List page.Datum) (rest : List ℕ) → tuple_fault values ≡ None → length (page.tuple.Writes values) ≤ max_length → page.tuple.Fits values rest
tuple_fits values rest e small =
    ((omega (arith, few max_unsigned (length values) e), (refl, datums_fit values rest (short_rest (be16 (length values)) (flat_map page.datum.Writes values) small))), refl)

old_fits : (old : page.Old) (rest : List ℕ) → tuple_fault (values_of old) ≡ None → length (page.old_tuple.Writes old) ≤ max_length → page.old_tuple.Fits old rest
old_fits (page.key values) rest e small = ((omega arith, (tuple_fits values rest e (omega (arith, small)), refl)), refl)
old_fits (page.whole values) rest e small = ((omega arith, (tuple_fits values rest e (omega (arith, small)), refl)), refl)

not_key : (a : ℕ) → a ≡ 75 → a ≢ 78
not_key a e f = omega (arith, e, f)

not_whole : (a : ℕ) → a ≡ 79 → a ≢ 78
not_whole a e f = omega (arith, e, f)

-- before the new row
old_or_none_fits : (old : Option page.Old) (new : List page.Datum) → old_fault old ≡ None → length ((unless 78 page.old_tuple).Writes old) ≤ max_length → (unless 78 page.old_tuple).Fits old (page.new_tuple.Writes (tt, new) ++ [])
old_or_none_fits None new e small = refl
old_or_none_fits (Some (page.key values)) new e small = (not_key 75 refl, old_fits (page.key values) (page.new_tuple.Writes (tt, new) ++ []) e small)
old_or_none_fits (Some (page.whole values)) new e small = (not_whole 79 refl, old_fits (page.whole values) (page.new_tuple.Writes (tt, new) ++ []) e small)

columns_fit : (columns : List page.Column) (rest : List ℕ) → list_any has_nul columns ≡ false → All IsColumnInRange columns → AllFit page.column columns rest
columns_fit [] rest e r = tt
columns_fit (column ∷ columns) rest e r =
    let both = neither_is (has_nul column) (list_any has_nul columns) e in
    let range = All-head IsColumnInRange column columns r in
    ((range.flags, (clean column.name both.0, (range.type_id, range.type_modifier))), columns_fit columns rest both.1 (All-tail IsColumnInRange column columns r))

counted_columns_fit : (columns : List page.Column) (rest : List ℕ) → columns_fault columns ≡ None → All IsColumnInRange columns → (counted page.column).Fits columns rest
counted_columns_fit columns rest e r =
    let both = neither (too_many max_unsigned (length columns)) (nul_fault (list_any has_nul columns)) e in
    ((omega (arith, few max_unsigned (length columns) both.0), (refl, columns_fit columns rest (no_nul_fault (list_any has_nul columns) both.1) r)), refl)

flag_fits : (set : Bool) → flag.Fits set []
flag_fits true = (omega arith, refl)
flag_fits false = (omega arith, refl)

-- each takes four bytes
no_more_ids : (ids : List ℕ) → length ids ≤ length (flat_map be_u32.Writes ids)
no_more_ids [] = omega arith
no_more_ids (id ∷ ids) = omega (arith, no_more_ids ids)

-- ---- the messages with texts, rows or lists

after_number : (number : Option ℕ) (fields : List ℕ) → length ((page.transaction (is_some number)).Writes number ++ fields) ≤ max_length → length fields ≤ max_length
after_number number fields small = short_rest ((page.transaction (is_some number)).Writes number) fields small

message_fits : (it : page.Message) → text_fault it.prefix ≡ None → length ((page.message (is_some it.transaction)).Writes it) ≤ max_length → IsNumberInRange it.transaction × (it.flags < 2 ^ 8) × (it.lsn < 2 ^ 64)
    → (page.message (is_some it.transaction)).Fits it []
message_fits it e small r =
    let rest = after_number it.transaction ((be_u8 ⨾ be_u64 ⨾ until_nul ⨾ page.sized).Writes (it.flags, (it.lsn, (it.prefix, it.content)))) small in
    let content = short_rest (ended it.prefix) (page.sized.Writes it.content) (omega (arith, rest)) in
    ((number_fits it.transaction _ r.0, (r.1, (r.2, (clean it.prefix (no_nul_fault (holds_nul it.prefix) e), sized_fits it.content [] content)))), refl)

relation_fits : (it : page.Relation) → option_or (text_fault it.schema) (option_or (text_fault it.name) (columns_fault it.columns)) ≡ None
    → IsNumberInRange it.transaction × (it.relation < 2 ^ 32) × (it.replica_identity < 2 ^ 8) × All IsColumnInRange it.columns → (page.relation (is_some it.transaction)).Fits it []
relation_fits it e r =
    let first = neither (text_fault it.schema) (option_or (text_fault it.name) (columns_fault it.columns)) e in
    let second = neither (text_fault it.name) (columns_fault it.columns) first.1 in
    let schema = clean it.schema (no_nul_fault (holds_nul it.schema) first.0) in
    let name = clean it.name (no_nul_fault (holds_nul it.name) second.0) in
    ((number_fits it.transaction _ r.0, (r.1, (schema, (name, (r.2, counted_columns_fit it.columns [] second.1 r.3))))), refl)

type_name_fits : (it : page.TypeName) → option_or (text_fault it.schema) (text_fault it.name) ≡ None → IsNumberInRange it.transaction × (it.type_id < 2 ^ 32) → (page.type_name (is_some it.transaction)).Fits it []
type_name_fits it e r =
    let free = both_clean (holds_nul it.schema) (holds_nul it.name) e in
    ((number_fits it.transaction _ r.0, (r.1, (clean it.schema free.0, clean it.name free.1))), refl)

insert_fits : (it : page.Insert) → tuple_fault it.new ≡ None → length ((page.insert (is_some it.transaction)).Writes it) ≤ max_length → IsNumberInRange it.transaction × (it.relation < 2 ^ 32)
    → (page.insert (is_some it.transaction)).Fits it []
insert_fits it e small r =
    let rest = after_number it.transaction ((be_u32 ⨾ page.new_tuple).Writes (it.relation, (tt, it.new))) small in
    ((number_fits it.transaction _ r.0, (r.1, (tt, tuple_fits it.new [] e (omega (arith, rest))))), refl)

update_fits : (it : page.Update) → option_or (old_fault it.old) (tuple_fault it.new) ≡ None → length ((page.update (is_some it.transaction)).Writes it) ≤ max_length → IsNumberInRange it.transaction × (it.relation < 2 ^ 32)
    → (page.update (is_some it.transaction)).Fits it []
update_fits it e small r =
    let both = neither (old_fault it.old) (tuple_fault it.new) e in
    let rest = after_number it.transaction ((be_u32 ⨾ unless 78 page.old_tuple ⨾ page.new_tuple).Writes (it.relation, (it.old, (tt, it.new)))) small in
    let split = length-append ((unless 78 page.old_tuple).Writes it.old) (page.new_tuple.Writes (tt, it.new)) in
    let old = old_or_none_fits it.old it.new both.0 (omega (arith, rest, split)) in
    ((number_fits it.transaction _ r.0, (r.1, (old, (tt, tuple_fits it.new [] both.1 (omega (arith, rest, split)))))), refl)

delete_fits : (it : page.Delete) → tuple_fault (values_of it.old) ≡ None → length ((page.delete (is_some it.transaction)).Writes it) ≤ max_length → IsNumberInRange it.transaction × (it.relation < 2 ^ 32)
    → (page.delete (is_some it.transaction)).Fits it []
delete_fits it e small r =
    let rest = after_number it.transaction ((be_u32 ⨾ page.old_tuple).Writes (it.relation, it.old)) small in
    ((number_fits it.transaction _ r.0, (r.1, old_fits it.old [] e (omega (arith, rest)))), refl)

truncate_fits : (it : page.Truncate) → length ((page.truncate (is_some it.transaction)).Writes it) ≤ max_length → IsNumberInRange it.transaction × (it.options < 2 ^ 8) × AreIds it.relations
    → (page.truncate (is_some it.transaction)).Fits it []
truncate_fits it small r =
    let rest = after_number it.transaction (page.truncated.Writes (it.options, it.relations)) small in
    ((number_fits it.transaction _ r.0, ((omega (arith, rest, no_more_ids it.relations), (r.1, (refl, numbers_fit it.relations [] r.2))), refl)), refl)

pub few_ids : (options : ℕ) (ids : List ℕ) → length (page.truncated.Writes (options, ids)) ≤ max_length → length ids < 2 ^ 32
few_ids options ids small = omega (arith, small, no_more_ids ids)

-- ---- what is written is read

-- where a value fits its line, what is read of its bytes is that value
back_at : {A V : Type 0} (case : A → LogicalMessage) (line : Format V) (value_of : A → V) → Lawful line → (value : V) (letter : ℕ) (answer : LogicalAnswer) → line.Fits value []
    → (read : Result A ProtocolFault) → ReadsAfter line value_of (letter ∷ line.Writes value) 1 read → MatchResult read (λ a. answer ≡ Ok (case a)) (λ fault. answer ≡ Err fault)
    → (a : A) × (value_of a ≡ value) × (answer ≡ Ok (case a))
back_at case line value_of laws value letter answer fit (Ok a) p is =
    let own = rw append-nil at (laws.written value [] fit) in
    (a, (laws.one_value (line.Writes value) [] [] (value_of a) value p own).0, is)
back_at case line value_of laws value letter answer fit (Err fault) p is =
    let own = rw append-nil at (laws.written value [] fit) in
    absurd (laws.never_both (length (letter ∷ line.Writes value)) (line.Writes value) [] value fault own p)

back : {A V : Type 0} (case : A → LogicalMessage) (line : Format V) (value_of : A → V) → Lawful line → (value : V) (letter : ℕ) (answer : LogicalAnswer) → line.Fits value []
    → Reads case line value_of (letter ∷ line.Writes value) answer → (a : A) × (value_of a ≡ value) × (answer ≡ Ok (case a))
back case line value_of laws value letter answer fit p = back_at case line value_of laws value letter answer fit p.answer p.reads p.is

abbrev of_kind : (kind : LogicalKind) → (page.in_change_stream true kind).Value → (k : LogicalKind) × (page.in_change_stream true k).Value
of_kind kind value = (kind, value)

said : (streamed : Bool) (m : LogicalMessage) (answer : LogicalAnswer) → (fields_part m).fault ≡ None → length (fields_part m).text ≤ max_length → (fields_part m).IsInRange → IsNumbered streamed m
    → ReadsLogicalKind streamed (says m).0 (content m) answer → IsSaid m answer
said streamed (messages.Begin it) answer e small r numbered p =
    let one = back messages.Begin page.begin shown.shown_begin lawful_begin (shown.shown_begin it) 66 answer ((r.0, (r.1, r.2)), refl) p in
    rw one.2 (ap (of_kind kinds.Begin) one.1)
said streamed (messages.Message it) answer e small r numbered p =
    let own = is_some it.transaction in
    let read = subst (λ (b : Bool). Reads messages.Message (page.message b) shown.shown_message (content (messages.Message it)) answer) (sym numbered) p in
    let fit = message_fits (shown.shown_message it) e small r in
    let one = back messages.Message (page.message own) shown.shown_message (lawful_message own) (shown.shown_message it) 77 answer fit read in
    rw one.2 (ap (of_kind kinds.Message) one.1)
said streamed (messages.Commit it) answer e small r numbered p =
    let one = back messages.Commit page.commit shown.shown_commit lawful_commit (shown.shown_commit it) 67 answer ((r.0, (r.1, (r.2, r.3))), refl) p in
    rw one.2 (ap (of_kind kinds.Commit) one.1)
said streamed (messages.Origin it) answer e small r numbered p =
    let one = back messages.Origin page.origin shown.shown_origin lawful_origin (shown.shown_origin it) 79 answer ((r, clean it.name.now (no_nul_fault (holds_nul it.name.now) e)), refl) p in
    rw one.2 (ap (of_kind kinds.Origin) one.1)
said streamed (messages.Relation it) answer e small r numbered p =
    let own = is_some it.transaction in
    let read = subst (λ (b : Bool). Reads messages.Relation (page.relation b) shown.shown_relation (content (messages.Relation it)) answer) (sym numbered) p in
    let fit = relation_fits (shown.shown_relation it) e r in
    let one = back messages.Relation (page.relation own) shown.shown_relation (lawful_relation own) (shown.shown_relation it) 82 answer fit read in
    rw one.2 (ap (of_kind kinds.Relation) one.1)
said streamed (messages.TypeName it) answer e small r numbered p =
    let own = is_some it.transaction in
    let read = subst (λ (b : Bool). Reads messages.TypeName (page.type_name b) shown.shown_type_name (content (messages.TypeName it)) answer) (sym numbered) p in
    let fit = type_name_fits (shown.shown_type_name it) e r in
    let one = back messages.TypeName (page.type_name own) shown.shown_type_name (lawful_type_name own) (shown.shown_type_name it) 89 answer fit read in
    rw one.2 (ap (of_kind kinds.TypeName) one.1)
said streamed (messages.Insert it) answer e small r numbered p =
    let own = is_some it.transaction in
    let read = subst (λ (b : Bool). Reads messages.Insert (page.insert b) shown.shown_insert (content (messages.Insert it)) answer) (sym numbered) p in
    let fit = insert_fits (shown.shown_insert it) e small r in
    let one = back messages.Insert (page.insert own) shown.shown_insert (lawful_insert own) (shown.shown_insert it) 73 answer fit read in
    rw one.2 (ap (of_kind kinds.Insert) one.1)
said streamed (messages.Update it) answer e small r numbered p =
    let own = is_some it.transaction in
    let read = subst (λ (b : Bool). Reads messages.Update (page.update b) shown.shown_update (content (messages.Update it)) answer) (sym numbered) p in
    let fit = update_fits (shown.shown_update it) e small r in
    let one = back messages.Update (page.update own) shown.shown_update (lawful_update own) (shown.shown_update it) 85 answer fit read in
    rw one.2 (ap (of_kind kinds.Update) one.1)
said streamed (messages.Delete it) answer e small r numbered p =
    let own = is_some it.transaction in
    let read = subst (λ (b : Bool). Reads messages.Delete (page.delete b) shown.shown_delete (content (messages.Delete it)) answer) (sym numbered) p in
    let fit = delete_fits (shown.shown_delete it) e small r in
    let one = back messages.Delete (page.delete own) shown.shown_delete (lawful_delete own) (shown.shown_delete it) 68 answer fit read in
    rw one.2 (ap (of_kind kinds.Delete) one.1)
said streamed (messages.Truncate it) answer e small r numbered p =
    let own = is_some it.transaction in
    let read = subst (λ (b : Bool). Reads messages.Truncate (page.truncate b) shown.shown_truncate (content (messages.Truncate it)) answer) (sym numbered) p in
    let fit = truncate_fits (shown.shown_truncate it) small r in
    let one = back messages.Truncate (page.truncate own) shown.shown_truncate (lawful_truncate own) (shown.shown_truncate it) 84 answer fit read in
    rw one.2 (ap (of_kind kinds.Truncate) one.1)
said streamed (messages.StreamStart it) answer e small r numbered p =
    let one = back messages.StreamStart page.stream_start shown.shown_stream_start lawful_stream_start (shown.shown_stream_start it) 83 answer ((r, flag_fits it.is_first), refl) p in
    rw one.2 (ap (of_kind kinds.StreamStart) one.1)
said streamed (messages.StreamStop it) answer e small r numbered p =
    let one = back messages.StreamStop page.stream_stop shown.shown_stream_stop lawful_stream_stop (shown.shown_stream_stop it) 69 answer (refl, refl) p in
    rw one.2 (ap (of_kind kinds.StreamStop) one.1)
said streamed (messages.StreamCommit it) answer e small r numbered p =
    let one = back messages.StreamCommit page.stream_commit shown.shown_stream_commit lawful_stream_commit (shown.shown_stream_commit it) 99 answer ((r.0, (r.1, (r.2, (r.3, r.4)))), refl) p in
    rw one.2 (ap (of_kind kinds.StreamCommit) one.1)
said streamed (messages.StreamAbort it) answer e small r numbered p =
    let one = back messages.StreamAbort page.stream_abort shown.shown_stream_abort lawful_stream_abort (shown.shown_stream_abort it) 65 answer ((r.0, r.1), refl) p in
    rw one.2 (ap (of_kind kinds.StreamAbort) one.1)
said streamed (messages.BeginPrepare it) answer e small r numbered p =
    let one = back messages.BeginPrepare page.begin_prepare shown.shown_begin_prepare lawful_begin_prepare (shown.shown_begin_prepare it) 98 answer ((r.0, (r.1, (r.2, (r.3, clean it.gid.now (no_nul_fault (holds_nul it.gid.now) e))))), refl) p in
    rw one.2 (ap (of_kind kinds.BeginPrepare) one.1)
said streamed (messages.Prepare it) answer e small r numbered p =
    let one = back messages.Prepare page.prepared shown.shown_prepared lawful_prepared (shown.shown_prepared it) 80 answer ((r.0, (r.1, (r.2, (r.3, (r.4, clean it.gid.now (no_nul_fault (holds_nul it.gid.now) e)))))), refl) p in
    rw one.2 (ap (of_kind kinds.Prepare) one.1)
said streamed (messages.CommitPrepared it) answer e small r numbered p =
    let one = back messages.CommitPrepared page.prepared shown.shown_prepared lawful_prepared (shown.shown_prepared it) 75 answer ((r.0, (r.1, (r.2, (r.3, (r.4, clean it.gid.now (no_nul_fault (holds_nul it.gid.now) e)))))), refl) p in
    rw one.2 (ap (of_kind kinds.CommitPrepared) one.1)
said streamed (messages.RollbackPrepared it) answer e small r numbered p =
    let one = back messages.RollbackPrepared page.rollback_prepared shown.shown_rollback_prepared lawful_rollback_prepared (shown.shown_rollback_prepared it) 114 answer ((r.0, (r.1, (r.2, (r.3, (r.4, (r.5, clean it.gid.now (no_nul_fault (holds_nul it.gid.now) e))))))), refl) p in
    rw one.2 (ap (of_kind kinds.RollbackPrepared) one.1)
said streamed (messages.StreamPrepare it) answer e small r numbered p =
    let one = back messages.StreamPrepare page.prepared shown.shown_prepared lawful_prepared (shown.shown_prepared it) 112 answer ((r.0, (r.1, (r.2, (r.3, (r.4, clean it.gid.now (no_nul_fault (holds_nul it.gid.now) e)))))), refl) p in
    rw one.2 (ap (of_kind kinds.StreamPrepare) one.1)

first_byte : (byte other : ℕ) (bytes rest : List ℕ) → be_u8.Reads (byte ∷ bytes) other rest → byte ≡ other
first_byte byte other bytes rest p = let same = byte_first (byte ∷ bytes) other rest p in cc

by_letter : (streamed : Bool) (m : LogicalMessage) (answer : LogicalAnswer) → (fields_part m).fault ≡ None → length (fields_part m).text ≤ max_length → (fields_part m).IsInRange → IsNumbered streamed m
    → ReadsLogical streamed (content m) answer → IsSaid m answer
by_letter streamed m answer e small r numbered (inl known) =
    let same = same_kind known.kind (says m).0 (sym (first_byte (logical_letter (says m).0) (logical_letter known.kind) (fields_part m).text _ known.lettered)) in
    said streamed m answer e small r numbered (subst (λ kind. ReadsLogicalKind streamed kind (content m) answer) same known.reads)
by_letter streamed m answer e small r numbered (inr (inl unknown)) =
    absurd (unknown.none (says m).0 (first_byte (logical_letter (says m).0) unknown.letter_there (fields_part m).text _ unknown.stands))
by_letter streamed m answer e small r numbered (inr (inr lacks)) = absurd (omega (arith, lacks.short.lacks))

-- a message without a fault is read as itself
pub own_message : (m : LogicalMessage) → content_fault m ≡ None → (content_part m).IsInRange → IsReadBack m
own_message m e r streamed answer numbered p =
    let fault = (content_part m).fault in
    let len = length (content m) in
    by_letter streamed m answer (no_part_fault fault len e) (omega (arith, len_fits fault len e)) r.1 numbered p
