-- A message whose new row was found is an Insert or an Update.
use Rattle.std.proofs.Common.{◌≡◌, ℕ, ◌+◌, ◌-◌, ◌<◌, ◌≤◌, ◌⊎◌, Bool, true, false, List, [], Bor, length, take, drop, get_or, Option, Some, None, Ok, Err, pos, inl, inr, refl, ap, ◌∙◌, subst, arith, length-drop}
use Rattle.std.proofs.lemmas.List.{drop_all, drop_more}
use Rattle.byteorder.specs.Endian.{big_number}
use Rattle.pg_base.proofs.NumbersLemmas.{number_4, number_at, wide_enough}
use Rattle.pg_base.specs.Numbers.{num}
use Rattle.pg_base.specs.Reading.{BeginsWith, Number}
use Rattle.pg_base.specs.declared.error.ProtocolFault.{ProtocolFault}
use Rattle.pg_base.specs.declared.error.ProtocolFault.TheVariants.{TrailingBytes}
use Rattle.pg_format.proofs.FormatLaws.Lists.{lawful_times}
use Rattle.pg_format.proofs.FormatLaws.Logical.{lawful_datum, total_datum}
use Rattle.pg_format.proofs.ListedLemmas.{listed_stand, short_after}
use Rattle.pg_format.specs.Format.{Means}
use Rattle.pg_format.specs.Format.Ends.{Trails, exactly}
use Rattle.pg_format.specs.Format.Lists.{times}
use Rattle.pg_format.specs.Format.Parts.{be_u8}
use Rattle.pg_format.specs.Format.Places.{BreaksAt, IsReadAt}
use Rattle.pg_format.specs.Logical as page
use Rattle.pg_format.specs.Logical.{Datum, datum, new_tuple, transaction}
use Rattle.pg_format.specs.Received.{max_body}
use Rattle.pg_format.specs.Replication.{letter}
use Rattle.pg_format.specs.declared.logical.LogicalKind.TheVariants as kinds
use Rattle.pg_replication.proofs.LogicalListedLemmas.{listed_alone}
use Rattle.pg_replication.proofs.LogicalTupleLemmas.{letter_stands}
use Rattle.pg_replication.specs.Logical.Tuple.{datums, shown_datum}
use Rattle.pg_replication.specs.declared.logical.change.Insert.{Insert}
use Rattle.pg_replication.specs.declared.logical.change.Update.{Update}
use Rattle.pg_replication.specs.declared.logical.tuple.Tuple.{Tuple}
use Rattle.pg_replication.specs.declared.logical.logical_message.LogicalMessage.TheVariants as messages
use Rattle.pg_c.specs.Replication.Logical.{BreaksLogical, ReadsChange, begun, given_update, no_list, nothing}
use Rattle.pg_c.specs.Replication.Logical.Lists.{GivesAll, ReadsDatums, datum_in}
use Rattle.pg_c.specs.Replication.Logical.NewRow.{GivesRow, HeadStands, IsNewRow, table_at}
use Rattle.pg_c.specs.declared.place.PgmsgList.{PgmsgList}
use Rattle.pg_c.specs.declared.replication.logical.lists.PgmsgDatum.{PgmsgDatum}
use Rattle.pg_c.specs.declared.replication.logical.read.PgmsgLogical.{PgmsgLogical}
use Rattle.pg_c.proofs.LogicalListsLemmas.{byte_at}

-- values that stand in a message are those of a row
pub record RowOf (items : List Datum) : Type 0 where
  pub row : Tuple
  pub is : datums row ≡ items

row_of : (place : Bor (List ℕ)) (at n end : ℕ) (items : List Datum) → length place.now ≤ max_body → n ≤ 65535 → IsReadAt (times n datum) place.now at items end → RowOf items
row_of place at n end items short small p =
    let body = place.now in
    let stands = listed_stand lawful_datum total_datum (record { body = body; at = at; left = n }) body (drop at body) at n end items refl refl p in
    let same : datums (record { bytes = record { ref_ptr = place.ref_ptr; now = drop at body }; left = n; given = record { ref_ptr = place.ref_ptr; now = [] }; short = short_after max_body at body (drop at body) refl short; whole = stands.1; few = omega (arith, small) }) ≡ items =
    listed_alone total_datum shown_datum n (drop at body) ∙ ((lawful_times lawful_datum n).one_value (drop at body) (drop end body) (drop end body) _ items stands.0.reads p.reads).0 in
    record { row = record { bytes = record { ref_ptr = place.ref_ptr; now = drop at body }; left = n; given = record { ref_ptr = place.ref_ptr; now = [] }; short = short_after max_body at body (drop at body) refl short; whole = stands.1; few = omega (arith, small) }; is = same }

-- the number of four bytes at an offset
pub four_at : (bytes : List ℕ) (at n : ℕ) → at + 4 ≤ length bytes → n ≡ big_number 4 (take 4 (drop at bytes)) → Number 4 (drop at bytes) n (drop (at + 4) bytes)
four_at bytes at n fits is = number_at bytes at 4 n fits (is ∙ number_4 (take 4 (drop at bytes)) (wide_enough bytes at 4 fits))

-- what is given of it
abbrev given_by : Bool → List ℕ → ℕ → ℕ → PgmsgList → PgmsgLogical
given_by streamed bytes number relation list = record nothing { letter = get_or bytes 0 0; has_transaction = streamed; transaction = number; relation = relation; new_row = list }

pub gives_streamed : (streamed : Bool) (bytes : List ℕ) (list : PgmsgList) (number relation : ℕ) → streamed ≡ true → Number 4 (drop 1 bytes) number (drop 5 bytes) → Number 4 (drop 5 bytes) relation (drop 9 bytes)
    → GivesRow streamed bytes list (given_by streamed bytes number relation list)
gives_streamed streamed bytes list number relation e first second = rw e (record { number = Some number; relation = relation; head = record { first = (number, first, refl); second = second }; is = refl })

pub gives_alone : (streamed : Bool) (bytes : List ℕ) (list : PgmsgList) (relation : ℕ) → streamed ≡ false → Number 4 (drop 1 bytes) relation (drop 5 bytes) → GivesRow streamed bytes list (given_by streamed bytes 0 relation list)
gives_alone streamed bytes list relation e second = rw e (record { number = None; relation = relation; head = record { first = (refl, refl); second = second }; is = refl })

-- bytes that follow the last value
pub trails_at : (bytes : List ℕ) (at : ℕ) → at < length bytes → Trails (length bytes) (drop at bytes) (TrailingBytes at)
trails_at bytes at lt =
    let place : at ≡ length bytes - length (drop at bytes) = omega (arith, lt, length-drop at bytes) in
    record { some = omega (arith, lt, length-drop at bytes); is = ap TrailingBytes place }

-- the numbers that stand in front
pub record Head (streamed : Bool) (bytes : List ℕ) : Type 0 where
  pub number : Option ℕ
  pub relation : ℕ
  pub stands : HeadStands streamed bytes number relation

number_there : (bytes : List ℕ) (at : ℕ) → at + 4 ≤ length bytes → Number 4 (drop at bytes) (num (take 4 (drop at bytes))) (drop (at + 4) bytes)
number_there bytes at fits = number_at bytes at 4 (num (take 4 (drop at bytes))) fits refl

pub head_there : (streamed : Bool) (bytes : List ℕ) (list : PgmsgList) → IsNewRow streamed bytes list → Head streamed bytes
head_there true bytes list p = record { number = Some _; relation = _; stands = record { first = (_, number_there bytes 1 (omega (arith, p.place, p.within)), refl); second = number_there bytes 5 (omega (arith, p.place, p.within)) } }
head_there false bytes list p = record { number = None; relation = _; stands = record { first = (refl, refl); second = number_there bytes 1 (omega (arith, p.place, p.within)) } }

-- an Update of which no old row is sent
record IsUpdateAlone (update : Update) (list : PgmsgList) (given : PgmsgLogical) : Type 0 where
  none : given.old_row ≡ no_list
  same : given ≡ given_update update given.old_row list

update_alone : (number : Option ℕ) (relation : ℕ) (row : Tuple) (list : PgmsgList)
    → IsUpdateAlone (record { transaction = number; relation = relation; old = None; new = row }) list (record (begun 85 number) { relation = relation; new_row = list })
update_alone (Some number) relation row list = record { none = refl; same = refl }
update_alone None relation row list = record { none = refl; same = refl }

module _ (streamed : Bool) (bytes : List ℕ) (list : PgmsgList) (p : IsNewRow streamed bytes list) where
  first_letter : be_u8.Reads bytes (get_or bytes 0 0) (drop 1 bytes)
  first_letter = byte_at bytes 0 (omega (arith, p.place, p.within))

  new_letter : (letter 78).Reads (drop (table_at streamed + 4) bytes) tt (drop (table_at streamed + 5) bytes)
  new_letter =
      let at = table_at streamed + 4 in
      let place : at + 1 ≡ table_at streamed + 5 = omega arith in
      let stands = letter_stands 78 (get_or bytes at 0) bytes at p.new (omega (arith, p.place, p.within)) (byte_at bytes at (omega (arith, p.place, p.within))) in
      subst (λ (k : ℕ). (letter 78).Reads (drop at bytes) tt (drop k bytes)) place stands.reads

  begins_new : BeginsWith 78 (drop (table_at streamed + 4) bytes)
  begins_new = rw (drop_more bytes (table_at streamed + 4) 0 (omega (arith, p.place, p.within))) p.new

  row_reads : (items : List Datum) (rest : List ℕ) → (times list.count datum).Reads (drop list.at bytes) items rest → new_tuple.Reads (drop (table_at streamed + 4) bytes) (tt, items) rest
  row_reads items rest q = record { mid = drop (table_at streamed + 5) bytes; first = new_letter; second = ((list.count, items), record { mid = drop list.at bytes; first = p.count; second = q }, refl) }

  row_breaks : (fault : ProtocolFault) → BreaksAt (times list.count datum) bytes list.at fault → new_tuple.Breaks (length bytes) (drop (table_at streamed + 4) bytes) fault
  row_breaks fault q =
      inr (record { value = tt; mid = drop (table_at streamed + 5) bytes; reads = new_letter; breaks = inr (record { value = list.count; mid = drop list.at bytes; reads = p.count; breaks = q }) })

  module _ (number : Option ℕ) (relation : ℕ) (head : HeadStands streamed bytes number relation) where
    insert_breaks : (fault : ProtocolFault) → BreaksAt (exactly (times list.count datum)) bytes list.at fault → BreaksAt (page.insert streamed) bytes 1 fault
    insert_breaks fault (inl q) =
        inl (inr (record { value = number; mid = drop (table_at streamed) bytes; reads = head.first; breaks = inr (record { value = relation; mid = drop (table_at streamed + 4) bytes; reads = head.second; breaks = row_breaks fault q }) }))
    insert_breaks fault (inr q) =
        inr (record {
          value = (number, (relation, (tt, q.value)));
          mid = q.mid;
          reads = record { mid = drop (table_at streamed) bytes; first = head.first; second = record { mid = drop (table_at streamed + 4) bytes; first = head.second; second = row_reads q.value q.mid q.reads } };
          breaks = q.breaks;
        })

    update_breaks : (fault : ProtocolFault) → BreaksAt (exactly (times list.count datum)) bytes list.at fault → BreaksAt (page.update streamed) bytes 1 fault
    update_breaks fault (inl q) =
        inl (inr (record {
          value = number;
          mid = drop (table_at streamed) bytes;
          reads = head.first;
          breaks = inr (record {
            value = relation;
            mid = drop (table_at streamed + 4) bytes;
            reads = head.second;
            breaks = inr (record { value = None; mid = drop (table_at streamed + 4) bytes; reads = (begins_new, refl); breaks = row_breaks fault q });
          });
        }))
    update_breaks fault (inr q) =
        inr (record {
          value = (number, (relation, (None, (tt, q.value))));
          mid = q.mid;
          reads = record {
            mid = drop (table_at streamed) bytes;
            first = head.first;
            second = record {
              mid = drop (table_at streamed + 4) bytes;
              first = head.second;
              second = record { mid = drop (table_at streamed + 4) bytes; first = (begins_new, refl); second = row_reads q.value q.mid q.reads };
            };
          };
          breaks = q.breaks;
        })

    insert_means : (items : List Datum) → (times list.count datum).Reads (drop list.at bytes) items [] → Means (page.insert streamed) (drop 1 bytes) (record { transaction = number; relation = relation; new = items })
    insert_means items q = (
      record { mid = drop (table_at streamed) bytes; first = head.first; second = record { mid = drop (table_at streamed + 4) bytes; first = head.second; second = row_reads items [] q } },
      refl,
    )

    update_means : (items : List Datum) → (times list.count datum).Reads (drop list.at bytes) items []
        → Means (page.update streamed) (drop 1 bytes) (record { transaction = number; relation = relation; old = None; new = items })
    update_means items q = (
      record {
        mid = drop (table_at streamed) bytes;
        first = head.first;
        second = record {
          mid = drop (table_at streamed + 4) bytes;
          first = head.second;
          second = record { mid = drop (table_at streamed + 4) bytes; first = (begins_new, refl); second = row_reads items [] q };
        };
      },
      refl,
    )

  breaks_by : (get_or bytes 0 0 ≡ 73) ⊎ (get_or bytes 0 0 ≡ 85) → (fault : ProtocolFault) → BreaksAt (exactly (times list.count datum)) bytes list.at fault → BreaksLogical streamed bytes fault
  breaks_by (inl e) fault q =
      let head = head_there streamed bytes list p in
      inl (record { kind = kinds.Insert; lettered = rw e at first_letter; reads = record { answer = Err fault; reads = insert_breaks head.number head.relation head.stands fault q; is = refl } })
  breaks_by (inr e) fault q =
      let head = head_there streamed bytes list p in
      inl (record { kind = kinds.Update; lettered = rw e at first_letter; reads = record { answer = Err fault; reads = update_breaks head.number head.relation head.stands fault q; is = refl } })

  pub new_row_breaks : (fault : ProtocolFault) → BreaksAt (exactly (times list.count datum)) bytes list.at fault → BreaksLogical streamed bytes fault
  new_row_breaks = breaks_by p.kind

  change_by : (get_or bytes 0 0 ≡ 73) ⊎ (get_or bytes 0 0 ≡ 85) → (items : List Datum) (row : RowOf items) (given : PgmsgLogical) → GivesRow streamed bytes list given → IsReadAt (times list.count datum) bytes list.at items (length bytes)
      → ReadsChange bytes streamed streamed given
  change_by (inl e) items row given g q =
      let end : drop (length bytes) bytes ≡ [] = drop_all (length bytes) bytes (omega arith) in
      let insert : Insert = record { transaction = g.number; relation = g.relation; new = row.row } in
      record {
        message = messages.Insert insert;
        reads = inl (record { kind = kinds.Insert; lettered = rw e at first_letter; reads = record { answer = Ok insert; reads = rw row.is (insert_means g.number g.relation g.head items (rw end at q.reads)); is = refl } });
        is = rw (g.is, row.is, e) (record { within = p.within; stand = record { end = length bytes; read = q } }, refl);
        after = refl;
      }
  change_by (inr e) items row given g q =
      let end : drop (length bytes) bytes ≡ [] = drop_all (length bytes) bytes (omega arith) in
      let alone = update_alone g.number g.relation row.row list in
      let update : Update = record { transaction = g.number; relation = g.relation; old = None; new = row.row } in
      record {
        message = messages.Update update;
        reads = inl (record { kind = kinds.Update; lettered = rw e at first_letter; reads = record { answer = Ok update; reads = rw row.is (update_means g.number g.relation g.head items (rw end at q.reads)); is = refl } });
        is = rw (g.is, row.is, e) (alone.none, record { within = p.within; stand = record { end = length bytes; read = q } }, alone.same);
        after = refl;
      }

  -- the message that is given is that
  pub new_row_reads : (place : Bor (List ℕ)) → place.now ≡ bytes → (given : PgmsgLogical) (old new : List PgmsgDatum) → GivesRow streamed bytes list given → GivesAll datum datum_in bytes list old new (length bytes)
      → ReadsChange bytes streamed streamed given
  new_row_reads place same given old new g q =
      change_by p.kind q.items (row_of place list.at list.count (length bytes) q.items (rw same p.short) p.small (rw same q.read)) given g q.read

  pub new_row_datums : (given : PgmsgLogical) (old new : List PgmsgDatum) → GivesRow streamed bytes list given → GivesAll datum datum_in bytes list old new (length bytes) → ReadsDatums bytes given.new_row old new (pos list.count)
  new_row_datums given old new g q = rw g.is (record {
    items = q.items;
    stand = record { within = p.within; stand = record { end = length bytes; read = q.read } };
    count = refl;
    given = q.given;
  })
