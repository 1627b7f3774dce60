-- A message that is written is read whatever the encoding of its texts.
use Rattle.std.proofs.Common.{◌≡◌, ◌↔◌, ℕ, Bool, false, All, List, [], ◌∷◌, ◌++◌, length, None, refl, sym, ap, ◌∙◌, arith}
use Rattle.std.specs.List.{list_any}
use Rattle.std.proofs.lemmas.List.{append-nil}
use Rattle.std.proofs.lemmas.List.Elements.{All-head, All-tail}
use Rattle.pg_base.specs.Numbers.{num}
use Rattle.pg_format.specs.Format.{Format, Lawful, Means}
use Rattle.pg_format.specs.Format.Lists.{AreInOrder, AllFit, many}
use Rattle.pg_format.specs.Messages as page
use Rattle.pg_format.specs.Notices.{Field}
use Rattle.pg_format.proofs.FormatLaws.Ends.{lawful_loosely}
use Rattle.pg_format.proofs.FormatLaws.FromServer.{lawful_backend_key, lawful_fields}
use Rattle.pg_format.proofs.FormatLaws.Lists.{lawful_counted_least}
use Rattle.pg_format.proofs.FormatLaws.Parts.{lawful_until_nul}
use Rattle.pg_format.proofs.FormatLaws.Sequences.{◌l⨾◌, lawful_record_of}
use Rattle.pg_receive.specs.CommandComplete.{tag_text}
use Rattle.pg_receive.specs.ParameterStatus.{raw_parameter_status}
use Rattle.pg_receive.specs.RowDescription.Raw.{raw_column, raw_row_description}
use Rattle.pg_receive.proofs.RowDescriptionRawLemmas.{lawful_raw_column, raw_column_takes}
use Rattle.pg_receive.specs.Response.Fields.{BeginsWithField, AreFields, fields_in}
use Rattle.pg_receive.proofs.ResponseFieldsLemmas.{one_fields}
use Rattle.pg_server.specs.Backend.OutboundItem.{too_many, max_unsigned, nul_fault, holds_nul}
use Rattle.pg_server.specs.Backend.Message as message
use Rattle.pg_server.specs.Backend.Message.{Message, law_of, body, fault, IsInRange}
use Rattle.pg_server.specs.Backend.Notice.{breaks_fields}
use Rattle.pg_server.specs.Backend.RowDescription.{IsColumnInRange}
use Rattle.pg_server.proofs.BackendFitsLemmas.{fields_fit}
use Rattle.pg_base.proofs.TaggedLemmas.{no_part_fault}
use Rattle.pg_server.proofs.BackendOutboundItemLemmas.{few, neither, neither_is, both_clean, no_nul_fault, clean}
use Rattle.pg_message.specs.Backend.{IsReadRaw}

parts : (m : Message) → fault m ≡ None → (law_of m).part_fault ≡ None
parts m e = no_part_fault (law_of m).part_fault (length (body m)) e

-- what a line writes of a value that fits means that value and no other
meant : {V : Type 0} {line : Format V} → Lawful line → (value : V) → line.Fits value [] → (read : V) → Means line (line.Writes value) read ↔ (read ≡ value)
meant {V} {line} laws value fits read =
    let itself : Means line (line.Writes value) value = rw append-nil at (laws.written value [] fits) in (
      (λ p. (laws.one_value (line.Writes value) [] [] read value p itself).0),
      (λ e. rw e itself),
    )

-- ---- settings and tags

lawful_setting : Lawful raw_parameter_status
lawful_setting = lawful_loosely (lawful_record_of _ (λ a b e i. record { name = (e i).0; value = (e i).1 }) (lawful_until_nul l⨾ lawful_until_nul))

lawful_tag : Lawful tag_text
lawful_tag = lawful_loosely lawful_until_nul

-- ---- columns

abbrev has_nul : page.Column → Bool
has_nul column = holds_nul column.name

columns_fit : (columns : List page.Column) (rest : List ℕ) → list_any has_nul columns ≡ false → All IsColumnInRange columns → AllFit raw_column columns rest
columns_fit [] rest e r = tt
columns_fit (column ∷ columns) rest e r =
    let both = neither_is (has_nul column) (list_any has_nul columns) e in
    let own = All-head IsColumnInRange column columns r in (
      (
        clean column.name both.0,
        (
          (own.relation_id, own.is_table),
          ((own.relation_attribute_no, own.is_attribute), (own.data_type_id, (own.data_type_size, (own.type_modifier, own.format)))),
        ),
      ),
      columns_fit columns rest both.1 (All-tail IsColumnInRange column columns r),
    )

lawful_columns : Lawful raw_row_description
lawful_columns = lawful_loosely (lawful_counted_least 19 raw_column_takes lawful_raw_column)

-- ---- fields

one_byte : (spelled : List ℕ) (n : ℕ) → length spelled ≡ 1 → n ≡ num spelled → spelled ≡ n ∷ []
one_byte [] n wide is = absurd (omega (arith, wide))
one_byte (b ∷ []) n wide is = let same : b ≡ n = omega (arith, is) in ap (λ (k : ℕ). k ∷ []) same
one_byte (b ∷ c ∷ more) n wide is = absurd (omega (arith, wide))

begins : (bytes : List ℕ) (f : Field) (rest : List ℕ) → page.field.Reads bytes f rest → BeginsWithField bytes f.0 f.1 rest
begins bytes f rest p =
    let letter = p.0.first in
    let front : letter.spelled ≡ f.0 ∷ [] = one_byte letter.spelled f.0 letter.wide letter.is in
    record {
      lettered = p.1;
      clean = p.0.second.clean;
      parts = letter.parts ∙ ap (λ (l : List ℕ). l ++ p.0.mid) front ∙ ap (λ (l : List ℕ). f.0 ∷ l) p.0.second.parts;
    }

reads : (bytes : List ℕ) (f : Field) (rest : List ℕ) → BeginsWithField bytes f.0 f.1 rest → page.field.Reads bytes f rest
reads bytes f rest p = (
  record {
    mid = f.1 ++ 0 ∷ rest;
    first = record { spelled = f.0 ∷ []; wide = refl; is = omega arith; parts = p.parts };
    second = record { clean = p.clean; parts = refl };
  },
  p.lettered,
)

in_order : (bytes : List ℕ) (fields : List Field) → AreInOrder page.field bytes fields → AreFields bytes fields
in_order bytes [] h = λ f rest p. h f rest (reads bytes f rest p)
in_order bytes (f ∷ more) h = (h.0, begins bytes f h.0 h.1, in_order h.0 more h.2)

fields_are : (fields : List Field) → (many (0 ∷ []) page.field).Fits fields [] → fields_in (page.notice.Writes fields) ≡ fields
fields_are fields fits =
    let bytes : List ℕ = page.notice.Writes fields in
    let means : Means (many (0 ∷ []) page.field) bytes fields = rw append-nil at (lawful_fields.written fields [] fits) in
    sym (one_fields bytes fields (in_order bytes fields means.0))

-- ---- by kind

pub read_raw : (m : Message) → fault m ≡ None → IsInRange m → IsReadRaw m
read_raw (message.BackendKeyData key) e r = meant lawful_backend_key key (r, (refl, parts (message.BackendKeyData key) e))
read_raw (message.CommandComplete command) e r = meant lawful_tag command (clean command (no_nul_fault (holds_nul command) (parts (message.CommandComplete command) e)), refl)
read_raw (message.Notice kind fields) e r =
    fields_are fields (fields_fit fields (0 ∷ []) (no_nul_fault (list_any breaks_fields fields) (parts (message.Notice kind fields) e)) r, refl)
read_raw (message.ParameterStatus s) e r =
    let free = both_clean (holds_nul s.name) (holds_nul s.value) (parts (message.ParameterStatus s) e) in
    meant lawful_setting s ((clean s.name free.0, clean s.value free.1), refl)
read_raw (message.RowDescription columns) e r =
    let holds = list_any (λ (column : page.Column). holds_nul column.name) columns in
    let both = neither (too_many max_unsigned (length columns)) (nul_fault holds) (parts (message.RowDescription columns) e) in
    let count = few max_unsigned (length columns) both.0 in
    meant lawful_columns columns (((omega (arith, count), (refl, columns_fit columns [] (no_nul_fault holds both.1) r)), refl), refl)
read_raw other e r = tt
