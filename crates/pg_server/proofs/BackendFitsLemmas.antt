-- What a message without a fault says fits the line of the page by which it is written.
use Rattle.std.proofs.Common.{◌≡◌, ◌≢◌, ℕ, ◌^◌, ◌<◌, ◌≤◌, eqb, ℤ, Bool, true, false, All, List, [], ◌∷◌, ◌++◌, length, Option, Some, None, refl, sym, ◌∙◌, arith, length-append}
use Rattle.std.specs.Prelude.{IsUtf8}
use Rattle.std.specs.List.{flat_map, list_any}
use Rattle.std.proofs.lemmas.Bool.{eq-eqb}
use Rattle.std.proofs.lemmas.List.Elements.{All-head, All-tail}
use Rattle.pg_base.specs.Cutting.{max_length}
use Rattle.pg_base.specs.Numbers.{be32}
use Rattle.pg_base.specs.Ended.{ended}
use Rattle.pg_format.specs.Format.Lists.{AllFit}
use Rattle.pg_format.specs.Format.Nullable.{cell}
use Rattle.pg_format.specs.Format.Parts.{be_i16, be_u32, until_nul, FitsSigned}
use Rattle.pg_format.specs.Format.Tests.{only}
use Rattle.pg_format.specs.Messages as page
use Rattle.pg_format.specs.Notices.{Field}
use Rattle.pg_server.specs.Backend.OutboundItem.{holds_nul, is_empty, breaks_names}
use Rattle.pg_server.specs.Backend.Notice.{breaks_fields}
use Rattle.pg_server.specs.Backend.RowDescription.{IsColumnInRange}
use Rattle.pg_server.proofs.BackendOutboundItemLemmas.{neither_is, clean}

-- ---- lists

pub numbers_fit : (ns rest : List ℕ) → All (λ n. n < 2 ^ 32) ns → AllFit be_u32 ns rest
numbers_fit [] rest h = tt
numbers_fit (n ∷ ns) rest h = (All-head (λ n. n < 2 ^ 32) n ns h, numbers_fit ns rest (All-tail (λ n. n < 2 ^ 32) n ns h))

pub codes_fit : (codes : List ℤ) (rest : List ℕ) → All (FitsSigned 2) codes → AllFit be_i16 codes rest
codes_fit [] rest h = tt
codes_fit (z ∷ codes) rest h = (All-head (FitsSigned 2) z codes h, codes_fit codes rest (All-tail (FitsSigned 2) z codes h))

pub cell_fits : (v : Option (List ℕ)) (rest : List ℕ) → length (cell.Writes v) ≤ max_length → cell.Fits v rest
cell_fits None rest small = ((omega arith, refl), refl)
cell_fits (Some v) rest small = ((omega (arith, small), (refl, refl)), refl)

pub cells_fit : (vs : List (Option (List ℕ))) (rest : List ℕ) → length (flat_map cell.Writes vs) ≤ max_length → AllFit cell vs rest
cells_fit [] rest small = tt
cells_fit (v ∷ vs) rest small =
    let split = length-append (cell.Writes v) (flat_map cell.Writes vs) in
    (cell_fits v (flat_map cell.Writes vs ++ rest) (omega (arith, small, split)), cells_fit vs rest (omega (arith, small, split)))

pub texts_fit : (texts : List (List ℕ)) (rest : List ℕ) → list_any holds_nul texts ≡ false → AllFit until_nul texts rest
texts_fit [] rest e = tt
texts_fit (text ∷ texts) rest e =
    let both = neither_is (holds_nul text) (list_any holds_nul texts) e in
    (clean text both.0, texts_fit texts rest both.1)

-- each text takes a byte or more
no_more_texts : (texts : List (List ℕ)) → length texts ≤ length (flat_map until_nul.Writes texts)
no_more_texts [] = omega arith
no_more_texts (text ∷ texts) = omega (arith, no_more_texts texts, length-append (ended text) (flat_map until_nul.Writes texts), length-append text (0 ∷ []))

pub few_names : (names : List (List ℕ)) → length (be32 (length names) ++ flat_map until_nul.Writes names) ≤ max_length → length names < 2 ^ 32
few_names names small = omega (arith, length-append (be32 (length names)) (flat_map until_nul.Writes names), no_more_texts names, small)

-- ---- mechanisms

not_empty : (name : List ℕ) → is_empty name ≡ false → name ≢ []
not_empty [] e is = absurd (let clash : true ≡ false = e in cc)
not_empty (b ∷ bytes) e is = absurd cc

pub names_fit : (names : List (List ℕ)) (rest : List ℕ) → list_any breaks_names names ≡ false → All IsUtf8 names → AllFit (only (λ n. (n ≢ []) × IsUtf8 n) until_nul) names rest
names_fit [] rest e h = tt
names_fit (name ∷ names) rest e h =
    let both = neither_is (breaks_names name) (list_any breaks_names names) e in
    let parts = neither_is (is_empty name) (holds_nul name) both.0 in (
      (clean name parts.1, (not_empty name parts.0, All-head IsUtf8 name names h)),
      names_fit names rest both.1 (All-tail IsUtf8 name names h),
    )

-- ---- fields

no_zero : (b : ℕ) → eqb b 0 ≡ false → b ≢ 0
no_zero b e is = absurd (let clash : true ≡ false = sym (eq-eqb b 0 is) ∙ e in cc)

pub fields_fit : (fields : List Field) (rest : List ℕ) → list_any breaks_fields fields ≡ false → All (λ (field : Field). field.0 < 256) fields → AllFit page.field fields rest
fields_fit [] rest e h = tt
fields_fit (field ∷ fields) rest e h =
    let both = neither_is (breaks_fields field) (list_any breaks_fields fields) e in
    let parts = neither_is (eqb field.0 0) (holds_nul field.1) both.0 in (
      ((All-head (λ (field : Field). field.0 < 256) field fields h, clean field.1 parts.1), no_zero field.0 parts.0),
      fields_fit fields rest both.1 (All-tail (λ (field : Field). field.0 < 256) field fields h),
    )

-- ---- columns

abbrev IsNamedInUtf8 : page.Column → Type 0
IsNamedInUtf8 column = IsUtf8 column.name

abbrev has_nul : page.Column → Bool
has_nul column = holds_nul column.name

pub column_fits : (column : page.Column) (rest : List ℕ) → has_nul column ≡ false → IsColumnInRange column → IsUtf8 column.name → page.column.Fits column rest
column_fits column rest e r is = (
  (clean column.name e, is),
  (
    (r.relation_id, r.is_table),
    ((r.relation_attribute_no, r.is_attribute), (r.data_type_id, (r.data_type_size, (r.type_modifier, r.format)))),
  ),
)

pub columns_fit : (columns : List page.Column) (rest : List ℕ) → list_any has_nul columns ≡ false → All IsColumnInRange columns → All IsNamedInUtf8 columns → AllFit page.column columns rest
columns_fit [] rest e r h = tt
columns_fit (column ∷ columns) rest e r h =
    let both = neither_is (has_nul column) (list_any has_nul columns) e in (
      column_fits column (flat_map page.column.Writes columns ++ rest) both.0 (All-head IsColumnInRange column columns r) (All-head IsNamedInUtf8 column columns h),
      columns_fit columns rest both.1 (All-tail IsColumnInRange column columns r) (All-tail IsNamedInUtf8 column columns h),
    )
