use Rattle.std.proofs.Common.{◌≡◌, ◌≢◌, ℕ, ◌*◌, ◌==◌, List, [], ◌∷◌, ◌++◌, Some, length, refl, arith}
use Rattle.pg_base.specs.declared.error.ProtocolFault.TheVariants.{UnknownStatus}
use Rattle.pg_base.specs.declared.format.BackendMessageFormat.{BackendMessageFormat}
use Rattle.pg_base.specs.declared.format.BackendMessageFormat.TheVariants as backend
use Rattle.pg_base.specs.Numbers.{num}
use Rattle.pg_base.specs.Reading.{BeginsWith}
use Rattle.pg_format.specs.Format.{Format, Lawful}
use Rattle.pg_format.specs.Format.Lists.{until_zero}
use Rattle.pg_format.specs.Format.Parts.{be_i8, be_i16, one_of}
use Rattle.pg_format.specs.Format.Sequences.{dep_pair, ◌⨾◌}
use Rattle.pg_format.specs.Messages.{columns_of, column_codes, field, Status, idle, transaction, error, status_of, status_letter}
use Rattle.pg_format.specs.Notices.{Field}
use Rattle.pg_format.proofs.FormatLaws.Parts.{lawful_until_nul, lawful_unsigned, lawful_signed, lawful_bytes_of, lawful_remaining, lawful_one_of, lawful_success}
use Rattle.pg_format.proofs.FormatLaws.FromServer.{u32, i16, lawful_backend_key}
use Rattle.pg_format.proofs.FormatLaws.Lists.{lawful_times, lawful_counted_least, lawful_until_zero, times_take}
use Rattle.pg_format.proofs.FormatLaws.Nullable.{lawful_cell}
use Rattle.pg_format.proofs.FormatLaws.Sequences.{◌l⨾◌, lawful_dep_pair, lawful_viewed, lawful_choose}
use Rattle.pg_format.proofs.FormatLaws.Takes.{takes_unsigned, takes_signed, takes_cell}
use Rattle.pg_format.proofs.FormatLaws.Tests.{lawful_only, lawful_with_room}
use Rattle.pg_receive.specs.Layout.{name, alone, asked, is_alone, layout}
use Rattle.pg_receive.proofs.RowDescriptionRawLemmas.{lawful_raw_column, raw_column_takes}
use Rattle.pg_receive.proofs.laws.layouts_are_lawful.Goals as goal

-- The laws of the layouts of bodies: one end, or one fault, never both.

-- no item begins at a byte 0
goes_on : {A : Type 0} (g : Format A) → ((rest : List ℕ) (a : A) (more : List ℕ) → ¬ (g.Reads (0 ∷ rest) a more)) → (bytes rest : List ℕ) (a : A) → g.Reads bytes a rest → ¬ (BeginsWith 0 bytes)
goes_on g none [] rest a p e = e
goes_on g none (b ∷ bs) rest a p e = none bs a rest (rw e at p)

no_name : (rest text more : List ℕ) → ¬ (name.Reads (0 ∷ rest) text more)
no_name rest [] more p = p.1 refl
no_name rest (b ∷ bs) more p = p.0.clean.0 (let same : b ≡ 0 = cc (p.0.parts) in same)

lawful_names : Lawful (until_zero name)
lawful_names = lawful_until_zero (lawful_only (λ text. text ≢ []) lawful_until_nul) (goes_on name no_name)

zero_first : (spelled mid rest : List ℕ) (n : ℕ) → length spelled ≡ 1 → n ≡ num spelled → 0 ∷ rest ≡ spelled ++ mid → n ≡ 0
zero_first [] mid rest n wide is parts = absurd (omega (arith, wide))
zero_first (b ∷ []) mid rest n wide is parts = let zero_is : 0 ≡ b = cc parts in omega (arith, is, zero_is)
zero_first (b ∷ c ∷ more) mid rest n wide is parts = absurd (omega (arith, wide))

no_field : (rest : List ℕ) (f : Field) (more : List ℕ) → ¬ (field.Reads (0 ∷ rest) f more)
no_field rest f more p =
    let letter = p.0.first in
    p.1 (zero_first letter.spelled p.0.mid rest f.0 letter.wide letter.is letter.parts)

lawful_fields : Lawful (until_zero field)
lawful_fields = lawful_until_zero (lawful_only (λ f. f.0 ≢ 0) (lawful_unsigned 1 tt l⨾ lawful_until_nul)) (goes_on field no_field)

lawful_asked : (method : ℕ) → Lawful (asked method)
lawful_asked method =
    lawful_choose (is_alone method) (lawful_success [])
    (lawful_choose (method == 5) (lawful_viewed alone (lawful_bytes_of 4))
    (lawful_choose (method == 10) lawful_names
    (lawful_viewed alone lawful_remaining)))

lawful_codes : Lawful (be_i8 ⨾ dep_pair be_i16 column_codes)
lawful_codes =
    lawful_signed 1 tt
    l⨾ lawful_dep_pair column_codes i16 (λ count. lawful_with_room (2 * columns_of count) (times_take 2 (takes_signed 2) (columns_of count)) (lawful_times i16 (columns_of count)))

status_again : (s : Status) → status_of (status_letter s) ≡ Some s
status_again idle = refl
status_again transaction = refl
status_again error = refl

lawful_status : Lawful (one_of status_of status_letter UnknownStatus)
lawful_status = lawful_one_of status_of status_letter UnknownStatus status_again

lawful_layout : (kind : BackendMessageFormat) → Lawful (layout kind).format
lawful_layout backend.Authentication = lawful_dep_pair asked u32 lawful_asked
lawful_layout backend.BackendKeyData = lawful_backend_key
lawful_layout backend.BindComplete = lawful_success tt
lawful_layout backend.CloseComplete = lawful_success tt
lawful_layout backend.CommandComplete = lawful_until_nul
lawful_layout backend.CopyData = lawful_remaining
lawful_layout backend.CopyDone = lawful_success tt
lawful_layout backend.CopyInResponse = lawful_codes
lawful_layout backend.CopyOutResponse = lawful_codes
lawful_layout backend.DataRow = lawful_counted_least 4 takes_cell lawful_cell
lawful_layout backend.EmptyQueryResponse = lawful_success tt
lawful_layout backend.ErrorResponse = lawful_fields
lawful_layout backend.NoData = lawful_success tt
lawful_layout backend.NoticeResponse = lawful_fields
lawful_layout backend.NotificationResponse = u32 l⨾ lawful_until_nul l⨾ lawful_until_nul
lawful_layout backend.ParameterDescription = lawful_counted_least 4 (takes_unsigned 4) u32
lawful_layout backend.ParameterStatus = lawful_until_nul l⨾ lawful_until_nul
lawful_layout backend.ParseComplete = lawful_success tt
lawful_layout backend.PortalSuspended = lawful_success tt
lawful_layout backend.ReadyForQuery = lawful_status
lawful_layout backend.RowDescription = lawful_counted_least 19 raw_column_takes lawful_raw_column

pub returns : goal.returns
returns c = lawful_layout
