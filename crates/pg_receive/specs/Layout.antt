-- How far the parts of a body go that the documentation lists for its kind, whatever the encoding of their texts: for
-- who wants no byte after them, and no list without its end.
use Rattle.std.specs.Prelude.{◌≢◌, ℕ, ◌==◌, Bool, ◌||◌, List, [], ◌∷◌}
use Rattle.pg_base.specs.declared.error.ProtocolFault.TheVariants.{UnknownStatus}
use Rattle.pg_base.specs.declared.format.BackendMessageFormat.{BackendMessageFormat}
use Rattle.pg_base.specs.declared.format.BackendMessageFormat.TheVariants as backend
use Rattle.pg_format.specs.Format.{Format}
use Rattle.pg_format.specs.Format.Ends.{exactly}
use Rattle.pg_format.specs.Format.Lists.{counted_least, until_zero}
use Rattle.pg_format.specs.Format.Nullable.{cell}
use Rattle.pg_format.specs.Format.Parts.{until_nul, be_u32, be_i8, be_i16, bytes_of, remaining, one_of, success}
use Rattle.pg_format.specs.Format.Sequences.{dep_pair, ◌⨾◌, viewed, choose}
use Rattle.pg_format.specs.Format.Tests.{only}
use Rattle.pg_format.specs.Messages.{Meaning, means, column_codes, field, Status, status_of, status_letter, backend_key}
use Rattle.pg_receive.specs.RowDescription.Raw.{raw_column}

-- ---- by the kind of message

-- the byte of a status
abbrev pub status : Format Status
status = one_of status_of status_letter UnknownStatus

abbrev pub nothing : Format (Unit {0})
nothing = success tt

-- the name of a mechanism, whose list an empty one ends
abbrev pub name : Format (List ℕ)
name = only (λ text. text ≢ []) until_nul

abbrev pub alone : List ℕ → List (List ℕ)
alone bytes = bytes ∷ []

-- nothing follows the number of these methods: Ok, KerberosV5, CleartextPassword, SCMCredential, GSS and SSPI
abbrev pub is_alone : ℕ → Bool
is_alone method = (method == 0) || (method == 2) || (method == 3) || (method == 6) || (method == 7) || (method == 9)

-- what follows the number of a method: nothing, a salt, names, or any bytes where data of an exchange follows and where no
-- method has the number
abbrev pub asked : ℕ → Format (List (List ℕ))
asked method =
    choose (is_alone method) (success [])
    (choose (method == 5) (viewed alone (bytes_of 4))
    (choose (method == 10) (until_zero name)
    (viewed alone remaining)))

abbrev pub layout : BackendMessageFormat → Meaning
layout backend.Authentication = means (dep_pair be_u32 asked)
layout backend.BackendKeyData = means backend_key
layout backend.BindComplete = means nothing
layout backend.CloseComplete = means nothing
layout backend.CommandComplete = means until_nul
layout backend.CopyData = means remaining
layout backend.CopyDone = means nothing
layout backend.CopyInResponse = means (be_i8 ⨾ dep_pair be_i16 column_codes)
layout backend.CopyOutResponse = means (be_i8 ⨾ dep_pair be_i16 column_codes)
layout backend.DataRow = means (counted_least 4 cell)
layout backend.EmptyQueryResponse = means nothing
layout backend.ErrorResponse = means (until_zero field)
layout backend.NoData = means nothing
layout backend.NoticeResponse = means (until_zero field)
layout backend.NotificationResponse = means (be_u32 ⨾ until_nul ⨾ until_nul)
layout backend.ParameterDescription = means (counted_least 4 be_u32)
layout backend.ParameterStatus = means (until_nul ⨾ until_nul)
layout backend.ParseComplete = means nothing
layout backend.PortalSuspended = means nothing
layout backend.ReadyForQuery = means status
layout backend.RowDescription = means (counted_least 19 raw_column)

-- the parts of a kind, and no byte after them
abbrev pub exact_layout : (kind : BackendMessageFormat) → Format (layout kind).Value
exact_layout kind = exactly (layout kind).format
