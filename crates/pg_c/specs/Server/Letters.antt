-- Kinds of messages by the letters that a C program passes.
use Rattle.std.specs.Prelude.{ℕ, ℤ, ◌==◌, List, [], ◌∷◌, Option, Some, None, if◌then◌else◌}
use Rattle.pg_base.specs.declared.error.ProtocolFault.TheVariants.{UnknownStatus}
use Rattle.pg_format.specs.Tables.{status_letter}
use Rattle.pg_server.specs.Backend.Copy.{direction_tag}
use Rattle.pg_server.specs.Backend.Message as messages
use Rattle.pg_server.specs.Backend.Notice.{notice_tag}
use Rattle.pg_server.specs.Backend.ReadyForQuery.{status_of}
use Rattle.pg_server.specs.declared.backend.copy.CopyDirection.{CopyDirection}
use Rattle.pg_server.specs.declared.backend.copy.CopyDirection.TheVariants as directions
use Rattle.pg_server.specs.declared.backend.notice.NoticeKind.{NoticeKind}
use Rattle.pg_server.specs.declared.backend.notice.NoticeKind.TheVariants as notices
use Rattle.pg_server.specs.declared.backend.ready_for_query.OutboundReadyForQuery.{OutboundReadyForQuery}
use Rattle.pg_server.specs.declared.backend.ready_for_query.OutboundReadyForQuery.TheVariants as statuses
use Rattle.pg_c.specs.Server.{PutsByLetter}

-- the first of some kinds that has the letter
abbrev pub kind_of : {K : Type 0} → (K → ℕ) → List K → ℕ → Option K
kind_of letter_of [] letter = None
kind_of letter_of (kind ∷ kinds) letter = if letter == letter_of kind then Some kind else kind_of letter_of kinds letter

abbrev pub notice_kinds : List NoticeKind
notice_kinds = notices.Error ∷ notices.Notice ∷ []

abbrev pub notice_kind_of : ℕ → Option NoticeKind
notice_kind_of = kind_of notice_tag notice_kinds

abbrev pub ways : List CopyDirection
ways = directions.In ∷ directions.Out ∷ directions.Both ∷ []

abbrev pub direction_of : ℕ → Option CopyDirection
direction_of = kind_of direction_tag ways

abbrev pub ready_letter : OutboundReadyForQuery → ℕ
ready_letter ready = status_letter (status_of ready)

abbrev pub readiness : List OutboundReadyForQuery
readiness = statuses.Idle ∷ statuses.Transaction ∷ statuses.Error ∷ []

abbrev pub ready_of : ℕ → Option OutboundReadyForQuery
ready_of = kind_of ready_letter readiness

-- that the server is ready is put with the status of a letter; a letter of no status is refused
abbrev pub PutsReady : ℕ → List ℕ → List ℕ → ℤ → Type 0
PutsReady letter old new result = PutsByLetter ready_letter messages.ReadyForQuery (UnknownStatus letter) letter old new result
