-- ErrorResponse and NoticeResponse: fields, and the byte that ends them. Documentation: "Message Formats",
-- ErrorResponse (B) and NoticeResponse (B).
use Rattle.std.specs.Prelude.{ℕ, ◌<◌, ◌==◌, ◌||◌, Bool, [], ◌∷◌}
use Rattle.pg_base.specs.Format.{backend_tag}
use Rattle.pg_base.specs.Part.{PartLaw}
use Rattle.pg_base.specs.declared.format.BackendMessageFormat.TheVariants as formats
use Rattle.pg_format.specs.Notices.{Field}
use Rattle.pg_server.specs.Backend.OutboundItem.{holds_nul, nul_fault}
use Rattle.pg_server.specs.declared.backend.notice.OutboundNoticeField.{OutboundNoticeField}
use Rattle.pg_server.specs.declared.backend.notice.NoticeKind.{NoticeKind}
use Rattle.pg_server.specs.declared.backend.notice.NoticeKind.TheVariants as kinds

abbrev pub notice_tag : NoticeKind → ℕ
notice_tag kinds.Error = backend_tag formats.ErrorResponse
notice_tag kinds.Notice = backend_tag formats.NoticeResponse

abbrev pub field_of : OutboundNoticeField → Field
field_of field = (field.letter, field.text.now)

-- it would end the fields, or its text early
abbrev pub breaks_fields : Field → Bool
breaks_fields field = (field.0 == 0) || holds_nul field.1

-- a letter that doesn't end the fields
abbrev pub letter_part : ℕ → PartLaw
letter_part letter = record { text = letter ∷ []; fault = nul_fault (letter == 0); IsInRange = letter < 256 }
