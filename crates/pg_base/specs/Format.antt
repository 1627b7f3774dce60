-- The tags and names of the kinds of message, and the codes of the formats of values. Documentation:
-- "Message Formats", and "Formats and Format Codes".
use Rattle.std.specs.Prelude.{◌≡◌, ℕ, List, map, codes}
use Rattle.pg_base.specs.declared.format.FrontendMessageFormat.{FrontendMessageFormat}
use Rattle.pg_base.specs.declared.format.FrontendMessageFormat.TheVariants as frontend
use Rattle.pg_base.specs.declared.format.BackendMessageFormat.{BackendMessageFormat}
use Rattle.pg_base.specs.declared.format.BackendMessageFormat.TheVariants as backend
use Rattle.pg_base.specs.declared.io.PgValueFormat.{PgValueFormat}
use Rattle.pg_base.specs.declared.io.PgValueFormat.TheVariants as values

-- the first byte of a message from a client
abbrev pub frontend_tag : FrontendMessageFormat → ℕ
frontend_tag frontend.Bind = 66
frontend_tag frontend.Close = 67
frontend_tag frontend.Describe = 68
frontend_tag frontend.Execute = 69
frontend_tag frontend.FunctionCall = 70
frontend_tag frontend.Flush = 72
frontend_tag frontend.Parse = 80
frontend_tag frontend.Query = 81
frontend_tag frontend.Sync = 83
frontend_tag frontend.Terminate = 88
frontend_tag frontend.CopyDone = 99
frontend_tag frontend.CopyData = 100
frontend_tag frontend.CopyFail = 102
frontend_tag frontend.PasswordPolymorphic = 112

-- the first byte of a message from a server
abbrev pub backend_tag : BackendMessageFormat → ℕ
backend_tag backend.Authentication = 82
backend_tag backend.BackendKeyData = 75
backend_tag backend.BindComplete = 50
backend_tag backend.CloseComplete = 51
backend_tag backend.CommandComplete = 67
backend_tag backend.CopyData = 100
backend_tag backend.CopyDone = 99
backend_tag backend.CopyInResponse = 71
backend_tag backend.CopyOutResponse = 72
backend_tag backend.DataRow = 68
backend_tag backend.EmptyQueryResponse = 73
backend_tag backend.ErrorResponse = 69
backend_tag backend.NoData = 110
backend_tag backend.NoticeResponse = 78
backend_tag backend.NotificationResponse = 65
backend_tag backend.ParameterDescription = 116
backend_tag backend.ParameterStatus = 83
backend_tag backend.ParseComplete = 49
backend_tag backend.PortalSuspended = 115
backend_tag backend.ReadyForQuery = 90
backend_tag backend.RowDescription = 84

-- some message from a server begins with this byte
abbrev pub IsBackendTag : ℕ → Type 0
IsBackendTag tag = (format : BackendMessageFormat) × (backend_tag format ≡ tag)

-- the place of a kind in the list of kinds
abbrev pub backend_number : BackendMessageFormat → ℕ
backend_number backend.Authentication = 0
backend_number backend.BackendKeyData = 1
backend_number backend.BindComplete = 2
backend_number backend.CloseComplete = 3
backend_number backend.CommandComplete = 4
backend_number backend.CopyData = 5
backend_number backend.CopyDone = 6
backend_number backend.CopyInResponse = 7
backend_number backend.CopyOutResponse = 8
backend_number backend.DataRow = 9
backend_number backend.EmptyQueryResponse = 10
backend_number backend.ErrorResponse = 11
backend_number backend.NoData = 12
backend_number backend.NoticeResponse = 13
backend_number backend.NotificationResponse = 14
backend_number backend.ParameterDescription = 15
backend_number backend.ParameterStatus = 16
backend_number backend.ParseComplete = 17
backend_number backend.PortalSuspended = 18
backend_number backend.ReadyForQuery = 19
backend_number backend.RowDescription = 20

abbrev pub format_name : BackendMessageFormat → List ℕ
format_name backend.Authentication = codes "Authentication"
format_name backend.BackendKeyData = codes "BackendKeyData"
format_name backend.BindComplete = codes "BindComplete"
format_name backend.CloseComplete = codes "CloseComplete"
format_name backend.CommandComplete = codes "CommandComplete"
format_name backend.CopyData = codes "CopyData"
format_name backend.CopyDone = codes "CopyDone"
format_name backend.CopyInResponse = codes "CopyInResponse"
format_name backend.CopyOutResponse = codes "CopyOutResponse"
format_name backend.DataRow = codes "DataRow"
format_name backend.EmptyQueryResponse = codes "EmptyQueryResponse"
format_name backend.ErrorResponse = codes "ErrorResponse"
format_name backend.NoData = codes "NoData"
format_name backend.NoticeResponse = codes "NoticeResponse"
format_name backend.NotificationResponse = codes "NotificationResponse"
format_name backend.ParameterDescription = codes "ParameterDescription"
format_name backend.ParameterStatus = codes "ParameterStatus"
format_name backend.ParseComplete = codes "ParseComplete"
format_name backend.PortalSuspended = codes "PortalSuspended"
format_name backend.ReadyForQuery = codes "ReadyForQuery"
format_name backend.RowDescription = codes "RowDescription"

-- how a value is spelled, as a number
abbrev pub format_code : PgValueFormat → ℕ
format_code values.Text = 0
format_code values.Binary = 1

abbrev pub format_codes : List PgValueFormat → List ℕ
format_codes formats = map format_code formats
