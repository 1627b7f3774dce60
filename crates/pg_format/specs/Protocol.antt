-- The tags and names of all kinds of message that a server sends: those of `BackendMessageFormat`, and three more.
-- Documentation: "Message Formats", the messages marked (B).
use Rattle.std.specs.Prelude.{◌≡◌, ℕ, List, codes}
use Rattle.pg_base.specs.Format.{backend_tag, format_name}
use Rattle.pg_format.specs.declared.protocol.ProtocolMessageKind.{ProtocolMessageKind}
use Rattle.pg_format.specs.declared.protocol.ProtocolMessageKind.TheVariants as kinds

-- the first byte of a message
abbrev pub protocol_tag : ProtocolMessageKind → ℕ
protocol_tag (kinds.Known format) = backend_tag format
protocol_tag kinds.CopyBothResponse = 87
protocol_tag kinds.FunctionCallResponse = 86
protocol_tag kinds.NegotiateProtocolVersion = 118

-- some message from a server begins with this byte
abbrev pub IsProtocolTag : ℕ → Type 0
IsProtocolTag tag = (kind : ProtocolMessageKind) × (protocol_tag kind ≡ tag)

abbrev pub protocol_name : ProtocolMessageKind → List ℕ
protocol_name (kinds.Known format) = format_name format
protocol_name kinds.CopyBothResponse = codes "CopyBothResponse"
protocol_name kinds.FunctionCallResponse = codes "FunctionCallResponse"
protocol_name kinds.NegotiateProtocolVersion = codes "NegotiateProtocolVersion"
