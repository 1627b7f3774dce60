-- NegotiateProtocolVersion: what the type's fields are.
use Rattle.pg_format.specs.Messages.{Negotiation}
use Rattle.pg_receive.specs.OptionNames.{option_names}
use Rattle.pg_receive.specs.declared.message.negotiate_protocol_version.NegotiateProtocolVersionRef.{NegotiateProtocolVersionRef}

abbrev pub negotiation_borrowed : NegotiateProtocolVersionRef → Negotiation
negotiation_borrowed it = record { major = it.major; minor = it.minor; options = option_names it.options }
