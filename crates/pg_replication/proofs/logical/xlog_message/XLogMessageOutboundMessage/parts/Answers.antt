use Rattle.std.proofs.Common.{◌≡◌, ℤ, refl, rules}
use Rattle.std.specs.Int.{w64}
use Rattle.std.proofs.lemmas.Int.{to_z-of_z}
use mir.Val.{SFits}
use Rattle.pg_base.specs.Part.{both, byte, number64}
use Rattle.pg_base.specs.Tagged.{IsSame}
use Rattle.pg_format.specs.Field.{signed64}
use Rattle.pg_server.specs.Backend.OutboundMessage.{part_of}
use Rattle.pg_server.specs.Backend.Message.{XLogContent, law_of}
use Rattle.pg_replication.specs.Logical.Encode.{content_part}
use Rattle.pg_replication.specs.Logical.XLogMessage.{piece_of}
use Rattle.pg_replication.specs.declared.logical.xlog_message.XLogMessage.{XLogMessage}
use Rattle.pg_replication.proofs.logical.xlog_message.XLogMessageOutboundMessage.parts.Goals as goal

of_parts : (it : XLogMessage) (clock : ℤ) → clock ≡ it.clock
    → IsSame (both (byte 119) (both (number64 it.start) (both (number64 it.end) (both (signed64 clock) (content_part it.message)))))
    (part_of (law_of (XLogContent (piece_of it) (content_part it.message).fault)))
of_parts it clock e = rw e (record { text = refl; fault = refl; range = λ r. (r.1.0, r.1.1.0, r.1.1.1.0) })

pub returns : goal.returns
returns c =
    let it = c.args.self.now in
    let fits : SFits w64 it.clock = search rules in
    of_parts it _ (to_z-of_z w64 it.clock fits)
