use Rattle.std.proofs.Common.{◌≡◌, ℤ, refl, rules}
use Rattle.std.specs.Int.{w64}
use Rattle.std.proofs.lemmas.Int.{to_z-of_z}
use mir.Val.{SFits}
use Rattle.pg_base.specs.Part.{both, byte, bytes, number64}
use Rattle.pg_base.specs.Tagged.{IsSame}
use Rattle.pg_format.specs.Field.{signed64}
use Rattle.pg_format.specs.declared.replication.ReplicationKind.TheVariants as kinds
use Rattle.pg_server.specs.Backend.OutboundMessage.{part_of}
use Rattle.pg_server.specs.Backend.Message.{Replication, law_of}
use Rattle.pg_replication.specs.ReplicationMessage.{shown_xlog_data}
use Rattle.pg_replication.specs.declared.streaming.XLogData.{XLogData}
use Rattle.pg_replication.proofs.streaming.XLogDataOutboundMessage.parts.Goals as goal

of_parts : (it : XLogData) (clock : ℤ) → clock ≡ it.clock
    → IsSame (both (byte 119) (both (number64 it.start) (both (number64 it.end) (both (signed64 clock) (bytes it.content.now)))))
    (part_of (law_of (Replication kinds.XLogData (shown_xlog_data it))))
of_parts it clock e = rw e (record { text = refl; fault = refl; range = λ r. (r.1.0, r.1.1.0, r.1.1.1.0) })

pub returns : goal.returns
returns c =
    let it = c.args.self.now in
    let fits : SFits w64 it.clock = search rules in
    of_parts it _ (to_z-of_z w64 it.clock fits)
