use Rattle.std.proofs.Common.{◌≡◌, ℤ, refl, rules}
use Rattle.std.specs.Int.{w64}
use Rattle.std.proofs.lemmas.Int.{to_z-of_z}
use mir.Val.{SFits}
use Rattle.pg_base.specs.Part.{both, number32, number64}
use Rattle.pg_base.specs.Tagged.{IsSame}
use Rattle.pg_format.specs.Field.{number8, signed64}
use Rattle.pg_server.specs.Backend.OutboundItem.{text_part}
use Rattle.pg_replication.specs.Logical.Encode.{prepared_part}
use Rattle.pg_replication.specs.declared.logical.prepared.Prepared.{Prepared}
use Rattle.pg_replication.proofs.logical.prepared.PreparedOutboundFields.parts.Goals as goal

of_parts : (it : Prepared) (clock : ℤ) → clock ≡ it.clock
    → IsSame (both (number8 it.flags) (both (number64 it.lsn) (both (number64 it.end_lsn) (both (signed64 clock) (both (number32 it.transaction) (text_part it.gid.now)))))) (prepared_part it)
of_parts it clock e = rw e (record { text = refl; fault = refl; range = λ r. (r.0, r.1.0, r.1.1.0, r.1.1.1.0, r.1.1.1.1.0) })

pub returns : goal.returns
returns c =
    let it = c.args.self.now in
    let fits : SFits w64 it.clock = search rules in
    of_parts it _ (to_z-of_z w64 it.clock fits)
