use Rattle.std.proofs.Common.{◌≡◌, ℤ, refl, rules}
use Rattle.std.specs.Int.{w64}
use Rattle.std.proofs.lemmas.Int.{to_z-of_z}
use mir.Val.{SFits}
use Rattle.pg_base.specs.Part.{both, number32, number64}
use Rattle.pg_base.specs.Tagged.{IsSame}
use Rattle.pg_format.specs.Field.{number8, signed64}
use Rattle.pg_server.specs.Backend.OutboundItem.{text_part}
use Rattle.pg_replication.specs.Logical.Encode.{rollback_prepared_part}
use Rattle.pg_replication.specs.declared.logical.prepared.RollbackPrepared.{RollbackPrepared}
use Rattle.pg_replication.proofs.logical.prepared.RollbackPreparedOutboundFields.parts.Goals as goal

of_parts : (it : RollbackPrepared) (prepared rolled_back : ℤ) → prepared ≡ it.prepare_clock → rolled_back ≡ it.rollback_clock
    → IsSame (both (number8 it.flags) (both (number64 it.prepare_end_lsn) (both (number64 it.rollback_end_lsn) (both (signed64 prepared) (both (signed64 rolled_back) (both (number32 it.transaction) (text_part it.gid.now)))))))
    (rollback_prepared_part it)
of_parts it prepared rolled_back e f = rw (e, f) (record { text = refl; fault = refl; range = λ r. (r.0, r.1.0, r.1.1.0, r.1.1.1.0, r.1.1.1.1.0, r.1.1.1.1.1.0) })

pub returns : goal.returns
returns c =
    let it = c.args.self.now in
    let prepared : SFits w64 it.prepare_clock = search rules in
    let rolled_back : SFits w64 it.rollback_clock = search rules in
    of_parts it _ _ (to_z-of_z w64 it.prepare_clock prepared) (to_z-of_z w64 it.rollback_clock rolled_back)
