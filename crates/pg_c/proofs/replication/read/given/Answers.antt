use Rattle.std.proofs.Common.{refl}
use Rattle.pg_c.proofs.ReplicationLemmas.{placed}
use Rattle.pg_c.proofs.replication.read.given.Goals as goal

pub returns-in-XLogData : goal.returns-in-XLogData
returns-in-XLogData c =
    let case = c.in-XLogData in
    let at = placed c.args.content.now c.args.message.now c.requires in
    rw (case.is, c.given_log.ensures) (rw case.is at at, refl)

pub returns-in-NewArchive : goal.returns-in-NewArchive
returns-in-NewArchive c =
    let case = c.in-NewArchive in
    let at = placed c.args.content.now c.args.message.now c.requires in
    let is = rw case.is at at in
    rw (case.is, c.given_archive.ensures) (is.0, is.1, refl)
