use Rattle.std.proofs.Common.{refl, arith}
use Rattle.pg_c.proofs.LogicalGivenLemmas.{some_and_placed}
use Rattle.pg_c.proofs.replication.logical.read.given.Goals as goal

pub returns-in-Message : goal.returns-in-Message
returns-in-Message c =
    let case = c.in-Message in
    let at = rw case.is at (some_and_placed c.requires.read.0 c.args.content.now c.args.message.now c.requires.read.1).1 in
    rw (case.is, c.given_message.ensures) (at.0, at.1, refl)

pub returns-in-Origin : goal.returns-in-Origin
returns-in-Origin c =
    let case = c.in-Origin in
    let at = rw case.is at (some_and_placed c.requires.read.0 c.args.content.now c.args.message.now c.requires.read.1).1 in
    rw (case.is, c.given_origin.ensures) (at, refl)

pub given_relation-requires : goal.given_relation-requires
given_relation-requires c =
    let at = rw c.in-Relation.is at (some_and_placed c.requires.read.0 c.args.content.now c.args.message.now c.requires.read.1).1 in
    omega (arith, at.3, c.requires.short)

pub returns-in-Relation : goal.returns-in-Relation
returns-in-Relation c =
    let case = c.in-Relation in
    let at = rw case.is at (some_and_placed c.requires.read.0 c.args.content.now c.args.message.now c.requires.read.1).1 in
    rw (case.is, c.given_relation.ensures) (at.0, at.1, at.2, refl)

pub returns-in-TypeName : goal.returns-in-TypeName
returns-in-TypeName c =
    let case = c.in-TypeName in
    let at = rw case.is at (some_and_placed c.requires.read.0 c.args.content.now c.args.message.now c.requires.read.1).1 in
    rw (case.is, c.given_type_name.ensures) (at.0, at.1, refl)

pub returns-in-Insert : goal.returns-in-Insert
returns-in-Insert c =
    let case = c.in-Insert in
    let at = rw case.is at (some_and_placed c.requires.read.0 c.args.content.now c.args.message.now c.requires.read.1).1 in
    rw (case.is, c.given_insert.ensures) (at, refl)

pub given_update-requires : goal.given_update-requires
given_update-requires c =
    let placed = some_and_placed c.requires.read.0 c.args.content.now c.args.message.now c.requires.read.1 in
    record { some = placed.0; short = c.requires.short; means = rw c.in-Update.is at placed.1 }

pub returns-in-Delete : goal.returns-in-Delete
returns-in-Delete c =
    let case = c.in-Delete in
    let at = rw case.is at (some_and_placed c.requires.read.0 c.args.content.now c.args.message.now c.requires.read.1).1 in
    rw (case.is, c.given_delete.ensures) (at, refl)

pub returns-in-Truncate : goal.returns-in-Truncate
returns-in-Truncate c =
    let case = c.in-Truncate in
    let at = rw case.is at (some_and_placed c.requires.read.0 c.args.content.now c.args.message.now c.requires.read.1).1 in
    rw (case.is, c.given_truncate.ensures) (at, refl)

pub returns-in-BeginPrepare : goal.returns-in-BeginPrepare
returns-in-BeginPrepare c =
    let case = c.in-BeginPrepare in
    let at = rw case.is at (some_and_placed c.requires.read.0 c.args.content.now c.args.message.now c.requires.read.1).1 in
    rw (case.is, c.given_begin_prepare.ensures) (at, refl)

pub returns-in-Prepare : goal.returns-in-Prepare
returns-in-Prepare c =
    let case = c.in-Prepare in
    let at = rw case.is at (some_and_placed c.requires.read.0 c.args.content.now c.args.message.now c.requires.read.1).1 in
    rw (case.is, c.given_prepared.ensures) (at, refl)

pub returns-in-CommitPrepared : goal.returns-in-CommitPrepared
returns-in-CommitPrepared c =
    let case = c.in-CommitPrepared in
    let at = rw case.is at (some_and_placed c.requires.read.0 c.args.content.now c.args.message.now c.requires.read.1).1 in
    rw (case.is, c.given_prepared-in-CommitPrepared.ensures) (at, refl)

pub returns-in-RollbackPrepared : goal.returns-in-RollbackPrepared
returns-in-RollbackPrepared c =
    let case = c.in-RollbackPrepared in
    let at = rw case.is at (some_and_placed c.requires.read.0 c.args.content.now c.args.message.now c.requires.read.1).1 in
    rw (case.is, c.given_rollback_prepared.ensures) (at, refl)

pub returns-in-StreamPrepare : goal.returns-in-StreamPrepare
returns-in-StreamPrepare c =
    let case = c.in-StreamPrepare in
    let at = rw case.is at (some_and_placed c.requires.read.0 c.args.content.now c.args.message.now c.requires.read.1).1 in
    rw (case.is, c.given_prepared-in-StreamPrepare.ensures) (at, refl)
