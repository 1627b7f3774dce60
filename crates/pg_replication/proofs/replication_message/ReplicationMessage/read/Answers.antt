use Rattle.std.proofs.Common.{refl, inl, inr}
use Rattle.std.proofs.lemmas.Result.{err_from_is_err_and}
use Rattle.pg_replication.proofs.replication_message.ReplicationMessage.read.Goals as goal

pub returns-in_err-letter-clause-read : goal.returns-in_err-letter-clause-read
returns-in_err-letter-clause-read c =
    let p = err_from_is_err_and c.from_residual.result c.from_residual.ensures.1 in
    λ _. inr (inr (record { fault = p.0; short = rw p.2 c.in_err-letter.ensures.short; is = p.1 }))

pub returns-in-Some-clause-read : goal.returns-in-Some-clause-read
returns-in-Some-clause-read c =
    λ _. inl (record { kind = c.in-Some.kind; lettered = rw c.in-Some.ensures.known c.in_ok-letter.ensures.found; reads = c.read_as.ensures })

pub returns-in-None-clause-read : goal.returns-in-None-clause-read
returns-in-None-clause-read c =
    λ _. inr (inl (record { letter_there = c.in_ok-letter.letter; stands = c.in_ok-letter.ensures.found; none = c.in-None.ensures.unknown; is = refl }))
