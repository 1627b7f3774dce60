use Rattle.std.proofs.Common.{◌≡◌, drop}
use Rattle.pg_replication.specs.Logical.Tuple.{kinds_fault}
use Rattle.pg_replication.proofs.logical.datum.kinds_fault.Given as goal

-- the fault of those that are left is that of all
abbrev pub invariant-loop-value : goal.invariant-loop-value
invariant-loop-value l = kinds_fault (drop l.value-index l.given) ≡ kinds_fault l.given
