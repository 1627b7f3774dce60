use Rattle.std.proofs.Common.{[]}
use Rattle.pg_format.specs.Sasl.{items_in, verifier_key}
use Rattle.pg_receive.specs.Authentication.SaslItems.{base64_value}
use Rattle.pg_receive.proofs.AuthenticationSaslItemsLemmas.{LeftFaults, LeftLast}
use Rattle.pg_receive.proofs.message.authentication.sasl_final.AuthenticationSaslFinalRef.read.Given as goal

abbrev pub invariant-loop-item : goal.invariant-loop-item
invariant-loop-item l =
    (goal.iterator-loop-item).can_next l.item-iterator ×
    (goal.iterator-loop-item).is_finite l.item-iterator ×
    LeftFaults verifier_key (items_in l.data) l.item-iterator ×
    LeftLast base64_value [] verifier_key (items_in l.data) l.verifier l.item-iterator
