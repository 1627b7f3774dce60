use Rattle.std.proofs.Common.{[]}
use Rattle.pg_format.specs.Keyed.{plain}
use Rattle.pg_format.specs.Sasl.{items_in, nonce_key, salt_key}
use Rattle.pg_receive.specs.Authentication.SaslItems.{base64_value}
use Rattle.pg_receive.specs.Authentication.SaslContinue.{iterations_key, iterations_of, default_iterations}
use Rattle.pg_receive.proofs.AuthenticationSaslItemsLemmas.{LeftFaults, LeftLast}
use Rattle.pg_receive.proofs.message.authentication.sasl_continue.AuthenticationSaslContinueRef.read.Given as goal

abbrev pub invariant-loop-item : goal.invariant-loop-item
invariant-loop-item l =
    (goal.iterator-loop-item).can_next l.item-iterator ×
    (goal.iterator-loop-item).is_finite l.item-iterator ×
    LeftFaults salt_key (items_in l.data) l.item-iterator ×
    LeftLast base64_value [] salt_key (items_in l.data) l.challenge.salt l.item-iterator ×
    LeftLast iterations_of default_iterations iterations_key (items_in l.data) l.challenge.iterations l.item-iterator ×
    LeftLast plain [] nonce_key (items_in l.data) l.challenge.nonce.now l.item-iterator
