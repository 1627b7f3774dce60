use Rattle.std.proofs.Common.{◌≡◌}
use Rattle.pg_receive.specs.Response.Fields.{first_value}
use Rattle.pg_receive.proofs.message.response.letters.value_of.Given as goal

abbrev pub invariant-loop-letter : goal.invariant-loop-letter
invariant-loop-letter l =
    (goal.iterator-loop-letter).can_next l.letter-iterator ×
    (goal.iterator-loop-letter).is_finite l.letter-iterator ×
    first_value l.wanted l.letter-iterator ≡ first_value l.wanted l.fn.fields
