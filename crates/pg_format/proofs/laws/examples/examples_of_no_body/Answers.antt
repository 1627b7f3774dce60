use Rattle.std.specs.Prelude.{[], ◌∷◌}
use Rattle.std.proofs.Common.{refl, arith, inr}
use Rattle.pg_base.specs.declared.error.ProtocolFault.TheVariants.{TrailingBytes}
use Rattle.pg_format.specs.Format.{Means, IsFaultOf}
use Rattle.pg_format.specs.Messages.{no_body, empty}
use Rattle.pg_format.proofs.laws.examples.examples_of_no_body.Goals as goal

ignored : Means no_body (7 ∷ []) tt
ignored = (7 ∷ [], (refl, refl), refl)

-- what is too long begins at the first byte
too_long : IsFaultOf empty (7 ∷ []) (TrailingBytes 0)
too_long = inr (record { value = tt; mid = 7 ∷ []; reads = (refl, refl); breaks = record { some = omega arith; is = refl } })

pub returns-clause-bound_with_a_body : goal.returns-clause-bound_with_a_body
returns-clause-bound_with_a_body c = ignored

pub returns-clause-closed_with_a_body : goal.returns-clause-closed_with_a_body
returns-clause-closed_with_a_body c = ignored

pub returns-clause-copied_with_a_body : goal.returns-clause-copied_with_a_body
returns-clause-copied_with_a_body c = ignored

pub returns-clause-empty_query_with_a_body : goal.returns-clause-empty_query_with_a_body
returns-clause-empty_query_with_a_body c = ignored

pub returns-clause-no_data_with_a_body : goal.returns-clause-no_data_with_a_body
returns-clause-no_data_with_a_body c = ignored

pub returns-clause-parsed_with_a_body : goal.returns-clause-parsed_with_a_body
returns-clause-parsed_with_a_body c = ignored

pub returns-clause-suspended_with_a_body : goal.returns-clause-suspended_with_a_body
returns-clause-suspended_with_a_body c = ignored

pub returns-clause-flush_with_a_body : goal.returns-clause-flush_with_a_body
returns-clause-flush_with_a_body c = too_long

pub returns-clause-sync_with_a_body : goal.returns-clause-sync_with_a_body
returns-clause-sync_with_a_body c = too_long

pub returns-clause-terminate_with_a_body : goal.returns-clause-terminate_with_a_body
returns-clause-terminate_with_a_body c = too_long

pub returns-clause-sent_copy_done_with_a_body : goal.returns-clause-sent_copy_done_with_a_body
returns-clause-sent_copy_done_with_a_body c = too_long
