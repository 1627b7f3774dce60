use Rattle.std.specs.Prelude.{[], ◌∷◌, codes, Some, None}
use Rattle.std.proofs.Common.{refl, arith}
use Rattle.pg_format.specs.Examples.{copy_of_no_columns, two_unknown_options, key_of_five_bytes}
use Rattle.pg_format.proofs.ExamplesLemmas.{clean}
use Rattle.pg_format.proofs.FormatLaws.FromServer.{lawful_backend_key, lawful_copy_response, lawful_function_call_response, lawful_negotiation}
use Rattle.pg_format.proofs.laws.examples.examples_of_other_messages.Goals as goal

pub returns-clause-copied_both : goal.returns-clause-copied_both
returns-clause-copied_both c = lawful_copy_response.written copy_of_no_columns.value [] ((omega arith, (omega arith, (refl, tt))), refl)

pub returns-clause-called : goal.returns-clause-called
returns-clause-called c = lawful_function_call_response.written (Some (9 ∷ 0 ∷ [])) [] (((omega arith, (refl, refl)), refl), refl)

pub returns-clause-called_null : goal.returns-clause-called_null
returns-clause-called_null c = lawful_function_call_response.written None [] (((omega arith, refl), refl), refl)

pub returns-clause-negotiated : goal.returns-clause-negotiated
returns-clause-negotiated c = lawful_negotiation.written two_unknown_options.value [] (((omega arith, omega arith), ((omega arith, (refl, (clean (codes "_pq_.a") refl, (clean (codes "_pq_.b") refl, tt)))), refl)), refl)

pub returns-clause-key_of_five_bytes : goal.returns-clause-key_of_five_bytes
returns-clause-key_of_five_bytes c = lawful_backend_key.written key_of_five_bytes.value [] (omega arith, (refl, refl))
