use Rattle.std.specs.Prelude.{[], ◌∷◌, negsuc, codes}
use Rattle.std.proofs.Common.{refl, inl, inr, arith}
use Rattle.pg_format.specs.Examples.{bind_of_three_values, statement_s, portal_p, portal_without_a_name, portal_with_a_limit, call_with_an_argument, statement_with_a_type, text_of_a_query, three_bytes, text_of_a_failure, mechanism_with_data, mechanism_without_data}
use Rattle.pg_format.proofs.ExamplesLemmas.{clean}
use Rattle.pg_format.proofs.FormatLaws.FromClient.{lawful_bind, lawful_targeted, lawful_empty, lawful_execute, lawful_function_call, lawful_parse, lawful_text, lawful_sasl_initial_response, lawful_sasl_response}
use Rattle.pg_format.proofs.FormatLaws.Parts.{lawful_remaining, lawful_signed}
use Rattle.pg_format.proofs.laws.examples.examples_from_a_client.Goals as goal

pub returns-clause-bind : goal.returns-clause-bind
returns-clause-bind c = lawful_bind.written bind_of_three_values.value [] (((clean (codes "p") refl), ((clean (codes "s") refl), (((omega arith, (refl, (omega arith, tt))), refl), (((omega arith, (refl, (((omega arith, (refl, refl)), refl), (((omega arith, refl), refl), (((omega arith, (refl, refl)), refl), tt))))), refl), ((omega arith, (refl, (omega arith, (omega arith, tt)))), refl))))), refl)

pub returns-clause-close_statement : goal.returns-clause-close_statement
returns-clause-close_statement c = lawful_targeted.written statement_s.value [] ((tt, (clean (codes "s") refl)), refl)

pub returns-clause-close_portal : goal.returns-clause-close_portal
returns-clause-close_portal c = lawful_targeted.written portal_p.value [] ((tt, (clean (codes "p") refl)), refl)

pub returns-clause-describe_statement : goal.returns-clause-describe_statement
returns-clause-describe_statement c = lawful_targeted.written statement_s.value [] ((tt, (clean (codes "s") refl)), refl)

pub returns-clause-describe_portal : goal.returns-clause-describe_portal
returns-clause-describe_portal c = lawful_targeted.written portal_without_a_name.value [] ((tt, tt), refl)

pub returns-clause-execute : goal.returns-clause-execute
returns-clause-execute c = lawful_execute.written portal_with_a_limit.value [] (((clean (codes "p") refl), omega arith), refl)

pub returns-clause-flush : goal.returns-clause-flush
returns-clause-flush c = lawful_empty.written tt [] (refl, refl)

pub returns-clause-function_call : goal.returns-clause-function_call
returns-clause-function_call c = lawful_function_call.written call_with_an_argument.value [] ((omega arith, (((omega arith, (refl, (omega arith, tt))), refl), (((omega arith, (refl, (((omega arith, (refl, refl)), refl), tt))), refl), omega arith))), refl)

pub returns-clause-parse : goal.returns-clause-parse
returns-clause-parse c = lawful_parse.written statement_with_a_type.value [] (((clean (codes "s") refl), ((clean (codes "SELECT $1") refl), ((omega arith, (refl, (omega arith, tt))), refl))), refl)

pub returns-clause-query : goal.returns-clause-query
returns-clause-query c = lawful_text.written text_of_a_query.value [] ((clean (codes "SELECT 1") refl), refl)

pub returns-clause-sync : goal.returns-clause-sync
returns-clause-sync c = lawful_empty.written tt [] (refl, refl)

pub returns-clause-terminate : goal.returns-clause-terminate
returns-clause-terminate c = lawful_empty.written tt [] (refl, refl)

pub returns-clause-copy_done : goal.returns-clause-copy_done
returns-clause-copy_done c = lawful_empty.written tt [] (refl, refl)

pub returns-clause-copy_data : goal.returns-clause-copy_data
returns-clause-copy_data c = lawful_remaining.written three_bytes.value [] refl

pub returns-clause-copy_fail : goal.returns-clause-copy_fail
returns-clause-copy_fail c = lawful_text.written text_of_a_failure.value [] ((clean (codes "no room") refl), refl)

pub returns-clause-password : goal.returns-clause-password
returns-clause-password c = lawful_remaining.written three_bytes.value [] refl

pub returns-clause-password_message : goal.returns-clause-password_message
returns-clause-password_message c = lawful_text.written (codes "secret") [] ((clean (codes "secret") refl), refl)

pub returns-clause-sasl_initial_response : goal.returns-clause-sasl_initial_response
returns-clause-sasl_initial_response c = lawful_sasl_initial_response.written mechanism_with_data.value [] (((clean (codes "PLAIN") refl), ((omega arith, (refl, refl)), refl)), refl)

pub returns-clause-sasl_initial_none : goal.returns-clause-sasl_initial_none
returns-clause-sasl_initial_none c = lawful_sasl_initial_response.written mechanism_without_data.value [] (((clean (codes "PLAIN") refl), ((omega arith, refl), refl)), refl)

pub returns-clause-sasl_initial_length : goal.returns-clause-sasl_initial_length
returns-clause-sasl_initial_length c =
    inl (inr (record {
      value = codes "PLAIN";
      mid = 255 ∷ 255 ∷ 255 ∷ 254 ∷ [];
      reads = record { clean = clean (codes "PLAIN") refl; parts = refl };
      breaks = inr (record { value = negsuc 1; mid = []; reads = (lawful_signed 4 tt).written (negsuc 1) [] (omega arith); breaks = refl });
    }))

pub returns-clause-sasl_response : goal.returns-clause-sasl_response
returns-clause-sasl_response c = lawful_sasl_response.written (codes "c=biws") [] refl

pub returns-clause-gss_response : goal.returns-clause-gss_response
returns-clause-gss_response c = lawful_remaining.written three_bytes.value [] refl
