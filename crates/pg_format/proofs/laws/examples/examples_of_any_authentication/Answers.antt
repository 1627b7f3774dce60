use Rattle.std.specs.Prelude.{ℕ, ◌^◌, ◌<◌, List, [], ◌∷◌, ◌++◌}
use Rattle.std.specs.Int.{bytes_high_first}
use Rattle.std.proofs.Common.{refl, arith}
use Rattle.pg_format.specs.Format.{Means}
use Rattle.pg_format.specs.Messages.{asked_by_any, any_authentication}
use Rattle.pg_format.specs.Tables.{AnyAuthentication, md5_password, known_method, kerberos_v5, scm_credential, gss, gss_continue, sspi, other_method}
use Rattle.pg_format.proofs.FormatLaws.FromServer.{u32}
use Rattle.pg_format.proofs.laws.examples.examples_of_any_authentication.Goals as goal

-- what is read after a method's number
by_method : (method : ℕ) (bytes : List ℕ) (request : AnyAuthentication) → method < 256 ^ 4 → (asked_by_any method).Reads bytes request [] → Means any_authentication (bytes_high_first 4 method ++ bytes) request
by_method method bytes request low p = ([], ((method, request), record { mid = bytes; first = u32.written method bytes low; second = p }, refl), refl)

pub returns-clause-kerberos_v5 : goal.returns-clause-kerberos_v5
returns-clause-kerberos_v5 c = by_method 2 [] kerberos_v5 (omega arith) (refl, refl)

pub returns-clause-scm_credential : goal.returns-clause-scm_credential
returns-clause-scm_credential c = by_method 6 [] scm_credential (omega arith) (refl, refl)

pub returns-clause-gss : goal.returns-clause-gss
returns-clause-gss c = by_method 7 [] gss (omega arith) (refl, refl)

pub returns-clause-gss_continue : goal.returns-clause-gss_continue
returns-clause-gss_continue c = by_method 8 (7 ∷ 0 ∷ 9 ∷ []) (gss_continue (7 ∷ 0 ∷ 9 ∷ [])) (omega arith) (7 ∷ 0 ∷ 9 ∷ [], (refl, refl), refl)

pub returns-clause-sspi : goal.returns-clause-sspi
returns-clause-sspi c = by_method 9 [] sspi (omega arith) (refl, refl)

pub returns-clause-one_of_the_six : goal.returns-clause-one_of_the_six
returns-clause-one_of_the_six c =
    by_method 5 (9 ∷ 0 ∷ 8 ∷ 7 ∷ []) (known_method (md5_password (9 ∷ 0 ∷ 8 ∷ 7 ∷ []))) (omega arith) (md5_password (9 ∷ 0 ∷ 8 ∷ 7 ∷ []), (9 ∷ 0 ∷ 8 ∷ 7 ∷ [], (refl, refl), refl), refl)

pub returns-clause-of_no_method : goal.returns-clause-of_no_method
returns-clause-of_no_method c = by_method 13 (7 ∷ []) (other_method 13 (7 ∷ [])) (omega arith) (7 ∷ [], (refl, refl), refl)
