use Rattle.std.specs.Prelude.{ℕ, ◌^◌, ◌<◌, List, [], ◌∷◌, ◌++◌, codes}
use Rattle.std.specs.Int.{bytes_high_first}
use Rattle.std.proofs.Common.{refl, arith}
use Rattle.pg_format.specs.Format.{Means}
use Rattle.pg_format.specs.Messages.{asked_by, authentication}
use Rattle.pg_format.specs.Sasl.{utf8_fault}
use Rattle.pg_format.specs.Tables.{Authentication, ok, cleartext_password, md5_password, sasl, sasl_continue, sasl_final}
use Rattle.pg_format.proofs.ExamplesLemmas.{clean, item_clean, neither}
use Rattle.pg_format.proofs.FormatLaws.FromServer.{u32, lawful_names}
use Rattle.pg_format.proofs.laws.examples.examples_of_authentication.Goals as goal

-- what is read after a method's number
by_method : (method : ℕ) (bytes : List ℕ) (request : Authentication) → method < 256 ^ 4 → (asked_by method).Reads bytes request [] → Means authentication (bytes_high_first 4 method ++ bytes) request
by_method method bytes request low p = ([], ((method, request), record { mid = bytes; first = u32.written method bytes low; second = p }, refl), refl)

pub returns-clause-ok : goal.returns-clause-ok
returns-clause-ok c = by_method 0 [] ok (omega arith) (refl, refl)

pub returns-clause-cleartext : goal.returns-clause-cleartext
returns-clause-cleartext c = by_method 3 [] cleartext_password (omega arith) (refl, refl)

pub returns-clause-md5 : goal.returns-clause-md5
returns-clause-md5 c = by_method 5 (9 ∷ 0 ∷ 8 ∷ 7 ∷ []) (md5_password (9 ∷ 0 ∷ 8 ∷ 7 ∷ [])) (omega arith) (9 ∷ 0 ∷ 8 ∷ 7 ∷ [], (refl, refl), refl)

pub returns-clause-sasl : goal.returns-clause-sasl
unfolding lib.Utf8.encode
returns-clause-sasl c = by_method 10 (codes "SCRAM-SHA-256" ++ 0 ∷ 0 ∷ []) (sasl (codes "SCRAM-SHA-256" ∷ [])) (omega arith) (codes "SCRAM-SHA-256" ∷ [], lawful_names.written (codes "SCRAM-SHA-256" ∷ []) [] ((((clean (codes "SCRAM-SHA-256") refl), ((λ e. absurd (cc e)), (codes "SCRAM-SHA-256", (refl, refl)))), tt), refl), refl)

pub returns-clause-continued : goal.returns-clause-continued
unfolding lib.Utf8.encode
returns-clause-continued c = by_method 11 (codes "r=ab,i=4096") (sasl_continue (codes "r=ab,i=4096")) (omega arith) (codes "r=ab,i=4096", ((refl, refl), neither (utf8_fault (codes "ab")) (utf8_fault (codes "r=ab,i=4096")) (item_clean (codes "ab") (codes "ab", (refl, refl))) (item_clean (codes "r=ab,i=4096") (codes "r=ab,i=4096", (refl, refl)))), refl)

pub returns-clause-finished : goal.returns-clause-finished
returns-clause-finished c = by_method 12 (codes "e=other") (sasl_final (codes "e=other")) (omega arith) (codes "e=other", ((refl, refl), refl), refl)

pub returns-clause-ok_is_0 : goal.returns-clause-ok_is_0
returns-clause-ok_is_0 c = refl

pub returns-clause-cleartext_is_3 : goal.returns-clause-cleartext_is_3
returns-clause-cleartext_is_3 c = refl

pub returns-clause-md5_is_5 : goal.returns-clause-md5_is_5
returns-clause-md5_is_5 c = refl

pub returns-clause-sasl_is_10 : goal.returns-clause-sasl_is_10
returns-clause-sasl_is_10 c = refl

pub returns-clause-continued_is_11 : goal.returns-clause-continued_is_11
returns-clause-continued_is_11 c = refl

pub returns-clause-finished_is_12 : goal.returns-clause-finished_is_12
returns-clause-finished_is_12 c = refl
