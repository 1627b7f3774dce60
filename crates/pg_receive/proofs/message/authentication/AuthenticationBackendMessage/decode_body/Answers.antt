use Rattle.std.proofs.Common.{◌≡◌, ℕ, ◌-◌, List, [], length, take, drop, Vec, Global, refl, ap, ◌∙◌, arith}
use Rattle.std.proofs.lemmas.List.{take_all, length-drop}
use Rattle.std.proofs.lemmas.Result.{err_from_is_err_and}
use Rattle.pg_format.specs.Format.Parts.{be_u32}
use Rattle.pg_format.specs.Messages as page
use Rattle.pg_receive.specs.Authentication.Mechanisms.{mechanisms_in}
use Rattle.pg_receive.specs.Authentication.Shown.{continue_shown}
use Rattle.pg_receive.proofs.AuthenticationLemmas.{request_means, request_breaks, names_read, challenge_request, challenge_error, verifier_request, verifier_error}
use Rattle.pg_receive.proofs.message.authentication.AuthenticationBackendMessage.decode_body.Goals as goal

-- the number of the method, of the body that is kept
method_in : (body slice : List ℕ) (method : ℕ) → slice ≡ body → be_u32.Reads slice method (drop 4 slice) → be_u32.Reads body method (drop 4 body)
method_in body slice method e p = rw e at p

-- what follows it
after_method : (body slice : List ℕ) → slice ≡ body → take (length slice - 4) (drop 4 slice) ≡ drop 4 body
after_method body slice e = take_all (length slice - 4) (drop 4 slice) (omega (arith, length-drop 4 slice)) ∙ ap (drop 4) e

pub returns-in-0 : goal.returns-in-0
returns-in-0 c =
    let body = c.args.buf in
    let method = c.in_ok-method.method in
    let found = method_in body c.as_slice-body.result.now method c.as_slice-body.ensures c.in_ok-method.ensures.found in
    request_means body method (drop 4 body) page.ok (drop 4 body) found (rw c.in-0.is (refl, refl))

pub returns-in-3 : goal.returns-in-3
returns-in-3 c =
    let body = c.args.buf in
    let method = c.in_ok-method.method in
    let found = method_in body c.as_slice-body.result.now method c.as_slice-body.ensures c.in_ok-method.ensures.found in
    request_means body method (drop 4 body) page.cleartext_password (drop 4 body) found (rw c.in-3.is (refl, refl))

pub returns-in_ok-md5_password_of-in-5 : goal.returns-in_ok-md5_password_of-in-5
returns-in_ok-md5_password_of-in-5 c =
    let body = c.args.buf in
    let method = c.in_ok-method.method in
    let salt = c.in_ok-md5_password_of-in-5.field-0.salt in
    let found = method_in body c.as_slice-body.result.now method c.as_slice-body.ensures c.in_ok-method.ensures.found in
    let read = rw c.as_slice-body.ensures at c.in_ok-md5_password_of-in-5.ensures.salt in
    request_means body method (drop 4 body) (page.md5_password salt) (drop 8 body) found (rw c.in-5.is (salt, read.reads, refl))

pub returns-in_err-md5_password_of-in-5 : goal.returns-in_err-md5_password_of-in-5
returns-in_err-md5_password_of-in-5 c =
    let body = c.args.buf in
    let method = c.in_ok-method.method in
    let p = err_from_is_err_and c.from_residual-in_err-md5_password_of-in-5.result c.from_residual-in_err-md5_password_of-in-5.ensures.1 in
    let found = method_in body c.as_slice-body.result.now method c.as_slice-body.ensures c.in_ok-method.ensures.found in
    let short = rw c.as_slice-body.ensures at c.in_err-md5_password_of-in-5.ensures.short in
    rw (p.1, p.2) (refl, request_breaks body method (drop 4 body) c.in_err-md5_password_of-in-5.field-0.0 found (rw c.in-5.is short))

pub returns-in-10 : goal.returns-in-10
returns-in-10 c =
    let body = c.args.buf in
    let method = c.in_ok-method.method in
    let found = method_in body c.as_slice-body.result.now method c.as_slice-body.ensures c.in_ok-method.ensures.found in
    let names = mechanisms_in (drop 4 body) in
    rw c.advance.ensures (request_means body method (drop 4 body) (page.sasl names) [] found (rw c.in-10.is (names, names_read (drop 4 body), refl)))

pub returns-in_ok-challenge-in-11 : goal.returns-in_ok-challenge-in-11
returns-in_ok-challenge-in-11 c =
    let body = c.args.buf in
    let method = c.in_ok-method.method in
    let found = method_in body c.as_slice-body.result.now method c.as_slice-body.ensures c.in_ok-method.ensures.found in
    challenge_request body method _ (continue_shown c.in_ok-challenge-in-11.challenge) found c.in-11.is (after_method body c.as_slice-body.result.now c.as_slice-body.ensures) c.in_ok-challenge-in-11.ensures

pub returns-in_err-challenge-in-11 : goal.returns-in_err-challenge-in-11
returns-in_err-challenge-in-11 c =
    let p = err_from_is_err_and c.from_residual-in_err-challenge-in-11.result c.from_residual-in_err-challenge-in-11.ensures.1 in
    let body = c.args.buf in
    let method = c.in_ok-method.method in
    let found = method_in body c.as_slice-body.result.now method c.as_slice-body.ensures c.in_ok-method.ensures.found in
    let after = after_method body c.as_slice-body.result.now c.as_slice-body.ensures in
    rw (p.1, p.2) (challenge_error body method _ c.in_err-challenge-in-11.field-0.0 found c.in-11.is after c.in_err-challenge-in-11.ensures)

pub returns-in_ok-verifier-in-12 : goal.returns-in_ok-verifier-in-12
returns-in_ok-verifier-in-12 c =
    let body = c.args.buf in
    let method = c.in_ok-method.method in
    let found = method_in body c.as_slice-body.result.now method c.as_slice-body.ensures c.in_ok-method.ensures.found in
    verifier_request body method _ c.in_ok-verifier-in-12.verifier.items found c.in-12.is (after_method body c.as_slice-body.result.now c.as_slice-body.ensures) c.in_ok-verifier-in-12.ensures

pub returns-in_err-verifier-in-12 : goal.returns-in_err-verifier-in-12
returns-in_err-verifier-in-12 c =
    let p = err_from_is_err_and c.from_residual-in_err-verifier-in-12.result c.from_residual-in_err-verifier-in-12.ensures.1 in
    let body = c.args.buf in
    let method = c.in_ok-method.method in
    let found = method_in body c.as_slice-body.result.now method c.as_slice-body.ensures c.in_ok-method.ensures.found in
    let after = after_method body c.as_slice-body.result.now c.as_slice-body.ensures in
    rw (p.1, p.2) (verifier_error (λ (verifier : Vec ℕ Global). verifier.items) body method _ c.in_err-verifier-in-12.field-0.0 found c.in-12.is after c.in_err-verifier-in-12.ensures)
