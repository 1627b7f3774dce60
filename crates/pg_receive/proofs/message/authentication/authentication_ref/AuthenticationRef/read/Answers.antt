use Rattle.std.proofs.Common.{◌≡◌, ℕ, ◌-◌, List, [], length, take, drop, refl, ap, ◌∙◌, arith}
use Rattle.std.proofs.lemmas.List.{take_all, length-drop}
use Rattle.std.proofs.lemmas.Result.{err_from_is_err_and}
use Rattle.pg_format.specs.Messages as page
use Rattle.pg_receive.specs.Authentication.{sasl, requests}
use Rattle.pg_receive.specs.Authentication.Mechanisms.{mechanisms_in}
use Rattle.pg_receive.specs.Authentication.Shown.{continue_borrowed}
use Rattle.pg_format.specs.Format.{Means}
use Rattle.pg_receive.proofs.AuthenticationLemmas.{request_means, request_breaks, names_read, challenge_request, challenge_refused, verifier_request, verifier_refused}
use Rattle.pg_receive.proofs.message.authentication.authentication_ref.AuthenticationRef.read.Goals as goal

-- what follows the number of the method
content_is : (body : List ℕ) → take (length body - 4) (drop 4 body) ≡ drop 4 body
content_is body = take_all (length body - 4) (drop 4 body) (omega (arith, length-drop 4 body))

pub returns-in-0 : goal.returns-in-0
returns-in-0 c =
    let body = c.args.body.now in
    let method = c.in_ok-method in
    request_means body method.method (drop 4 body) page.ok (drop 4 body) method.ensures.found (rw c.in-0.is (refl, refl))

pub returns-in-3 : goal.returns-in-3
returns-in-3 c =
    let body = c.args.body.now in
    let method = c.in_ok-method in
    request_means body method.method (drop 4 body) page.cleartext_password (drop 4 body) method.ensures.found (rw c.in-3.is (refl, refl))

pub returns-in_ok-md5_password_of-in-5 : goal.returns-in_ok-md5_password_of-in-5
returns-in_ok-md5_password_of-in-5 c =
    let body = c.args.body.now in
    let method = c.in_ok-method in
    let salt = c.in_ok-md5_password_of-in-5.field-0.salt in
    request_means body method.method (drop 4 body) (page.md5_password salt) (drop 8 body) method.ensures.found (rw c.in-5.is (salt, c.in_ok-md5_password_of-in-5.ensures.salt.reads, refl))

pub returns-in_err-md5_password_of-in-5 : goal.returns-in_err-md5_password_of-in-5
returns-in_err-md5_password_of-in-5 c =
    let body = c.args.body.now in
    let method = c.in_ok-method in
    let p = err_from_is_err_and c.from_residual-in_err-md5_password_of-in-5.result c.from_residual-in_err-md5_password_of-in-5.ensures.1 in
    rw (p.1, p.2) (request_breaks body method.method (drop 4 body) c.in_err-md5_password_of-in-5.field-0.0 method.ensures.found (rw c.in-5.is c.in_err-md5_password_of-in-5.ensures.short))

pub returns-in-10 : goal.returns-in-10
returns-in-10 c =
    let body = c.args.body.now in
    let method = c.in_ok-method in
    let names = mechanisms_in (drop 4 body) in
    let same : c.new.result ≡ names = c.new.ensures ∙ ap mechanisms_in (content_is body) in
    let means : Means requests body (sasl names) = request_means body method.method (drop 4 body) (page.sasl names) [] method.ensures.found (rw c.in-10.is (names, names_read (drop 4 body), refl)) in
    rw same means

pub returns-in-Ok : goal.returns-in-Ok
returns-in-Ok c =
    challenge_request c.args.body.now c.in_ok-method.method _ (continue_borrowed c.in-Ok.challenge) c.in_ok-method.ensures.found c.in-11.is (content_is c.args.body.now) c.in-Ok.ensures

pub returns-in-Err : goal.returns-in-Err
returns-in-Err c =
    challenge_refused c.args.body.now c.in_ok-method.method _ c.in-Err.fault c.in_ok-method.ensures.found c.in-11.is (content_is c.args.body.now) c.in-Err.ensures

pub returns-in-Ok-read : goal.returns-in-Ok-read
returns-in-Ok-read c =
    verifier_request c.args.body.now c.in_ok-method.method _ c.in-Ok-read.last.verifier c.in_ok-method.ensures.found c.in-12.is (content_is c.args.body.now) c.in-Ok-read.ensures

pub returns-in-Err-read : goal.returns-in-Err-read
returns-in-Err-read c =
    verifier_refused c.args.body.now c.in_ok-method.method _ c.in-Err-read.fault c.in_ok-method.ensures.found c.in-12.is (content_is c.args.body.now) c.in-Err-read.ensures
