use Rattle.std.proofs.Common.{refl, [], rules}
use Rattle.pg_format.specs.Messages as page
use Rattle.pg_receive.specs.Authentication.Shown.{authentication_borrowed}
use Rattle.pg_receive.proofs.AuthenticationAnyLemmas.{IsBeside, any_means, known_means, known_refused, other_means}
use Rattle.pg_receive.proofs.message.authentication.any.AnyAuthenticationRef.read.Goals as goal

pub returns-in-2 : goal.returns-in-2
returns-in-2 c =
    let asked = c.in_ok-method.field-0 in
    any_means c.args.body.now asked.method asked.content.now page.kerberos_v5 asked.content.now c.in_ok-method.ensures (rw c.in-2.is (refl, refl))

pub returns-in-6 : goal.returns-in-6
returns-in-6 c =
    let asked = c.in_ok-method.field-0 in
    any_means c.args.body.now asked.method asked.content.now page.scm_credential asked.content.now c.in_ok-method.ensures (rw c.in-6.is (refl, refl))

pub returns-in-7 : goal.returns-in-7
returns-in-7 c =
    let asked = c.in_ok-method.field-0 in
    any_means c.args.body.now asked.method asked.content.now page.gss asked.content.now c.in_ok-method.ensures (rw c.in-7.is (refl, refl))

pub returns-in-8 : goal.returns-in-8
returns-in-8 c =
    let asked = c.in_ok-method.field-0 in
    let content = asked.content.now in
    any_means c.args.body.now asked.method content (page.gss_continue content) [] c.in_ok-method.ensures (rw c.in-8.is (content, (refl, refl), refl))

pub returns-in-9 : goal.returns-in-9
returns-in-9 c =
    let asked = c.in_ok-method.field-0 in
    any_means c.args.body.now asked.method asked.content.now page.sspi asked.content.now c.in_ok-method.ensures (rw c.in-9.is (refl, refl))

pub returns-in-Ok : goal.returns-in-Ok
returns-in-Ok c =
    let asked = c.in_ok-method.field-0 in
    let beside : IsBeside asked.method = record { kerberos = search rules; scm = search rules; gss = search rules; continued = search rules; sspi = search rules } in
    known_means c.args.body.now asked.method asked.content.now (authentication_borrowed c.in-Ok.request) c.in_ok-method.ensures beside (search rules) c.in-Ok.ensures

pub returns-in-Err : goal.returns-in-Err
returns-in-Err c =
    let asked = c.in_ok-method.field-0 in
    let beside : IsBeside asked.method = record { kerberos = search rules; scm = search rules; gss = search rules; continued = search rules; sspi = search rules } in
    known_refused c.args.body.now asked.method asked.content.now c.in-Err.fault c.in_ok-method.ensures beside (search rules) c.in-Err.ensures

pub returns-in_default-2 : goal.returns-in_default-2
returns-in_default-2 c =
    let asked = c.in_ok-method.field-0 in
    let beside : IsBeside asked.method = record { kerberos = search rules; scm = search rules; gss = search rules; continued = search rules; sspi = search rules } in
    other_means c.args.body.now asked.method asked.content.now c.in_ok-method.ensures beside (search rules)
