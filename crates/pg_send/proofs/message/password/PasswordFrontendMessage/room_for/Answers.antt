use Rattle.std.proofs.Common.{◌≡◌, ◌-◌, ◌^◌, min, ap, ◌∙◌, length, rules}
use Rattle.pg_base.specs.Ended.{ended}
use Rattle.pg_send.specs.Password.{power_over}
use Rattle.pg_send.proofs.PowerLemmas.{power_over_saturated}
use Rattle.pg_send.proofs.message.password.PasswordFrontendMessage.room_for.Goals as goal

pub returns-in-Cleartext : goal.returns-in-Cleartext
returns-in-Cleartext c =
    let len = length (ended c.in-Cleartext.field-0.now) in
    let is_len : c.args.len ≡ min len (2 ^ 64 - 1) = rw c.in-Cleartext.is at c.requires in
    rw c.in-Cleartext.is (search rules ∙ ap power_over is_len ∙ power_over_saturated len)

pub returns-in-Bytes : goal.returns-in-Bytes
returns-in-Bytes c =
    let len = length (ended c.in-Bytes.field-0.now) in
    let is_len : c.args.len ≡ min len (2 ^ 64 - 1) = rw c.in-Bytes.is at c.requires in
    rw c.in-Bytes.is (search rules ∙ ap power_over is_len ∙ power_over_saturated len)
