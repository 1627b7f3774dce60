-- The room that is reserved for a password covers it.
use Rattle.std.specs.Prelude.{◌≡◌, ℕ, zero, suc, ◌+◌, ◌^◌, ◌<◌, ◌≤◌, Bool, true, false, length, None, nat_le, if◌then◌else◌, refl}
use Rattle.std.proofs.Common.{arith}
use Rattle.std.proofs.lemmas.Bool.{leb-true}
use Rattle.pg_base.specs.Ended.{ended}
use Rattle.pg_send.specs.declared.message.password.Password.{Password}
use Rattle.pg_send.specs.declared.message.password.Password.TheVariants.{Cleartext, Bytes, Md5}
use Rattle.pg_send.specs.Message.{body, fault, hint, password_message}
use Rattle.pg_send.specs.Password.{power_from, power_over}

-- a power that was tested, or the rest
chosen : (b : Bool) (n power rest : ℕ) → (b ≡ true → n ≤ power) → n ≤ rest → n ≤ (if b then power else rest)
chosen true n power rest tested covers = tested refl
chosen false n power rest tested covers = covers

power_from_covers : (more k n : ℕ) → n < 2 ^ 64 → n ≤ power_from more k n
unfolding power_from
power_from_covers zero k n small = omega arith
power_from_covers (suc more) k n small =
    chosen (nat_le n (2 ^ k)) n (2 ^ k) (power_from more (k + 1) n) (leb-true n (2 ^ k)) (power_from_covers more (k + 1) n small)

pub power_over_covers : (n : ℕ) → n < 2 ^ 64 → n ≤ power_over n
unfolding power_over
power_over_covers n small = power_from_covers 64 0 n small

pub enough_room : (password : Password) → fault (password_message password) ≡ None → length (body (password_message password)) ≤ hint (password_message password)
enough_room (Cleartext text) fits = power_over_covers (length (ended text.now)) (grind arith)
enough_room (Bytes bytes) fits = power_over_covers (length (ended bytes.now)) (grind arith)
enough_room (Md5 digest) fits = grind arith
