use Rattle.std.proofs.Common.{◌≡◌, pos, negsuc, length, drop, arith, rules, ap, suc}
use Rattle.std.specs.Int.{w32}
use Rattle.std.proofs.lemmas.Int.{to_z-of_z, ints}
use mir.Val.{SFits}
use Rattle.pg_base.specs.Reading.{Signed}
use Rattle.pg_send.proofs.RoundTripLemmas.{all_after, null_value, some_value, negative_value, truncated_value, cast_length, below_null}
use Rattle.pg_send.proofs.message.round_trip.after_value.Goals as goal

pub returns-then-len-after-clause-none : goal.returns-then-len-after-clause-none
returns-then-len-after-clause-none c =
    let bytes = c.args.bytes.now in
    let n = c.in-Ok-try_from.len in
    let in_range : SFits w32 c.in-Ok.len = search rules in
    let is = cast_length c.in-Ok.len n in_range c.in-Ok-try_from.ensures.0 c.in-Ok-try_from.ensures.1 in
    let encoded : Signed 4 bytes (pos n) (drop 4 bytes) = rw is at c.in-Ok.ensures.found in
    λ rest v. truncated_value bytes (drop 4 bytes) rest n encoded (omega (arith, c.if-len-after.true, ap length (all_after 4 bytes))) v

pub returns-else-len-after-clause-found : goal.returns-else-len-after-clause-found
returns-else-len-after-clause-found c =
    let bytes = c.args.bytes.now in
    let n = c.in-Ok-try_from.len in
    let in_range : SFits w32 c.in-Ok.len = search rules in
    let is = cast_length c.in-Ok.len n in_range c.in-Ok-try_from.ensures.0 c.in-Ok-try_from.ensures.1 in
    let encoded : Signed 4 bytes (pos n) (drop 4 bytes) = rw is at c.in-Ok.ensures.found in
    rw (all_after 4 bytes, all_after n (drop 4 bytes)) (some_value bytes (drop 4 bytes) n encoded (omega (arith, c.if-len-after.false, ap length (all_after 4 bytes))))

pub returns-then-len-lt0-clause-none : goal.returns-then-len-lt0-clause-none
returns-then-len-lt0-clause-none c =
    let bytes = c.args.bytes.now in
    let in_range : SFits w32 c.in-Ok.len = search rules in
    let is = below_null c.in-Ok.len (rw (to_z-of_z w32 c.in-Ok.len in_range) at c.if-len-lt0.true) (λ e. omega (arith, ints, e)) in
    let encoded : Signed 4 bytes (negsuc (suc is.0)) (drop 4 bytes) = rw is.1 at c.in-Ok.ensures.found in
    λ rest v. negative_value bytes (drop 4 bytes) rest is.0 encoded v

pub returns-then-len-clause-found : goal.returns-then-len-clause-found
returns-then-len-clause-found c =
    let bytes = c.args.bytes.now in
    let in_range : SFits w32 c.in-Ok.len = search rules in
    let null : c.in-Ok.len ≡ negsuc 0 = omega (arith, ints, to_z-of_z w32 c.in-Ok.len in_range) in
    rw (all_after 4 bytes) (null_value bytes (drop 4 bytes) (rw null at c.in-Ok.ensures.found))
