use Rattle.std.proofs.Common.{◌≡◌, ℕ, ◌-◌, ◌<◌, ◌≤◌, List, [], length, take, drop, refl, sym, arith}
use Rattle.std.proofs.lemmas.List.{take-append-drop, length-take-le, length-drop, take_all, drop_all}
use Rattle.pg_base.proofs.ReadingLemmas.{no_text}
use Rattle.pg_receive.specs.Authentication.Mechanisms.{raw_mechanisms_in}
use Rattle.pg_receive.proofs.AuthenticationMechanismsLemmas.{raw_mechanisms_at, no_raw_mechanisms}
use Rattle.pg_c.specs.Place.{part}
use Rattle.std.specs.Prelude.{slice_range}
use Rattle.pg_c.proofs.ReadLemmas.{none_given}
use Rattle.pg_c.proofs.ReadListsLemmas.{none_yet, at_the_end}
use Rattle.pg_c.proofs.ReadAuthenticationLemmas.{one_more_name, no_more_name}
use Rattle.pg_c.proofs.read.authentication.pgmsg_read_mechanisms.Goals as goal
use Rattle.pg_c.proofs.read.authentication.pgmsg_read_mechanisms.Goals.{then-count-mechanisms, else-count-mechanisms}

pub loop-name-preserved : goal.loop-name-preserved
loop-name-preserved c =
    let read = c.loop-name in
    let next = c.in-Some in
    let first = raw_mechanisms_at read.rest.now next.name.now next.after.now next.ensures.found in
    elim c.if-count-mechanisms.branch [
      | then-count-mechanisms w ↦ rw w.mechanisms-is
          (one_more_name raw_mechanisms_in c.args.body.now _ read.rest.now read.at read.count c.args.mechanisms.now read.mechanisms next.name.now next.after.now read.invariant next.ensures.found.0 first w.if-count-mechanisms.true)
      | else-count-mechanisms w ↦ rw w.mechanisms-is
          (no_more_name raw_mechanisms_in c.args.body.now _ read.rest.now read.at read.count c.args.mechanisms.now read.mechanisms next.name.now next.after.now read.invariant next.ensures.found.0 first (omega (arith, w.if-count-mechanisms.false)))
    ]

pub loop-name-init : goal.loop-name-init
loop-name-init c =
    let body = c.args.body.now in
    let four : 4 ≤ length body = omega (arith, c.if-body-lt-METHOD_LENGTH.false) in
    let rest : slice_range body 4 (length body) ≡ drop 4 body = take_all (length body - 4) (drop 4 body) (omega (arith, length-drop 4 body)) in
    rw rest (none_yet raw_mechanisms_in (part body) body (take 4 body) (drop 4 body) 4 c.args.mechanisms.now (length-take-le 4 body four) (sym (take-append-drop 4 body)))

none : (body : List ℕ) → length body < 4 → raw_mechanisms_in (drop 4 body) ≡ []
none body short =
    let nothing : drop 4 body ≡ [] = drop_all 4 body (omega (arith, short)) in
    rw nothing (no_raw_mechanisms [] (λ found rest p. no_text [] found rest tt p.0.parts))

pub returns-then-body-lt-METHOD_LENGTH-clause-count : goal.returns-then-body-lt-METHOD_LENGTH-clause-count
returns-then-body-lt-METHOD_LENGTH-clause-count c = rw (none c.args.body.now c.if-body-lt-METHOD_LENGTH.true) refl

pub returns-then-body-lt-METHOD_LENGTH-clause-given : goal.returns-then-body-lt-METHOD_LENGTH-clause-given
returns-then-body-lt-METHOD_LENGTH-clause-given c = rw (none c.args.body.now c.if-body-lt-METHOD_LENGTH.true) (none_given (part c.args.body.now) c.args.mechanisms.now)

pub returns-clause-count : goal.returns-clause-count
returns-clause-count c =
    let read = c.loop-name in
    (at_the_end raw_mechanisms_in (part c.args.body.now) c.args.body.now _ read.rest.now read.at read.count c.args.mechanisms.now read.mechanisms read.invariant (no_raw_mechanisms read.rest.now c.in_default.ensures.none)).0

pub returns-clause-given : goal.returns-clause-given
returns-clause-given c =
    let read = c.loop-name in
    (at_the_end raw_mechanisms_in (part c.args.body.now) c.args.body.now _ read.rest.now read.at read.count c.args.mechanisms.now read.mechanisms read.invariant (no_raw_mechanisms read.rest.now c.in_default.ensures.none)).1
