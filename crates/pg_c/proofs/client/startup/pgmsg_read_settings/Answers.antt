use Rattle.std.proofs.Common.{◌≡◌, ℕ, ◌-◌, ◌<◌, ◌≤◌, List, [], length, take, drop, refl, sym, arith}
use Rattle.std.specs.Prelude.{slice_range}
use Rattle.std.proofs.lemmas.List.{take-append-drop, length-take-le, length-drop, take_all, drop_all}
use Rattle.pg_server.specs.Frontend.Lists.{settings_in}
use Rattle.pg_server.proofs.FrontendSettingsLemmas.{no_name}
use Rattle.pg_c.specs.Client.Startup.{setting_in}
use Rattle.pg_c.proofs.ReadLemmas.{none_given}
use Rattle.pg_c.proofs.ReadListsLemmas.{none_yet, at_the_end}
use Rattle.pg_c.proofs.ClientStartupLemmas.{one_more_setting, no_more_setting, less_left}
use Rattle.pg_c.proofs.client.startup.pgmsg_read_settings.Goals as goal
use Rattle.pg_c.proofs.client.startup.pgmsg_read_settings.Goals.{then-count-settings, else-count-settings}

pub loop-name-preserved : goal.loop-name-preserved
loop-name-preserved c =
    let body = c.args.body.now in
    let read = c.loop-name in
    let next = c.in-Some in
    elim c.if-count-settings.branch [
      | then-count-settings w ↦ rw w.settings-is
          (one_more_setting body (drop 4 body) read.rest.now read.at read.count c.args.settings.now read.settings next.name.now next.value.now next.after.now read.invariant next.ensures.found w.if-count-settings.true)
      | else-count-settings w ↦ rw w.settings-is
          (no_more_setting body (drop 4 body) read.rest.now read.at read.count c.args.settings.now read.settings next.name.now next.value.now next.after.now read.invariant next.ensures.found (omega (arith, w.if-count-settings.false)))
    ]

pub loop-name-init : goal.loop-name-init
loop-name-init c =
    let body = c.args.body.now in
    let four : 4 ≤ length body = omega (arith, c.if-body-lt-CODE_LENGTH.false) in
    let rest : slice_range body 4 (length body) ≡ drop 4 body = take_all (length body - 4) (drop 4 body) (omega (arith, length-drop 4 body)) in
    rw rest (none_yet settings_in (setting_in body) body (take 4 body) (drop 4 body) 4 c.args.settings.now (length-take-le 4 body four) (sym (take-append-drop 4 body)))

pub loop-name-smaller : goal.loop-name-smaller
loop-name-smaller c =
    let body = c.args.body.now in
    let read = c.loop-name in
    let next = c.in-Some in
    less_left body (drop 4 body) read.rest.now read.at read.count c.args.settings.now read.settings next.name.now next.value.now next.after.now read.invariant next.ensures.found

none : (body : List ℕ) → length body < 4 → settings_in (drop 4 body) ≡ []
none body short =
    let nothing : drop 4 body ≡ [] = drop_all 4 body (omega (arith, short)) in
    rw nothing (no_name [] tt)

pub returns-then-body-lt-CODE_LENGTH-clause-count : goal.returns-then-body-lt-CODE_LENGTH-clause-count
returns-then-body-lt-CODE_LENGTH-clause-count c = rw (none c.args.body.now c.if-body-lt-CODE_LENGTH.true) refl

pub returns-then-body-lt-CODE_LENGTH-clause-given : goal.returns-then-body-lt-CODE_LENGTH-clause-given
returns-then-body-lt-CODE_LENGTH-clause-given c = rw (none c.args.body.now c.if-body-lt-CODE_LENGTH.true) (none_given (setting_in c.args.body.now) c.args.settings.now)

pub returns-clause-count : goal.returns-clause-count
returns-clause-count c =
    let read = c.loop-name in
    (at_the_end settings_in (setting_in c.args.body.now) c.args.body.now _ read.rest.now read.at read.count c.args.settings.now read.settings read.invariant c.in_default.ensures.none).0

pub returns-clause-given : goal.returns-clause-given
returns-clause-given c =
    let read = c.loop-name in
    (at_the_end settings_in (setting_in c.args.body.now) c.args.body.now _ read.rest.now read.at read.count c.args.settings.now read.settings read.invariant c.in_default.ensures.none).1
