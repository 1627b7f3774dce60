use Rattle.std.proofs.Common.{ℕ, ◌<◌, List, length, map, arith, get_or, subst}
use Rattle.std.specs.List.{All}
use Rattle.std.proofs.lemmas.List.{length-map, get_or-map, take_all}
use Rattle.std.proofs.lemmas.List.Elements.{All-get_or, All-map, All-more}
use Rattle.std.proofs.lemmas.Result.{err_from_is_err_and}
use Rattle.pg_send.specs.Startup.{IsReadable}
use Rattle.pg_send.proofs.message.settings.check_settings.Goals as goal

-- Settings, one by one.

-- the setting at a place is readable where all are
readable_at : {T : Type 0} (pair : T → List ℕ × List ℕ) (settings : List T) (i : ℕ) (d : T) → i < length settings → All IsReadable (map pair settings) → IsReadable (pair (get_or settings i d))
readable_at pair settings i d lt all =
    let within : i < length (map pair settings) = omega (arith, lt, length-map settings pair) in
    rw (← get_or-map pair settings i d (pair d) lt) (All-get_or IsReadable (map pair settings) i (pair d) within all)

pub returns-in_err-check_setting-clause-fault : goal.returns-in_err-check_setting-clause-fault
returns-in_err-check_setting-clause-fault g c =
    let p = err_from_is_err_and c.from_residual.result c.from_residual.ensures.1 in
    let fault = c.in_err-check_setting.ensures.fault in
    rw (p.1, p.2) (fault.0, λ all. fault.1 (rw c.setting-item.is (readable_at g.T.AsSetting.pair c.args.settings.now c.loop-setting.setting-index c.setting-item.result c.loop-setting-test.true all)))

pub loop-setting-preserved : goal.loop-setting-preserved
loop-setting-preserved g c =
    All-more (λ setting. IsReadable (g.T.AsSetting.pair setting)) c.args.settings.now c.loop-setting.setting-index c.setting-item.result c.loop-setting-test.true c.loop-setting.invariant (subst (λ setting. IsReadable (g.T.AsSetting.pair setting)) c.setting-item.is c.in_ok-check_setting.ensures.ok)

pub returns-clause-ok : goal.returns-clause-ok
returns-clause-ok g c =
    let settings = c.args.settings.now in
    All-map IsReadable g.T.AsSetting.pair settings (rw (← take_all c.loop-setting.setting-index settings c.loop-setting-test.false) c.loop-setting.invariant)
