use Rattle.std.proofs.Common.{[], length, refl, ap, arith}
use Rattle.pg_base.specs.Cutting.{max_length}
use Rattle.pg_send.specs.Startup.{setting}
use Rattle.pg_send.proofs.CountedLemmas.{room_for_one}
use Rattle.pg_send.proofs.message.settings.SettingsPart.put.Goals as goal

pub put_setting-requires-clause-small : goal.put_setting-requires-clause-small
put_setting-requires-clause-small g c =
    let one = room_for_one setting g.T.AsSetting.pair c.args.self.now.0.now c.loop-setting.setting-index c.setting-item.result c.loop-setting-test.true [] [] _ max_length refl (omega (arith, c.requires.small)) in
    omega (arith, one, ap (λ pair. length (setting (g.T.AsSetting.pair pair))) c.setting-item.is)

pub put_setting-requires-clause-room : goal.put_setting-requires-clause-room
put_setting-requires-clause-room g c =
    let room = room_for_one setting g.T.AsSetting.pair c.args.self.now.0.now c.loop-setting.setting-index c.setting-item.result c.loop-setting-test.true (g.S.Sink.written c.args.sink.now) [] _ (g.S.Sink.capacity c.args.sink.now) c.loop-setting.invariant.adds (omega (arith, c.requires.room)) in
    omega (arith, room, ap (λ pair. length (setting (g.T.AsSetting.pair pair))) c.setting-item.is, c.loop-setting.invariant.capacity)
