use Rattle.std.proofs.Common.{◌≡◌, ◌≤◌, ◌++◌, take, map}
use Rattle.std.specs.List.{flat_map}
use Rattle.pg_send.specs.Startup.{setting}
use Rattle.pg_send.proofs.message.settings.SettingsPart.put.Given as goal

abbrev pub invariant-loop-setting : goal.invariant-loop-setting
invariant-loop-setting g l = record {
  adds : g.S.Sink.written l.sink ≡ g.S.Sink.written l.fn.sink ++ flat_map setting (map g.T.AsSetting.pair (take l.setting-index l.self.0.now));
  capacity : g.S.Sink.capacity l.fn.sink ≤ g.S.Sink.capacity l.sink;
  loan : g.S.Sink.loan l.sink ≡ g.S.Sink.loan l.fn.sink;
}
