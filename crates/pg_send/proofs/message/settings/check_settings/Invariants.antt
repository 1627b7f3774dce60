use Rattle.std.proofs.Common.{take}
use Rattle.std.specs.List.{All}
use Rattle.pg_send.specs.Startup.{IsReadable}
use Rattle.pg_send.proofs.message.settings.check_settings.Given as goal

abbrev pub invariant-loop-setting : goal.invariant-loop-setting
invariant-loop-setting g l = All (λ setting. IsReadable (g.T.AsSetting.pair setting)) (take l.setting-index l.settings)
