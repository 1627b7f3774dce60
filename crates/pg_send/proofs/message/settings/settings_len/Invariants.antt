use Rattle.std.proofs.Common.{◌≡◌, length, take, map}
use Rattle.std.specs.List.{flat_map}
use Rattle.pg_base.specs.Part.{saturated}
use Rattle.pg_send.specs.Startup.{setting}
use Rattle.pg_send.proofs.message.settings.settings_len.Given as goal

abbrev pub invariant-loop-setting : goal.invariant-loop-setting
invariant-loop-setting g l = l.len ≡ saturated (length (flat_map setting (map g.T.AsSetting.pair (take l.setting-index l.settings))))
