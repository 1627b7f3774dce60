use Rattle.std.specs.Prelude.{ℕ, List}
use Rattle.std.proofs.lemmas.Result.{err_from_is_err_and}
use Rattle.pg_format.specs.Format.{Means}
use Rattle.pg_format.specs.Messages.{Setting, parameter_status}
use Rattle.pg_format.proofs.FormatLaws.FromServer.{lawful_parameter_status}
use Rattle.pg_format.proofs.FormatLaws.Whole.{meaning_or_fault}
use Rattle.pg_receive.specs.ParameterStatus.{SettingNeedsNoMemory}
use Rattle.pg_receive.proofs.message.parameter_status.setting_of.Goals as goal

-- A setting is copied only where its body means one.
copied : (body : List ℕ) (setting : Setting) → Means parameter_status body setting → ¬ (SettingNeedsNoMemory body)
copied body setting means broken = meaning_or_fault lawful_parameter_status body setting broken.0 means broken.1

pub returns-in_err-from_str : goal.returns-in_err-from_str
returns-in_err-from_str c =
    let p = err_from_is_err_and c.from_residual-in_err-from_str.result c.from_residual-in_err-from_str.ensures.1 in
    rw (p.1, p.2) (copied c.args.body.now _ c.in_ok-name.ensures)

pub returns-in_err-from_str-2 : goal.returns-in_err-from_str-2
returns-in_err-from_str-2 c =
    let p = err_from_is_err_and c.from_residual-in_err-from_str-2.result c.from_residual-in_err-from_str-2.ensures.1 in
    rw (p.1, p.2) (copied c.args.body.now _ c.in_ok-name.ensures)
