use Rattle.std.proofs.Common.{◌≡◌, []}
use Rattle.pg_server.proofs.FrontendSettingsLemmas.{is_nothing, is_something, no_name, empty_name, no_value}
use Rattle.pg_c.proofs.client.startup.split_setting.Goals as goal

pub returns-in_err-name-clause-none : goal.returns-in_err-name-clause-none
returns-in_err-name-clause-none c = rw c.from_residual.ensures (no_name c.args.bytes.now c.in_err-name.ensures.none)

pub returns-then-is_empty-clause-none : goal.returns-then-is_empty-clause-none
returns-then-is_empty-clause-none c =
    let nothing : c.in_ok-name.name.now ≡ [] = is_nothing c.in_ok-name.name.now c.is_empty.result c.is_empty.ensures c.if-is_empty.true in
    empty_name c.args.bytes.now c.in_ok-name.after.now (rw nothing at c.in_ok-name.ensures.found)

pub returns-in_err-value-clause-none : goal.returns-in_err-value-clause-none
returns-in_err-value-clause-none c = rw c.from_residual-in_err-value.ensures (no_value c.args.bytes.now c.in_ok-name.name.now c.in_ok-name.after.now c.in_ok-name.ensures.found c.in_err-value.ensures.none)

pub returns-clause-found : goal.returns-clause-found
returns-clause-found c = (
  record { mid = c.in_ok-name.after.now; first = c.in_ok-name.ensures.found; second = c.in_ok-value.ensures.found },
  is_something c.in_ok-name.name.now c.is_empty.result c.is_empty.ensures c.if-is_empty.false,
)
