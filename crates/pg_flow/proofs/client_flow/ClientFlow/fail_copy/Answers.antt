use Rattle.std.proofs.Common.{◌≡◌, ◌+◌, ◌-◌, List, length, ap, arith}
use Rattle.pg_flow.specs.declared.request.Request.{Request}
use Rattle.pg_flow.specs.ClientFlow.View.{queue_as}
use Rattle.pg_flow.specs.ClientFlow.{lead, behind}
use Rattle.pg_flow.proofs.ClientFlowLemmas.{lead_length, none_length}
use Rattle.pg_flow.proofs.client_flow.ClientFlow.fail_copy.Goals as goal

pub returns-clause-goes : goal.returns-clause-goes
returns-clause-goes c =
    let q : List Request = queue_as c.args.self.now.first c.args.self.now.rest.items in
    let a : lead q + length (behind q) ≡ length q = lead_length q in
    let d : length (queue_as c.drop_syncs.new.self.first c.drop_syncs.new.self.rest.items) ≡ length (behind q) = ap length c.drop_syncs.ensures.goes in
    let first : c.args.self.now.said - (length q + (c.args.early + 1)) ≡ c.saturating_sub-first.result = omega arith in
    let least : lead q ≡ c.saturating_sub-least.result = omega arith in
    let skips = none_length q c.waiting-waiting.result c.waiting-waiting.ensures in
    cc
