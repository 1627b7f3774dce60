use Rattle.std.proofs.Common.{rules, ◌≡◌, ◌++◌, ◌≤◌, length}
use Rattle.examples.proofs.CopyLoadLemmas.{copied_none, copied_part, copied_front, on_err_anyway}
use Rattle.examples.proofs.copy_load.load.encode_rows.Goals as goal

pub parts-init : goal.parts-init
parts-init c = copied_none c.args.most c.args.rows.now c.args.output.now.items

pub parts-preserved : goal.parts-preserved
parts-preserved c =
    let part = c.split_at.result.0.now in
    let after = c.split_at.result.1.now in
    let encodes = c.in_ok-encode_frame.ensures.encodes in
    let splits : c.parts.rest.now ≡ part ++ after = search rules in
    let within : length part ≤ c.args.most = search rules in
    copied_part c.args.most c.args.rows.now c.parts.rest.now c.args.output.now.items c.parts.output.items part after c.encode_frame.new.buf.items c.parts.invariant splits within encodes.encodes.ok encodes.cut.cut

pub returns-in_err-encode_frame-clause-err : goal.returns-in_err-encode_frame-clause-err
returns-in_err-encode_frame-clause-err c =
    on_err_anyway c.from_residual.result _ (copied_front c.args.most c.args.rows.now c.parts.rest.now c.args.output.now.items c.parts.output.items c.encode_frame.new.buf.items c.parts.invariant c.in_err-encode_frame.ensures.encodes.encodes.err)
