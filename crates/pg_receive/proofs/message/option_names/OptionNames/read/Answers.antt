use Rattle.pg_format.specs.Received.{max_body}
use Rattle.pg_format.proofs.FormatLaws.Parts.{lawful_until_nul, total_until_nul}
use Rattle.pg_format.proofs.ListedLemmas.{from_index, listed_stand, short_after}
use Rattle.pg_receive.proofs.message.option_names.OptionNames.read.Goals as goal

pub invariant_of-result : goal.invariant_of-result
invariant_of-result c =
    let body = c.args.body.now in
    record {
      short = short_after max_body c.args.at body _ (from_index c.args.at body) c.requires.short;
      whole = (listed_stand lawful_until_nul total_until_nul c.begin_at-items.result body _ c.args.at c.args.left c.in_ok-end.end _ c.begin_at-items.ensures (from_index c.args.at body) c.in_ok-end.ensures.all.read).1;
    }

pub returns-clause-names : goal.returns-clause-names
returns-clause-names c =
    let body = c.args.body.now in
    (listed_stand lawful_until_nul total_until_nul c.begin_at-items.result body _ c.args.at c.args.left c.in_ok-end.end _ c.begin_at-items.ensures (from_index c.args.at body) c.in_ok-end.ensures.all.read).0
