use Rattle.std.proofs.Common.{rules, ◌≡◌, suc, ◌-◌, length, arith}
use Rattle.std.proofs.lemmas.Int.{to_z-of_z}
use mir.Syntax.{w16}
use mir.Val.{SFits}
use Rattle.pg_format.specs.Received.{max_body}
use Rattle.pg_format.proofs.FormatLaws.Parts.{lawful_signed, total_signed}
use Rattle.pg_format.proofs.ListedLemmas.{first_and_others, from_index, none_is_broken, short_after}
use Rattle.pg_receive.proofs.message.column_formats.ColumnFormatsIterator.next.Goals as goal

pub returns-in_default-clause-steps : goal.returns-in_default-clause-steps
returns-in_default-clause-steps c =
    let list = c.args.self.now in
    let more : list.left ≡ suc (list.left - 1) = omega (arith, c.if-self-eq0.false) in
    absurd (none_is_broken (lawful_signed 2 tt) (total_signed 2) (list.left - 1) list.left (length list.bytes.now) list.bytes.now c.in_default.field-0 more list.whole c.in_default.ensures.broken)

pub invariant_of-self : goal.invariant_of-self
invariant_of-self c =
    let list = c.args.self.now in
    let more : list.left ≡ suc (list.left - 1) = omega (arith, c.if-self-eq0.false) in
    record {
      short = short_after max_body c.in-Ok.end list.bytes.now _ (from_index c.in-Ok.end list.bytes.now) list.short;
      whole = (first_and_others (lawful_signed 2 tt) (total_signed 2) list.left list.bytes.now _ c.in-Ok.end c.in-Ok.field-0-0.0 (from_index c.in-Ok.end list.bytes.now) more list.whole c.in-Ok.ensures.item).1;
    }

pub returns-clause-steps : goal.returns-clause-steps
returns-clause-steps c =
    let list = c.args.self.now in
    let more : list.left ≡ suc (list.left - 1) = omega (arith, c.if-self-eq0.false) in
    let in_range : SFits w16 c.in-Ok.field-0-0.0 = search rules in
    rw (to_z-of_z w16 c.in-Ok.field-0-0.0 in_range)
    (first_and_others (lawful_signed 2 tt) (total_signed 2) list.left list.bytes.now _ c.in-Ok.end c.in-Ok.field-0-0.0 (from_index c.in-Ok.end list.bytes.now) more list.whole c.in-Ok.ensures.item).0
