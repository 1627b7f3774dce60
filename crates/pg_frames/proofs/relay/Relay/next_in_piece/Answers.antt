use Rattle.std.proofs.Common.{◌≡◌, ◌+◌, ◌-◌, ◌++◌, min, length, arith, sym, ap, ◌∙◌, rules}
use Rattle.std.proofs.lemmas.List.{take-append-drop, length-take-le}
use Rattle.pg_frames.proofs.RelayLemmas.{takes_parts, takes_frame, taken_alone, hold_takes}
use Rattle.pg_frames.proofs.relay.Relay.next_in_piece.Goals as goal

pub returns-in-Parts-clause-takes : goal.returns-in-Parts-clause-takes
returns-in-Parts-clause-takes g c =
    let wants = g.W.Wants.wanted c.args.wants.now in
    let inside = c.self.inside in
    let piece = c.args.piece.now in
    let bytes = c.split_at.result.0.now in
    let rest = c.split_at.result.1.now in
    let count = c.in-Parts.count in
    let parts = rw c.in-Parts.is at c.in_ok-count.ensures.fate in
    let counts : length bytes ≡ min count (length piece) = omega arith in
    let lefts : length bytes + (count - length bytes) ≡ count = omega (arith, counts) in
    rw (← c.self.view_is) (takes_parts wants inside.limit inside.expects inside.held.items inside.left piece _ rest count (count - length bytes) (rw (← c.self.view_is) at c.requires.nothing) (rw (← c.self.view_is) at c.requires.between) parts c.split_at.ensures.by_index.0 counts lefts)

pub returns-in-Some-clause-takes : goal.returns-in-Some-clause-takes
returns-in-Some-clause-takes g c =
    let wants = g.W.Wants.wanted c.args.wants.now in
    let inside = c.self.inside in
    let piece = c.args.piece.now in
    let bytes = c.in-Some.bytes.now in
    let rest = c.in-Some.rest.now in
    let count = c.in-Whole.count in
    let cases = c.in-Some.ensures.cases in
    let whole = rw c.in-Whole.is at c.in_ok-count.ensures.fate in
    let e : piece ≡ bytes ++ rest = rw (cases.1, cases.2) (sym (take-append-drop count piece)) in
    let counts : length bytes ≡ count = ap length cases.1 ∙ length-take-le count piece cases.0 in
    rw (← c.self.view_is) (takes_frame wants inside.limit inside.expects inside.held.items inside.left piece _ rest c.in-Whole.tag count _ (rw (← c.self.view_is) at c.requires.nothing) (rw (← c.self.view_is) at c.requires.between) whole e counts (search rules))

pub returns-in_default-clause-takes : goal.returns-in_default-clause-takes
returns-in_default-clause-takes g c =
    let wants = g.W.Wants.wanted c.args.wants.now in
    let inside = c.self.inside in
    let piece = c.args.piece.now in
    let whole = rw c.in-Whole.is at c.in_ok-count.ensures.fate in
    hold_takes wants c.args.self.now piece c.hold.new.self c.hold.result c.hold.ensures.takes (rw (← c.self.view_is) (taken_alone wants inside.limit inside.expects piece c.in-Whole.tag c.in-Whole.count whole))
