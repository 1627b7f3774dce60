use Rattle.std.proofs.Common.{◌≡◌, ◌<◌, [], ◌++◌, min, length, inl, inr, arith, ap}
use Rattle.std.proofs.lemmas.Result.{err_from_is_err_and}
use Rattle.pg_frames.specs.Relay.Head.{head_length}
use Rattle.pg_frames.specs.Relay.{IsForParts, IsForWhole}
use Rattle.pg_frames.proofs.RelayLemmas.{error_longer, takes_parts_joined, takes_held, taken_alone, taken_unknown, joined_within}
use Rattle.pg_frames.proofs.relay.Relay.next_joined.Goals as goal

pub returns-in_err-count-clause-error : goal.returns-in_err-count-clause-error
returns-in_err-count-clause-error g c =
    let p = err_from_is_err_and c.from_residual.result c.from_residual.ensures.1 in
    let inside = c.self.inside in
    rw (p.1, p.2, ← c.self.view_is) (error_longer (g.W.Wants.wanted c.args.wants.now) inside.limit inside.expects inside.held.items inside.left c.args.piece.now c.split_at.result.0.now c.split_at.result.1.now c.in_err-count.field-0.0 (rw (← c.self.view_is) at c.requires.some) (rw (← c.self.view_is) at c.requires.between) c.split_at.ensures.by_index.0 c.in_err-count.ensures.error)

pub returns-in-Parts-clause-takes : goal.returns-in-Parts-clause-takes
returns-in-Parts-clause-takes g c =
    let wants = g.W.Wants.wanted c.args.wants.now in
    let inside = c.self.inside in
    let held = inside.held.items in
    let piece = c.args.piece.now in
    let bytes = c.split_at.result.0.now in
    let rest = c.split_at.result.1.now in
    let new = c.fate_with.new.held.items in
    let count = c.in-Parts.count in
    let missing = c.missing_of-missing.result in
    let joined : new ≡ held ++ bytes = c.in_ok-count.ensures.held in
    let whole : c.replace.result.items ≡ new = rw c.replace.ensures.value in
    let nothing : c.replace.new.dest.items ≡ [] = rw c.replace.ensures.after c.new.ensures.items in
    let counts : length bytes ≡ min missing (length piece) = omega arith in
    let fate : IsForParts wants inside.expects new count = rw c.in-Parts.is at c.in_ok-count.ensures.fate in
    let here : IsForParts wants inside.expects (held ++ bytes) count = rw joined at fate in
    let within = joined_within inside.expects held bytes here.tag count missing (length piece) (rw c.as_slice.ensures.value at c.missing_of-missing.ensures.within) counts here.head in
    rw (← c.self.view_is) (takes_parts_joined wants inside.limit inside.expects held inside.left piece bytes _ rest c.replace.new.dest.items count _ missing (rw (← c.self.view_is) at c.requires.between) nothing (rw whole joined) c.split_at.ensures.by_index.0 c.missing_of-missing.ensures.some counts (rw whole fate) (rw (whole, joined) (omega (arith, within, c.fate_with.new.held.ok, ap length joined))))

pub returns-then-len-count-clause-takes : goal.returns-then-len-count-clause-takes
returns-then-len-count-clause-takes g c =
    let wants = g.W.Wants.wanted c.args.wants.now in
    let inside = c.self.inside in
    let piece = c.args.piece.now in
    let bytes = c.split_at.result.0.now in
    let new = c.fate_with.new.held.items in
    let tag = c.in-Whole.tag in
    let count = c.in-Whole.count in
    let missing = c.missing_of-missing.result in
    let counts : length bytes ≡ min missing (length piece) = omega arith in
    let whole : IsForWhole wants inside.limit inside.expects new tag count = rw c.in-Whole.is at c.in_ok-count.ensures.fate in
    let short : length new < count = omega (arith, c.if-len-count.true, c.len-in-Whole.ensures, c.fate_with.new.held.ok) in
    rw (← c.self.view_is) (takes_held wants inside.limit inside.expects inside.held.items inside.left piece bytes c.split_at.result.1.now new missing (rw (← c.self.view_is) at c.requires.between) c.in_ok-count.ensures.held c.split_at.ensures.by_index.0 c.missing_of-missing.ensures.some counts (inr (record { tag = tag; count = count; head = whole.head; short = short; within = whole.taken.within })) (taken_alone wants inside.limit inside.expects new tag count whole))

pub returns-in-Unknown-clause-takes : goal.returns-in-Unknown-clause-takes
returns-in-Unknown-clause-takes g c =
    let wants = g.W.Wants.wanted c.args.wants.now in
    let inside = c.self.inside in
    let piece = c.args.piece.now in
    let bytes = c.split_at.result.0.now in
    let new = c.fate_with.new.held.items in
    let missing = c.missing_of-missing.result in
    let counts : length bytes ≡ min missing (length piece) = omega arith in
    let short : length new < head_length inside.expects = rw c.in-Unknown.is at c.in_ok-count.ensures.fate in
    rw (← c.self.view_is) (takes_held wants inside.limit inside.expects inside.held.items inside.left piece bytes c.split_at.result.1.now new missing (rw (← c.self.view_is) at c.requires.between) c.in_ok-count.ensures.held c.split_at.ensures.by_index.0 c.missing_of-missing.ensures.some counts (inl short) (taken_unknown wants inside.limit inside.expects new short))
