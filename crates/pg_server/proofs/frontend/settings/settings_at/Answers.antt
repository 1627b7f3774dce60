use Rattle.std.proofs.Common.{◌≡◌, ◌≢◌, ℕ, List, [], ◌∷◌, ◌++◌, length, drop, ap, arith, inr, length-drop, length-append}
use Rattle.std.proofs.lemmas.Result.{err_from_is_err_and}
use Rattle.pg_server.proofs.FrontendMessageLemmas.{after, from_index}
use Rattle.pg_server.proofs.FrontendSettingsLemmas.{is_nothing, is_something, settings_in-read, read_one_more, named}
use Rattle.pg_server.proofs.frontend.settings.settings_at.Goals as goal

pub returns-then-is_empty : goal.returns-then-is_empty
returns-then-is_empty c =
    let body = c.args.body.now in
    let so_far = c.settings.invariant in
    let name = c.in_ok-name in
    let nothing : name.name.now ≡ [] = is_nothing name.name.now c.is_empty.result c.is_empty.ensures c.if-is_empty.true in
    let text = rw nothing at name.ensures.reads in
    let all = settings_in-read so_far.all (drop c.args.at body) (drop c.settings.end body) (drop name.after body) so_far.are_read text.parts in
    rw (from_index c.args.at body, all) (record {
      within = name.ensures.within;
      reads = record { mid = drop c.settings.end body; are_read = so_far.are_read; ends = text.parts };
    })

pub returns-in_err-_value : goal.returns-in_err-_value
returns-in_err-_value c =
    let p = err_from_is_err_and c.from_residual-in_err-_value.result c.from_residual-in_err-_value.ensures.1 in
    let body = c.args.body.now in
    let so_far = c.settings.invariant in
    let name = c.in_ok-name in
    let f = c.in_err-_value.ensures in
    let other : name.name.now ≢ [] = is_something name.name.now c.is_empty.result c.is_empty.ensures c.if-is_empty.false in
    rw (p.1, p.2) (
      f.0,
      f.1,
      record {
        some = so_far.all;
        mid = drop c.settings.end body;
        are_read = so_far.are_read;
        goes_on = named (drop c.settings.end body) name.name.now (drop name.after body) name.ensures.reads other;
        breaks = inr (after name.ensures f.2);
      },
    )

pub settings-smaller : goal.settings-smaller
settings-smaller c =
    let body = c.args.body.now in
    let name = c.in_ok-name in
    let value = c.in_ok-_value in
    omega (
      arith,
      ap length name.ensures.reads.parts,
      length-append name.name.now (0 ∷ drop name.after body),
      ap length value.ensures.reads.parts,
      length-append value._value.now (0 ∷ drop value.after body),
      length-drop c.settings.end body,
      length-drop name.after body,
      length-drop value.after body,
      name.ensures.within,
      value.ensures.within,
      c.settings.invariant.within,
    )

pub settings-preserved : goal.settings-preserved
settings-preserved c =
    let body = c.args.body.now in
    let so_far = c.settings.invariant in
    let name = c.in_ok-name in
    let value = c.in_ok-_value in
    let other : name.name.now ≢ [] = is_something name.name.now c.is_empty.result c.is_empty.ensures c.if-is_empty.false in
    let s : List ℕ × List ℕ = (name.name.now, value._value.now) in
    record {
      within = value.ensures.within;
      all = so_far.all ++ s ∷ [];
      are_read = read_one_more so_far.all s (drop c.args.at body) (drop c.settings.end body) (drop value.after body) so_far.are_read
          (record { mid = drop name.after body; first = name.ensures.reads; second = value.ensures.reads }, other);
    }
