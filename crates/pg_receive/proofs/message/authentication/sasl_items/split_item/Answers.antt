use Rattle.std.proofs.Common.{◌≡◌, ◌+◌, ◌-◌, length, take, drop, arith, ap, ◌∙◌}
use Rattle.std.proofs.lemmas.Bool.{eqb-true}
use Rattle.std.proofs.lemmas.List.{take_all, length-drop}
use Rattle.pg_format.specs.Sasl.{items_in}
use Rattle.pg_receive.specs.Authentication.SaslItems.{comma}
use Rattle.pg_format.proofs.TextLemmas.{nowhere_holds_no, front_holds_no, around}
use Rattle.pg_receive.proofs.AuthenticationSaslItemsLemmas.{items_none, items_at}
use Rattle.pg_receive.proofs.message.authentication.sasl_items.split_item.Goals as goal

pub returns-in-Some : goal.returns-in-Some
returns-in-Some c =
    let found = c.in-Some.ensures in
    let bytes = c.args.bytes.now in
    let end = c.in-Some.end in
    let rest : take (length bytes - (end + 1)) (drop (end + 1) bytes) ≡ drop (end + 1) bytes = take_all _ _ (omega (arith, length-drop (end + 1) bytes)) in
    rw rest (ap items_in (rw (eqb-true _ comma found.1) at (around end bytes found.0.high)) ∙ items_at (take end bytes) (drop (end + 1) bytes) (front_holds_no comma end bytes found.0.high found.0.before))

pub returns-in-None : goal.returns-in-None
returns-in-None c = items_none c.args.bytes.now (nowhere_holds_no comma c.args.bytes.now c.in-None.ensures)
