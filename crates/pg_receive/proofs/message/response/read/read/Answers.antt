use Rattle.std.proofs.Common.{ℕ, List, ◌∷◌, inl, inr, sym, ap, ◌∙◌, subst, refl}
use Rattle.std.proofs.lemmas.Bool.{cases_Bool}
use Rattle.std.proofs.lemmas.Result.{err_from_is_err_and}
use Rattle.pg_receive.specs.declared.message.response.read.ReadPart.{ReadPart}
use Rattle.pg_format.specs.Notices.{Field}
use Rattle.pg_receive.specs.Response.Fields.{fields_in}
use Rattle.pg_receive.specs.Response.FirstPlaces.{AreFirst}
use Rattle.pg_receive.specs.Response.Places.{bytes_in, are_full}
use Rattle.pg_receive.proofs.ResponseFieldsLemmas.{fields_at}
use Rattle.pg_receive.proofs.ResponseLemmas.{read_all}
use Rattle.pg_receive.proofs.ResponseReadLemmas.{Kept, kept_all, kept_more, kept_past, kept_fault, kept_place, full_places}
use Rattle.pg_receive.proofs.message.response.read.read.Goals as goal

pub loop-letter-init : goal.loop-letter-init
loop-letter-init c = record { kept = kept_all c.args.body.now; are = c.new-firsts.ensures c.args.body.now }

pub loop-letter-preserved : goal.loop-letter-preserved
loop-letter-preserved c =
    let body = c.args.body.now in
    let kept = c.loop-letter.invariant.kept in
    let part = c.loop-letter.part in
    let rest = c.loop-letter.rest.now in
    let field = c.in-Some in
    let taken = c.in_ok-take.ensures in
    let is = full_places body part.message part.code kept.message_in kept.code_in in
    record {
      kept =
          elim (cases_Bool (are_full part.message part.code)) [
            | inl full ↦
                subst (λ (p : ReadPart). Kept body field.after.now p.message p.code p.severity p.localized) (sym (taken.full full))
                (kept_past body rest field.letter field.value.now field.after.now part.message part.code part.severity part.localized (is ∙ full) field.ensures.found kept)
            | inr partial ↦
                let takes = taken.takes partial in
                kept_more body rest field.letter field.value.now field.after.now _ part.message part.code _ _ part.severity part.localized _ _ (is ∙ partial) refl field.ensures.found
                (record { clean = takes.clean; severity_is = takes.severity; localized_is = takes.localized; message_is = takes.message; code_is = takes.code }) kept
          ];
      are =
          let there = kept_place body rest field.letter field.value.now field.after.now _ part.message part.code part.severity part.localized refl field.ensures.found kept in
          let fields = fields_at rest field.letter field.value.now field.after.now field.ensures.found ∙ ap (λ (value : List ℕ). (field.letter, value) ∷ fields_in field.after.now) (sym there.0) in
          c.keep.ensures body (fields_in field.after.now) there.1 (subst (λ (left : List Field). AreFirst body left c.loop-letter.firsts.starts c.loop-letter.firsts.ends) fields c.loop-letter.invariant.are);
    }

pub returns-in_err-take-clause-fault : goal.returns-in_err-take-clause-fault
returns-in_err-take-clause-fault c =
    let kept = c.loop-letter.invariant.kept in
    let part = c.loop-letter.part in
    let field = c.in-Some in
    let broken = c.in_err-take.ensures.fault in
    let partial = full_places c.args.body.now part.message part.code kept.message_in kept.code_in ∙ broken.0 in
    let p = err_from_is_err_and c.from_residual.result c.from_residual.ensures.1 in
    rw (p.1, p.2) (kept_fault c.args.body.now c.loop-letter.rest.now field.letter field.value.now field.after.now part.message part.code part.severity part.localized _ partial field.ensures.found broken.1 kept)

pub returns-clause-reads : goal.returns-clause-reads
returns-clause-reads c =
    let body = c.args.body.now in
    let part = c.loop-letter.part in
    read_all (fields_in body) (bytes_in body part.message) (bytes_in body part.code) part.severity part.localized (rw c.in_default.ensures.none at c.loop-letter.invariant.kept.left)
