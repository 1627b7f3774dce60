use Rattle.std.proofs.Common.{◌≡◌, drop, length, refl, inl, inr, arith}
use Rattle.std.proofs.lemmas.Result.{err_from_is_err_and}
use Rattle.pg_base.specs.declared.error.ProtocolFault.TheVariants.{TrailingBytes}
use Rattle.pg_c.proofs.LogicalNewRowLemmas.{new_row_breaks, new_row_reads, new_row_datums, trails_at}
use Rattle.pg_c.proofs.replication.logical.new_row.read_new_row.Goals as goal

pub returns-in_err-end-clause-fault : goal.returns-in_err-end-clause-fault
returns-in_err-end-clause-fault c =
    let p = err_from_is_err_and c.from_residual.result c.from_residual.ensures.1 in
    rw (p.1, p.2) (inr (c.requires.short, new_row_breaks c.args.streamed c.args.content.now c.args.list c.requires c.in_err-end.field-0.0 (inl c.in_err-end.ensures.fault)))

pub returns-in_err-end-clause-front : goal.returns-in_err-end-clause-front
returns-in_err-end-clause-front c = rw (err_from_is_err_and c.from_residual.result c.from_residual.ensures.1).1 (inr (c.args.list, c.requires, c.in_err-end.ensures.front))

pub returns-then-end-content-clause-fault : goal.returns-then-end-content-clause-fault
returns-then-end-content-clause-fault c =
    let bytes = c.args.content.now in
    let end = c.in_ok-end.end in
    let gives = c.in_ok-end.ensures.items in
    inr (
      c.requires.short,
      new_row_breaks c.args.streamed bytes c.args.list c.requires (TrailingBytes end)
          (inr (record { value = gives.items; mid = drop end bytes; reads = gives.read.reads; breaks = trails_at bytes end c.if-end-content.true })),
    )

pub returns-then-end-content-clause-front : goal.returns-then-end-content-clause-front
returns-then-end-content-clause-front c =
    inr (c.args.list, c.requires, record { index = c.args.list.count; end = c.in_ok-end.end; few = omega arith; gives = c.in_ok-end.ensures.items })

pub returns-clause-value : goal.returns-clause-value
returns-clause-value c =
    let bytes = c.args.content.now in
    let gives = c.in_ok-end.ensures.items in
    let all : c.in_ok-end.end ≡ length bytes = omega (arith, c.if-end-content.false, gives.read.within) in
    new_row_reads c.args.streamed bytes c.args.list c.requires c.args.content refl c.given_row.result _ _ c.given_row.ensures (rw all at gives)

pub returns-clause-row : goal.returns-clause-row
returns-clause-row c =
    let bytes = c.args.content.now in
    let gives = c.in_ok-end.ensures.items in
    let all : c.in_ok-end.end ≡ length bytes = omega (arith, c.if-end-content.false, gives.read.within) in
    new_row_datums c.args.streamed bytes c.args.list c.requires c.given_row.result _ _ c.given_row.ensures (rw all at gives)
