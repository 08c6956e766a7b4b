-- `entries::show_records` meets its contract. The invariant is `Showing`. Assumes nothing.
use native.Mathlib.Omega.{arith}
use mathlib.Core.List.{[]}
use Rattle.pool_entries.proofs.Showing.{showing_starts, showing_shown, showing_late, showing_over}
use Rattle.catalogue.proofs.Chunks.{record-at}
use Rattle.pool_entries.proofs.Placing.{record-inside}
use Rattle.pool_entries.proofs.entries.show_records.Goals as goal

pub loop-accession-init : goal.loop-accession-init
loop-accession-init c = showing_starts

pub loop-accession-preserved-then-day-accession : goal.loop-accession-preserved-then-day-accession
loop-accession-preserved-then-day-accession c =
    let l = c.args.records.now in
    let i = c.loop-accession.accession-index in
    let inside = record-inside l c.as_chunks.ensures.front c.loop-accession-test.true in
    showing_late c.loop-accession.invariant _ (record-at l i [] c.as_chunks.ensures.front inside) inside c.if-day-accession.true

pub loop-accession-preserved : goal.loop-accession-preserved
loop-accession-preserved c =
    let l = c.args.records.now in
    let i = c.loop-accession.accession-index in
    let inside = record-inside l c.as_chunks.ensures.front c.loop-accession-test.true in
    showing_shown c.loop-accession.invariant _ (record-at l i [] c.as_chunks.ensures.front inside) inside c.if-day-accession.false c.show.ensures

pub returns : goal.returns
returns c = showing_over c.loop-accession.invariant (omega (arith, c.loop-accession-test.false, c.as_chunks.ensures.front_len))
