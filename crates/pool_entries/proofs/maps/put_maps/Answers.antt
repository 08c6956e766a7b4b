-- `maps::put_maps` meets its contract. The invariant: the maps of the terms that were passed stand at the front. Assumes nothing.
use Rattle.std.proofs.Common.{arith, ◌<◌, ◌≤◌, ◌/◌, length, ◌∙◌}
use Rattle.pool_terms.proofs.Chunks.{term_in-chunk}
use Rattle.pool_entries.proofs.Listing.{putting-starts, putting-room, putting-put, putting-left, putting-ends, putting-counts}
use Rattle.pool_entries.proofs.maps.put_maps.Goals.{then-has_day, else-has_day}
use Rattle.pool_entries.proofs.maps.put_maps.Goals as goal

pub loop-numbers-init : goal.loop-numbers-init
loop-numbers-init c = putting-starts c.requires

pub bounds-output-maps : goal.bounds-output-maps
bounds-output-maps c =
    let l = c.args.terms.now in
    let i = c.loop-numbers.numbers-index in
    let inside : i < length l / 7 = omega (arith, c.loop-numbers-test.true, c.as_chunks.ensures.front_len) in
    let term = c.read-term.ensures ∙ term_in-chunk l i c.as_chunks.ensures.front inside in
    omega (arith, putting-room c.loop-numbers.invariant inside term c.has_day.ensures c.if-has_day.true)

pub loop-numbers-preserved : goal.loop-numbers-preserved
loop-numbers-preserved c =
    let l = c.args.terms.now in
    let i = c.loop-numbers.numbers-index in
    let P = c.loop-numbers.invariant in
    let inside : i < length l / 7 = omega (arith, c.loop-numbers-test.true, c.as_chunks.ensures.front_len) in
    let term = c.read-term.ensures ∙ term_in-chunk l i c.as_chunks.ensures.front inside in
    elim c.if-has_day.branch [
      | then-has_day w ↦ rw (w.output-is, w.maps-is) (putting-put P inside term c.has_day.ensures w.if-has_day.true)
      | else-has_day w ↦ rw (w.output-is, w.maps-is) (putting-left P inside term c.has_day.ensures w.if-has_day.false)
    ]

pub returns : goal.returns
returns c =
    let all : length c.args.terms.now / 7 ≤ c.loop-numbers.numbers-index = omega (arith, c.loop-numbers-test.false, c.as_chunks.ensures.front_len) in
    record { output = putting-ends c.loop-numbers.invariant all; count = putting-counts c.loop-numbers.invariant all }
