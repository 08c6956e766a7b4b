-- `result_writer::entries_ascend` meets its contract. The loop's invariant is `Ascending`: the entries from i on say what all do. Assumes nothing.
use Rattle.std.proofs.Common.{arith, ℕ, ◌≡◌, ◌-◌, ◌/◌, ◌<◌, length, sym, ap, ap₂, ◌∙◌}
use Rattle.definitions.specs.Sort.{list_lt}
use Rattle.result_writer.specs.Contract.{key_in}
use Rattle.result_writer.proofs.Ascending.{ascending_starts, ascending_goes_on, ascending_stops, ascending_ends, entry_back, is_above, entry-read}
use Rattle.result_writer.proofs.entries_ascend.Goals as goal

pub as_chunks-requires : goal.as_chunks-requires
as_chunks-requires g c = (omega (arith, c.requires.2), omega (arith, c.requires.0))

pub loop-i-init : goal.loop-i-init
loop-i-init g c = ascending_starts _ _ _ (omega arith)

pub ascends-requires : goal.ascends-requires
ascends-requires g c = (omega (arith, c.requires.2), (c.loop-i.invariant.later, c.loop-i-test.true, c.requires.1))

pub returns-then-not-ascends : goal.returns-then-not-ascends
returns-then-not-ascends g c =
    let n = g.row.N in
    let l = c.args.numbers.now in
    let i = c.loop-i.i in
    let inside : i < length l / n = omega (arith, c.loop-i-test.true, c.as_chunks.ensures.front_len) in
    let read = λ (j : ℕ) (h : j < length l / n). ap (key_in c.args.last) (entry-read n j l c.as_chunks.ensures.front h) in
    let same : c.ascends.result ≡ is_above n (key_in c.args.last) l i = c.ascends.ensures ∙ ap₂ list_lt (read (i - 1) (omega arith)) (read i inside) in
    ascending_stops _ _ c.loop-i.invariant inside (entry_back n i c.loop-i.invariant.later) (sym same ∙ c.if-not-ascends.true)

pub loop-i-preserved : goal.loop-i-preserved
loop-i-preserved g c =
    let n = g.row.N in
    let l = c.args.numbers.now in
    let i = c.loop-i.i in
    let inside : i < length l / n = omega (arith, c.loop-i-test.true, c.as_chunks.ensures.front_len) in
    let read = λ (j : ℕ) (h : j < length l / n). ap (key_in c.args.last) (entry-read n j l c.as_chunks.ensures.front h) in
    let same : c.ascends.result ≡ is_above n (key_in c.args.last) l i = c.ascends.ensures ∙ ap₂ list_lt (read (i - 1) (omega arith)) (read i inside) in
    ascending_goes_on _ _ c.loop-i.invariant inside (entry_back n i c.loop-i.invariant.later) (sym same ∙ c.if-not-ascends.false)

pub returns : goal.returns
returns g c = ascending_ends _ _ c.loop-i.invariant (omega (arith, c.loop-i-test.false, c.as_chunks.ensures.front_len))
