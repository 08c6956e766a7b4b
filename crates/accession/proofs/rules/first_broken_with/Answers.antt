-- `accession::rules::first_broken_with` meets its contract. The loop's invariant (`Checked`): the first i records keep the rules, and the table holds some of them.
-- Assumes nothing.
use Prim.Native.Nat.{ℕ}
use native.Mathlib.Omega.{arith}
use mathlib.Core.Path.{◌≡◌, sym}
use mathlib.Core.Bool.{◌&&◌}
use mathlib.Core.List.{List}
use borrow.Author.Rules.{rules}
use Rattle.laws.specs.ListLaws.FirstBelow.{none_faulty_more, none_faulty_end, first_faulty_lem}
use Rattle.catalogue.specs.Accession.{accession_count, keeps_rules, accessions_fault}
use Rattle.accession.specs.Contract.{one_more}
use Rattle.accession.proofs.Checking.{checked_none, previous-within, test-is}
use Rattle.accession.proofs.rules.first_broken_with.Goals as goal

pub loop-i-init : goal.loop-i-init
loop-i-init g c =
    checked_none c.args.records.now c.new-held.ensures.none (c.new-held.ensures.table c.args.records.now)

pub goes_on-requires : goal.goes_on-requires
goes_on-requires g c =
    (search rules, previous-within c.args.records.now c.loop-i.i c.last_of_map-before.ensures)

pub returns-then-not-own_ascends-goes_on : goal.returns-then-not-own_ascends-goes_on
unfolding accessions_fault
returns-then-not-own_ascends-goes_on g c =
    let list : List ℕ = c.args.records.now in
    let test : (c.own_ascends.result && c.goes_on.result) ≡ keeps_rules list c.loop-i.i = test-is list c.loop-i.i (one_more c.last_of_map-before.result) c.loop-i.invariant.kept_below_lem c.last_of_map-before.ensures
    c.own_ascends.ensures c.goes_on.ensures in
    sym (first_faulty_lem (keeps_rules list) (accession_count list) c.loop-i.i (search rules) c.loop-i.invariant.kept_below_lem test (search rules))

pub loop-i-preserved : goal.loop-i-preserved
loop-i-preserved g c =
    let list : List ℕ = c.args.records.now in
    let test : (c.own_ascends.result && c.goes_on.result) ≡ keeps_rules list c.loop-i.i = test-is list c.loop-i.i (one_more c.last_of_map-before.result) c.loop-i.invariant.kept_below_lem c.last_of_map-before.ensures
    c.own_ascends.ensures c.goes_on.ensures in
    let took = c.hold.ensures in
    let inv = c.loop-i.invariant in
    record {
      within = search rules;
      behind = omega (arith, took.0, inv.behind);
      holds = took.1;
      kept_below_lem = none_faulty_more (keeps_rules list) c.loop-i.i inv.kept_below_lem test c.if-not-own_ascends-goes_on.false-raw;
    }

pub returns : goal.returns
unfolding accessions_fault
returns g c =
    let list : List ℕ = c.args.records.now in
    sym (none_faulty_end (keeps_rules list) (accession_count list) c.loop-i.i c.loop-i.invariant.within (search rules) c.loop-i.invariant.kept_below_lem)
