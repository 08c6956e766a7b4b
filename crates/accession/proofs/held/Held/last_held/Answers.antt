-- `accession::held::Held::last_held` meets its contract. The loop's invariant (`Reached`): the map's last record among those held is its last among the first `next`.
-- The measure is `next`. Assumes nothing.
use Prim.Native.Nat.{ℕ, suc, ◌-◌}
use native.Mathlib.Omega.{arith}
use mathlib.Core.Path.{◌≡◌, sym, ap, ◌∙◌}
use mathlib.Core.Bool.{true, false}
use mathlib.Core.List.{List}
use borrow.Author.Rules.{rules}
use borrow.Author.Tests.{eq-eqb, ne_eqb}
use Rattle.catalogue.specs.Accession.{accession_at}
use Rattle.catalogue.specs.AccessionLaws.Last.{last_below, last_found}
use Rattle.catalogue.specs.AccessionLaws.MapLine.{is_of_map}
use Rattle.accession.proofs.Holding.{reached_first, reached_next, next_before}
use Rattle.accession.proofs.held.Held.last_held.Goals as goal

pub loop-next-init : goal.loop-next-init
loop-next-init g c =
    let found = c.slot_of in
    reached_first c.args.records.now c.requires c.args.number found.result found.ensures.0 found.ensures.1

pub returns-then-accession_at-number : goal.returns-then-accession_at-number
unfolding is_of_map
returns-then-accession_at-number g c =
    let list : List ℕ = c.args.records.now in
    let number : ℕ = c.args.number in
    let k : ℕ = c.loop-next.next in
    let is_of_lem : is_of_map list number (k - 1) ≡ true = eq-eqb (accession_at list (k - 1)).on_map number (sym (ap (λ r. r.on_map) c.accession_at.ensures) ∙ c.if-accession_at-number.true) in
    let e : suc (k - 1) ≡ k = omega arith in
    e ∙ sym (c.loop-next.invariant.rest ∙ last_found (is_of_map list number) k (search rules) is_of_lem)

pub loop-next-smaller : goal.loop-next-smaller
loop-next-smaller g c = next_before c.args.records.now c.requires c.args.number c.loop-next.next c.loop-next.invariant (search rules)

pub loop-next-preserved : goal.loop-next-preserved
unfolding is_of_map
loop-next-preserved g c =
    let list : List ℕ = c.args.records.now in
    let number : ℕ = c.args.number in
    let k : ℕ = c.loop-next.next in
    let is_not : is_of_map list number (k - 1) ≡ false = ne_eqb (accession_at list (k - 1)).on_map number (λ e. c.if-accession_at-number.false (ap (λ r. r.on_map) c.accession_at.ensures ∙ e)) in
    reached_next list c.requires number k c.loop-next.invariant (search rules) is_not

pub returns : goal.returns
unfolding last_below
returns g c =
    let none : c.loop-next.next ≡ 0 = omega arith in
    sym (c.loop-next.invariant.rest ∙ ap (λ n. last_below n (is_of_map c.args.records.now c.args.number)) none)
