-- `junction_proposals::bridges::bridge_of` meets its contract, from what its callees ensure: each return by the tests that led there. Assumes nothing.
use Prim.Native.Nat.{ℕ, ◌+◌}
use mathlib.Core.Path.{◌≡◌, sym, ap, ◌∙◌}
use mathlib.Core.Bool.{true, false, true≢false, false≢true}
use Rattle.std.specs.Prelude.{Option, None, Some, MatchOption}
use Rattle.std.specs.Option.{is_some}
use mathlib.Core.List.{List}
use Rattle.junction_proposals.specs.Bridges.{bridge_form, is_pocket_port, NoneFrom, FirstPort}
use Rattle.junction_proposals.specs.declared.bridges.Port.{Port}
use Rattle.junction_proposals.proofs.FirstFound.{none_found, one_found, two_found, three-found, more_found}
use Rattle.junction_proposals.proofs.BridgeTests.{three_as}
use Rattle.junction_proposals.proofs.BridgeWalk.{other-count, is_anchored, other_length, of_three}
use Rattle.junction_proposals.proofs.bridges.bridge_of.Goals as goal

-- what is said of a search's result, once it is known whether there is one
one_more : (none : Type 0) (some : Port → Type 0) (o : Option Port) → MatchOption o none some → is_some o ≡ true → (p : Port) × some p
one_more none some None m e = absurd (false≢true e)
one_more none some (Some p) m e = (p, m)

no_more : (none : Type 0) (some : Port → Type 0) (o : Option Port) → MatchOption o none some → is_some o ≡ false → none
no_more none some None m e = m
no_more none some (Some p) m e = absurd (true≢false e)

pub returns-then-lists-r-ne3 : goal.returns-then-lists-r-ne3
returns-then-lists-r-ne3 c =
    let boundaries : List ℕ = c.args.lists.now.boundaries.now in
    let full = c.args.lists.now.full.now in
    let counts : List ℕ = c.args.lists.now.counts.now in
    let marks : List ℕ = c.args.lists.now.marks.now in
    other-count boundaries full marks counts c.args.r c.args.lists.now.count c.if-lists-r-ne3.true

pub returns-then-is_anchored : goal.returns-then-is_anchored
returns-then-is_anchored c =
    let boundaries : List ℕ = c.args.lists.now.boundaries.now in
    let full = c.args.lists.now.full.now in
    let counts : List ℕ = c.args.lists.now.counts.now in
    let marks : List ℕ = c.args.lists.now.marks.now in
    is_anchored boundaries full marks counts c.args.r c.args.lists.now.count (sym c.is_anchored.ensures ∙ c.if-is_anchored.true)

pub returns-in_err-i : goal.returns-in_err-i
returns-in_err-i c =
    ap (bridge_form c.args.r) c.from_residual.ensures ∙ other_length c.args.lists.now.boundaries.now c.args.lists.now.full.now c.args.lists.now.marks.now c.args.lists.now.counts.now c.args.r c.args.lists.now.count c.if-lists-r-ne3.false (sym c.is_anchored.ensures ∙ c.if-is_anchored.false)
    (none_found (is_pocket_port c.args.lists.now.full.now c.args.r c.args.lists.now.boundaries.now) c.args.lists.now.count c.in_err-i.ensures.first)

pub returns-in_err-j : goal.returns-in_err-j
returns-in_err-j c =
    ap (bridge_form c.args.r) c.from_residual-in_err-j.ensures ∙ other_length c.args.lists.now.boundaries.now c.args.lists.now.full.now c.args.lists.now.marks.now c.args.lists.now.counts.now c.args.r c.args.lists.now.count c.if-lists-r-ne3.false (sym c.is_anchored.ensures ∙ c.if-is_anchored.false)
    (one_found (is_pocket_port c.args.lists.now.full.now c.args.r c.args.lists.now.boundaries.now) c.args.lists.now.count c.in_ok-i.ensures.first.first c.in_err-j.ensures.first)

pub returns-in_err-k : goal.returns-in_err-k
returns-in_err-k c =
    ap (bridge_form c.args.r) c.from_residual-in_err-k.ensures ∙ other_length c.args.lists.now.boundaries.now c.args.lists.now.full.now c.args.lists.now.marks.now c.args.lists.now.counts.now c.args.r c.args.lists.now.count c.if-lists-r-ne3.false (sym c.is_anchored.ensures ∙ c.if-is_anchored.false)
    (two_found (is_pocket_port c.args.lists.now.full.now c.args.r c.args.lists.now.boundaries.now) c.args.lists.now.count c.in_ok-i.ensures.first.first c.in_ok-j.ensures.first.first c.in_err-k.ensures.first)

pub returns-then-is_some : goal.returns-then-is_some
returns-then-is_some c =
    let boundaries = c.args.lists.now.boundaries.now in
    let full = c.args.lists.now.full.now in
    other_length boundaries full c.args.lists.now.marks.now c.args.lists.now.counts.now c.args.r c.args.lists.now.count c.if-lists-r-ne3.false (sym c.is_anchored.ensures ∙ c.if-is_anchored.false)
    (more_found (is_pocket_port full c.args.r boundaries) c.args.lists.now.count c.in_ok-i.ensures.first.first c.in_ok-j.ensures.first.first c.in_ok-k.ensures.first.first
    (one_more (NoneFrom (is_pocket_port full c.args.r boundaries) (c.in_ok-k.k.index + 1) c.args.lists.now.count) (FirstPort full c.args.r boundaries (c.in_ok-k.k.index + 1) c.args.lists.now.count) _ c.next_port-4.ensures.first (sym c.is_some.ensures ∙ c.if-is_some.true)).1.first)

pub returns : goal.returns
returns c =
    let boundaries = c.args.lists.now.boundaries.now in
    let full = c.args.lists.now.full.now in
    let marks = c.args.lists.now.marks.now in
    of_three boundaries full marks c.args.lists.now.counts.now c.args.r c.args.lists.now.count c.if-lists-r-ne3.false (sym c.is_anchored.ensures ∙ c.if-is_anchored.false) _ _ _
    (three-found (is_pocket_port full c.args.r boundaries) c.args.lists.now.count c.in_ok-i.ensures.first.first c.in_ok-j.ensures.first.first c.in_ok-k.ensures.first.first
    (no_more (NoneFrom (is_pocket_port full c.args.r boundaries) (c.in_ok-k.k.index + 1) c.args.lists.now.count) (FirstPort full c.args.r boundaries (c.in_ok-k.k.index + 1) c.args.lists.now.count) _ c.next_port-4.ensures.first (sym c.is_some.ensures ∙ c.if-is_some.false)))
    (ap (bridge_form c.args.r) c.bridge_of_three.ensures
    ∙ three_as boundaries full c.args.r marks _ _ _ c.in_ok-i.ensures.first.beyond c.in_ok-j.ensures.first.beyond c.in_ok-k.ensures.first.beyond)
