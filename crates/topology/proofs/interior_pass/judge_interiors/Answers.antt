-- The interior that `interior_at` finds at a boundary fits or does not, and `mark_edges` marks the edges of one that fits (`InteriorLoops`).
use Rattle.std.proofs.Common.{◌≡◌, ℕ, ◌+◌, ◌≤◌, ◌<◌, Bool, true, false, ◌&&◌, ◌||◌, List, length, get_or, arith, sym, subst, ◌∙◌}
use mathlib.Core.Bool.{or-false}
use Rattle.std.specs.Prelude.{Option}
use Rattle.definitions.specs.Limits.{max_entries}
use Rattle.definitions.specs.Context.{Context}
use Rattle.context.specs.declared.Region.{Region}
use Rattle.context.specs.declared.found_regions.FoundRegions.{FoundRegions}
use Rattle.interior_proposals.specs.Owners.{owned_by, owner_at}
use Rattle.interior_proposals.specs.declared.ports.Ports.{Ports}
use Rattle.interior_regions.specs.declared.Interior.{Interior}
use Rattle.interior_regions.specs.Places.{interior_fits_lem}
use Rattle.interior_regions.specs.Marks.{Interiors, accepted, Stretched}
use Rattle.topology.specs.Interiors.{Asks, Judges, Collapsed}
use Rattle.topology.specs.Proposals.{Unmarked}
use Rattle.topology.proofs.InteriorLoops.{judges_asks, Judging, judging_start, judging_past, judging_more, judging_ends}
use Rattle.topology.proofs.interior_pass.judge_interiors.Goals as goal
use Rattle.topology.proofs.interior_pass.judge_interiors.Goals.{then-interior_fits, else-interior_fits}

abbrev Inv : (records : List Region) (boundaries pairs starts names : List ℕ) (owners : List FoundRegions) (found : List (Option Ports)) (count : ℕ) (removed : List Bool) (i : ℕ) → Type 0
Inv records boundaries pairs starts names owners found count removed i =
    (i ≤ count) × (length removed ≡ max_entries)
    × ((C : Context) → Judges C records boundaries pairs starts names owners found count → Judging C owners removed count i)

-- what is asked, over plain variables
module _ {records : List Region} {boundaries pairs starts names : List ℕ} {owners : List FoundRegions} {found : List (Option Ports)} {count : ℕ} {removed : List Bool} where
  start : (length removed ≡ max_entries) × Unmarked removed count → Inv records boundaries pairs starts names owners found count removed 0
  start p = (omega arith, p.0, λ C J. judging_start C _ p.1)

  module _ {i : ℕ} (pre : (C : Context) × Judges C records boundaries pairs starts names owners found count)
      (inv : Inv records boundaries pairs starts names owners found count removed i) where
    done : count ≤ i → (C : Context) → Judges C records boundaries pairs starts names owners found count → Collapsed C count removed
    done f C J = judging_ends J (omega (arith, f, inv.0)) (inv.2 C J)

    module _ (below : i < count) where
      past : ((C : Context) (boundaries tallies names : List ℕ) → Interiors C boundaries tallies pairs starts names owners found count → accepted C owners i ≡ false)
          → Inv records boundaries pairs starts names owners found count removed (i + 1)
      past none = (omega (arith, below), inv.1, λ C J. judging_past (none C _ _ _ J.interiors) (inv.2 C J))

      module _ {x : Interior}
          (stands : (C : Context) (boundaries tallies names : List ℕ) → Interiors C boundaries tallies pairs starts names owners found count
          → Stretched C pairs names owners i x) where
        fits-asked : (C : Context) × Asks C records boundaries pairs names x
        fits-asked = (_, judges_asks pre.1 (stands _ _ _ _ pre.1.interiors))

        again : {f : Bool}
            → ((C : Context) → Asks C records boundaries pairs names x → f ≡ interior_fits_lem C pairs names x.name x.begin x.ports.first x.ports.second x.end)
            → (next : List Bool)
            → ((j : ℕ) → j < count → get_or next j false ≡ (get_or removed j false || (f && owned_by x.name (owner_at owners j)))) → length next ≡ max_entries
            → Inv records boundaries pairs starts names owners found count next (i + 1)
        again judged next m long = (
          omega (arith, below),
          long,
          λ C J.
              let T = stands C _ _ _ J.interiors in
              judging_more T (judged C (judges_asks J T)) (inv.2 C J) m,
        )

        -- what does not fit is left as it was
        kept : ((C : Context) → Asks C records boundaries pairs names x → false ≡ interior_fits_lem C pairs names x.name x.begin x.ports.first x.ports.second x.end)
            → Inv records boundaries pairs starts names owners found count removed (i + 1)
        kept judged = again {f = false} judged removed (λ j h. sym (or-false _)) inv.1

pub loop-i-init : goal.loop-i-init
loop-i-init c = start c.requires.none_marked

pub interior_fits-requires : goal.interior_fits-requires
interior_fits-requires c = fits-asked c.requires.interiors_found c.loop-i.invariant c.loop-i-test.true c.in-Some.ensures

pub loop-i-preserved : goal.loop-i-preserved
loop-i-preserved c =
    let a = c.args in
    let X = a.context in
    let Next : List Bool → Type 0 = λ l. Inv a.records.now X.boundaries.now X.pairs.now X.starts.now a.names.now a.owners.now a.found.now X.count l (c.loop-i.i + 1) in
    elim c.if-interior_fits.branch [
      | then-interior_fits w ↦ subst Next (sym w.removed-is)
          (again c.requires.interiors_found c.loop-i.invariant c.loop-i-test.true c.in-Some.ensures {f = true} (λ C A. sym w.if-interior_fits.true ∙ c.interior_fits.ensures C A) _ w.mark_edges.ensures.removed
          w.mark_edges.ensures.removed_length)
      | else-interior_fits w ↦ subst Next (sym w.removed-is)
          (kept c.requires.interiors_found c.loop-i.invariant c.loop-i-test.true c.in-Some.ensures (λ C A. sym w.if-interior_fits.false ∙ c.interior_fits.ensures C A))
    ]

pub loop-i-preserved-in_default : goal.loop-i-preserved-in_default
loop-i-preserved-in_default c = past c.requires.interiors_found c.loop-i.invariant c.loop-i-test.true c.in_default.ensures

pub returns : goal.returns
returns c = done c.requires.interiors_found c.loop-i.invariant c.loop-i-test.false
