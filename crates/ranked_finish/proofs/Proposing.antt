-- A map without regions has no proposal, so that its ranked list is empty: the pair of a union and the pocket of a bridge are regions. Assumes nothing.
use Prim.Native.Nat.{ℕ, suc, ◌<◌}
use native.Mathlib.Omega.{arith}
use mathlib.Core.Path.{◌≡◌, refl, ap, ◌∙◌}
use mathlib.Core.Bool.{Bool, true, false, cond}
use Rattle.std.specs.Prelude.{Option, None, Some}
use mathlib.Core.List.{List, []}
use lib.ListN.{length}
use lib.Dec.{eqb}
use Rattle.definitions.specs.Scan.{to_list}
use Rattle.definitions.specs.Grid.{Map, Pair, span_count}
use Rattle.definitions.specs.Context.{Context, context_of, only_pair, full_cut, full_pair}
use Rattle.definitions.specs.Junctions.{Proposal, union_from, union_proposal, bridge_proposal, proposals, ranks_before, conflict, ranked}
use Rattle.laws.specs.ListLaws.Lists.{All, done, more, all_append}
use Rattle.laws.specs.ListLaws.ScansOfAll.{collect-below}
use Rattle.laws.specs.OrderLaws.StableSort.{all-sort}
use Rattle.laws.specs.RegionLaws.PairLaws.{Named, pairs-named}
use Rattle.ranked_list.specs.RankedList.{judged_after, ranked_rows, ranked_of}

no_member : {A : Type 0} {P : A → Type 0} {l : List A} → ((x : A) → P x → ⊥) → All P l → l ≡ []
no_member never done = refl
no_member never (more {x = x} h a) = absurd (never x h)

module _ (M : Map) where
  abbrev C : Context
  C = context_of M

  -- there is a region
  abbrev HasRegions : Proposal → Type 0
  HasRegions p = 0 < C.regions

  of_any : 0 < C.regions → (o : Option Proposal) → All HasRegions (to_list o)
  of_any h None = done
  of_any h (Some p) = more h done

  of_pair : (i : ℕ) (b : Bool) {l : List Pair} → All (Named M) l → All HasRegions (to_list (union_from C i (only_pair b l)))
  unfolding union_from context_of
  of_pair i false a = done
  of_pair i true done = done
  of_pair i true (more {x = p} h done) = of_any (omega (arith, h.low, h.ordered, h.high)) (union_from C i (Some p))
  of_pair i true (more h (more k a)) = done

  all_some : All HasRegions (ranked C)
  unfolding ranked proposals union_proposal full_pair
  all_some =
      all-sort HasRegions (ranks_before C)
      (all_append (collect-below HasRegions (union_proposal C) C.count (λ i h. of_pair i (full_cut C i) (pairs-named M i)))
      (collect-below HasRegions (λ k. bridge_proposal C (suc k)) C.regions (λ k h. of_any (omega (arith, h)) (bridge_proposal C (suc k)))))

  pub none_ranked : C.regions ≡ 0 → ranked_of M ≡ []
  unfolding ranked_of ranked_rows judged_after
  none_ranked e =
      ap (λ l. cond (eqb (length M.boundaries) (span_count M)) (judged_after (conflict C) [] l) []) (no_member (λ p h. omega (arith, h, e)) all_some)
      ∙ go (eqb (length M.boundaries) (span_count M))
    where
      go : (b : Bool) → cond b (judged_after (conflict C) [] []) [] ≡ []
      go true = refl
      go false = refl
