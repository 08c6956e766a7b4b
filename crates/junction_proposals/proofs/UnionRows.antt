-- The unions that the code finds, of which the records allow some, are the definition's. Assumes that the lists show a context of a map.
use Prim.Native.Nat.{ℕ, ◌≤◌, ◌<◌}
use mathlib.Core.Path.{◌≡◌, refl, ap, ◌∙◌}
use mathlib.Core.Bool.{Bool, true, false, ◌&&◌, cond}
use Rattle.std.specs.Prelude.{Option, None, Some}
use mathlib.Core.List.{List, [], ◌∷◌}
use Rattle.definitions.specs.Scan.{filter, to_list, only_if}
use Rattle.definitions.specs.Grid.{Pair}
use Rattle.definitions.specs.Context.{Context, full_pair}
use Rattle.definitions.specs.Junctions.{union_regions, union_from, union_proposal}
use Rattle.laws.specs.ListLaws.Lists.{All, done, more}
use Rattle.laws.specs.RustJunctions.FormedProposals.{full-all}
use Rattle.junction_proposals.specs.Lent.{Shows}
use Rattle.junction_proposals.specs.Unions.{shape_at}
use Rattle.junction_proposals.specs.Rows.{union_of, union_at, is_allowed}
use Rattle.junction_proposals.proofs.ShapeLaws.{shape_is}
use Rattle.region_pairs.specs.declared.Pair as declared

pub filter_only : {A : Type 0} (f : A → Bool) (b : Bool) (x : A) → filter f (to_list (only_if b x)) ≡ to_list (only_if (b && f x) x)
unfolding filter
filter_only f false x = refl
filter_only f true x = go (f x)
  where
    go : (c : Bool) → cond c (x ∷ []) [] ≡ to_list (only_if c x)
    go true = refl
    go false = refl

-- what holds of a pair that is there
pub of_some : {P : Pair → Type 0} {o : Option Pair} {p : Pair} → All P (to_list o) → o ≡ Some p → P p
of_some {P} a e = go (rw e at a)
  where
    go : {q : Pair} → All P (to_list (Some q)) → P q
    go (more h done) = h

module _ (boundaries : List ℕ) (full : List (Option declared.Pair)) (counts marks : List ℕ) (C : Context) (S : Shows boundaries full counts marks C.count C.regions C) where
  pub union-row : (i : ℕ) → i < C.count → filter (is_allowed C) (to_list (union_at boundaries full counts marks C.count i)) ≡ to_list (union_proposal C i)
  unfolding union_at union_proposal union_from is_allowed filter
  union-row i l = ap (λ o. filter (is_allowed C) (to_list (union_of boundaries full counts marks C.count i o))) (S.pairs.at i l) ∙ go (full_pair C i) refl
    where
      go : (o : Option Pair) → full_pair C i ≡ o → filter (is_allowed C) (to_list (union_of boundaries full counts marks C.count i o)) ≡ to_list (union_from C i o)
      go None own = refl
      go (Some p) own =
          let ordered = of_some (full-all C (λ q. q.lo < q.hi) i (S.sound.ordered i)) own in
          let named = of_some (full-all C (λ q. (1 ≤ q.lo) × (q.hi ≤ C.regions)) i (S.sound.labelled i)) own in
          filter_only (is_allowed C) (shape_at boundaries full C.count i p counts marks) (record { index = i; kind = 0; first = p.lo; second = p.hi })
          ∙ ap (λ b. to_list (only_if (b && union_regions C i p) (record { index = i; kind = 0; first = p.lo; second = p.hi }))) (shape_is boundaries full counts marks C S i l p own named.0 ordered named.1)
