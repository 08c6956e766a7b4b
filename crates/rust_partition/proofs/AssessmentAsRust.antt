-- `boundary_assessment` as the Rust writes it gives the definitions' tallies and pairs. The argument: the walk pushes the pairs of the separated edges; sorted and with
-- equal neighbours dropped they are ascending, with the same members, and an ascending list is determined by its members. Assumes nothing.
use Rattle.std.specs.Prelude.{ℕ, ◌+◌, ◌≡◌, Bool, not, ◌||◌, cond, get_or, eqb}
use native.Mathlib.Omega.{arith}
use Rattle.std.proofs.Math.Path.{refl, sym, ap}
use Rattle.std.proofs.Common.{◌∙◌, true≢false}
use Rattle.std.proofs.Math.Bool.{true, false}
use mathlib.Core.List.{List, [], ◌∷◌, ◌++◌, map, append-nil, append_assoc}
use Rattle.std.proofs.Math.ListN.{length}
use Rattle.definitions.specs.Scan.{any, filter}
use Rattle.definitions.specs.Sort.{sort}
use Rattle.definitions.specs.Grid.{Pair, pair_lt, pair_eq}
use Rattle.definitions.specs.Partition.{is_separated, label_pair, pairs_of}
use Rattle.laws.specs.ListLaws.Lists.{All, done, more, all_map}
use Rattle.laws.specs.ListLaws.SortedMembers.{any-sort}
use Rattle.laws.specs.OrderLaws.StableSort.{After, Sorted, sort_sorted}
use Rattle.laws.specs.OrderLaws.PairOrder.{pair_same, pair-weak, pair-total, Ascending, none, next, ascending_unique}
use Rattle.laws.specs.OrderLaws.PairInsertion.{any-add_pairs}
use Rattle.laws.specs.RegionLaws.PairLaws.{pairs_of_ascending}
use Rattle.rust_partition.specs.Literal.Assessment.{Walked, walk_edge, walk_edges, dedup_from, dedup, boundary_assessment}

-- ---- the walk

module _ (ls : List ℕ) where
  walked-separated : (w : Walked) (es : List Pair) → (walk_edges ls w es).separated ≡ w.separated + length (filter (is_separated ls) es)
  unfolding walk_edges walk_edge filter
  walked-separated w [] = omega arith
  walked-separated w (e ∷ es) = walked-separated (walk_edge ls w e) es ∙ go (eqb (get_or ls e.lo 0) (get_or ls e.hi 0))
    where
      go : (b : Bool) → (cond b w (record { separated = w.separated + 1; pairs = w.pairs ++ (label_pair ls e ∷ []) })).separated + length (filter (is_separated ls) es) ≡ w.separated + length (cond (not b) (e ∷ filter (is_separated ls) es) (filter (is_separated ls) es))
      go true = refl
      go false = omega arith

  walked-pairs : (w : Walked) (es : List Pair) → (walk_edges ls w es).pairs ≡ w.pairs ++ map (label_pair ls) (filter (is_separated ls) es)
  unfolding walk_edges walk_edge filter
  walked-pairs w [] = sym (append-nil w.pairs)
  walked-pairs w (e ∷ es) = walked-pairs (walk_edge ls w e) es ∙ go (eqb (get_or ls e.lo 0) (get_or ls e.hi 0))
    where
      go : (b : Bool) → (cond b w (record { separated = w.separated + 1; pairs = w.pairs ++ (label_pair ls e ∷ []) })).pairs ++ map (label_pair ls) (filter (is_separated ls) es) ≡ w.pairs ++ map (label_pair ls) (cond (not b) (e ∷ filter (is_separated ls) es) (filter (is_separated ls) es))
      go true = refl
      go false = append_assoc w.pairs (label_pair ls e ∷ []) (map (label_pair ls) (filter (is_separated ls) es))

-- ---- sorted, and equal neighbours dropped

irreflexive : (p : Pair) → pair_lt p p ≡ false
irreflexive p = go (pair_lt p p) refl
  where
    go : (b : Bool) → pair_lt p p ≡ b → b ≡ false
    go true e = sym e ∙ pair-weak.asym p p e
    go false e = refl

-- what is not before y is not before what y is not before
not-before : (q y r : Pair) → pair_lt y q ≡ false → pair_lt r y ≡ false → pair_lt r q ≡ false
not-before q y r h k = go (pair_lt r q) refl
  where
    go : (b : Bool) → pair_lt r q ≡ b → b ≡ false
    go true e = absurd (true≢false (sym (pair-weak.cotr r q y e h) ∙ k))
    go false e = refl

none_before : (q : Pair) (l : List Pair) → After pair_lt pair-weak q l → Sorted pair_lt pair-weak l → All (λ r. pair_lt r q ≡ false) (dedup_from q l)
unfolding dedup_from
none_before q [] a s = more (irreflexive q) done
none_before q (y ∷ l) (After.some k r) (Sorted.some a s) = go (pair_eq y q) (none_before q l r s) (none_before y l a s)
  where
    go : (b : Bool) → All (λ r. pair_lt r q ≡ false) (dedup_from q l) → All (λ r. pair_lt r y ≡ false) (dedup_from y l) → All (λ r. pair_lt r q ≡ false) (cond b (dedup_from q l) (q ∷ dedup_from y l))
    go true i j = i
    go false i j = more (irreflexive q) (all_map (λ r h. not-before q y r k h) j)

ascending_from : (p : Pair) (l : List Pair) → After pair_lt pair-weak p l → Sorted pair_lt pair-weak l → Ascending (dedup_from p l)
unfolding dedup_from
ascending_from p [] a s = next done none
ascending_from p (y ∷ l) (After.some k r) (Sorted.some a s) = go (pair_eq y p) refl (ascending_from p l r s) (ascending_from y l a s)
  where
    go : (b : Bool) → pair_eq y p ≡ b → Ascending (dedup_from p l) → Ascending (dedup_from y l) → Ascending (cond b (dedup_from p l) (p ∷ dedup_from y l))
    go true e i j = i
    go false e i j = next (all_map (λ r h. pair-weak.cotr p y r (pair-total y p k e) h) (none_before y l a s)) j

dedup_ascending : (l : List Pair) → Sorted pair_lt pair-weak l → Ascending (dedup l)
dedup_ascending [] s = none
dedup_ascending (p ∷ l) (Sorted.some a s) = ascending_from p l a s

any_from : (f : Pair → Bool) (p : Pair) (l : List Pair) → any f (dedup_from p l) ≡ (f p || any f l)
unfolding dedup_from any
any_from f p [] = refl
any_from f p (q ∷ l) = go (pair_eq q p) refl (any_from f p l) (any_from f q l)
  where
    twice : (x y : Bool) → (x || y) ≡ (x || (x || y))
    twice true y = refl
    twice false y = refl

    go : (b : Bool) → pair_eq q p ≡ b → any f (dedup_from p l) ≡ (f p || any f l) → any f (dedup_from q l) ≡ (f q || any f l) → any f (cond b (dedup_from p l) (p ∷ dedup_from q l)) ≡ (f p || (f q || any f l))
    go true e i j = i ∙ twice (f p) (any f l) ∙ ap (λ r. f p || (f r || any f l)) (sym (pair_same q p e))
    go false e i j = ap (λ b. f p || b) j

any-dedup : (f : Pair → Bool) (l : List Pair) → any f (dedup l) ≡ any f l
unfolding any
any-dedup f [] = refl
any-dedup f (p ∷ l) = any_from f p l

-- ---- and that it is the same

module _ (ls : List ℕ) (es : List Pair) where
  pub assessed-separated : (boundary_assessment es ls).separated_edge_count ≡ length (filter (is_separated ls) es)
  unfolding boundary_assessment
  assessed-separated = walked-separated ls (record { separated = 0; pairs = [] }) es ∙ omega arith

  pub assessed-pairs : (boundary_assessment es ls).region_pairs ≡ pairs_of ls es
  unfolding boundary_assessment pairs_of any
  assessed-pairs =
      let pushed = map (label_pair ls) (filter (is_separated ls) es) in
      ap (λ l. dedup (sort pair_lt l)) (walked-pairs ls (record { separated = 0; pairs = [] }) es)
      ∙ ascending_unique (dedup_ascending (sort pair_lt pushed) (sort_sorted pair_lt pair-weak pushed)) (pairs_of_ascending ls es) (λ p. any-dedup (pair_eq p) (sort pair_lt pushed) ∙ any-sort pair_lt (pair_eq p) pushed ∙ sym (any-add_pairs (pair_eq p) [] pushed))

-- the same as one equation
pub assessed : (ls : List ℕ) (es : List Pair) → boundary_assessment es ls ≡ record { removed_edge_count = length es; separated_edge_count = length (filter (is_separated ls) es); region_pairs = pairs_of ls es }
unfolding boundary_assessment
assessed ls es = λ i. record { removed_edge_count = length es; separated_edge_count = assessed-separated ls es i; region_pairs = assessed-pairs ls es i }
