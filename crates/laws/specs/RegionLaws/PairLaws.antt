-- The pairs of a span (`pairs_of` of definitions; document 01: "its distinct pairs, smaller label first, ascending"). They are ascending, so distinct; a pair is
-- among them exactly when a separated step has its labels on its two sides; and there is none exactly when no step is separated. Of a map, each pair names
-- two different regions, the smaller label first, since a step's cells are walkable (Steps, Regions). Assumes nothing.
use Rattle.std.specs.Prelude.{ℕ, suc, ◌≤◌, ◌<◌, ◌≡◌, ◌↔◌, true, false, ◌&&◌, ◌||◌, cond, get_or, eqb, ltb}
use native.Mathlib.Omega.{arith}
use Rattle.std.proofs.Math.Path.{refl, ap}
use Rattle.std.proofs.Common.{sym, ◌∙◌, subst, true≢false}
use Rattle.std.proofs.Math.Bool.{Bool}
use mathlib.Core.List.{List, [], ◌∷◌, ◌++◌, map}
use Rattle.std.proofs.Math.ListN.{length, get_or-map, get_or-eq_default}
use Rattle.std.proofs.lemmas.List.{length-map}
use borrow.Author.Tests.{ltb-true, ltb-false, eqb-true, eqb-false, not-true}
use Rattle.definitions.specs.Scan.{any, filter, run}
use Rattle.definitions.specs.Grid.{Map, Pair, pair_eq, span_count}
use Rattle.definitions.specs.Spans.{cut_steps}
use Rattle.definitions.specs.Partition.{labels, region_count, is_separated, label_pair, add_pair, add_pairs, pairs_of}
use Rattle.definitions.specs.Context.{context_of, full_cut}
use Rattle.laws.specs.ListLaws.Lists.{All, done, all_map, all_both, all_filter, filter-append, map-append, length_run, get_d_tab}
use Rattle.laws.specs.RegionLaws.Merging.{Within}
use Rattle.laws.specs.ListLaws.Tests.{both}
use Rattle.laws.specs.ListLaws.Members.{filter_passes, all-mapped}
use Rattle.laws.specs.RegionLaws.Steps.{Step, cut_steps-steps}
use Rattle.laws.specs.RegionLaws.Regions.{label-range}
use Rattle.laws.specs.OrderLaws.PairOrder.{Ascending, none, ascending_unique}
use Rattle.laws.specs.OrderLaws.PairInsertion.{add_pairs_ascending, any-add_pairs, all-add_pairs, add_pairs-append}

-- ---- from labels and steps

module _ (ls : List ℕ) where
  pub pairs_of_ascending : (es : List Pair) → Ascending (pairs_of ls es)
  unfolding pairs_of
  pairs_of_ascending es = add_pairs_ascending (map (label_pair ls) (filter (is_separated ls) es)) none

  -- a scan of the pairs finds what it would find at the labels of a separated step
  pub any-pairs_of : (f : Pair → Bool) (es : List Pair) → any f (pairs_of ls es) ≡ any (λ e. is_separated ls e && f (label_pair ls e)) es
  unfolding pairs_of any
  any-pairs_of f es = any-add_pairs f [] (map (label_pair ls) (filter (is_separated ls) es)) ∙ go es
    where
      test : Pair → Bool
      test e = is_separated ls e && f (label_pair ls e)

      go : (es : List Pair) → any f (map (label_pair ls) (filter (is_separated ls) es)) ≡ any test es
      go [] = refl
      go (e ∷ es) = pick (is_separated ls e) (go es)
        where
          pick : (b : Bool) → any f (map (label_pair ls) (filter (is_separated ls) es)) ≡ any test es → any f (map (label_pair ls) (cond b (e ∷ filter (is_separated ls) es) (filter (is_separated ls) es))) ≡ ((b && f (label_pair ls e)) || any test es)
          pick true ih = ap (λ b. f (label_pair ls e) || b) ih
          pick false ih = ih

  -- p is among the pairs exactly when a separated step has its labels
  pub pair-member : (p : Pair) (es : List Pair) → any (pair_eq p) (pairs_of ls es) ≡ any (λ e. is_separated ls e && pair_eq p (label_pair ls e)) es
  pair-member p es = any-pairs_of (pair_eq p) es

  -- so the sentence determines the list
  pub pairs_of_unique : (es : List Pair) {l : List Pair} → Ascending l → ((p : Pair) → any (pair_eq p) l ≡ any (λ e. is_separated ls e && pair_eq p (label_pair ls e)) es) → l ≡ pairs_of ls es
  pairs_of_unique es s h = ascending_unique s (pairs_of_ascending es) (λ p. h p ∙ sym (pair-member p es))

  pub pairs_of-empty : (es : List Pair) → (pairs_of ls es ≡ []) ↔ (length (filter (is_separated ls) es) ≡ 0)
  unfolding pairs_of any
  pairs_of-empty es = (λ e. go (filter (is_separated ls) es) e, λ e. back (filter (is_separated ls) es) e)
    where
      go : (l : List Pair) → add_pairs [] (map (label_pair ls) l) ≡ [] → length l ≡ 0
      go [] e = refl
      go (x ∷ l) e = absurd (true≢false (sym (any-add_pairs (λ p. true) [] (map (label_pair ls) (x ∷ l))) ∙ ap (any (λ p. true)) e))

      back : (l : List Pair) → length l ≡ 0 → add_pairs [] (map (label_pair ls) l) ≡ []
      back [] e = refl
      back (x ∷ l) e = absurd (omega arith)

  -- what holds of the labels of each separated step holds of all pairs
  pub pairs_of-all : (P : Pair → Type 0) {es : List Pair} → All (λ e. is_separated ls e ≡ true → P (label_pair ls e)) es → All P (pairs_of ls es)
  unfolding pairs_of
  pairs_of-all P {es} a = all-add_pairs P done (all-mapped (label_pair ls) (all_map (λ e h. h.0 h.1) (all_both (all_filter (is_separated ls) a) (filter_passes (is_separated ls) es))))

  -- one step more
  pub pairs_of-step : (es : List Pair) (e : Pair) → pairs_of ls (es ++ (e ∷ [])) ≡ cond (is_separated ls e) (add_pair (label_pair ls e) (pairs_of ls es)) (pairs_of ls es)
  unfolding pairs_of filter
  pairs_of-step es e =
      ap (λ l. add_pairs [] (map (label_pair ls) l)) (filter-append (is_separated ls) es (e ∷ []))
      ∙ ap (add_pairs []) (map-append (label_pair ls) (filter (is_separated ls) es) (filter (is_separated ls) (e ∷ [])))
      ∙ add_pairs-append [] (map (label_pair ls) (filter (is_separated ls) es)) (map (label_pair ls) (filter (is_separated ls) (e ∷ [])))
      ∙ go (is_separated ls e)
    where
      before : List Pair
      before = add_pairs [] (map (label_pair ls) (filter (is_separated ls) es))

      go : (b : Bool) → add_pairs before (map (label_pair ls) (cond b (e ∷ []) [])) ≡ cond b (add_pair (label_pair ls e) before) before
      go true = refl
      go false = refl

-- ---- of a map

-- the labels of two regions, the smaller first
pub record Named (M : Map) (p : Pair) : Type 0 where
  pub low : 1 ≤ p.lo
  pub ordered : p.lo < p.hi
  pub high : p.hi ≤ region_count M

module _ (M : Map) where
  step-named : (e : Pair) → Step M e → is_separated (labels M) e ≡ true → Named M (label_pair (labels M) e)
  step-named e s h =
      let a = label-range M e.lo s.within.lo s.low_walkable in
      let b = label-range M e.hi s.within.hi s.high_walkable in
      let n = eqb-false (get_or (labels M) e.lo 0) (get_or (labels M) e.hi 0) (not-true _ h) in
      record { low = omega (arith, a.0, b.0); ordered = omega (arith, n); high = omega (arith, a.1, b.1) }

  pub pairs_of-named : {es : List Pair} → All (Step M) es → All (Named M) (pairs_of (labels M) es)
  pairs_of-named a = pairs_of-all (labels M) (Named M) (all_map step-named a)

  -- ---- of the map's context, for every number, also one beyond the spans

  abbrev pub cut_of : ℕ → List Pair
  cut_of i = get_or (map (cut_steps M) (run 0 (span_count M))) i []

  pub cut_of_at : (i : ℕ) → i < span_count M → cut_of i ≡ cut_steps M i
  cut_of_at i h = get_d_tab (cut_steps M) [] (span_count M) i h

  -- what holds of each span's steps
  pub cut_of-all : (P : Pair → Type 0) (i : ℕ) → (i < span_count M → All P (cut_steps M i)) → All P (cut_of i)
  cut_of-all P i a = go (ltb i (span_count M)) refl
    where
      go : (b : Bool) → ltb i (span_count M) ≡ b → All P (cut_of i)
      go true e = subst (All P) (sym (cut_of_at i (ltb-true _ _ e))) (a (ltb-true _ _ e))
      go false e =
          subst (All P)
          (sym (get_or-eq_default (map (cut_steps M) (run 0 (span_count M))) [] (omega (arith, ltb-false i (span_count M) e, length-map (run 0 (span_count M)) (cut_steps M), length_run 0 (span_count M))))) done

  cut_of-steps : (i : ℕ) → All (Step M) (cut_of i)
  cut_of-steps i = cut_of-all (Step M) i (λ h. cut_steps-steps M i)

  pub pairs-cut : (i : ℕ) → (context_of M).pairs i ≡ pairs_of (labels M) (cut_of i)
  unfolding context_of pairs_of add_pairs filter
  pairs-cut i = get_or-map (pairs_of (labels M)) (map (cut_steps M) (run 0 (span_count M))) i []

  pub pairs_at : (i : ℕ) → i < span_count M → (context_of M).pairs i ≡ pairs_of (labels M) (cut_steps M i)
  pairs_at i h = pairs-cut i ∙ ap (pairs_of (labels M)) (cut_of_at i h)

  pub pairs-named : (i : ℕ) → All (Named M) ((context_of M).pairs i)
  pairs-named i = subst (All (Named M)) (sym (pairs-cut i)) (pairs_of-named (cut_of-steps i))

  -- what the laws on components ask
  pub pairs-within : (i : ℕ) → All (Within (suc (context_of M).regions)) ((context_of M).pairs i)
  unfolding context_of
  pairs-within i = all_map (λ p h. record { lo = omega (arith, h.ordered, h.high); hi = omega (arith, h.high) }) (pairs-named i)

  pub pairs_ascending : (i : ℕ) → Ascending ((context_of M).pairs i)
  pairs_ascending i = subst Ascending (sym (pairs-cut i)) (pairs_of_ascending (labels M) (cut_of i))

  pub pairs-empty : (i : ℕ) → ((context_of M).pairs i ≡ []) ↔ ((context_of M).separated_edges i ≡ 0)
  unfolding context_of
  pairs-empty i =
      (λ e. (pairs_of-empty (labels M) (cut_of i)).0 (sym (pairs-cut i) ∙ e), λ e. pairs-cut i ∙ (pairs_of-empty (labels M) (cut_of i)).1 e)

  -- a full cut has a pair
  pub full_cut-pair : (i : ℕ) → full_cut (context_of M) i ≡ true → (context_of M).pairs i ≡ [] → ⊥
  unfolding full_cut
  full_cut-pair i h e =
      let b = both (ltb 0 ((context_of M).removed_edges i)) (eqb ((context_of M).removed_edges i) ((context_of M).separated_edges i)) h in
      omega (
        arith,
        ltb-true 0 ((context_of M).removed_edges i) b.0,
        eqb-true ((context_of M).removed_edges i) ((context_of M).separated_edges i) b.1,
        (pairs-empty i).0 e,
      )
