-- Fewer spans, fewer pairs; so only the first pass of a run to rest can be refused 11 or 12, and it fills the most entries of tallies, pairs and records
-- (`reached-fewer`). The argument: labels merge, so that a step which adds a pair to those of its span in the second map adds one in the first. Assumes
-- nothing.
use Prim.Native.Nat.{ℕ, zero, suc, ◌+◌, ◌≤◌, ◌<◌, min, max}
use native.Mathlib.Omega.{arith}
use Rattle.std.proofs.Common.{add-zero, add-one, sym, ap₂, subst, ◌∙◌, true≢false, length-append, take-append-drop, take-suc, eqb-true, ne_eqb}
use Rattle.std.specs.Prelude.{◌≡◌, refl, Bool, true, false, not, ◌&&◌, ◌||◌, cond, List, [], ◌∷◌, ◌++◌, length, take, eqb}
use Rattle.std.proofs.Math.Path.{ap}
use Rattle.std.proofs.lemmas.Bool.{false≢true, eqb-false, not-true}
use Rattle.std.proofs.Math.ListN.{get_or}
use Rattle.std.proofs.Math.Seq.{take-length}
use Rattle.definitions.specs.Scan.{any, gather, count_below, bit, member}
use Rattle.definitions.specs.Grid.{Map, Pair, pair_eq, cell_count, span_count, boundary_of, is_step, onward}
use Rattle.definitions.specs.Spans.{cut_steps}
use Rattle.definitions.specs.Partition.{all_steps, labels, region_count, label_pair, is_separated, add_pair, pairs_of}
use Rattle.definitions.specs.Context.{Context, context_of}
use Rattle.definitions.specs.Rows.{removed_of}
use Rattle.definitions.specs.Verdict.{pair_rows_of}
use Rattle.laws.specs.ListLaws.Lists.{All, done, more, all_split, all_map}
use Rattle.laws.specs.ListLaws.Members.{all-place}
use Rattle.laws.specs.ListLaws.Below.{rank-taken}
use Rattle.laws.specs.ListLaws.Scans.{picked-length, picked_at}
use Rattle.laws.specs.ListLaws.ScanSteps.{count-le}
use Rattle.laws.specs.ListLaws.Tests.{both}
use Rattle.laws.specs.OrderLaws.Ranks.{rank, rank_lt}
use Rattle.laws.specs.OrderLaws.PairOrder.{pair_same, pair-equal}
use Rattle.laws.specs.OrderLaws.PairInsertion.{add_pair_there, add_pair-length}
use Rattle.laws.specs.RegionLaws.Steps.{Step, cut_steps-steps}
use Rattle.laws.specs.RegionLaws.PairLaws.{pairs_of_ascending, any-pairs_of, pairs_of-step, pairs_at}
use Rattle.laws.specs.RegionLaws.PairRows.{rows_for, rows_for-length}
use Rattle.rest_definitions.specs.Rest.{kept_map, passed}
use Rattle.rest.specs.KeptMaps.{kept-count, cut_by, cut-kept}
use Rattle.rest.specs.FewerCuts.{Under, label_more, fewer-regions}

any-implied : {A : Type 0} (f g : A → Bool) {l : List A} → All (λ x. f x ≡ true → g x ≡ true) l → any f l ≡ true → any g l ≡ true
unfolding any
any-implied f g done h = absurd (false≢true h)
any-implied f g (more {x = x} {l = l} s a) h = go (f x) refl (g x) refl h (any-implied f g a)
  where
    go : (b : Bool) → f x ≡ b → (c : Bool) → g x ≡ c → (b || any f l) ≡ true → (any f l ≡ true → any g l ≡ true) → (c || any g l) ≡ true
    go b p true q k ih = refl
    go true p false q k ih = absurd (true≢false (sym (s p) ∙ q))
    go false p false q k ih = ih k

-- ---- of one span's steps

module _ (K K₁ : Map) (U : Under K K₁) where
  abbrev label : ℕ → ℕ
  label c = get_or (labels K) c 0

  abbrev label₁ : ℕ → ℕ
  label₁ c = get_or (labels K₁) c 0

  -- two steps between the same regions are between the same in the second map
  agree : (e x : Pair) → Step K e → Step K x → label_pair (labels K) e ≡ label_pair (labels K) x → label_pair (labels K₁) e ≡ label_pair (labels K₁) x
  agree e x s t q = go (eqb (label e.lo) (label x.lo)) refl
    where
      lows : min (label e.lo) (label e.hi) ≡ min (label x.lo) (label x.hi)
      lows = ap (λ p. p.lo) q

      highs : max (label e.lo) (label e.hi) ≡ max (label x.lo) (label x.hi)
      highs = ap (λ p. p.hi) q

      straight : label₁ e.lo ≡ label₁ x.lo → label₁ e.hi ≡ label₁ x.hi → label_pair (labels K₁) e ≡ label_pair (labels K₁) x
      straight a b = λ i. record { lo = min (a i) (b i); hi = max (a i) (b i) }

      crossed : label₁ e.lo ≡ label₁ x.hi → label₁ e.hi ≡ label₁ x.lo → label_pair (labels K₁) e ≡ label_pair (labels K₁) x
      crossed a b =
          let l : min (label₁ e.lo) (label₁ e.hi) ≡ min (label₁ x.lo) (label₁ x.hi) = omega (arith, a, b) in
          let h : max (label₁ e.lo) (label₁ e.hi) ≡ max (label₁ x.lo) (label₁ x.hi) = omega (arith, a, b) in
          λ i. record { lo = l i; hi = h i }

      go : (b : Bool) → eqb (label e.lo) (label x.lo) ≡ b → label_pair (labels K₁) e ≡ label_pair (labels K₁) x
      go true r =
          let a : label e.lo ≡ label x.lo = eqb-true (label e.lo) (label x.lo) r in
          let b : label e.hi ≡ label x.hi = omega (arith, lows, highs, a) in
          straight (label_more K K₁ U e.lo x.lo s.within.lo t.within.lo s.low_walkable t.low_walkable a)
          (label_more K K₁ U e.hi x.hi s.within.hi t.within.hi s.high_walkable t.high_walkable b)
      go false r =
          let n = eqb-false (label e.lo) (label x.lo) r in
          let a : label e.lo ≡ label x.hi = omega (arith, lows, highs, n) in
          let b : label e.hi ≡ label x.lo = omega (arith, lows, highs, n) in
          crossed (label_more K K₁ U e.lo x.hi s.within.lo t.within.hi s.low_walkable t.high_walkable a)
          (label_more K K₁ U e.hi x.lo s.within.hi t.within.lo s.high_walkable t.low_walkable b)

  separated_more : (e : Pair) → Step K e → is_separated (labels K₁) e ≡ true → is_separated (labels K) e ≡ true
  separated_more e s h = go (eqb (label e.lo) (label e.hi)) refl
    where
      go : (b : Bool) → eqb (label e.lo) (label e.hi) ≡ b → not b ≡ true
      go true r =
          absurd
          (eqb-false (label₁ e.lo) (label₁ e.hi) (not-true _ h)
          (label_more K K₁ U e.lo e.hi s.within.lo s.within.hi s.low_walkable s.high_walkable (eqb-true (label e.lo) (label e.hi) r)))
      go false r = refl

  -- a pair that the first map has already, the second has already
  known_more : (e : Pair) {es : List Pair} → Step K e → All (Step K) es → is_separated (labels K₁) e ≡ true
      → any (pair_eq (label_pair (labels K) e)) (pairs_of (labels K) es) ≡ true → any (pair_eq (label_pair (labels K₁) e)) (pairs_of (labels K₁) es) ≡ true
  known_more e {es} s a h k =
      any-pairs_of (labels K₁) (pair_eq (label_pair (labels K₁) e)) es
      ∙ any-implied (λ x. is_separated (labels K) x && pair_eq (label_pair (labels K) e) (label_pair (labels K) x)) (λ x. is_separated (labels K₁) x && pair_eq (label_pair (labels K₁) e) (label_pair (labels K₁) x))
      (all_map each a) (sym (any-pairs_of (labels K) (pair_eq (label_pair (labels K) e)) es) ∙ k)
    where
      apart : (x : Pair) → label_pair (labels K₁) e ≡ label_pair (labels K₁) x → is_separated (labels K₁) x ≡ true
      apart x q =
          let lows : min (label₁ e.lo) (label₁ e.hi) ≡ min (label₁ x.lo) (label₁ x.hi) = ap (λ p. p.lo) q in
          let highs : max (label₁ e.lo) (label₁ e.hi) ≡ max (label₁ x.lo) (label₁ x.hi) = ap (λ p. p.hi) q in
          let n = eqb-false (label₁ e.lo) (label₁ e.hi) (not-true _ h) in
          ap not (ne_eqb (label₁ x.lo) (label₁ x.hi) (λ r. n (omega (arith, lows, highs, r))))

      each : (x : Pair) → Step K x → (is_separated (labels K) x && pair_eq (label_pair (labels K) e) (label_pair (labels K) x)) ≡ true
          → (is_separated (labels K₁) x && pair_eq (label_pair (labels K₁) e) (label_pair (labels K₁) x)) ≡ true
      each x t r =
          let q = agree e x s t (pair_same _ _ (both (is_separated (labels K) x) _ r).1) in
          ap₂ ◌&&◌ (apart x q) (pair-equal (label_pair (labels K₁) e) (label_pair (labels K₁) x) q)

  grows : (p : Pair) (es : List Pair) → length (pairs_of (labels K) es) ≤ length (add_pair p (pairs_of (labels K) es))
  grows p es = go (any (pair_eq p) (pairs_of (labels K) es)) refl
    where
      go : (b : Bool) → any (pair_eq p) (pairs_of (labels K) es) ≡ b → length (pairs_of (labels K) es) ≤ length (add_pair p (pairs_of (labels K) es))
      go true h = omega (arith, ap length (add_pair_there p (pairs_of_ascending (labels K) es) h))
      go false h = omega (arith, add_pair-length p (pairs_of (labels K) es) h)

  -- one step more
  step_fewer : (e : Pair) (es : List Pair) → Step K e → All (Step K) es → length (pairs_of (labels K₁) es) ≤ length (pairs_of (labels K) es)
      → length (pairs_of (labels K₁) (es ++ (e ∷ []))) ≤ length (pairs_of (labels K) (es ++ (e ∷ [])))
  step_fewer e es s a ih = rw (pairs_of-step (labels K₁) es e, pairs_of-step (labels K) es e) (go (is_separated (labels K₁) e) refl (is_separated (labels K) e) refl)
    where
      p : Pair
      p = label_pair (labels K) e

      p₁ : Pair
      p₁ = label_pair (labels K₁) e

      l : List Pair
      l = pairs_of (labels K) es

      l₁ : List Pair
      l₁ = pairs_of (labels K₁) es

      known : (b : Bool) → any (pair_eq p₁) l₁ ≡ b → (c : Bool) → any (pair_eq p) l ≡ c → is_separated (labels K₁) e ≡ true
          → length (add_pair p₁ l₁) ≤ length (add_pair p l)
      known true q c r h = omega (arith, ih, grows p es, ap length (add_pair_there p₁ (pairs_of_ascending (labels K₁) es) q))
      known false q true r h = absurd (true≢false (sym (known_more e s a h r) ∙ q))
      known false q false r h = omega (arith, ih, add_pair-length p₁ l₁ q, add_pair-length p l r)

      go : (b : Bool) → is_separated (labels K₁) e ≡ b → (c : Bool) → is_separated (labels K) e ≡ c
          → length (cond b (add_pair p₁ l₁) l₁) ≤ length (cond c (add_pair p l) l)
      go true h true k = known (any (pair_eq p₁) l₁) refl (any (pair_eq p) l) refl h
      go true h false k = absurd (true≢false (sym (separated_more e s h) ∙ k))
      go false h true k = omega (arith, ih, grows p es)
      go false h false k = ih

  first_fewer : (d : Pair) (es : List Pair) → All (Step K) es → (k : ℕ) → k ≤ length es
      → length (pairs_of (labels K₁) (take k es)) ≤ length (pairs_of (labels K) (take k es))
  unfolding pairs_of
  first_fewer d es a zero h = omega arith
  first_fewer d es a (suc k) h =
      rw (take-suc es k d (omega arith))
      (step_fewer (get_or es k d) (take k es) (all-place d a k (omega arith)) (all_split (take k es) (subst (All (Step K)) (sym (take-append-drop k es)) a)).0 (first_fewer d es a k (omega arith)))

  pub fewer-pairs : (es : List Pair) → All (Step K) es → length (pairs_of (labels K₁) es) ≤ length (pairs_of (labels K) es)
  fewer-pairs es a = rw (take-length es) at (first_fewer (record { lo = 0; hi = 0 }) es a (length es) (omega arith))

-- ---- of all spans

-- lists at the numbers inside, by rank, none longer than the list at its number
gather-fewer : {A B : Type 0} (inside : ℕ → Bool) (F : ℕ → List A) (G : ℕ → List B) (n : ℕ)
    → ((i : ℕ) → i < n → inside i ≡ true → length (G (rank inside i)) ≤ length (F i)) → length (gather (rank inside n) G) ≤ length (gather n F)
unfolding gather count_below
gather-fewer inside F G zero h = omega arith
gather-fewer inside F G (suc n) h = go (inside n) refl (gather-fewer inside F G n (λ i l. h i (omega arith)))
  where
    go : (b : Bool) → inside n ≡ b → length (gather (rank inside n) G) ≤ length (gather n F)
        → length (gather (rank inside n + bit (inside n)) G) ≤ length (gather n F ++ F n)
    go true e ih =
        rw (e, add-one (rank inside n)) (omega (arith, ih, h n (omega arith) e, length-append (gather (rank inside n) G) (G (rank inside n)), length-append (gather n F) (F n)))
    go false e ih = rw (e, add-zero (rank inside n)) (omega (arith, ih, length-append (gather n F) (F n)))

-- what a pass fills, by the map that it takes: no more of spans, pair rows and regions in the second
pub record Fewer (K K₁ : Map) : Type 0 where
  pub spans : span_count K₁ ≤ span_count K
  pub pairs : length (pair_rows_of (context_of K₁)) ≤ length (pair_rows_of (context_of K))
  pub regions : region_count K₁ ≤ region_count K

abbrev pair_rows : Map → ℕ → List ℕ
pair_rows K s = rows_for s ((context_of K).pairs s)

rows_gathered : (C : Context) → pair_rows_of C ≡ gather C.count (λ s. rows_for s (C.pairs s))
unfolding pair_rows_of rows_for
rows_gathered C = refl

context-count : (K : Map) → (context_of K).count ≡ span_count K
unfolding context_of
context-count K = refl

pair_rows_lem : (K : Map) (n : ℕ) → span_count K ≡ n → pair_rows_of (context_of K) ≡ gather n (pair_rows K)
pair_rows_lem K n e = rows_gathered (context_of K) ∙ ap (λ m. gather m (pair_rows K)) (context-count K ∙ e)

module _ (N : Map) (pass : ℕ) (ps : List ℕ) where
  abbrev Before : Map
  Before = kept_map N ps

  abbrev After : Map
  After = kept_map N (passed pass N ps)

  abbrev keep : ℕ → Bool
  keep k = not (member k (removed_of pass Before))

  left_count_lem : length (passed pass N ps) ≡ rank keep (length ps)
  unfolding passed
  left_count_lem = picked-length keep (λ k. get_or ps k 0) (length ps)

  left_at : (k : ℕ) → k < length ps → keep k ≡ true → get_or (passed pass N ps) (rank keep k) 0 ≡ get_or ps k 0
  unfolding passed
  left_at k h b = picked_at keep (λ k. get_or ps k 0) 0 (length ps) k h b

  after_count_lem : span_count After ≡ rank keep (length ps)
  after_count_lem = kept-count N (passed pass N ps) ∙ left_count_lem

  -- a boundary that is left cuts what it cut
  left_cut : (k : ℕ) → k < length ps → keep k ≡ true → cut_steps After (rank keep k) ≡ cut_steps Before k
  left_cut k h b =
      cut-kept N (passed pass N ps) (rank keep k) (omega (arith, left_count_lem, rank_lt keep k (length ps) b h))
      ∙ ap (λ i. cut_by N (boundary_of N i).endpoints) (left_at k h b)
      ∙ sym (cut-kept N ps k h)

  under : Under Before After
  unfolding kept_map cell_count all_steps onward is_step
  under = record { steps = refl; cells = refl; walkable = λ c. refl; span = found }
    where
      found : (j : ℕ) → j < span_count After → (k : ℕ) × (k < span_count Before) × (cut_steps After j ≡ cut_steps Before k)
      found j h =
          let r = rank-taken keep (length ps) j (omega (arith, after_count_lem)) in
          (r.place, omega (arith, r.below, kept-count N ps), ap (cut_steps After) (sym r.rank_is) ∙ left_cut r.place r.below r.is_inside)

  rows-fewer : (k : ℕ) → k < length ps → keep k ≡ true
      → length (rows_for (rank keep k) ((context_of After).pairs (rank keep k))) ≤ length (rows_for k ((context_of Before).pairs k))
  rows-fewer k h b =
      let at₁ = pairs_at After (rank keep k) (omega (arith, after_count_lem, rank_lt keep k (length ps) b h)) ∙ ap (pairs_of (labels After)) (left_cut k h b) in
      let at₀ = pairs_at Before k (omega (arith, kept-count N ps)) in
      let fewer = fewer-pairs Before After under (cut_steps Before k) (cut_steps-steps Before k) in
      omega (
        arith,
        rows_for-length (rank keep k) ((context_of After).pairs (rank keep k)),
        rows_for-length k ((context_of Before).pairs k),
        ap length at₁,
        ap length at₀,
        fewer,
      )

  pub passed-fewer : Fewer Before After
  passed-fewer =
      record {
        spans = omega (arith, after_count_lem, count-le keep (length ps), kept-count N ps);
        pairs =
            subst (λ m. m ≤ length (pair_rows_of (context_of Before))) (sym (ap length (pair_rows_lem After (rank keep (length ps)) after_count_lem)))
            (subst (λ m. length (gather (rank keep (length ps)) (pair_rows After)) ≤ m) (sym (ap length (pair_rows_lem Before (length ps) (kept-count N ps))))
            (gather-fewer keep (pair_rows Before) (pair_rows After) (length ps) rows-fewer));
        regions = fewer-regions Before After under;
      }

-- ---- of a whole run

fewer_refl : (K : Map) → Fewer K K
fewer_refl K = record { spans = omega arith; pairs = omega arith; regions = omega arith }

fewer_trans : {K L M : Map} → Fewer K L → Fewer L M → Fewer K M
fewer_trans F G =
    record { spans = omega (arith, F.spans, G.spans); pairs = omega (arith, F.pairs, G.pairs); regions = omega (arith, F.regions, G.regions) }

-- what passes leave of the first list, one after another, whichever they are
pub data Reached (N : Map) (first : List ℕ) : List ℕ → Type 0 where
  begun : Reached N first first
  passed_by : (pass : ℕ) {ps : List ℕ} → Reached N first ps → Reached N first (passed pass N ps)

-- no pass of a run has more spans, more pairs in all or more regions than the first
pub reached-fewer : (N : Map) (first : List ℕ) {ps : List ℕ} → Reached N first ps → Fewer (kept_map N first) (kept_map N ps)
reached-fewer N first begun = fewer_refl (kept_map N first)
reached-fewer N first (passed_by pass {ps} r) = fewer_trans {K = kept_map N first} {L = kept_map N ps} {M = kept_map N (passed pass N ps)} (reached-fewer N first r) (passed-fewer N pass ps)
