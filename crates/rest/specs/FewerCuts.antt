-- Fewer spans, fewer regions. Of two maps with the same sides and cells, the second with spans of the first alone: what the first leaves uncut the second
-- leaves uncut, so chains of uncut steps stay chains, a root of the second is a root of the first, and two cells with one label in the first have one in the
-- second. Assumes this of the two maps.
use Rattle.std.specs.Prelude.{ℕ, ◌≤◌, ◌<◌, ◌≡◌, Bool, cond, get_or}
use Rattle.std.proofs.Common.{arith, sym, ◌∙◌, true≢false, eq-eqb}
use Rattle.std.proofs.Math.Path.{refl, ap, ap₂, subst}
use Rattle.std.proofs.Math.Bool.{true, false, not, ◌&&◌}
use mathlib.Core.List.{List, [], ◌∷◌, Memᴰ}
use Rattle.definitions.specs.Scan.{any, filter, count_below}
use Rattle.definitions.specs.Grid.{Map, Pair, pair_eq, cell_count, span_count}
use Rattle.definitions.specs.Spans.{cut_steps}
use Rattle.definitions.specs.Partition.{Joined, here, along, back, all_steps, cut_all_lem, uncut, roots, labels, region_count, walkable_at, is_root}
use Rattle.laws.specs.ListLaws.Lists.{All, done, more, all_map, any-gather}
use Rattle.laws.specs.ListLaws.Below.{below_first, below_at}
use Rattle.laws.specs.ListLaws.Members.{all_at}
use Rattle.laws.specs.ListLaws.ScanSteps.{count_mono}
use Rattle.laws.specs.RegionLaws.Regions.{root, roots-rooted, roots-joined, root_below, is_root-parts, labels-joined}

-- what a filter leaves
module _ {A : Type 0} (f g : A → Bool) (same : (x : A) → f x ≡ true → g x ≡ true) where
  filter-weaker : (l : List A) → All (λ x. Memᴰ x (filter g l)) (filter f l)
  unfolding filter
  filter-weaker [] = done
  filter-weaker (x ∷ l) = go (f x) refl (g x) refl (filter-weaker l)
    where
      later : {m : List A} → All (λ y. Memᴰ y (filter g l)) m → All (λ y. Memᴰ y (x ∷ filter g l)) m
      later a = all_map (λ y m. Memᴰ.tail m) a

      go : (b : Bool) → f x ≡ b → (c : Bool) → g x ≡ c → All (λ y. Memᴰ y (filter g l)) (filter f l)
          → All (λ y. Memᴰ y (cond c (x ∷ filter g l) (filter g l))) (cond b (x ∷ filter f l) (filter f l))
      go true p true q a = more (Memᴰ.head refl) (later a)
      go true p false q a = absurd (true≢false (sym (same x p) ∙ q))
      go false p true q a = later a
      go false p false q a = a

-- a span of the second map is one of the first
pub record Under (K K₁ : Map) : Type 0 where
  pub steps : all_steps K ≡ all_steps K₁
  pub cells : cell_count K ≡ cell_count K₁
  pub walkable : (c : ℕ) → walkable_at K c ≡ walkable_at K₁ c
  pub span : (j : ℕ) → j < span_count K₁ → (k : ℕ) × (k < span_count K) × (cut_steps K₁ j ≡ cut_steps K k)

module _ (K K₁ : Map) (U : Under K K₁) where
  -- what the second cuts the first cuts
  cut_more : (e : Pair) → any (pair_eq e) (cut_all_lem K₁) ≡ true → any (pair_eq e) (cut_all_lem K) ≡ true
  unfolding cut_all_lem
  cut_more e h =
      let f = below_first (λ j. any (pair_eq e) (cut_steps K₁ j)) (span_count K₁) (sym (any-gather (pair_eq e) (span_count K₁) (cut_steps K₁)) ∙ h) in
      let s = U.span f.place f.below in
      any-gather (pair_eq e) (span_count K) (cut_steps K) ∙ below_at (span_count K) (λ k. any (pair_eq e) (cut_steps K k)) s.0 s.1 (ap (any (pair_eq e)) (sym s.2) ∙ f.found)

  uncut_more : All (λ e. Memᴰ e (uncut K₁)) (uncut K)
  unfolding uncut
  uncut_more =
      subst (λ l. All (λ e. Memᴰ e (filter (λ e. not (any (pair_eq e) (cut_all_lem K₁))) l)) (filter (λ e. not (any (pair_eq e) (cut_all_lem K))) (all_steps K))) U.steps
      (filter-weaker (λ e. not (any (pair_eq e) (cut_all_lem K))) (λ e. not (any (pair_eq e) (cut_all_lem K₁))) weaker (all_steps K))
    where
      go : (a b : Bool) → (b ≡ true → a ≡ true) → not a ≡ true → not b ≡ true
      go a true h k = absurd (true≢false (sym k ∙ ap not (h refl)))
      go a false h k = refl

      weaker : (e : Pair) → not (any (pair_eq e) (cut_all_lem K)) ≡ true → not (any (pair_eq e) (cut_all_lem K₁)) ≡ true
      weaker e = go (any (pair_eq e) (cut_all_lem K)) (any (pair_eq e) (cut_all_lem K₁)) (cut_more e)

  joined_more : {a b : ℕ} → Joined (uncut K) a b → Joined (uncut K₁) a b
  joined_more here = here
  joined_more (along {e = e} j m) = along {e = e} (joined_more j) (all_at uncut_more m)
  joined_more (back {e = e} j m) = back {e = e} (joined_more j) (all_at uncut_more m)

  -- a root of the second is a root of the first
  root_more : (c : ℕ) → c < cell_count K → root K₁ c ≡ c → root K c ≡ c
  root_more c h e =
      let r = root K c in
      let l : r < cell_count K = root_below K c h in
      let low : r ≤ c = (roots-rooted K).low c h in
      let low₁ : root K₁ r ≤ r = (roots-rooted K₁).low r (omega (arith, U.cells)) in
      let j = joined_more ((roots-joined K c r h l).0 (sym ((roots-rooted K).own c h))) in
      let one : root K₁ c ≡ root K₁ r = (roots-joined K₁ c r (omega (arith, U.cells)) (omega (arith, U.cells))).1 j in
      omega (arith, low, low₁, one, e)

  -- "more regions than records" comes of no later pass, if not of the first
  pub fewer-regions : region_count K₁ ≤ region_count K
  unfolding region_count
  fewer-regions =
      subst (λ n. count_below n (is_root K₁ (roots K₁)) ≤ count_below (cell_count K) (is_root K (roots K))) U.cells
      (count_mono (is_root K₁ (roots K₁)) (is_root K (roots K)) (cell_count K)
      (λ c h r.
      let p = is_root-parts K₁ c r in
      ap₂ ◌&&◌ (U.walkable c ∙ p.0) (eq-eqb (root K c) c (root_more c h p.1))))

  -- cells with one label keep one label
  pub label_more : (c d : ℕ) → c < cell_count K → d < cell_count K → walkable_at K c ≡ true → walkable_at K d ≡ true
      → get_or (labels K) c 0 ≡ get_or (labels K) d 0 → get_or (labels K₁) c 0 ≡ get_or (labels K₁) d 0
  label_more c d h k w v e =
      (labels-joined K₁ c d (omega (arith, U.cells)) (omega (arith, U.cells)) (sym (U.walkable c) ∙ w) (sym (U.walkable d) ∙ v)).1 (joined_more ((labels-joined K c d h k w v).0 e))
