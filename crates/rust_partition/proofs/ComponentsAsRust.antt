-- `components` as the Rust writes it gives the definitions' labels (`labels-are`) and as many areas as there are regions (`areas-count`). The argument: a walkable cell without a
-- label is the first of its region, since otherwise the region's first cell has a label, and what is labelled when nothing waits is a set that no open way leaves; so labels are
-- given in the order of first cells, and each flood labels one region (FloodRounds). Assumes a byte for each cell, and masks that say which steps the spans cut.
use Prim.Native.Nat.{ℕ, zero, suc, ◌+◌, ◌<◌}
use native.Mathlib.Omega.{arith}
use Rattle.std.proofs.Math.Nat.{add-zero}
use Rattle.std.specs.Prelude.{◌≡◌, Bool, true, not, ◌||◌, cond, length, get_or, eqb, ltb}
use Rattle.std.proofs.Math.Path.{refl, sym, ap, subst}
use Rattle.std.proofs.Common.{ap₂, ◌∙◌, true≢false, length-append, ext_get_or, ltb-true, ltb-false, eqb-true, eq-eqb, ne_eqb}
use Rattle.std.proofs.Math.Bool.{false, ◌&&◌}
use Rattle.std.proofs.lemmas.Bool.{false≢true, eqb-false}
use Rattle.std.proofs.Math.Logic.{inl, inr, ⊎_elim}
use mathlib.Core.List.{List, [], ◌∷◌, ◌++◌}
use Rattle.std.proofs.Math.ListN.{set, replicate, length-replicate}
use Rattle.std.proofs.lemmas.List.{get_or-replicate}
use Rattle.definitions.specs.Scan.{any, member, run, count_below, bit}
use Rattle.definitions.specs.Grid.{Map, cell_count, directions}
use Rattle.definitions.specs.Partition.{cut_all_lem, roots, labels, region_count, walkable_at, is_root}
use Rattle.laws.specs.ListLaws.Lists.{done}
use Rattle.laws.specs.RegionLaws.Regions.{root, roots-rooted, region_least, root_below, root-walkable, label-walkable, label-blocked, labels_length}
use Rattle.laws.specs.NumberLaws.Comparisons.{last_or}
use Rattle.grid_steps.specs.Masks.{reached, Marks}
use Rattle.grid_steps.proofs.OpenSteps.{is_open}
use Rattle.rust_partition.specs.UsedCells.{used, used_some, used_none, used-zero, used_same}
use Rattle.rust_partition.specs.Literal.Components.{Waiting, Flooding, Components, drain, flood_from, flood_all, components}
use Rattle.rust_partition.specs.OpenWays.{uncut-level}
use Rattle.rust_partition.specs.FloodState as flood
use Rattle.rust_partition.proofs.FloodRounds.{final, State, Drained, drained}

module _ (M : Map) (cells : length M.cells ≡ cell_count M) (masks : List ℕ) (marks : Marks M masks (cut_all_lem M)) where
  -- ---- the loop over all cells

  record Outer (k : ℕ) (s : Components) : Type 0 where
    empty : s.waiting.queue ≡ []
    state : State M (length s.areas) s.waiting.labels [] []
    past : (c : ℕ) → c < k → walkable_at M c ≡ true → used s.waiting.labels c ≡ true
    ids : count_below k (is_root M (roots M)) ≡ length s.areas

  -- where nothing waits no open way leaves what is labelled
  all_shut : {id : ℕ} {l q : List ℕ} → State M id l q [] → (c : ℕ) → c < cell_count M → used l c ≡ true → flood.Shut (cell_count M) (final M) (is_open M) (reached M) l c directions
  unfolding member any
  all_shut S c h u = ⊎_elim (λ e. absurd (false≢true e)) (λ a. a) (S.closed c h u)

  module _ (k : ℕ) (s : Components) (O : Outer k s) (h : k < cell_count M) where
    abbrev l : List ℕ
    l = s.waiting.labels

    abbrev id : ℕ
    id = length s.areas + 1

    -- c is below k, or it is k
    upto : (m : List ℕ) → ((c : ℕ) → used l c ≡ true → used m c ≡ true) → (walkable_at M k ≡ true → used m k ≡ true) → (c : ℕ) → c < suc k → walkable_at M c ≡ true → used m c ≡ true
    upto m g last c b = ⊎_elim (λ e. rw e last) (λ e w. g c (O.past c e w)) (last_or c k (omega arith))

    -- an unlabelled walkable cell is the first of its region
    module _ (w : walkable_at M k ≡ true) (z : get_or l k 0 ≡ 0) where
      first : root M k ≡ k
      first = go (ltb (root M k) k) refl
        where
          go : (b : Bool) → ltb (root M k) k ≡ b → root M k ≡ k
          go true e =
              absurd (true≢false (sym (region_least M (used l) (uncut-level M (used l) (all_shut O.state)) (root M k) k (root_below M k h) h (sym ((roots-rooted M).own k h))
              (O.past (root M k) (ltb-true _ _ e) (root-walkable M k h ∙ w))) ∙ used_none l k z))
          go false e = omega (arith, ltb-false (root M k) k e, (roots-rooted M).low k h)

      own : final M k ≡ id
      own = label-walkable M k h w ∙ ap (λ r. suc (count_below r (is_root M (roots M)))) first ∙ counted
        where
          counted : suc (count_below k (is_root M (roots M))) ≡ id
          counted = omega (arith, O.ids)

      -- it is labelled and waits, behind a queue that is empty
      raised : State M id l [] (k ∷ [])
      raised = record { long = O.state.long; right = O.state.right; below = λ c b u. omega (arith, O.state.below c b u); waits = done; closed = λ c b u. inr (all_shut O.state c b u) }

      abbrev seed : Waiting
      seed = record { labels = set l k id; queue = k ∷ [] }

      taken : flood.Visited (cell_count M) (final M) (is_open M) (reached M) id k (record { labels = l; queue = [] }) seed
      taken = flood.taken (cell_count M) (final M) (is_open M) (reached M) id (omega arith) k (record { labels = l; queue = [] }) raised k h z own

      seeded : State M id (set l k id) (k ∷ []) (k ∷ [])
      unfolding member any
      seeded = record { long = S.long; right = S.right; below = S.below; waits = S.waits; closed = λ c b u. ⊎_elim (λ e. inl (once (eqb c k) e)) (λ a. inr a) (S.closed c b u) }
        where
          S : State M id (set l k id) (k ∷ []) (k ∷ k ∷ [])
          S = taken.state

          once : (b : Bool) → (b || (b || false)) ≡ true → (b || false) ≡ true
          once true e = refl
          once false e = e

      flooded : Drained M id (set l k id) (drain M masks (length M.cells) id (record { waiting = seed; cell_count = 0 }))
      flooded = drained M masks marks id (omega arith) (length M.cells) (set l k id) (k ∷ []) 0 seeded (omega (arith, cells, taken.balance))

      abbrev after : Flooding
      after = drain M masks (length M.cells) id (record { waiting = seed; cell_count = 0 })

      region-done : Outer (suc k) (record { waiting = after.waiting; areas = s.areas ++ (record { id = id; cell_count = after.cell_count } ∷ []) })
      unfolding count_below
      region-done =
          record {
            empty = flooded.empty;
            state = subst (λ i. State M i after.waiting.labels [] []) (sym (length-append s.areas (record { id = id; cell_count = after.cell_count } ∷ []))) flooded.state;
            past = upto after.waiting.labels (λ c u. flooded.grows c (taken.grows c u)) (λ w. flooded.grows k (used_same l k id (omega (arith, O.state.long)) (omega arith)));
            ids =
                ap (λ b. count_below k (is_root M (roots M)) + bit b) (ap₂ ◌&&◌ w (eq-eqb (root M k) k first)) ∙ ap (λ m. m + 1) O.ids
                ∙ sym (length-append s.areas (record { id = id; cell_count = after.cell_count } ∷ []));
          }

    -- where the cell begins no region
    passed : is_root M (roots M) k ≡ false → (walkable_at M k ≡ true → used l k ≡ true) → Outer (suc k) s
    unfolding count_below
    passed r u =
        record {
          empty = O.empty;
          state = O.state;
          past = upto l (λ c v. v) u;
          ids = ap (λ b. count_below k (is_root M (roots M)) + bit b) r ∙ add-zero (count_below k (is_root M (roots M))) ∙ O.ids;
        }

    -- a labelled cell: the first cell of its region stands before it
    not_first : walkable_at M k ≡ true → (get_or l k 0 ≡ 0 → ⊥) → root M k ≡ k → ⊥
    not_first w z e = omega (arith, O.state.below k h (used_some l k z), label-walkable M k h w, ap (λ r. count_below r (is_root M (roots M))) e, O.ids)

    one_cell : Outer (suc k) (flood_from M masks s k)
    unfolding flood_from
    one_cell = go (walkable_at M k) refl (eqb (get_or l k 0) 0) refl
      where
        more_areas : List ℕ → Components
        more_areas q =
            let f = drain M masks (length M.cells) id (record { waiting = record { labels = set l k id; queue = q ++ (k ∷ []) }; cell_count = 0 }) in
            record { waiting = f.waiting; areas = s.areas ++ (record { id = id; cell_count = f.cell_count } ∷ []) }

        go : (a : Bool) → walkable_at M k ≡ a → (b : Bool) → eqb (get_or l k 0) 0 ≡ b → Outer (suc k) (cond (not a || not b) s (more_areas s.waiting.queue))
        go true w true z = subst (λ q. Outer (suc k) (more_areas q)) (sym O.empty) (region-done w (eqb-true _ _ z))
        go true w false z = passed (ap₂ ◌&&◌ w (ne_eqb _ _ (not_first w (eqb-false _ _ z)))) (λ v. used_some l k (eqb-false _ _ z))
        go false w b z = passed (ap (λ t. t && eqb (root M k) k) w) (λ v. absurd (true≢false (sym v ∙ w)))

  all-cells : (m k : ℕ) → k + m ≡ cell_count M → (s : Components) → Outer k s → Outer (cell_count M) (flood_all M masks s (run k m))
  unfolding flood_all run
  all-cells zero k e s O = subst (λ x. Outer x s) at-end O
    where
      at-end : k ≡ cell_count M
      at-end = omega arith
  all-cells (suc m) k e s O = all-cells m (suc k) (omega arith) (flood_from M masks s k) (one_cell k s O (omega arith))

  begun-outer : Outer 0 (record { waiting = record { labels = replicate (length M.cells) 0; queue = [] }; areas = [] })
  unfolding count_below
  begun-outer =
      record {
        empty = refl;
        state =
            record {
              long = length-replicate (length M.cells) 0 ∙ cells;
              right = λ c h u. absurd (true≢false (sym u ∙ free c h));
              below = λ c h u. absurd (true≢false (sym u ∙ free c h));
              waits = done;
              closed = λ c h u. absurd (true≢false (sym u ∙ free c h));
            };
        past = λ c h w. absurd (omega arith);
        ids = refl;
      }
    where
      free : (c : ℕ) → c < cell_count M → used (replicate (length M.cells) 0) c ≡ false
      free c h = used_none (replicate (length M.cells) 0) c (get_or-replicate (length M.cells) c 0 0 (omega (arith, cells)))

  flooded-all : Outer (cell_count M) (components M masks)
  unfolding components
  flooded-all = all-cells (length M.cells) 0 (omega (arith, cells)) (record { waiting = record { labels = replicate (length M.cells) 0; queue = [] }; areas = [] }) begun-outer

  -- ---- at the end

  label_at : (c : ℕ) → c < cell_count M → get_or (components M masks).waiting.labels c 0 ≡ final M c
  label_at c h = go (used ls c) refl (walkable_at M c) refl
    where
      ls : List ℕ
      ls = (components M masks).waiting.labels

      go : (a : Bool) → used ls c ≡ a → (b : Bool) → walkable_at M c ≡ b → get_or ls c 0 ≡ final M c
      go true u b w = flooded-all.state.right c h u
      go false u true w = absurd (true≢false (sym (flooded-all.past c h w) ∙ u))
      go false u false w = used-zero ls c u ∙ sym (label-blocked M c h w)

  pub labels-are : (components M masks).waiting.labels ≡ labels M
  labels-are = ext_get_or 0 (components M masks).waiting.labels (labels M) (flooded-all.state.long ∙ sym (labels_length M)) (λ c h. label_at c (omega (arith, flooded-all.state.long)))

  pub areas-count : length (components M masks).areas ≡ region_count M
  unfolding region_count
  areas-count = sym flooded-all.ids
