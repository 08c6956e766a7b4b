-- The rounds of the flood as the Rust writes it (`drain`): from labels and a queue that meet the invariant it ends with an empty queue and labels that meet it, if it has as many
-- rounds as there are cells without a label and cells that wait (`drained`). The argument: a visit of the Rust is a visit along an open way (FloodState), since the masks say which steps
-- are cut; each round takes one waiting cell, and each cell waits once. Assumes masks that say which steps the spans cut.
use Prim.Native.Nat.{ℕ, zero, suc, ◌+◌, ◌^◌, ◌≤◌, ◌<◌}
use Rattle.std.proofs.Common.{arith, sym, ◌∙◌}
use Rattle.std.specs.Prelude.{◌≡◌, Bool, true, false, ◌&&◌, ◌||◌, length, get_or, Some}
use Rattle.std.proofs.Math.Path.{refl, ap, subst}
use Rattle.std.proofs.Math.Bool.{not, cond}
use mathlib.Core.List.{List, [], ◌∷◌, ◌++◌, map}
use Rattle.std.proofs.Math.ListN.{set}
use Rattle.std.proofs.Math.Dec.{eqb}
use borrow.Author.Tests.{lt-ltb}
use Rattle.definitions.specs.Scan.{any, filter, count_below}
use Rattle.definitions.specs.Grid.{Map, Position, pair_eq, cell_count, position_of, toward, directions, walkable, is_step, neighbors}
use Rattle.definitions.specs.Partition.{cut_all_lem, labels, walkable_at}
use Rattle.laws.specs.ListLaws.Lists.{All, more, all_map}
use Rattle.laws.specs.RegionLaws.Regions.{label-blocked}
use Rattle.laws.specs.ListLaws.ScanSteps.{count-le}
use Rattle.grid_steps.specs.Masks.{bit_of, reached, step_pair, Marks}
use Rattle.grid_steps.proofs.Square.{index-position, Four, four}
use Rattle.grid_steps.proofs.StepTests.{cell-x, cell-y}
use Rattle.grid_steps.proofs.OpenSteps.{is_open}
use Rattle.rust_partition.specs.UsedCells.{used}
use Rattle.rust_partition.specs.Literal.Neighbors.{index_rust, neighbors_rust}
use Rattle.rust_partition.specs.Literal.CutMasks.{expect, edge_bit, has_bit}
use Rattle.rust_partition.specs.Literal.Components.{Waiting, Flooding, visit_neighbor, visit_neighbors, drain}
use Rattle.rust_partition.proofs.NeighborsAsRust.{index-walkable, neighbors-are}
use Rattle.rust_partition.specs.MaskBits.{bit-asked, edge_bit_lem}
use Rattle.rust_partition.specs.OpenWays.{open_inside, labels-level}
use Rattle.rust_partition.specs.FloodState as flood

module _ (M : Map) where
  abbrev n : ℕ
  n = cell_count M

  abbrev pub final : ℕ → ℕ
  final c = get_or (labels M) c 0

  abbrev pub State : ℕ → List ℕ → List ℕ → List ℕ → Type 0
  State = flood.State n final (is_open M) (reached M)

  abbrev visit_way : ℕ → ℕ → Waiting → Position → Waiting
  visit_way = flood.visit_way n final (is_open M) (reached M)

  abbrev visit_ways : ℕ → ℕ → Waiting → List Position → Waiting
  visit_ways = flood.visit_ways n final (is_open M) (reached M)

  -- what the rounds leave of labels `was`
  pub record Drained (id : ℕ) (was : List ℕ) (f : Flooding) : Type 0 where
    pub empty : f.waiting.queue ≡ []
    pub state : State id f.waiting.labels [] []
    pub grows : (x : ℕ) → used was x ≡ true → used f.waiting.labels x ≡ true

module _ (M : Map) (masks : List ℕ) (marks : Marks M masks (cut_all_lem M)) where
  -- ---- visits

  module _ (c : ℕ) (h : c < cell_count M) (id : ℕ) where
    abbrev p : Position
    p = position_of M c

    visit_is : (d : Position) → is_step M p d ≡ true → (s : Waiting) → visit_neighbor M masks id c p s (toward p d) ≡ visit_way M id c s d
    unfolding visit_neighbor flood.visit_way
    visit_is d e s =
        (λ i.
        cond (has_bit masks c (bits i) || not (eqb (get_or s.labels (expect (there i)) 0) 0)) s
        (record { labels = set s.labels (expect (there i)) id; queue = s.queue ++ (expect (there i) ∷ []) }))
        ∙ ap (λ b. cond (b || not (eqb (get_or s.labels t 0) 0)) s new) (bit-asked masks c (bit_of d) ∙ marks c d h e)
        ∙ go (any (pair_eq (step_pair M c d)) (cut_all_lem M)) (eqb (get_or s.labels t 0) 0)
        ∙ ap (λ b. cond ((b && not (any (pair_eq (step_pair M c d)) (cut_all_lem M))) && eqb (get_or s.labels t 0) 0) new s) (sym e)
      where
        t : ℕ
        t = reached M c d

        new : Waiting
        new = record { labels = set s.labels t id; queue = s.queue ++ (t ∷ []) }

        f : Four M p d
        f = four M p d e

        there : index_rust M (toward p d) ≡ Some (reached M c d)
        there = index-walkable M (toward p d) f.far

        bits : edge_bit p (toward p d) ≡ 2 ^ bit_of d
        bits = edge_bit_lem p d f.near_x f.near_y f.right f.down

        go : (x y : Bool) → cond (x || not y) s new ≡ cond ((true && not x) && y) new s
        go true y = refl
        go false true = refl
        go false false = refl

    visits_are : (ds : List Position) (s : Waiting) → visit_neighbors M masks id c p s (map (toward p) (filter (is_step M p) ds)) ≡ visit_ways M id c s ds
    unfolding visit_neighbors flood.visit_ways filter
    visits_are [] s = refl
    visits_are (d ∷ ds) s = go (is_step M p d) refl (visits_are ds)
      where
        F : List Position
        F = filter (is_step M p) ds

        blocked : is_step M p d ≡ false → visit_way M id c s d ≡ s
        blocked e = unfold flood.visit_way in (rw e refl)

        go : (b : Bool) → is_step M p d ≡ b → ((s : Waiting) → visit_neighbors M masks id c p s (map (toward p) F) ≡ visit_ways M id c s ds) → visit_neighbors M masks id c p s (map (toward p) (cond b (d ∷ F) F)) ≡ visit_ways M id c (visit_way M id c s d) ds
        go true e ih = ap (λ s. visit_neighbors M masks id c p s (map (toward p) F)) (visit_is d e s) ∙ ih (visit_way M id c s d)
        go false e ih = ih s ∙ ap (λ s. visit_ways M id c s ds) (sym (blocked e))

    cell-visited : walkable M p ≡ true → (s : Waiting) → visit_neighbors M masks id c p s (neighbors_rust M p) ≡ visit_ways M id c s directions
    unfolding neighbors
    cell-visited w s = ap (visit_neighbors M masks id c p s) (neighbors-are M p w) ∙ visits_are directions s

  -- a cell with a label is walkable
  label-walks : (c : ℕ) → c < cell_count M → 0 < final M c → walkable_at M c ≡ true
  label-walks c h l = go (walkable_at M c) refl
    where
      go : (b : Bool) → walkable_at M c ≡ b → b ≡ true
      go true w = refl
      go false w = absurd (omega (arith, label-blocked M c h w))

  position-walks : (c : ℕ) → c < cell_count M → walkable_at M c ≡ true → walkable M (position_of M c) ≡ true
  unfolding walkable cell_count
  position-walks c h w = rw (lt-ltb _ _ (cell-x c M.width M.height h), lt-ltb _ _ (cell-y c M.width M.height h)) (ap (walkable_at M) (index-position M c) ∙ w)

  -- ---- the rounds

  first_of : {P : ℕ → Type 0} {c : ℕ} {q : List ℕ} → All P (c ∷ q) → P c × All P q
  first_of (more h a) = (h, a)

  module _ (id : ℕ) (Some : 0 < id) where
    -- one round: the cell that it takes is done
    record Round (l : List ℕ) (c : ℕ) (q : List ℕ) (s : Waiting) : Type 0 where
      is : visit_neighbors M masks id c (position_of M c) (record { labels = l; queue = q }) (neighbors_rust M (position_of M c)) ≡ s
      state : State M id s.labels s.queue s.queue
      grows : (x : ℕ) → used l x ≡ true → used s.labels x ≡ true
      balance : count_below (cell_count M) (used s.labels) + length q ≡ count_below (cell_count M) (used l) + length s.queue

    round : (l : List ℕ) (c : ℕ) (q : List ℕ) → State M id l (c ∷ q) (c ∷ q) → Round l c q (visit_ways M id c (record { labels = l; queue = q }) directions)
    round l c q S =
        let w = first_of S.waits in
        let h = w.0.cell in
        let own : All (λ d. is_open M c d ≡ true → final M (reached M c d) ≡ id) directions = all_map (λ d f o. f o ∙ w.0.mine) (labels-level M c h) in
        let popped : State M id l q (c ∷ q) = record { long = S.long; right = S.right; below = S.below; waits = w.1; closed = S.closed } in
        let v = flood.ways-visited (cell_count M) (final M) (is_open M) (reached M) id Some c (open_inside M c) (record { labels = l; queue = q }) popped own in
        record {
          is = cell-visited c h id (position-walks c h (label-walks c h (omega (arith, w.0.mine)))) (record { labels = l; queue = q });
          state = flood.cell-done (cell_count M) (final M) (is_open M) (reached M) id Some c (open_inside M c) (visit_ways M id c (record { labels = l; queue = q }) directions) v.0.state v.1;
          grows = v.0.grows;
          balance = v.0.balance;
        }

    pub drained : (rounds : ℕ) (l q : List ℕ) (k : ℕ) → State M id l q q → cell_count M + length q ≤ rounds + count_below (cell_count M) (used l) → Drained M id l (drain M masks rounds id (record { waiting = record { labels = l; queue = q }; cell_count = k }))
    unfolding drain
    drained zero l [] k S m = record { empty = refl; state = S; grows = λ x u. u }
    drained zero l (c ∷ q) k S m = absurd (omega (arith, m, count-le (used l) (cell_count M)))
    drained (suc rounds) l [] k S m = record { empty = refl; state = S; grows = λ x u. u }
    drained (suc rounds) l (c ∷ q) k S m =
        let R = round l c q S in
        let s = visit_ways M id c (record { labels = l; queue = q }) directions in
        let D = drained rounds s.labels s.queue (k + 1) R.state (omega (arith, m, R.balance)) in
        subst (λ w. Drained M id l (drain M masks rounds id (record { waiting = w; cell_count = k + 1 }))) (sym R.is)
        (record { empty = D.empty; state = D.state; grows = λ x u. D.grows x (R.grows x u) })
