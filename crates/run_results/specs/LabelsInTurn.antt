-- The labels of every map start each new number in turn, up to the number of regions. Where c cells are behind, as many numbers are started as there are first
-- cells of regions (roots) among them: the next cell is a root and starts the next number, or its region's root is behind it and so is its label, or it is not
-- walkable and has label 0. Assumes nothing.
use Prim.Native.Nat.{ℕ, zero, suc, ◌+◌, ◌≤◌, ◌<◌}
use native.Mathlib.Omega.{arith}
use Rattle.std.specs.Prelude.{◌≡◌, Bool, true, false, not, ◌&&◌, cond, List, [], ◌∷◌, map, eqb, length, None}
use Rattle.std.proofs.Math.Path.{refl, ap}
use Rattle.std.proofs.Common.{sym, ap₂, ◌∙◌, le-leb, eqb-true, eq-eqb}
use Rattle.std.proofs.lemmas.Bool.{lt-leb, eqb-false}
use Rattle.definitions.specs.Scan.{run, concat_map, count_below, bit, only_if}
use Rattle.definitions.specs.Grid.{Map, cell_count}
use Rattle.definitions.specs.Partition.{roots, labels, region_count, walkable_at, is_root}
use Rattle.laws.specs.ListLaws.Lists.{All, done, more}
use Rattle.laws.specs.OrderLaws.Ranks.{rank_lt}
use Rattle.laws.specs.RegionLaws.Regions.{root, roots-rooted, root-is_root}
use Rattle.results.specs.Result.{started, turns, labels_fault}
use Rattle.results.specs.ResultAnswers.{entries_in}
use Rattle.run_results.specs.EntriesOf.{unplaced, joined, entries-joined}

-- ---- each label is an entry

abbrev pub single : ℕ → List ℕ
single label = label ∷ []

singles_joined : (l : List ℕ) → joined (map single l) ≡ l
unfolding concat_map
singles_joined [] = refl
singles_joined (x ∷ l) = ap {B = List ℕ} (λ m. x ∷ m) (singles_joined l)

singles_long : (l : List ℕ) → All (λ c. length c ≡ 1) (map single l)
singles_long [] = done
singles_long (x ∷ l) = more refl (singles_long l)

singles_many : (l : List ℕ) → length (map single l) ≡ length l
singles_many [] = refl
singles_many (x ∷ l) = ap suc (singles_many l)

pub label-entries : (l : List ℕ) → entries_in 1 l ≡ map unplaced (map single l)
label-entries l =
    ap (entries_in 1) (sym (singles_joined l))
    ∙ entries-joined 1 (singles_long l) (omega (arith, singles_many l, ap length (singles_joined l)))

module _ (M : Map) where
  abbrev root_at : ℕ → Bool
  root_at = is_root M (roots M)

  abbrev before : ℕ → ℕ
  before c = count_below c root_at

  abbrev label_of : ℕ → ℕ
  label_of c = cond (walkable_at M c) (suc (before (root M c))) 0

  abbrev entries_from : ℕ → ℕ → List (List ℕ)
  entries_from c k = map single (map label_of (run c k))

  before_root : (c : ℕ) → root_at c ≡ true → before (suc c) ≡ before c + 1
  unfolding count_below
  before_root c h = ap (λ b. before c + bit b) h

  before-other : (c : ℕ) → root_at c ≡ false → before (suc c) ≡ before c
  unfolding count_below
  before-other c h = ap (λ b. before c + bit b) h ∙ omega arith

  -- along the labels from cell c on all numbers are started in turn
  abbrev Goes : ℕ → ℕ → Type 0
  Goes c k = turns (region_count M) (before c) (map unplaced (entries_from c k)) ≡ started (region_count M)

  -- the same where this label is next
  abbrev GoesWith : ℕ → ℕ → ℕ → Type 0
  GoesWith label c k = turns (region_count M) (before c) (unplaced (single label) ∷ map unplaced (entries_from (suc c) k)) ≡ started (region_count M)

  turns_from_lem : (k c : ℕ) → c + k ≡ cell_count M → Goes c k
  unfolding turns run region_count
  turns_from_lem zero c h =
      let e : c ≡ cell_count M = omega arith in
      ap (λ n. started (before n)) e
  turns_from_lem (suc k) c h = go (turns_from_lem k (suc c) (omega arith)) (walkable_at M c) refl (eqb (root M c) c) refl
    where
      below : c < cell_count M
      below = omega arith

      known : Goes (suc c) k → (label : ℕ) → label ≤ before c → root_at c ≡ false → GoesWith label c k
      known rest label l e = rw (le-leb label (before c) l) (ap (λ n. turns (region_count M) n (map unplaced (entries_from (suc c) k))) (sym (before-other c e)) ∙ rest)

      new : Goes (suc c) k → (label : ℕ) → label ≡ before c + 1 → root_at c ≡ true → GoesWith label c k
      new rest label l e =
          rw (lt-leb label (before c) (omega arith), eq-eqb label (before c + 1) l, le-leb label (region_count M) (omega (arith, rank_lt root_at c (cell_count M) e below)))
          (ap (λ n. turns (region_count M) n (map unplaced (entries_from (suc c) k))) (sym (before_root c e)) ∙ rest)

      go : Goes (suc c) k → (w : Bool) → walkable_at M c ≡ w → (r : Bool) → eqb (root M c) c ≡ r → GoesWith (cond w (suc (before (root M c))) 0) c k
      go rest false w r e = known rest 0 (omega arith) (ap (λ b. b && eqb (root M c) c) w)
      go rest true w true e = new rest (suc (before (root M c))) (omega (arith, ap before (eqb-true (root M c) c e))) (ap₂ ◌&&◌ w e)
      go rest true w false e =
          known rest (suc (before (root M c)))
          (omega (arith, rank_lt root_at (root M c) c (root-is_root M c below w) (omega (arith, (roots-rooted M).low c below, eqb-false (root M c) c e)))) (ap₂ ◌&&◌ w e)

  pub labels-turn : turns (region_count M) 0 (entries_in 1 (labels M)) ≡ started (region_count M)
  unfolding labels count_below
  labels-turn = ap (turns (region_count M) 0) (label-entries (labels M)) ∙ turns_from_lem (cell_count M) 0 (omega arith)

  pub labels-keep : labels_fault (region_count M) 0 (turns (region_count M) 0 (entries_in 1 (labels M))) ≡ None
  labels-keep = ap (labels_fault (region_count M) 0) labels-turn ∙ ap (λ b. only_if (not b) 0) (eq-eqb (region_count M) (region_count M) refl)
