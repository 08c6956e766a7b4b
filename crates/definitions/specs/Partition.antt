-- The partition (SPECIFICATION 8; `partition_by_spans`, `components` and `boundary_assessment` of areas.rs): regions, labels, tallies and pairs.
-- Regions are put by merging steps in place of the Rust's flood: no order of a queue is left to believe. Assumes nothing.
use Rattle.std.specs.Prelude.{ℕ, suc, min, max, Bool, not, ◌&&◌, cond, get_or, eqb}
use mathlib.Core.List.{List, [], ◌∷◌, map, Memᴰ}
use Rattle.definitions.specs.Scan.{filter, gather, run, any, count_below}
use Rattle.definitions.specs.Grid.{Map, Pair, pair_lt, pair_eq, span_count, cell_count, position_of, cell_at, is_walkable, edge, onward}
use Rattle.definitions.specs.Spans.{cut_steps}

-- ---- regions

-- every step of the grid once, from its smaller cell
unfoldable pub all_steps : Map → List Pair
unfolding gather cell_count onward
all_steps M = gather (cell_count M) (λ c. map (edge M (position_of M c)) (onward M (position_of M c)))

-- the steps that some span cuts, span by span
unfoldable pub cut_all_lem : Map → List Pair
unfolding gather span_count cut_steps
cut_all_lem M = gather (span_count M) (cut_steps M)

-- The Rust keeps a mask of cut directions for each cell, and always sets the bits of both ends of a step.
unfoldable pub uncut : Map → List Pair
unfolding cut_all_lem filter any all_steps
uncut M =
    let gone = cut_all_lem M in
    filter (λ e. not (any (pair_eq e) gone)) (all_steps M)

-- For the reader: two cells are joined by a chain of steps of E. The crate `laws` proves that two walkable cells share a label exactly when
-- they are joined by uncut steps, and that this and the numbering by first cells determine the labels.
pub data Joined (E : List Pair) : ℕ → ℕ → Type 0 where
  here : {a : ℕ} → Joined E a a
  along : {a : ℕ} {e : Pair} → Joined E a e.lo → Memᴰ e E → Joined E a e.hi
  back : {a : ℕ} {e : Pair} → Joined E a e.hi → Memᴰ e E → Joined E a e.lo

-- A list of roots has for each number the least number of its class. The two classes of a pair become one, named by the lesser of their names.
-- (Pass 2 merges regions by this same definition.)
unfoldable pub merge : List ℕ → Pair → List ℕ
merge rs e =
    let a = get_or rs e.lo 0 in
    let b = get_or rs e.hi 0 in
    map (λ r. cond (eqb r (max a b)) (min a b) r) rs

unfoldable pub merge_all : List ℕ → List Pair → List ℕ
unfolding merge
merge_all rs [] = rs
merge_all rs (e ∷ es) = merge_all (merge rs e) es

-- the first cell of each cell's region: each cell alone, then every uncut step merges
unfoldable pub roots : Map → List ℕ
unfolding merge_all run cell_count uncut
roots M = merge_all (run 0 (cell_count M)) (uncut M)

abbrev pub walkable_at : Map → ℕ → Bool
walkable_at M c = is_walkable (cell_at M c)

abbrev pub is_root : Map → List ℕ → ℕ → Bool
is_root M rs c = walkable_at M c && eqb (get_or rs c 0) c

-- labels count from 1 by the first cell of each region, row by row; 0 where a cell is not walkable
unfoldable pub labels : Map → List ℕ
unfolding roots count_below run cell_count
labels M =
    let rs = roots M in
    map (λ c. cond (walkable_at M c) (suc (count_below (get_or rs c 0) (is_root M rs))) 0) (run 0 (cell_count M))

unfoldable pub region_count : Map → ℕ
unfolding roots count_below cell_count
region_count M =
    let rs = roots M in
    count_below (cell_count M) (is_root M rs)

-- ---- tallies and pairs of a span, from the labels and its cut steps. (Its removed edge count is the number of its cut steps.)

-- the cells of a step have different labels
abbrev pub is_separated : List ℕ → Pair → Bool
is_separated ls e = not (eqb (get_or ls e.lo 0) (get_or ls e.hi 0))

-- the labels on the two sides of a step, smaller first
abbrev pub label_pair : List ℕ → Pair → Pair
label_pair ls e = record { lo = min (get_or ls e.lo 0) (get_or ls e.hi 0); hi = max (get_or ls e.lo 0) (get_or ls e.hi 0) }

-- into an ascending list, if not there: what sorting all and dropping repeats gives (laws: PairLaws, pairsOf-unique)
unfoldable pub add_pair : Pair → List Pair → List Pair
add_pair p [] = p ∷ []
add_pair p (q ∷ l) = cond (pair_lt p q) (p ∷ q ∷ l) (cond (pair_eq p q) (q ∷ l) (q ∷ add_pair p l))

unfoldable pub add_pairs : List Pair → List Pair → List Pair
unfolding add_pair
add_pairs l [] = l
add_pairs l (p ∷ ps) = add_pairs (add_pair p l) ps

-- the distinct pairs, ascending
unfoldable pub pairs_of : List ℕ → List Pair → List Pair
unfolding add_pairs filter
pairs_of ls es = add_pairs [] (map (label_pair ls) (filter (is_separated ls) es))
