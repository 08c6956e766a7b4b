-- The graph of pairs, and that of rows of span, smaller and larger region, are those of lists of two and of three numbers that end in an edge. Assumes nothing.
use Prim.Native.Nat.{ℕ, zero, suc, ◌+◌, ◌*◌, ◌/◌, ◌≤◌, ◌<◌}
use native.Mathlib.Omega.{arith}
use native.Mathlib.Nat.{mul-suc}
use mathlib.Core.Path.{◌≡◌, refl, sym, ap, ◌∙◌}
use mathlib.Core.Bool.{Bool, true, false, ◌&&◌}
use mathlib.Core.List.{List, [], ◌∷◌, ◌++◌}
use lib.ListN.{length, get_or, take, drop, length-append, get_or-append}
use lib.Seq.{get_or-append-add}
use lib.Dec.{ltb}
use borrow.Author.Tests.{ltb-true, ltb-false}
use Rattle.std.specs.Simd.{first_chunks}
use Rattle.std.proofs.lemmas.List.{get_or-take, length-take-le}
use Rattle.std.proofs.Common.{get_or-drop}
use Rattle.definitions.specs.Scan.{gather}
use Rattle.laws.specs.ListLaws.Below.{below_ext}
use Rattle.game.specs.Game.{is_region}
use Rattle.game.specs.Graph.{joins, any_joins, edges_in, graph_of}
use Rattle.game_search.specs.Edges.{graph_by, number_in, last_two}

-- ---- lists cut into such of n numbers

number_chunk : (n m : ℕ) (l : List ℕ) (j k : ℕ) → k < m → j < n → number_in (first_chunks n m l) j k ≡ get_or l (n * k + j) 0
number_chunk n zero l j k h i = absurd (omega arith)
number_chunk n (suc m) l j zero h i =
    let e : j ≡ n * 0 + j = omega arith in
    get_or-take n l j 0 i ∙ ap (λ x. get_or l x 0) e
number_chunk n (suc m) l j (suc k) h i =
    let e : n + (n * k + j) ≡ n * suc k + j = omega (arith, mul-suc n k) in
    number_chunk n m (drop n l) j k (omega (arith, h)) i ∙ get_or-drop n l (n * k + j) 0 ∙ ap (λ x. get_or l x 0) e

-- two graphs whose edges are the same
same_graph : (regions n : ℕ) (p q p' q' : ℕ → ℕ) (goal : ℕ) → ((k : ℕ) → k < n → p k ≡ p' k) → ((k : ℕ) → k < n → q k ≡ q' k)
    → graph_by regions n p q goal ≡ graph_by regions n p' q' goal
unfolding graph_by
same_graph regions n p q p' q' goal e f =
    λ i. record {
      regions = regions;
      edge = λ a b. is_region regions a && is_region regions b && below_ext n (λ k. joins (p k) (q k) a b) (λ k. joins (p' k) (q' k) a b) (λ k h j. joins (e k h j) (f k h j) a b) i;
      goal = goal;
    }

-- ---- pairs

pub pairs_graph : (regions : ℕ) (pairs : List ℕ) (goal : ℕ) {lists : List (List ℕ)} → lists ≡ first_chunks 2 (length pairs / 2) pairs → length lists ≡ length pairs / 2
    → last_two 2 regions lists goal ≡ graph_of regions pairs goal
unfolding graph_by graph_of any_joins
pairs_graph regions pairs goal {lists} e l =
    let n = length pairs / 2 in
    ap (λ m. graph_by regions m (number_in lists 0) (number_in lists 1) goal) l
    ∙ same_graph regions n (number_in lists 0) (number_in lists 1) (λ k. get_or pairs (2 * k) 0) (λ k. get_or pairs (2 * k + 1) 0) goal
    (λ k h. ap (λ x. number_in x 0 k) e ∙ number_chunk 2 n pairs 0 k h (omega arith) ∙ ap (λ x. get_or pairs x 0) (first k))
    (λ k h. ap (λ x. number_in x 1 k) e ∙ number_chunk 2 n pairs 1 k h (omega arith))
  where
    first : (k : ℕ) → 2 * k + 0 ≡ 2 * k
    first k = omega arith

-- ---- rows

module _ (rows : List ℕ) where
  -- the two regions of row k
  abbrev two : ℕ → List ℕ
  two k = get_or rows (3 * k + 1) 0 ∷ get_or rows (3 * k + 2) 0 ∷ []

  edges-length : (n : ℕ) → length (edges_in rows n) ≡ 2 * n
  unfolding edges_in gather
  edges-length zero = refl
  edges-length (suc n) = length-append (edges_in rows n) (two n) ∙ ap (λ m. m + 2) (edges-length n) ∙ more
    where
      more : 2 * n + 2 ≡ 2 * suc n
      more = omega arith

  edge_at : (n k j : ℕ) → k < n → j < 2 → get_or (edges_in rows n) (2 * k + j) 0 ≡ get_or (two k) j 0
  unfolding edges_in gather
  edge_at zero k j h l = absurd (omega arith)
  edge_at (suc n) k j h l = go (ltb k n) refl (λ m. edge_at n k j m l)
    where
      go : (b : Bool) → ltb k n ≡ b → (k < n → get_or (edges_in rows n) (2 * k + j) 0 ≡ get_or (two k) j 0) → get_or (edges_in rows n ++ two n) (2 * k + j) 0 ≡ get_or (two k) j 0
      go true e earlier = get_or-append (edges_in rows n) (two n) 0 (2 * k + j) (omega (arith, edges-length n, ltb-true k n e)) ∙ earlier (ltb-true k n e)
      go false e earlier = ap (λ i. get_or (edges_in rows n ++ two n) i 0) place ∙ get_or-append-add (edges_in rows n) (two n) j 0 ∙ ap (λ m. get_or (two m) j 0) (sym last)
        where
          last : k ≡ n
          last = omega (arith, ltb-false k n e)

          place : 2 * k + j ≡ length (edges_in rows n) + j
          place = omega (arith, edges-length n, last)

  module _ (n k : ℕ) (h : k < n) where
    smaller : get_or (edges_in rows n) (2 * k) 0 ≡ get_or rows (3 * k + 1) 0
    smaller =
        let e : 2 * k ≡ 2 * k + 0 = omega arith in
        ap (λ i. get_or (edges_in rows n) i 0) e ∙ edge_at n k 0 h (omega arith)

    larger : get_or (edges_in rows n) (2 * k + 1) 0 ≡ get_or rows (3 * k + 2) 0
    larger = edge_at n k 1 h (omega arith)

pub rows_graph : (regions : ℕ) (rows : List ℕ) (goal : ℕ) {lists : List (List ℕ)} → lists ≡ first_chunks 3 (length rows / 3) rows → length lists ≡ length rows / 3
    → last_two 3 regions lists goal ≡ graph_of regions (edges_in rows (length rows / 3)) goal
unfolding graph_by graph_of any_joins
rows_graph regions rows goal {lists} e l =
    ap (λ m. graph_by regions m (number_in lists 1) (number_in lists 2) goal) l
    ∙ same_graph regions count (number_in lists 1) (number_in lists 2) (λ k. get_or (edges_in rows count) (2 * k) 0) (λ k. get_or (edges_in rows count) (2 * k + 1) 0) goal
    (λ k i. number 1 k i (omega arith) ∙ sym (smaller rows count k i))
    (λ k i. number 2 k i (omega arith) ∙ sym (larger rows count k i))
    ∙ ap (λ m. graph_by regions m (λ k. get_or (edges_in rows count) (2 * k) 0) (λ k. get_or (edges_in rows count) (2 * k + 1) 0) goal) (sym half)
  where
    count : ℕ
    count = length rows / 3

    half : length (edges_in rows count) / 2 ≡ count
    half = ap (λ n. n / 2) (edges-length rows count) ∙ omega arith

    number : (j k : ℕ) → k < count → j < 3 → number_in lists j k ≡ get_or rows (3 * k + j) 0
    number j k i m = ap (λ x. number_in x j k) e ∙ number_chunk 3 count rows j k i m

-- ---- the front of a list of rows

same_edges : (rows rows' : List ℕ) (n : ℕ) → ((i : ℕ) → i < 3 * n → get_or rows i 0 ≡ get_or rows' i 0) → edges_in rows n ≡ edges_in rows' n
unfolding edges_in gather
same_edges rows rows' zero e = refl
same_edges rows rows' (suc n) e =
    λ i. same_edges rows rows' n (λ j h. e j (omega (arith, h))) i ++ (e (3 * n + 1) (omega arith) i ∷ e (3 * n + 2) (omega arith) i ∷ [])

pub front_edges : (rows : List ℕ) (count : ℕ) → 3 * count ≤ length rows
    → edges_in (take (3 * count) rows) (length (take (3 * count) rows) / 3) ≡ edges_in rows count
front_edges rows count h =
    ap (edges_in (take (3 * count) rows)) (ap (λ n. n / 3) (length-take-le (3 * count) rows h) ∙ omega arith)
    ∙ same_edges (take (3 * count) rows) rows count (λ i l. get_or-take (3 * count) rows i 0 l)
