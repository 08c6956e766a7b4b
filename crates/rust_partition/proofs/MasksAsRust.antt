-- The first half of `partition_by_spans` as the Rust writes it: the edges of each span are its cut steps (`edges_are`), and the masks say of every step whether some span cuts
-- it (`masks-are`); every index that is expected is there (Candidates, and `index-inside`, `index-walkable` of NeighborsAsRust). The argument: each removed
-- edge sets the two bits of its step, which adds that step to those that the masks say are cut. Assumes a byte for each cell of a grid that is not empty, as check 1 and check 2 have it.
use Prim.Native.Nat.{ℕ, zero, suc, ◌+◌, ◌-◌, ◌^◌, ◌≤◌}
use native.Mathlib.Omega.{arith}
use Rattle.std.specs.Prelude.{◌≡◌, Bool, ◌&&◌, ◌||◌, length, replicate, leb, Some}
use Rattle.std.proofs.Math.Path.{refl, sym, ap, subst}
use Rattle.std.proofs.Common.{◌∙◌}
use Rattle.std.proofs.Math.Bool.{true, false, not, cond}
use Rattle.std.proofs.lemmas.Bool.{false≢true}
use mathlib.Core.List.{List, [], ◌∷◌, ◌++◌, map, append-nil, append_assoc}
use Rattle.std.proofs.Math.ListN.{get_or, length-replicate, get_or-replicate}
use Rattle.std.proofs.lemmas.List.{length-map}
use Rattle.std.proofs.Math.Seq.{ext_get_or}
use Rattle.std.proofs.Math.Dec.{ltb}
use borrow.Author.Tests.{ltb-true, leb-true, leb-false, lt-ltb, le-ltb}
use Rattle.definitions.specs.Scan.{filter, concat_map, gather, run}
use Rattle.definitions.specs.Grid.{Map, Position, Segment, Pair, no_segment, canonical, span_count, span_of, cell_count, cell_at, is_walkable, index, edge, toward, directions, walkable, is_step, neighbors, onward, position_of}
use Rattle.definitions.specs.Spans.{cuts, candidate_positions, cut_steps}
use Rattle.definitions.specs.Partition.{cut_all_lem}
use Rattle.laws.specs.ListLaws.Lists.{All, done, more, filter_none, length_run, get_d_tab}
use Rattle.laws.specs.ListLaws.Scans.{all_every}
use Rattle.laws.specs.ListLaws.Tests.{both as and_both}
use Rattle.laws.specs.RegionLaws.Steps.{walkable-cell}
use Rattle.grid_steps.specs.Masks.{bit_of, with_bit, reached, Marks}
use Rattle.grid_steps.proofs.Square.{Four, four, position-index, walkable_in}
use Rattle.grid_steps.proofs.Bits.{with_bit-length}
use Rattle.grid_steps.proofs.MarkStep.{marks_none, mark-adds}
use Rattle.rust_partition.specs.Literal.Neighbors.{index_rust, neighbors_rust}
use Rattle.rust_partition.specs.Literal.CutMasks.{expect, edge_bit, or_at, Marking, mark_neighbor, mark_neighbors, mark_position, mark_positions, Removed, remove_by_span, remove_by_spans, removed_edges}
use Rattle.rust_partition.specs.Candidates.{Inside, candidates-inside}
use Rattle.rust_partition.proofs.NeighborsAsRust.{index-inside, index-walkable, neighbors-are}
use Rattle.rust_partition.specs.MaskBits.{bit-set, edge_bit_lem, edge_bit-back}

-- ---- masks and edges

module _ (M : Map) where
  -- from s to s' these edges were removed
  record Added (s s' : Marking) (added : List Pair) : Type 0 where
    edges : s'.edges ≡ s.edges ++ added
    long : length s'.masks ≡ length s.masks
    marks : (E : List Pair) → cell_count M ≤ length s.masks → Marks M s.masks E → Marks M s'.masks (E ++ added)

  added_none : (s : Marking) → Added s s []
  added_none s = record { edges = sym (append-nil s.edges); long = refl; marks = λ E h m. subst (Marks M s.masks) (sym (append-nil E)) m }

  added_then : {s t u : Marking} {a b : List Pair} → Added s t a → Added t u b → Added s u (a ++ b)
  added_then {s} {u = u} {a = a} {b = b} A B =
      record {
        edges = B.edges ∙ ap (λ l. l ++ b) A.edges ∙ append_assoc s.edges a b;
        long = B.long ∙ A.long;
        marks = λ E h m. subst (Marks M u.masks) (append_assoc E a b) (B.marks (E ++ a) (omega (arith, A.long)) (A.marks E h m));
      }

  -- ---- one position

  module _ (g : Segment) (p : Position) (w : walkable M p ≡ true) where
    abbrev c : ℕ
    c = index M p

    abbrev later : Position → Bool
    later q = ltb c (index M q)

    here : position_of M c ≡ p
    here = position-index M p (walkable_in M p w).x

    -- the edge of a step to a larger cell
    module _ (d : Position) (e : is_step M p d ≡ true) where
      abbrev q : Position
      q = toward p d

      f : Four M p d
      f = four M p d e

      abbrev both : Marking → Marking
      both s = record { masks = with_bit (with_bit s.masks c (bit_of d)) (index M q) (8 - bit_of d); edges = s.edges ++ (edge M p q ∷ []) }

      neighbor-marked : (s : Marking) → mark_neighbor M g p c s q ≡ cond (later q && cuts g p q) (both s) s
      unfolding mark_neighbor
      neighbor-marked s =
          (λ i.
          cond (leb (expect (there i)) c || not (cuts g p q)) s
          (record { masks = or_at (or_at s.masks c (bits i)) (expect (there i)) (bits_back i); edges = s.edges ++ (record { lo = c; hi = expect (there i) } ∷ []) }))
          ∙ (λ i. cond (leb (index M q) c || not (cuts g p q)) s (record { masks = set_both i; edges = s.edges ++ (edge M p q ∷ []) }))
          ∙ go (leb (index M q) c) refl (cuts g p q)
        where
          there : index_rust M q ≡ Some (index M q)
          there = index-walkable M q f.far

          bits : edge_bit p q ≡ 2 ^ bit_of d
          bits = edge_bit_lem p d f.near_x f.near_y f.right f.down

          bits_back : edge_bit q p ≡ 2 ^ (8 - bit_of d)
          bits_back = edge_bit-back p d f.near_x f.near_y f.right f.down

          set_both : or_at (or_at s.masks c (2 ^ bit_of d)) (index M q) (2 ^ (8 - bit_of d)) ≡ with_bit (with_bit s.masks c (bit_of d)) (index M q) (8 - bit_of d)
          set_both = ap (λ m. or_at m (index M q) (2 ^ (8 - bit_of d))) (bit-set s.masks c (bit_of d)) ∙ bit-set (with_bit s.masks c (bit_of d)) (index M q) (8 - bit_of d)

          go : (a : Bool) → leb (index M q) c ≡ a → (b : Bool) → cond (a || not b) s (both s) ≡ cond (later q && b) (both s) s
          go true x b = rw (le-ltb c (index M q) (leb-true (index M q) c x)) refl
          go false x true = rw (lt-ltb c (index M q) (leb-false (index M q) c x)) refl
          go false x false = rw (lt-ltb c (index M q) (leb-false (index M q) c x)) refl

      one_added : (b : Bool) → (later q && cuts g p q) ≡ b → (s : Marking) → Added s (cond b (both s) s) (cond b (edge M p q ∷ []) [])
      one_added false x s = added_none s
      one_added true x s =
          record {
            edges = refl;
            long = with_bit-length (with_bit s.masks c (bit_of d)) (index M q) (8 - bit_of d) ∙ with_bit-length s.masks c (bit_of d);
            marks = λ E h m.
                subst (λ r. Marks M (with_bit (with_bit s.masks c (bit_of d)) r (8 - bit_of d)) (E ++ (record { lo = c; hi = r } ∷ []))) same
                (mark-adds M s.masks E h m c d (walkable-cell M p w).0 (ap (λ r. is_step M r d) here ∙ e) (omega (arith, same, ltb-true c (index M q) (and_both (later q) (cuts g p q) x).0)));
          }
        where
          same : reached M c d ≡ index M q
          same = ap (λ r. index M (toward r d)) here

    -- the steps that a list of neighbours adds
    abbrev kept : List Position → List Pair
    kept l = map (edge M p) (filter (cuts g p) (filter later l))

    kept_first : (q : Position) (l : List Position) → cond (later q && cuts g p q) (edge M p q ∷ []) [] ++ kept l ≡ kept (q ∷ l)
    unfolding filter
    kept_first q l = go (later q) (cuts g p q) refl
      where
        go : (a b : Bool) → cuts g p q ≡ b → cond (a && b) (edge M p q ∷ []) [] ++ kept l ≡ map (edge M p) (filter (cuts g p) (cond a (q ∷ filter later l) (filter later l)))
        go false b x = refl
        go true true x = rw x refl
        go true false x = rw x refl

    abbrev ways : List Position → List Position
    ways ds = map (toward p) (filter (is_step M p) ds)

    ways-added : (ds : List Position) (s : Marking) → Added s (mark_neighbors M g p c s (ways ds)) (kept (ways ds))
    unfolding mark_neighbors filter
    ways-added [] s = added_none s
    ways-added (d ∷ ds) s = go (is_step M p d) refl (ways-added ds)
      where
        go : (b : Bool) → is_step M p d ≡ b → ((s : Marking) → Added s (mark_neighbors M g p c s (ways ds)) (kept (ways ds))) → Added s (mark_neighbors M g p c s (map (toward p) (cond b (d ∷ filter (is_step M p) ds) (filter (is_step M p) ds)))) (kept (map (toward p) (cond b (d ∷ filter (is_step M p) ds) (filter (is_step M p) ds))))
        go false e ih = ih s
        go true e ih =
            subst (Added s (mark_neighbors M g p c (mark_neighbor M g p c s (toward p d)) (ways ds))) (kept_first (toward p d) (ways ds))
            (added_then (subst (λ t. Added s t (cond (later (toward p d) && cuts g p (toward p d)) (edge M p (toward p d) ∷ []) [])) (sym (neighbor-marked d e s)) (one_added d e _ refl s)) (ih (mark_neighbor M g p c s (toward p d))))

  -- a cell that is not walkable has no steps
  no_steps : (g : Segment) (p : Position) → walkable M p ≡ false → map (edge M p) (filter (cuts g p) (onward M p)) ≡ []
  unfolding onward neighbors filter
  no_steps g p w =
      ap (λ l. map (edge M p) (filter (cuts g p) (filter (λ q. ltb (index M p) (index M q)) (map (toward p) l))))
      (filter_none (is_step M p) (λ d t. nowhere d (is_step M p d) refl) (all_every {P = λ d. Unit {0}} (λ d. tt) directions))
    where
      nowhere : (d : Position) (b : Bool) → is_step M p d ≡ b → b ≡ false
      nowhere d true e = absurd (false≢true (sym w ∙ (four M p d e).near))
      nowhere d false e = refl

  walkable-inside : (p : Position) → Inside M p → walkable M p ≡ is_walkable (cell_at M (index M p))
  unfolding walkable
  walkable-inside p i = rw (lt-ltb p.x M.width i.in_x, lt-ltb p.y M.height i.in_y) refl

  module _ (cells : length M.cells ≡ cell_count M) (g : Segment) where
    -- what a position adds
    abbrev from : Position → List Pair
    from p = map (edge M p) (filter (cuts g p) (onward M p))

    position-added : (p : Position) → Inside M p → (s : Marking) → Added s (mark_position M g s p) (from p)
    unfolding mark_position onward neighbors
    position-added p i s =
        subst (λ o. Added s (cond (not (is_walkable (cell_at M (expect o)))) s (mark_neighbors M g p (expect o) s (neighbors_rust M p))) (from p)) (sym (index-inside M cells p i.in_x i.in_y))
        (go (is_walkable (cell_at M (index M p))) refl)
      where
        go : (b : Bool) → is_walkable (cell_at M (index M p)) ≡ b → Added s (cond (not b) s (mark_neighbors M g p (index M p) s (neighbors_rust M p))) (from p)
        go true e =
            let w = walkable-inside p i ∙ e in
            subst (λ l. Added s (mark_neighbors M g p (index M p) s l) (from p)) (sym (neighbors-are M p w)) (ways-added g p w directions s)
        go false e = subst (Added s s) (sym (no_steps g p (walkable-inside p i ∙ e))) (added_none s)

    positions_added : {l : List Position} → All (Inside M) l → (s : Marking) → Added s (mark_positions M g s l) (concat_map from l)
    unfolding mark_positions concat_map
    positions_added done s = added_none s
    positions_added (more {x = p} i a) s = added_then (position-added p i s) (positions_added a (mark_position M g s p))

-- ---- all spans

module _ (M : Map) (cells : length M.cells ≡ cell_count M) (wide : 1 ≤ M.width) (tall : 1 ≤ M.height) where
  -- after k spans
  record Reached (k : ℕ) (r : Removed) : Type 0 where
    long : length r.masks ≡ cell_count M
    marks : Marks M r.masks (gather k (cut_steps M))

  module _ (k : ℕ) (r : Removed) where
    span-added : Added M (record { masks = r.masks; edges = [] }) (mark_positions M (canonical (span_of M k)) (record { masks = r.masks; edges = [] }) (candidate_positions M.width M.height (canonical (span_of M k)))) (cut_steps M k)
    unfolding cut_steps
    span-added = positions_added M cells (canonical (span_of M k)) (candidates-inside M wide tall (canonical (span_of M k))) (record { masks = r.masks; edges = [] })

    span-reached : Reached k r → Reached (suc k) (remove_by_span M r (span_of M k))
    unfolding remove_by_span gather
    span-reached R = record { long = span-added.long ∙ R.long; marks = span-added.marks (gather k (cut_steps M)) (omega (arith, R.long)) R.marks }

    span_edges_lem : (remove_by_span M r (span_of M k)).span_edges ≡ r.span_edges ++ (cut_steps M k ∷ [])
    unfolding remove_by_span
    span_edges_lem = ap (λ es. r.span_edges ++ (es ∷ [])) span-added.edges

  spans-reached : (m k n : ℕ) → k + m ≡ n → (r : Removed) → Reached k r → Reached n (remove_by_spans M r (map (span_of M) (run k m)))
  unfolding remove_by_spans run
  spans-reached zero k n e r R = subst (λ x. Reached x r) k_is R
    where
      k_is : k ≡ n
      k_is = omega arith
  spans-reached (suc m) k n e r R = spans-reached m (suc k) n (omega arith) (remove_by_span M r (span_of M k)) (span-reached k r R)

  spans-edges : (m k : ℕ) (r : Removed) → (remove_by_spans M r (map (span_of M) (run k m))).span_edges ≡ r.span_edges ++ map (cut_steps M) (run k m)
  unfolding remove_by_spans run
  spans-edges zero k r = sym (append-nil r.span_edges)
  spans-edges (suc m) k r =
      spans-edges m (suc k) (remove_by_span M r (span_of M k)) ∙ ap (λ l. l ++ map (cut_steps M) (run (suc k) m)) (span_edges_lem k r)
      ∙ append_assoc r.span_edges (cut_steps M k ∷ []) (map (cut_steps M) (run (suc k) m))

  -- the list of spans, span by span
  numbered : M.spans ≡ map (span_of M) (run 0 (span_count M))
  unfolding span_of span_count
  numbered =
      ext_get_or no_segment M.spans (map (λ i. get_or M.spans i no_segment) (run 0 (length M.spans)))
      (sym (length-map (run 0 (length M.spans)) (λ i. get_or M.spans i no_segment) ∙ length_run 0 (length M.spans)))
      (λ i h. sym (get_d_tab (λ i. get_or M.spans i no_segment) no_segment (length M.spans) i h))

  begun : Removed
  begun = record { masks = replicate (length M.cells) 0; span_edges = [] }

  begun-reached : Reached 0 begun
  unfolding begun gather
  begun-reached =
      record {
        long = length-replicate (length M.cells) 0 ∙ cells;
        marks = marks_none M (replicate (length M.cells) 0) (λ c h. get_or-replicate (length M.cells) c 0 0 (omega (arith, cells)));
      }

  all-reached : Reached (span_count M) (removed_edges M)
  unfolding removed_edges begun
  all-reached = subst (λ l. Reached (span_count M) (remove_by_spans M begun l)) (sym numbered) (spans-reached (span_count M) 0 (span_count M) (omega arith) begun begun-reached)

  pub masks-are : Marks M (removed_edges M).masks (cut_all_lem M)
  unfolding cut_all_lem
  masks-are = all-reached.marks

  pub edges_are : (removed_edges M).span_edges ≡ map (cut_steps M) (run 0 (span_count M))
  unfolding removed_edges begun
  edges_are = ap (λ l. (remove_by_spans M begun l).span_edges) numbered ∙ spans-edges (span_count M) 0 begun
