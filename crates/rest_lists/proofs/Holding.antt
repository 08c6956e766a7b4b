-- What is kept, through a pass: the blocks that a pass leaves are those of the places that it leaves (`kept-left`), and there are as many (`left_count_lem`).
-- The starting list has the blocks of all places (`start-held`), and at the end the rows read from the lists are the run's (`rows-kept`). Assumes nothing.
use Prim.Native.Nat.{ℕ, zero, suc, ◌+◌, ◌*◌, ◌/◌, ◌≤◌, ◌<◌}
use native.Mathlib.Omega.{arith}
use native.Mathlib.Nat.{mul-suc, mul-zero}
use mathlib.Core.Path.{◌≡◌, refl, sym, ap, ap₂, ◌∙◌}
use mathlib.Core.Bool.{Bool, true, false, not, cond}
use Rattle.std.specs.Prelude.{Option, Some}
use mathlib.Core.List.{List, [], ◌∷◌, ◌++◌, map, append_assoc, append-nil}
use lib.ListN.{length, get_or, take, drop, length-append, length-map}
use lib.Seq.{take_at, drop-append-add}
use Rattle.definitions.specs.Limits.{numbers_per_boundary}
use Rattle.definitions.specs.Scan.{collect, concat_map, gather, only_if, to_list, member, run}
use Rattle.definitions.specs.Sort.{sort, list_lt}
use Rattle.definitions.specs.Grid.{Map, at, Boundary, no_boundary, segment_at, boundary_at, boundary_of, canonical, map_of}
use Rattle.definitions.specs.Rows.{Row, row_key, rows_from, removed_of}
use Rattle.definitions.specs.Lists.{overwrite}
use Rattle.laws.specs.ListLaws.Lists.{All, done, more, all_map, get_d_tab, length_run}
use Rattle.laws.specs.ListLaws.Members.{all-place}
use Rattle.laws.specs.ListLaws.Scans.{collect_ext, picked-length}
use Rattle.rest_definitions.specs.RowOrder.{start_rows, no_row, turned, map_with, start_map}
use Rattle.rest_definitions.specs.Rest.{kept_map, passed}
use Rattle.rest.specs.FlatLists.{flat_segment, flat_boundary, flat_spans, flat_boundaries}
use Rattle.rest.specs.Runs.{all-entries}
use Rattle.rest.specs.Picking.{get_d_mapped, places}
use Rattle.rest.specs.StartMaps.{Names, start-names, start-length, start-boundaries, start-boundary}
use Rattle.boundary_blocks.specs.Blocks.{part, is_left, left_blocks, left_count}
use Rattle.boundary_blocks.specs.Start.{rows_of_all, numbers_of, ends_of_lem, turned_of, place_row, rows_at}
use Rattle.rest_lists.specs.Kept.{number_block, ends_block, boundary_block, BeginsWith, Holds, kept_of, all_places}
use Rattle.boundary_blocks.proofs.Placing.{concat-append, concat-length, part_one, part-four}

-- ---- blocks

concat_map_lem : {A B : Type 0} (f : B → List ℕ) (g : A → B) (l : List A) → concat_map f (map g l) ≡ concat_map (λ x. f (g x)) l
unfolding concat_map
concat_map_lem f g [] = refl
concat_map_lem f g (x ∷ l) = ap (λ r. f (g x) ++ r) (concat_map_lem f g l)

concat_ext : {A : Type 0} {f g : A → List ℕ} {l : List A} → All (λ x. f x ≡ g x) l → concat_map f l ≡ concat_map g l
unfolding concat_map
concat_ext done = refl
concat_ext (more e a) = ap₂ ◌++◌ e (concat_ext a)

module _ (f : ℕ → List ℕ) (size : ℕ) (long : (x : ℕ) → length (f x) ≡ size) where
  pub blocks-length : (ps : List ℕ) → length (concat_map f ps) ≡ size * length ps
  blocks-length ps = concat-length f size long (λ n. mul-suc size n ∙ omega arith) (mul-zero size) ps

  block-part : (ps rest : List ℕ) (k : ℕ) → k < length ps → part (size * k) size (concat_map f ps ++ rest) ≡ f (get_or ps k 0)
  unfolding concat_map
  block-part [] rest k h = absurd (omega arith)
  block-part (x ∷ ps) rest zero h =
      ap (λ l. take size (drop (size * 0) l)) (append_assoc (f x) (concat_map f ps) rest)
      ∙ ap (λ n. take size (drop n (f x ++ (concat_map f ps ++ rest)))) (mul-zero size)
      ∙ take_at (f x) (concat_map f ps ++ rest) size (long x)
  block-part (x ∷ ps) rest (suc k) h =
      let next : size * suc k ≡ length (f x) + size * k = omega (arith, mul-suc size k, long x) in
      ap (λ l. take size (drop (size * suc k) l)) (append_assoc (f x) (concat_map f ps) rest)
      ∙ ap (λ n. take size (drop n (f x ++ (concat_map f ps ++ rest)))) next
      ∙ ap (take size) (drop-append-add (f x) (concat_map f ps ++ rest) (size * k))
      ∙ block-part ps rest k (omega arith)

  -- the blocks that are left of the first n
  left_blocks_lem : (removed : List Bool) (ps rest : List ℕ) (n : ℕ) → n ≤ length ps
      → left_blocks removed size (concat_map f ps ++ rest) n ≡ concat_map f (collect n (λ k. only_if (is_left removed k) (get_or ps k 0)))
  unfolding left_blocks gather collect concat_map
  left_blocks_lem removed ps rest zero h = refl
  left_blocks_lem removed ps rest (suc n) h =
      ap₂ ◌++◌ (left_blocks_lem removed ps rest n (omega arith)) (one (is_left removed n))
      ∙ sym (concat-append f (collect n (λ k. only_if (is_left removed k) (get_or ps k 0))) (to_list (only_if (is_left removed n) (get_or ps n 0))))
    where
      one : (b : Bool) → cond b (part (size * n) size (concat_map f ps ++ rest)) [] ≡ concat_map f (to_list (only_if b (get_or ps n 0)))
      one true = block-part ps rest n (omega arith) ∙ sym (append-nil (f (get_or ps n 0)))
      one false = refl

  -- the first blocks of a list that begins with them
  pub begins-front : {ps l : List ℕ} (B : BeginsWith f ps l) → take (size * length ps) l ≡ concat_map f ps
  begins-front {ps} B =
      ap (take (size * length ps)) B.same ∙ take_at (concat_map f ps) B.rest (size * length ps) (blocks-length ps)

  pub begins-long : {ps l : List ℕ} (B : BeginsWith f ps l) → size * length ps ≤ length l
  begins-long {ps} B = omega (arith, ap length B.same ∙ length-append (concat_map f ps) B.rest, blocks-length ps)

-- ---- a pass

module _ (N : Map) (pass : ℕ) (ps : List ℕ) (removed : List Bool)
    (marked : (k : ℕ) → k < length ps → get_or removed k false ≡ member k (removed_of pass (kept_map N ps))) where
  left_passed : collect (length ps) (λ k. only_if (is_left removed k) (get_or ps k 0)) ≡ passed pass N ps
  unfolding passed
  left_passed =
      collect_ext (length ps) (λ k. only_if (is_left removed k) (get_or ps k 0)) (λ k. only_if (not (member k (removed_of pass (kept_map N ps)))) (get_or ps k 0))
      (λ k h. ap (λ b. only_if (not b) (get_or ps k 0)) (marked k h))

  pub left_count_lem : {count : ℕ} → count ≡ length ps → left_count removed count ≡ length (passed pass N ps)
  unfolding left_count
  left_count_lem e = ap (left_count removed) e ∙ sym (picked-length (is_left removed) (λ k. get_or ps k 0) (length ps)) ∙ ap length left_passed

  left-begins : (f : ℕ → List ℕ) (size : ℕ) → ((x : ℕ) → length (f x) ≡ size) → {count : ℕ} → count ≡ length ps → {l l' : List ℕ} → BeginsWith f ps l
      → l' ≡ overwrite (left_blocks removed size l count) l → BeginsWith f (passed pass N ps) l'
  left-begins f size long {count} c {l} B e =
      record {
        rest = drop (length (left_blocks removed size l count)) l;
        same =
            e
            ∙ ap (λ x. x ++ drop (length (left_blocks removed size l count)) l)
            (ap₂ (left_blocks removed size) B.same c ∙ left_blocks_lem f size long removed ps B.rest (length ps) (omega arith) ∙ ap (concat_map f) left_passed);
      }

-- the three lists
pub kept-left : (M : Map) (pass : ℕ) (ps : List ℕ) (removed : List Bool)
    → ((k : ℕ) → k < length ps → get_or removed k false ≡ member k (removed_of pass (kept_of M ps)))
    → {count : ℕ} → count ≡ length ps → {n b d n' b' d' : List ℕ} → Holds M ps n b d
    → n' ≡ overwrite (left_blocks removed 1 n count) n → b' ≡ overwrite (left_blocks removed 4 b count) b → d' ≡ overwrite (left_blocks removed 9 d count) d
    → Holds M (passed pass (start_map M) ps) n' b' d'
kept-left M pass ps removed marked c H en eb ed =
    record {
      numbered = left-begins (start_map M) pass ps removed marked (number_block M) 1 (λ x. refl) c H.numbered en;
      ended = left-begins (start_map M) pass ps removed marked (ends_block M) 4 (λ x. refl) c H.ended eb;
      bounded = left-begins (start_map M) pass ps removed marked (boundary_block M) 9 (λ x. refl) c H.bounded ed;
    }

-- ---- what the lists hold, as a map has it

pub flat-ends : (M : Map) (ps : List ℕ) → concat_map (ends_block M) ps ≡ flat_spans (kept_of M ps).spans
unfolding kept_map map_with flat_spans
flat-ends M ps =
    sym (concat_map_lem flat_segment (λ b. b.endpoints) (map (boundary_of (start_map M)) ps) ∙ concat_map_lem (λ b. flat_segment b.endpoints) (boundary_of (start_map M)) ps)

pub flat-bounds : (M : Map) (ps : List ℕ) → concat_map (boundary_block M) ps ≡ flat_boundaries (kept_of M ps).boundaries
unfolding kept_map map_with flat_boundaries
flat-bounds M ps = sym (concat_map_lem flat_boundary (boundary_of (start_map M)) ps)

-- ---- the starting list

module _ (w h : ℕ) (cells spans boundaries anchors : List ℕ) where
  abbrev M : Map
  M = map_of w h cells spans boundaries anchors

  abbrev count : ℕ
  count = length boundaries / numbers_per_boundary

  lent-count : length M.boundaries ≡ count
  unfolding map_of
  lent-count = length-map (run 0 count) (λ i. boundary_at boundaries (9 * i)) ∙ length_run 0 count

  lent-boundary : (i : ℕ) → i < count → boundary_of M i ≡ boundary_at boundaries (numbers_per_boundary * i)
  unfolding boundary_of map_of
  lent-boundary i h = get_d_tab (λ i. boundary_at boundaries (9 * i)) no_boundary count i h

  rows_start : rows_of_all boundaries count ≡ start_rows M
  unfolding rows_of_all start_rows rows_from
  rows_start =
      ap (sort (λ r s. list_lt (row_key r) (row_key s)))
      (collect_ext count (λ i. only_if true (record { number = i; line = canonical (boundary_at boundaries (9 * i)).endpoints })) (λ i. only_if true (record { number = i; line = canonical (boundary_of M i).endpoints }))
      (λ i h. ap (λ (b : Boundary). only_if true (record { number = i; line = canonical b.endpoints })) (sym (lent-boundary i h)))
      ∙ ap (λ n. collect n (λ i. only_if true (record { number = i; line = canonical (boundary_of M i).endpoints }))) (sym lent-count))

  -- blocks of all places are those of all rows
  all_blocks : (g : Boundary → List ℕ) → concat_map (λ k. g (boundary_of (start_map M) k)) (all_places M) ≡ concat_map (λ r. g (turned M r)) (start_rows M)
  unfolding start_map map_with boundary_of
  all_blocks g =
      sym (concat_map_lem g (λ k. get_or (start_map M).boundaries k no_boundary) (all_places M))
      ∙ ap (concat_map g) (all-entries (start_map M).boundaries no_boundary)
      ∙ concat_map_lem g (turned M) (start_rows M)

  all_numbers_lem : concat_map (number_block M) (all_places M) ≡ numbers_of (start_rows M)
  unfolding numbers_of
  all_numbers_lem =
      ap (λ n. concat_map (number_block M) (run 0 n)) (start-boundaries M ∙ sym (start-length M))
      ∙ sym (concat_map_lem (λ r. r.number ∷ []) (λ k. get_or (start_rows M) k no_row) (run 0 (length (start_rows M))))
      ∙ ap (concat_map (λ r. r.number ∷ [])) (all-entries (start_rows M) no_row)

  all-ends : concat_map (ends_block M) (all_places M) ≡ ends_of_lem (start_rows M)
  unfolding ends_of_lem turned
  all-ends = all_blocks (λ b. flat_segment b.endpoints)

  all-bounds : concat_map (boundary_block M) (all_places M) ≡ turned_of boundaries (start_rows M)
  unfolding turned_of turned
  all-bounds =
      all_blocks flat_boundary
      ∙ concat_ext
      (all_map
      (λ (r : Row) (n : Names M r).
      ap
      (λ (b : Boundary).
      flat_boundary (record { endpoints = r.line; width_bits = b.width_bits; kind = b.kind; ramp_id = b.ramp_id; lower = b.lower; upper = b.upper }))
      (lent-boundary r.number (omega (arith, n.listed, lent-count))))
      (start-names M))

  pub start-held : (n b d : List ℕ) {n' b' d' : List ℕ} → n' ≡ overwrite (numbers_of (rows_of_all boundaries count)) n → b' ≡ overwrite (ends_of_lem (rows_of_all boundaries count)) b
      → d' ≡ overwrite (turned_of boundaries (rows_of_all boundaries count)) d → Holds M (all_places M) n' b' d'
  start-held n b d en eb ed =
      record {
        numbered =
            record {
              rest = drop (length (numbers_of (rows_of_all boundaries count))) n;
              same = en ∙ ap (λ x. x ++ drop (length (numbers_of (rows_of_all boundaries count))) n) (ap numbers_of rows_start ∙ sym all_numbers_lem);
            };
        ended =
            record {
              rest = drop (length (ends_of_lem (rows_of_all boundaries count))) b;
              same = eb ∙ ap (λ x. x ++ drop (length (ends_of_lem (rows_of_all boundaries count))) b) (ap ends_of_lem rows_start ∙ sym all-ends);
            };
        bounded =
            record {
              rest = drop (length (turned_of boundaries (rows_of_all boundaries count))) d;
              same = ed ∙ ap (λ x. x ++ drop (length (turned_of boundaries (rows_of_all boundaries count))) d) (ap (turned_of boundaries) rows_start ∙ sym all-bounds);
            };
      }

-- ---- the rows at the end

module _ (M : Map) (ps : List ℕ) (within : All (λ p. p < length M.boundaries) ps) {n b d : List ℕ} (H : Holds M ps n b d) where
  abbrev place : ℕ → ℕ
  place k = get_or ps k 0

  number_at : (k : ℕ) → k < length ps → get_or n k 0 ≡ (get_or (start_rows M) (place k) no_row).number
  number_at k h =
      let one : 1 * k ≡ k = omega arith in
      let front = block-part (number_block M) 1 (λ x. refl) ps H.numbered.rest k h in
      let there : part k 1 n ≡ number_block M (place k) = ap₂ (λ i l. part i 1 l) (sym one) H.numbered.same ∙ front in
      ap (λ l. get_or l 0 0) (sym (part_one k n (omega (arith, begins-long (number_block M) 1 (λ x. refl) H.numbered))) ∙ there)

  ends_at : (k : ℕ) → k < length ps → segment_at b (4 * k) ≡ (boundary_of (start_map M) (place k)).endpoints
  ends_at k h =
      let front = ap (part (4 * k) 4) H.ended.same ∙ block-part (ends_block M) 4 (λ x. refl) ps H.ended.rest k h in
      let there = sym (part-four (4 * k) b (omega (arith, begins-long (ends_block M) 4 (λ x. refl) H.ended))) ∙ front in
      λ t. record { a = at (get_or (there t) 0 0) (get_or (there t) 1 0); b = at (get_or (there t) 2 0) (get_or (there t) 3 0) }

  row_at_lem : (k : ℕ) → k < length ps → place_row n b k ≡ get_or (start_rows M) (place k) no_row
  unfolding turned
  row_at_lem k h =
      let numbers = number_at k h in
      let lines = ends_at k h ∙ ap (λ c. c.endpoints) (start-boundary M (place k) (all-place 0 within k h)) in
      λ t. record { number = numbers t; line = lines t }

  pub rows-kept : {kept : ℕ} → kept ≡ length ps → rows_at n b kept ≡ map (λ k. get_or (start_rows M) k no_row) ps
  unfolding rows_at
  rows-kept e =
      let rows = map (λ k. get_or (start_rows M) k no_row) ps in
      ap (rows_at n b) e
      ∙ collect_ext (length ps) (λ k. Some (place_row n b k)) (λ k. only_if true (get_or rows k no_row))
      (λ k h. ap {B = Option Row} (λ r. Some r) (row_at_lem k h ∙ sym (get_d_mapped (λ k. get_or (start_rows M) k no_row) ps 0 no_row k h)))
      ∙ ap (λ m. collect m (λ k. only_if true (get_or rows k no_row))) (sym (length-map ps (λ k. get_or (start_rows M) k no_row)))
      ∙ places rows no_row
