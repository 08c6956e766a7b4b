-- Spans and boundaries written out as a call is lent them: what is written reads as itself (`flat_map`). Assumes nothing.
use Prim.Native.Nat.{ℕ, zero, suc, ◌+◌, ◌*◌, ◌/◌, ◌<◌}
use Rattle.std.proofs.Common.{arith, add-zero, sym, ◌∙◌}
use Rattle.std.specs.Prelude.{◌≡◌, refl, length}
use Rattle.std.proofs.Math.Path.{ap}
use mathlib.Core.List.{List, [], ◌∷◌, ◌++◌, map}
use Rattle.std.proofs.Math.ListN.{get_or, get_or-append}
use Rattle.std.proofs.Math.Seq.{get_or-append-add}
use Rattle.definitions.specs.Scan.{concat_map, run}
use Rattle.definitions.specs.Grid.{at, Segment, Boundary, no_segment, no_boundary, segment_at, boundary_at, map_of}
use Rattle.laws.specs.ListLaws.Scans.{tab_ext}
use Rattle.rest.specs.Runs.{all-entries}

-- four numbers for a span, nine for a boundary
abbrev pub flat_segment : Segment → List ℕ
flat_segment s = s.a.x ∷ s.a.y ∷ s.b.x ∷ s.b.y ∷ []

abbrev pub flat_boundary : Boundary → List ℕ
flat_boundary b = b.endpoints.a.x ∷ b.endpoints.a.y ∷ b.endpoints.b.x ∷ b.endpoints.b.y ∷ b.width_bits ∷ b.kind ∷ b.ramp_id ∷ b.lower ∷ b.upper ∷ []

unfoldable pub flat_spans : List Segment → List ℕ
unfolding concat_map
flat_spans l = concat_map flat_segment l

unfoldable pub flat_boundaries : List Boundary → List ℕ
unfolding concat_map
flat_boundaries l = concat_map flat_boundary l

-- ---- lists of blocks of n numbers

module _
    {A : Type 0} (f : A → List ℕ) (n : ℕ) (long : (x : A) → length (f x) ≡ n)
    (step : (i j : ℕ) → n * suc i + j ≡ n + (n * i + j)) (start : (j : ℕ) → n * 0 + j ≡ j) where
  block_at : (l : List A) (d : A) (i j : ℕ) → i < length l → j < n → get_or (concat_map f l) (n * i + j) 0 ≡ get_or (f (get_or l i d)) j 0
  unfolding concat_map
  block_at [] d i j h k = absurd (omega arith)
  block_at (x ∷ l) d zero j h k = ap (λ m. get_or (f x ++ concat_map f l) m 0) (start j) ∙ get_or-append (f x) (concat_map f l) 0 j (omega (arith, long x))
  block_at (x ∷ l) d (suc i) j h k =
      ap (λ m. get_or (f x ++ concat_map f l) m 0) (step i j ∙ ap (λ m. m + (n * i + j)) (sym (long x)))
      ∙ get_or-append-add (f x) (concat_map f l) (n * i + j) 0
      ∙ block_at l d i j (omega arith) k

pub flat_spans-length : (l : List Segment) → length (flat_spans l) ≡ 4 * length l
unfolding flat_spans
flat_spans-length [] = refl
flat_spans-length (s ∷ l) = ap (λ n. suc (suc (suc (suc n)))) (flat_spans-length l) ∙ omega arith

pub flat_boundaries-length : (l : List Boundary) → length (flat_boundaries l) ≡ 9 * length l
unfolding flat_boundaries
flat_boundaries-length [] = refl
flat_boundaries-length (b ∷ l) = ap (λ n. suc (suc (suc (suc (suc (suc (suc (suc (suc n))))))))) (flat_boundaries-length l) ∙ omega arith

pub span_count_lem : (l : List Segment) → length (flat_spans l) / 4 ≡ length l
span_count_lem l = ap (λ n. n / 4) (flat_spans-length l) ∙ omega arith

pub boundary_count_lem : (l : List Boundary) → length (flat_boundaries l) / 9 ≡ length l
boundary_count_lem l = ap (λ n. n / 9) (flat_boundaries-length l) ∙ omega arith

-- ---- reading them

pub span_at_lem : (l : List Segment) (i : ℕ) → i < length l → segment_at (flat_spans l) (4 * i) ≡ get_or l i no_segment
unfolding flat_spans
span_at_lem l i h = λ t. record { a = at (first t) (block 1 (omega arith) t); b = at (block 2 (omega arith) t) (block 3 (omega arith) t) }
  where
    block : (j : ℕ) → j < 4 → get_or (concat_map flat_segment l) (4 * i + j) 0 ≡ get_or (flat_segment (get_or l i no_segment)) j 0
    block j k = block_at flat_segment 4 (λ s. refl) (λ i j. omega arith) (λ j. omega arith) l no_segment i j h k

    first : get_or (concat_map flat_segment l) (4 * i) 0 ≡ (get_or l i no_segment).a.x
    first = ap (λ m. get_or (concat_map flat_segment l) m 0) (sym (add-zero (4 * i))) ∙ block 0 (omega arith)

pub boundary_at_lem : (l : List Boundary) (i : ℕ) → i < length l → boundary_at (flat_boundaries l) (9 * i) ≡ get_or l i no_boundary
unfolding flat_boundaries
boundary_at_lem l i h =
    λ t.
    record {
      endpoints = record { a = at (first t) (block 1 (omega arith) t); b = at (block 2 (omega arith) t) (block 3 (omega arith) t) };
      width_bits = block 4 (omega arith) t;
      kind = block 5 (omega arith) t;
      ramp_id = block 6 (omega arith) t;
      lower = block 7 (omega arith) t;
      upper = block 8 (omega arith) t;
    }
  where
    block : (j : ℕ) → j < 9 → get_or (concat_map flat_boundary l) (9 * i + j) 0 ≡ get_or (flat_boundary (get_or l i no_boundary)) j 0
    block j k = block_at flat_boundary 9 (λ b. refl) (λ i j. omega arith) (λ j. omega arith) l no_boundary i j h k

    first : get_or (concat_map flat_boundary l) (9 * i) 0 ≡ (get_or l i no_boundary).endpoints.a.x
    first = ap (λ m. get_or (concat_map flat_boundary l) m 0) (sym (add-zero (9 * i))) ∙ block 0 (omega arith)

-- a map with these spans and boundaries is lent as it is
pub flat_map : (w h : ℕ) (cells anchors : List ℕ) (spans : List Segment) (boundaries : List Boundary)
    → map_of w h cells (flat_spans spans) (flat_boundaries boundaries) anchors
    ≡ record { width = w; height = h; cells = cells; spans = spans; boundaries = boundaries; anchors = (map_of w h cells [] [] anchors).anchors }
unfolding map_of
flat_map w h cells anchors spans boundaries =
    λ t. record { width = w; height = h; cells = cells; spans = spans_same t; boundaries = boundaries_same t; anchors = map (λ i. get_or anchors (2 * i + 1) 0 * w + get_or anchors (2 * i) 0) (run 0 (length anchors / 2)) }
  where
    spans_same : map (λ i. segment_at (flat_spans spans) (4 * i)) (run 0 (length (flat_spans spans) / 4)) ≡ spans
    spans_same =
        ap (λ n. map (λ i. segment_at (flat_spans spans) (4 * i)) (run 0 n)) (span_count_lem spans)
        ∙ tab_ext (λ i. segment_at (flat_spans spans) (4 * i)) (λ i. get_or spans i no_segment) (length spans) (λ i h. span_at_lem spans i h)
        ∙ all-entries spans no_segment

    boundaries_same : map (λ i. boundary_at (flat_boundaries boundaries) (9 * i)) (run 0 (length (flat_boundaries boundaries) / 9)) ≡ boundaries
    boundaries_same =
        ap (λ n. map (λ i. boundary_at (flat_boundaries boundaries) (9 * i)) (run 0 n)) (boundary_count_lem boundaries)
        ∙ tab_ext (λ i. boundary_at (flat_boundaries boundaries) (9 * i)) (λ i. get_or boundaries i no_boundary) (length boundaries) (λ i h. boundary_at_lem boundaries i h)
        ∙ all-entries boundaries no_boundary
