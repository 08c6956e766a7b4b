-- REQUEST 10 over a call: what the list of separations holds at exit. What is assumed, whole: a call of the operation met its contract (`Lists`) and returned
-- 0. Then the row of every two boundaries, i below j, has their numbers, a double that is within 2 ^ -32 pixel of the exact distance and 0 exactly when they
-- share a point, and the exact square (`listed-holds`). And if a call that runs a pass accepts a map, the list of its boundaries is not refused, given room,
-- and the double is the separation of pass 1 (`listed-pass`). The exported operation meets `Lists` for every input, by its own contract
-- (crates/separation_list).
use Rattle.std.specs.Prelude.{◌≡◌, refl, ◌↔◌, true, ◌&&◌, ℕ, ◌+◌, ◌*◌, ◌^◌, ◌≤◌, ◌<◌, length, drop, get_or, Float}
use Rattle.std.proofs.Common.{sym, ◌∙◌, subst, arith, lit<, le-leb}
use Rattle.std.proofs.Math.Path.{ap}
use mathlib.Core.List.{List}
use Rattle.std.proofs.Math.ListN.{get_or-append}
use Rattle.std.specs.Float.Ieee.{binary64, of_bits, to_bits}
use Rattle.std.specs.Float.Ieee.Bits.{of_bits-to_bits}
use Rattle.definitions.specs.Limits.{numbers_per_span, numbers_per_boundary, numbers_per_anchor}
use Rattle.definitions.specs.Grid.{Segment, map_of, boundary_of, boundary_at, no_boundary}
use Rattle.definitions.specs.RampGeometry.{segment_distance}
use Rattle.definitions.specs.Context.{context_of}
use Rattle.definitions.specs.RampMouths.{separation_of}
use Rattle.definitions.specs.Refusals.{is_whole}
use Rattle.definitions.specs.Verdict.{Lent, Answer, map_in, verdict}
use Rattle.laws.specs.ListLaws.Tests.{both}
use Rattle.laws.specs.ListLaws.Lists.{get_d_tab}
use Rattle.laws.specs.TableLaws.AcceptedCalls.{accepted}
use Rattle.laws.specs.FloatLaws.Pixels.{PixelSegment}
use Rattle.laws.specs.RustPasses.Accepted.{accepted-on_map}
use Rattle.separations.specs.Distance.{SharePoint, ExactSquare, exact_square, Within}
use Rattle.separations.specs.Listing.{numbers_per_separation, boundary_count, ends_of_lem, separation_row, separation_rows, pair_count, list_verdict, list_at_exit, Lists}
use Rattle.separations.specs.ListingLaws.{row_at_lem, row_within, listed-pixel, listed-count}
use Rattle.separations.proofs.PlaneLaws.Sizes.{Small}
use Rattle.separations.proofs.Theorem.{SeparationHolds, separation-holds, zero_bits, separations-turned}

-- entry k of the row of boundaries i and j, i below j, in an output
abbrev pub entry : List ℕ → ℕ → ℕ → ℕ → ℕ
entry output i j k = get_or output (numbers_per_separation * (pair_count j + i) + k) 0

-- what holds of the row of boundaries i and j, whose endpoints are s and t
pub record RowHolds (s t : Segment) (i j : ℕ) (output : List ℕ) : Type 0 where
  pub smaller : entry output i j 0 ≡ i
  pub larger : entry output i j 1 ≡ j
  -- the fraction is the exact square, and both of its numbers fit 64 bits
  pub exact : ExactSquare s t (entry output i j 3) (entry output i j 4)
  pub small : Small (record { num = entry output i j 3; den = entry output i j 4 })
  -- the double with these bits is within 2 ^ -32 pixel of the exact distance
  pub within : Within (of_bits binary64 (entry output i j 2)) (entry output i j 3) (entry output i j 4)
  -- its bits are all zero, which is 0.0, exactly when the two share a point
  pub zero : (entry output i j 2 ≡ 0) ↔ SharePoint s t

-- ---- the row as it was listed

-- the five numbers that were listed, one by one
record RowIs (s t : Segment) (x : Float) (i j : ℕ) (output : List ℕ) : Type 0 where
  first : entry output i j 0 ≡ i
  second : entry output i j 1 ≡ j
  bits : entry output i j 2 ≡ to_bits binary64 x
  num : entry output i j 3 ≡ (exact_square s t).num
  den : entry output i j 4 ≡ (exact_square s t).den

row-holds : {s t : Segment} {x : Float} {i j : ℕ} {output : List ℕ} → SeparationHolds s t x → RowIs s t x i j output → RowHolds s t i j output
row-holds {s} {t} {x} {i} {j} {output} H row =
    record {
      smaller = row.first;
      larger = row.second;
      exact = exact;
      small =
          record {
            num-le = subst (λ (n : ℕ). n ≤ 2 ^ 54) (sym row.num) H.small.num-le;
            den-le = subst (λ (n : ℕ). n ≤ 2 ^ 27) (sym row.den) H.small.den-le;
          };
      within = subst (λ (y : Float). Within y (entry output i j 3) (entry output i j 4)) (sym double) (H.within exact);
      zero = (λ z. (zero_bits H).0 (sym row.bits ∙ z), λ h. row.bits ∙ (zero_bits H).1 h);
    }
  where
    exact : ExactSquare s t (entry output i j 3) (entry output i j 4)
    exact =
        subst (λ (n : ℕ). ExactSquare s t n (entry output i j 4)) (sym row.num)
        (subst (λ (d : ℕ). ExactSquare s t (exact_square s t).num d) (sym row.den) H.exact)

    double : of_bits binary64 (entry output i j 2) ≡ x
    double = ap (of_bits binary64) row.bits ∙ of_bits-to_bits binary64 x H.clear.held

module _ {w h : ℕ} {boundaries output : List ℕ} {a : Answer} {o : List ℕ} (call : Lists w h boundaries output a o) (success : a.number ≡ 0) where
  abbrev n : ℕ
  n = boundary_count boundaries

  accepts : (list_verdict w h boundaries (length output)).number ≡ 0
  accepts = ap (λ (b : Answer). b.number) (sym call.answer) ∙ success

  -- "Success returns 0 and the count of rows"
  pub listed-pairs : a.value ≡ pair_count n
  listed-pairs = ap (λ (b : Answer). b.value) call.answer ∙ listed-count w h boundaries (length output) accepts

  -- entry k of a row at exit is the definition's
  entry_is : (i j k : ℕ) → i < j → j < n → k < 5 → entry o i j k ≡ get_or (separation_row (ends_of_lem boundaries i) (ends_of_lem boundaries j) i j) k 0
  unfolding list_at_exit
  entry_is i j k less l m =
      ap (λ (o : List ℕ). entry o i j k) (call.at_exit ∙ ap (list_at_exit boundaries output) success)
      ∙ get_or-append (separation_rows boundaries n) (drop (length (separation_rows boundaries n)) output) 0 (numbers_per_separation * (pair_count j + i) + k)
      (row_within boundaries n i j k less l m)
      ∙ row_at_lem boundaries n i j k less l m

  -- the bits of the separation
  bits_are : (i j : ℕ) → i < j → j < n → entry o i j 2 ≡ to_bits binary64 (segment_distance (ends_of_lem boundaries i) (ends_of_lem boundaries j))
  bits_are i j less l = unfold separation_row in entry_is i j 2 less l (lit< tt)

  pub listed-holds : (i j : ℕ) → i < j → j < n → RowHolds (ends_of_lem boundaries i) (ends_of_lem boundaries j) i j o
  listed-holds i j less l =
      row-holds (separation-holds (pixel i (omega arith)) (pixel j l))
      (record {
        first = unfold separation_row in entry_is i j 0 less l (lit< tt);
        second = unfold separation_row in entry_is i j 1 less l (lit< tt);
        bits = bits_are i j less l;
        num = unfold separation_row in entry_is i j 3 less l (lit< tt);
        den = unfold separation_row in entry_is i j 4 less l (lit< tt);
      })
    where
      pixel : (i : ℕ) → i < n → PixelSegment (ends_of_lem boundaries i)
      pixel = listed-pixel w h boundaries (length output) accepts

-- ---- the separation of pass 1

-- boundary i of the map that was lent
ends-are : (L : Lent) (i : ℕ) → i < boundary_count L.boundaries → (boundary_of (map_in L) i).endpoints ≡ ends_of_lem L.boundaries i
unfolding boundary_of map_in map_of
ends-are L i h = ap (λ b. b.endpoints) (get_d_tab (λ i. boundary_at L.boundaries (9 * i)) no_boundary (boundary_count L.boundaries) i h)

-- a map that a pass accepts is not refused here, given room
pub pass-accepts : (L : Lent) (room : ℕ) → (verdict L).number ≡ 0 → numbers_per_separation * pair_count (boundary_count L.boundaries) ≤ room
    → (list_verdict L.width L.height L.boundaries room).number ≡ 0
unfolding list_verdict
pass-accepts L room success enough =
    let A = accepted L success in
    let spans = is_whole numbers_per_span L.spans in
    let boundaries = is_whole numbers_per_boundary L.boundaries in
    let whole : boundaries ≡ true = (both spans boundaries (both (spans && boundaries) (is_whole numbers_per_anchor L.anchors) A.whole).0).1 in
    rw (A.sides, whole, A.boundaries, le-leb (numbers_per_separation * pair_count (boundary_count L.boundaries)) room enough) refl

module _ (L : Lent) (success : (verdict L).number ≡ 0)
    {output : List ℕ} {a : Answer} {o : List ℕ} (call : Lists L.width L.height L.boundaries output a o)
    (enough : numbers_per_separation * pair_count (boundary_count L.boundaries) ≤ length output) where
  pub listed-accepted : a.number ≡ 0
  listed-accepted = ap (λ (b : Answer). b.number) call.answer ∙ pass-accepts L (length output) success enough

  -- whichever of the two pass 1 takes first
  pub listed-pass : (i j : ℕ) → i < j → j < boundary_count L.boundaries
      → (entry o i j 2 ≡ to_bits binary64 (separation_of (context_of (map_in L)) i j)) × (entry o i j 2 ≡ to_bits binary64 (separation_of (context_of (map_in L)) j i))
  listed-pass i j h l = (as_listed, as_listed ∙ ap (to_bits binary64) (separations-turned (accepted-on_map L success) i j))
    where
      as_listed : entry o i j 2 ≡ to_bits binary64 (separation_of (context_of (map_in L)) i j)
      as_listed =
          unfold separation_of context_of in
          (bits_are call listed-accepted i j h l
          ∙ (λ k. to_bits binary64 (segment_distance (sym (ends-are L i (omega arith)) k) (sym (ends-are L j l) k))))
