-- What is known of a call that runs a pass once its answer has number 0: no check of the table of SPECIFICATION 4 finds a fault (`Accepted`). The argument: the number of a refusal is at
-- least 1, so that a list of checks answered with 0 has no refusal in it. Of the boundaries it says that each passes check 7. Assumes nothing.
use Rattle.std.specs.Prelude.{ℕ, zero, suc, ◌*◌, ◌/◌, ◌<◌, ◌≡◌, refl, Bool, true, false, not, ◌&&◌, List, [], ◌∷◌, map, length, Option, None, Some}
use Rattle.std.proofs.Common.{arith, sym, ap, subst, true≢false}
use Rattle.std.proofs.lemmas.Option.{same_Some}
use Rattle.definitions.specs.Limits.{numbers_per_span, numbers_per_boundary, numbers_per_anchor}
use Rattle.definitions.specs.Scan.{only_if, run}
use Rattle.definitions.specs.Grid.{Segment, Boundary, segment_at, boundary_at}
use Rattle.definitions.specs.Refusals.{Refusal, or_else, first_below_lem, unless, sides_fault, cells_fault, is_whole, pass_fault, both_on_map, endpoints_differ, spans_refusal, width_fits, ramp_fits, boundary_fits, boundaries_fault, anchors_fault, elevations_fault, output_room}
use Rattle.definitions.specs.Rows.{rows_of}
use Rattle.definitions.specs.Verdict.{Lent, map_in, refusal, first_refusal, records_fault, pairs_fault, partition_has_room, verdict}
use Rattle.laws.specs.ListLaws.Tests.{both}
use Rattle.laws.specs.ListLaws.Lists.{All, done, more, all-run}
use Rattle.laws.specs.ListLaws.NoFault.{found, no_fault_lem, none_faulty}

-- ---- the first of several refusals

pub or_else-assoc : {A : Type 0} (a b c : Option A) → or_else (or_else a b) c ≡ or_else a (or_else b c)
or_else-assoc None b c = refl
or_else-assoc (Some x) b c = refl

-- ---- no refusal has number 0

pub data Numbered : Option Refusal → Type 0 where
  nothing : Numbered None
  numbered : {r : Refusal} → 0 < r.number → Numbered (Some r)

pub refusal-numbered : (number : ℕ) (place : Option ℕ) → 0 < number → Numbered (refusal number place)
refusal-numbered number None h = nothing
refusal-numbered number (Some place) h = numbered h

pub or_numbered : {x y : Option Refusal} → Numbered x → Numbered y → Numbered (or_else x y)
or_numbered nothing k = k
or_numbered (numbered h) k = numbered h

only_numbered : (t : Bool) (number place : ℕ) → 0 < number → Numbered (only_if t (record { number = number; place = place }))
only_numbered true number place h = numbered h
only_numbered false number place h = nothing

first_numbered : (n : ℕ) (f : ℕ → Option Refusal) → ((i : ℕ) → Numbered (f i)) → Numbered (first_below_lem n f)
unfolding first_below_lem
first_numbered zero f h = nothing
first_numbered (suc n) f h = or_numbered (first_numbered n f h) (h n)

-- numbers 5 and 6
pub spans-numbered : (w h : ℕ) (spans : List ℕ) → Numbered (spans_refusal w h spans)
unfolding spans_refusal
spans-numbered w h spans = first_numbered (length spans / numbers_per_span) (λ i. at (segment_at spans (numbers_per_span * i)) i) (λ i. at_numbered (segment_at spans (numbers_per_span * i)) i)
  where
    at : Segment → ℕ → Option Refusal
    at s i = or_else (only_if (not (both_on_map w h s)) (record { number = 5; place = i })) (only_if (not (endpoints_differ s)) (record { number = 6; place = i }))

    at_numbered : (s : Segment) (i : ℕ) → Numbered (at s i)
    at_numbered s i = or_numbered (only_numbered (not (both_on_map w h s)) 5 i (omega arith)) (only_numbered (not (endpoints_differ s)) 6 i (omega arith))

pub number-above : {o : Option Refusal} {r : Refusal} → Numbered o → o ≡ Some r → 0 < r.number
number-above nothing e = absurd (true≢false (ap found (sym e)))
number-above (numbered h) e = subst (λ r. 0 < r.number) (same_Some _ _ e) h

pub refusal_none : (number : ℕ) (place : Option ℕ) → refusal number place ≡ None → place ≡ None
refusal_none number None h = refl
refusal_none number (Some place) h = absurd (true≢false (ap found h))

pub none_refused : {l : List (Option Refusal)} (count : ℕ) → All Numbered l → (first_refusal l count).number ≡ 0 → All (λ r. r ≡ None) l
none_refused count done h = done
none_refused count (more nothing a) h = more refl (none_refused count a h)
none_refused count (more (numbered k) a) h = absurd (omega (arith, k, h))

pub counted : {l : List (Option Refusal)} (count : ℕ) → All Numbered l → (first_refusal l count).number ≡ 0 → (first_refusal l count).value ≡ count
counted count done h = refl
counted count (more nothing a) h = counted count a h
counted count (more (numbered k) a) h = absurd (omega (arith, k, h))

-- ---- what no check found

pub record Accepted (L : Lent) : Type 0 where
  pub sides : sides_fault L.width L.height ≡ None
  pub cells : cells_fault L.width L.height L.cells ≡ None
  pub whole : (is_whole numbers_per_span L.spans && is_whole numbers_per_boundary L.boundaries && is_whole numbers_per_anchor L.anchors) ≡ true
  pub pass : pass_fault L.pass ≡ None
  pub spans : spans_refusal L.width L.height L.spans ≡ None
  pub boundaries : boundaries_fault L.width L.height L.boundaries ≡ None
  pub anchors : anchors_fault L.width L.height L.anchors ≡ None
  pub elevations : elevations_fault L.cells ≡ None
  pub room : (partition_has_room L && output_room (length L.boundaries / numbers_per_boundary) (length L.output)) ≡ true
  pub records : records_fault L (map_in L) ≡ None
  pub pairs : pairs_fault L (map_in L) ≡ None

-- the checks of `verdict`, in its order
abbrev checks : Lent → List (Option Refusal)
checks L =
    refusal 1 (sides_fault L.width L.height)
    ∷ refusal 2 (cells_fault L.width L.height L.cells)
    ∷ refusal 3 (unless (is_whole numbers_per_span L.spans && is_whole numbers_per_boundary L.boundaries && is_whole numbers_per_anchor L.anchors))
    ∷ refusal 4 (pass_fault L.pass)
    ∷ spans_refusal L.width L.height L.spans
    ∷ refusal 7 (boundaries_fault L.width L.height L.boundaries)
    ∷ refusal 8 (anchors_fault L.width L.height L.anchors)
    ∷ refusal 9 (elevations_fault L.cells)
    ∷ refusal 10 (unless (partition_has_room L && output_room (length L.boundaries / numbers_per_boundary) (length L.output)))
    ∷ refusal 11 (records_fault L (map_in L))
    ∷ refusal 12 (pairs_fault L (map_in L))
    ∷ []

checks-numbered : (L : Lent) → All Numbered (checks L)
checks-numbered L =
    more (refusal-numbered 1 (sides_fault L.width L.height) (omega arith))
    (more (refusal-numbered 2 (cells_fault L.width L.height L.cells) (omega arith))
    (more (refusal-numbered 3 (unless (is_whole numbers_per_span L.spans && is_whole numbers_per_boundary L.boundaries && is_whole numbers_per_anchor L.anchors)) (omega arith))
    (more (refusal-numbered 4 (pass_fault L.pass) (omega arith))
    (more (spans-numbered L.width L.height L.spans)
    (more (refusal-numbered 7 (boundaries_fault L.width L.height L.boundaries) (omega arith))
    (more (refusal-numbered 8 (anchors_fault L.width L.height L.anchors) (omega arith))
    (more (refusal-numbered 9 (elevations_fault L.cells) (omega arith))
    (more (refusal-numbered 10 (unless (partition_has_room L && output_room (length L.boundaries / numbers_per_boundary) (length L.output))) (omega arith))
    (more (refusal-numbered 11 (records_fault L (map_in L)) (omega arith))
    (more (refusal-numbered 12 (pairs_fault L (map_in L)) (omega arith)) done))))))))))

checks-passed : (L : Lent) → All (λ r. r ≡ None) (checks L) → Accepted L
checks-passed L (more one (more two (more three (more four (more five (more seven (more eight (more nine (more ten (more eleven (more twelve done))))))))))) =
    record {
      sides = refusal_none 1 _ one;
      cells = refusal_none 2 _ two;
      whole = no_fault_lem _ 0 (refusal_none 3 _ three);
      pass = refusal_none 4 _ four;
      spans = five;
      boundaries = refusal_none 7 _ seven;
      anchors = refusal_none 8 _ eight;
      elevations = refusal_none 9 _ nine;
      room = no_fault_lem _ 0 (refusal_none 10 _ ten);
      records = refusal_none 11 _ eleven;
      pairs = refusal_none 12 _ twelve;
    }

pub accepted : (L : Lent) → (verdict L).number ≡ 0 → Accepted L
accepted L h = checks-passed L (none_refused (length (rows_of L.pass (map_in L))) (checks-numbered L) (unfold verdict in h))

-- "Success returns 0 and the count of rows kept"
pub accepted-count : (L : Lent) → (verdict L).number ≡ 0 → (verdict L).value ≡ length (rows_of L.pass (map_in L))
unfolding verdict
accepted-count L h = counted (length (rows_of L.pass (map_in L))) (checks-numbered L) h

-- ---- boundaries

-- check 7, boundary by boundary
pub boundaries-fit : (w h : ℕ) (boundaries : List ℕ) → boundaries_fault w h boundaries ≡ None
    → All (λ b. boundary_fits w h b ≡ true) (map (λ i. boundary_at boundaries (numbers_per_boundary * i)) (run 0 (length boundaries / numbers_per_boundary)))
boundaries-fit w h boundaries e = all-run (λ i. boundary_at boundaries (9 * i)) 0 (length boundaries / 9) (λ i l. none_faulty (λ k. boundary_fits w h (boundary_at boundaries (9 * k))) (length boundaries / 9) (unfold boundaries_fault in e) i (omega (arith, l)))

-- the three parts of check 7
pub fits-parts : (w h : ℕ) (b : Boundary) → boundary_fits w h b ≡ true → (both_on_map w h b.endpoints ≡ true) × (width_fits b.width_bits ≡ true) × (ramp_fits b ≡ true)
unfolding boundary_fits
fits-parts w h b k =
    let outer = both (both_on_map w h b.endpoints && width_fits b.width_bits) (ramp_fits b) k in
    let inner = both (both_on_map w h b.endpoints) (width_fits b.width_bits) outer.0 in
    (inner.0, inner.1, outer.1)
