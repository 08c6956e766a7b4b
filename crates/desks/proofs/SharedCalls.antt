-- The shared refusal is that of the call with no boundaries, no anchors and no output, and so are the shared lists at exit; the number of a refusal is never 0. Assumes
-- nothing.
use Rattle.std.specs.Prelude.{ℕ, suc, ◌/◌, ◌≡◌, refl, ◌&&◌, List, [], ◌∷◌, length, Option, None, Some}
use Rattle.std.proofs.Common.{arith, ◌∙◌, true≢false}
use Rattle.std.proofs.Math.Path.{sym, ap}
use Rattle.std.proofs.Math.Bool.{true, and-true}
use Rattle.definitions.specs.Limits.{numbers_per_span, numbers_per_boundary, numbers_per_anchor}
use Rattle.definitions.specs.Rows.{rows_of}
use Rattle.definitions.specs.Refusals.{Refusal, or_else, unless, first_below_lem, sides_fault, cells_fault, is_whole, pass_fault, spans_refusal, boundaries_fault, anchors_fault, elevations_fault, output_room}
use Rattle.definitions.specs.Verdict.{Answer, map_in, refusal, first_refusal, records_fault, pairs_fault, partition_has_room, verdict}
use Rattle.definitions.specs.AtExit.{call_exit}
use Rattle.laws.specs.ListLaws.NoFault.{found}
use Rattle.laws.specs.TableLaws.AcceptedCalls.{Accepted, accepted}
use Rattle.laws.specs.TableLaws.KeptRows.{rows_few, boundary_count_lem}
use Rattle.desks.specs.Desks.{Shared, Desk, terrain, shared_refusal, desk_fault, own_refusal, desk_refusal, answer_from, desk_answer, shared_exit}

-- ---- a list of checks as one refusal

abbrev joined : List (Option Refusal) → Option Refusal
joined [] = None
joined (x ∷ []) = x
joined (x ∷ y ∷ l) = or_else x (joined (y ∷ l))

first_joined : (l : List (Option Refusal)) (n : ℕ) → first_refusal l n ≡ answer_from (joined l) n
first_joined [] n = refl
first_joined (None ∷ []) n = refl
first_joined (Some r ∷ []) n = refl
first_joined (None ∷ y ∷ l) n = first_joined (y ∷ l) n
first_joined (Some r ∷ y ∷ l) n = refl

module _ (S : Shared) where
  abbrev kept : ℕ
  kept = length (rows_of 1 (map_in (terrain S)))

  none_kept : kept ≡ 0
  none_kept = omega (arith, rows_few 1 (map_in (terrain S)), boundary_count_lem (terrain S))

  spans-whole : (is_whole numbers_per_span S.spans && is_whole numbers_per_boundary [] && is_whole numbers_per_anchor []) ≡ is_whole numbers_per_span S.spans
  spans-whole = and-true (is_whole numbers_per_span S.spans && true) ∙ and-true (is_whole numbers_per_span S.spans)

  room-shared : (partition_has_room (terrain S) && output_room 0 0) ≡ partition_has_room (terrain S)
  room-shared = and-true (partition_has_room (terrain S))

  -- the call with no boundaries and no anchors is answered the shared refusal, or 0 rows
  pub shared_as_call : verdict (terrain S) ≡ answer_from (shared_refusal S) 0
  unfolding verdict shared_refusal boundaries_fault anchors_fault first_below_lem
  shared_as_call =
      (λ i.
      first_refusal
      (refusal 1 (sides_fault S.width S.height)
      ∷ refusal 2 (cells_fault S.width S.height S.cells)
      ∷ refusal 3 (unless (spans-whole i))
      ∷ None
      ∷ spans_refusal S.width S.height S.spans
      ∷ None
      ∷ None
      ∷ refusal 9 (elevations_fault S.cells)
      ∷ refusal 10 (unless (room-shared i))
      ∷ refusal 11 (records_fault (terrain S) (map_in (terrain S)))
      ∷ refusal 12 (pairs_fault (terrain S) (map_in (terrain S)))
      ∷ [])
      (none_kept i))
      ∙ first_joined
      (refusal 1 (sides_fault S.width S.height)
      ∷ refusal 2 (cells_fault S.width S.height S.cells)
      ∷ refusal 3 (unless (is_whole numbers_per_span S.spans))
      ∷ None
      ∷ spans_refusal S.width S.height S.spans
      ∷ None
      ∷ None
      ∷ refusal 9 (elevations_fault S.cells)
      ∷ refusal 10 (unless (partition_has_room (terrain S)))
      ∷ refusal 11 (records_fault (terrain S) (map_in (terrain S)))
      ∷ refusal 12 (pairs_fault (terrain S) (map_in (terrain S)))
      ∷ [])
      0

  -- "as on success"
  pub shared-success : shared_refusal S ≡ None → shared_exit S ≡ call_exit (terrain S) 0
  unfolding shared_exit
  shared-success h = ap (λ o. call_exit (terrain S) (answer_from o 0).number) h

  -- ---- no refusal has number 0

  none_shared : Accepted (terrain S) → shared_refusal S ≡ None
  unfolding shared_refusal
  none_shared c =
      let whole : is_whole numbers_per_span S.spans ≡ true = sym spans-whole ∙ c.whole in
      let room : partition_has_room (terrain S) ≡ true = sym room-shared ∙ c.room in
      λ i.
      or_else (refusal 1 (c.sides i))
      (or_else (refusal 2 (c.cells i))
      (or_else (refusal 3 (unless (whole i)))
      (or_else (c.spans i)
      (or_else (refusal 9 (c.elevations i)) (or_else (refusal 10 (unless (room i))) (or_else (refusal 11 (c.records i)) (refusal 12 (c.pairs i))))))))

  pub shared-numbered : (answer_from (shared_refusal S) 0).number ≡ 0 → shared_refusal S ≡ None
  shared-numbered h = none_shared (accepted (terrain S) (ap (λ (a : Answer). a.number) shared_as_call ∙ h))

own_or : (k : ℕ) (p : Option ℕ) (y : Option Refusal) (n : ℕ) → ((answer_from y n).number ≡ 0 → y ≡ None) → (answer_from (or_else (refusal (suc k) p) y) n).number ≡ 0 → or_else (refusal (suc k) p) y ≡ None
own_or k None y n f h = f h
own_or k (Some x) y n f h = absurd (omega (arith, h))

own_last : (k : ℕ) (p : Option ℕ) (n : ℕ) → (answer_from (refusal (suc k) p) n).number ≡ 0 → refusal (suc k) p ≡ None
own_last k None n h = refl
own_last k (Some x) n h = absurd (omega (arith, h))

pub own-numbered : (w h : ℕ) (spans : List ℕ) (pass : ℕ) (boundaries anchors : List ℕ) (output n : ℕ)
    → (answer_from (own_refusal w h spans pass boundaries anchors output) n).number ≡ 0 → own_refusal w h spans pass boundaries anchors output ≡ None
unfolding own_refusal
own-numbered w h spans pass boundaries anchors output n =
    own_or 2 (unless (is_whole numbers_per_boundary boundaries && is_whole numbers_per_anchor anchors)) _ n
    (own_or 3 (pass_fault pass) _ n
    (own_or 6 (boundaries_fault w h boundaries) _ n
    (own_or 19 (desk_fault spans boundaries) _ n
    (own_or 7 (anchors_fault w h anchors) _ n (own_last 9 (unless (output_room (length boundaries / numbers_per_boundary) output)) n)))))

-- an answer that is not 0 is its refusal
pub refused_is : (x : Option Refusal) (number place : ℕ) → ◌≡◌ {A = Answer} (record { number = number; value = place }) (answer_from x 0) → (number ≡ 0 → ⊥) → x ≡ Some (record { number = number; place = place })
refused_is None number place e positive = absurd (positive (ap (λ (a : Answer). a.number) e))
refused_is (Some r) number place e positive = λ i. Some (record { number = sym (ap (λ (a : Answer). a.number) e) i; place = sym (ap (λ (a : Answer). a.value) e) i })

neither : (x y : Option Refusal) (n : ℕ) → ((answer_from x 0).number ≡ 0 → x ≡ None) → ((answer_from y n).number ≡ 0 → y ≡ None) → (answer_from (or_else x y) n).number ≡ 0 → (x ≡ None) × (y ≡ None)
neither None y n f g h = (refl, g h)
neither (Some r) y n f g h = absurd (true≢false (ap found (f h)))

-- a desk that is answered 0 meets no refusal
pub answered-passes : (S : Shared) (D : Desk) → (desk_answer S D).number ≡ 0 → (shared_refusal S ≡ None) × (desk_refusal S D ≡ None)
unfolding desk_answer
answered-passes S D h =
    neither (shared_refusal S) (desk_refusal S D) _ (shared-numbered S)
    (own-numbered S.width S.height S.spans D.pass D.boundaries D.anchors (length D.output) _) h
