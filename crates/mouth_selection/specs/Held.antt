-- What taken proposals keep from others, as the code marks it: a mouth, a ramp end, and regions. Definitions only; assumes nothing.
use Rattle.std.specs.Prelude.{ℕ, ◌+◌, ◌-◌, ◌*◌, ◌/◌, ◌%◌, ◌≤◌, ◌<◌, ◌≡◌, Bool, false, not, ◌&&◌, ◌||◌, cond, List, [], ◌∷◌, map, get_or, set, eqb, ltb, leb, Option, None, Some}
use Rattle.definitions.specs.Limits.{numbers_per_boundary}
use Rattle.definitions.specs.Scan.{any, member}
use Rattle.definitions.specs.Grid.{Pair}
use Rattle.definitions.specs.Context.{Context}
use Rattle.definitions.specs.RampMouths.{MouthProposal, union_of}
use Rattle.mouth_proposals.specs.Rows.{is_outer, rows_of}
use Rattle.mouth_proposals.specs.Candidates.{is_triangular}
use Rattle.mouth_proposals.specs.declared.candidates.MouthProposal as declared
use Rattle.mouth_proposals.specs.declared.mouths.MouthKind.{MouthKind}
use Rattle.mouth_selection.specs.declared.held.Hold.{Hold}
use Rattle.mouth_selection.specs.declared.held.Hold.TheVariants.{Shared, Alone}

-- How the taken proposals hold region r: 2 where it is an inner region of one, or any region of a triangle; 1 where it lies outside others only; 0 where none
-- names it.
unfoldable pub held : List MouthProposal → ℕ → ℕ
unfolding any member
held taken r = cond (any (λ q. member r q.inner || q.is_triangle && member r (union_of q)) taken) 2 (cond (any (λ q. member r (union_of q)) taken) 1 0)

-- the ramp end of boundary a is taken
unfoldable pub is_used : Context → List MouthProposal → ℕ → Bool
unfolding any
is_used C taken a = any (λ q. eqb (C.boundary q.ramp_index).ramp_id (C.boundary a).ramp_id && eqb (C.boundary q.ramp_index).kind (C.boundary a).kind) taken

-- an outer region is shared by mouths, but not with a triangle; an inner one is not shared
unfoldable pub is_held : List MouthProposal → MouthProposal → Bool
unfolding any held
is_held taken p = any (λ r. leb 3 (held taken r + cond p.is_triangle 2 1)) p.outer || any (λ r. leb 1 (held taken r)) p.inner

unfoldable pub is_refused : Context → List MouthProposal → MouthProposal → Bool
unfolding member is_used is_held
is_refused C taken p = member p.mouth_index (map (λ q. q.mouth_index) taken) || (is_used C taken p.ramp_index || is_held taken p)

-- ---- marks

-- how the marks hold region r
abbrev pub hold_at_lem : List ℕ → ℕ → ℕ
hold_at_lem marks r = get_or marks (r - 1) 0 / 2

abbrev pub hold_number : Hold → ℕ
hold_number Shared = 1
hold_number Alone = 2

-- the hold that half of a mark says
abbrev pub HeldAs : ℕ → Option Hold → Type 0
HeldAs n None = n ≡ 0
HeldAs n (Some Shared) = n ≡ 1
HeldAs n (Some Alone) = 2 ≤ n

-- how a proposal of this kind holds the region outside
abbrev pub outer_hold : MouthKind → ℕ
outer_hold kind = cond (is_triangular kind) 2 1

unfoldable pub mark_held : ℕ → List ℕ → ℕ → List ℕ
mark_held hold marks r = set marks (r - 1) (get_or marks (r - 1) 0 % 2 + 2 * hold)

abbrev pub mark_outer : ℕ → Option ℕ → List ℕ → List ℕ
mark_outer hold None marks = marks
mark_outer hold (Some r) marks = mark_held hold marks r

unfoldable pub mark_inner : Option ℕ → List ℕ → List ℕ → List ℕ
unfolding mark_held
mark_inner outer marks [] = marks
mark_inner outer marks (r ∷ l) = mark_inner outer (cond (is_outer outer r) marks (mark_held 2 marks r)) l

-- ---- whether marks hold a region of a proposal

module _ (marks : List ℕ) where
  abbrev pub outer_held : Option ℕ → ℕ → Bool
  outer_held None hold = false
  outer_held (Some r) hold = leb 3 (hold_at_lem marks r + hold)

  abbrev pub inner_held : Option ℕ → ℕ → Bool
  inner_held outer r = not (is_outer outer r) && leb 3 (hold_at_lem marks r + 2)

  abbrev pub row_held : Option ℕ → Pair → Bool
  row_held outer p = inner_held outer p.lo || inner_held outer p.hi

module _ (pairs starts marks : List ℕ) where
  unfoldable pub held_at : ℕ → Option ℕ → MouthKind → Bool
  unfolding any
  held_at m outer kind = outer_held marks outer (outer_hold kind) || any (row_held marks outer) (rows_of pairs starts m)

  -- as the marks say, the proposal conflicts with none taken
  unfoldable pub left_at : List Bool → List Bool → declared.MouthProposal → Bool
  unfolding held_at
  left_at gone ends p = not (get_or gone p.mouth false || get_or ends p.ramp false) && not (held_at p.mouth p.outer p.kind)

pub record HeldMarks (C : Context) (taken : List MouthProposal) (marks : List ℕ) : Type 0 where
  pub at : (r : ℕ) → 1 ≤ r → r ≤ C.regions → hold_at_lem marks r ≡ held taken r

-- ---- what is taken, as the lists show it

pub record TakenState (C : Context) (taken : List MouthProposal) (removed used : List Bool) (marks : List ℕ) : Type 0 where
  pub gone : (i : ℕ) → i < C.count → get_or removed i false ≡ member i (map (λ q. q.mouth_index) taken)
  pub ends : (j : ℕ) → j < C.count → get_or used j false ≡ is_used C taken j
  pub holds : HeldMarks C taken marks

-- boundaries i and j are the same end of the same ramp
abbrev pub same_end_lem : List ℕ → ℕ → ℕ → Bool
same_end_lem boundaries i j =
    eqb (get_or boundaries (numbers_per_boundary * i + 6) 0) (get_or boundaries (numbers_per_boundary * j + 6) 0)
    && eqb (get_or boundaries (numbers_per_boundary * i + 5) 0) (get_or boundaries (numbers_per_boundary * j + 5) 0)

-- the ends of the first k boundaries that are that of a are marked besides
abbrev pub end_mark : List ℕ → ℕ → ℕ → List Bool → ℕ → Bool
end_mark boundaries a k used j = get_or used j false || ltb j k && same_end_lem boundaries a j
