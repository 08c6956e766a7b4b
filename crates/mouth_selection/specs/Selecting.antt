-- What is known between two proposals that are taken: what is taken, and the bests of the ramps. Definitions only; assumes nothing.
use Rattle.mouth_proposals.specs.Listed.{proposal_in, proposal_form}
use Rattle.mouth_proposals.specs.declared.candidates.Candidate.{Candidate}
use Rattle.std.specs.Prelude.{ℕ, ◌+◌, ◌*◌, ◌<◌, ◌≡◌, Bool, true, false, not, cond, List, [], get_or, Option, None, Some}
use Rattle.definitions.specs.Limits.{max_entries}
use Rattle.definitions.specs.Scan.{collect, member, count_below}
use Rattle.definitions.specs.Sort.{sort, select}
use Rattle.definitions.specs.Context.{Context}
use Rattle.definitions.specs.RampMouths.{MouthProposal, mouth_proposal, proposals, conflict, ranks_before, removed}
use Rattle.laws.specs.ListLaws.Options.{OnO}
use Rattle.context.specs.Shown.{ShownBoundaries, ShownPairs, ShownAnchored}
use Rattle.mouth_selection.specs.Held.{is_refused, TakenState, left_at}
use Rattle.mouth_selection.specs.Entries.{Known, proposed}
use Rattle.mouth_selection.specs.Rounds.{Under, least_among}

-- the pass removes boundary i
abbrev pub is_removed : Context → ℕ → Bool
is_removed C i = member i (removed C)

-- the marked boundaries are those that the pass removes
pub record Ended (C : Context) (marked : List Bool) : Type 0 where
  pub at : (i : ℕ) → i < C.count → get_or marked i false ≡ is_removed C i

-- the proposals of ramp a
abbrev pub row_of : Context → ℕ → List MouthProposal
row_of C a = collect C.count (mouth_proposal C a)

-- every proposal of mouth m conflicts with one taken
pub record Gone (C : Context) (taken : List MouthProposal) (m : ℕ) : Type 0 where
  pub refused : (a : ℕ) → OnO (λ p. is_refused C taken p ≡ true) (mouth_proposal C a m)

-- the lists show C
pub record Lists (boundaries pairs starts : List ℕ) (count : ℕ) (C : Context) : Type 0 where
  pub counted : C.count ≡ count
  pub bounds : ShownBoundaries C boundaries
  pub rows : ShownPairs C pairs starts

-- ---- the bests of the ramps

-- a candidate of C for ramp a
pub record ForRamp (C : Context) (a : ℕ) (e : Candidate) : Type 0 where
  pub known : Known C e
  pub ramp : e.ramp ≡ a

-- `best` is the least of the proposals of ramp a that are left
pub record BestOf (C : Context) (taken : List MouthProposal) (a : ℕ) (best : Option Candidate) : Type 0 where
  pub known : OnO (ForRamp C a) best
  pub least : proposed C best ≡ least_among C taken (row_of C a)

-- of each of the first n ramps the best is known, from now or from before
pub record Bests (C : Context) (taken : List MouthProposal) (bests : List (Option Candidate)) (n : ℕ) : Type 0 where
  pub known : (a : ℕ) → a < n → OnO (ForRamp C a) (get_or bests a None)
  pub under : (a : ℕ) → a < n → Under (ranks_before C) (λ p. not (is_refused C taken p)) (proposed C (get_or bests a None)) (least_among C taken (row_of C a))

-- the least of the bests, if it is left, is the least of all that is left; nothing is left where there is none
abbrev pub LeastLeft : Context → List MouthProposal → Option Candidate → Type 0
LeastLeft C taken None = None ≡ least_among C taken (proposals C)
LeastLeft C taken (Some e) = is_refused C taken (proposal_in C e) ≡ false → Some (proposal_in C e) ≡ least_among C taken (proposals C)

pub record NextBest (C : Context) (taken : List MouthProposal) (bests : List (Option Candidate)) (count : ℕ) (best : Option Candidate) : Type 0 where
  pub listed : OnO (λ e. Known C e × ((e.ramp < count) × (get_or bests e.ramp None ≡ Some e))) best
  pub least : LeastLeft C taken best

-- what is taken, what the marks say of it, and the bests of the first n ramps
pub record Progress (C : Context) (marks : List ℕ) (gone ends : List Bool) (bests : List (Option Candidate)) (n : ℕ) : Type 0 where
  pub chosen : List MouthProposal
  pub state : TakenState C chosen gone ends marks
  pub same : select (conflict C) chosen (sort (ranks_before C) (proposals C)) ≡ select (conflict C) [] (sort (ranks_before C) (proposals C))
  pub of_ramps : Bests C chosen bests n
  pub anchored : ShownAnchored C marks

-- with the ramp whose best has to be found; the choice has ended where there is none
pub record Advanced (C : Context) (marks : List ℕ) (gone ends : List Bool) (bests : List (Option Candidate)) (count : ℕ) (next : Option ℕ) : Type 0 where
  pub progress : Progress C marks gone ends bests count
  pub ended : next ≡ None → Ended C gone

-- the bests of ramp ends that are taken are forgotten
pub record Renewed (ends : List Bool) (was now : List (Option Candidate)) (count : ℕ) : Type 0 where
  pub at : (a : ℕ) → a < count → get_or now a None ≡ cond (get_or ends a false) None (get_or was a None)

-- ---- what falls

module _ (pairs starts : List ℕ) where
  -- a best that conflicts with one taken
  abbrev pub is_stale : List ℕ → List Bool → List Bool → Option Candidate → Bool
  is_stale marks gone ends None = false
  is_stale marks gone ends (Some e) = not (left_at pairs starts marks gone ends (proposal_form e))

  -- boundaries that are not removed, and among equals bests that are stale: what falls when a proposal is taken or a best is found
  unfoldable pub weight : ℕ → List ℕ → List Bool → List Bool → List (Option Candidate) → ℕ
  unfolding count_below left_at
  weight count marks gone ends bests = (max_entries + 1) * count_below count (λ i. not (get_or gone i false)) + count_below count (λ a. is_stale marks gone ends (get_or bests a None))
