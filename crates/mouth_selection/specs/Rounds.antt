-- The first least of what conflicts with none taken, and what may be known of it from before. Definitions only; assumes nothing.
use Rattle.mouth_proposals.specs.declared.candidates.Candidate.{Candidate}
use Rattle.std.specs.Prelude.{ℕ, ◌≡◌, Bool, false, List, [], ◌∷◌, Option, None, Some}
use Rattle.std.proofs.Math.Bool.{not, ◌&&◌, cond}
use Rattle.definitions.specs.Scan.{filter, collect}
use Rattle.definitions.specs.Context.{Context}
use Rattle.definitions.specs.RampMouths.{MouthProposal, ranks_before, corners_near_lem}
use Rattle.mouth_selection.specs.Held.{is_refused}
use Rattle.mouth_proposals.specs.Listed.{entry_at}

module _ {A : Type 0} (lt : A → A → Bool) where
  -- of two elements that are level the earlier
  abbrev pub better : Option A → A → Option A
  better None x = Some x
  better (Some b) x = Some (cond (lt x b) x b)

  -- the first least, b being that of what stands before
  unfoldable pub least_from : Option A → List A → Option A
  least_from b [] = b
  least_from b (x ∷ l) = least_from (better b x) l

  abbrev pub NotBefore : A → Option A → Type 0
  NotBefore x None = Unit {0}
  NotBefore x (Some y) = lt y x ≡ false

  -- what is known of the first least: it is the same, or what is known is not left any more, and the first least is not before it
  pub data Under (p : A → Bool) : Option A → Option A → Type 0 where
    same : {o : Option A} → Under p o o
    over : {x : A} {o : Option A} → p x ≡ false → NotBefore x o → Under p (Some x) o

module _ (C : Context) (taken : List MouthProposal) where
  unfoldable pub least_among : List MouthProposal → Option MouthProposal
  unfolding least_from filter is_refused ranks_before
  least_among l = least_from (ranks_before C) None (filter (λ p. not (is_refused C taken p)) l)

  -- the better one of b and p, if p conflicts with none taken and its inner regions are near
  abbrev pub better_near : Option MouthProposal → MouthProposal → Option MouthProposal
  better_near b p = cond (corners_near_lem C p && not (is_refused C taken p)) (better (ranks_before C) b p) b

  -- the first least of those of the first k entries that conflict with none taken and whose inner regions are near
  unfoldable pub near_least : List Candidate → ℕ → Option MouthProposal
  unfolding least_among collect filter corners_near_lem
  near_least entries k = least_among (filter (corners_near_lem C) (collect k (λ i. Some (entry_at C entries i))))
