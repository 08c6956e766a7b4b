-- What is known of the other end of a ramp once it is looked for: an answer for each region of the ramp's full pair. Definitions only; assumes nothing.
use Rattle.std.specs.Prelude.{ℕ, ◌≡◌, ◌&&◌, not, Bool, false, true, cond, eqb, Option, None, Some}
use Rattle.definitions.specs.Grid.{contains}
use Rattle.definitions.specs.Context.{Context, full_pair, is_incident, no_ramp, holds}
use Rattle.definitions.specs.RampMouths.{other_end_incident}
use Rattle.mouth_proposals.specs.declared.approaches.Approach.{Approach}
use Rattle.mouth_proposals.specs.declared.approaches.Approach.TheVariants as approach
use Rattle.mouth_proposals.specs.declared.ends.OtherEnds.{OtherEnds}

-- boundary j is the other end of the ramp of a, and an incident of r
abbrev pub is_other_end : Context → ℕ → ℕ → ℕ → Bool
is_other_end C a r j = not (no_ramp C j) && eqb (C.boundary j).ramp_id (C.boundary a).ramp_id && not (eqb (C.boundary j).kind (C.boundary a).kind) && is_incident C j r

-- the answer for region r, one of the two
abbrev pub end_at : Option OtherEnds → ℕ → Bool
end_at None r = false
end_at (Some ends) r = cond (eqb ends.lo r) ends.at_lo ends.at_hi

-- the answers are right for both regions of the full pair of ramp a
pub record EndsOf (C : Context) (a : ℕ) (ends : Option OtherEnds) : Type 0 where
  pub at : (r : ℕ) → holds (full_pair C a) (contains r) ≡ true → end_at ends r ≡ other_end_incident C a r

-- and for the region of an approach, which is one of them
abbrev pub EndKnown : Context → ℕ → Option OtherEnds → Option Approach → Type 0
EndKnown C a ends None = Unit {0}
EndKnown C a ends (Some (approach.Single s)) = end_at ends s.approach ≡ other_end_incident C a s.approach
EndKnown C a ends (Some (approach.Star s)) = end_at ends s.approach ≡ other_end_incident C a s.approach
