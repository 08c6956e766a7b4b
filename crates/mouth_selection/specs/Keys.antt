-- The key by which proposals are ranked, read off the lists, and the better of two entries by it. Definitions only; assumes nothing.
use Rattle.std.specs.Prelude.{ℕ, zero, suc, ◌+◌, ◌*◌, ◌<◌, Bool, true, cond, List, [], ◌∷◌, ◌++◌, length, get_or, Option, None, Some}
use Rattle.definitions.specs.Limits.{numbers_per_boundary}
use Rattle.definitions.specs.Grid.{segment_at}
use Rattle.definitions.specs.Sort.{list_lt}
use Rattle.definitions.specs.Context.{endpoints_key}
use Rattle.span_geometry.specs.declared.Segment.{Segment}
use Rattle.mouth_proposals.specs.declared.candidates.Candidate.{Candidate}
use Rattle.mouth_selection.specs.declared.keys.RankKey.{RankKey}

-- separation bits, mouth and ramp
unfoldable pub key_at : List ℕ → ℕ → ℕ → ℕ → List ℕ
unfolding endpoints_key
key_at boundaries bits m a = bits ∷ endpoints_key (segment_at boundaries (numbers_per_boundary * m)) ++ endpoints_key (segment_at boundaries (numbers_per_boundary * a))

-- the numbers that a key holds, in the order in which they count
abbrev pub ends_of : Segment → List ℕ
ends_of s = s.a.x ∷ s.a.y ∷ s.b.x ∷ s.b.y ∷ []

abbrev pub numbers_of : RankKey → List ℕ
numbers_of k = k.separation ∷ ends_of k.mouth ++ ends_of k.ramp

-- the boundaries of an entry stand in the list
pub record SafeKey (boundaries : List ℕ) (e : Candidate) : Type 0 where
  pub mouth : numbers_per_boundary * e.mouth + 8 < length boundaries
  pub ramp : numbers_per_boundary * e.ramp + 8 < length boundaries

module _ (boundaries : List ℕ) where
  abbrev pub key_of : Candidate → List ℕ
  key_of e = key_at boundaries e.separation e.mouth e.ramp

  -- e ranks before the best so far
  abbrev pub is_better : Candidate → Option Candidate → Bool
  is_better e None = true
  is_better e (Some b) = list_lt (key_of e) (key_of b)

  -- of level ones the earlier
  abbrev pub better_of : Option Candidate → Option Candidate → Option Candidate
  better_of b None = b
  better_of b (Some e) = cond (is_better e b) (Some e) b

  -- the least of the first n
  unfoldable pub least_of : List (Option Candidate) → ℕ → Option Candidate
  unfolding list_lt key_at
  least_of bests zero = None
  least_of bests (suc n) = better_of (least_of bests n) (get_or bests n None)
