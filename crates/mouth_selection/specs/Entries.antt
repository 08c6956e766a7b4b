-- Candidates as the selection reads them: what is asked of one, and what is known of it. Definitions only; assumes nothing.
use Rattle.std.specs.Prelude.{ℕ, ◌+◌, ◌≤◌, ◌<◌, ◌≡◌, List, length, get_or, option_map, Option}
use Rattle.std.specs.Float.{binary64}
use Rattle.std.specs.Float.Ieee.{to_bits}
use Rattle.definitions.specs.Context.{Context}
use Rattle.definitions.specs.RampMouths.{MouthProposal, separation_of}
use Rattle.context.specs.Rows.{Stretch, NamedRow}
use Rattle.mouth_proposals.specs.Candidates.{Numbered}
use Rattle.mouth_proposals.specs.Listed.{proposal_in}
use Rattle.mouth_proposals.specs.declared.candidates.Candidate.{Candidate}

-- what the code needs of a mouth and a region outside
pub record SafeMouth (pairs starts marks : List ℕ) (m : ℕ) (outer : Option ℕ) : Type 0 where
  pub stretch : Stretch pairs starts m
  pub rows : (k : ℕ) → get_or starts m 0 ≤ k → k < get_or starts (m + 1) 0 → NamedRow pairs (length marks) k
  pub marked : Numbered (length marks) outer

-- a candidate of C, with the bits of its separation
pub record Known (C : Context) (e : Candidate) : Type 0 where
  pub mouth : e.mouth < C.count
  pub ramp : e.ramp < C.count
  pub outer : Numbered C.regions e.outer
  pub bits : e.separation ≡ to_bits binary64 (separation_of C e.mouth e.ramp)

-- what is proposed, if anything is
abbrev pub proposed : Context → Option Candidate → Option MouthProposal
proposed C o = option_map (proposal_in C) o
