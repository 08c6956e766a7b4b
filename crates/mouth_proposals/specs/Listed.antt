-- Candidates as a list of structs: a mouth, a ramp, a region outside, if there is one, a kind and the bits of a separation. Definitions only; assumes nothing.
use Rattle.std.specs.Prelude.{ℕ, ◌≤◌, ◌<◌, ◌≡◌, List, length, get_or, Option, None, Some}
use Rattle.std.specs.Float.{binary64}
use Rattle.std.specs.Float.Ieee.{to_bits}
use Rattle.definitions.specs.Limits.{max_entries}
use Rattle.definitions.specs.Scan.{collect}
use Rattle.definitions.specs.Context.{Context}
use Rattle.definitions.specs.RampMouths.{MouthProposal, separation_of}
use Rattle.mouth_proposals.specs.Candidates.{Numbered, plain, proposal_of}
use Rattle.mouth_proposals.specs.declared.mouths.MouthKind.{MouthKind}
use Rattle.mouth_proposals.specs.declared.candidates.Candidate.{Candidate}
use Rattle.mouth_proposals.specs.declared.candidates.MouthProposal as declared

-- of one ramp: one for each boundary at most
abbrev pub max_candidates : ℕ
max_candidates = max_entries

abbrev pub candidate : ℕ → ℕ → Option ℕ → MouthKind → ℕ → Candidate
candidate m a outer kind bits = record { mouth = m; ramp = a; outer = outer; kind = kind; separation = bits }

-- what stands where none is written
abbrev pub blank : Candidate
blank = candidate 0 0 None plain 0

-- a candidate but for its separation
abbrev pub proposal_form : Candidate → declared.MouthProposal
proposal_form e = record { mouth = e.mouth; ramp = e.ramp; outer = e.outer; kind = e.kind }

module _ (C : Context) where
  abbrev pub proposal_as : declared.MouthProposal → MouthProposal
  proposal_as p = proposal_of C p.mouth p.ramp p.outer p.kind

  abbrev pub proposal_in : Candidate → MouthProposal
  proposal_in e = proposal_of C e.mouth e.ramp e.outer e.kind

  abbrev pub entry_at : List Candidate → ℕ → MouthProposal
  entry_at entries k = proposal_in (get_or entries k blank)

pub record Listed (C : Context) (entries : List Candidate) (n : ℕ) : Type 0 where
  pub few : n ≤ max_candidates
  pub mouth : (k : ℕ) → k < n → (get_or entries k blank).mouth < C.count
  pub ramp : (k : ℕ) → k < n → (get_or entries k blank).ramp < C.count
  pub outer : (k : ℕ) → k < n → Numbered C.regions (get_or entries k blank).outer
  pub bits : (k : ℕ) → k < n → (get_or entries k blank).separation ≡ to_bits binary64 (separation_of C (get_or entries k blank).mouth (get_or entries k blank).ramp)

-- the first n entries are l
pub record Filled (C : Context) (entries : List Candidate) (n : ℕ) (l : List MouthProposal) : Type 0 where
  pub listed : Listed C entries n
  pub proposed : collect n (λ k. Some (entry_at C entries k)) ≡ l

-- a list with room for every candidate
pub record Roomy (entries : List Candidate) : Type 0 where
  pub long : length entries ≡ max_candidates
