-- Rows of proposals, put one behind the other. Assumes nothing.
use Prim.Native.Nat.{ℕ, ◌+◌, ◌≤◌, ◌<◌}
use native.Mathlib.Omega.{arith}
use mathlib.Core.Path.{◌≡◌, refl, ap, ap₂, ◌∙◌}
use Rattle.std.specs.Prelude.{Option, None, Some}
use mathlib.Core.List.{List, [], ◌∷◌, ◌++◌}
use lib.ListN.{length, set}
use lib.Seq.{get_or-set_same, get_or-set_other}
use Rattle.definitions.specs.Scan.{collect, to_list}
use Rattle.definitions.specs.Junctions.{Proposal}
use Rattle.laws.specs.ListLaws.Scans.{collect_ext}
use Rattle.laws.specs.ListLaws.ScanSteps.{collect_next}
use Rattle.junction_proposals.specs.Rows.{form, nothing, row_at, rows_of}
use Rattle.junction_proposals.specs.declared.proposals.Candidate.{Candidate}

pub rows_none : (l : List Candidate) → rows_of l 0 ≡ []
unfolding rows_of collect
rows_none l = refl

-- the row n of l written anew
pub rows-put : (l : List Candidate) (n : ℕ) (c : Candidate) → n < length l → rows_of (set l n c) (n + 1) ≡ rows_of l n ++ (form c ∷ [])
unfolding rows_of
rows-put l n c room =
    collect_next (λ k. Some (row_at (set l n c) k)) n
    ∙ ap₂ (λ (x : List Proposal) (y : Proposal). x ++ (y ∷ []))
    (collect_ext n (λ k. Some (row_at (set l n c) k)) (λ k. Some (row_at l k)) (λ k h. ap (λ r. Some (form r)) (get_or-set_other l n k c nothing (λ e. omega arith))))
    (ap form (get_or-set_same l n c nothing room))

-- one at most is put in
pub at_most_one : (o : Option Proposal) → length (to_list o) ≤ 1
at_most_one None = omega arith
at_most_one (Some p) = omega arith
