-- The pass, put together from what its three parts ensure: the rows that are found, a verdict for each, and the marks that the selection leaves. Assumes nothing.
use Rattle.std.specs.Prelude.{Option}
use Prim.Native.Nat.{ℕ, ◌<◌}
use mathlib.Core.Path.{◌≡◌, sym, ap, ◌∙◌}
use mathlib.Core.Bool.{Bool, false}
use mathlib.Core.List.{List}
use lib.ListN.{get_or}
use Rattle.definitions.specs.Scan.{filter, member}
use Rattle.definitions.specs.Context.{Context}
use Rattle.definitions.specs.Junctions.{proposals, removed}
use Rattle.junction_proposals.specs.declared.proposals.Candidate.{Candidate}
use Rattle.junction_proposals.specs.Lent.{Shows}
use Rattle.junction_proposals.specs.Rows.{row_at, rows_of, is_allowed}
use Rattle.junction_selection.specs.Taken.{removed_at}
use Rattle.junction_proposals.proofs.Proposing.{shows-own}
use Rattle.junction_selection.proofs.Removing.{removed_is}
use Rattle.junction_selection.proofs.ReservedPorts.{proposals_reserve}
use Rattle.region_pairs.specs.declared.Pair as declared

-- what `find_proposals` ensures of the rows, `allow_proposals` of the verdicts and `select_proposals` of the marks
pub pass-removed : (boundaries : List ℕ) (full : List (Option declared.Pair)) (counts marks : List ℕ) (rows : List Candidate) (verdicts marked : List Bool) (count regions n : ℕ) (C : Context) → Shows boundaries full counts marks count regions C → filter (is_allowed C) (rows_of rows n) ≡ proposals C → ((k : ℕ) → k < n → get_or verdicts k false ≡ is_allowed C (row_at rows k)) → ((j : ℕ) → j < count → get_or marked j false ≡ removed_at boundaries full rows verdicts count n j) → (j : ℕ) → j < count → get_or marked j false ≡ member j (removed C)
pass-removed boundaries full counts marks rows verdicts marked count regions n C S are judged selected j l =
    selected j l ∙ ap (λ c. removed_at boundaries full rows verdicts c n j) (sym S.counted)
    ∙ removed_is boundaries full counts marks C (shows-own S) (proposals_reserve boundaries full counts marks C (shows-own S)) rows verdicts n are judged j
