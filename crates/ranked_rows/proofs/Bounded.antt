-- The boundaries of the rows that are listed are those of the rows that the order names, so that they are among the first `count`. Assumes nothing.
use Prim.Native.Nat.{ℕ, ◌≤◌, ◌<◌}
use native.Mathlib.Omega.{arith}
use mathlib.Core.Path.{◌≡◌, sym, ap, subst}
use mathlib.Core.Bool.{Bool}
use Rattle.std.specs.Prelude.{Option}
use mathlib.Core.List.{List, [], ◌++◌, ◌∷◌, map}
use lib.ListN.{length, take, length-map, get_or-map}
use Rattle.definitions.specs.Limits.{max_entries}
use Rattle.laws.specs.ListLaws.Lists.{All, done, more}
use Rattle.laws.specs.ListLaws.Members.{all-place}
use Rattle.junction_proposals.specs.declared.proposals.Candidate.{Candidate}
use Rattle.junction_proposals.specs.Rows.{row_at}
use Rattle.junction_selection.specs.Ranks.{order_of, Rows}
use Rattle.junction_selection.proofs.Standings.{order-all}
use Rattle.ranked_list.specs.RankedList.{Listed, judged, judged_after}
use Rattle.ranked_rows.specs.declared.RankedRow.{RankedRow}
use Rattle.ranked_rows.specs.Contract.{listed_form, no_row, listed_from, BelowEntries}
use Rattle.region_pairs.specs.declared.Pair as declared

-- what holds of all that is judged holds of the items of the list that comes of it
judged-all : {A : Type 0} (P : A → Type 0) (clash : A → A → Bool) (earlier : List (Listed A)) {l : List A} → All P l → All (λ r. P r.item) (judged_after clash earlier l)
unfolding judged_after judged
judged-all P clash earlier done = done
judged-all P clash earlier (more {x = p} h rest) = more h (judged-all P clash (earlier ++ (judged clash earlier p ∷ [])) rest)

-- the rows of the first k ranks
pub listed-below : (full : List (Option declared.Pair)) (rows : List Candidate) (order : List ℕ) (listed : List RankedRow) (count k : ℕ)
    → map listed_form (take k listed) ≡ listed_from full count (order_of rows order k) → count ≤ max_entries → ((i : ℕ) → i < length rows → (row_at rows i).index < count)
    → Rows order k (length rows) → BelowEntries (take k listed)
unfolding listed_from
listed-below full rows order listed count k e small below rs r l =
    let all = judged-all (λ q. q.index < count) _ [] (order-all rows order count (length rows) k below rs) in
    let held = all-place (listed_form no_row) (subst (All (λ q. q.item.index < count)) (sym e) all) r (omega (arith, l, length-map (take k listed) listed_form)) in
    omega (arith, small, held, ap (λ q. q.item.index) (get_or-map listed_form (take k listed) r no_row))
