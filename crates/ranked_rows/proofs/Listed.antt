-- The list of the rows that are allowed is the ranked junction list of the context that the lists show: the rows in rank order are the ranked proposals, and rows conflict as
-- proposals do. Assumes that the lists show a context of a map.
use Rattle.std.specs.Prelude.{Option}
use Prim.Native.Nat.{ℕ, suc, ◌<◌}
use mathlib.Core.Path.{◌≡◌, refl, sym, ap, ap₂, ◌∙◌}
use mathlib.Core.Bool.{Bool, false, not, ◌&&◌, ◌||◌, cond}
use mathlib.Core.List.{List, [], ◌∷◌, ◌++◌}
use lib.ListN.{get_or}
use Rattle.definitions.specs.Scan.{any, filter}
use Rattle.definitions.specs.Context.{Context}
use Rattle.definitions.specs.Junctions.{conflict, proposals}
use Rattle.laws.specs.ListLaws.Lists.{All, done, more, all_append}
use Rattle.junction_proposals.specs.declared.proposals.Candidate.{Candidate}
use Rattle.junction_proposals.specs.Lent.{Shows}
use Rattle.junction_proposals.specs.Rows.{row_at, rows_of, is_allowed}
use Rattle.junction_selection.specs.Ranks.{conflict_at}
use Rattle.junction_proposals.proofs.Proposing.{shows-own}
use Rattle.junction_selection.proofs.Removing.{conflict_is, ranked_is, all-ranked, Reserving}
use Rattle.junction_selection.proofs.ReservedPorts.{proposals_reserve}
use Rattle.ranked_list.specs.RankedList.{Listed, first_place, blocks, judged, judged_after, ranked_rows}
use Rattle.ranked_rows.specs.Contract.{listed_from, allowed_list}
use Rattle.region_pairs.specs.declared.Pair as declared

-- ---- conflicts that agree

module _ {A : Type 0} (P : A → Type 0) (c d : A → A → Bool) (same : (x y : A) → P x → P y → c x y ≡ d x y) where
  abbrev Fits : Listed A → Type 0
  Fits r = P r.item

  any_same : (p : A) → P p → {l : List (Listed A)} → All Fits l → any (blocks c p) l ≡ any (blocks d p) l
  unfolding any
  any_same p h done = refl
  any_same p h (more {x = r} a hs) = ap₂ (λ x y. r.taken && x || y) (same r.item p a h) (any_same p h hs)

  place_same : (p : A) → P p → {l : List (Listed A)} → All Fits l → first_place (blocks c p) l ≡ first_place (blocks d p) l
  unfolding first_place
  place_same p h done = refl
  place_same p h (more {x = r} {l = l} a hs) = λ i. cond (r.taken && same r.item p a h i) 0 (cond (any_same p h hs i) (suc (place_same p h hs i)) 0)

  judged_same : {earlier : List (Listed A)} → All Fits earlier → (p : A) → P p → judged c earlier p ≡ judged d earlier p
  unfolding judged
  judged_same hs p h = λ i. record { item = p; taken = not (any_same p h hs i); by = place_same p h hs i }

  list_same : {earlier : List (Listed A)} → All Fits earlier → {l : List A} → All P l → judged_after c earlier l ≡ judged_after d earlier l
  unfolding judged_after judged
  list_same {earlier = earlier} hs done = refl
  list_same {earlier = earlier} hs (more {x = p} {l = l} h rest) =
      ap₂ {A = Listed A} {C = List (Listed A)} ◌∷◌ (judged_same hs p h)
      (list_same {earlier = earlier ++ (judged c earlier p ∷ [])} (all_append hs (more h done)) rest ∙ ap (λ r. judged_after d (earlier ++ (r ∷ [])) l) (judged_same hs p h))

-- ---- of a context

pub listed_is : (boundaries : List ℕ) (full : List (Option declared.Pair)) (counts marks : List ℕ) (rows : List Candidate) (verdicts : List Bool) (count regions n : ℕ) (C : Context) → Shows boundaries full counts marks count regions C
    → filter (is_allowed C) (rows_of rows n) ≡ proposals C → ((k : ℕ) → k < n → get_or verdicts k false ≡ is_allowed C (row_at rows k))
    → allowed_list full count boundaries rows verdicts n ≡ ranked_rows C
unfolding allowed_list listed_from ranked_rows
listed_is boundaries full counts marks rows verdicts count regions n C S are judged =
    let own = shows-own S in
    let formed = proposals_reserve boundaries full counts marks C own in
    ap (λ m. allowed_list full m boundaries rows verdicts n) (sym S.counted)
    ∙ ap (judged_after (conflict_at full C.count) []) (ranked_is boundaries full counts marks C own formed rows verdicts n are judged)
    ∙ sym (list_same (Reserving boundaries full counts marks C own) (conflict C) (conflict_at full C.count) (conflict_is boundaries full counts marks C own) done
    (all-ranked boundaries full counts marks C own formed rows verdicts n are judged))
