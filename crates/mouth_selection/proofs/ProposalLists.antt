-- The proposals of a ramp, from its candidates and which of them are near; and what marks hold at the start. Assumes nothing.
use Prim.Native.Nat.{ℕ, zero, suc, ◌-◌, ◌/◌, ◌≤◌, ◌<◌}
use native.Mathlib.Omega.{arith}
use mathlib.Core.Path.{◌≡◌, refl, sym, ap, ap₂, ◌∙◌}
use mathlib.Core.Bool.{Bool, true, false, not, ◌&&◌, ◌||◌, cond}
use Rattle.std.specs.Prelude.{Option, None, Some}
use mathlib.Core.List.{List, [], ◌∷◌, ◌++◌, map}
use lib.ListN.{get_or}
use lib.Ieee.{lt}
use Rattle.definitions.specs.Scan.{any, filter, collect, to_list, only_if, member}
use Rattle.definitions.specs.MouthShapes.{mouth_shape}
use Rattle.definitions.specs.Context.{Context, full_cut, full_pair, no_ramp}
use Rattle.definitions.specs.RampMouths.{MouthProposal, max_mouth_distance, retain, broad_mouth, nearby_representative, overlay_representative, shaped_mouth, triangle, triangle_or, corners_near_lem, is_local, mouth_proposal}
use Rattle.laws.specs.ListLaws.Lists.{filter-append}
use Rattle.mouth_proposals.specs.Candidates.{found_mouth, mouth_candidate}
use Rattle.mouth_selection.specs.Held.{held, is_used, HeldMarks, TakenState}

module _ (C : Context) where
  abbrev close : MouthProposal → Bool
  close p = not (lt max_mouth_distance p.separation)

  again : (o : Option MouthProposal) → retain (λ p. close p && corners_near_lem C p) o ≡ retain (corners_near_lem C) (retain close o)
  again None = refl
  again (Some p) = both (close p)
    where
      both : (x : Bool) → only_if (x && corners_near_lem C p) p ≡ retain (corners_near_lem C) (only_if x p)
      both true = refl
      both false = refl

  pub proposal_is : (a m : ℕ) → mouth_proposal C a m ≡ retain (corners_near_lem C) (mouth_candidate C a m)
  unfolding mouth_proposal mouth_candidate found_mouth is_local
  proposal_is a m = go (not (no_ramp C a) && full_cut C a && no_ramp C m && (broad_mouth C m a || nearby_representative C m a || overlay_representative C m a)) (triangle_or C (triangle C m a) m a (shaped_mouth C m a (full_pair C a) (mouth_shape (full_cut C m) (C.pairs m))))
    where
      go : (b : Bool) (o : Option MouthProposal) → cond b (retain (λ p. close p && corners_near_lem C p) o) None ≡ retain (corners_near_lem C) (retain close (cond b o None))
      go true o = again o
      go false o = refl

  -- what a filter leaves of what is collected
  kept : (o : Option MouthProposal) → to_list (retain (corners_near_lem C) o) ≡ filter (corners_near_lem C) (to_list o)
  unfolding filter
  kept None = refl
  kept (Some p) = go (corners_near_lem C p)
    where
      go : (b : Bool) → to_list (only_if b p) ≡ cond b (p ∷ []) []
      go true = refl
      go false = refl

  pub row_is : (a n : ℕ) → collect n (mouth_proposal C a) ≡ filter (corners_near_lem C) (collect n (mouth_candidate C a))
  unfolding collect filter
  row_is a zero = refl
  row_is a (suc n) =
      ap₂ ◌++◌ (row_is a n) (ap to_list (proposal_is a n) ∙ kept (mouth_candidate C a n)) ∙ sym (filter-append (corners_near_lem C) (collect n (mouth_candidate C a)) (to_list (mouth_candidate C a n)))

-- ---- what is asked at the start

-- nothing is held where marks say no more than that a region is anchored
pub fresh-marks : (C : Context) (marks : List ℕ) → ((r : ℕ) → 1 ≤ r → r ≤ C.regions → get_or marks (r - 1) 0 < 2) → HeldMarks C [] marks
fresh-marks C marks h = record { at = λ r a b. half (get_or marks (r - 1) 0) (h r a b) ∙ sym (nothing r) }
  where
    half : (n : ℕ) → n < 2 → n / 2 ≡ 0
    half n l = omega arith

    nothing : (r : ℕ) → held [] r ≡ 0
    nothing r = unfold held in (unfold any in refl)

-- nothing is taken
pub round_first : {C : Context} {removed used : List Bool} {marks : List ℕ} → ((i : ℕ) → get_or removed i false ≡ false) → ((i : ℕ) → get_or used i false ≡ false) → HeldMarks C [] marks
    → TakenState C [] removed used marks
round_first {C} h k m = record { gone = λ i l. h i ∙ no_member i; ends = λ j l. k j ∙ no_use j; holds = m }
  where
    no_member : (i : ℕ) → false ≡ member i (map (λ (q : MouthProposal). q.mouth_index) [])
    no_member i = unfold member in (unfold any in refl)

    no_use : (j : ℕ) → false ≡ is_used C [] j
    no_use j = unfold is_used in (unfold any in refl)
