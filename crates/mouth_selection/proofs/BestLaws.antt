-- What the bests of the ramps say of all proposals: the least of them, if it is left, is the least of all that is left; and what is known of a ramp stays known when one
-- more is taken. Assumes nothing.
use Rattle.mouth_proposals.specs.declared.candidates.Candidate.{Candidate}
use Prim.Native.Nat.{ℕ}
use mathlib.Core.Path.{◌≡◌, sym, ap, ◌∙◌, subst}
use mathlib.Core.Bool.{Bool, true, false, not, ◌||◌, false≢true}
use Rattle.std.specs.Prelude.{Option, None, Some}
use mathlib.Core.List.{List, [], ◌∷◌, ◌++◌}
use lib.ListN.{get_or}
use Rattle.definitions.specs.Scan.{any}
use Rattle.definitions.specs.Context.{Context}
use Rattle.definitions.specs.RampMouths.{MouthProposal, conflict, key, ranks_before, proposals}
use Rattle.laws.specs.ListLaws.Lists.{any_append}
use Rattle.laws.specs.OrderLaws.ListOrder.{by_key}
use Rattle.laws.specs.OrderLaws.StableSort.{Weak}
use Rattle.mouth_selection.specs.Held.{is_refused}
use Rattle.mouth_selection.specs.Entries.{proposed}
use Rattle.mouth_selection.specs.Rounds.{Under, least_among}
use Rattle.mouth_selection.specs.Selecting.{row_of, LeastLeft, Bests}
use Rattle.mouth_selection.proofs.Conflicts.{refused_is}
use Rattle.mouth_selection.proofs.LeastOfRows.{least_rows, least_rows_lem, under-rows, under_left, under_none, under-fewer}

module _ (C : Context) where
  pub weak : Weak (ranks_before C)
  unfolding ranks_before
  weak = by_key (key C)

  abbrev is_free : List MouthProposal → MouthProposal → Bool
  is_free T p = not (is_refused C T p)

  -- all proposals, row by row
  rows_least : (T : List MouthProposal) → least_among C T (proposals C) ≡ least_rows (ranks_before C) weak C.count (λ a. least_among C T (row_of C a))
  unfolding least_among proposals
  rows_least T = least_rows_lem (ranks_before C) weak (is_free T) (row_of C) C.count

  -- the least of the bests
  abbrev pub least_known : List (Option Candidate) → Option MouthProposal
  least_known bests = least_rows (ranks_before C) weak C.count (λ a. proposed C (get_or bests a None))

  module _ (T : List MouthProposal) {bests : List (Option Candidate)} (B : Bests C T bests C.count) where
    known : Under (ranks_before C) (is_free T) (least_known bests) (least_among C T (proposals C))
    known =
        subst (Under (ranks_before C) (is_free T) (least_known bests)) (sym (rows_least T))
        (under-rows (ranks_before C) weak (is_free T) (λ a. proposed C (get_or bests a None)) (λ a. least_among C T (row_of C a)) C.count (λ a h. B.under a h))

    -- the least of the bests, if it is left, is the least of all that is left; there is nothing left where there is none
    pub least_left : (o : Option Candidate) → proposed C o ≡ least_known bests → LeastLeft C T o
    least_left None e = sym (under_none (ranks_before C) weak (is_free T) (subst (λ o. Under (ranks_before C) (is_free T) o (least_among C T (proposals C))) (sym e) known))
    least_left (Some x) e = λ free.
        sym (under_left (ranks_before C) weak (is_free T) (ap not free) (subst (λ o. Under (ranks_before C) (is_free T) o (least_among C T (proposals C))) (sym e) known))

  still-refused : (T : List MouthProposal) (q p : MouthProposal) → is_free (T ++ (q ∷ [])) p ≡ true → is_free T p ≡ true
  still-refused T q p h = go (is_refused C T p) (sym (refused_is (T ++ (q ∷ [])) C p) ∙ any_append (λ r. conflict C r p) T (q ∷ []) ∙ ap (λ b. b || any (λ r. conflict C r p) (q ∷ [])) (refused_is T C p)) h
    where
      go : (b : Bool) → is_refused C (T ++ (q ∷ [])) p ≡ (b || any (λ r. conflict C r p) (q ∷ [])) → is_free (T ++ (q ∷ [])) p ≡ true → not b ≡ true
      go true e h = absurd (false≢true (sym (ap not e) ∙ h))
      go false e h = ap not (λ i. false)

  -- one more is taken: what is known of a row stays known
  pub under_stays : (T : List MouthProposal) (q : MouthProposal) (a : ℕ) {o : Option MouthProposal} → Under (ranks_before C) (is_free T) o (least_among C T (row_of C a))
      → Under (ranks_before C) (is_free (T ++ (q ∷ []))) o (least_among C (T ++ (q ∷ [])) (row_of C a))
  unfolding least_among
  under_stays T q a u = under-fewer (ranks_before C) weak (is_free T) (is_free (T ++ (q ∷ []))) (still-refused T q) (row_of C a) u
