-- The ranked list grows by one row at its end, and the first rank that blocks is what a row names; how a row's numbers are copied. Assumes nothing.
use Prim.Native.Nat.{ℕ, zero, suc, ◌+◌, ◌-◌, ◌≤◌}
use native.Mathlib.Omega.{arith}
use mathlib.Core.Path.{◌≡◌, refl, sym, ap, ap₂, ◌∙◌}
use mathlib.Core.Bool.{Bool, true, false, not, ◌||◌, cond}
use mathlib.Core.List.{List, [], ◌∷◌, ◌++◌, append-nil, append_assoc}
use lib.ListN.{length, take, drop, get_or}
use lib.Seq.{sets, sets-eq, drop-drop}
use borrow.Rule.Slice.PartMut.{put_mid}
use Rattle.std.specs.Prelude.{Option, None, Some}
use Rattle.std.specs.Option.{is_some, unwrap_or, option_map}
use Rattle.definitions.specs.Scan.{any}
use Rattle.definitions.specs.Junctions.{Proposal}
use Rattle.laws.specs.ListLaws.Flags.{bit-is_one}
use Rattle.junction_proposals.specs.declared.proposals.Candidate.{Candidate}
use Rattle.junction_proposals.specs.Bridges.{FirstIn}
use Rattle.junction_proposals.specs.Rows.{form}
use Rattle.ranked_list.specs.RankedList.{Listed, first_place, blocks, judged, judged_after}
use Rattle.ranked_rows.specs.Contract.{listed_form, judged_row}

-- a row in the place of as many numbers
pub row_copied : (old row : List ℕ) (at : ℕ) {part : List ℕ} → at + length row ≤ length old → part ≡ row → put_mid at (at + length row - at) old part ≡ sets old at row
row_copied old row at h e =
    let behind : drop (at + length row - at) (drop at old) ≡ drop (at + length row) old = drop-drop _ at old ∙ ap (λ n. drop n old) (omega arith) in
    ap₂ (λ l r. take at old ++ (l ++ r)) e behind ∙ sym (sets-eq row old at h ∙ append_assoc (take at old) row (drop (at + length row) old))

-- ---- one row more

module _ {A : Type 0} (clash : A → A → Bool) where
  pub judged_more : (earlier : List (Listed A)) (l : List A) (p : A)
      → judged_after clash earlier (l ++ (p ∷ [])) ≡ judged_after clash earlier l ++ (judged clash (earlier ++ judged_after clash earlier l) p ∷ [])
  unfolding judged_after
  judged_more earlier [] p = ap (λ e. judged clash e p ∷ []) (sym (append-nil earlier))
  judged_more earlier (q ∷ l) p =
      let r = judged clash earlier q in
      ap {B = List (Listed A)} (λ t. r ∷ t)
      (judged_more (earlier ++ (r ∷ [])) l p
      ∙ ap (λ e. judged_after clash (earlier ++ (r ∷ [])) l ++ (judged clash e p ∷ [])) (append_assoc earlier (r ∷ []) (judged_after clash (earlier ++ (r ∷ [])) l)))

-- ---- the first that passes

module _ {A : Type 0} (f : Listed A → Bool) (d : Listed A) where
  -- what a search from the front found, as `any` and `first_place` have it
  pub record FoundAs (l : List (Listed A)) (found : Option ℕ) : Type 0 where
    pub some : any f l ≡ is_some found
    pub place : first_place f l ≡ unwrap_or found 0

  -- one that passes is in front
  in_front : (x : Listed A) (l : List (Listed A)) → f x ≡ true → FoundAs (x ∷ l) (Some 0)
  unfolding any first_place
  in_front x l e = record { some = ap (λ b. b || any f l) e; place = ap (λ b. cond b 0 (cond (any f l) (suc (first_place f l)) 0)) e }

  -- or behind one that does not
  behind : (x : Listed A) (l : List (Listed A)) (found : Option ℕ) → f x ≡ false → FoundAs l found → FoundAs (x ∷ l) (option_map suc found)
  unfolding any first_place
  behind x l None e t =
      record {
        some = ap (λ b. b || any f l) e ∙ t.some;
        place = ap (λ b. cond b 0 (cond (any f l) (suc (first_place f l)) 0)) e ∙ ap (λ c. cond c (suc (first_place f l)) 0) t.some;
      }
  behind x l (Some r) e t =
      record {
        some = ap (λ b. b || any f l) e ∙ t.some;
        place = ap (λ b. cond b 0 (cond (any f l) (suc (first_place f l)) 0)) e ∙ ap (λ c. cond c (suc (first_place f l)) 0) t.some ∙ ap suc t.place;
      }

  pub found_as : (l : List (Listed A)) (found : Option ℕ) → FirstIn (λ i. f (get_or l i d)) 0 (length l) found → FoundAs l found
  unfolding any first_place
  found_as [] None s = record { some = refl; place = refl }
  found_as [] (Some r) s = absurd (omega (arith, s.1))
  found_as (x ∷ l) None s = behind x l None (s 0 (omega arith) (omega arith)) (found_as l None (λ j a h. s (suc j) (omega arith) (omega arith)))
  found_as (x ∷ l) (Some zero) s = in_front x l s.2
  found_as (x ∷ l) (Some (suc r)) s = behind x l (Some r) (s.3 0 (omega arith) (omega arith)) (found_as l (Some r) (omega arith, omega (arith, s.1), s.2, λ j a h. s.3 (suc j) (omega arith) (omega arith)))

-- so the row that is listed is that of what was found
pub row_listed : (clash : Proposal → Proposal → Bool) (l : List (Listed Proposal)) (p : Candidate) (found : Option ℕ) (d : Listed Proposal)
    → FirstIn (λ i. blocks clash (form p) (get_or l i d)) 0 (length l) found → listed_form (judged_row p found) ≡ judged clash l (form p)
unfolding judged
row_listed clash l p found d s =
    let t = found_as (blocks clash (form p)) d l found s in
    let taken = bit-is_one (not (is_some found)) ∙ ap not (sym t.some) in
    λ i. record { item = form p; taken = taken i; by = sym t.place i }
