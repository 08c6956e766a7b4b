-- Keys read off the lists are those of the definitions: the better of two entries, and the least of the bests of the ramps. Assumes nothing.
use Rattle.mouth_proposals.specs.Listed.{proposal_in}
use Rattle.mouth_proposals.specs.declared.candidates.Candidate.{Candidate}
use Prim.Native.Nat.{ℕ, zero, suc, ◌+◌, ◌≤◌, ◌<◌}
use native.Mathlib.Numerals.{add-one}
use native.Mathlib.Omega.{arith}
use mathlib.Core.Path.{◌≡◌, refl, ap, ap₂, sym, ◌∙◌, subst}
use mathlib.Core.Bool.{Bool, true, false, cond}
use Rattle.std.specs.Prelude.{Option, None, Some}
use mathlib.Core.List.{List, ◌∷◌, ◌++◌}
use lib.ListN.{length, take, get_or}
use lib.Seq.{get_or-take, length-take-le}
use Rattle.definitions.specs.Sort.{list_lt}
use Rattle.definitions.specs.Context.{Context, endpoints_key}
use Rattle.definitions.specs.RampMouths.{MouthProposal, key, ranks_before}
use Rattle.laws.specs.ListLaws.Options.{OnO, absent, present, on_cond, on_map_lem, cond_map}
use Rattle.context.specs.Shown.{ShownBoundaries}
use Rattle.mouth_proposals.specs.Candidates.{proposal_of}
use Rattle.mouth_selection.specs.Keys.{SafeKey, key_at, key_of, is_better, better_of, least_of}
use Rattle.mouth_selection.specs.Entries.{Known, proposed}
use Rattle.mouth_selection.specs.Rounds.{better}
use Rattle.mouth_selection.proofs.LeastOfRows.{join, least_rows}
use Rattle.mouth_selection.specs.Selecting.{ForRamp, Bests, NextBest}
use Rattle.mouth_selection.proofs.BestLaws.{weak, least_left}

-- what holds of the value, if there is one, which there is
pub of_some : {A : Type 0} {P : A → Type 0} {o : Option A} {x : A} → o ≡ Some x → OnO P o → P x
of_some {P = P} {x = x} e h = go (subst (OnO P) e h)
  where
    go : OnO P (Some x) → P x
    go (present k) = k

pub least_none : (boundaries : List ℕ) (bests : List (Option Candidate)) → None ≡ least_of boundaries bests 0
unfolding least_of
least_none boundaries bests = refl

pub least_more : (boundaries : List ℕ) (bests : List (Option Candidate)) (k : ℕ) → least_of boundaries bests (k + 1) ≡ better_of boundaries (least_of boundaries bests k) (get_or bests k None)
unfolding least_of
least_more boundaries bests k = rw add-one refl

-- of the first n, the least of fewer is as before
least_in-take : (boundaries : List ℕ) (bests : List (Option Candidate)) (n k : ℕ) → k ≤ n → least_of boundaries (take n bests) k ≡ least_of boundaries bests k
unfolding least_of
least_in-take boundaries bests n zero l = refl
least_in-take boundaries bests n (suc k) l = ap₂ (better_of boundaries) (least_in-take boundaries bests n k (omega arith)) (get_or-take n bests k None (omega arith))

pub least_taken : (boundaries : List ℕ) (bests : List (Option Candidate)) (n : ℕ) → n ≤ length bests → least_of boundaries (take n bests) (length (take n bests)) ≡ least_of boundaries bests n
least_taken boundaries bests n l = ap (least_of boundaries (take n bests)) (length-take-le n bests l) ∙ least_in-take boundaries bests n n (omega arith)

-- what holds of every best holds of the least
pub least_keeps : (boundaries : List ℕ) (bests : List (Option Candidate)) {P : Candidate → Type 0} (n : ℕ) → ((a : ℕ) → a < n → OnO P (get_or bests a None)) → OnO P (least_of boundaries bests n)
unfolding least_of
least_keeps boundaries bests zero h = absent
least_keeps boundaries bests {P} (suc n) h = go (get_or bests n None) (h n (omega arith)) (least_keeps boundaries bests n (λ a l. h a (omega arith)))
  where
    go : (o : Option Candidate) → OnO P o → OnO P (least_of boundaries bests n) → OnO P (better_of boundaries (least_of boundaries bests n) o)
    go None k ih = ih
    go (Some e) k ih = on_cond (is_better boundaries e (least_of boundaries bests n)) k ih

module _ {C : Context} {boundaries : List ℕ} (S : ShownBoundaries C boundaries) where
  pub safe-key : {e : Candidate} → Known C e → SafeKey boundaries e
  safe-key K = record { mouth = omega (arith, S.long, K.mouth); ramp = omega (arith, S.long, K.ramp) }

  key-shown : {e : Candidate} → Known C e → key_of boundaries e ≡ key C (proposal_in C e)
  unfolding key_at key proposal_of
  key-shown {e} K =
      (λ i. K.bits i ∷ endpoints_key (sym (S.at e.mouth K.mouth) i).endpoints ++ endpoints_key (sym (S.at e.ramp K.ramp) i).endpoints)

  pub better-shown : {e : Candidate} → Known C e → {b : Option Candidate} → OnO (Known C) b
      → cond (is_better boundaries e b) (Some (proposal_in C e)) (proposed C b) ≡ better (ranks_before C) (proposed C b) (proposal_in C e)
  unfolding ranks_before
  better-shown K absent = refl
  better-shown {e} K (present {x = b} k) =
      go (list_lt (key_of boundaries e) (key_of boundaries b)) ∙ ap (λ t. Some (cond t (proposal_in C e) (proposal_in C b))) (ap₂ list_lt (key-shown K) (key-shown k))
    where
      go : (t : Bool) → cond t (Some (proposal_in C e)) (Some (proposal_in C b)) ≡ Some (cond t (proposal_in C e) (proposal_in C b))
      go true = refl
      go false = refl

  -- ---- the least of the bests

  module _ (bests : List (Option Candidate)) where
    least_shown : (n : ℕ) → ((a : ℕ) → a < n → OnO (Known C) (get_or bests a None)) → proposed C (least_of boundaries bests n) ≡ least_rows (ranks_before C) (weak C) n (λ a. proposed C (get_or bests a None))
    unfolding least_of least_rows
    least_shown zero h = refl
    least_shown (suc n) h = go (get_or bests n None) (h n (omega arith)) (least_keeps boundaries bests n (λ a l. h a (omega arith))) (least_shown n (λ a l. h a (omega arith)))
      where
        go : (o : Option Candidate) → OnO (Known C) o → OnO (Known C) (least_of boundaries bests n) → {r : Option MouthProposal} → proposed C (least_of boundaries bests n) ≡ r
            → proposed C (better_of boundaries (least_of boundaries bests n) o) ≡ join (ranks_before C) (weak C) r (proposed C o)
        go None k l e = e
        go (Some x) (present k) l e =
            cond_map (proposal_in C) (is_better boundaries x (least_of boundaries bests n)) (Some x) (least_of boundaries bests n) ∙ better-shown k l
            ∙ ap (λ r. better (ranks_before C) r (proposal_in C x)) e

  -- the best of a ramp stands at the ramp
  listed : {T : List MouthProposal} {bests : List (Option Candidate)} {n : ℕ} → Bests C T bests n → (a : ℕ) → a < n → OnO (λ e. Known C e × ((e.ramp < n) × (get_or bests e.ramp None ≡ Some e))) (get_or bests a None)
  listed {bests = bests} {n = n} B a h = go (get_or bests a None) refl (B.known a h)
    where
      go : (o : Option Candidate) → get_or bests a None ≡ o → OnO (ForRamp C a) o → OnO (λ e. Known C e × ((e.ramp < n) × (get_or bests e.ramp None ≡ Some e))) o
      go None e absent = absent
      go (Some x) e (present F) = present (F.known, (omega (arith, F.ramp, h), ap (λ i. get_or bests i None) F.ramp ∙ e))

  next_of : {T : List MouthProposal} {bests : List (Option Candidate)} → Bests C T bests C.count → NextBest C T bests C.count (least_of boundaries bests C.count)
  next_of {T} {bests} B =
      record {
        listed = least_keeps boundaries bests C.count (listed B);
        least = least_left C T B (least_of boundaries bests C.count) (least_shown bests C.count (λ a h. on_map_lem (λ e F. F.known) (B.known a h)));
      }

  -- the least of the bests is the next
  pub next_is : {count : ℕ} → C.count ≡ count → {T : List MouthProposal} {bests : List (Option Candidate)} → Bests C T bests count → NextBest C T bests count (least_of boundaries bests count)
  next_is e {T} {bests} = subst (λ n. Bests C T bests n → NextBest C T bests n (least_of boundaries bests n)) e next_of
