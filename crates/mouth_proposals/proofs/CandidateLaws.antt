-- The list of candidates grows by what is found, or stays. Assumes nothing.
use Prim.Native.Nat.{ℕ, ◌+◌, ◌<◌}
use native.Mathlib.Omega.{arith}
use mathlib.Core.Path.{◌≡◌, sym, ap, ap₂, ◌∙◌, subst}
use mathlib.Core.Bool.{Bool, true, false, not}
use Rattle.std.specs.Prelude.{Option, None, Some}
use mathlib.Core.Logic.{⊎_elim}
use mathlib.Core.List.{List, [], ◌∷◌, ◌++◌, append-nil}
use lib.ListN.{get_or, set, length-set}
use lib.Seq.{get_or-set_same, get_or-set_other}
use lib.Ieee.{Float, binary64, is_nan, lt, to_bits}
use Rattle.definitions.specs.Scan.{to_list, only_if}
use Rattle.definitions.specs.Context.{Context}
use Rattle.definitions.specs.RampMouths.{MouthProposal, max_mouth_distance, retain, separation_of}
use Rattle.laws.specs.ListLaws.ScanSteps.{collect_next}
use Rattle.laws.specs.ListLaws.Scans.{collect_ext}
use Rattle.laws.specs.RustMouths.Separations.{Apart, separation-apart}
use Rattle.laws.specs.NumberLaws.Comparisons.{last_or}
use Rattle.mouth_proposals.specs.Candidates.{Numbered, proposal_of, found_mouth, mouth_candidate}
use Rattle.mouth_proposals.specs.Listed.{max_candidates, blank, proposal_in, entry_at, Filled, Roomy}
use Rattle.mouth_proposals.specs.declared.candidates.Candidate.{Candidate}
use Rattle.mouth_proposals.specs.declared.mouths.MouthKind.{MouthKind}

-- ---- a separation is a number

apart-number : (x : Float) → Apart x → is_nan x ≡ false
unfolding is_nan
apart-number x a = ⊎_elim (λ e. ap is_nan e) (λ e. ap is_nan e.2) a.sign

pub separation-number : (C : Context) (m a : ℕ) {x : Float} → x ≡ separation_of C m a → is_nan x ≡ false
unfolding separation_of
separation-number C m a e = ap is_nan e ∙ apart-number (separation_of C m a) (separation-apart (C.boundary m).endpoints (C.boundary a).endpoints)

-- ---- what is found

module _ (C : Context) (a m : ℕ) where
  pub none_found : None ≡ found_mouth C a m → mouth_candidate C a m ≡ None
  unfolding mouth_candidate
  none_found e = ap (retain (λ p. not (lt max_mouth_distance p.separation))) (sym e)

  module _ (outer : Option ℕ) (kind : MouthKind) (e : Some (proposal_of C m a outer kind) ≡ found_mouth C a m) where
    found_at : {b : Bool} → not (lt max_mouth_distance (separation_of C m a)) ≡ b → mouth_candidate C a m ≡ only_if b (proposal_of C m a outer kind)
    unfolding mouth_candidate proposal_of
    found_at f = ap (retain (λ p. not (lt max_mouth_distance p.separation))) (sym e) ∙ ap (λ b. only_if b (proposal_of C m a outer kind)) f

    pub far-found : not (lt max_mouth_distance (separation_of C m a)) ≡ false → mouth_candidate C a m ≡ None
    far-found f = found_at f

    pub near-found : not (lt max_mouth_distance (separation_of C m a)) ≡ true → mouth_candidate C a m ≡ Some (proposal_of C m a outer kind)
    near-found f = found_at f

-- ---- the list

module _ {entries : List Candidate} where
  pub roomy-put : (n : ℕ) (e : Candidate) → Roomy entries → Roomy (set entries n e)
  roomy-put n e R = record { long = length-set entries n e ∙ R.long }

  pub filled_none : {C : Context} {n : ℕ} {l : List MouthProposal} {o : Option MouthProposal} → Filled C entries n l → o ≡ None → Filled C entries n (l ++ to_list o)
  filled_none {l = l} F e = record { listed = F.listed; proposed = F.proposed ∙ sym (ap (λ o. l ++ to_list o) e ∙ append-nil l) }

module _ (C : Context) (put : Candidate) {entries : List Candidate} {n : ℕ} {l : List MouthProposal} (F : Filled C entries n l) (R : Roomy entries) (few : n < max_candidates) where
  abbrev more : List Candidate
  more = set entries n put

  new_at : get_or more n blank ≡ put
  new_at = get_or-set_same entries n put blank (subst (λ k. n < k) (sym R.long) few)

  old_at : (k : ℕ) → k < n → get_or more k blank ≡ get_or entries k blank
  old_at k h = get_or-set_other entries n k put blank (λ q. omega (arith, q, h))

  -- a fact of each entry, before n and at n
  each : (Q : Candidate → Type 0) → ((k : ℕ) → k < n → Q (get_or entries k blank)) → Q put → (k : ℕ) → k < n + 1 → Q (get_or more k blank)
  each Q old new k h =
      ⊎_elim (λ s. subst (λ k. Q (get_or more k blank)) (sym s) (subst Q (sym new_at) new)) (λ s. subst Q (sym (old_at k s)) (old k s)) (last_or k n (subst (λ j. k < j) (omega arith) h))

  pub filled_more : put.mouth < C.count → put.ramp < C.count → Numbered C.regions put.outer → put.separation ≡ to_bits binary64 (separation_of C put.mouth put.ramp) → {o : Option MouthProposal} → o ≡ Some (proposal_in C put)
      → Filled C more (n + 1) (l ++ to_list o)
  filled_more hm ha ho hb {o} e =
      record {
        listed =
            record {
              few = omega arith;
              mouth = each (λ x. x.mouth < C.count) F.listed.mouth hm;
              ramp = each (λ x. x.ramp < C.count) F.listed.ramp ha;
              outer = each (λ x. Numbered C.regions x.outer) F.listed.outer ho;
              bits = each (λ x. x.separation ≡ to_bits binary64 (separation_of C x.mouth x.ramp)) F.listed.bits hb;
            };
        proposed =
            collect_next (λ k. Some (entry_at C more k)) n
            ∙ ap₂ ◌++◌ (collect_ext n (λ k. Some (entry_at C more k)) (λ k. Some (entry_at C entries k)) (λ k h. ap (λ x. Some (proposal_in C x)) (old_at k h)) ∙ F.proposed) (ap (λ x. proposal_in C x ∷ []) new_at)
            ∙ ap (λ o. l ++ to_list o) (sym e);
      }
