-- The list of the candidates of a ramp goes on, mouth by mouth; a boundary that is no ramp, or no full cut, has none. Assumes nothing.
use Rattle.mouth_proposals.specs.declared.candidates.Candidate.{Candidate}
use Prim.Native.Nat.{ℕ, zero, suc}
use native.Mathlib.Omega.{arith}
use mathlib.Core.Path.{◌≡◌, refl, sym, ap₂, ◌∙◌}
use mathlib.Core.Bool.{Bool, true, false, not, ◌&&◌, ◌||◌, cond}
use Rattle.std.specs.Prelude.{Option, None}
use mathlib.Core.List.{List, [], ◌++◌}
use Rattle.definitions.specs.Scan.{collect, to_list}
use Rattle.definitions.specs.Context.{Context, full_cut, full_pair, no_ramp}
use Rattle.definitions.specs.MouthShapes.{mouth_shape}
use Rattle.definitions.specs.RampMouths.{MouthProposal, broad_mouth, nearby_representative, overlay_representative, shaped_mouth, triangle, triangle_or}
use Rattle.mouth_proposals.specs.Candidates.{found_mouth, mouth_candidate}
use Rattle.mouth_proposals.specs.Listed.{Filled}
use Rattle.mouth_proposals.proofs.CandidateLaws.{none_found}

-- ---- the list goes on

collected : {A : Type 0} (f : ℕ → Option A) → ((m : ℕ) → f m ≡ None) → (k : ℕ) → collect k f ≡ []
unfolding collect
collected f h zero = refl
collected f h (suc k) = ap₂ (λ l o. l ++ to_list o) (collected f h k) (h k)

pub filled_as : {C : Context} {entries : List Candidate} {n : ℕ} {l k : List MouthProposal} → Filled C entries n l → l ≡ k → Filled C entries n k
filled_as F e = record { listed = F.listed; proposed = F.proposed ∙ e }

-- nothing is listed, and there is no candidate
pub filled-empty : {C : Context} {entries : List Candidate} (f : ℕ → Option MouthProposal) (k : ℕ) → ((m : ℕ) → f m ≡ None) → Filled C entries 0 (collect k f)
filled-empty f k none_at = filled_as nothing (sym (collected f none_at k))
  where
    nothing : {C : Context} {entries : List Candidate} → Filled C entries 0 []
    nothing =
        record {
          listed = record { few = omega arith; mouth = λ k h. absurd (omega arith); ramp = λ k h. absurd (omega arith); outer = λ k h. absurd (omega arith); bits = λ k h. absurd (omega arith) };
          proposed = unfold collect in refl;
        }

pub filled-start : {C : Context} {entries : List Candidate} (f : ℕ → Option MouthProposal) → Filled C entries 0 (collect 0 f)
unfolding collect
filled-start f =
    record {
      listed = record { few = omega arith; mouth = λ k h. absurd (omega arith); ramp = λ k h. absurd (omega arith); outer = λ k h. absurd (omega arith); bits = λ k h. absurd (omega arith) };
      proposed = refl;
    }

-- ---- a boundary that is no ramp, or no full cut, has no candidates

module _ (C : Context) (a m : ℕ) where
  abbrev near : Bool
  near = broad_mouth C m a || nearby_representative C m a || overlay_representative C m a

  abbrev rest : Option MouthProposal
  rest = triangle_or C (triangle C m a) m a (shaped_mouth C m a (full_pair C a) (mouth_shape (full_cut C m) (C.pairs m)))

  pub no_ramp_none : no_ramp C a ≡ true → mouth_candidate C a m ≡ None
  unfolding found_mouth
  no_ramp_none e = none_found C a m (sym (λ i. cond (not (e i) && full_cut C a && no_ramp C m && near) rest None))

  pub no_cut_none : full_cut C a ≡ false → mouth_candidate C a m ≡ None
  unfolding found_mouth
  no_cut_none e = none_found C a m (sym ((λ i. cond (not (no_ramp C a) && e i && no_ramp C m && near) rest None) ∙ go (not (no_ramp C a))))
    where
      go : (b : Bool) → cond (b && false && no_ramp C m && near) rest None ≡ None
      go true = refl
      go false = refl
