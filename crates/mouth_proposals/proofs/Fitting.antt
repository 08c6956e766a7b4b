-- A proposal of an approach by the tests that the code makes, and what the lists show of anchors and incidents. Assumes nothing.
use Prim.Native.Nat.{ℕ, ◌-◌, ◌≤◌}
use native.Mathlib.Omega.{arith}
use mathlib.Core.Path.{◌≡◌, refl, sym, ap, ◌∙◌}
use mathlib.Core.Bool.{Bool, true, false, not, ◌&&◌, ◌||◌, cond, false≢true}
use Rattle.std.specs.Bool.{then_some}
use Rattle.std.specs.Prelude.{Option, None, Some}
use mathlib.Core.List.{List}
use lib.ListN.{get_or}
use lib.Dec.{eqb}
use Rattle.definitions.specs.Scan.{all, only_if}
use Rattle.definitions.specs.Grid.{Pair}
use Rattle.definitions.specs.MouthShapes.{regions_of}
use Rattle.definitions.specs.Context.{Context, incident_count}
use Rattle.definitions.specs.RampMouths.{MouthProposal, broad_mouth, overlay_only, other_end_incident}
use Rattle.laws.specs.ListLaws.Lists.{All, done, more}
use Rattle.laws.specs.RustMouths.MouthKept.{all-agree}
use Rattle.context.specs.Shown.{ShownIncidents, ShownAnchored}
use Rattle.mouth_proposals.specs.Outers.{mark_at, inner_fits}
use Rattle.mouth_proposals.specs.Candidates.{proposal_of, candidate_form, broad, plain, single_fits, star_fits, approach_mouth}
use Rattle.mouth_proposals.specs.declared.approaches.Approach.TheVariants as approach
use Rattle.mouth_proposals.specs.declared.mouths.MouthKind.{MouthKind}
use Rattle.mouth_proposals.proofs.ApproachLaws.{Named}

module _ (C : Context) (m a outer r : ℕ) where
  -- an inner region s of the star
  abbrev pub fits_in : ℕ → Bool
  fits_in s = eqb s outer || not (C.anchored s) && (eqb s r || eqb (incident_count C s) 1)

  abbrev about : MouthKind → MouthProposal
  about k = proposal_of C m a (Some outer) k

  formed : (b : Bool) {k l : MouthKind} → k ≡ l → candidate_form C m a (then_some b (record { outer = Some outer; kind = k })) ≡ only_if b (about l)
  formed true e = ap (λ k. Some (about k)) e
  formed false e = refl

  pub single_by : {x z e k : Bool} {f : MouthKind} → C.anchored r ≡ x → (overlay_only C m a && (C.anchored outer || not (eqb (incident_count C r) 2))) ≡ z → other_end_incident C a r ≡ e
      → ((broad_mouth C m a || overlay_only C m a) && eqb (incident_count C r) 2) ≡ k → f ≡ cond k broad plain
      → candidate_form C m a (then_some (not x && (not z && not e)) (record { outer = Some outer; kind = f })) ≡ approach_mouth C m a (Some (approach.Single (record { outer = outer; approach = r })))
  unfolding approach_mouth single_fits
  single_by {x} {z} {e} hx hz he hk hf = formed (not x && (not z && not e)) hf ∙ sym (λ i. only_if (not (hx i) && (not (hz i) && not (he i))) (about (cond (hk i) broad plain)))

  abbrev star_if : Bool → Bool → Bool → Bool → Bool → Option MouthProposal
  star_if o t f e w = only_if (not o && (t && (f && not e))) (about (cond w broad plain))

  star_by : {o t e w : Bool} (f : Bool) → overlay_only C m a ≡ o → eqb (incident_count C r) 2 ≡ t → all fits_in (regions_of (C.pairs m)) ≡ f → other_end_incident C a r ≡ e → broad_mouth C m a ≡ w
      → approach_mouth C m a (Some (approach.Star (record { outer = outer; approach = r }))) ≡ star_if o t f e w
  unfolding approach_mouth star_fits
  star_by f ho ht hf he hw = λ i. star_if (ho i) (ht i) (hf i) (he i) (hw i)

  module _ {o t e : Bool} (ho : overlay_only C m a ≡ o) (ht : eqb (incident_count C r) 2 ≡ t) (he : other_end_incident C a r ≡ e) where
    -- no star is proposed, whatever its regions
    pub star_none : ((o || not t) || e) ≡ true → None ≡ approach_mouth C m a (Some (approach.Star (record { outer = outer; approach = r })))
    star_none h = sym (star_by (all fits_in (regions_of (C.pairs m))) ho ht refl he refl ∙ go o t e (all fits_in (regions_of (C.pairs m))) h)
      where
        go : (o t e f : Bool) → ((o || not t) || e) ≡ true → star_if o t f e (broad_mouth C m a) ≡ None
        go true t e f h = refl
        go false false e f h = refl
        go false true true true h = refl
        go false true true false h = refl
        go false true false f h = absurd (false≢true h)

    -- it is where they fit
    pub star_when : ((o || not t) || e) ≡ false → {f : Bool} {k : MouthKind} → all fits_in (regions_of (C.pairs m)) ≡ f → {w : Bool} → broad_mouth C m a ≡ w → k ≡ cond w broad plain
        → candidate_form C m a (then_some f (record { outer = Some outer; kind = k })) ≡ approach_mouth C m a (Some (approach.Star (record { outer = outer; approach = r })))
    star_when h {f} hf {w} hw hk = formed f hk ∙ sym (star_by f ho ht hf he hw ∙ go o t e f h)
      where
        go : (o t e f : Bool) → ((o || not t) || e) ≡ false → star_if o t f e w ≡ only_if f (about (cond w broad plain))
        go true t e f h = absurd (false≢true (sym h))
        go false false e f h = absurd (false≢true (sym h))
        go false true true f h = absurd (false≢true (sym h))
        go false true false true h = refl
        go false true false false h = refl

-- regions of pairs are numbered
pub all-named-regions : {n : ℕ} {l : List Pair} → All (Named n) l → All (λ s. (1 ≤ s) × (s ≤ n)) (regions_of l)
all-named-regions done = done
all-named-regions (more {x = p} h a) = more {x = p.lo} (h.0, omega arith) (more {x = p.hi} (omega arith, h.1.1) (all-named-regions a))

module _ {C : Context} {marks counts : List ℕ} (A : ShownAnchored C marks) (I : ShownIncidents C counts) where
  pub two_shown : (r : ℕ) → 1 ≤ r → r ≤ C.regions → {n : ℕ} → n ≡ get_or counts (r - 1) 0 → eqb (incident_count C r) 2 ≡ eqb n 2
  two_shown r h l e = ap (λ n. eqb n 2) (I.at r h l ∙ sym e)

  pub fits-shown : (m outer r : ℕ) {l : List Pair} → All (Named C.regions) l → all (fits_in C m m outer r) (regions_of l) ≡ all (inner_fits marks counts outer r) (regions_of l)
  fits-shown m outer r named = all-agree _ _ at (all-named-regions named)
    where
      at : (s : ℕ) → (1 ≤ s) × (s ≤ C.regions) → fits_in C m m outer r s ≡ inner_fits marks counts outer r s
      at s (h, l) = λ i. eqb s outer || not (A.at s h l i) && (eqb s r || eqb (I.at s h l i) 1)

pub anchored-shown : {C : Context} {marks : List ℕ} → ShownAnchored C marks → (r : ℕ) → 1 ≤ r → r ≤ C.regions → {x : Bool} → x ≡ mark_at marks r → C.anchored r ≡ x
anchored-shown A r h l e = A.at r h l ∙ sym e
