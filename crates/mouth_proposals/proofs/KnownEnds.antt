-- The answers on the other end of a ramp are right for the region of every approach: a filter by the ramp's full pair left it, so it is one of the two. Assumes nothing.
use Prim.Native.Nat.{ℕ}
use native.Mathlib.Omega.{arith}
use mathlib.Core.Path.{◌≡◌, refl, sym, ap, ◌∙◌, subst}
use mathlib.Core.Bool.{Bool, true, false, ◌||◌, cond}
use Rattle.std.specs.Prelude.{Option, None, Some}
use mathlib.Core.List.{List, [], ◌∷◌}
use lib.Dec.{eqb}
use borrow.Author.Tests.{eqb-true}
use Rattle.definitions.specs.Scan.{filter}
use Rattle.definitions.specs.Grid.{Pair, contains}
use Rattle.definitions.specs.MouthShapes.{MouthShape, single, star}
use Rattle.definitions.specs.Context.{Context, full_pair, holds}
use Rattle.definitions.specs.RampMouths.{other_end_incident}
use Rattle.laws.specs.ListLaws.Lists.{All, done, more}
use Rattle.laws.specs.ListLaws.Members.{filter_passes}
use Rattle.mouth_proposals.specs.Rows.{one_of}
use Rattle.mouth_proposals.specs.Candidates.{single_at, star_at, approach_of}
use Rattle.mouth_proposals.specs.Ends.{end_at, EndsOf, EndKnown}
use Rattle.mouth_proposals.specs.declared.approaches.Approach.{Approach}
use Rattle.mouth_proposals.specs.declared.ends.OtherEnds.{OtherEnds}

module _ (C : Context) (a : ℕ) where
  pub both_found : (q : Pair) {x y : Bool} → Some q ≡ full_pair C a → x ≡ other_end_incident C a q.lo → y ≡ other_end_incident C a q.hi → EndsOf C a (Some (record { lo = q.lo; at_lo = x; at_hi = y }))
  both_found q {x} {y} e f g = record { at = λ r h. go r (eqb q.lo r) refl (ap (λ o. holds o (contains r)) e ∙ h) }
    where
      go : (r : ℕ) (b : Bool) → eqb q.lo r ≡ b → (b || eqb q.hi r) ≡ true → cond b x y ≡ other_end_incident C a r
      go r true k h = f ∙ ap (other_end_incident C a) (eqb-true q.lo r k)
      go r false k h = g ∙ ap (other_end_incident C a) (eqb-true q.hi r h)

one_of_lem : {P : ℕ → Type 0} {l : List ℕ} → All P l → (r : ℕ) → one_of l ≡ Some r → P r
one_of_lem done r e = absurd (let z : ◌≡◌ {A = ℕ} 0 1 = cc in omega arith)
one_of_lem {P} (more {x = x} h done) r e =
    let same : x ≡ r = cc in
    subst P same h
one_of_lem (more h (more k t)) r e = absurd (let z : ◌≡◌ {A = ℕ} 0 1 = cc in omega arith)

module _ (C : Context) (a : ℕ) (ends : Option OtherEnds) where
  abbrev Right : ℕ → Type 0
  Right r = end_at ends r ≡ other_end_incident C a r

  single-known : (p : Pair) (n : Option ℕ) → ((r : ℕ) → n ≡ Some r → Right r) → EndKnown C a ends (single_at p n)
  single-known p None h = tt
  single-known p (Some r) h = h r refl

  star-known : (outer : ℕ) (n : Option ℕ) → ((r : ℕ) → n ≡ Some r → Right r) → EndKnown C a ends (star_at outer n)
  star-known outer None h = tt
  star-known outer (Some r) h = h r refl

  pub approach_known : EndsOf C a ends → (s : Option MouthShape) {A : Option Approach} → A ≡ approach_of (full_pair C a) s → EndKnown C a ends A
  approach_known E s k = subst (EndKnown C a ends) (sym k) (go (full_pair C a) refl s)
    where
      left : (q : Pair) → full_pair C a ≡ Some q → (l : List ℕ) (r : ℕ) → one_of (filter (λ r. contains r q) l) ≡ Some r → Right r
      left q e l r k = E.at r (ap (λ o. holds o (contains r)) e ∙ one_of_lem (filter_passes (λ r. contains r q) l) r k)

      go : (o : Option Pair) → full_pair C a ≡ o → (s : Option MouthShape) → EndKnown C a ends (approach_of o s)
      go None e s = tt
      go (Some q) e None = tt
      go (Some q) e (Some (single p)) = single-known p (one_of (filter (λ r. contains r q) (p.lo ∷ p.hi ∷ []))) (left q e (p.lo ∷ p.hi ∷ []))
      go (Some q) e (Some (star outer inner)) = star-known outer (one_of (filter (λ r. contains r q) inner)) (left q e inner)
