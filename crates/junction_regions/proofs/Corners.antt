-- A region's corners, tested by a chain. Assumes nothing.
use Prim.Native.Nat.{ℕ, zero, suc, ◌<◌}
use native.Mathlib.Omega.{arith}
use mathlib.Core.Path.{◌≡◌, refl, sym, ap, ap₂, ◌∙◌, subst}
use mathlib.Core.Bool.{Bool, true, false, ◌&&◌, and-false}
use mathlib.Core.List.{List, [], ◌∷◌, map}
use lib.ListN.{length, get_or}
use Rattle.std.specs.Prelude.{MatchBool}
use Rattle.std.specs.List.{AllWithin, HoldsAt}
use Rattle.definitions.specs.Scan.{all}
use Rattle.definitions.specs.Geometry.{Point}
use Rattle.definitions.specs.RegionRecord.{Region, corners}
use Rattle.laws.specs.ListLaws.Lists.{All, done, more}
use Rattle.geometry.specs.declared.Point as code
use Rattle.geometry.specs.Forms.{point_form}

-- P says where the test answers f
module _ (P : Point → Type 0) (f : Point → Bool) where
  -- b is an answer of the test at a point
  abbrev pub Answers : Bool → code.Point → Type 0
  Answers b c = P (point_form c) → b ≡ f (point_form c)

  all_passed : (cs : List code.Point) → All P (map point_form cs) → ((k : ℕ) (d : code.Point) → k < length cs → Answers true (get_or cs k d)) → true ≡ all f (map point_form cs)
  unfolding all
  all_passed [] done h = refl
  all_passed (c ∷ cs) (more p ps) h = ap₂ ◌&&◌ (h 0 c (omega arith) p) (all_passed cs ps (λ k d l. h (suc k) d (omega arith)))

  one_failed : (cs : List code.Point) → All P (map point_form cs) → (k : ℕ) → k < length cs → ((d : code.Point) → Answers false (get_or cs k d)) → false ≡ all f (map point_form cs)
  unfolding all
  one_failed [] a k l h = absurd (omega arith)
  one_failed (c ∷ cs) (more p ps) zero l h = ap (λ b. b && all f (map point_form cs)) (h c p)
  one_failed (c ∷ cs) (more p ps) (suc k) l h = sym (ap (λ b. f (point_form c) && b) (sym (one_failed cs ps k (omega arith) h)) ∙ and-false (f (point_form c)))

  -- r is what the chain gave
  pub corners-tested : (cs : List code.Point) (r : Bool) (s : Region) → map point_form cs ≡ corners s → All P (corners s)
      → MatchBool r (AllWithin (Answers true) cs 0 (length cs)) ((k : ℕ) × (k < length cs) × HoldsAt (Answers false) cs k) → r ≡ all f (corners s)
  corners-tested cs true s e a h = all_passed cs (subst (All P) (sym e) a) (λ k d l. h k d (omega arith) l) ∙ ap (all f) e
  corners-tested cs false s e a (k, l, h) = one_failed cs (subst (All P) (sym e) a) k l h ∙ ap (all f) e
