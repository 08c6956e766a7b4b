-- Marks of regions: what each bit says, and what becomes of them where one region is marked or cleared. Assumes nothing.
use Prim.Native.Nat.{ℕ, ◌+◌, ◌-◌, ◌%◌, ◌≤◌}
use native.Mathlib.Omega.{arith}
use mathlib.Core.Path.{◌≡◌, refl, sym, ap, subst, ◌∙◌}
use mathlib.Core.Bool.{Bool, true, false, not, ◌&&◌, ◌||◌, cond, or-false, and-true, and-false}
use mathlib.Core.List.{List}
use lib.ListN.{length, set, length-set}
use lib.Dec.{eqb, leb}
use borrow.Author.Tests.{eq-eqb, ne_eqb}
use Rattle.definitions.specs.Context.{Context, incident_count}
use Rattle.laws.specs.ListLaws.Beyond.{Beyond, beyond-set}
use Rattle.interior_proposals.specs.Given.{flags_of, Marked}
use Rattle.interior_proposals.specs.Owners.{entry_at}
use Rattle.interior_proposals.proofs.Forests.{set_case}

-- ---- bits

flags_on : (a s e on : Bool) → cond on (flags_of a s e % 4 + 4) (flags_of a s e) ≡ flags_of a s (e || on)
unfolding flags_of
flags_on true true true true = refl
flags_on true true true false = refl
flags_on true true false true = refl
flags_on true true false false = refl
flags_on true false true true = refl
flags_on true false true false = refl
flags_on true false false true = refl
flags_on true false false false = refl
flags_on false true true true = refl
flags_on false true true false = refl
flags_on false true false true = refl
flags_on false true false false = refl
flags_on false false true true = refl
flags_on false false true false = refl
flags_on false false false true = refl
flags_on false false false false = refl

flags_off : (a s e : Bool) → flags_of a s e % 4 ≡ flags_of a s false
unfolding flags_of
flags_off true true true = refl
flags_off true true false = refl
flags_off true false true = refl
flags_off true false false = refl
flags_off false true true = refl
flags_off false true false = refl
flags_off false false true = refl
flags_off false false false = refl

flags_exterior : (a s e : Bool) → leb 4 (flags_of a s e) ≡ e
unfolding flags_of
flags_exterior true true true = refl
flags_exterior true true false = refl
flags_exterior true false true = refl
flags_exterior true false false = refl
flags_exterior false true true = refl
flags_exterior false true false = refl
flags_exterior false false true = refl
flags_exterior false false false = refl

flags_leaf : (a s e : Bool) → eqb (flags_of a s e % 4) 2 ≡ (not a && s)
unfolding flags_of
flags_leaf true true true = refl
flags_leaf true true false = refl
flags_leaf true false true = refl
flags_leaf true false false = refl
flags_leaf false true true = refl
flags_leaf false true false = refl
flags_leaf false false true = refl
flags_leaf false false false = refl

-- ---- of a region

module _ {C : Context} {ext : ℕ → Bool} {marks : List ℕ} (M : Marked C ext marks) where
  abbrev single : ℕ → Bool
  single x = eqb (incident_count C x) 1

  pub marked_same : (f : ℕ → Bool) → ((x : ℕ) → ext x ≡ f x) → Marked C f marks
  marked_same f h = record { long = M.long; at = λ x a b. M.at x a b ∙ ap (flags_of (C.anchored x) (single x)) (h x) }

  module _ (x : ℕ) (a : 1 ≤ x) (b : x ≤ C.regions) where
    pub exterior_is : leb 4 (entry_at marks x) ≡ ext x
    exterior_is = ap (leb 4) (M.at x a b) ∙ flags_exterior (C.anchored x) (single x) (ext x)

    pub leaf_is : eqb (entry_at marks x % 4) 2 ≡ (not (C.anchored x) && single x)
    leaf_is = ap (λ n. eqb (n % 4) 2) (M.at x a b) ∙ flags_leaf (C.anchored x) (single x) (ext x)

    in_marks : x ≤ length marks
    in_marks = omega (arith, M.long)

    pub marked_on : (on : Bool) → Marked C (λ y. ext y || (on && eqb y x)) (set marks (x - 1) (cond on (entry_at marks x % 4 + 4) (entry_at marks x)))
    marked_on on =
        record {
          long = subst (λ n. C.regions ≤ n) (sym (length-set marks (x - 1) v)) M.long;
          at = λ y c d. set_case (λ z q. q ≡ flags_of (C.anchored z) (single z) (ext z || (on && eqb z x))) marks x v a in_marks y c
              (ap (λ n. cond on (n % 4 + 4) n) (M.at x a b) ∙ flags_on (C.anchored x) (single x) (ext x) on ∙ ap (λ t. flags_of (C.anchored x) (single x) (ext x || t)) (sym (and-true on) ∙ ap (λ t. on && t) (sym (eq-eqb x x refl))))
              (λ n. M.at y c d ∙ ap (flags_of (C.anchored y) (single y)) (sym (or-false (ext y)) ∙ ap (λ t. ext y || t) (sym (and-false on) ∙ ap (λ t. on && t) (sym (ne_eqb y x n)))));
        }
      where
        v : ℕ
        v = cond on (entry_at marks x % 4 + 4) (entry_at marks x)

    pub marked-off : Marked C (λ y. ext y && not (eqb y x)) (set marks (x - 1) (entry_at marks x % 4))
    marked-off =
        record {
          long = subst (λ n. C.regions ≤ n) (sym (length-set marks (x - 1) (entry_at marks x % 4))) M.long;
          at = λ y c d. set_case (λ z q. q ≡ flags_of (C.anchored z) (single z) (ext z && not (eqb z x))) marks x (entry_at marks x % 4) a in_marks y c
              (ap (λ n. n % 4) (M.at x a b) ∙ flags_off (C.anchored x) (single x) (ext x) ∙ ap (flags_of (C.anchored x) (single x)) (sym (and-false (ext x)) ∙ ap (λ t. ext x && not t) (sym (eq-eqb x x refl))))
              (λ n. M.at y c d ∙ ap (flags_of (C.anchored y) (single y)) (sym (and-true (ext y)) ∙ ap (λ t. ext y && not t) (sym (ne_eqb y x n))));
        }

    pub mark-beyond : (v : ℕ) → Beyond C.regions marks (set marks (x - 1) v)
    mark-beyond v = beyond-set C.regions marks (x - 1) v (omega arith)
