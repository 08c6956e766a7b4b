-- Each of the three ways to an end gives a stretch: a gap, a run of a row with cut steps, and a run of a row without. Assumes nothing.
use Prim.Native.Nat.{ℕ, ◌+◌, ◌-◌, ◌/◌, ◌%◌, ◌^◌, ◌≤◌, ◌<◌}
use native.Mathlib.Omega.{arith}
use mathlib.Core.Path.{◌≡◌, refl, sym, ap, ◌∙◌}
use mathlib.Core.Bool.{Bool, true, false, not, ◌&&◌, true≢false, false≢true}
use mathlib.Core.List.{List}
use lib.ListN.{get_or}
use lib.Dec.{eqb, ltb}
use borrow.Author.Tests.{eqb-true, eqb-false, ltb-true, ltb-false, not-true}
use Rattle.laws.specs.ListLaws.Tests.{both}
use Rattle.grid_steps.specs.Masks.{cut_bit}
use Rattle.row_runs.specs.Stretch.{walks, walks_as, goes_on, Clear, Until, Stretch}

-- a mask of zero has no bit: no step to the east is cut
pub clear-bit : (masks : List ℕ) (c : ℕ) → get_or masks c 0 ≡ 0 → cut_bit masks c 5 ≡ false
unfolding cut_bit
clear-bit masks c e = ap (λ m. eqb (m / 2 ^ 5 % 2) 1) e

-- where the test holds of the first place, the end is behind it
until_more : (f : ℕ → Bool) (from end r : ℕ) → from < end → f from ≡ true → Until f from end r → from < r
until_more f from end r h t u = go (ltb from r) refl
  where
    go : (b : Bool) → ltb from r ≡ b → from < r
    go true e = ltb-true from r e
    go false e =
        let same : r ≡ from = omega (arith, ltb-false from r e, u.low) in
        absurd (true≢false (sym t ∙ ap f (sym same) ∙ u.stop (omega (arith, same))))

module _ (cells masks : List ℕ) (from end r : ℕ) (h : from < end) where
  gap-stretch : walks cells from ≡ false → Until (λ c. not (walks cells c)) from end r → Stretch cells masks end from r
  gap-stretch w u =
      record {
        more = until_more (λ c. not (walks cells c)) from end r h (ap not w) u;
        ends = u.ends;
        alike = λ c i k. not-true (walks cells c) (u.all c i k) ∙ sym w;
        free = λ t. absurd (true≢false (sym t ∙ w));
        last = λ t. absurd (true≢false (sym t ∙ w));
      }

  open_stretch : walks cells from ≡ true → Clear masks from end → Until (walks cells) from end r → Stretch cells masks end from r
  open_stretch w clear u =
      record {
        more = until_more (walks cells) from end r h w u;
        ends = u.ends;
        alike = λ c i k. u.all c i k ∙ sym w;
        free = λ t c i k. clear-bit masks c (clear c i (omega (arith, u.ends)));
        last = λ t l v. absurd (true≢false (sym v ∙ u.stop l));
      }

  -- cells that are all walkable, in a row without cut steps, or none
  pub alike-stretch : {walkable : Bool} → walks cells from ≡ walkable → (walkable ≡ true → Clear masks from end) → Until (walks_as walkable cells) from end r → Stretch cells masks end from r
  alike-stretch {walkable = true} w clear u = open_stretch w (clear refl) u
  alike-stretch {walkable = false} w clear u = gap-stretch w u

  pub run-stretch : walks cells from ≡ true → Until (goes_on cells masks) (from + 1) end r → Stretch cells masks end from r
  unfolding goes_on
  run-stretch w u =
      record {
        more = omega (arith, u.low);
        ends = u.ends;
        alike = λ c i k. like c i k (eqb c from) refl;
        free = λ t c i k.
            ap (λ x. cut_bit masks x 5) (omega arith)
            ∙ not-true (cut_bit masks (c + 1 - 1) 5) (both (walks cells (c + 1)) (not (cut_bit masks (c + 1 - 1) 5)) (u.all (c + 1) (omega arith) k)).1;
        last = λ t l v. stopped (cut_bit masks (r - 1) 5) refl v (u.stop l);
      }
    where
      like : (c : ℕ) → from ≤ c → c < r → (b : Bool) → eqb c from ≡ b → walks cells c ≡ walks cells from
      like c i k true e = ap (walks cells) (eqb-true c from e)
      like c i k false e =
          (both (walks cells c) (not (cut_bit masks (c - 1) 5)) (u.all c (omega (arith, eqb-false c from e)) k)).0 ∙ sym w

      stopped : (b : Bool) → cut_bit masks (r - 1) 5 ≡ b → walks cells r ≡ true → (walks cells r && not (cut_bit masks (r - 1) 5)) ≡ false → b ≡ true
      stopped true e v s = refl
      stopped false e v s = absurd (false≢true (sym s ∙ rw (v, e) refl))

-- ---- whether a run goes on, by its two tests

pub goes_on-blocked : (cells masks : List ℕ) (c : ℕ) → walks cells c ≡ false → false ≡ goes_on cells masks c
unfolding goes_on
goes_on-blocked cells masks c w = sym (ap (λ b. b && not (cut_bit masks (c - 1) 5)) w)

pub goes_on_by : (cells masks : List ℕ) (c : ℕ) → walks cells c ≡ true → (r : Bool) → r ≡ cut_bit masks (c - 1) 5 → not r ≡ goes_on cells masks c
unfolding goes_on
goes_on_by cells masks c w r e = ap not e ∙ sym (ap (λ b. b && not (cut_bit masks (c - 1) 5)) w)
