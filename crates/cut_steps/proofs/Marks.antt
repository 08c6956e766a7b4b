-- Marking adds to the bits of the masks, in one write the cut steps of a cell (`cell-marked`), which are those of its directions that are cut (`cut-among`). The four directions to larger numbers are all of them (`four-cut`). Assumes nothing.
use Prim.Native.Nat.{ℕ, zero, suc, ◌+◌, ◌*◌, ◌≤◌, ◌<◌, min, max}
use native.Mathlib.Omega.{arith}
use mathlib.Core.Path.{◌≡◌, refl, sym, ap, ap₂, ◌∙◌}
use mathlib.Core.Bool.{Bool, true, false, ◌&&◌, ◌||◌, cond}
use mathlib.Core.List.{List, [], ◌∷◌, ◌++◌, append_assoc, append-nil, map, Memᴰ}
use lib.ListN.{length, get_or, set, length-set}
use lib.Seq.{drop-set-lt}
use lib.Arith.{digits_lt}
use lib.Bits.{bit_or}
use lib.Dec.{eqb, ltb}
use borrow.Author.Tests.{ltb-true, lt-ltb, eqb-true, eq-eqb}
use Rattle.definitions.specs.Scan.{any, filter, concat_map}
use Rattle.definitions.specs.Grid.{Map, Position, at, Pair, pair_eq, Segment, directions, toward, index, position_of, is_step, edge}
use Rattle.definitions.specs.Spans.{cuts}
use Rattle.laws.specs.ListLaws.Tests.{both, same_test}
use Rattle.laws.specs.ListLaws.Members.{any-member, any_found}
use Rattle.span_geometry.specs.declared.SpanGeometry.{SpanGeometry}
use Rattle.span_geometry.specs.Shapes.{segment_of}
use Rattle.grid_steps.specs.Masks.{bit_of, cut_bit, reached, step_pair, is_onward, is_onward_in}
use Rattle.grid_steps.specs.Walk.{grid_of}
use Rattle.grid_steps.proofs.Square.{position-index}
use Rattle.grid_steps.proofs.Onward.{onward-bit}
use Rattle.grid_steps.proofs.Bits.{more_bits}
use Rattle.grid_steps.proofs.MarkStep.{one_direction}
use Rattle.cut_steps.specs.CutSteps.{is_cut_onward, cut_from, cut_toward}
use Rattle.cut_steps.proofs.CutLaws.{cut_from-directions}
use Rattle.cut_steps.specs.Cell.{CellAsked, CutBits, CutDirections}
use Rattle.cut_steps.specs.Marking.{Marked}
use Rattle.cut_steps.proofs.Onward.{not-onward, zero_bit}

-- ---- the cut steps of a cell

-- what is tested of a cut step
pub record CutStep (M : Map) (p d : Position) : Type 0 where
  pub step : is_step M p d ≡ true
  pub onward : index M p < index M (toward p d)

pub cut_step : (M : Map) (g : Segment) (p d : Position) → is_cut_onward M g p d ≡ true → CutStep M p d
unfolding is_cut_onward
cut_step M g p d e =
    let a = both _ (cuts g p (toward p d)) e in
    let b = both (is_step M p d) (ltb (index M p) (index M (toward p d))) a.0 in
    record { step = b.0; onward = ltb-true _ _ b.1 }

-- a test of what is left of a list, mapped
any_filtered : {A B : Type 0} (f : B → Bool) (e : A → B) (q : A → Bool) (l : List A) → any f (map e (filter q l)) ≡ any (λ a. q a && f (e a)) l
unfolding any filter
any_filtered f e q [] = refl
any_filtered {A} {B} f e q (a ∷ l) = go (q a) (any_filtered f e q l)
  where
    go : (t : Bool) → any f (map e (filter q l)) ≡ any (λ a. q a && f (e a)) l → any f (map e (cond t (a ∷ filter q l) (filter q l))) ≡ ((t && f (e a)) || any (λ a. q a && f (e a)) l)
    go true ih = ap (λ t. f (e a) || t) ih
    go false ih = ih

-- a direction to larger numbers is one of the eight
onward-among : (x y : ℕ) → x ≤ 2 → y ≤ 2 → 4 < y * 3 + x → Memᴰ (at x y) directions
onward-among (suc (suc zero)) (suc zero) a b c = Memᴰ.tail (Memᴰ.tail (Memᴰ.head refl))
onward-among (suc zero) (suc (suc zero)) a b c = Memᴰ.tail (Memᴰ.tail (Memᴰ.tail (Memᴰ.head refl)))
onward-among zero (suc (suc zero)) a b c = Memᴰ.tail (Memᴰ.tail (Memᴰ.tail (Memᴰ.tail (Memᴰ.tail (Memᴰ.tail (Memᴰ.head refl))))))
onward-among (suc (suc zero)) (suc (suc zero)) a b c =
    Memᴰ.tail (Memᴰ.tail (Memᴰ.tail (Memᴰ.tail (Memᴰ.tail (Memᴰ.tail (Memᴰ.tail (Memᴰ.head refl)))))))
onward-among (suc (suc (suc x))) y a b c = absurd (omega arith)
onward-among zero zero a b c = absurd (omega arith)
onward-among (suc zero) zero a b c = absurd (omega arith)
onward-among (suc (suc zero)) zero a b c = absurd (omega arith)
onward-among zero (suc zero) a b c = absurd (omega arith)
onward-among (suc zero) (suc zero) a b c = absurd (omega arith)
onward-among zero (suc (suc (suc y))) a b c = absurd (omega arith)
onward-among (suc zero) (suc (suc (suc y))) a b c = absurd (omega arith)
onward-among (suc (suc zero)) (suc (suc (suc y))) a b c = absurd (omega arith)

module _ (M : Map) (g : Segment) (p : Position) where
  -- A step from cell c in direction d is among the cut steps of p where c is p's cell and the direction is cut.
  pub cut-among : p.x < M.width → (c : ℕ) (d : Position) → d.x ≤ 2 → d.y ≤ 2 → is_onward_in M (cut_from M g p) c d ≡ (eqb c (index M p) && is_cut_onward M g p d)
  unfolding cut_from
  cut-among in_x c d a b = ap (λ t. is_onward M c d && t) (any_filtered (pair_eq (step_pair M c d)) (λ j. edge M p (toward p j)) (is_cut_onward M g p) directions) ∙ same_test found said
    where
      is_it : Position → Bool
      is_it j = is_cut_onward M g p j && pair_eq (step_pair M c d) (edge M p (toward p j))

      place : c ≡ index M p → position_of M c ≡ p
      place e = ap (position_of M) e ∙ position-index M p in_x

      found : (is_onward M c d && any is_it directions) ≡ true → (eqb c (index M p) && is_cut_onward M g p d) ≡ true
      found h =
          let t = both (is_onward M c d) (any is_it directions) h in
          let o = both (is_step M (position_of M c) d) (ltb c (reached M c d)) t.0 in
          let m = any_found is_it directions t.1 in
          let j = m.0 in
          let k = both (is_cut_onward M g p j) (pair_eq (step_pair M c d) (edge M p (toward p j))) m.2 in
          let q = both (eqb (min c (reached M c d)) (index M p)) (eqb (max c (reached M c d)) (index M (toward p j))) k.1 in
          let l = ltb-true c (reached M c d) o.1 in
          let e : c ≡ index M p = omega (arith, l, eqb-true (min c (reached M c d)) (index M p) q.0) in
          let r : reached M c d ≡ index M (toward p j) = omega (arith, l, eqb-true (max c (reached M c d)) (index M (toward p j)) q.1) in
          let same = one_direction M c d j o.0 (ap (λ p. is_step M p j) (place e) ∙ (cut_step M g p j k.0).step) (r ∙ sym (ap (λ p. index M (toward p j)) (place e))) in
          ap₂ ◌&&◌ (eq-eqb c (index M p) e) (ap (is_cut_onward M g p) same ∙ k.0)

      said : (eqb c (index M p) && is_cut_onward M g p d) ≡ true → (is_onward M c d && any is_it directions) ≡ true
      said h =
          let t = both (eqb c (index M p)) (is_cut_onward M g p d) h in
          let e = eqb-true c (index M p) t.0 in
          let k = cut_step M g p d t.1 in
          let r : reached M c d ≡ index M (toward p d) = ap (λ p. index M (toward p d)) (place e) in
          let l : c < reached M c d = omega (arith, e, r, k.onward) in
          let larger = ltb-true 4 (bit_of d) (sym (onward-bit M p d k.step) ∙ lt-ltb _ _ k.onward) in
          let low : min c (reached M c d) ≡ index M p = omega (arith, e, l) in
          let high : max c (reached M c d) ≡ index M (toward p d) = omega (arith, r, l) in
          ap₂ ◌&&◌ (ap₂ ◌&&◌ (ap (λ p. is_step M p d) (place e) ∙ k.step) (lt-ltb c (reached M c d) l))
          (any-member is_it (onward-among d.x d.y a b larger) (ap₂ ◌&&◌ t.1 (ap₂ ◌&&◌ (eq-eqb _ _ low) (eq-eqb _ _ high))))

  toward_none : (d : Position) → is_cut_onward M g p d ≡ false → cut_toward M g p d ≡ []
  unfolding cut_toward
  toward_none d e = rw e refl

  -- ---- direction by direction

  abbrev T : ℕ → ℕ → List Pair
  T x y = cut_toward M g p (at x y)

  pub four-cut : ((T 2 1 ++ T 1 2) ++ T 0 2) ++ T 2 2 ≡ cut_from M g p
  unfolding concat_map
  four-cut =
      sym
      (cut_from-directions M g p ∙ (λ i. none 1 0 (omega arith) i ++ (none 0 1 (omega arith) i ++ (T 2 1 ++ (T 1 2 ++ (none 0 0 (omega arith) i ++ (none 2 0 (omega arith) i ++ (T 0 2 ++ (T 2 2 ++ [])))))))) ∙ regroup (T 2 1) (T 1 2) (T 0 2) (T 2 2))
    where
      none : (x y : ℕ) → y * 3 + x ≤ 4 → T x y ≡ []
      none x y h = toward_none (at x y) (sym (not-onward M g p (at x y) h))

      regroup : (a b c d : List Pair) → a ++ (b ++ (c ++ (d ++ []))) ≡ ((a ++ b) ++ c) ++ d
      regroup a b c d = simp (append_assoc, append-nil)

  pub no_cut : CutBits M g p 0 → cut_from M g p ≡ []
  no_cut bits = sym four-cut ∙ (λ i. ((none 2 1 (omega arith) (omega arith) i ++ none 1 2 (omega arith) (omega arith) i) ++ none 0 2 (omega arith) (omega arith) i) ++ none 2 2 (omega arith) (omega arith) i)
    where
      none : (x y : ℕ) → x ≤ 2 → y ≤ 2 → T x y ≡ []
      none x y h k = toward_none (at x y) (sym (bits (at x y) h k) ∙ zero_bit (y * 3 + x))

-- ---- the cut steps of a cell, in one write

module _ {w h : ℕ} {cells : List ℕ} {g : SpanGeometry} {x y r : ℕ} (A : CellAsked w h cells g x y) (D : CutDirections w h cells (segment_of g) x y r) where
  pub cell-marked : (was : List ℕ) → h * w ≤ length was → Marked (grid_of w h cells) was (set was (y * w + x) (bit_or (get_or was (y * w + x) 0) r)) (cut_from (grid_of w h cells) (segment_of g) (at x y))
  cell-marked was masks_long =
      let inside : y * w + x < h * w = digits_lt A.in_y A.in_x in
      record {
        bits = λ c d i a b.
            more_bits was (y * w + x) r (omega (arith, inside, masks_long)) c (bit_of d) ∙ ap (λ t. cut_bit was c (bit_of d) || (eqb c (y * w + x) && t)) (D.bits d a b)
            ∙ sym (ap (λ t. cut_bit was c (bit_of d) || t) (cut-among (grid_of w h cells) (segment_of g) (at x y) A.in_x c d a b));
        long = length-set was (y * w + x) _;
        rest = drop-set-lt (h * w) was (y * w + x) _ inside;
      }
