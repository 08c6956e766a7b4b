-- Changes of sides by the first places past a span's line: of a cell they say which of its steps are cut, where they are there (`crossed`, `follows-crossed`), they depend on
-- the distances of the places alone (`changes-shift`), and more than two cells from the first place there are none (`changes_none`). With the steps that are there they give
-- the cell's cut directions (`crossed-cell`). Assumes nothing.
use Prim.Native.Nat.{ℕ, zero, suc, ◌+◌, ◌-◌, ◌*◌, ◌≤◌, ◌<◌}
use native.Mathlib.Omega.{arith}
use native.Mathlib.Nat.{lt_of_le_of_lt}
use mathlib.Core.Path.{◌≡◌, refl, sym, ap, ap₂, ◌∙◌, subst, subst⁻¹}
use mathlib.Core.Logic.{◌⊎◌, ⊎_elim}
use mathlib.Core.Bool.{Bool, true, false, ◌&&◌, cond, and-false, and-true}
use mathlib.Core.List.{List, [], ◌∷◌, map}
use lib.ListN.{get_or}
use lib.Dec.{leb, ltb}
use lib.Bits.{bit_and, and_le_l}
use borrow.Author.Tests.{le-leb, lt-leb, lt-ltb, le-ltb}
use Rattle.definitions.specs.Scan.{run}
use Rattle.definitions.specs.Grid.{Map, Position, at, Segment, is_step}
use Rattle.definitions.specs.Spans.{cuts}
use Rattle.span_geometry.specs.declared.strips.Strip.{Strip}
use Rattle.span_geometry.specs.Strips.{strip_of}
use Rattle.span_geometry.specs.Candidates.{cell_of}
use Rattle.laws.specs.NumberLaws.Comparisons.{le_or_lt}
use Rattle.bit_laws.specs.Bits.{and_bit}
use Rattle.line_crossings.specs.Crossings.{tie_of, Close}
use Rattle.line_crossings.proofs.Past.{cut-between}
use Rattle.grid_steps.specs.Masks.{bit_of}
use Rattle.grid_steps.specs.Walk.{grid_of}
use Rattle.grid_steps.proofs.Square.{four}
use Rattle.cut_steps.specs.CutSteps.{is_cut_onward, is_set}
use Rattle.cut_steps.specs.Cell.{CutDirections, Far, onward_mask}
use Rattle.cut_steps.specs.Crossed.{steps_onward, Crossed, differ, changes_at, Follows, FollowsIn}
use Rattle.cut_steps.proofs.Onward.{blocked, onward-cut, not-onward, nine, zero_bit, mask_small}

-- ---- bits

module _ (a b c d : Bool) where
  bit-east : is_set (onward_mask a b c d) 5 ≡ a
  unfolding run
  bit-east = ap (λ l. get_or l 5 false) (nine a b c d)

  bit-south_west : is_set (onward_mask a b c d) 6 ≡ b
  unfolding run
  bit-south_west = ap (λ l. get_or l 6 false) (nine a b c d)

  bit-south : is_set (onward_mask a b c d) 7 ≡ c
  unfolding run
  bit-south = ap (λ l. get_or l 7 false) (nine a b c d)

  bit-south_east : is_set (onward_mask a b c d) 8 ≡ d
  unfolding run
  bit-south_east = ap (λ l. get_or l 8 false) (nine a b c d)

-- ---- comparisons

leb-shift : (a b c d : ℕ) → a + d ≡ c + b → leb a b ≡ leb c d
leb-shift a b c d e = ⊎_elim (λ h. le-leb a b h ∙ sym (le-leb c d (omega arith))) (λ h. lt-leb a b h ∙ sym (lt-leb c d (omega arith))) (le_or_lt a b)

pub changes-shift :
    (v : Bool) (before here after i j : ℕ) → i + 2 ≡ here + j → here ≤ before + 1 → here ≤ after + 1 → changes_at v (before + 2 - here) 2 (after + 2 - here) j ≡ changes_at v before here after i
changes-shift v before here after i j e p q =
    λ t. cond v (onward_mask (differ (h t) (a t)) (differ (h t) (b₁ t)) (differ (h t) (h₁ t)) (differ (h t) (a₁ t))) (onward_mask (differ (h t) (h₁ t)) (differ (h t) (w t)) (differ (h t) (a t)) (differ (h t) (a₁ t)))
  where
    h : leb 2 j ≡ leb here i
    h = leb-shift 2 j here i (omega arith)

    h₁ : leb 2 (j + 1) ≡ leb here (i + 1)
    h₁ = leb-shift 2 (j + 1) here (i + 1) (omega arith)

    a : leb (after + 2 - here) j ≡ leb after i
    a = leb-shift (after + 2 - here) j after i (omega arith)

    a₁ : leb (after + 2 - here) (j + 1) ≡ leb after (i + 1)
    a₁ = leb-shift (after + 2 - here) (j + 1) after (i + 1) (omega arith)

    b₁ : leb (before + 2 - here) (j + 1) ≡ leb before (i + 1)
    b₁ = leb-shift (before + 2 - here) (j + 1) before (i + 1) (omega arith)

    w : leb (after + 2 - here + 1) j ≡ leb (after + 1) i
    w = leb-shift (after + 2 - here + 1) j (after + 1) i (omega arith)

pub changes_none : (v : Bool) (before here after i : ℕ) → Close before here → Close here after → (i + 2 < here) ⊎ (here + 2 ≤ i) → changes_at v before here after i ≡ 0
changes_none v before here after i p q s = ⊎_elim early late s
  where
    same : (v x : Bool) → leb here i ≡ x → leb here (i + 1) ≡ x → leb after i ≡ x → leb after (i + 1) ≡ x → leb before (i + 1) ≡ x → leb (after + 1) i ≡ x → changes_at v before here after i ≡ 0
    same true true h h₁ a a₁ b₁ w = λ t. onward_mask (differ (h t) (a t)) (differ (h t) (b₁ t)) (differ (h t) (h₁ t)) (differ (h t) (a₁ t))
    same true false h h₁ a a₁ b₁ w = λ t. onward_mask (differ (h t) (a t)) (differ (h t) (b₁ t)) (differ (h t) (h₁ t)) (differ (h t) (a₁ t))
    same false true h h₁ a a₁ b₁ w = λ t. onward_mask (differ (h t) (h₁ t)) (differ (h t) (w t)) (differ (h t) (a t)) (differ (h t) (a₁ t))
    same false false h h₁ a a₁ b₁ w = λ t. onward_mask (differ (h t) (h₁ t)) (differ (h t) (w t)) (differ (h t) (a t)) (differ (h t) (a₁ t))

    early : i + 2 < here → changes_at v before here after i ≡ 0
    early h =
        same v false (lt-leb here i (omega arith)) (lt-leb here (i + 1) (omega arith)) (lt-leb after i (omega (arith, q.down))) (lt-leb after (i + 1) (omega (arith, q.down))) (lt-leb before (i + 1) (omega (arith, p.up))) (lt-leb (after + 1) i (omega (arith, q.down)))

    late : here + 2 ≤ i → changes_at v before here after i ≡ 0
    late h =
        same v true (le-leb here i (omega arith)) (le-leb here (i + 1) (omega arith)) (le-leb after i (omega (arith, q.up))) (le-leb after (i + 1) (omega (arith, q.up))) (le-leb before (i + 1) (omega (arith, p.down))) (le-leb (after + 1) i (omega (arith, q.up)))

-- ---- a cell's changes are cuts

module _ (s : Segment) (k i before here after : ℕ) (some : 1 ≤ k) where
  abbrev cell : Bool → ℕ → ℕ → Position
  cell v k i = cond v (at k i) (at i k)

  abbrev onto : Bool
  onto = differ (leb here i) (leb after i)

  abbrev behind : Bool
  behind = differ (leb here i) (leb before (i + 1))

  abbrev level : Bool
  level = differ (leb here i) (leb here (i + 1))

  abbrev under : Bool
  under = differ (leb here i) (leb (after + 1) i)

  abbrev diagonal : Bool
  diagonal = differ (leb here i) (leb after (i + 1))

  pub crossed :
      (v : Bool) → ((j : ℕ) → cuts s (cell v k i) (cell v (k + 1) j) ≡ differ (leb here i) (leb after j)) → ((j : ℕ) → cuts s (cell v k i) (cell v k j) ≡ differ (leb here i) (leb here j))
      → ((j : ℕ) → cuts s (cell v k i) (cell v (k - 1) j) ≡ differ (leb here i) (leb before j)) → Crossed s (cell v k i) (changes_at v before here after i)
  crossed true E S W = record { small = mask_small onto behind level diagonal; cut = λ d. go d.x d.y }
    where
      moved : (j l : ℕ) {x y : ℕ} → x ≡ j → y ≡ l → cuts s (at k i) (at j l) ≡ cuts s (at k i) (at x y)
      moved j l e f = ap (cuts s (at k i)) (sym (ap₂ at e f))

      go : (x y : ℕ) → x ≤ 2 → y ≤ 2 → 4 < y * 3 + x → 1 ≤ k + x → 1 ≤ i + y → is_set (changes_at true before here after i) (y * 3 + x) ≡ cuts s (at k i) (at (k + x - 1) (i + y - 1))
      go (suc (suc zero)) (suc zero) a b c d e = bit-east onto behind level diagonal ∙ sym (E i) ∙ moved (k + 1) i (omega arith) (omega arith)
      go zero (suc (suc zero)) a b c d e = bit-south_west onto behind level diagonal ∙ sym (W (i + 1)) ∙ moved (k - 1) (i + 1) (omega arith) (omega arith)
      go (suc zero) (suc (suc zero)) a b c d e = bit-south onto behind level diagonal ∙ sym (S (i + 1)) ∙ moved k (i + 1) (omega arith) (omega arith)
      go (suc (suc zero)) (suc (suc zero)) a b c d e = bit-south_east onto behind level diagonal ∙ sym (E (i + 1)) ∙ moved (k + 1) (i + 1) (omega arith) (omega arith)
      go (suc (suc (suc x))) y a b c d e = absurd (omega arith)
      go zero zero a b c d e = absurd (omega arith)
      go (suc zero) zero a b c d e = absurd (omega arith)
      go (suc (suc zero)) zero a b c d e = absurd (omega arith)
      go zero (suc zero) a b c d e = absurd (omega arith)
      go (suc zero) (suc zero) a b c d e = absurd (omega arith)
      go zero (suc (suc (suc y))) a b c d e = absurd (omega arith)
      go (suc zero) (suc (suc (suc y))) a b c d e = absurd (omega arith)
      go (suc (suc zero)) (suc (suc (suc y))) a b c d e = absurd (omega arith)
  crossed false E S W = record { small = mask_small level under onto diagonal; cut = λ d. go d.x d.y }
    where
      moved : (j l : ℕ) {x y : ℕ} → x ≡ j → y ≡ l → cuts s (at i k) (at j l) ≡ cuts s (at i k) (at x y)
      moved j l e f = ap (cuts s (at i k)) (sym (ap₂ at e f))

      go : (x y : ℕ) → x ≤ 2 → y ≤ 2 → 4 < y * 3 + x → 1 ≤ i + x → 1 ≤ k + y → is_set (changes_at false before here after i) (y * 3 + x) ≡ cuts s (at i k) (at (i + x - 1) (k + y - 1))
      go (suc (suc zero)) (suc zero) a b c d e = bit-east level under onto diagonal ∙ sym (S (i + 1)) ∙ moved (i + 1) k (omega arith) (omega arith)
      go zero (suc (suc zero)) a b c d e =
          bit-south_west level under onto diagonal ∙ ap (λ t. differ (leb here i) t) (leb-shift (after + 1) i after (i - 1) (omega arith)) ∙ sym (E (i - 1)) ∙ moved (i - 1) (k + 1) (omega arith) (omega arith)
      go (suc zero) (suc (suc zero)) a b c d e = bit-south level under onto diagonal ∙ sym (E i) ∙ moved i (k + 1) (omega arith) (omega arith)
      go (suc (suc zero)) (suc (suc zero)) a b c d e = bit-south_east level under onto diagonal ∙ sym (E (i + 1)) ∙ moved (i + 1) (k + 1) (omega arith) (omega arith)
      go (suc (suc (suc x))) y a b c d e = absurd (omega arith)
      go zero zero a b c d e = absurd (omega arith)
      go (suc zero) zero a b c d e = absurd (omega arith)
      go (suc (suc zero)) zero a b c d e = absurd (omega arith)
      go zero (suc zero) a b c d e = absurd (omega arith)
      go (suc zero) (suc zero) a b c d e = absurd (omega arith)
      go zero (suc (suc (suc y))) a b c d e = absurd (omega arith)
      go (suc zero) (suc (suc (suc y))) a b c d e = absurd (omega arith)
      go (suc (suc zero)) (suc (suc (suc y))) a b c d e = absurd (omega arith)

module _ (s : Segment) (k before here after i : ℕ) where
  follows-crossed : Follows (strip_of s) (tie_of s) k before here after → Crossed s (cell_of (strip_of s) k i) (changes_at (strip_of s).columns before here after i)
  follows-crossed F =
      crossed s k i before here after F.some (strip_of s).columns (λ j. cut-between s i j F.usable F.between F.between-after F.is.1 F.next.1)
      (λ j. cut-between s i j F.usable F.between F.between F.is.1 F.is.1) (λ j. cut-between s i j F.usable F.between F.between-before F.is.1 F.was.1)

  module _ {t : Strip} (P : FollowsIn t s k before here after) where
    in_strip : Crossed s (cell_of t k i) (changes_at t.columns before here after i)
    in_strip = subst⁻¹ (λ t. Follows t (tie_of s) k before here after → Crossed s (cell_of t k i) (changes_at t.columns before here after i)) P.strip follows-crossed P.follows

    -- from a place that is j - 2 beyond the first one
    pub follows_at : (j : ℕ) → i + 2 ≡ here + j → Crossed s (cell_of t k i) (changes_at t.columns (before + 2 - here) 2 (after + 2 - here) j)
    follows_at j e =
        let F = P.follows in
        subst (Crossed s (cell_of t k i)) (sym (changes-shift t.columns before here after i j e F.close-before.up F.close-after.down)) in_strip

    pub follows-far : (i + 2 < here) ⊎ (here + 2 ≤ i) → Far s (cell_of t k i)
    follows-far h d a b c e f =
        let F = P.follows in
        sym (in_strip.cut d a b c e f) ∙ ap (λ m. is_set m (bit_of d)) (changes_none t.columns before here after i F.close-before F.close-after h) ∙ zero_bit (bit_of d)

-- ---- with the steps that are there

module _ (M : Map) (p : Position) where
  steps-bit : (d : Position) → d.x ≤ 2 → d.y ≤ 2 → is_set (steps_onward M p) (bit_of d) ≡ (is_step M p d && ltb 4 (bit_of d))
  unfolding steps_onward run
  steps-bit d = go d.x d.y
    where
      bits : (k : ℕ) → is_set (steps_onward M p) k ≡ is_set (onward_mask (is_step M p (at 2 1)) (is_step M p (at 0 2)) (is_step M p (at 1 2)) (is_step M p (at 2 2))) k
      bits k = refl

      low : (k : ℕ) → get_or (false ∷ false ∷ false ∷ false ∷ false ∷ is_step M p (at 2 1) ∷ is_step M p (at 0 2) ∷ is_step M p (at 1 2) ∷ is_step M p (at 2 2) ∷ []) k false ≡ get_or (map (is_set (steps_onward M p)) (run 0 9)) k false
      low k = ap (λ l. get_or l k false) (sym (nine _ _ _ _))

      go : (x y : ℕ) → x ≤ 2 → y ≤ 2 → is_set (steps_onward M p) (y * 3 + x) ≡ (is_step M p (at x y) && ltb 4 (y * 3 + x))
      go zero zero a b = sym (low 0) ∙ sym (and-false (is_step M p (at 0 0)))
      go (suc zero) zero a b = sym (low 1) ∙ sym (and-false (is_step M p (at 1 0)))
      go (suc (suc zero)) zero a b = sym (low 2) ∙ sym (and-false (is_step M p (at 2 0)))
      go zero (suc zero) a b = sym (low 3) ∙ sym (and-false (is_step M p (at 0 1)))
      go (suc zero) (suc zero) a b = sym (low 4) ∙ sym (and-false (is_step M p (at 1 1)))
      go (suc (suc zero)) (suc zero) a b = sym (low 5) ∙ sym (and-true (is_step M p (at 2 1)))
      go zero (suc (suc zero)) a b = sym (low 6) ∙ sym (and-true (is_step M p (at 0 2)))
      go (suc zero) (suc (suc zero)) a b = sym (low 7) ∙ sym (and-true (is_step M p (at 1 2)))
      go (suc (suc zero)) (suc (suc zero)) a b = sym (low 8) ∙ sym (and-true (is_step M p (at 2 2)))
      go (suc (suc (suc x))) y a b = absurd (omega arith)
      go zero (suc (suc (suc y))) a b = absurd (omega arith)
      go (suc zero) (suc (suc (suc y))) a b = absurd (omega arith)
      go (suc (suc zero)) (suc (suc (suc y))) a b = absurd (omega arith)

pub crossed-cell : {w h : ℕ} {cells : List ℕ} {g : Segment} {x y changes steps r : ℕ} → Crossed g (at x y) changes → steps ≡ steps_onward (grid_of w h cells) (at x y) → r ≡ bit_and changes steps → CutDirections w h cells g x y r
crossed-cell {w} {h} {cells} {g} {x} {y} {changes} {steps} {r} C e f = subst (CutDirections w h cells g x y) (sym (f ∙ ap (bit_and changes) e)) (record { small = lt_of_le_of_lt (and_le_l changes (steps_onward M p)) C.small; bits = bits })
  where
    M : Map
    M = grid_of w h cells

    p : Position
    p = at x y

    bits : (d : Position) → d.x ≤ 2 → d.y ≤ 2 → is_set (bit_and changes (steps_onward M p)) (bit_of d) ≡ is_cut_onward M g p d
    bits d hx hy = and_bit changes (steps_onward M p) (bit_of d) ∙ ap (λ t. is_set changes (bit_of d) && t) (steps-bit M p d hx hy) ∙ ⊎_elim back onward (le_or_lt (bit_of d) 4)
      where
        back : bit_of d ≤ 4 → (is_set changes (bit_of d) && (is_step M p d && ltb 4 (bit_of d))) ≡ is_cut_onward M g p d
        back a = ap (λ t. is_set changes (bit_of d) && (is_step M p d && t)) (le-ltb 4 (bit_of d) a) ∙ ap (λ t. is_set changes (bit_of d) && t) (and-false (is_step M p d)) ∙ and-false (is_set changes (bit_of d)) ∙ not-onward M g p d a

        onward : 4 < bit_of d → (is_set changes (bit_of d) && (is_step M p d && ltb 4 (bit_of d))) ≡ is_cut_onward M g p d
        onward a = ap (λ t. is_set changes (bit_of d) && (is_step M p d && t)) (lt-ltb 4 (bit_of d) a) ∙ ap (λ t. is_set changes (bit_of d) && t) (and-true (is_step M p d)) ∙ go (is_step M p d) refl
          where
            go : (t : Bool) → is_step M p d ≡ t → (is_set changes (bit_of d) && t) ≡ is_cut_onward M g p d
            go false i = and-false (is_set changes (bit_of d)) ∙ blocked M g p d i
            go true i =
                let q = four M p d i in
                and-true (is_set changes (bit_of d)) ∙ C.cut d hx hy a q.right q.down ∙ onward-cut M g p d i a
