-- Names while the diagonal steps of two rows are done, square by square. In a square without marks the straight steps have joined its cells already
-- (`clear-corner`); in any other each uncut diagonal step joins its two cells. Assumes nothing.
use Prim.Native.Nat.{ℕ, ◌+◌, ◌/◌, ◌%◌, ◌^◌, ◌≤◌, ◌<◌}
use native.Mathlib.Omega.{arith}
use mathlib.Core.Path.{◌≡◌, refl, sym, ap, ap₂, ◌∙◌, subst}
use mathlib.Core.Bool.{Bool, true, false, ◌&&◌, true≢false}
use mathlib.Core.List.{List}
use lib.ListN.{get_or}
use lib.Dec.{eqb, ltb}
use borrow.Author.Tests.{ltb-true, ltb-false}
use Rattle.laws.specs.ListLaws.Tests.{both}
use Rattle.laws.specs.RegionLaws.Merging.{merged, merged_one}
use Rattle.laws.specs.ListLaws.Beyond.{beyond_same, beyond-then}
use Rattle.grid_steps.specs.Masks.{cut_bit}
use Rattle.parents.specs.Forest.{Forest, joined_name, Left}
use Rattle.row_runs.specs.Stretch.{walks, Clear}
use Rattle.row_runs.specs.Names.{EastLevel}
use Rattle.row_runs.specs.South.{SouthLevel, Coarser, Kept}
use Rattle.row_runs.specs.Corners.{is_square, CornerLevel, StepAsked, StepJoined, stays, links, CornersAsked, CornersJoined, SquaresAsked, SquaresJoined, DiagonalsAsked, DiagonalsJoined}
use Rattle.row_runs.proofs.Stretches.{clear-bit}
use Rattle.row_runs.proofs.SouthNames.{merged-test}

-- ---- the square

pub square-cells : (w : ℕ) (cells : List ℕ) (c : ℕ) → is_square w cells c ≡ true → (walks cells c ≡ true) × (walks cells (c + 1) ≡ true) × (walks cells (c + w) ≡ true) × (walks cells (c + w + 1) ≡ true)
unfolding is_square
square-cells w cells c h =
    let p = both (walks cells c && walks cells (c + 1) && walks cells (c + w)) (walks cells (c + w + 1)) h in
    let q = both (walks cells c && walks cells (c + 1)) (walks cells (c + w)) p.0 in
    let r = both (walks cells c) (walks cells (c + 1)) q.0 in
    (r.0, r.1, q.1, p.1)

module _ (w : ℕ) (cells : List ℕ) (c : ℕ) where
  pub square-whole : walks cells c ≡ true → walks cells (c + 1) ≡ true → walks cells (c + w) ≡ true → walks cells (c + w + 1) ≡ true → is_square w cells c ≡ true
  unfolding is_square
  square-whole a b d e = ap₂ ◌&&◌ (ap₂ ◌&&◌ (ap₂ ◌&&◌ a b) d) e

-- tests joined one after the other: where those before hold the next decides, and where they do not it is not asked
pub test-passed : {x v r : Bool} (y : Bool) → x ≡ true → v ≡ r → r ≡ y → v ≡ (x && y)
test-passed y e f g = f ∙ g ∙ sym (ap (λ b. b && y) e)

pub test_failed : {x v r : Bool} (y : Bool) → r ≡ x → r ≡ false → v ≡ r → v ≡ (x && y)
test_failed y e f g = g ∙ f ∙ sym (ap (λ b. b && y) (sym e ∙ f))

-- ---- a square without marks

no_south : (masks : List ℕ) (c : ℕ) → get_or masks c 0 ≡ 0 → cut_bit masks c 7 ≡ false
unfolding cut_bit
no_south masks c e = ap (λ m. eqb (m / 2 ^ 7 % 2) 1) e

pub clear-corner : {X : Type 0} (w : ℕ) (cells masks : List ℕ) (g : ℕ → X) (up c : ℕ) → up ≤ c → c + 1 < up + w → EastLevel cells masks up (up + w) g → SouthLevel w cells masks up (up + w) g → get_or masks c 0 ≡ 0 → get_or masks (c + 1) 0 ≡ 0 → CornerLevel w cells masks g c
clear-corner w cells masks g up c low high east south a b = record { south_east_lem = λ s _. go (square-cells w cells c s); south_west_lem = λ s _. back (square-cells w cells c s) }
  where
    next : c + w + 1 ≡ c + 1 + w
    next = omega arith

    go : (walks cells c ≡ true) × (walks cells (c + 1) ≡ true) × (walks cells (c + w) ≡ true) × (walks cells (c + w + 1) ≡ true) → g (c + w + 1) ≡ g c
    go f =
        ap g next
        ∙ south (c + 1) (omega arith) high f.1 (ap (walks cells) (sym next) ∙ f.3) (no_south masks (c + 1) b)
        ∙ east c low high f.0 f.1 (clear-bit masks c a)

    back : (walks cells c ≡ true) × (walks cells (c + 1) ≡ true) × (walks cells (c + w) ≡ true) × (walks cells (c + w + 1) ≡ true) → g (c + w) ≡ g (c + 1)
    back f = south c low (omega arith) f.0 f.2 (no_south masks c a) ∙ sym (east c low high f.0 f.1 (clear-bit masks c a))

-- ---- one step

record Stepped (masks : List ℕ) (n : ℕ) (name : ℕ → ℕ) (a k b : ℕ) (was p : List ℕ) : Type 0 where
  after : ℕ → ℕ
  left : Left n after was p
  coarser : Coarser name after
  joins : cut_bit masks a k ≡ false → after b ≡ after a
  sound : (g : ℕ → Bool) → (cut_bit masks a k ≡ false → g b ≡ g a) → Kept n name g → Kept n after g

stepped : {masks : List ℕ} {n : ℕ} {name : ℕ → ℕ} {a k b : ℕ} {was p : List ℕ} → Forest n name was → a < n → b < n → StepJoined masks n name a k b was p → Stepped masks n name a k b was p
stepped {n = n} {name} {was = was} F h i (stays e) =
    record {
      after = name;
      left = record { forest = F; beyond = beyond_same n was };
      coarser = λ x y s. s;
      joins = λ f. absurd (true≢false (sym e ∙ f));
      sound = λ g _ K. K;
    }
stepped {n = n} {name} {a} {k} {b} F h i (links e l) =
    record {
      after = joined_name name a b;
      left = l;
      coarser = λ x y s. ap (merged (name a) (name b)) s;
      joins = λ f. sym (merged_one (name a) (name b));
      sound = λ g level K x m. merged-test g (name a) (name b) (name x) (K a h ∙ sym (level e) ∙ sym (K b i)) ∙ K x m;
    }

-- what `join_step` promises
abbrev pub Steps : List ℕ → ℕ → ℕ → ℕ → List ℕ → List ℕ → Type 0
Steps masks a k b was p = (n : ℕ) (name : ℕ → ℕ) → Forest n name was → a < n → b < n → StepJoined masks n name a k b was p

-- ---- one square

module _ {w : ℕ} {cells masks was : List ℕ} {c : ℕ} where
  pub corners-done : {l p : List ℕ} → is_square w cells c ≡ true → Steps masks c 8 (c + w + 1) was l → Steps masks (c + 1) 6 (c + w) l p → (n : ℕ) (name : ℕ → ℕ) → Forest n name was → c + w + 1 < n → CornersJoined w cells masks n name c was p
  corners-done {l} {p} e first second n name F h =
      record {
        after = T.after;
        left = record { forest = T.left.forest; beyond = beyond-then S.left.beyond T.left.beyond };
        coarser = λ x y s. T.coarser x y (S.coarser x y s);
        joins = λ _. record { south_east_lem = λ _ f. T.coarser (c + w + 1) c (S.joins f); south_west_lem = λ _ f. T.joins f };
        sound = λ g level K. T.sound g (level.south_west_lem e) (S.sound g (level.south_east_lem e) K);
      }
    where
      S : Stepped masks n name c 8 (c + w + 1) was l
      S = stepped F (omega arith) h (first n name F (omega arith) h)

      T : Stepped masks n S.after (c + 1) 6 (c + w) l p
      T = stepped S.left.forest (omega arith) (omega arith) (second n S.after S.left.forest (omega arith) (omega arith))

-- ---- squares one behind another

pub corner-coarser : {w : ℕ} {cells masks : List ℕ} {name after : ℕ → ℕ} {d : ℕ} → Coarser name after → CornerLevel w cells masks name d → CornerLevel w cells masks after d
corner-coarser {w} {d = d} k l = record { south_east_lem = λ s f. k (d + w + 1) d (l.south_east_lem s f); south_west_lem = λ s f. k (d + w) (d + 1) (l.south_west_lem s f) }

module _ {w : ℕ} {cells masks : List ℕ} where
  still : {n : ℕ} {name : ℕ → ℕ} {from to : ℕ} {was : List ℕ} → Forest n name was → ((c : ℕ) → from ≤ c → c + 1 < to → (get_or masks c 0 ≡ 0) × (get_or masks (c + 1) 0 ≡ 0)) → SquaresJoined w cells masks n name from to was was
  still {n} {name} {was = was} F none =
      record {
        after = name;
        left = record { forest = F; beyond = beyond_same n was };
        coarser = λ x y s. s;
        joins = λ d i j h. let e = none d i j in h e.0 e.1;
        sound = λ g _ K. K;
      }

  -- squares without marks need nothing
  pub squares-clear : {n : ℕ} {name : ℕ → ℕ} {from to : ℕ} {was : List ℕ} → Forest n name was → Clear masks from to → SquaresJoined w cells masks n name from to was was
  squares-clear F clear = still F (λ d i j. (clear d i (omega arith), clear (d + 1) (omega arith) j))

  -- nor does a single cell, which has none
  squares-none : {n : ℕ} {name : ℕ → ℕ} {from to : ℕ} {was : List ℕ} → Forest n name was → to ≤ from + 1 → SquaresJoined w cells masks n name from to was was
  squares-none F h = still F (λ d i j. absurd (omega arith))

  one_square : {n : ℕ} {name : ℕ → ℕ} {c : ℕ} {was p : List ℕ} → CornersJoined w cells masks n name c was p → SquaresJoined w cells masks n name c (c + 1 + 1) was p
  one_square {n} {name} {c} {was} {p} J =
      record {
        after = J.after;
        left = J.left;
        coarser = J.coarser;
        joins = λ d i j. subst Joins (the c d (omega arith)) J.joins;
        sound = λ g level. J.sound g (level c (omega arith) (omega arith));
      }
    where
      the : (c d : ℕ) → c ≡ d → c ≡ d
      the c d e = e

      Joins : ℕ → Type 0
      Joins d = (get_or masks d 0 ≡ 0 → get_or masks (d + 1) 0 ≡ 0 → CornerLevel w cells masks name d) → CornerLevel w cells masks J.after d

  -- Two parts of a row have one cell in common.
  squares_then : {n : ℕ} {name : ℕ → ℕ} {from mid to : ℕ} {was l p : List ℕ} → from ≤ mid → (from < mid → mid < to) → (S : SquaresJoined w cells masks n name from (mid + 1) was l) → SquaresJoined w cells masks n S.after mid to l p → SquaresJoined w cells masks n name from to was p
  squares_then {n} {name} {from} {mid} {to} low ends S T =
      record {
        after = T.after;
        left = record { forest = T.left.forest; beyond = beyond-then S.left.beyond T.left.beyond };
        coarser = λ x y s. T.coarser x y (S.coarser x y s);
        joins = λ d i j. go d i j (ltb d mid) refl;
        sound = λ g level K. T.sound g (λ d i j. level d (omega arith) j) (S.sound g (λ d i j. level d i (omega (arith, ends (omega arith)))) K);
      }
    where
      go : (d : ℕ) → from ≤ d → d + 1 < to → (b : Bool) → ltb d mid ≡ b → (get_or masks d 0 ≡ 0 → get_or masks (d + 1) 0 ≡ 0 → CornerLevel w cells masks name d) → CornerLevel w cells masks T.after d
      go d i j true e h = corner-coarser T.coarser (S.joins d i (omega (arith, ltb-true d mid e)) h)
      go d i j false e h = T.joins d (ltb-false d mid e) j (λ a b. corner-coarser S.coarser (h a b))

-- what `join_corners` and `join_squares` promise
abbrev pub Square : ℕ → List ℕ → List ℕ → ℕ → List ℕ → List ℕ → Type 0
Square w cells masks c was p =
    (n : ℕ) (name : ℕ → ℕ) → Forest n name was → c + w + 1 < n → CornersJoined w cells masks n name c was p

abbrev pub Squares : ℕ → List ℕ → List ℕ → ℕ → ℕ → List ℕ → List ℕ → Type 0
Squares w cells masks from to was p =
    (n : ℕ) (name : ℕ → ℕ) → Forest n name was → to + w ≤ n → SquaresJoined w cells masks n name from to was p

-- Of the cells from `from` up to `to` the squares before c are done.
pub record Cornering (w : ℕ) (cells masks : List ℕ) (from to : ℕ) (was p : List ℕ) (c : ℕ) : Type 0 where
  pub low : from ≤ c
  pub ends : from < c → c < to
  all : (n : ℕ) (name : ℕ → ℕ) → Forest n name was → to + w ≤ n → SquaresJoined w cells masks n name from (c + 1) was p

pub cornering_starts : (w : ℕ) (cells masks : List ℕ) (from to : ℕ) (was : List ℕ) → Cornering w cells masks from to was was from
cornering_starts w cells masks from to was =
    record {
      low = omega arith;
      ends = λ h. absurd (omega arith);
      all = λ n name F _. squares-none F (omega arith);
    }

module _ {w : ℕ} {cells masks : List ℕ} {from to : ℕ} {was p : List ℕ} {c : ℕ} (I : Cornering w cells masks from to was p c) where
  -- the squares before d are done too
  goes_on : {p' : List ℕ} (d m : ℕ) → m ≡ d + 1 → c < d → d < to → Squares w cells masks c m p p' → Cornering w cells masks from to was p' d
  goes_on {p'} d m e h k S =
      record {
        low = omega (arith, I.low);
        ends = λ _. k;
        all = λ n name F room.
            let N = I.all n name F room in
            squares_then I.low (λ _. omega arith) N (subst (λ x. SquaresJoined w cells masks n N.after c x p p') e (S n N.after N.left.forest (omega (arith, e))));
      }

  pub cornering_goes_on : {p' : List ℕ} {d : ℕ} → d ≡ c + 1 → d < to → Square w cells masks c p p' → Cornering w cells masks from to was p' d
  cornering_goes_on {d = d} e h C = goes_on d (c + 1 + 1) (omega (arith, e)) (omega (arith, e)) h (λ n name F room. one_square (C n name F (omega arith)))

  pub cornering_goes_on_block : {p' : List ℕ} → c + 32 < to → Squares w cells masks c (c + 32 + 1) p p' → Cornering w cells masks from to was p' (c + 32)
  cornering_goes_on_block h S = goes_on (c + 32) (c + 32 + 1) refl (omega arith) h S

  pub cornering_ends_by : {p' : List ℕ} → Squares w cells masks c to p p' → Squares w cells masks from to was p'
  cornering_ends_by S n name F room =
      let N = I.all n name F room in squares_then I.low I.ends N (S n N.after N.left.forest room)

  pub cornering_ends : to ≤ c + 1 → Squares w cells masks from to was p
  cornering_ends h = cornering_ends_by (λ n name F room. squares-none F h)

-- the squares of a row, where straight steps are done
module _ {w : ℕ} {cells masks : List ℕ} {up : ℕ} {was p : List ℕ} where
  pub all-squares : Squares w cells masks up (up + w) was p → (n : ℕ) (name : ℕ → ℕ) → Forest n name was → up + w + w ≤ n → EastLevel cells masks up (up + w) name → SouthLevel w cells masks up (up + w) name → DiagonalsJoined w cells masks n name up was p
  all-squares S n name F m east south =
      let N = S n name F m in
      record {
        after = N.after;
        left = N.left;
        coarser = N.coarser;
        joins = λ d i j. N.joins d i j (clear-corner w cells masks name up d i j east south);
        sound = N.sound;
      }

-- ---- the ways through `join_step`

module _ {masks was : List ℕ} {a k b : ℕ} where
  pub step_stays : cut_bit masks a k ≡ true → (n : ℕ) (name : ℕ → ℕ) → Forest n name was → a < n → b < n → StepJoined masks n name a k b was was
  step_stays e n name F h i = stays e

  pub step-links : {p : List ℕ} → cut_bit masks a k ≡ false → ((n : ℕ) (name : ℕ → ℕ) → Forest n name was → a < n → b < n → Left n (joined_name name a b) was p) → (n : ℕ) (name : ℕ → ℕ) → Forest n name was → a < n → b < n → StepJoined masks n name a k b was p
  step-links e J n name F h i = links e (J n name F h i)

-- ---- what the two steps of a square ask, and how long the list is

module _ {w : ℕ} {cells masks was : List ℕ} {c : ℕ} (A : CornersAsked w cells masks was c) where
  pub second-asked : {l : List ℕ} → Steps masks c 8 (c + w + 1) was l → StepAsked masks l (c + 1) 6 (c + w)
  second-asked {l} s =
      let S = stepped A.forest (omega (arith, A.inside)) A.inside (s A.n A.name A.forest (omega (arith, A.inside)) A.inside) in
      record {
        masks_long = A.masks_long;
        bit = omega arith;
        n = A.n;
        name = S.after;
        forest = S.left.forest;
        first = omega (arith, A.inside);
        second = omega (arith, A.inside);
      }

-- what a turn of the loop over squares asks
module _ {w : ℕ} {cells masks was : List ℕ} {from to : ℕ} {p : List ℕ} {c : ℕ} where
  pub corners-asked : SquaresAsked w cells masks was to → Cornering w cells masks from to was p c → c + 1 < to → CornersAsked w cells masks p c
  corners-asked A I h =
      let N = I.all A.n A.name A.forest A.ends in
      record {
        cells_long = omega (arith, A.cells_long);
        masks_long = omega (arith, A.masks_long);
        n = A.n;
        name = N.after;
        forest = N.left.forest;
        inside = omega (arith, A.ends);
      }

-- what a part of a row asks, up to cell m
module _ {w : ℕ} {cells masks was : List ℕ} {up : ℕ} {p : List ℕ} {c : ℕ} where
  pub squares-asked : DiagonalsAsked w cells masks was up → Cornering w cells masks up (up + w) was p c → (m : ℕ) → m ≤ up + w → SquaresAsked w cells masks p m
  squares-asked A I m h =
      let N = I.all A.n A.name A.forest A.ends in
      record {
        cells_long = omega (arith, A.cells_long);
        masks_long = omega (arith, A.masks_long);
        n = A.n;
        name = N.after;
        forest = N.left.forest;
        ends = omega (arith, A.ends);
      }
