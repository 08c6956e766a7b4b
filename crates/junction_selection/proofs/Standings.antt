-- The state of the selection: what it refuses is what one of the chosen conflicts with, and what it becomes when one more is taken. Assumes nothing.
use Prim.Native.Nat.{ℕ, ◌+◌, ◌≤◌, ◌<◌}
use native.Mathlib.Omega.{arith}
use mathlib.Core.Path.{◌≡◌, refl, sym, ap, ap₂, ◌∙◌, subst}
use mathlib.Core.Bool.{Bool, true, false, ◌&&◌, ◌||◌, cond, or-false, or-true}
use Rattle.std.specs.Prelude.{Option, Some}
use mathlib.Core.List.{List, [], ◌∷◌, ◌++◌}
use lib.ListN.{length, get_or, set, take}
use lib.Seq.{get_or-take, length-take-le}
use lib.Seq.{get_or-set_same, get_or-set_other}
use lib.Dec.{eqb}
use borrow.Author.Tests.{eqb-true, eqb-false}
use Rattle.definitions.specs.Scan.{any, any_below_lem, collect}
use Rattle.definitions.specs.Sort.{select}
use Rattle.definitions.specs.Junctions.{Proposal, region_conflict}
use Rattle.laws.specs.ListLaws.Lists.{All, done, more, any_append}
use Rattle.laws.specs.ListLaws.Below.{below_ext}
use Rattle.laws.specs.ListLaws.Scans.{collect_ext}
use Rattle.laws.specs.ListLaws.ScansOfAll.{collect-below}
use Rattle.laws.specs.ListLaws.ScanSteps.{collect_next}
use Rattle.junction_proposals.specs.declared.proposals.Candidate.{Candidate}
use Rattle.junction_proposals.specs.Rows.{row_at}
use Rattle.junction_selection.specs.Ranks.{order_of, reserves_at, conflict_at, selected_of, Rows}
use Rattle.junction_selection.specs.Taken.{Standing}
use Rattle.junction_selection.proofs.Conflicts.{removed_by, reserved_by, refused_is}
use Rattle.region_pairs.specs.declared.Pair as declared

-- what a selection has chosen, and one more
abbrev pub grown : {A : Type 0} → (A → A → Bool) → List A → A → List A
grown conflict l x = cond (any (λ q. conflict q x) l) l (l ++ (x ∷ []))

-- ---- marks

-- of a mark that is set for a row's ports below j
pub record Marked (was reserved : List Bool) (test : ℕ → Bool) (j : ℕ) : Type 0 where
  pub long : length reserved ≡ length was
  pub below : (x : ℕ) → x < j → get_or reserved x false ≡ (get_or was x false || test x)
  pub above : (x : ℕ) → j ≤ x → get_or reserved x false ≡ get_or was x false

-- ---- the chosen

-- the rows that an order names have boundaries
pub order-all : (rows : List Candidate) (order : List ℕ) (count n t : ℕ) → ((k : ℕ) → k < n → (row_at rows k).index < count) → Rows order t n → All (λ q. q.index < count) (order_of rows order t)
unfolding order_of
order-all rows order count n t below rs = collect-below (λ q. q.index < count) (λ k. Some (row_at rows (get_or order k 0))) t (λ k l. more (below (get_or order k 0) (rs k l)) done)

-- the order that its first numbers are
pub order-front : (rows : List Candidate) (order : List ℕ) (m : ℕ) → m ≤ length order → order_of rows (take m order) (length (take m order)) ≡ order_of rows order m
unfolding order_of
order-front rows order m l =
    ap (λ n. collect n (λ k. Some (row_at rows (get_or (take m order) k 0)))) (length-take-le m order l)
    ∙ collect_ext m (λ k. Some (row_at rows (get_or (take m order) k 0))) (λ k. Some (row_at rows (get_or order k 0))) (λ k h. ap (λ x. Some (row_at rows x)) (get_or-take m order k 0 h))

-- one more in the order
order_more : (rows : List Candidate) (taken : List ℕ) (t p : ℕ) → t < length taken → order_of rows (set taken t p) (t + 1) ≡ order_of rows taken t ++ (row_at rows p ∷ [])
unfolding order_of
order_more rows taken t p l =
    collect_next (λ k. Some (row_at rows (get_or (set taken t p) k 0))) t
    ∙ ap₂ (λ (x : List Proposal) (y : Proposal). x ++ (y ∷ [])) (collect_ext t (λ k. Some (row_at rows (get_or (set taken t p) k 0))) (λ k. Some (row_at rows (get_or taken k 0))) (λ k h. ap (λ x. Some (row_at rows x)) (get_or-set_other taken t k p 0 (λ e. omega arith))))
    (ap (row_at rows) (get_or-set_same taken t p 0 l))

module _ (full : List (Option declared.Pair)) (rows : List Candidate) (taken : List ℕ) (removed reserved : List Bool) (count t : ℕ) (chosen : List Proposal) (st : Standing full rows taken removed reserved count t chosen) where
  chosen-all : ((k : ℕ) → k < length rows → (row_at rows k).index < count) → All (λ q. q.index < count) chosen
  chosen-all below = rw st.are at (order-all rows taken count (length rows) t below st.rows_in)

  -- a, b and c are what the three tests returned of row p
  pub refused : (p : ℕ) {a b c : Bool} → ((k : ℕ) → k < length rows → (row_at rows k).index < count) → p < length rows → a ≡ any_below_lem count (λ j. reserves_at full (row_at rows p) j && (get_or removed j false || get_or reserved j false)) → b ≡ get_or reserved (row_at rows p).index false → c ≡ any (λ q. region_conflict q.kind (row_at rows p).kind q (row_at rows p)) (order_of rows taken t) → (a || b || c) ≡ any (λ q. conflict_at full count q (row_at rows p)) chosen
  refused p {a} {b} {c} below l ports own regions =
      (λ x. ports x || own x || regions x)
      ∙ (λ x. marks x || st.reserved_at (row_at rows p).index (below p l) x || any (λ q. region_conflict q.kind (row_at rows p).kind q (row_at rows p)) (st.are x))
      ∙ refused_is full count (row_at rows p) (chosen-all below)
    where
      marks : any_below_lem count (λ j. reserves_at full (row_at rows p) j && (get_or removed j false || get_or reserved j false)) ≡ any_below_lem count (λ j. reserves_at full (row_at rows p) j && (removed_by full count (row_at rows p) chosen j || reserved_by full count (row_at rows p) chosen j))
      marks = below_ext count _ _ (λ j h. ap₂ (λ x y. reserves_at full (row_at rows p) j && (x || y)) (st.removed_at_lem j h) (st.reserved_at j h))

  -- row p is taken
  standing_more : (p i : ℕ) (now : List Bool) → t < length taken → p < length rows → i ≡ (row_at rows p).index → i < length removed → ((j : ℕ) → j < count → get_or now j false ≡ (get_or reserved j false || reserves_at full (row_at rows p) j)) → Standing full rows (set taken t p) (set removed i true) now count (t + 1) (chosen ++ (row_at rows p ∷ []))
  unfolding any
  standing_more p i now l lp e li m =
      record {
        are = order_more rows taken t p l ∙ ap (λ c. c ++ (row_at rows p ∷ [])) st.are;
        rows_in = λ k h. within k h (eqb k t) refl;
        removed_at_lem = λ j h. mark j h (eqb j i) refl;
        reserved_at = λ j h.
            m j h ∙ ap (λ b. b || reserves_at full (row_at rows p) j) (st.reserved_at j h)
            ∙ sym (any_append (λ q. reserves_at full q j) chosen (row_at rows p ∷ []) ∙ ap (λ b. any (λ q. reserves_at full q j) chosen || b) (or-false (reserves_at full (row_at rows p) j)));
      }
    where
      within : (k : ℕ) → k < t + 1 → (b : Bool) → eqb k t ≡ b → get_or (set taken t p) k 0 < length rows
      within k h true q = rw (eqb-true k t q) (rw (get_or-set_same taken t p 0 l) lp)
      within k h false q = rw (get_or-set_other taken t k p 0 (eqb-false k t q)) (st.rows_in k (omega (arith, eqb-false k t q)))

      found : (j : ℕ) → (any (λ q. eqb j q.index) chosen || eqb j i) ≡ any (λ q. eqb j q.index) (chosen ++ (row_at rows p ∷ []))
      found j =
          ap (λ x. any (λ q. eqb j q.index) chosen || eqb j x) e
          ∙ sym (any_append (λ q. eqb j q.index) chosen (row_at rows p ∷ []) ∙ ap (λ b. any (λ q. eqb j q.index) chosen || b) (or-false (eqb j (row_at rows p).index)))

      mark : (j : ℕ) → j < count → (b : Bool) → eqb j i ≡ b → get_or (set removed i true) j false ≡ any (λ q. eqb j q.index) (chosen ++ (row_at rows p ∷ []))
      mark j h true q =
          ap (λ x. get_or (set removed i true) x false) (eqb-true j i q) ∙ get_or-set_same removed i true false li
          ∙ sym (ap (λ b. any (λ q. eqb j q.index) chosen || b) q ∙ or-true (any (λ q. eqb j q.index) chosen)) ∙ found j
      mark j h false q =
          get_or-set_other removed i j true false (eqb-false j i q) ∙ st.removed_at_lem j h
          ∙ sym (ap (λ b. any (λ q. eqb j q.index) chosen || b) q ∙ or-false (any (λ q. eqb j q.index) chosen)) ∙ found j

  -- b is what `is_refused` returned of row p
  pub standing-kept : (p : ℕ) {b : Bool} → b ≡ any (λ q. conflict_at full count q (row_at rows p)) chosen → b ≡ true → Standing full rows taken removed reserved count t (grown (conflict_at full count) chosen (row_at rows p))
  standing-kept p e h =
      subst (λ (x : Bool). Standing full rows taken removed reserved count t (cond x chosen (chosen ++ (row_at rows p ∷ [])))) (sym h ∙ e) st

  pub standing-taken : (p i : ℕ) (now : List Bool) {b : Bool} → b ≡ any (λ q. conflict_at full count q (row_at rows p)) chosen → b ≡ false → t < length taken → p < length rows → i ≡ (row_at rows p).index → i < length removed → ((j : ℕ) → j < count → get_or now j false ≡ (get_or reserved j false || reserves_at full (row_at rows p) j)) → Standing full rows (set taken t p) (set removed i true) now count (t + 1) (grown (conflict_at full count) chosen (row_at rows p))
  standing-taken p i now e h l lp q li m =
      subst (λ (x : Bool). Standing full rows (set taken t p) (set removed i true) now count (t + 1) (cond x chosen (chosen ++ (row_at rows p ∷ [])))) (sym h ∙ e) (standing_more p i now l lp q li m)

-- ---- the selection, one after the other

module _ {A : Type 0} (conflict : A → A → Bool) where
  select_more : (acc l : List A) (x : A) → select conflict acc (l ++ (x ∷ [])) ≡ grown conflict (select conflict acc l) x
  unfolding select
  select_more acc [] x = refl
  select_more acc (y ∷ l) x = select_more (grown conflict acc y) l x

pub selected_next : (full : List (Option declared.Pair)) (rows : List Candidate) (order : List ℕ) (count k : ℕ) → selected_of full rows order count (k + 1) ≡ grown (conflict_at full count) (selected_of full rows order count k) (row_at rows (get_or order k 0))
unfolding selected_of order_of
selected_next full rows order count k =
    ap (select (conflict_at full count) []) (collect_next (λ j. Some (row_at rows (get_or order j 0))) k)
    ∙ select_more (conflict_at full count) [] (collect k (λ j. Some (row_at rows (get_or order j 0)))) (row_at rows (get_or order k 0))

pub standing-start : (full : List (Option declared.Pair)) (rows : List Candidate) (taken order : List ℕ) (removed reserved : List Bool) (count : ℕ) → ((j : ℕ) → j < count → get_or removed j false ≡ false) → ((j : ℕ) → j < count → get_or reserved j false ≡ false) → Standing full rows taken removed reserved count 0 (selected_of full rows order count 0)
unfolding selected_of order_of collect select any
standing-start full rows taken order removed reserved count a b = record { are = refl; rows_in = λ k h. absurd (omega arith); removed_at_lem = a; reserved_at = b }

pub standing_as : {full : List (Option declared.Pair)} {rows : List Candidate} {taken : List ℕ} {removed reserved : List Bool} {count t : ℕ} {chosen others : List Proposal} → Standing full rows taken removed reserved count t chosen → chosen ≡ others → Standing full rows taken removed reserved count t others
standing_as {full} {rows} {taken} {removed} {reserved} {count} {t} st e = subst (λ (x : List Proposal). Standing full rows taken removed reserved count t x) e st
