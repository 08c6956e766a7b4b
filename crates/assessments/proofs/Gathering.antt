-- One step assessed behind others, whose cells share a label or do not. Assumes nothing.
use Prim.Native.Nat.{ℕ, ◌+◌, ◌≤◌, min, max}
use mathlib.Core.Path.{◌≡◌, refl, sym, ap, ◌∙◌, subst}
use mathlib.Core.Bool.{Bool, true, false, not, cond}
use mathlib.Core.List.{List, [], ◌∷◌, ◌++◌}
use native.Mathlib.Omega.{arith}
use lib.ListN.{length, get_or, length-append}
use borrow.Author.Tests.{eq-eqb, ne_eqb}
use Rattle.definitions.specs.Scan.{filter}
use Rattle.definitions.specs.Grid.{Pair}
use Rattle.definitions.specs.Partition.{is_separated, label_pair, add_pair, pairs_of}
use Rattle.laws.specs.ListLaws.Lists.{filter-append}
use Rattle.laws.specs.RegionLaws.PairLaws.{pairs_of_ascending, pairs_of-step}
use Rattle.laws.specs.RegionLaws.PairRows.{rows_for}
use Rattle.assessments.specs.Held.{pair_of, Held, Adds}
use Rattle.assessments.specs.Assess.{max_cell_edges, Assesses}
use Rattle.assessments.specs.Assessing.{CountingIn, AssessesIn, CellsRoom, less_room}
use Rattle.assessments.specs.declared.Assessing.{Assessing}
use Rattle.assessments.specs.declared.BoundaryAssessment.{BoundaryAssessment}

-- ---- one step

module _ (labels : List ℕ) (es : List Pair) (e : Pair) where
  one_removed : length (es ++ (e ∷ [])) ≡ length es + 1
  one_removed = length-append es (e ∷ [])

  one_separated : {t : Bool} → is_separated labels e ≡ t → length (filter (is_separated labels) (es ++ (e ∷ []))) ≡ length (filter (is_separated labels) es) + cond t 1 0
  unfolding filter
  one_separated {t} h =
      ap length (filter-append (is_separated labels) es (e ∷ [])) ∙ length-append (filter (is_separated labels) es) (filter (is_separated labels) (e ∷ []))
      ∙ ap (λ n. length (filter (is_separated labels) es) + n) (ap (λ b. length (cond b (e ∷ []) [])) h ∙ go t)
    where
      go : (t : Bool) → length (cond t (e ∷ []) []) ≡ cond t 1 0
      go true = refl
      go false = refl

  one_pair : {t : Bool} → is_separated labels e ≡ t → pairs_of labels (es ++ (e ∷ [])) ≡ cond t (add_pair (label_pair labels e) (pairs_of labels es)) (pairs_of labels es)
  one_pair h = pairs_of-step labels es e ∙ ap (λ t. cond t (add_pair (label_pair labels e) (pairs_of labels es)) (pairs_of labels es)) h

module _ {labels : List ℕ} {span first : ℕ} {a : BoundaryAssessment} {now : List ℕ} (from to : ℕ) where
  -- its cells share a label
  pub assesses-together :
      get_or labels from 0 ≡ get_or labels to 0
      → Assesses labels span first (pair_of from to ∷ []) a now (record { removed = a.removed + 1; separated = a.separated; end = a.end; row = a.row }) now
  assesses-together q =
      let e = pair_of from to in
      let h : is_separated labels e ≡ false = ap not (eq-eqb _ _ q) in
      record {
        each = λ before old es G. record {
          removed = omega (arith, one_removed labels es e, G.removed);
          separated = omega (arith, one_separated labels es e h, G.separated);
          begins = G.begins;
          held = subst (λ l. Held (before ++ rows_for span l) old now a.end) (sym (one_pair labels es e h)) G.held;
        };
      }

  -- they do not
  pub assesses-apart :
      {lo hi end row : ℕ} {now' : List ℕ} → (get_or labels from 0 ≡ get_or labels to 0 → ⊥) → lo ≡ min (get_or labels from 0) (get_or labels to 0) → hi ≡ max (get_or labels from 0) (get_or labels to 0)
      → Adds span (pair_of lo hi) first a.end now end now'
      → Assesses labels span first (pair_of from to ∷ []) a now (record { removed = a.removed + 1; separated = a.separated + 1; end = end; row = row }) now'
  assesses-apart {lo} {hi} {end} {row} {now'} q l m A =
      let e = pair_of from to in
      let h : is_separated labels e ≡ true = ap not (ne_eqb _ _ q) in
      let p : pair_of lo hi ≡ label_pair labels e = λ i. pair_of (l i) (m i) in
      record {
        each = λ before old es G. record {
          removed = omega (arith, one_removed labels es e, G.removed);
          separated = omega (arith, one_separated labels es e h, G.separated);
          begins = G.begins;
          held =
              subst (λ l. Held (before ++ rows_for span l) old now' end) (ap (λ p. add_pair p (pairs_of labels es)) p ∙ sym (one_pair labels es e h))
              (A before old (pairs_of labels es) (record { ascends = pairs_of_ascending labels es; begins = G.begins; held = G.held }));
        };
      }

-- ---- and several

pub assessed_as : {E F : List Pair} (s t : Assessing) → E ≡ F → AssessesIn E s t → AssessesIn F s t
assessed_as s t e a = subst (λ l. AssessesIn l s t) e a

pub room_none : (s : Assessing) (m : ℕ) → CellsRoom (m + 1) s → CellsRoom m s
room_none s m r = less_room m (m + 1) (omega arith) r

-- the steps of a cell are eight at most
pub room_after : {n : ℕ} (s t : Assessing) → CountingIn n t → t.found.removed ≤ s.found.removed + max_cell_edges → (m : ℕ) → CellsRoom (m + 1) s → CellsRoom m t
room_after s t C h m r =
    record { counting = record { rows = C.rows; fewer = C.fewer; few = omega (arith, h, r.left) }; left = omega (arith, h, r.left) }
