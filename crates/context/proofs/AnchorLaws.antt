-- From zeros, marking the labels of the anchors' cells shows which regions are anchored, and what stands beyond the regions' marks is as it was. Assumes nothing.
use Prim.Native.Nat.{ℕ, zero, suc, ◌-◌, ◌/◌, ◌%◌, ◌≤◌, ◌<◌}
use native.Mathlib.Omega.{arith}
use native.Mathlib.Nat.{le_trans}
use mathlib.Core.Path.{◌≡◌, refl, sym, ap, ap₂, ◌∙◌, subst}
use mathlib.Core.Bool.{Bool, true, false, ◌||◌, cond}
use mathlib.Core.Logic.{⊎_elim}
use mathlib.Core.List.{List, [], ◌∷◌}
use lib.ListN.{length, get_or, set, drop, length-set}
use lib.Seq.{get_or-set_same, get_or-set_other, drop-set-lt}
use lib.Dec.{eqb}
use borrow.Author.Tests.{eq-eqb, ne_eqb, eqb-false}
use Rattle.definitions.specs.Limits.{numbers_per_anchor}
use Rattle.definitions.specs.Scan.{any}
use Rattle.definitions.specs.Grid.{Map, map_of}
use Rattle.definitions.specs.Partition.{labels, region_count}
use Rattle.definitions.specs.Context.{context_of, anchored_of}
use Rattle.laws.specs.ListLaws.Lists.{All, done, more}
use Rattle.laws.specs.ListLaws.Beyond.{Beyond}
use Rattle.laws.specs.NumberLaws.Comparisons.{same_or}
use Rattle.context.specs.Anchors.{anchor_cells, mark_label, mark_cells}
use Rattle.context.specs.Shown.{ShownAnchored}

-- the anchors of a map are these cells
pub map-anchors : (w h : ℕ) (cells spans boundaries anchors : List ℕ) → (map_of w h cells spans boundaries anchors).anchors ≡ anchor_cells w anchors (length anchors / numbers_per_anchor)
unfolding map_of anchor_cells
map-anchors w h cells spans boundaries anchors = refl

module _ (ls : List ℕ) where
  pub marks-length : (marks cs : List ℕ) → length (mark_cells ls marks cs) ≡ length marks
  unfolding mark_cells
  marks-length marks [] = refl
  marks-length marks (c ∷ cs) = marks-length (mark_label marks (get_or ls c 0)) cs ∙ one (eqb (get_or ls c 0) 0)
    where
      one : (b : Bool) → length (cond b marks (set marks (get_or ls c 0 - 1) 1)) ≡ length marks
      one true = refl
      one false = length-set marks (get_or ls c 0 - 1) 1

  label_at : (marks : List ℕ) (l r : ℕ) → 1 ≤ r → r ≤ length marks → get_or (mark_label marks l) (r - 1) 0 ≡ cond (eqb l r) 1 (get_or marks (r - 1) 0)
  label_at marks l r h m = ⊎_elim here there (same_or l r)
    where
      here : l ≡ r → get_or (mark_label marks l) (r - 1) 0 ≡ cond (eqb l r) 1 (get_or marks (r - 1) 0)
      here e =
          ap (λ b. get_or (cond b marks (set marks (l - 1) 1)) (r - 1) 0) (ne_eqb l 0 (λ z. omega (arith, z, e)))
          ∙ ap (λ l. get_or (set marks (l - 1) 1) (r - 1) 0) e ∙ get_or-set_same marks (r - 1) 1 0 (omega arith)
          ∙ sym (ap (λ b. cond b 1 (get_or marks (r - 1) 0)) (eq-eqb l r e))

      there : (l ≡ r → ⊥) → get_or (mark_label marks l) (r - 1) 0 ≡ cond (eqb l r) 1 (get_or marks (r - 1) 0)
      there e = go (eqb l 0) refl ∙ sym (ap (λ b. cond b 1 (get_or marks (r - 1) 0)) (ne_eqb l r e))
        where
          go : (b : Bool) → eqb l 0 ≡ b → get_or (cond b marks (set marks (l - 1) 1)) (r - 1) 0 ≡ get_or marks (r - 1) 0
          go true k = refl
          go false k = get_or-set_other marks (l - 1) (r - 1) 1 0 (λ z. e (omega (arith, z, positive l (eqb-false l 0 k))))
            where
              positive : (l : ℕ) → (l ≡ 0 → ⊥) → 1 ≤ l
              positive zero n = absurd (n refl)
              positive (suc l) n = omega arith

  -- marked where it was, or where a cell of the list has the label
  marked_at_lem : (marks cs : List ℕ) (r : ℕ) → 1 ≤ r → r ≤ length marks → get_or (mark_cells ls marks cs) (r - 1) 0 ≡ cond (any (λ c. eqb (get_or ls c 0) r) cs) 1 (get_or marks (r - 1) 0)
  unfolding mark_cells any
  marked_at_lem marks [] r h m = refl
  marked_at_lem marks (c ∷ cs) r h m =
      marked_at_lem (mark_label marks (get_or ls c 0)) cs r h (subst (λ n. r ≤ n) (sym (marks-length marks (c ∷ []))) m)
      ∙ ap (cond (any (λ c. eqb (get_or ls c 0) r) cs) 1) (label_at marks (get_or ls c 0) r h m) ∙ go (any (λ c. eqb (get_or ls c 0) r) cs) (eqb (get_or ls c 0) r)
    where
      go : (a b : Bool) → cond a 1 (cond b 1 (get_or marks (r - 1) 0)) ≡ cond (b || a) 1 (get_or marks (r - 1) 0)
      go true true = refl
      go true false = refl
      go false true = refl
      go false false = refl

  -- labels up to n leave the rest as it was
  pub marked-beyond : (n : ℕ) (marks cs : List ℕ) → All (λ c. get_or ls c 0 ≤ n) cs → Beyond n marks (mark_cells ls marks cs)
  unfolding mark_cells
  marked-beyond n marks [] done = record { long = refl; rest = refl }
  marked-beyond n marks (c ∷ cs) (more h a) =
      let later = marked-beyond n (mark_label marks (get_or ls c 0)) cs a in
      record { long = marks-length marks (c ∷ cs); rest = later.rest ∙ one (get_or ls c 0) h }
    where
      one : (l : ℕ) → l ≤ n → drop n (mark_label marks l) ≡ drop n marks
      one zero h = refl
      one (suc l) h = ap (λ b. drop n (cond b marks (set marks (suc l - 1) 1))) (ne_eqb (suc l) 0 (λ z. omega (arith, z))) ∙ drop-set-lt n marks (suc l - 1) 1 (omega arith)

-- from zeros, of labels that agree with the map's at the anchors
pub marked-shown : (M : Map) (ls marks cs : List ℕ) → M.anchors ≡ cs → All (λ c. get_or ls c 0 ≡ get_or (labels M) c 0) cs → region_count M ≤ length marks
    → ((k : ℕ) → k < region_count M → get_or marks k 0 ≡ 0) → ShownAnchored (context_of M) (mark_cells ls marks cs)
unfolding context_of anchored_of any
marked-shown M ls marks cs e same room z =
    record {
      long = subst (λ n. region_count M ≤ n) (sym (marks-length ls marks cs)) room;
      at = λ r h l.
          ap (any (λ c. eqb (get_or (labels M) c 0) r)) e ∙ sym (agree r cs same) ∙ odd (any (λ c. eqb (get_or ls c 0) r) cs)
          ∙ ap (λ v. eqb (v % 2) 1) (sym (marked_at_lem ls marks cs r h (le_trans l room) ∙ ap (cond (any (λ c. eqb (get_or ls c 0) r) cs) 1) (z (r - 1) (omega arith))));
    }
  where
    agree : (r : ℕ) (cs : List ℕ) → All (λ c. get_or ls c 0 ≡ get_or (labels M) c 0) cs → any (λ c. eqb (get_or ls c 0) r) cs ≡ any (λ c. eqb (get_or (labels M) c 0) r) cs
    agree r [] done = refl
    agree r (c ∷ cs) (more h a) = ap₂ ◌||◌ (ap (λ l. eqb l r) h) (agree r cs a)

    odd : (b : Bool) → b ≡ eqb (cond b 1 0 % 2) 1
    odd true = refl
    odd false = refl
