-- The labels while they are walked (`Turning`): what the rule says of those that are left, with so many numbers started, it says of all. Assumes nothing.
use Prim.Native.Nat.{ℕ, suc, ◌+◌, ◌/◌, ◌<◌, ◌≤◌}
use native.Mathlib.Omega.{arith}
use native.Mathlib.Numerals.{add-one}
use mathlib.Core.Path.{◌≡◌, refl, sym, ap, ◌∙◌}
use mathlib.Core.Bool.{Bool, true, false, cond}
use mathlib.Core.List.{List, [], ◌∷◌, map}
use lib.Dec.{leb, eqb}
use lib.ListN.{length, drop, get_or, drop_of_length-le}
use lib.Seq.{drop-cons}
use Rattle.definitions.specs.Refusals.{unless}
use Rattle.results.specs.Result.{Entry, out_of_turn, in_turn, turns, labels_fault}
use Rattle.results.specs.ResultAnswers.{chunks, entries_in}
use Rattle.result_writer.specs.Contract.{turn_of}
use Rattle.std.specs.Prelude.{None, Some}

-- ---- all labels

abbrev one : ℕ → Entry
one label = record { place = 0; numbers = label ∷ [] }

abbrev ones : List ℕ → List Entry
ones l = map one l

as_ones : (l : List ℕ) → entries_in 1 l ≡ ones l
unfolding entries_in chunks
as_ones l =
    let each : length l / 1 ≡ length l = omega arith in
    ap (λ n. map (λ numbers. record { place = 0; numbers = numbers }) (chunks n 1 l)) each ∙ go l
  where
    go : (m : List ℕ) → map (λ numbers. record { place = 0; numbers = numbers }) (chunks (length m) 1 m) ≡ ones m
    go [] = refl
    go (x ∷ m) = ap (λ r. one x ∷ r) (go m)

module _ (regions n label : ℕ) (l : List Entry) where
  step-started : {m : ℕ} → turn_of regions n label ≡ Some m → turns regions n (one label ∷ l) ≡ turns regions m l
  unfolding turns
  step-started {m} h = go (leb label n) (in_turn regions n label) h
    where
      go : (t u : Bool) → cond t (Some n) (cond u (Some (n + 1)) None) ≡ Some m
          → cond t (turns regions n l) (cond u (turns regions (n + 1) l) (out_of_turn 0)) ≡ turns regions m l
      go true u h =
          let e : n ≡ m = cc in
          ap (λ k. turns regions k l) e
      go false true h =
          let e : n + 1 ≡ m = cc in
          ap (λ k. turns regions k l) e
      go false false h = absurd (let z : ◌≡◌ {A = ℕ} 0 1 = cc in omega arith)

  step-out : turn_of regions n label ≡ None → turns regions n (one label ∷ l) ≡ out_of_turn 0
  unfolding turns
  step-out h = go (leb label n) (in_turn regions n label) h
    where
      go : (t u : Bool) → cond t (Some n) (cond u (Some (n + 1)) None) ≡ None
          → cond t (turns regions n l) (cond u (turns regions (n + 1) l) (out_of_turn 0)) ≡ out_of_turn 0
      go true u h = absurd (let z : ◌≡◌ {A = ℕ} 0 1 = cc in omega arith)
      go false true h = absurd (let z : ◌≡◌ {A = ℕ} 0 1 = cc in omega arith)
      go false false h = refl

pub record Turning (regions : ℕ) (labels : List ℕ) (n i : ℕ) : Type 0 where
  pub few : i ≤ length labels
  pub same : turns regions n (ones (drop i labels)) ≡ turns regions 0 (ones labels)

module _ {regions n i : ℕ} {labels : List ℕ} (T : Turning regions labels n i) where
  next_label : i < length labels → turns regions n (one (get_or labels i 0) ∷ ones (drop (suc i) labels)) ≡ turns regions 0 (ones labels)
  next_label h = ap (λ m. turns regions n (ones m)) (sym (drop-cons labels i 0 h)) ∙ T.same

  pub turning-goes_on : i < length labels → {m : ℕ} → turn_of regions n (get_or labels i 0) ≡ Some m → Turning regions labels m (i + 1)
  turning-goes_on h e =
      record {
        few = omega arith;
        same = rw (add-one i) (sym (step-started regions n (get_or labels i 0) (ones (drop (suc i) labels)) e) ∙ next_label h);
      }

  pub turning-stops : i < length labels → turn_of regions n (get_or labels i 0) ≡ None → labels_fault regions 0 (turns regions 0 (entries_in 1 labels)) ≡ unless false
  turning-stops h e =
      ap (λ m. labels_fault regions 0 (turns regions 0 m)) (as_ones labels) ∙ ap (labels_fault regions 0) (sym (next_label h) ∙ step-out regions n (get_or labels i 0) (ones (drop (suc i) labels)) e)

  pub turning-ends : length labels ≤ i → labels_fault regions 0 (turns regions 0 (entries_in 1 labels)) ≡ unless (eqb n regions)
  unfolding turns
  turning-ends h =
      ap (λ m. labels_fault regions 0 (turns regions 0 m)) (as_ones labels) ∙ ap (labels_fault regions 0) (sym T.same)
      ∙ ap (λ m. labels_fault regions 0 (turns regions n (ones m))) (drop_of_length-le labels h)
