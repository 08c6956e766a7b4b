-- What is known of the counts at a place of the text, and a turn of the loop that counts. Assumes nothing.
use mathlib.Core.Path.{◌≡◌, sym, ap, ◌∙◌}
use mathlib.Core.Bool.{Bool, true, false, cond}
use mathlib.Core.List.{List, [], ◌∷◌, ◌++◌}
use Prim.Native.Nat.{ℕ, suc, ◌+◌, ◌-◌, ◌≤◌, ◌<◌}
use native.Mathlib.Numerals.{add-one}
use native.Mathlib.Omega.{arith}
use borrow.Author.Tests.{eq-eqb, ne_eqb}
use lib.ListN.{length, get_or, take, drop, length-drop}
use lib.Seq.{drop-cons, take-suc, get_or-drop}
use Rattle.definitions.specs.Scan.{bit}
use Rattle.hypotenuse_replay.specs.Lines.{part, is_answer_line, lines_in, answers_in}

pub record Replayed (s : List ℕ) (lines₀ answers₀ lines answers start i : ℕ) : Type 0 where
  pub lines_are : lines + lines_in (drop i s) ≡ lines₀ + lines_in s
  pub answers_are : answers + answers_in (part start i s) (drop i s) ≡ answers₀ + answers_in [] s
  pub fewer : answers ≤ lines
  pub few : lines ≤ lines₀ + i
  pub start_le : start ≤ i
  pub i_le : i ≤ length s

module _ (s : List ℕ) (i : ℕ) (h : i < length s) where
  next : drop i s ≡ get_or s i 0 ∷ drop (i + 1) s
  next = drop-cons s i 0 h ∙ ap (λ (j : ℕ). get_or s i 0 ∷ drop j s) (sym (add-one i))

  longer : (start : ℕ) → start ≤ i → part start (i + 1) s ≡ part start i s ++ (get_or s i 0 ∷ [])
  longer start l =
      ap (λ (n : ℕ). take n (drop start s)) (more i start l)
      ∙ take-suc (drop start s) (i - start) 0 (omega (arith, length-drop start s))
      ∙ ap (λ (b : ℕ). part start i s ++ (b ∷ [])) (get_or-drop start s (i - start) 0 ∙ ap (λ (j : ℕ). get_or s j 0) (back i start l))
    where
      more : (i start : ℕ) → start ≤ i → i + 1 - start ≡ suc (i - start)
      more i start l = omega arith

      back : (i start : ℕ) → start ≤ i → start + (i - start) ≡ i
      back i start l = omega arith

  module _ (line : List ℕ) where
    lines_at_end : get_or s i 0 ≡ 10 → lines_in (drop i s) ≡ 1 + lines_in (drop (i + 1) s)
    lines_at_end e = ap lines_in next ∙ ap (λ (t : Bool). cond t (1 + lines_in (drop (i + 1) s)) (lines_in (drop (i + 1) s))) (eq-eqb (get_or s i 0) 10 e)

    lines-within : (get_or s i 0 ≡ 10 → ⊥) → lines_in (drop i s) ≡ lines_in (drop (i + 1) s)
    lines-within n = ap lines_in next ∙ ap (λ (t : Bool). cond t (1 + lines_in (drop (i + 1) s)) (lines_in (drop (i + 1) s))) (ne_eqb (get_or s i 0) 10 n)

    answers_at_end : get_or s i 0 ≡ 10 → answers_in line (drop i s) ≡ bit (is_answer_line line) + answers_in [] (drop (i + 1) s)
    unfolding answers_in
    answers_at_end e =
        ap (answers_in line) next
        ∙ ap (λ (t : Bool). cond t (bit (is_answer_line line) + answers_in [] (drop (i + 1) s)) (answers_in (line ++ (get_or s i 0 ∷ [])) (drop (i + 1) s))) (eq-eqb (get_or s i 0) 10 e)

    answers-within : (get_or s i 0 ≡ 10 → ⊥) → answers_in line (drop i s) ≡ answers_in (line ++ (get_or s i 0 ∷ [])) (drop (i + 1) s)
    unfolding answers_in
    answers-within n =
        ap (answers_in line) next
        ∙ ap (λ (t : Bool). cond t (bit (is_answer_line line) + answers_in [] (drop (i + 1) s)) (answers_in (line ++ (get_or s i 0 ∷ [])) (drop (i + 1) s))) (ne_eqb (get_or s i 0) 10 n)

-- a turn at a line's end, and within a line
module _ (s : List ℕ) (lines₀ answers₀ lines answers start i : ℕ) (r : Replayed s lines₀ answers₀ lines answers start i) (h : i < length s) where
  pub at_end : get_or s i 0 ≡ 10 → (lines' answers' start' : ℕ) → lines' ≡ lines + 1 → answers' ≡ answers + bit (is_answer_line (part start i s)) → start' ≡ i + 1 → Replayed s lines₀ answers₀ lines' answers' start' (i + 1)
  at_end e lines' answers' start' p q t =
      let line = part start i s in
      let none : answers_in (part start' (i + 1) s) (drop (i + 1) s) ≡ answers_in [] (drop (i + 1) s) = ap (λ (n : ℕ). answers_in (take n (drop start' s)) (drop (i + 1) s)) (empty t) in
      let one = bit_le (is_answer_line line) in
      record {
        lines_are = omega (arith, lines_at_end s i h line e, r.lines_are);
        answers_are = omega (arith, answers_at_end s i h line e, none, r.answers_are);
        fewer = omega (arith, r.fewer);
        few = omega (arith, r.few);
        start_le = omega arith;
        i_le = omega arith;
      }
    where
      empty : {a b : ℕ} → a ≡ b → b - a ≡ 0
      empty e = omega arith

      bit_le : (t : Bool) → bit t ≤ 1
      bit_le true = omega arith
      bit_le false = omega arith

  pub within : (get_or s i 0 ≡ 10 → ⊥) → (lines' answers' start' : ℕ) → lines' ≡ lines → answers' ≡ answers → start' ≡ start → Replayed s lines₀ answers₀ lines' answers' start' (i + 1)
  within n lines' answers' start' p q t =
      let line = part start i s in
      let same : answers_in (part start' (i + 1) s) (drop (i + 1) s) ≡ answers_in (line ++ (get_or s i 0 ∷ [])) (drop (i + 1) s) =
      ap (λ (a : ℕ). answers_in (part a (i + 1) s) (drop (i + 1) s)) t ∙ ap (λ (l : List ℕ). answers_in l (drop (i + 1) s)) (longer s i h start r.start_le) in
      record {
        lines_are = omega (arith, lines-within s i h line n, r.lines_are);
        answers_are = omega (arith, answers-within s i h line n, same, r.answers_are);
        fewer = omega (arith, r.fewer);
        few = omega (arith, r.few);
        start_le = omega (arith, r.start_le);
        i_le = omega arith;
      }
