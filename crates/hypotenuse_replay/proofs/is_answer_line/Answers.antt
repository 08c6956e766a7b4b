-- `is_answer_line` meets its contract: its tests are those of the definition, one after the other. Assumes nothing.
use mathlib.Core.Path.{◌≡◌, sym, ◌∙◌}
use mathlib.Core.Bool.{false, ◌&&◌}
use mathlib.Core.List.{List}
use Prim.Native.Nat.{ℕ, ◌-◌, ◌≤◌, ◌<◌}
use borrow.Author.Tests.{le-leb, lt-leb}
use lib.Dec.{eqb}
use lib.ListN.{length}
use Rattle.hypotenuse_replay.specs.Lines.{digits_after, number_of_bits, root_of_bits, part, is_answer_line}
use Rattle.hypotenuse_replay.proofs.is_answer_line.Goals as goal
use Rattle.hypotenuse_replay.proofs.is_answer_line.Goals.{then-n-lt-SHORTEST_LINE-via-then-n-lt-SHORTEST_LINE, then-n-lt-SHORTEST_LINE-via-else-n-lt-SHORTEST_LINE+then-n-gt-LONGEST_LINE}

module _ (l : List ℕ) where
  too_short : length l < 52 → false ≡ is_answer_line l
  unfolding is_answer_line
  too_short h = sym (simp (lt-leb 52 (length l) h))

  too_long : 52 ≤ length l → 60 < length l → false ≡ is_answer_line l
  unfolding is_answer_line
  too_long h g = sym (simp (le-leb 52 (length l) h, lt-leb (length l) 60 g))

  -- ours is the answer to x and y, as the line has them; number and root are what it has stored
  compared : 52 ≤ length l → length l ≤ 60 → (x y number root ourNumber ourRoot : ℕ)
      → x ≡ digits_after 16 0 (part 0 16 l) → y ≡ digits_after 16 0 (part 17 33 l)
      → number ≡ digits_after 10 0 (part 34 (length l - 17) l) → root ≡ digits_after 16 0 (part (length l - 16) (length l) l)
      → ourNumber ≡ number_of_bits x y → ourRoot ≡ root_of_bits x y
      → (eqb ourNumber number && eqb ourRoot root) ≡ is_answer_line l
  unfolding is_answer_line
  compared h g x y number root ourNumber ourRoot ex ey en er on or =
      sym
      (λ i.
      le-leb 52 (length l) h i
      && le-leb (length l) 60 g i
      && eqb (sym (on ∙ (λ j. number_of_bits (ex j) (ey j))) i) (sym en i)
      && eqb (sym (or ∙ (λ j. root_of_bits (ex j) (ey j))) i) (sym er i))

pub returns-then-n-lt-SHORTEST_LINE : goal.returns-then-n-lt-SHORTEST_LINE
returns-then-n-lt-SHORTEST_LINE c =
    elim c.then-n-lt-SHORTEST_LINE.branch [
      | then-n-lt-SHORTEST_LINE-via-then-n-lt-SHORTEST_LINE w ↦ too_short c.args.s.now w.if-n-lt-SHORTEST_LINE.true
      | then-n-lt-SHORTEST_LINE-via-else-n-lt-SHORTEST_LINE+then-n-gt-LONGEST_LINE w ↦ too_long c.args.s.now w.if-n-lt-SHORTEST_LINE.false w.if-n-gt-LONGEST_LINE.true
    ]

pub returns : goal.returns
returns c =
    let ours = c.answer_of.result in
    c.eq.ensures
    ∙ compared c.args.s.now c.if-n-lt-SHORTEST_LINE.false c.if-n-gt-LONGEST_LINE.false c.number-x.result c.number-y.result c.number.result c.number-2.result ours.number ours.root c.number-x.ensures c.number-y.ensures c.number.ensures c.number-2.ensures c.answer_of.ensures.0 c.answer_of.ensures.1
