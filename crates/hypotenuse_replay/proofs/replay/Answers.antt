-- `replay` meets its contract: at a line's end the line is counted, and within a line nothing is. Assumes nothing.
use mathlib.Core.Path.{◌≡◌, sym, ap, ◌∙◌}
use mathlib.Core.Bool.{Bool}
use mir.Val.{bool_byte}
use Rattle.laws.specs.ListLaws.Flags.{bool-bit}
use Rattle.definitions.specs.Scan.{bit}
use mathlib.Core.List.{[]}
use Prim.Native.Nat.{ℕ, ◌+◌}
use native.Mathlib.Omega.{arith}
use lib.ListN.{length, drop}
use lib.Seq.{drop-length}
use Rattle.hypotenuse_replay.specs.Lines.{part, lines_in, answers_in}
use Rattle.hypotenuse_replay.proofs.Replayed.{at_end, within}
use Rattle.hypotenuse_replay.proofs.replay.Goals as goal
use Rattle.hypotenuse_replay.proofs.replay.Goals.{then-b-eq10+in_ok-ours, else-b-eq10}

sum_is : (b a n : ℕ) (ours test : Bool) → b ≡ a + n → n ≡ bool_byte ours → ours ≡ test → b ≡ a + bit test
sum_is b a n ours test e f g = e ∙ ap (λ m. a + m) (f ∙ ap bool_byte g ∙ bool-bit test)

pub loop-i-preserved : goal.loop-i-preserved
loop-i-preserved g c =
    let l = c.loop-i in
    let s = c.args.s.now in
    let h = c.loop-i-test.true in
    let r = c.if-b-eq10 in
    elim c.if-b-eq10.branch [
      | then-b-eq10+in_ok-ours w ↦
          at_end s _ _ l.tally.0 l.tally.1.0 l.start l.i l.invariant h w.if-b-eq10.true r.tally.0 r.tally.1.0 r.start (ap (λ t. t.0) w.tally-is)
          (sum_is _ _ _ _ _ (ap (λ t. t.1.0) w.tally-is) w.from.ensures w.in_ok-ours.ensures) w.start-is
      | else-b-eq10 w ↦ within s _ _ l.tally.0 l.tally.1.0 l.start l.i l.invariant h w.if-b-eq10.false r.tally.0 r.tally.1.0 r.start (ap (λ t. t.0) w.tally-is) (ap (λ t. t.1.0) w.tally-is) w.start-is
    ]

pub returns : goal.returns
unfolding answers_in
returns g c =
    let l = c.loop-i in
    let s = c.args.s.now in
    let whole : length s ≡ l.i = omega (arith, c.loop-i-test.false, l.invariant.i_le) in
    let none : drop l.i s ≡ [] = ap (λ (j : ℕ). drop j s) (sym whole) ∙ drop-length s in
    omega (arith, l.invariant, ap lines_in none, ap (answers_in (part l.start l.i s)) none)
