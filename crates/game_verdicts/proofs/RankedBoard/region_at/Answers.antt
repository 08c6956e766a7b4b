-- `RankedBoard::region_at` meets its contract: play is over, the winner is not to move, or a region is named. Assumes nothing.
use mathlib.Core.Path.{◌≡◌, sym, ◌∙◌}
use mathlib.Core.Bool.{Bool, not, beq}
use borrow.Author.Tests.{not-true, not-false}
use denote.Enum.Bare.{sameb}
use Rattle.game_verdicts.specs.contracts.Side.{the_type}
use Rattle.game_verdicts.specs.declared.Side.{Side}
use Rattle.game_verdicts.specs.declared.Side.TheVariants as side
use Rattle.game_verdicts.specs.Forms.{is_runner}
use Rattle.game_verdicts.proofs.Reading.{over-unnamed, idle-told, region-told}
use Rattle.game_verdicts.proofs.RankedBoard.region_at.Goals as goal

-- the code's test
told : (a b : Side) {x : Bool} → x ≡ not (sameb the_type a b) → x ≡ not (beq (is_runner a) (is_runner b))
told side.Runner side.Runner q = q
told side.Runner side.Guard q = q
told side.Guard side.Runner q = q
told side.Guard side.Guard q = q

pub returns-then-place-self : goal.returns-then-place-self
returns-then-place-self c =
    let s = c.args.self in
    let p = c.args.place in
    λ G P e. over-unnamed s.board.now.near s.board.now.regions s.board.now.goal G P s.ranks.now p.runner p.guard _ c.if-place-self.true

pub returns-then-ne : goal.returns-then-ne
returns-then-ne c =
    let s = c.args.self in
    let p = c.args.place in
    λ G P e. idle-told s.board.now.near s.board.now.regions s.board.now.goal G P s.ranks.now p.runner p.guard p.side c.args.winner e (not-true _ (sym (told p.side c.args.winner c.ne.ensures) ∙ c.if-ne.true))

pub returns : goal.returns
returns c =
    let s = c.args.self in
    let p = c.args.place in
    λ G P e.
    c.region_for.ensures.answer G s.board.now.goal P
    ∙ region-told s.board.now.near s.board.now.regions s.board.now.goal G P s.ranks.now p.runner p.guard p.side c.args.winner e c.if-place-self.false (not-false _ (sym (told p.side c.args.winner c.ne.ensures) ∙ c.if-ne.false))
