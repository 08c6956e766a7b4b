-- `RankedBoard::serves` meets its contract, by who is to move and whether a step leads there. Assumes nothing.
use Prim.Native.Nat.{suc}
use mathlib.Core.Path.{sym, ap, ◌∙◌}
use mathlib.Core.Bool.{true, false, ◌&&◌}
use lib.Dec.{eqb, ltb}
use lib.ListN.{get_or}
use Rattle.game.specs.Ranks.{serves_by}
use Rattle.game_search.specs.Words.{rank_place, rank_at, at}
use Rattle.game_verdicts.specs.Forms.{is_runner}
use Rattle.game_verdicts.proofs.Reading.{runner-served, guard-served}
use Rattle.game_verdicts.proofs.RankedBoard.serves.Goals as goal

pub returns-then-not-has : goal.returns-then-not-has
returns-then-not-has c =
    let s = c.args.self in
    let p = c.args.place in
    let ranks = s.ranks.now in
    let there = get_or ranks (rank_place c.args.d p.guard false) 0 in
    let here = get_or ranks (rank_place p.runner p.guard true) 0 in
    record {
      is = λ G regions goal P.
          sym (ap (λ b. (b && ltb 0 there) && ltb there here) (sym c.has.ensures ∙ c.if-not-has.true))
          ∙ runner-served s.board.now.near regions goal G P ranks p.runner p.guard c.args.d c.requires.0 c.requires.2
          ∙ ap (λ side. serves_by G (rank_at ranks) (at p.runner p.guard (is_runner side)) (suc c.args.d)) (sym c.in-Runner.is);
    }

pub returns-else-not-has : goal.returns-else-not-has
returns-else-not-has c =
    let s = c.args.self in
    let p = c.args.place in
    let ranks = s.ranks.now in
    let there = get_or ranks (rank_place c.args.d p.guard false) 0 in
    let here = get_or ranks (rank_place p.runner p.guard true) 0 in
    let at_here = c.rank.ensures ∙ ap (λ side. get_or ranks (rank_place p.runner p.guard (is_runner side)) 0) c.in-Runner.is in
    record {
      is = λ G regions goal P.
          (λ i. ltb 0 (c.rank-there.ensures i) && ltb (c.rank-there.ensures i) (at_here i))
          ∙ sym (ap (λ b. (b && ltb 0 there) && ltb there here) (sym c.has.ensures ∙ c.if-not-has.false))
          ∙ runner-served s.board.now.near regions goal G P ranks p.runner p.guard c.args.d c.requires.0 c.requires.2
          ∙ ap (λ side. serves_by G (rank_at ranks) (at p.runner p.guard (is_runner side)) (suc c.args.d)) (sym c.in-Runner.is);
    }

pub returns-then-not-has-2 : goal.returns-then-not-has-2
returns-then-not-has-2 c =
    let s = c.args.self in
    let p = c.args.place in
    let ranks = s.ranks.now in
    record {
      is = λ G regions goal P.
          sym (ap (λ b. b && eqb (get_or ranks (rank_place p.runner c.args.d true) 0) 0) (sym c.has-in-Guard.ensures ∙ c.if-not-has-2.true))
          ∙ guard-served s.board.now.near regions goal G P ranks p.runner p.guard c.args.d c.requires.1 c.requires.2
          ∙ ap (λ side. serves_by G (rank_at ranks) (at p.runner p.guard (is_runner side)) (suc c.args.d)) (sym c.in-Guard.is);
    }

pub returns-else-not-has-2 : goal.returns-else-not-has-2
returns-else-not-has-2 c =
    let s = c.args.self in
    let p = c.args.place in
    let ranks = s.ranks.now in
    record {
      is = λ G regions goal P.
          ap (λ n. eqb n 0) c.rank-there-in-Guard.ensures
          ∙ sym (ap (λ b. b && eqb (get_or ranks (rank_place p.runner c.args.d true) 0) 0) (sym c.has-in-Guard.ensures ∙ c.if-not-has-2.false))
          ∙ guard-served s.board.now.near regions goal G P ranks p.runner p.guard c.args.d c.requires.1 c.requires.2
          ∙ ap (λ side. serves_by G (rank_at ranks) (at p.runner p.guard (is_runner side)) (suc c.args.d)) (sym c.in-Guard.is);
    }
