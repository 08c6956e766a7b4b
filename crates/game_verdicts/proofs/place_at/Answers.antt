-- `place_at` meets its contract: the number's half says the regions, and its last bit who is to move. Assumes nothing.
use Rattle.std.proofs.Common.{sym, ap, ◌/◌, ◌%◌}
use borrow.Author.Tests.{eq-eqb, ne_eqb}
use Rattle.game.specs.Graph.{place_at}
use Rattle.game_search.specs.Words.{at}
use Rattle.game_verdicts.proofs.place_at.Goals as goal

pub returns-then-c-eq0-clause-is : goal.returns-then-c-eq0-clause-is
unfolding place_at
returns-then-c-eq0-clause-is c = ap (at (c.args.c / 2 / c.args.regions) (c.args.c / 2 % c.args.regions)) (sym (eq-eqb (c.args.c % 2) 0 c.if-c-eq0.true))

pub returns-else-c-eq0-clause-is : goal.returns-else-c-eq0-clause-is
unfolding place_at
returns-else-c-eq0-clause-is c = ap (at (c.args.c / 2 / c.args.regions) (c.args.c / 2 % c.args.regions)) (sym (ne_eqb (c.args.c % 2) 0 c.if-c-eq0.false))
