-- What the two parts ensure: the rows, and a mark for each that the records allow, as `ProposalLoops` puts them together.
use Rattle.std.proofs.Common.{arith}
use Rattle.junction_proposals.proofs.Proposing.{shows-lent}
use Rattle.topology.proofs.ProposalLoops.{pass_allows, allows-front, allowed-front}
use Rattle.topology.proofs.junction_pass.allowed_proposals.Goals as goal

pub find_proposals-n-requires-clause-lent : goal.find_proposals-n-requires-clause-lent
find_proposals-n-requires-clause-lent c = shows-lent c.requires.lists_show.1.shown

pub allow_proposals-requires-clause-rows_fit : goal.allow_proposals-requires-clause-rows_fit
allow_proposals-requires-clause-rows_fit c =
    let found = c.find_proposals-n.ensures in
    (_, allows-front (pass_allows c.requires.lists_show.1 found.bound (omega (arith, c.requires.room.0, c.find_proposals-n.auto.rows)) found.rows_fit))

pub returns : goal.returns
returns c = λ C h.
    let found = c.find_proposals-n.ensures in
    record {
      few = found.bound;
      fits = found.rows_fit;
      are = found.allowed C h.shown;
      judged =
          allowed-front (omega (arith, found.bound, c.requires.room.0, c.find_proposals-n.auto.rows))
          (c.allow_proposals.ensures C (allows-front (pass_allows h found.bound (omega (arith, c.requires.room.0, c.find_proposals-n.auto.rows)) found.rows_fit)));
    }
