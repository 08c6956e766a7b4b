-- `terms::term_at` meets its contract: term i is a chunk of the list. Assumes nothing.
use Rattle.std.proofs.Common.{arith, ◌∙◌}
use Rattle.pool_terms.proofs.Chunks.{term_in-chunk}
use Rattle.pool_terms.proofs.terms.term_at.Goals as goal

pub returns : goal.returns
returns c = c.read.ensures ∙ term_in-chunk c.args.terms.now c.args.i c.as_chunks.ensures.front (omega (arith, c.requires))
