-- `accession::held::Held::new` meets its contract: no record is held by zeros. Assumes nothing.
use Rattle.std.proofs.lemmas.List.{length-replicate}
use Rattle.accession.proofs.Holding.{holds_none, replicate_at}
use Rattle.accession.proofs.held.Held.new.Goals as goal

pub returns-clause-table : goal.returns-clause-table
returns-clause-table g c = λ records. holds_none records _ _ (length-replicate _ _) c.requires.0 (replicate_at 0 _)
