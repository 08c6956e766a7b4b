-- `accession::records::accession_at` meets its contract: record i is a chunk of the list. Assumes nothing.
use Rattle.std.proofs.Common.{[]}
use Rattle.catalogue.proofs.Chunks.{record-at}
use Rattle.accession.proofs.records.accession_at.Goals as goal

pub returns : goal.returns
returns c = record-at c.args.records.now c.args.i [] c.as_chunks.ensures.front c.requires
