-- `entries::show` meets its contract: the record is shown in the entry of its map, or there is none. Assumes nothing.
use Rattle.std.proofs.Common.{◌*◌}
use Rattle.pool_entries.specs.Steps.{record_in}
use Rattle.pool_entries.proofs.Showing.{none_shown, its_map, three-stored}
use Rattle.pool_entries.proofs.entries.show.Goals as goal

pub returns-in-Some : goal.returns-in-Some
returns-in-Some c =
    its_map c.args.entries.now (record_in c.args.accession.now) c.in-Some.k c.in-Some.ensures.1 (three-stored c.args.entries.now (4 * c.in-Some.k) _ _ _)

pub returns-in_default : goal.returns-in_default
returns-in_default c = none_shown c.args.entries.now (record_in c.args.accession.now) c.in_default.ensures.1
