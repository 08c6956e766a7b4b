-- `topology::records::clear_records` meets its contract: the first `needed` records are empty, and those behind them are as they were. Assumes nothing.
use Rattle.std.proofs.Common.{rules, ◌≡◌, length, take}
use lib.ListN.{replicate}
use Rattle.topology.proofs.Emptying.{emptied}
use Rattle.topology.proofs.records.clear_records.Goals as goal

pub returns : goal.returns
returns c =
    let t : c.fill.new.self ≡ replicate (length (take c.args.needed c.args.records.now)) c.empty.result = search rules in
    emptied c.empty.result c.args.needed c.args.records.now c.requires t c.empty.ensures
