-- `PartitionContext::count_incidents` meets its contract: it counts in the first entries, one a region. Assumes nothing.
use Rattle.context.proofs.IncidentWhole.{whole-shown}
use Rattle.context.proofs.PartitionContext.count_incidents.Goals as goal

pub returns-clause-shown : goal.returns-clause-shown
returns-clause-shown c = λ C e r P.
    whole-shown c.args.self.pairs.now c.args.self.starts.now c.args.self.count c.args.regions c.args.counts.now c.requires.sizes.0 c.count_regions.ensures C e r P c.requires.sizes.1
