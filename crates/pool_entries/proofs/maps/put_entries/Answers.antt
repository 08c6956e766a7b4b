-- `maps::put_entries` meets its contract: the maps are put, sorted and spread. Assumes nothing.
use Rattle.catalogue.specs.Pool.{maps_in, maps_of_day}
use Rattle.pool_entries.proofs.Spreading.{listed}
use Rattle.pool_entries.proofs.maps.put_entries.Goals as goal

pub returns : goal.returns
unfolding maps_of_day
returns c =
    let lent = c.args in
    listed (maps_in lent.terms.now lent.day) lent.entries.now c.put_maps-count.ensures.count c.requires c.put_maps-count.ensures.output c.sort_numbers.ensures c.spread_maps.ensures
