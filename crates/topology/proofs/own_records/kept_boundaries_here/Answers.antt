-- What is lent to the call is a part of the empty records, and that part is what is written in numbers.
use Rattle.std.proofs.Common.{◌≡◌, refl, sym, ap, ◌∙◌, map, replicate}
use Rattle.definitions.specs.RegionRecord.{empty_region}
use Rattle.context.specs.declared.Region.{Region}
use Rattle.context.specs.Records.{record_of}
use Rattle.topology.proofs.Answered.{map-replicate, first_empty, lent-long, ran_here}
use Rattle.topology.proofs.own_records.kept_boundaries_here.Goals as goal

-- all are copies of one
all_empty : {r : Region} → record_of r ≡ empty_region → map record_of (replicate 512 r) ≡ replicate 512 empty_region
all_empty {r} e = map-replicate record_of 512 r ∙ ap (replicate 512) e

pub slice_bounds-topology_kept_boundaries-end : goal.slice_bounds-topology_kept_boundaries-end
slice_bounds-topology_kept_boundaries-end c = lent-long c.args.room _ c.min-lent.ensures (all_empty c.empty-records.ensures)

pub returns-clause-ran : goal.returns-clause-ran
returns-clause-ran c =
    let few = c.min-lent.ensures in
    let all = all_empty c.empty-records.ensures in
    ran_here _ _ c.args.room _ few c.topology_kept_boundaries-answer.ensures.ran (first_empty c.args.room _ few all)
    (c.topology_kept_boundaries-answer.auto.records ∙ sym (lent-long c.args.room _ few all)) c.put_records.ensures refl
