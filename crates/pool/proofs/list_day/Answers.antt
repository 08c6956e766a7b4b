-- `pool::list_day` meets its contract: the maps are counted, the room is asked for, the entries are put and the records shown in them. Assumes nothing.
use Rattle.std.proofs.Common.{rules, sym, subst, ◌≡◌}
use Rattle.std.specs.Prelude.{Err}
use Rattle.pool.specs.Contract.{Listed}
use Rattle.pool.proofs.Verdicts.{no_room, room-enough, shown-over}
use Rattle.pool.proofs.list_day.Goals as goal

pub returns-in_err-ensure : goal.returns-in_err-ensure
returns-in_err-ensure c =
    let a = c.args in
    let r = c.in_err-ensure.field-0.0 in
    let given : c.from_residual.result ≡ Err r = search rules in
    subst (λ x. Listed a.terms.now a.records.now a.day a.output.now x a.output.now) (sym given) (no_room _ _ _ _ c.count_maps-maps.ensures r (sym c.in_err-ensure.ensures))

pub returns : goal.returns
returns c =
    let lent = c.args in
    room-enough lent.terms.now lent.records.now lent.day lent.output.now c.count_maps-maps.ensures (sym c.in_ok-ensure.ensures)
    (shown-over lent.terms.now lent.records.now lent.day lent.output.now _ _ _ c.count_maps-maps.ensures c.requires c.put_entries.ensures c.show_records.ensures)
