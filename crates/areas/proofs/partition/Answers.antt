-- `areas::partition` meets its contract: a check before it refuses, or the lists fit and are divided. Assumes nothing.
use Rattle.std.proofs.Common.{rules, sym, ◌≡◌}
use Rattle.std.specs.Prelude.{Err}
use Rattle.areas.proofs.Early.{early-fit}
use Rattle.areas.proofs.Exits.{ran-refused}
use Rattle.areas.proofs.partition.Goals as goal

pub divide-requires : goal.divide-requires
divide-requires c = early-fit _ _ _ _ _ _ _ _ (sym c.in_ok-checks_before.ensures)

pub returns-in_err-checks_before-clause-ran : goal.returns-in_err-checks_before-clause-ran
returns-in_err-checks_before-clause-ran c =
    let r : c.from_residual.result ≡ Err c.in_err-checks_before.field-0.0 = search rules in
    rw r (ran-refused _ _ _ _ _ _ _ _ _ c.in_err-checks_before.field-0.0 c.in_err-checks_before.ensures)
