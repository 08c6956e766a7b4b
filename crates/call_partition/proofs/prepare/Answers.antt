-- `call_partition::prepare` meets its contract: a check before it refuses, or the lists fit and are divided. Assumes nothing.
use Rattle.std.proofs.Common.{rules, sym, ◌≡◌}
use Rattle.std.specs.Prelude.{Err}
use Rattle.call_partition.proofs.EarlyFits.{early-fits}
use Rattle.call_partition.proofs.Preparing.{refused-before}
use Rattle.call_partition.proofs.prepare.Goals as goal

pub returns-in_err-pass-clause-prepared : goal.returns-in_err-pass-clause-prepared
returns-in_err-pass-clause-prepared c =
    let r : c.from_residual.result ≡ Err c.in_err-pass.field-0.0 = search rules in
    rw r (refused-before _ _ _ _ _ _ _ _ _ _ _ _ _ _ _ _ c.in_err-pass.ensures.refused)

pub divide-requires : goal.divide-requires
divide-requires c = rw c.grid.ensures (early-fits _ _ _ _ _ _ _ _ _ _ _ _ (sym c.in_ok-pass.ensures.refused))
