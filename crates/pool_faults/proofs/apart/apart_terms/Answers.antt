-- `apart::apart_terms` meets its contract: of more than 2^32 terms the first are asked about. Assumes nothing.
use Rattle.std.proofs.Common.{arith, ◌≤◌}
use Rattle.pool_faults.proofs.Taking.{front-count, apart-front}
use Rattle.pool_faults.proofs.apart.apart_terms.Goals as goal

pub returns : goal.returns
returns c =
    let l = c.args.terms.now in
    let most = c.min-most.result in
    let A = c.apart_terms_with-2.ensures in
    let within : c.apart_terms_with-2.result ≤ most = omega (arith, A.0, front-count l most (omega (arith, c.min-most.ensures)), c.min-most.ensures) in
    (omega (arith, within, c.min-most.ensures), apart-front l most _ within A.1)
