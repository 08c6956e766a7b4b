-- `faults::faultless_terms` meets its contract: terms that pass break no rule, and terms that are sound and apart break none. Assumes nothing.
use native.Mathlib.Omega.{arith}
use Prim.Native.Nat.{◌≤◌}
use Rattle.pool_faults.proofs.Taking.{front-count, apart-front}
use Rattle.pool_faults.proofs.TermScan.{faultless_sound, apart_faultless}
use Rattle.pool_faults.proofs.faults.faultless_terms.Goals as goal

pub sound_terms-sound-requires : goal.sound_terms-sound-requires
sound_terms-sound-requires c =
    let P = c.passing_terms-passing.ensures in
    (P.0, faultless_sound _ _ P.1)

pub returns : goal.returns
returns c =
    let A = c.apart_terms.ensures in
    let S = c.sound_terms-sound.ensures in
    let l = c.args.terms.now in
    let sound = c.sound_terms-sound.result in
    let within : c.apart_terms.result ≤ sound = omega (arith, A.0, front-count l sound (omega (arith, S.1))) in
    (omega (arith, within, S.1), apart_faultless l _ (λ i b. S.2 i (omega (arith, within))) (apart-front l sound _ within A.1))
