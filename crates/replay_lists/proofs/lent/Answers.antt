-- `lent` meets its contract: a list is taken whole where it has no more entries. Assumes nothing.
use Rattle.std.proofs.Common.{arith, ap, ◌≡◌, ◌∙◌, take, length}
use Rattle.std.proofs.lemmas.List.{take_min}
use Rattle.std.specs.Prelude.{min}
use Rattle.replay_lists.proofs.lent.Goals as goal

pub returns : goal.returns
returns g c =
    let n : c.min.result ≡ min 4096 (length c.args.list.now) = omega (arith, c.min.ensures) in
    ap (λ k. take k c.args.list.now) n ∙ take_min 4096 c.args.list.now
