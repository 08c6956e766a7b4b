-- `changed` meets its contract: the last entry that is not as it was, found from the back. Assumes nothing.
use Rattle.std.proofs.Common.{rules, ap, length, true, false}
use Rattle.replay_lists.specs.Contract.{IsOther}
use Rattle.replay_lists.proofs.FromTheBack.{found_last}
use Rattle.replay_lists.proofs.UpToLast.{up_to_last}
use Rattle.replay_lists.proofs.changed.Goals as goal

pub returns : goal.returns
returns g c =
    let (p, from, m) = c.rfind.ensures.runs in
    let l = c.args.list.now in
    let h =
    found_last _ (length l) (λ i. IsOther g.T.Into.converts l i true) (λ i. IsOther g.T.Into.converts l i false)
    (λ a r q k. search rules) (λ x k. let d = k.called in let s = k.shows in search rules) (λ x k. let d = k.called in let s = k.shows in search rules) p (ap (λ s. s.start) from) (ap (λ s. s.end) from) c.rfind.result m in
    up_to_last c.rfind.result h (search rules)
