-- `proposals::propose` meets its contract, from what its calls ensure. Assumes nothing.
use Rattle.std.proofs.Common.{refl, sym}
use Rattle.interior_proposals.proofs.ProposalLaws.{no_candidate, no_ports, component-inside, ports-below, unfit, ports-proposed, facing-listed, facing-reachable}
use Rattle.interior_proposals.proofs.proposals.propose.Goals as goal

pub returns-then-not-is_candidate-clause-proposed : goal.returns-then-not-is_candidate-clause-proposed
returns-then-not-is_candidate-clause-proposed c =
    λ C F. no_candidate F (c.if-not-is_candidate.ensures C F.mapped F.counted F.owned)

pub returns-in_err-ports-clause-proposed : goal.returns-in_err-ports-clause-proposed
returns-in_err-ports-clause-proposed c =
    λ C F.
    let h = sym (c.if-not-is_candidate.ensures C F.mapped F.counted F.owned) in
    rw c.from_residual.ensures (no_ports F h (c.in_err-ports.ensures C F.mapped F.counted F.owned h))

pub ports_fit-requires : goal.ports_fit-requires
ports_fit-requires c =
    let F = c.requires.1 in
    let h = sym (c.if-not-is_candidate.ensures c.requires.0 F.mapped F.counted F.owned) in
    let l = ports-below F h (c.in_ok-ports.ensures c.requires.0 F.mapped F.counted F.owned h) in
    record { first_listed = facing-listed F _ l.0; second_listed = facing-listed F _ l.1 }

pub returns-then-not-ports_fit-clause-proposed : goal.returns-then-not-ports_fit-clause-proposed
returns-then-not-ports_fit-clause-proposed c =
    λ C F.
    let h = sym (c.if-not-is_candidate.ensures C F.mapped F.counted F.owned) in
    let e = c.in_ok-ports.ensures C F.mapped F.counted F.owned h in
    let l = ports-below F h e in
    unfit F h e (c.if-not-ports_fit.ensures C F.given.bounds F.given.tallied l.0 l.1)

pub expand_ports-requires : goal.expand_ports-requires
expand_ports-requires c =
    let F = c.requires.1 in
    let h = sym (c.if-not-is_candidate.ensures c.requires.0 F.mapped F.counted F.owned) in
    let l = ports-below F h (c.in_ok-ports.ensures c.requires.0 F.mapped F.counted F.owned h) in
    record { first_reachable = facing-reachable F _ l.0; second_reachable = facing-reachable F _ l.1 }

pub returns-clause-proposed : goal.returns-clause-proposed
returns-clause-proposed c =
    λ C F.
    let h = sym (c.if-not-is_candidate.ensures C F.mapped F.counted F.owned) in
    let e = c.in_ok-ports.ensures C F.mapped F.counted F.owned h in
    let l = ports-below F h e in
    rw c.then_some.ensures (ports-proposed F h e (c.if-not-ports_fit.ensures C F.given.bounds F.given.tallied l.0 l.1) (c.expand_ports.ensures.expanded C _ F.given.paired l.0 l.1 (component-inside F h) F.mapped.marked) _ refl)
