-- `ports::find_ports` meets its contract, from the ports that were found one by one. Assumes nothing.
use Rattle.std.proofs.Common.{◌∙◌}
use Rattle.interior_proposals.proofs.PortLaws.{ports_none, ports_one, ports_all}
use Rattle.interior_proposals.proofs.ports.find_ports.Goals as goal

pub returns-in_err-first : goal.returns-in_err-first
returns-in_err-first c = λ C M e O h. c.from_residual.ensures ∙ ports_none C _ e (c.in_err-first.ensures.next_port C M e O h)

pub returns-in_err-second : goal.returns-in_err-second
returns-in_err-second c =
    λ C M e O h. c.from_residual-in_err-second.ensures ∙ ports_one C _ e (c.in_ok-first.ensures.next_port C M e O h) (c.in_err-second.ensures.next_port C M e O h)

pub returns : goal.returns
returns c =
    λ C M e O h.
    c.then_some.ensures
    ∙ ports_all C _ e (c.in_ok-first.ensures.next_port C M e O h) (c.in_ok-second.ensures.next_port C M e O h) c.next_port-third.result c.is_none.result c.is_none.ensures (c.next_port-third.ensures.next_port C M e O h)
