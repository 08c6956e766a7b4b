-- `ports::next_port` meets its contract, by what `find` gives. Assumes nothing.
use Rattle.std.proofs.Common.{rules, tests, ◌≡◌, ◌<◌, true, false}
use Rattle.std.proofs.lemmas.Iterator.{first_from_Range}
use Rattle.interior_proposals.specs.Candidates.{port}
use Rattle.interior_proposals.proofs.PortLaws.{next_found}
use Rattle.interior_proposals.proofs.ports.next_port.Goals as goal

pub returns-clause-next_port : goal.returns-clause-next_port
returns-clause-next_port c = λ C M e O h. next_found C _ e _ c.find.result (first_from_Range _ _ _ c.find.result (λ i. i < C.count → port C c.args.r i ≡ true) (λ i. i < C.count → port C c.args.r i ≡ false) c.find.ensures.ran (λ x q k l. let o = O x l in search (rules, tests)) (λ x q k. (search (rules, tests), λ l. let o = O x l in search (rules, tests))))
