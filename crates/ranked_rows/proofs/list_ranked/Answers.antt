-- `ranked_rows::list_ranked` meets its contract, from what its callees ensure. Assumes nothing.
use Rattle.std.proofs.Common.{arith, ◌≡◌, ◌≤◌, length, ap, ◌∙◌, sym}
use lib.ListN.{take}
use lib.Seq.{length-take-le}
use Rattle.junction_selection.proofs.Standings.{order-front}
use Rattle.ranked_list.specs.RankedList.{flat_ranked}
use Rattle.ranked_rows.specs.Contract.{listed_from, allowed_list, listed_form, row_numbers}
use Rattle.std.specs.Prelude.{map}
use Rattle.ranked_rows.proofs.list_ranked.Goals as goal

pub returns-clause-list : goal.returns-clause-list
unfolding allowed_list
returns-clause-list c =
    let a = c.args.found.now in
    let m = c.rank_proposals-m in
    let short : m.result ≤ length m.new.order = omega (arith, m.ensures.listed_then.1, c.requires.few, m.auto.order) in
    let size : length (take m.result m.new.order) ≡ m.result = length-take-le m.result m.new.order short in
    ap (λ n. map listed_form (take n c.list_in_order.new.listed)) (sym size) ∙ c.list_in_order.ensures.list
    ∙ ap (listed_from a.lists.now.full.now a.lists.now.count) (order-front a.rows.now m.new.order m.result short ∙ m.ensures.order)

pub returns-clause-numbers : goal.returns-clause-numbers
unfolding allowed_list
returns-clause-numbers c =
    let a = c.args.found.now in
    let m = c.rank_proposals-m in
    let short : m.result ≤ length m.new.order = omega (arith, m.ensures.listed_then.1, c.requires.few, m.auto.order) in
    let size : length (take m.result m.new.order) ≡ m.result = length-take-le m.result m.new.order short in
    ap (λ n. row_numbers (take n c.list_in_order.new.listed)) (sym size) ∙ c.list_in_order.ensures.numbers
    ∙ ap (λ l. flat_ranked (listed_from a.lists.now.full.now a.lists.now.count l)) (order-front a.rows.now m.new.order m.result short ∙ m.ensures.order)
