-- `row_runs::row::has_marks` meets its contract: if all masks together are zero, each of them is. Assumes nothing.
use Rattle.std.proofs.Common.{rules, tests, ◌≡◌, ◌-◌, take, drop}
use Rattle.std.proofs.lemmas.Fn.{fold_over, slice_gives, fronts}
use Rattle.row_runs.proofs.Marks.{Gathered, gathered_none, gathered_more, gathered-clear}
use Rattle.row_runs.proofs.row.has_marks.Goals as goal

pub returns : goal.returns
returns c =
    let all : Gathered c.iter.result.rest.now c.fold.result =
    fold_over fronts (λ y. y.now) _ Gathered _ (λ ys a x b f' j k. (gathered_more ys a x.now b j (search rules), search rules)) c.iter.result _ 0 _ (slice_gives c.iter.result) gathered_none c.fold.ensures.ran in
    let masks = c.args.masks.now in
    let is : c.iter.result.rest.now ≡ take (c.args.end - c.args.from) (drop c.args.from masks) = search rules in
    λ none. gathered-clear masks c.args.from c.args.end c.requires.1 (rw is at all) (search (rules, tests, none))
