-- `calendar::day_of` meets its contract, by those of `is_day` and `day_number`. Assumes nothing.
use Rattle.std.proofs.Common.{rules, ◌∙◌}
use Rattle.std.proofs.lemmas.Option.{IfSome_then}
use Rattle.pool_terms.specs.Contract.{date_as}
use Rattle.pool_terms.proofs.Days.{day_then}
use Rattle.pool_terms.proofs.calendar.day_of.Goals as goal

pub returns : goal.returns
returns c =
    day_then (date_as c.args.date) c.then.result (c.then.ensures.variant ∙ c.is_day.ensures)
    (IfSome_then c.then.result c.then.ensures.some (λ x p. search rules))
