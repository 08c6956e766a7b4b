-- `ends::other_end_incident` meets its contract, by what `any` gives of the boundaries. Assumes nothing.
use Rattle.std.proofs.Common.{rules, tests, sym, ap, ◌≡◌, ◌∙◌, true, false, ℕ, Bool}
use Rattle.definitions.specs.Scan.{any_below_lem}
use Rattle.definitions.specs.RampMouths.{other_end_incident}
use Rattle.laws.specs.ListLaws.Chains.{any_from_range, any_is}
use Rattle.mouth_proposals.specs.Ends.{is_other_end}
use Rattle.mouth_proposals.proofs.ends.other_end_incident.Goals as goal

pub returns : goal.returns
unfolding other_end_incident
returns c =
    λ C n S P.
    let test : ℕ → Bool = is_other_end C c.args.a c.args.r in
    any_is test c.args.context.count c.any.result
    (any_from_range _ _ _ c.any.result (λ k. test k ≡ true) (λ k. test k ≡ false) c.any.ensures.ran (λ x q k. search (rules, tests)) (λ x q k. search (rules, tests)))
    ∙ ap (λ k. any_below_lem k test) (sym n)
