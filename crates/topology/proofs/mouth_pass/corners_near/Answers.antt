-- `mouth_pass::corners_near` meets its contract, by what `all` gives of the places of the mouth. Assumes nothing.
use Rattle.std.proofs.Common.{rules, tests, sym, ap, ◌≡◌, ◌∙◌, true, false, ℕ, Bool}
use Rattle.definitions.specs.Scan.{all_below}
use Rattle.laws.specs.ListLaws.Chains.{all_from_range, all_is}
use Rattle.context.proofs.ShownLaws.{shown-stretch}
use Rattle.mouth_regions.proofs.InnerWalk.{corners-near}
use Rattle.topology.specs.Mouths.{near_at}
use Rattle.topology.proofs.mouth_pass.corners_near.Goals as goal

pub places-requires : goal.places-requires
places-requires c = shown-stretch c.requires.1.rows _ c.requires.1.mouth

pub returns : goal.returns
returns c = λ C L.
    let p = c.args.proposal in
    let near : ℕ → Bool = near_at C c.args.context.pairs.now c.args.context.starts.now p in
    all_is near c.places.result _
    (all_from_range _ _ _ c.all.result (λ k. near k ≡ true) (λ k. near k ≡ false)
    c.all.ensures.ran (λ x q k. search (rules, tests)) (λ x q k. search (rules, tests)))
    ∙ ap (λ n. all_below n near) c.places.ensures
    ∙ sym (corners-near L.rows p.mouth L.mouth p.outer p.ramp p.kind)
