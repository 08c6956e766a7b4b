-- `taken::Taken::all_gone` meets its contract, by what `all` gives of the boundaries. Assumes nothing.
use Rattle.std.proofs.Common.{rules, tests, arith, ◌≡◌, true, ℕ, ◌≤◌, ◌<◌}
use mathlib.Core.Path.{refl, subst}
use mathlib.Core.List.{List}
use Rattle.std.specs.Prelude.{MatchBool}
use Rattle.definitions.specs.Context.{Context}
use Rattle.definitions.specs.RampMouths.{MouthProposal}
use Rattle.laws.specs.ListLaws.Chains.{all_from_range}
use Rattle.context.specs.Shown.{ShownBoundaries, ShownPairs}
use Rattle.mouth_selection.specs.Held.{TakenState}
use Rattle.mouth_selection.specs.Selecting.{Gone}
use Rattle.mouth_selection.proofs.GoneMouths.{all_none}
use Rattle.mouth_selection.proofs.taken.Taken.all_gone.Goals as goal

pub returns : goal.returns
returns c =
    let now = c.args.self.now in
    let Found : ℕ → Type 0 = λ m. (C : Context) (T : List MouthProposal) → ShownBoundaries C c.args.context.boundaries.now → ShownPairs C c.args.context.pairs.now c.args.context.starts.now
    → TakenState C T now.removed.now now.ramp_ends now.marks.now → m < C.count → true ≡ true → Gone C T m in
    let each = all_from_range _ _ _ c.all.result Found (λ m. Unit {0}) c.all.ensures.ran (λ m q k. search (rules, tests)) (λ m q k. tt) in
    λ C T L S e.
    all_none C T (λ m h. subst (λ r. MatchBool r ((k : ℕ) → 0 ≤ k → k < c.args.context.count → Found k) ((k : ℕ) × (0 ≤ k) × (k < c.args.context.count) × Unit {0})) e each m (omega arith) (omega (arith, h, L.counted)) C T L.bounds L.rows S h refl)
