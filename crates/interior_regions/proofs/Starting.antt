-- What is known once components are named, and once owners are found. Assumes nothing.
use Prim.Native.Nat.{ℕ}
use native.Mathlib.Omega.{arith}
use mathlib.Core.Path.{ap}
use mathlib.Core.List.{List}
use lib.Dec.{eqb}
use Rattle.definitions.specs.Context.{Context}
use Rattle.laws.specs.ListLaws.Beyond.{beyond_same}
use Rattle.interior_proposals.specs.Given.{Lent, Known, Kept}
use Rattle.context.specs.declared.found_regions.FoundRegions.{FoundRegions}
use Rattle.interior_proposals.specs.Owners.{Owners}
use Rattle.interior_proposals.specs.Proposals.{Progress, Owning}
use Rattle.interior_proposals.proofs.Walks.{names-long}
use Rattle.interior_proposals.proofs.Preparing.{components-size}

module _ {C : Context} {boundaries tallies pairs starts marks counts : List ℕ} {count regions : ℕ} (L : Lent C boundaries tallies pairs starts count regions marks counts) where
  pub lent-kept : {nowMarks names : List ℕ} → Known C nowMarks names → Kept C boundaries tallies pairs starts names
  lent-kept K = record { given = L.given; named = K.named; few = omega (arith, L.few, L.labelled) }

  pub lent-owning : {owners : List FoundRegions} → Owners C owners → Owning C boundaries tallies pairs starts owners count
  lent-owning O = record { given = L.given; counted = L.counted; owned = O }

pub known-progress : {C : Context} (owners : List FoundRegions) {marks names : List ℕ} → Known C marks names → Progress C owners names names marks marks 0
known-progress {C} owners {marks} {names} K =
    record {
      long = names-long C K.named;
      unmet = λ q a b e n. record { long = names-long C K.named; at = λ x c d. ap (λ t. eqb t q) (K.named.at x c (omega (arith, components-size C))) };
      settled = λ j l. absurd (omega arith);
      beyond = beyond_same C.regions names;
      cleared = record { marked = K.marked; beyond = beyond_same C.regions marks };
    }
