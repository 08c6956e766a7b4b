-- What stands at a boundary, by whether ports were found there. Assumes nothing.
use Prim.Native.Nat.{ℕ, ◌+◌, ◌*◌, ◌<◌, min, max}
use native.Mathlib.Omega.{arith}
use mathlib.Core.Path.{◌≡◌, sym, ap, subst, ◌∙◌}
use mathlib.Core.Bool.{false}
use mathlib.Core.List.{List}
use lib.ListN.{get_or}
use Rattle.std.specs.Prelude.{Option, None, Some}
use Rattle.definitions.specs.Context.{Context}
use Rattle.interior_proposals.specs.Proposals.{found_ports}
use Rattle.interior_proposals.specs.declared.ports.Ports.{Ports}
use Rattle.context.specs.declared.found_regions.FoundRegions.{FoundRegions}
use Rattle.interior_proposals.specs.Owners.{one_owner, name_of, owner_at, name_at}
use Rattle.interior_regions.specs.Places.{interior_fits_lem}
use Rattle.interior_regions.specs.Marks.{Interiors, accepted, Stretched, EndOf}
use Rattle.interior_regions.proofs.PlaceLaws.{starts-rise, place-readable, Spanned}
use Rattle.interior_regions.proofs.JudgeLaws.{found-fit, found-spanned, judged_two, judged_none, judged_other}

module _ {C : Context} {boundaries tallies pairs starts names : List ℕ} {owners : List FoundRegions} {found : List (Option Ports)} {count : ℕ} (I : Interiors C boundaries tallies pairs starts names owners found count) (i : ℕ) (l : i < C.count) where
  -- where no component owns it
  pub stretched_other : ((r : ℕ) → owner_at owners i ≡ one_owner r → ⊥) → accepted C owners i ≡ false
  stretched_other = judged_other I.owning.given.sound owners I.owning.owned i l

  pub stretched_none : get_or found i None ≡ None → accepted C owners i ≡ false
  stretched_none e = judged_none I.owning.given.sound owners I.owning.owned i l (sym (I.found i l) ∙ e)

  module _ {p : Ports} (e : get_or found i None ≡ Some p) where
    was_found : found_ports C owners i ≡ Some p
    was_found = sym (I.found i l) ∙ e

    pub ports-below : (p.first < count) × (p.second < count)
    ports-below =
        let F = found-fit I.owning.given.sound owners I.owning.owned i l was_found in
        (omega (arith, F.first, I.owning.counted), omega (arith, F.second, I.owning.counted))

    -- n is the number after the last boundary that has the owner
    module _ {name : ℕ} (o : owner_at owners i ≡ one_owner name) {low high n : ℕ} (E : EndOf owners count name n) (low-is : low ≡ min i (min p.first p.second)) (high_is : high ≡ max n (max p.first p.second + 1)) where
      pub stretched_two : Stretched C pairs names owners i (record { name = name; begin = 2 * get_or starts low 0; end = 2 * get_or starts high 0; ports = p })
      stretched_two =
          let F = found-fit I.owning.given.sound owners I.owning.owned i l was_found in
          record {
            name = o;
            rising = starts-rise I.owning.given.paired low high (omega arith) spanned.upto;
            readable = place-readable I.owning.given.paired low high spanned.upto (omega arith);
            first = F.first;
            second = F.second;
            judged =
                subst (λ r. interior_fits_lem C pairs names r (2 * get_or starts low 0) p.first p.second (2 * get_or starts high 0) ≡ accepted C owners i) {x = name_at owners i} {y = name} (ap name_of o)
                (judged_two I.owning.given.sound owners I.owning.owned i l I.owning.given.paired was_found spanned (I.settled i l p.first p.second was_found));
          }
        where
          named : EndOf owners count (name_at owners i) n
          named = subst (λ r. EndOf owners count r n) {x = name} {y = name_at owners i} (sym (ap name_of o)) E

          spanned : Spanned C (name_at owners i) p.first p.second low high
          spanned =
              found-spanned I.owning.given.sound owners I.owning.owned i l was_found I.owning.counted named (omega (arith, high_is)) (omega (arith, high_is, E.upto, ports-below, I.owning.counted)) (omega (arith, low-is))
              (omega (arith, low-is), omega (arith, high_is)) (omega (arith, low-is), omega (arith, high_is))
