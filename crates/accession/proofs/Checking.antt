-- The check on its way: the first i records keep the rules, and some of them are held. What it asks of record i is whether that one keeps them too (`chain` of
-- `catalogue`). Assumes nothing.
use Prim.Native.Nat.{ℕ, ◌≤◌}
use native.Mathlib.Omega.{arith}
use mathlib.Core.Path.{◌≡◌, sym, ap, ap₂, ◌∙◌}
use mathlib.Core.Bool.{Bool, ◌&&◌}
use Rattle.std.specs.Prelude.{None}
use mathlib.Core.List.{List}
use Rattle.definitions.specs.Refusals.{first_faulty}
use Rattle.laws.specs.ListLaws.FirstBelow.{none_faulty_zero}
use Rattle.laws.specs.ListLaws.NoFault.{none_faulty}
use Rattle.catalogue.specs.Accession.{accession_count, on_same_map, own_ascends, keeps_rules}
use Rattle.catalogue.specs.AccessionLaws.Last.{last_within}
use Rattle.catalogue.specs.AccessionLaws.Chain.{previous, follows}
use Rattle.catalogue.proofs.AccessionLaws.Chain.{chain}
use Rattle.accession.specs.Held.{Holds}

pub record Checked (l : List ℕ) (slots : ℕ) (last links : List ℕ) (held i : ℕ) : Type 0 where
  pub within : i ≤ accession_count l
  pub behind : held ≤ i
  pub holds : Holds l slots held last links
  pub kept_below_lem : first_faulty i (keeps_rules l) ≡ None

module _ (l : List ℕ) where
  pub checked_none : {slots held : ℕ} {last links : List ℕ} → held ≡ 0 → Holds l slots held last links → Checked l slots last links held 0
  checked_none h e =
      record {
        within = omega arith;
        behind = omega arith;
        holds = e;
        kept_below_lem = none_faulty_zero (keeps_rules l);
      }

  -- the test of record i
  pub test-is :
      (i k : ℕ) {a b : Bool} → first_faulty i (keeps_rules l) ≡ None → k ≡ previous l i → a ≡ own_ascends l i → b ≡ follows l i k
      → (a && b) ≡ keeps_rules l i
  test-is i k h e p q = ap₂ ◌&&◌ p (q ∙ ap (follows l i) e) ∙ sym (chain l i (none_faulty (keeps_rules l) i h))

  pub previous-within : (i : ℕ) {k : ℕ} → k ≡ previous l i → k ≤ i
  unfolding previous
  previous-within i e = omega (arith, e, last_within (on_same_map l i) i)
