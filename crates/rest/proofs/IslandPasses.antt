-- One pass after another over the kept boundaries of two maps that are alike on an island: the kept boundaries that cut the island have the same ranks among
-- the starting ones in both, before each pass and after it. The kept boundaries of both maps meet the premises again (`kept-alike`), so that both restrict to
-- one map, and what the pass keeps of the island is what it keeps there. Assumes `Alike` of the starting maps.
use Prim.Native.Nat.{ℕ, zero, suc}
use Rattle.std.specs.Prelude.{length, Some}
use Rattle.std.proofs.Math.Path.{sym, ap, ap₂}
use Rattle.std.proofs.Common.{◌∙◌}
use Rattle.std.proofs.Math.Bool.{Bool, not}
use mathlib.Core.List.{List}
use Rattle.std.proofs.Math.ListN.{get_or}
use Rattle.definitions.specs.Scan.{collect, only_if, member, run}
use Rattle.definitions.specs.Grid.{Map, span_count}
use Rattle.definitions.specs.Context.{context_of}
use Rattle.definitions.specs.Rows.{removed_by}
use Rattle.island.specs.Premises.{Alike}
use Rattle.island.proofs.Same.{restrict_same}
use Rattle.rest_definitions.specs.Rest.{kept_map, passed, round}
use Rattle.rest.specs.Rounds.{iterate}
use Rattle.rest.specs.Picking.{all_below_lem}
use Rattle.rest.specs.IslandPasses.{cutting-length, ranks-start, passed-within, passed-ranks, Together, kept-alike}

module _ (N N' : Map) (isl : ℕ → Bool) (A : Alike N N' isl) where
  pub together-passed : (pass : ℕ) {ps ps' : List ℕ} → Together N N' isl A ps ps' → Together N N' isl A (passed pass N ps) (passed pass N' ps')
  together-passed pass {ps} {ps'} T =
      record {
        within = passed-within N isl A.island ps T.within pass;
        within' = passed-within N' isl A.island' ps' T.within' pass;
        same =
            passed-ranks N isl A.island ps T.within pass
            ∙ ap₂ (λ l S. collect (length l) (λ q. only_if (not (member q (removed_by pass (context_of S)))) (get_or l q 0))) T.same (restrict_same (kept_map N ps) (kept_map N' ps') isl (kept-alike N N' isl A T))
            ∙ sym (passed-ranks N' isl A.island' ps' T.within' pass);
      }

  together-round : {ps ps' : List ℕ} → Together N N' isl A ps ps' → Together N N' isl A (round N ps) (round N' ps')
  unfolding round
  together-round T = together-passed 3 (together-passed 2 (together-passed 1 T))

  pub together-iterate : (n : ℕ) {ps ps' : List ℕ} → Together N N' isl A ps ps' → Together N N' isl A (iterate N n ps) (iterate N' n ps')
  unfolding iterate
  together-iterate zero T = T
  together-iterate (suc n) T = together-iterate n (together-round T)

  pub together-start : Together N N' isl A (run 0 (span_count N)) (run 0 (span_count N'))
  together-start =
      record {
        within = all_below_lem (span_count N);
        within' = all_below_lem (span_count N');
        same =
            ranks-start N isl A.island ∙ ap (λ n. collect n (λ q. Some q)) (sym (cutting-length N isl A.island) ∙ ap length A.counterparts ∙ cutting-length N' isl A.island')
            ∙ sym (ranks-start N' isl A.island');
      }
