-- The answer of the call that gives the ranked junction list, and every list at exit, for every input (docs/SPECIFICATION.md, 'The ranked junction list'). The call is
-- lent what a call of pass 3 is lent, and the list. Assumes nothing.
use Rattle.std.specs.Prelude.{ℕ, zero, suc, ◌/◌, ◌≡◌, cond, List, length, eqb, leb, Option, None, Some}
use Rattle.definitions.specs.Grid.{Map}
use Rattle.definitions.specs.RegionRecord.{Region}
use Rattle.definitions.specs.Refusals.{Refusal, unless}
use Rattle.definitions.specs.Lists.{overwrite, zeroed}
use Rattle.definitions.specs.Verdict.{Lent, map_in, refusal, verdict}
use Rattle.definitions.specs.AtExit.{Stage, complete, stage_of, records_at_exit, output_at_exit, exit_with}
use Rattle.ranked_list.specs.RankedList.{ranked_of, numbers_per_ranked, flat_ranked}

-- number 0, the count of rows kept and the number of proposals, or a refusal's number and place
pub record RankedAnswer : Type 0 where
  pub number : ℕ
  pub value : ℕ
  pub proposals : ℕ

-- 21: 'the lent list has fewer rows than proposals'
unfoldable pub ranked_fault : Map → List ℕ → Option ℕ
unfolding ranked_of
ranked_fault M list = unless (leb (length (ranked_of M)) (length list / numbers_per_ranked))

-- 21 comes last
abbrev pub ranked_after : ℕ → ℕ → Option Refusal → ℕ → RankedAnswer
ranked_after zero kept None proposals = record { number = 0; value = kept; proposals = proposals }
ranked_after zero kept (Some r) proposals = record { number = r.number; value = r.place; proposals = 0 }
ranked_after (suc n) place r proposals = record { number = suc n; value = place; proposals = 0 }

-- of a call that is lent L, with pass 3, and the list
unfoldable pub ranked_verdict : Lent → List ℕ → RankedAnswer
unfolding verdict ranked_fault map_in ranked_of
ranked_verdict L list = ranked_after (verdict L).number (verdict L).value (refusal 21 (ranked_fault (map_in L) list)) (length (ranked_of (map_in L)))

-- 21 leaves 'the rest as on success'
unfoldable pub ranked_stage : ℕ → Stage
unfolding stage_of
ranked_stage number = cond (eqb number 21) complete (stage_of number)

-- 'the output as it was' at 21
unfoldable pub ranked_exit : Lent → ℕ → Lent
unfolding exit_with ranked_stage map_in
ranked_exit L number =
    exit_with L (ranked_stage number) (records_at_exit (ranked_stage number) (map_in L) L.records) (output_at_exit (stage_of number) L.pass (map_in L) L.output)

-- the list at exit: at 21 it 'is then zero'
unfoldable pub ranked_list_exit : Map → ℕ → List ℕ → List ℕ
unfolding flat_ranked ranked_of
ranked_list_exit M number old = cond (eqb number 0) (overwrite (flat_ranked (ranked_of M)) old) (cond (eqb number 21) (zeroed (length old) old) old)

-- What was lent, L and the list as it `was`, the answer, and at exit labels l, masks m, queue q, tallies t, pairs p, records s, output o and the list k.
pub record RankedRan (L : Lent) (was : List ℕ) (a : RankedAnswer) (l m q t p : List ℕ) (s : List Region) (o k : List ℕ) : Type 0 where
  pub answer : a ≡ ranked_verdict L was
  pub labels : l ≡ (ranked_exit L a.number).labels
  pub masks : m ≡ (ranked_exit L a.number).masks
  pub queue : q ≡ (ranked_exit L a.number).queue
  pub tallies : t ≡ (ranked_exit L a.number).tallies
  pub pairs : p ≡ (ranked_exit L a.number).pairs
  pub records : s ≡ (ranked_exit L a.number).records
  pub output : o ≡ (ranked_exit L a.number).output
  pub list : k ≡ ranked_list_exit (map_in L) a.number was
