-- What an accepted call has been found to have, and the verdicts at exit by the answer's number. Assumes nothing.
use Prim.Native.Nat.{ℕ, ◌%◌, ◌≤◌}
use native.Mathlib.Omega.{arith}
use mathlib.Core.Path.{◌≡◌, refl, sym, ap, ◌∙◌}
use mathlib.Core.Bool.{Bool, true, false, cond}
use mathlib.Core.List.{List, [], ◌∷◌}
use lib.ListN.{length}
use lib.Dec.{eqb, leb}
use borrow.Author.Tests.{eq-eqb, ne_eqb, leb-true}
use Rattle.definitions.specs.Lists.{overwrite}
use Rattle.definitions.specs.Refusals.{unless}
use Rattle.definitions.specs.Verdict.{Answer, refusal, first_refusal}
use Rattle.game.specs.Game.{Game, is_region}
use Rattle.game.specs.Graph.{place_count, solve_answer, verdict_numbers, verdicts_at_exit}

-- by its four checks
abbrev by : Bool → Bool → Bool → Bool → ℕ → Answer
by a b c d n = first_refusal (refusal 3 (unless a) ∷ refusal 10 (unless b) ∷ refusal 23 (unless c) ∷ refusal 24 (unless d) ∷ []) n

-- what an accepted call has been found to have
pub record Accepted (regions : ℕ) (pairs : List ℕ) (goal room : ℕ) : Type 0 where
  pub few : regions ≤ 32
  pub inside : is_region regions goal ≡ true
  pub roomy : 6144 ≤ room

pub is_accepted : (regions : ℕ) (pairs : List ℕ) (goal room : ℕ) → (solve_answer regions pairs goal room).number ≡ 0 → Accepted regions pairs goal room
unfolding solve_answer
is_accepted regions pairs goal room h = go (eqb (length pairs % 2) 0) (leb 6144 room) refl (leb regions 32) refl (is_region regions goal) refl h
  where
    go : (a b : Bool) → leb 6144 room ≡ b → (c : Bool) → leb regions 32 ≡ c → (d : Bool) → is_region regions goal ≡ d → (by a b c d (place_count regions)).number ≡ 0 → Accepted regions pairs goal room
    go false b q c r d s h = absurd (omega arith)
    go true false q c r d s h = absurd (omega arith)
    go true true q false r d s h = absurd (omega arith)
    go true true q true r false s h = absurd (omega arith)
    go true true q true r true s h = record { few = leb-true regions 32 r; inside = s; roomy = leb-true 6144 room q }

-- ---- the verdicts at exit

pub at_success : (G : Game) (old v : List ℕ) (number : ℕ) → number ≡ 0 → v ≡ overwrite (verdict_numbers G (place_count G.regions)) old → v ≡ verdicts_at_exit G old number
unfolding verdicts_at_exit
at_success G old v number z e = e ∙ ap (λ b. cond b (overwrite (verdict_numbers G (place_count G.regions)) old) old) (sym (eq-eqb number 0 z))

pub at_refusal : (G : Game) (old : List ℕ) (number : ℕ) → (number ≡ 0 → ⊥) → old ≡ verdicts_at_exit G old number
unfolding verdicts_at_exit
at_refusal G old number z = ap (λ b. cond b (overwrite (verdict_numbers G (place_count G.regions)) old) old) (sym (ne_eqb number 0 z))
