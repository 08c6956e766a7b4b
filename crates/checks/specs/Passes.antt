-- The passes by their numbers, as `removed_by` of Rows.antt has them, and what a call that asks for one is answered. Definitions only; assumes nothing.
use Rattle.std.specs.Prelude.{ℕ, ◌≡◌, ◌≤◌, Result, Ok, Err}
use Rattle.definitions.specs.Refusals.{pass_fault}
use Rattle.definitions.specs.Verdict.{refusal}
use Rattle.refusals.specs.declared.Refusal.{Refusal}
use Rattle.refusals.specs.Refusals.{refusal_in}
use Rattle.checks.specs.declared.passes.Pass.{Pass}
use Rattle.checks.specs.declared.passes.Pass.TheVariants as pass

abbrev pub pass_number : Pass → ℕ
pass_number pass.ReplaceRampMouths = 1
pass_number pass.CollapseRampInteriors = 2
pass_number pass.RemoveJunctionBoundaries = 3

-- the numbers of passes
abbrev pub IsPass : ℕ → Type 0
IsPass number = (1 ≤ number) × (number ≤ 3)

-- the pass is the one of the number asked for, where there is one
abbrev pub Named : ℕ → Result Pass Refusal → Type 0
Named number (Ok pass) = pass_number pass ≡ number
Named number (Err r) = IsPass number → ⊥

-- check 4 of a number, and its pass
abbrev pub PassAsked : ℕ → Result Pass Refusal → Type 0
PassAsked number r = (refusal_in r ≡ refusal 4 (pass_fault number)) × Named number r
