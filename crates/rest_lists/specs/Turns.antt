-- What a turn stands for, and what comes behind a pass. Definitions only; assumes nothing.
use Rattle.std.specs.Prelude.{ℕ, ◌+◌, Bool, true, false, cond, eqb, Option, None, Some}
use Rattle.checks.specs.declared.passes.Pass.{Pass}
use Rattle.checks.specs.Passes.{pass_number}
use Rattle.rest_lists.specs.declared.turns.Turn.{Turn}

-- the number of the next pass, how many in a row before it removed none, and the rounds that are over
pub record TurnIs : Type 0 where
  pub pass : ℕ
  pub quiet : ℕ
  pub rounds : ℕ

abbrev pub turn_of : Turn → TurnIs
turn_of t = record { pass = pass_number t.pass; quiet = t.quiet; rounds = t.rounds }

-- of the pass that ran last: 0 where none has yet
abbrev pub last_number : Option Pass → ℕ
last_number None = 0
last_number (Some pass) = pass_number pass

abbrev pub quiet_after : ℕ → Bool → ℕ
quiet_after quiet true = 0
quiet_after quiet false = quiet + 1

-- behind pass 3 comes pass 1 of the next round
abbrev pub turn_after : TurnIs → Bool → TurnIs
turn_after t removed =
    record {
      pass = cond (eqb t.pass 3) 1 (t.pass + 1);
      quiet = quiet_after t.quiet removed;
      rounds = cond (eqb t.pass 3) (t.rounds + 1) t.rounds;
    }
