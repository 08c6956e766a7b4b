-- What the first part of the call leaves, before its records are filled: the whole contract where it refuses, and otherwise what the rest goes on from.
-- Definitions only; assumes nothing.
use Rattle.std.specs.Prelude.{ℕ, ◌≤◌, ◌≡◌, List, length, None, Result, Ok, Err}
use Rattle.definitions.specs.RegionRecord.{Region}
use Rattle.refusals.specs.declared.Refusal.{Refusal}
use Rattle.refusals.specs.Refusals.{number_of}
use Rattle.checks.specs.declared.passes.Pass.{Pass}
use Rattle.checks.specs.Passes.{pass_number}
use Rattle.call_partition.specs.declared.Ready.{Ready}
use Rattle.call_partition.specs.Contract.{given}
use Rattle.call_partition.specs.Prepared.{ReadyAs}
use Rattle.rest_definitions.specs.RestVerdict.{lists_fault}
use Rattle.game.specs.Graph.{verdicts_room}
use Rattle.game_calls.specs.GameExit.{Played}

-- no check before 23 refuses
pub record GameReady (pass w h : ℕ) (cells spans boundaries anchors : List ℕ) (room output verdicts : ℕ) (l m q t p : List ℕ) (regions rows : ℕ)
    (l' m' q' t' p' : List ℕ) : Type 0 where
  pub ready : ReadyAs pass w h cells spans boundaries anchors room output l m q t p regions rows l' m' q' t' p'
  pub lists : lists_fault spans boundaries ≡ None
  pub enough : verdicts_room ≤ verdicts

-- A refusal is the call's, for whatever goal, and records, output and verdicts of these lengths. With what is ready stands the pass of the number asked for.
abbrev pub GamePreparedAs : (pass w h : ℕ) (cells spans boundaries anchors : List ℕ) (room output verdicts : ℕ) (l m q t p : List ℕ) → Result (Pass × Ready) Refusal
    → (l' m' q' t' p' : List ℕ) → Type 0
GamePreparedAs pass w h cells spans boundaries anchors room output verdicts l m q t p (Err r) l' m' q' t' p' =
    (goal : ℕ) (s : List Region) (o v : List ℕ) → length s ≡ room → length o ≡ output → length v ≡ verdicts
    → Played (given pass w h cells spans boundaries anchors l m q t p s o) goal v (record { number = number_of r.cause; value = r.place; regions = 0 }) l' m' q' t' p' s o v
GamePreparedAs pass w h cells spans boundaries anchors room output verdicts l m q t p (Ok y) l' m' q' t' p' =
    (pass_number y.0 ≡ pass) × GameReady pass w h cells spans boundaries anchors room output verdicts l m q t p y.1.regions y.1.rows l' m' q' t' p'
