-- The contract of the first part of the call (`GamePreparedAs`), from what its checks and its partition answer. Assumes nothing.
use Prim.Native.Nat.{ℕ}
use mathlib.Core.Path.{◌≡◌, sym, ap₂, ◌∙◌}
use Rattle.std.specs.Prelude.{None, Some, Ok, Err}
use mathlib.Core.List.{List}
use lib.ListN.{length}
use Rattle.areas.specs.Fit.{Fit}
use Rattle.refusals.specs.declared.Refusal.{Refusal}
use Rattle.refusals.specs.Refusals.{number_of, refusal_of}
use Rattle.refusals.proofs.Steps.{positive}
use Rattle.checks.specs.declared.passes.Pass.{Pass}
use Rattle.checks.specs.Passes.{pass_number}
use Rattle.call_partition.specs.declared.Ready.{Ready}
use Rattle.call_partition.specs.Prepared.{DividedAs}
use Rattle.call_partition.proofs.EarlyFits.{early-fits}
use Rattle.game_lists.specs.Early.{game_early}
use Rattle.game_lists.specs.Prepared.{GamePreparedAs}
use Rattle.game_lists.proofs.Answering.{all_past, played-refused, played-late}

pub lists-fit : (pass w h : ℕ) (cells spans boundaries anchors : List ℕ) (l m q t output verdicts : ℕ)
    → None ≡ game_early pass w h cells spans boundaries anchors l m q t output verdicts → Fit w h cells spans l m q t
lists-fit pass w h cells spans boundaries anchors l m q t output verdicts e =
    early-fits pass w h cells spans boundaries anchors l m q t output (sym (all_past pass w h cells spans boundaries anchors l m q t output verdicts e).early)

module _ (pass w h : ℕ) (cells spans boundaries anchors : List ℕ) (room output verdicts : ℕ) (l m q t p : List ℕ) where
  -- a check refuses
  pub refused-early : (r : Refusal)
      → Some (refusal_of r) ≡ game_early pass w h cells spans boundaries anchors (length l) (length m) (length q) (length t) output verdicts
      → GamePreparedAs pass w h cells spans boundaries anchors room output verdicts l m q t p (Err r) l m q t p
  refused-early r e goal s o v long wide table =
      played-refused pass w h cells spans boundaries anchors l m q t p s o goal v (number_of r.cause) r.place
      (e ∙ ap₂ (game_early pass w h cells spans boundaries anchors (length l) (length m) (length q) (length t)) (sym wide) (sym table))

  -- none does
  module _ (e : None ≡ game_early pass w h cells spans boundaries anchors (length l) (length m) (length q) (length t) output verdicts) (l' m' q' t' p' : List ℕ) where
    -- but the partition
    pub refused-late : (r : Refusal) → DividedAs w h cells spans room l m q t p (Err r) l' m' q' t' p'
        → GamePreparedAs pass w h cells spans boundaries anchors room output verdicts l m q t p (Err r) l' m' q' t' p'
    refused-late r D =
        λ goal s o v long wide table.
        played-late pass w h cells spans boundaries anchors l m q t p s o goal v
        (e ∙ ap₂ (game_early pass w h cells spans boundaries anchors (length l) (length m) (length q) (length t)) (sym wide) (sym table)) (positive r.cause)
        (D pass boundaries anchors output (all_past pass w h cells spans boundaries anchors (length l) (length m) (length q) (length t) output verdicts e).early s o long wide)

    pub prepared_game : (y : Pass × Ready) → pass_number y.0 ≡ pass → DividedAs w h cells spans room l m q t p (Ok y.1) l' m' q' t' p'
        → GamePreparedAs pass w h cells spans boundaries anchors room output verdicts l m q t p (Ok y) l' m' q' t' p'
    prepared_game y named D =
        let past = all_past pass w h cells spans boundaries anchors (length l) (length m) (length q) (length t) output verdicts e in
        (named, record { ready = D pass boundaries anchors output past.early; lists = past.lists; enough = past.enough })
