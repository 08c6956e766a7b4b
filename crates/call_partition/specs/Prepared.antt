-- What the first part of the call leaves, before its records are filled: the whole contract where it refuses, and otherwise what the rest of the call goes on
-- from. Definitions only; assumes nothing.
use Rattle.std.specs.Prelude.{ℕ, ◌*◌, ◌/◌, ◌≤◌, ◌≡◌, List, length, drop, None, Result, Ok, Err}
use Rattle.definitions.specs.Limits.{numbers_per_pair}
use Rattle.definitions.specs.Grid.{map_of}
use Rattle.definitions.specs.Lists.{overwrite}
use Rattle.definitions.specs.Partition.{labels, region_count}
use Rattle.definitions.specs.RegionRecord.{Region}
use Rattle.definitions.specs.Context.{context_of}
use Rattle.definitions.specs.Verdict.{pair_rows_of}
use Rattle.definitions.specs.AtExit.{tallies_of}
use Rattle.row_runs.specs.Contract.{Chain}
use Rattle.refusals.specs.declared.Refusal.{Refusal}
use Rattle.refusals.specs.Refusals.{number_of}
use Rattle.checks.specs.declared.passes.Pass.{Pass}
use Rattle.checks.specs.Passes.{pass_number}
use Rattle.call_partition.specs.declared.Ready.{Ready}
use Rattle.call_partition.specs.Early.{early_refusal}
use Rattle.call_partition.specs.Contract.{given, Ran}

-- No check of the table refuses, with `room` records and an output of length `output`. Labels, tallies and pairs are filled; the queue has the stretches, from
-- the first cell on; masks and queue are written over the needed length alone. There are so many regions and rows of pairs.
pub record ReadyAs (pass w h : ℕ) (cells spans boundaries anchors : List ℕ) (room output : ℕ) (l m q t p : List ℕ) (regions rows : ℕ) (l' m' q' t' p' : List ℕ) : Type 0 where
  pub accepted : None ≡ early_refusal pass w h cells spans boundaries anchors (length l) (length m) (length q) (length t) output
  pub count : regions ≡ region_count (map_of w h cells spans boundaries anchors)
  pub enough : region_count (map_of w h cells spans boundaries anchors) ≤ room
  pub filled : l' ≡ overwrite (labels (map_of w h cells spans boundaries anchors)) l
  pub masks : drop (h * w) m' ≡ drop (h * w) m
  pub chain : Chain (map_of w h cells spans boundaries anchors) q' 0
  pub queue : drop (h * w) q' ≡ drop (h * w) q
  pub tallied : t' ≡ overwrite (tallies_of (context_of (map_of w h cells spans boundaries anchors))) t
  pub fits : length (pair_rows_of (context_of (map_of w h cells spans boundaries anchors))) ≤ length p / numbers_per_pair * numbers_per_pair
  pub row_count_lem : numbers_per_pair * rows ≡ length (pair_rows_of (context_of (map_of w h cells spans boundaries anchors)))
  pub paired : p' ≡ overwrite (pair_rows_of (context_of (map_of w h cells spans boundaries anchors))) p

-- A refusal is the call's, for whatever records and output of these lengths.
abbrev pub PreparedAs : (pass w h : ℕ) (cells spans boundaries anchors : List ℕ) (room output : ℕ) (l m q t p : List ℕ) → Result Ready Refusal → (l' m' q' t' p' : List ℕ) → Type 0
PreparedAs pass w h cells spans boundaries anchors room output l m q t p (Err r) l' m' q' t' p' = (s : List Region) (o : List ℕ) → length s ≡ room → length o ≡ output → Ran (given pass w h cells spans boundaries anchors l m q t p s o) (record { number = number_of r.cause; value = r.place }) l' m' q' t' p' s o
PreparedAs pass w h cells spans boundaries anchors room output l m q t p (Ok ready) l' m' q' t' p' = ReadyAs pass w h cells spans boundaries anchors room output l m q t p ready.regions ready.rows l' m' q' t' p'

-- the same of a call that asks for its pass by number: with what is ready stands the pass of this number
abbrev pub PassPreparedAs : (pass w h : ℕ) (cells spans boundaries anchors : List ℕ) (room output : ℕ) (l m q t p : List ℕ) → Result (Pass × Ready) Refusal → (l' m' q' t' p' : List ℕ) → Type 0
PassPreparedAs pass w h cells spans boundaries anchors room output l m q t p (Err r) l' m' q' t' p' = PreparedAs pass w h cells spans boundaries anchors room output l m q t p (Err r) l' m' q' t' p'
PassPreparedAs pass w h cells spans boundaries anchors room output l m q t p (Ok y) l' m' q' t' p' =
    (pass_number y.0 ≡ pass) × PreparedAs pass w h cells spans boundaries anchors room output l m q t p (Ok y.1) l' m' q' t' p'

-- the same of lists that no check before 11 refuses, of whatever pass, boundaries, anchors and output
abbrev pub DividedAs : (w h : ℕ) (cells spans : List ℕ) (room : ℕ) (l m q t p : List ℕ) → Result Ready Refusal → (l' m' q' t' p' : List ℕ) → Type 0
DividedAs w h cells spans room l m q t p r l' m' q' t' p' =
    (pass : ℕ) (boundaries anchors : List ℕ) (output : ℕ) → None ≡ early_refusal pass w h cells spans boundaries anchors (length l) (length m) (length q) (length t) output
    → PreparedAs pass w h cells spans boundaries anchors room output l m q t p r l' m' q' t' p'
