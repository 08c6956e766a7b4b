-- The contract of the part of a run to rest before its first pass: its checks, the starting list and the first partition. Definitions only; assumes nothing.
use Rattle.std.specs.Prelude.{ℕ, ◌≡◌, List, length, Result, Ok, Err}
use Rattle.definitions.specs.Grid.{map_of}
use Rattle.definitions.specs.RegionRecord.{Region}
use Rattle.refusals.specs.declared.Refusal.{Refusal}
use Rattle.refusals.specs.Refusals.{number_of}
use Rattle.call_partition.specs.declared.Ready.{Ready}
use Rattle.call_partition.specs.Contract.{given}
use Rattle.rest_definitions.specs.RowOrder.{start_map}
use Rattle.rest.specs.InnerCalls.{RestAccepted}
use Rattle.rest.specs.RestCalls.{RestRan}
use Rattle.rest_lists.specs.Kept.{Holds, ReadyOf, all_places}

-- The run is accepted, with whatever records and output of these lengths; the partition of its starting map is ready, and numbers n, spans b and boundaries d
-- hold all its places.
pub record Begun (w h : ℕ) (cells spans boundaries anchors : List ℕ) (room output : ℕ) (l m q t p : List ℕ) (regions rows : ℕ) (l' m' q' t' p' n b d : List ℕ) : Type 0 where
  pub accepted : (s : List Region) (o : List ℕ) → length s ≡ room → length o ≡ output → RestAccepted (given 1 w h cells spans boundaries anchors l m q t p s o)
  pub ready : ReadyOf w h cells anchors (start_map (map_of w h cells spans boundaries anchors)) room l m q t p regions rows l' m' q' t' p'
  pub held : Holds (map_of w h cells spans boundaries anchors) (all_places (map_of w h cells spans boundaries anchors)) n b d

-- A refusal is the run's, for whatever records and output of these lengths.
abbrev pub BegunAs : (w h : ℕ) (cells spans boundaries anchors : List ℕ) (room output : ℕ) (l m q t p : List ℕ) → Result Ready Refusal → (l' m' q' t' p' n b d : List ℕ) → Type 0
BegunAs w h cells spans boundaries anchors room output l m q t p (Err r) l' m' q' t' p' n b d =
    (s : List Region) (o : List ℕ) → length s ≡ room → length o ≡ output
    → RestRan (given 1 w h cells spans boundaries anchors l m q t p s o) (record { number = number_of r.cause; value = r.place; rounds = 0 }) l' m' q' t' p' s o
BegunAs w h cells spans boundaries anchors room output l m q t p (Ok ready) l' m' q' t' p' n b d =
    Begun w h cells spans boundaries anchors room output l m q t p ready.regions ready.rows l' m' q' t' p' n b d
