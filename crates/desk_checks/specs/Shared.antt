-- The words of the contract of `prepare_shared`. Definitions only; assumes nothing.
use Rattle.std.specs.Prelude.{ℕ, ◌≡◌, List, [], length, Some, Result, Ok, Err}
use Rattle.definitions.specs.RegionRecord.{Region}
use Rattle.refusals.specs.declared.Refusal.{Refusal}
use Rattle.refusals.specs.Refusals.{number_of}
use Rattle.call_partition.specs.declared.Ready.{Ready}
use Rattle.call_partition.specs.Prepared.{ReadyAs}
use Rattle.desks.specs.Desks.{Shared, shared_refusal, LeftShared}

-- what is lent to both desks
abbrev pub lent_both : ℕ → ℕ → List ℕ → List ℕ → List ℕ → List ℕ → List ℕ → List ℕ → List ℕ → List Region → Shared
lent_both w h cells spans l m q t p s =
    record { width = w; height = h; cells = cells; spans = spans; labels = l; masks = m; queue = q; tallies = t; pairs = p; records = s }

-- the shared refusal is this one, and the shared lists are as it leaves them
pub record RefusedBoth (S : Shared) (number place : ℕ) (l m q t p : List ℕ) (s : List Region) : Type 0 where
  pub refused : shared_refusal S ≡ Some (record { number = number; place = place })
  pub left : LeftShared S l m q t p s

-- A refusal is the shared one, for whatever records of this number, which are as they were. Otherwise the terrain is prepared: the call with no boundaries, no
-- anchors and no output is ready.
abbrev pub SharedAs : (w h : ℕ) (cells spans : List ℕ) (room : ℕ) (l m q t p : List ℕ) → Result Ready Refusal → (l' m' q' t' p' : List ℕ) → Type 0
SharedAs w h cells spans room l m q t p (Err r) l' m' q' t' p' =
    (s : List Region) → length s ≡ room → RefusedBoth (lent_both w h cells spans l m q t p s) (number_of r.cause) r.place l' m' q' t' p' s
SharedAs w h cells spans room l m q t p (Ok ready) l' m' q' t' p' =
    ReadyAs 1 w h cells spans [] [] room 0 l m q t p ready.regions ready.rows l' m' q' t' p'
