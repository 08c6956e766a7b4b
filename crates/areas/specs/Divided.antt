-- What the partition leaves of lists that no check before it refuses: its contract, where the checks say so. Definitions only; assumes nothing.
use Rattle.std.specs.Prelude.{ℕ, ◌≡◌, List, length, None, Result}
use Rattle.refusals.specs.declared.Refusal as code
use Rattle.areas.specs.Contract.{given, early_refusal, Ran}

abbrev pub Divided : (w h : ℕ) (cells spans l m q t p : List ℕ) → Result ℕ code.Refusal → (l' m' q' t' p' : List ℕ) → Type 0
Divided w h cells spans l m q t p r l' m' q' t' p' = None ≡ early_refusal w h cells spans (length l) (length m) (length q) (length t) → Ran (given w h cells spans l m q t p) r l' m' q' t' p'
