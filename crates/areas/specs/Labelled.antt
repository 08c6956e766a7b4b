-- What labelling leaves of the lists that it was lent. Definitions only; assumes nothing.
use Rattle.std.specs.Prelude.{ℕ, ◌*◌, ◌≡◌, List, drop}
use Rattle.definitions.specs.Grid.{Map}
use Rattle.cut_steps.specs.Contract.{SpanMap}
use Rattle.cut_steps.specs.Marking.{SpansShown}
use Rattle.row_runs.specs.Contract.{Labelled}

-- Labels, masks and queue were l, m and q and have become l', m' and q'; r is how many regions there are. Masks are written over the needed length alone, and have the cut
-- steps of each span.
pub record LabelledAs (w h : ℕ) (cells spans l m q l' m' q' : List ℕ) (r : ℕ) : Type 0 where
  pub maps : (M : Map) → SpanMap w h cells spans M → Labelled M l q l' q' r
  pub shown : SpansShown w h cells spans m'
  pub rest : drop (h * w) m' ≡ drop (h * w) m
