-- What the code's own types say. Definitions only; assumes nothing.
use Rattle.std.specs.Prelude.{ℕ, true, false, Bool, List, [], ◌∷◌, Option, unwrap_or}
use Rattle.game.specs.Game as game
use Rattle.game_search.specs.Words.{at}
use Rattle.game_verdicts.specs.declared.Place.{Place}
use Rattle.game_verdicts.specs.declared.Side.{Side}
use Rattle.game_verdicts.specs.declared.Side.TheVariants as side
use Rattle.game_verdicts.specs.declared.Verdict.{Verdict}

abbrev pub is_runner : Side → Bool
is_runner side.Runner = true
is_runner side.Guard = false

abbrev pub winner_number : Side → ℕ
winner_number side.Runner = 1
winner_number side.Guard = 2

abbrev pub place_of : Place → game.Place
place_of p = at p.runner p.guard (is_runner p.side)

-- a region as a verdict has it, 0 where none is named
abbrev pub number_in : Option ℕ → ℕ
number_in region = unwrap_or region 0

abbrev pub numbers_in : Verdict → List ℕ
numbers_in v = winner_number v.winner ∷ v.moves ∷ number_in v.region ∷ []
