-- What the declared types say, in the words of RegionRecord: the paper's values of a share, and the answer for C. Definitions only; assumes nothing.
use Rattle.std.specs.Prelude.{ℕ, Bool, true, false, Option, None, Some}
use Rattle.definitions.specs.RegionRecord as def
use Rattle.elevations.specs.declared.Share.{Share}
use Rattle.elevations.specs.declared.Dominance.{Dominance}
use Rattle.elevations.specs.declared.ElevationsAnswer.{ElevationsAnswer}

-- the largest count that is asked for, a 32-bit number: a hundred times it is a 64-bit number
abbrev pub max_count : ℕ
max_count = 0xFFFFFFFF

abbrev pub share_form : Option Share → Option def.Share
share_form None = None
share_form (Some h) = Some (record { percent = h.percent; remainder = h.remainder })

abbrev pub dominance_form : Dominance → def.Dominance
dominance_form d = record { elevation = d.elevation; share = share_form d.share }

-- ---- for C

abbrev pub has_share_lem : Option def.Share → Bool
has_share_lem None = false
has_share_lem (Some h) = true

-- 0 where there is no share
abbrev pub percent_of : Option def.Share → ℕ
percent_of None = 0
percent_of (Some h) = h.percent

abbrev pub remainder_of : Option def.Share → ℕ
remainder_of None = 0
remainder_of (Some h) = h.remainder

abbrev pub answer_of : def.Dominance → ElevationsAnswer
answer_of d = record { elevation = d.elevation; has_share = has_share_lem d.share; percent = percent_of d.share; remainder = remainder_of d.share }
