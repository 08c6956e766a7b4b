-- The anchored regions of a triangle, one by one: none, one, or several. Definitions only; assumes nothing.
use Rattle.std.specs.Prelude.{ℕ, ◌-◌, ◌%◌, Bool, ◌||◌, not, ◌&&◌, cond, List, [], ◌∷◌, get_or, eqb}
use Rattle.context.specs.declared.found_regions.FoundRegions.{FoundRegions}
use Rattle.context.specs.declared.found_regions.FoundRegions.TheVariants as outers

-- region r is anchored
abbrev pub mark_at : List ℕ → ℕ → Bool
mark_at marks r = eqb (get_or marks (r - 1) 0 % 2) 1

-- an inner region of a star: not anchored, and the approach r or one with no other incident
abbrev pub inner_fits : List ℕ → List ℕ → ℕ → ℕ → ℕ → Bool
inner_fits marks counts outer r s = eqb s outer || not (mark_at marks s) && (eqb s r || eqb (get_or counts (s - 1) 0) 1)

abbrev pub outers_of : List ℕ → FoundRegions
outers_of [] = outers.None
outers_of (r ∷ []) = outers.One r
outers_of (r ∷ s ∷ l) = outers.Several

-- one region more
abbrev pub with_region : FoundRegions → ℕ → FoundRegions
with_region outers.None r = outers.One r
with_region (outers.One s) r = cond (eqb s r) (outers.One s) outers.Several
with_region outers.Several r = outers.Several
