-- The elevations that an interior of a ramp may have, as ramp_boundaries.rs asks with masks of eight bits, and that this is asked elevation by elevation: all cases
-- of a mask and of the ramp's two elevations, computed. Assumes nothing.
use Rattle.std.specs.Prelude.{ℕ, ◌-◌, ◌^◌, ◌<◌, ◌≡◌, refl, Bool, true, not, ◌||◌, eqb}
use Rattle.std.specs.Bool.{beq}
use Rattle.std.specs.Int.Bits.{bit_and, bit_or}
use Rattle.definitions.specs.Scan.{all_below}
use Rattle.definitions.specs.RegionRecord.{has_bit}
use Rattle.laws.specs.ListLaws.Tests.{beq_same}
use Rattle.laws.specs.ListLaws.Below.{all_below_at}

--     let allowed_elevations = (1_u8 << ramp.lower_elevation) | (1_u8 << ramp.upper_elevation);
--     ..
--     stat.elevations & !allowed_elevations == 0
unfoldable pub none_else : ℕ → ℕ → ℕ → Bool
none_else elevations lower upper = eqb (bit_and elevations (255 - bit_or (2 ^ lower) (2 ^ upper))) 0

unfoldable pub each_allowed : ℕ → ℕ → ℕ → Bool
unfolding all_below
each_allowed elevations lower upper = all_below 8 (λ e. not (has_bit elevations e) || (eqb e lower || eqb e upper))

-- a mask of the elevations 0 to 3 is below 16
table : all_below 16 (λ n. all_below 8 (λ l. all_below 8 (λ u. beq (none_else n l u) (each_allowed n l u)))) ≡ true
unfolding all_below none_else each_allowed
table = refl

pub mask_is : (elevations lower upper : ℕ) → elevations < 16 → lower < 8 → upper < 8 → none_else elevations lower upper ≡ each_allowed elevations lower upper
mask_is n l u hn hl hu =
    beq_same (none_else n l u) (each_allowed n l u)
    (all_below_at 8 (λ u. beq (none_else n l u) (each_allowed n l u))
    (all_below_at 8 (λ l. all_below 8 (λ u. beq (none_else n l u) (each_allowed n l u)))
    (all_below_at 16 (λ n. all_below 8 (λ l. all_below 8 (λ u. beq (none_else n l u) (each_allowed n l u)))) table n hn) l hl) u hu)
