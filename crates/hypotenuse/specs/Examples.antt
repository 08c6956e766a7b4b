-- The one answer that the contract of `hypotenuse` allows at the examples of SPECIFICATION 6, at a tie each way, and at the first doubles out of range. Assumes nothing.
use Rattle.std.specs.Prelude.{◌≡◌, ℕ, Float, Option, None, Some}
use Rattle.std.proofs.Math.Path.{refl}
use Rattle.std.specs.Float.Ieee.{binary64, of_bits}
use Rattle.definitions.specs.Hypotenuse.{hypot_number, hypot_value}
use Rattle.definitions.specs.Geometry.{float}
use Rattle.hypotenuse.specs.Contract.{Allowed, is_root_lem, is_refused_lem}

-- two doubles given by their bits
abbrev pub AllowedBits : ℕ → ℕ → Option Float → Type 0
AllowedBits x y r = Allowed (of_bits binary64 x) (of_bits binary64 y) r

module _ (r : Option Float) where
  pub three-four : Allowed (float 3) (float 4) r → r ≡ Some (float 5)
  unfolding hypot_number hypot_value float
  three-four h = is_root_lem (float 3) (float 4) r refl h

  pub zeros : Allowed (float 0) (float 0) r → r ≡ Some (float 0)
  unfolding hypot_number hypot_value float
  zeros h = is_root_lem (float 0) (float 0) r refl h

  pub ones : Allowed (float 1) (float 1) r → r ≡ Some (of_bits binary64 0x3FF6A09E667F3BCD)
  unfolding hypot_number hypot_value float of_bits
  ones h = is_root_lem (float 1) (float 1) r refl h

  pub tie_down : AllowedBits 0x408B95146A80E448 0x40C21F1B4712BE68 r → r ≡ Some (of_bits binary64 0x40C2340CEE12A684)
  unfolding hypot_number hypot_value of_bits
  tie_down h = is_root_lem (of_bits binary64 0x408B95146A80E448) (of_bits binary64 0x40C21F1B4712BE68) r refl h

  pub tie_up : AllowedBits 0x40B7735837B91FD3 0x40C006248ED7952E r → r ≡ Some (of_bits binary64 0x40C3DB12360D9A66)
  unfolding hypot_number hypot_value of_bits
  tie_up h = is_root_lem (of_bits binary64 0x40B7735837B91FD3) (of_bits binary64 0x40C006248ED7952E) r refl h

  pub too_small : AllowedBits 0x3BEFFFFFFFFFFFFF 0x40E0000000000000 r → r ≡ None
  unfolding hypot_number of_bits
  too_small h = is_refused_lem (of_bits binary64 0x3BEFFFFFFFFFFFFF) (of_bits binary64 0x40E0000000000000) r refl h

  pub too_large : AllowedBits 0x3BF0000000000000 0x40E0000000000001 r → r ≡ None
  unfolding hypot_number of_bits
  too_large h = is_refused_lem (of_bits binary64 0x3BF0000000000000) (of_bits binary64 0x40E0000000000001) r refl h
