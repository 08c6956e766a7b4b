-- What a context of a map that passes the checks always meets besides Sound, and passes 1 and 2 rest on. Definitions only. Assumes nothing.
use Rattle.std.specs.Prelude.{ℕ, ◌<◌, ◌≤◌, ◌≡◌, true}
use Rattle.std.specs.Float.Ieee.Scale.{finite}
use Rattle.definitions.specs.Context.{Context}

-- `kinds`, `lowers`, `uppers`: check 7 of the table of SPECIFICATION 4. `masks`: a mask is of the elevations 0 to 3. `measured`: an edge of a region is a pixel.
pub record Checked (C : Context) : Type 0 where
  pub kinds : (i : ℕ) → i < C.count → (C.boundary i).kind ≤ 2
  pub lowers : (i : ℕ) → i < C.count → (C.boundary i).lower < 8
  pub uppers : (i : ℕ) → i < C.count → (C.boundary i).upper < 8
  pub masks : (r : ℕ) → (C.region r).elevations < 16
  pub measured : (r : ℕ) → finite (C.region r).min_x_lem ≡ true
