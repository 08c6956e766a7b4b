-- The numbers from a first one up to one that grows, as far as a last one: laws of a loop over such numbers. Assumes nothing.
use Rattle.std.specs.Prelude.{◌≡◌, ℕ, suc, ◌+◌, ◌-◌, ◌≤◌, ◌<◌, List}
use Rattle.std.proofs.Common.{ap, arith}
use Rattle.definitions.specs.Scan.{run}
use Rattle.definitions.specs.Spans.{range_inclusive}

-- first, .., m - 1
abbrev pub up_to : ℕ → ℕ → List ℕ
up_to first m = run first (m - first)

-- m is the number that a loop from `first` to `last` is at; past the last one, all are done
pub record Between (first last m : ℕ) : Type 0 where
  pub from : first ≤ m
  pub to : m - first ≤ suc last - first

pub up_to_last : (first last m : ℕ) → Between first last m → last < m → up_to first m ≡ range_inclusive first last
unfolding range_inclusive
up_to_last first last m b h =
    let e : m - first ≡ suc last - first = omega (arith, b.from, b.to) in
    ap (run first) e

pub between_more : (first last m : ℕ) → Between first last m → m ≤ last → Between first last (m + 1)
between_more first last m b h = record { from = omega (arith, b.from); to = omega (arith, b.from) }

pub between_first : (first last : ℕ) → Between first last first
between_first first last = record { from = omega arith; to = omega arith }
