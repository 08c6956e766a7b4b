-- What the context of a map always meets, and a context made up need not: where a definition leaves out a test of the Rust, or asks another,
-- it is because of one of these (SoundMaps proves them of a map). Definitions only. Assumes nothing.
use Rattle.std.specs.Prelude.{ℕ, ◌*◌, ◌^◌, ◌<◌, ◌≤◌, ◌≡◌, []}
use Rattle.definitions.specs.Context.{Context}
use Rattle.laws.specs.ListLaws.Lists.{All}

-- `ordered`: the labels of a pair differ, the smaller first. `paired`: a separated step gives a pair. `labelled`: pairs name regions, from 1 on.
-- `inhabited`: a region that a pair names has a cell. `finite`: a width is finite, and its sign bit is clear.
pub record Sound (C : Context) : Type 0 where
  pub ordered : (i : ℕ) → All (λ p. p.lo < p.hi) (C.pairs i)
  pub paired : (i : ℕ) → C.pairs i ≡ [] → C.separated_edges i ≡ 0
  pub labelled : (i : ℕ) → All (λ p. (1 ≤ p.lo) × (p.hi ≤ C.regions)) (C.pairs i)
  pub inhabited : (i : ℕ) → All (λ p. (0 < (C.region p.lo).cells) × (0 < (C.region p.hi).cells)) (C.pairs i)
  pub finite : (i : ℕ) → i < C.count → (C.boundary i).width_bits < 2047 * 2 ^ 52
