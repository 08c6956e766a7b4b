-- What it means that a small context S is a large one L seen inside: the boundaries `in_b` and the regions `in_r` of L, counted through, are S's.
-- Definitions, and what they say of one region's new number. Assumes nothing.
use Rattle.std.specs.Prelude.{ℕ, suc, ◌≡◌, Bool, true, false, map, eqb, ltb}
use Rattle.std.proofs.Common.{sym, ◌∙◌}
use Rattle.std.proofs.Math.Dec.{eqb-suc-suc, leb-suc-suc}
use Rattle.definitions.specs.Grid.{Pair}
use Rattle.definitions.specs.Context.{Context}
use Rattle.laws.specs.ListLaws.Lists.{All}
use Rattle.laws.specs.OrderLaws.Ranks.{rank, rank-ltb, rank-eqb}
use Rattle.laws.specs.RegionLaws.Merging.{Within}

module _ (in_r : ℕ → Bool) where
  -- the small context's number of a region inside
  abbrev pub ren : ℕ → ℕ
  ren r = suc (rank in_r r)

  abbrev pub ren_p : Pair → Pair
  ren_p p = record { lo = ren p.lo; hi = ren p.hi }

  -- both regions of a pair lie inside, or outside, as b is true or false
  pub record PairOn (b : Bool) (p : Pair) : Type 0 where
    pub lo : in_r p.lo ≡ b
    pub hi : in_r p.hi ≡ b

  pub ren-eqb : (a b : ℕ) → in_r a ≡ true → in_r b ≡ true → eqb a b ≡ eqb (ren a) (ren b)
  ren-eqb a b h k = rank-eqb in_r a b h k ∙ sym (eqb-suc-suc (rank in_r a) (rank in_r b))

  pub ren-ltb : (a b : ℕ) → in_r a ≡ true → ltb a b ≡ ltb (ren a) (ren b)
  ren-ltb a b h = rank-ltb in_r a b h ∙ sym (leb-suc-suc (suc (rank in_r a)) (rank in_r b))

pub record Frame (L S : Context) (in_b in_r : ℕ → Bool) : Type 0 where
  pub count : S.count ≡ rank in_b L.count
  pub regions : S.regions ≡ rank (λ k. in_r (suc k)) L.regions
  pub zero-out : in_r 0 ≡ false
  pub boundary : (i : ℕ) → in_b i ≡ true → L.boundary i ≡ S.boundary (rank in_b i)
  pub removed_edges : (i : ℕ) → in_b i ≡ true → L.removed_edges i ≡ S.removed_edges (rank in_b i)
  pub separated_edges : (i : ℕ) → in_b i ≡ true → L.separated_edges i ≡ S.separated_edges (rank in_b i)
  pub pairs : (i : ℕ) → in_b i ≡ true → S.pairs (rank in_b i) ≡ map (ren_p in_r) (L.pairs i)
  -- a boundary's pairs lie where it does
  pub pairs_on : (b : Bool) (i : ℕ) → in_b i ≡ b → All (PairOn in_r b) (L.pairs i)
  pub pairs-within : (i : ℕ) → All (Within (suc L.regions)) (L.pairs i)
  pub anchored : (r : ℕ) → in_r r ≡ true → L.anchored r ≡ S.anchored (ren in_r r)
  pub region : (r : ℕ) → in_r r ≡ true → L.region r ≡ S.region (ren in_r r)

-- no ramp id stands both on a boundary inside and on one outside
pub record Ids (L : Context) (in_b : ℕ → Bool) : Type 0 where
  pub differ : (i j : ℕ) → in_b i ≡ true → in_b j ≡ false → eqb (L.boundary i).kind 0 ≡ false → eqb (L.boundary j).kind 0 ≡ false → eqb (L.boundary j).ramp_id (L.boundary i).ramp_id ≡ false
