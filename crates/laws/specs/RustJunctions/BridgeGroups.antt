-- The bridge of a pocket as the Rust finds it (junctions.rs): its three ports grouped by the region beyond, in a map; two groups, the one of two ports and the one
-- of one; and the wider of the two. It is `bridge_of_ports`. The argument: of three numbers either two are equal and the third is not, in one of three
-- arrangements, and then the groups are those two and the third, whichever comes first in the map; or all are equal or all differ, and there are not two groups.
-- Assumes nothing.
use Rattle.std.specs.Prelude.{ℕ, length, get_or, eqb, ltb, Option, None, Some}
use Rattle.std.proofs.Math.Bool.{cond}
use mathlib.Core.List.{List, [], ◌∷◌, ◌++◌}
use Rattle.definitions.specs.Scan.{all, only_if}
use Rattle.definitions.specs.Grid.{Pair}
use Rattle.definitions.specs.Context.{Context}
use Rattle.definitions.specs.Junctions.{is_twice_as_wide, is_near_port}

-- ---- as the Rust writes it

-- `groups: BTreeMap<u32, Vec<usize>>`, as its entries by ascending key
pub record Group : Type 0 where
  pub exterior : ℕ
  pub indexes : List ℕ

--     groups.entry(exterior).or_default().push(*index);
unfoldable pub push_group : List Group → ℕ → ℕ → List Group
push_group [] e j = record { exterior = e; indexes = j ∷ [] } ∷ []
push_group (g ∷ gs) e j =
    cond (ltb e g.exterior) (record { exterior = e; indexes = j ∷ [] } ∷ g ∷ gs)
    (cond (eqb e g.exterior) (record { exterior = g.exterior; indexes = g.indexes ++ (j ∷ []) } ∷ gs) (g ∷ push_group gs e j))

--     (pair[0] == *pocket).then_some(pair[1]).or_else(|| (pair[1] == *pocket).then_some(pair[0]))
abbrev pub beyond_pocket : ℕ → Pair → Option ℕ
beyond_pocket pocket q = cond (eqb q.lo pocket) (Some q.hi) (cond (eqb q.hi pocket) (Some q.lo) None)

--     let Some(exterior) = .. else { continue; };
abbrev pub push_beyond : List Group → ℕ → Option ℕ → List Group
push_beyond groups j None = groups
push_beyond groups j (Some e) = push_group groups e j

--     let pair = full_pair(&metadata[*index]).expect("validated bridge port");
-- (No other port is met here.)
abbrev pub push_port : ℕ → List Group → ℕ → Option Pair → List Group
push_port pocket groups j None = groups
push_port pocket groups j (Some q) = push_beyond groups j (beyond_pocket pocket q)

--     groups.iter().find(|(_, indexes)| indexes.len() == n)
unfoldable pub find_length : ℕ → List Group → Option Group
find_length n [] = None
find_length n (g ∷ gs) = cond (eqb (length g.indexes) n) (Some g) (find_length n gs)

-- what a bridge proposal has besides its pocket and ports
pub record Bridge : Type 0 where
  pub index : ℕ
  pub exterior : ℕ

-- `full` is `full_pair(&metadata[..])` (FullCut)
module _ (full : ℕ → Option Pair) where
  --     for index in ports { .. }
  unfoldable pub groups_from : ℕ → List Group → List ℕ → List Group
  groups_from pocket groups [] = groups
  groups_from pocket groups (j ∷ js) = groups_from pocket (push_port pocket groups j (full j)) js

module _ (C : Context) where
  --     let middle = center(&boundaries[index]);
  --     if ports.iter().all(|port| within_distance(middle, center(&boundaries[*port]), MAX_PORT_DISTANCE_PIXELS)) { .. }
  unfoldable pub bridge_if_near : List ℕ → ℕ → ℕ → Option Bridge
  bridge_if_near ports exterior index = only_if (all (is_near_port C index) ports) (record { index = index; exterior = exterior })

  --     let index = if boundaries[first].width_pixels >= 2.0 * boundaries[second].width_pixels { first }
  --         else if boundaries[second].width_pixels >= 2.0 * boundaries[first].width_pixels { second }
  --         else { continue; };
  unfoldable pub wider_of : List ℕ → ℕ → ℕ → ℕ → Option Bridge
  wider_of ports exterior first second =
      cond (is_twice_as_wide C first second) (bridge_if_near ports exterior first) (cond (is_twice_as_wide C second first) (bridge_if_near ports exterior second) None)

  --     let Some((&exterior, shared)) = .. else { continue; };
  --     let Some((&third, _)) = .. else { continue; };
  --     if !ctx.anchored.contains(&third) { continue; }
  --     let (first, second) = (shared[0], shared[1]);
  abbrev pub bridge_of_two : List ℕ → Option Group → Option Group → Option Bridge
  bridge_of_two ports None t = None
  bridge_of_two ports (Some g) None = None
  bridge_of_two ports (Some g) (Some t) = cond (C.anchored t.exterior) (wider_of ports g.exterior (get_or g.indexes 0 0) (get_or g.indexes 1 0)) None

  --     if groups.len() != 2 { continue; }
  unfoldable pub bridge_of_groups : List ℕ → List Group → Option Bridge
  bridge_of_groups ports groups = cond (eqb (length groups) 2) (bridge_of_two ports (find_length 2 groups) (find_length 1 groups)) None
