-- The walk of `collapse_ramp_interiors` (ramp_boundaries.rs) over the two ports of an interior, which takes in the leaves beyond them, as it is written there.
-- `expanded_regions` and `valid_ports` are an `Expansion`, its regions a set. Definitions only. Assumes nothing.
use Rattle.std.specs.Prelude.{ℕ, Bool, false, not, ◌||◌, cond, List, [], ◌∷◌, length, eqb, ltb, Option, None, Some}
use Rattle.definitions.specs.Scan.{any, filter, member}
use Rattle.definitions.specs.Grid.{Pair}
use Rattle.definitions.specs.Context.{Context}
use Rattle.definitions.specs.RampInteriors.{Expansion, invalid}
use Rattle.laws.specs.SetLaws.Sets.{set_insert}
use Rattle.laws.specs.RustContext.Incidents.{is_none_or, incidents_rust}
use Rattle.laws.specs.RustMouths.MouthLiteral.{find}

-- the regions of a pair that are in the set
--     pair.iter().copied().filter(|region| set.contains(region)).collect()
unfoldable pub pair_in : List ℕ → Pair → List ℕ
pair_in set pair = filter (λ region. member region set) (pair.lo ∷ pair.hi ∷ [])

-- `expect`; 0 stands for the panic, which is never met here: the two regions of a pair differ where exactly one is in a set
abbrev pub expected : Option ℕ → ℕ
expected None = 0
expected (Some region) = region

--     pair.iter().copied().find(|region| region != inside).expect("pair has two regions")
unfoldable pub other_of : ℕ → Pair → ℕ
other_of inside pair = expected (find (λ region. not (eqb region inside)) (pair.lo ∷ pair.hi ∷ []))

-- `exteriors` and `valid_ports` in the first loop
pub record Outside : Type 0 where
  pub exteriors : List ℕ
  pub valid : Bool

--     if let [inside] = inside.as_slice() {
--         exteriors.insert(..);
--     }
unfoldable pub insert_exterior : List ℕ → Pair → List ℕ → List ℕ
insert_exterior exteriors pair [] = exteriors
insert_exterior exteriors pair (inside ∷ []) = set_insert exteriors (other_of inside pair)
insert_exterior exteriors pair (u ∷ v ∷ l) = exteriors

--     for pair in pairs {
--         let inside: Vec<_> = ..;
--         if inside.len() > 1 {
--             valid_ports = false;
--         }
--         ..
--     }
unfoldable pub find_exteriors : List ℕ → Outside → List Pair → Outside
find_exteriors expanded o [] = o
find_exteriors expanded o (pair ∷ pairs) =
    let inside = pair_in expanded pair in
    find_exteriors expanded
    (record { exteriors = insert_exterior o.exteriors pair inside; valid = cond (ltb 1 (length inside)) false o.valid })
    pairs

module _ (C : Context) where
  --     if ctx.anchored.contains(&leaf)
  --         || ctx
  --             .incidents
  --             .get(&leaf)
  --             .is_none_or(|incidents| incidents.len() != 1 || !incidents.contains(&index))
  --     {
  --         valid_ports = false;
  --         continue;
  --     }
  --     expanded_regions.insert(leaf);
  unfoldable pub take_leaf : ℕ → Expansion → ℕ → Expansion
  take_leaf index s leaf =
      cond (C.anchored leaf || is_none_or (incidents_rust C leaf) (λ incidents. not (eqb (length incidents) 1) || not (member index incidents))) (invalid s)
      (record { regions = set_insert s.regions leaf; valid = s.valid })

  --     let [exterior] = exterior.as_slice() else {
  --         valid_ports = false;
  --         continue;
  --     };
  --     let leaf = ..;
  unfoldable pub take_beyond : ℕ → Expansion → Pair → List ℕ → Expansion
  take_beyond index s pair [] = invalid s
  take_beyond index s pair (exterior ∷ []) = take_leaf index s (other_of exterior pair)
  take_beyond index s pair (u ∷ v ∷ l) = invalid s

  --     for pair in pairs {
  --         if pair.iter().any(|region| expanded_regions.contains(region)) {
  --             continue;
  --         }
  unfoldable pub take_leaves : ℕ → List ℕ → Expansion → List Pair → Expansion
  take_leaves index exteriors s [] = s
  take_leaves index exteriors s (pair ∷ pairs) =
      take_leaves index exteriors
      (cond (any (λ region. member region s.regions) (pair.lo ∷ pair.hi ∷ [])) s (take_beyond index s pair (pair_in exteriors pair)))
      pairs

  --     if pairs.iter().any(|pair| {
  --         pair.iter()
  --             .filter(|region| expanded_regions.contains(region))
  --             .count()
  --             != 1
  --     }) {
  --         valid_ports = false;
  --     }
  unfoldable pub check_pairs : List Pair → Expansion → Expansion
  check_pairs pairs s = cond (any (λ pair. not (eqb (length (pair_in s.regions pair)) 1)) pairs) (invalid s) s

  --     for index in port_indexes {
  --         let pairs = &metadata[index].region_pairs;
  --         let mut exteriors = BTreeSet::new();
  unfoldable pub walk_port : Expansion → ℕ → Expansion
  walk_port s index =
      let pairs = C.pairs index in
      let outside = find_exteriors s.regions (record { exteriors = []; valid = s.valid }) pairs in
      check_pairs pairs (take_leaves index outside.exteriors (record { regions = s.regions; valid = outside.valid }) pairs)
