-- What `collapse_ramp_interiors` (ramp_boundaries.rs) asks of a component once its search has found it, as it is written there: of the sets `regions` and `edges`
-- that the search leaves. Definitions only. Assumes nothing.
use Rattle.std.specs.Prelude.{ℕ, Bool, not, ◌||◌, cond, List, [], ◌∷◌, length, ltb}
use Rattle.definitions.specs.Scan.{any, member}
use Rattle.definitions.specs.Context.{Context}
use Rattle.laws.specs.RustContext.FullCut.{is_empty}
use Rattle.laws.specs.SetLaws.Sets.{set_insert}
use Rattle.laws.specs.RustContext.Incidents.{or_nothing, incidents_rust}

module _ (C : Context) where
  --     edges.is_empty()
  --         || edges.len() > 8
  --         || regions.iter().any(|region| ctx.anchored.contains(region))
  unfoldable pub is_passed_over : List ℕ → List ℕ → Bool
  is_passed_over regions edges = is_empty edges || ltb 8 (length edges) || any C.anchored regions

  --     edges.iter().any(|index| {
  --         metadata[*index]
  --             .region_pairs
  --             .iter()
  --             .any(|pair| pair.iter().any(|region| !regions.contains(region)))
  --     })
  unfoldable pub leaves_component : List ℕ → List ℕ → Bool
  leaves_component regions edges = any (λ index. any (λ pair. any (λ region. not (member region regions)) (pair.lo ∷ pair.hi ∷ [])) (C.pairs index)) edges

  --     for index in ctx.incidents.get(region).into_iter().flatten() {
  --         if !edges.contains(index) {
  --             ports.insert(*index);
  --         }
  --     }
  unfoldable pub insert_ports : List ℕ → List ℕ → List ℕ → List ℕ
  insert_ports edges ports [] = ports
  insert_ports edges ports (index ∷ indexes) = insert_ports edges (cond (not (member index edges)) (set_insert ports index) ports) indexes

  --     let mut ports = BTreeSet::new();
  --     for region in &regions {
  unfoldable pub ports_from : List ℕ → List ℕ → List ℕ → List ℕ
  ports_from edges ports [] = ports
  ports_from edges ports (region ∷ regions) = ports_from edges (insert_ports edges ports (or_nothing (incidents_rust C region))) regions
