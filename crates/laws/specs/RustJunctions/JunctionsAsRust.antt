-- Pass 3 whole as the Rust writes it, `remove_junction_boundaries` of junctions.rs from its steps in the files before, and that the boundaries it removes are those of the
-- definitions. The argument: the two lists of proposals, each ranked by its regions' tests, are the definitions' proposals in their order; sorting and selection then are
-- Ranking and Selection3. Assumes a sound context.
use Prim.Native.Nat.{ℕ, zero, suc, ◌<◌}
use Rattle.std.proofs.Common.{arith, ◌∙◌}
use Rattle.std.specs.Prelude.{◌≡◌, Bool, option_map, Option}
use Rattle.std.proofs.Math.Path.{refl, sym, ap, ap₂}
use mathlib.Core.List.{List, [], ◌∷◌, ◌++◌, map, append_assoc}
use Rattle.definitions.specs.Scan.{filter, concat_map, collect, to_list}
use Rattle.definitions.specs.Grid.{Pair}
use Rattle.definitions.specs.Context.{Context}
use Rattle.laws.specs.ListLaws.Lists.{filter-append, map-append}
use Rattle.laws.specs.RustContext.FullCut.{full_pair_rust}
use Rattle.laws.specs.SetLaws.Entries.{Entry}
use Rattle.laws.specs.RustContext.IncidentMap.{incidents}
use Rattle.laws.specs.RustJunctions.JunctionProposals.{UnionStruct, BridgeStruct, ProposalEnum, union, bridge}
use Rattle.laws.specs.RustJunctions.Unions.{union_of_pair}
use Rattle.laws.specs.RustJunctions.BridgeGroups.{Bridge}
use Rattle.laws.specs.RustJunctions.Bridges.{stats_of, pocket_bridge, bridge_is_local}
use Rattle.laws.specs.RustJunctions.UnionRegions.{union_passes}
use Rattle.laws.specs.RustJunctions.Ranking.{sort_proposals}
use Rattle.laws.specs.RustJunctions.Selection3.{select_proposals}

-- ---- as the Rust writes it

module _ (C : Context) where
  abbrev pub bridge_with : Entry → Bridge → BridgeStruct
  bridge_with e b = record { index = b.index; pocket = e.region; exterior = b.exterior; ports = e.boundaries }

  unfoldable pub bridge_passes : BridgeStruct → Bool
  bridge_passes x = bridge_is_local C x.index (stats_of C x.pocket)

-- `full` is `full_pair(&metadata[..])`
module _ (C : Context) (full : ℕ → Option Pair) where
  --     for (index, entry) in metadata.iter().enumerate() { .. }
  unfoldable pub union_proposals : List UnionStruct
  union_proposals = collect C.count (λ i. union_of_pair C full i (full i))

  --     for (pocket, ports) in &ctx.incidents { ..; bridge_proposals.push(BridgeProposal { index, pocket: *pocket, exterior, ports: ports.clone() }); }
  unfoldable pub bridge_proposals : List BridgeStruct
  bridge_proposals = concat_map (λ e. to_list (option_map (bridge_with C e) (pocket_bridge C full e.region e.boundaries))) (incidents C)

  --     for proposal in union_proposals { ..; if .. { ranked.push(Proposal::Union(proposal)); } }
  --     for proposal in bridge_proposals { ..; if .. { ranked.push(Proposal::Bridge(proposal)); } }
  unfoldable pub ranked_proposals : List ProposalEnum
  ranked_proposals = map union (filter (union_passes C) union_proposals) ++ map bridge (filter (bridge_passes C) bridge_proposals)

  --     let removed = select_proposals(boundaries, ranked);
  unfoldable pub removed_with : List ℕ
  removed_with = select_proposals (sort_proposals C ranked_proposals)

module _ (C : Context) where
  unfoldable pub removed_set : List ℕ
  removed_set = removed_with C (λ j. full_pair_rust (C.removed_edges j) (C.separated_edges j) (C.pairs j))

-- ---- and that it is the same

-- two collections that agree at each number, each behind a filter and a map
module _ {A B D : Type 0} (u : A → D) (f : A → Bool) (v : B → D) where
  pub collected : (n : ℕ) (g : ℕ → List A) (h : ℕ → Option B) (all : ℕ → List A) → all 0 ≡ [] → ((i : ℕ) → i < n → all (suc i) ≡ all i ++ g i) → ((i : ℕ) → i < n → map u (filter f (g i)) ≡ map v (to_list (h i))) → map u (filter f (all n)) ≡ map v (collect n h)
  unfolding collect filter
  collected zero g h all z s e = ap (λ l. map u (filter f l)) z
  collected (suc n) g h all z s e =
      ap (λ l. map u (filter f l)) (s n (omega arith)) ∙ ap (map u) (filter-append f (all n) (g n)) ∙ map-append u (filter f (all n)) (filter f (g n))
      ∙ ap₂ ◌++◌ (collected n g h all z (λ i l. s i (omega arith)) (λ i l. e i (omega arith))) (e n (omega arith))
      ∙ sym (map-append v (collect n h) (to_list (h n)))

pub concat-append : {A B : Type 0} (f : A → List B) (l m : List A) → concat_map f (l ++ m) ≡ concat_map f l ++ concat_map f m
unfolding concat_map
concat-append f [] m = refl
concat-append f (x ∷ l) m = ap (λ r. f x ++ r) (concat-append f l m) ∙ sym (append_assoc (f x) (concat_map f l) (concat_map f m))
