-- Pass 3 whole as the Rust writes it, `remove_junction_boundaries` of junctions.rs from its steps in the files before, and that the boundaries it removes are those of the
-- definitions. The argument: the two lists of proposals, each ranked by its regions' tests, are the definitions' proposals in their order; sorting and selection then are
-- Ranking and Selection3. Assumes a sound context.
use Prim.Native.Nat.{ℕ, suc, ◌<◌}
use Rattle.std.proofs.Common.{◌∙◌}
use Rattle.std.specs.Prelude.{◌≡◌, Bool, not, ◌&&◌, ◌||◌, eqb, option_map, Option, None, Some}
use Rattle.std.proofs.Math.Path.{refl, sym, ap, ap₂, fun_ext}
use Rattle.std.proofs.Math.Bool.{true, false, cond, or-false, and-true, and_comm}
use mathlib.Core.List.{List, [], ◌∷◌, ◌++◌, map, append-nil}
use Rattle.definitions.specs.Scan.{any, member, filter, concat_map, collect, to_list, only_if}
use Rattle.definitions.specs.Sort.{sort}
use Rattle.definitions.specs.Grid.{Pair}
use Rattle.definitions.specs.Context.{Context, full_pair, is_incident}
use Rattle.definitions.specs.Junctions.{anchored_regions, is_union_port, union_shape, union_regions, union_from, union_proposal, ports_of, bridge_proposal, is_reserved_port, proposals, ranks_before, ranked, removed}
use Rattle.laws.specs.ListLaws.Lists.{map-append}
use Rattle.laws.specs.ListLaws.Scans.{collect_ext}
use Rattle.laws.specs.RustContext.SoundContext.{Sound}
use Rattle.laws.specs.RustContext.FullCut.{full_pair_lem}
use Rattle.laws.specs.SetLaws.Sets.{set_extend, numbers_below, member_extend}
use Rattle.laws.specs.SetLaws.Entries.{Entry}
use Rattle.laws.specs.RustContext.IncidentTable.{entry_of, incidents-are}
use Rattle.laws.specs.RustJunctions.JunctionProposals.{BridgeStruct, union, bridge, as_enum, reserved_ports}
use Rattle.laws.specs.RustJunctions.Unions.{union_of_pair, proposed, union_is}
use Rattle.laws.specs.RustJunctions.BridgeGroups.{Bridge, groups_from, bridge_of_groups}
use Rattle.laws.specs.RustJunctions.Bridges.{stats_of, pocket_bridge, bridge_is_local, rank_bridge}
use Rattle.laws.proofs.RustJunctions.Bridges.{pocket_is}
use Rattle.laws.specs.RustJunctions.UnionRegions.{union_passes, passes_is}
use Rattle.laws.specs.RustJunctions.Ranking.{sort_proposals, ranked_is}
use Rattle.laws.specs.RustJunctions.Selection3.{select_proposals}
use Rattle.laws.specs.RustJunctions.FormedProposals.{proposals-formed, selected_set}
use Rattle.laws.specs.RustJunctions.JunctionsAsRust.{bridge_with, bridge_passes, union_proposals, bridge_proposals, ranked_proposals, removed_with, removed_set, collected, concat-append}

module _ (C : Context) where
  -- what a union reserves are its ports
  union_reserved : (i : ℕ) (p : Pair) → numbers_below C.count (is_union_port C i p) ≡ reserved_ports C (record { index = i; kind = 0; first = p.lo; second = p.hi })
  unfolding numbers_below is_union_port is_reserved_port
  union_reserved i p = collect_ext C.count (λ j. only_if (is_union_port C i p j) j) (λ j. only_if (is_reserved_port C (record { index = i; kind = 0; first = p.lo; second = p.hi }) j) j) (λ j h. ap (λ b. only_if b j) (and_comm (not (eqb j i)) (is_incident C j p.lo || is_incident C j p.hi)))

  bridge_reserved : (i r e : ℕ) → ports_of C r ≡ reserved_ports C (record { index = i; kind = 1; first = r; second = e })
  unfolding numbers_below ports_of is_reserved_port
  bridge_reserved i r e = collect_ext C.count (λ j. only_if (is_incident C j r) j) (λ j. only_if (is_reserved_port C (record { index = i; kind = 1; first = r; second = e }) j) j) (λ j h. ap (λ b. only_if b j) (sym (and-true (is_incident C j r || false) ∙ or-false (is_incident C j r))))

  module _ (sound : Sound C) where
    -- a boundary that is a full pair
    union_at_lem : (i : ℕ) (p : Pair) → i < C.count → map union (filter (union_passes C) (to_list (union_of_pair C (full_pair C) i (Some p)))) ≡ map (as_enum C) (to_list (only_if (union_shape C i p && union_regions C i p) (record { index = i; kind = 0; first = p.lo; second = p.hi })))
    unfolding filter
    union_at_lem i p h = ap (λ o. map union (filter (union_passes C) (to_list o))) (union_is C i p sound h) ∙ shape (union_shape C i p)
      where
        regions : (b : Bool) → union_passes C (proposed C i p) ≡ b → map union (cond (union_passes C (proposed C i p)) (proposed C i p ∷ []) []) ≡ map (as_enum C) (to_list (only_if b (record { index = i; kind = 0; first = p.lo; second = p.hi })))
        regions true e = rw e (λ t. union (record { index = i; pair = p; anchored_regions = anchored_regions C p; ports = union_reserved i p t }) ∷ [])
        regions false e = rw e refl

        shape : (b : Bool) → map union (filter (union_passes C) (to_list (only_if b (proposed C i p)))) ≡ map (as_enum C) (to_list (only_if (b && union_regions C i p) (record { index = i; kind = 0; first = p.lo; second = p.hi })))
        shape true = regions (union_regions C i p) (passes_is C i p)
        shape false = refl

    unions_at : (i : ℕ) → i < C.count → (o : Option Pair) → map union (filter (union_passes C) (to_list (union_of_pair C (full_pair C) i o))) ≡ map (as_enum C) (to_list (union_from C i o))
    unfolding union_of_pair union_from filter
    unions_at i h None = refl
    unions_at i h (Some p) = union_at_lem i p h

    unions-are : map union (filter (union_passes C) (union_proposals C (full_pair C))) ≡ map (as_enum C) (collect C.count (union_proposal C))
    unfolding union_proposals union_proposal collect
    unions-are =
        collected union (union_passes C) (as_enum C) C.count (λ i. to_list (union_of_pair C (full_pair C) i (full_pair C i))) (union_proposal C) (λ n. collect n (λ i. union_of_pair C (full_pair C) i (full_pair C i))) refl (λ i h. refl)
        (λ i h. unions_at i h (full_pair C i))

    -- a pocket
    bridge_at_lem : (r : ℕ) (l : List ℕ) → ports_of C r ≡ l → (o : Option Bridge) → map bridge (filter (bridge_passes C) (to_list (option_map (bridge_with C (record { region = r; boundaries = l })) o))) ≡ map (as_enum C) (to_list (rank_bridge C r o))
    unfolding filter bridge_passes
    bridge_at_lem r l e None = refl
    bridge_at_lem r l e (Some b) = go (bridge_is_local C b.index (stats_of C r))
      where
        go : (c : Bool) → map bridge (cond c (bridge_with C (record { region = r; boundaries = l }) b ∷ []) []) ≡ map (as_enum C) (to_list (only_if c (record { index = b.index; kind = 1; first = r; second = b.exterior })))
        go true = λ t. bridge (record { index = b.index; pocket = r; exterior = b.exterior; ports = (sym e ∙ bridge_reserved b.index r b.exterior) t }) ∷ []
        go false = refl

    abbrev bridges_of : Entry → List BridgeStruct
    bridges_of e = to_list (option_map (bridge_with C e) (pocket_bridge C (full_pair C) e.region e.boundaries))

    pocket-empty : (r : ℕ) → pocket_bridge C (full_pair C) r [] ≡ None
    unfolding pocket_bridge any
    pocket-empty r = go (C.anchored r)
      where
        go : (b : Bool) → cond (b || true) None (bridge_of_groups C [] (groups_from (full_pair C) r [] [])) ≡ None
        go true = refl
        go false = refl

    entry-bridges : (r : ℕ) (l : List ℕ) → concat_map bridges_of (to_list (entry_of r l)) ≡ bridges_of (record { region = r; boundaries = l })
    unfolding concat_map
    entry-bridges r [] = ap (λ o. to_list (option_map (bridge_with C (record { region = r; boundaries = [] })) o)) (sym (pocket-empty r))
    entry-bridges r (x ∷ l) = append-nil (bridges_of (record { region = r; boundaries = x ∷ l }))

    bridges_at : (r : ℕ) → map bridge (filter (bridge_passes C) (concat_map bridges_of (to_list (entry_of r (ports_of C r))))) ≡ map (as_enum C) (to_list (bridge_proposal C r))
    bridges_at r = ap (λ l. map bridge (filter (bridge_passes C) l)) (entry-bridges r (ports_of C r)) ∙ bridge_at_lem r (ports_of C r) refl (pocket_bridge C (full_pair C) r (ports_of C r)) ∙ ap (λ o. map (as_enum C) (to_list o)) (pocket_is C r)

    bridges-are : map bridge (filter (bridge_passes C) (bridge_proposals C (full_pair C))) ≡ map (as_enum C) (collect C.regions (λ k. bridge_proposal C (suc k)))
    unfolding bridge_proposals collect concat_map
    bridges-are =
        ap (λ es. map bridge (filter (bridge_passes C) (concat_map bridges_of es))) (incidents-are C sound)
        ∙ collected bridge (bridge_passes C) (as_enum C) C.regions (λ k. concat_map bridges_of (to_list (entry_of (suc k) (ports_of C (suc k))))) (λ k. bridge_proposal C (suc k))
        (λ n. concat_map bridges_of (collect n (λ k. entry_of (suc k) (ports_of C (suc k))))) refl
        (λ k h. concat-append bridges_of (collect k (λ k. entry_of (suc k) (ports_of C (suc k)))) (to_list (entry_of (suc k) (ports_of C (suc k))))) (λ k h. bridges_at (suc k))

    proposals-are : ranked_proposals C (full_pair C) ≡ map (as_enum C) (proposals C)
    unfolding ranked_proposals proposals
    proposals-are = ap₂ ◌++◌ unions-are bridges-are ∙ sym (map-append (as_enum C) (collect C.count (union_proposal C)) (collect C.regions (λ k. bridge_proposal C (suc k))))

    same_ranked : select_proposals (map (as_enum C) (sort (ranks_before C) (proposals C))) ≡ set_extend [] (removed C)
    same_ranked = unfold ranked in (selected_set C sound)

    removed_with_lem : removed_with C (full_pair C) ≡ set_extend [] (removed C)
    unfolding removed_with
    removed_with_lem = ap (λ l. select_proposals (sort_proposals C l)) proposals-are ∙ ap select_proposals (sym (ranked_is C sound (proposals-formed C sound))) ∙ same_ranked

    -- the set that the Rust returns is the set of the boundaries that the definitions remove
    pub removed_set_lem : removed_set C ≡ set_extend [] (removed C)
    unfolding removed_set
    removed_set_lem = ap (removed_with C) (fun_ext (λ j. sym (full_pair_lem C sound j))) ∙ removed_with_lem

    -- so it removes what they remove
    pub removed-member : (j : ℕ) → member j (removed_set C) ≡ member j (removed C)
    unfolding member any
    removed-member j = ap (member j) removed_set_lem ∙ member_extend j [] (removed C)
