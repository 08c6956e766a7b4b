-- The loop of `collapse_ramp_interiors` (ramp_boundaries.rs) that takes proposals, with its two sets, as it is written there, and that the boundaries it removes
-- are those of the definitions' selection. The argument: a proposal that is taken adds to what the sets refuse just what it conflicts with. The Rust has the
-- regions of a proposal from a set, so ascending and each once; as a set they are ours. Assumes nothing.
use Rattle.std.specs.Prelude.{ℕ, ◌≡◌, Bool, false, cond}
use Rattle.std.proofs.Math.Path.{refl, sym, ap, ap₂}
use Rattle.std.proofs.Common.{◌∙◌}
use Rattle.std.proofs.Math.Bool.{◌||◌}
use mathlib.Core.List.{List, [], ◌∷◌, map}
use Rattle.definitions.specs.Scan.{any, member, concat_map}
use Rattle.definitions.specs.Sort.{select}
use Rattle.definitions.specs.Context.{Context}
use Rattle.definitions.specs.RampMouths.{meet}
use Rattle.definitions.specs.RampInteriors.{InteriorProposal, conflict}
use Rattle.laws.specs.ListLaws.Disjunction.{or_middle}
use Rattle.laws.specs.ListLaws.Lists.{any_false}
use Rattle.laws.specs.ListLaws.Scans.{all_every}
use Rattle.laws.specs.SetLaws.Sets.{set_extend, member_extend}
use Rattle.laws.specs.SetLaws.SetTests.{any_extend, extend_append, extended}
use Rattle.laws.specs.SetLaws.SelectionBySets.{loop, grow_all, loop_by_state}

-- ---- as the Rust writes it

-- `InteriorProposal` of the Rust
pub record InteriorRust : Type 0 where
  pub regions : List ℕ
  pub edges : List ℕ
  pub first_port : ℕ
  pub second_port : ℕ
  pub ramp_id : ℕ

pub record Reserved : Type 0 where
  pub removed : List ℕ
  pub reserved_regions : List ℕ

abbrev pub nothing_reserved : Reserved
nothing_reserved = record { removed = []; reserved_regions = [] }

--     proposal.edges.iter().any(|index| removed.contains(index))
--         || proposal
--             .regions
--             .iter()
--             .any(|region| reserved_regions.contains(region))
unfoldable pub refuses : Reserved → InteriorRust → Bool
refuses s proposal = any (λ index. member index s.removed) proposal.edges || any (λ region. member region s.reserved_regions) proposal.regions

--     removed.extend(proposal.edges);
--     reserved_regions.extend(proposal.regions);
unfoldable pub grow : Reserved → InteriorRust → Reserved
grow s proposal = record { removed = set_extend s.removed proposal.edges; reserved_regions = set_extend s.reserved_regions proposal.regions }

-- the loop over the sorted proposals, and what it removes
unfoldable pub removed_rust : List InteriorRust → List ℕ
removed_rust proposals = (loop refuses grow nothing_reserved proposals).removed

-- ---- and that it is the same

-- a proposal of the definitions, as the Rust has it
abbrev pub rendered : Context → InteriorProposal → InteriorRust
rendered C p = record { regions = set_extend [] p.regions; edges = p.edges; first_port = p.first_port; second_port = p.second_port; ramp_id = (C.boundary p.first_port).ramp_id }

module _ (C : Context) where
  taken-adds : (s : Reserved) (q p : InteriorProposal) → refuses (grow s (rendered C q)) (rendered C p) ≡ (refuses s (rendered C p) || conflict C q p)
  unfolding refuses grow conflict meet
  taken-adds s q p =
      ap₂ ◌||◌ (extended s.removed q.edges p.edges)
      (extended s.reserved_regions (set_extend [] q.regions) (set_extend [] p.regions)
      ∙ ap (λ b. any (λ r. member r s.reserved_regions) (set_extend [] p.regions) || b) (any_extend (λ r. member r (set_extend [] q.regions)) [] p.regions ∙ (λ i. any (λ r. member_extend r [] q.regions i) p.regions)))
      ∙ or_middle (any (λ i. member i s.removed) p.edges) (any (λ i. member i q.edges) p.edges) (any (λ r. member r s.reserved_regions) (set_extend [] p.regions)) (any (λ r. member r q.regions) p.regions)

  -- ---- the loop

  -- over the Rust's proposals it is the loop over ours
  loop-rendered : (s : Reserved) (l : List InteriorProposal) → loop refuses grow s (map (rendered C) l) ≡ loop (λ t p. refuses t (rendered C p)) (λ t p. grow t (rendered C p)) s l
  unfolding loop
  loop-rendered s [] = refl
  loop-rendered s (p ∷ l) = loop-rendered (cond (refuses s (rendered C p)) s (grow s (rendered C p))) l

  removed-all : (s : Reserved) (l : List InteriorProposal) → (grow_all (λ t p. refuses t (rendered C p)) (λ t p. grow t (rendered C p)) s l).removed ≡ set_extend s.removed (concat_map (λ p. p.edges) l)
  unfolding grow_all grow set_extend concat_map
  removed-all s [] = refl
  removed-all s (p ∷ l) = removed-all (grow s (rendered C p)) l ∙ sym (extend_append s.removed p.edges (concat_map (λ p. p.edges) l))

  starts-free : (p : InteriorProposal) → refuses nothing_reserved (rendered C p) ≡ false
  unfolding refuses member any
  starts-free p = ap₂ ◌||◌ (any_false p.edges) (any_false (set_extend [] p.regions))

  -- the boundaries removed, as the set that the Rust fills
  pub selection : (l : List InteriorProposal) → removed_rust (map (rendered C) l) ≡ set_extend [] (concat_map (λ p. p.edges) (select (conflict C) [] l))
  unfolding removed_rust
  selection l =
      ap (λ s. s.removed)
      (loop-rendered nothing_reserved l
      ∙ loop_by_state (λ t p. refuses t (rendered C p)) (λ t p. grow t (rendered C p)) (conflict C) (λ p. Unit {0}) (λ s. Unit {0}) (λ s q v h f. tt) (λ s q p v h k f. taken-adds s q p) nothing_reserved tt (λ p h. starts-free p) (all_every (λ p. tt) l))
      ∙ removed-all nothing_reserved (select (conflict C) [] l)
