-- What the selection over rows removes is what the definitions remove. The argument: every incident of a region whose ports a proposal reserves is a full pair, so
-- that proposals reserve the same ports; keys are the same; so the ranks, the conflicts and the selection are. Assumes that the lists show a context of a map.
use Prim.Native.Nat.{ℕ, ◌<◌}
use mathlib.Core.Path.{◌≡◌, refl, sym, ap, ap₂, ◌∙◌}
use mathlib.Core.Bool.{Bool, true, false, ◌||◌, ◌&&◌}
use Rattle.std.specs.Prelude.{Option, Some}
use mathlib.Core.List.{List, [], ◌∷◌, ◌++◌, map}
use lib.ListN.{get_or}
use lib.Dec.{eqb}
use Rattle.definitions.specs.Scan.{any, member, filter, to_list, only_if}
use Rattle.definitions.specs.Sort.{sort, select, list_lt}
use Rattle.definitions.specs.Context.{Context}
use Rattle.definitions.specs.Junctions.{Proposal, boundary_key, tie_key, region_conflict, is_reserved_port, key, ranks_before, conflict, proposals, ranked, taken, removed}
use Rattle.laws.specs.ListLaws.Lists.{All, done}
use Rattle.laws.specs.ListLaws.Below.{below_ext}
use Rattle.laws.specs.OrderLaws.StableSort.{all-sort, map-sort}
use Rattle.laws.specs.OrderLaws.Selection.{map-select}
use Rattle.junction_proposals.specs.declared.proposals.Candidate.{Candidate}
use Rattle.junction_proposals.specs.Lent.{Shows}
use Rattle.junction_proposals.specs.Rows.{row_at, rows_of, is_allowed}
use Rattle.junction_selection.specs.Ranks.{key_at, ranks_at, allowed_of, reserves_at, conflict_at}
use Rattle.junction_selection.specs.Taken.{removed_at}
use Rattle.junction_proposals.proofs.UnionRows.{filter_only}
use Rattle.junction_proposals.proofs.Proposing.{collect-filter}
use Rattle.region_pairs.specs.declared.Pair as declared

-- ---- orders and conflicts that agree

map_same : {A : Type 0} (l : List A) → map (λ x. x) l ≡ l
map_same [] = refl
map_same {A} (x ∷ l) = ap {B = List A} (λ m. x ∷ m) (map_same l)

module _ {A : Type 0} (P : A → Type 0) where
  sort_ext : (lt lt' : A → A → Bool) → ((x y : A) → P x → P y → lt x y ≡ lt' x y) → {l : List A} → All P l → sort lt l ≡ sort lt' l
  sort_ext lt lt' same {l} a = sym (map_same (sort lt l)) ∙ map-sort (λ x. x) P lt lt' same a ∙ ap (sort lt') (map_same l)

  select_ext : (c d : A → A → Bool) → ((x y : A) → P x → P y → c x y ≡ d x y) → {l : List A} → All P l → select c [] l ≡ select d [] l
  select_ext c d same {l} a = sym (map_same (select c [] l)) ∙ map-select (λ x. x) P c d same done a ∙ ap (select d []) (map_same l)

any-index : (j : ℕ) (l : List Proposal) → any (λ q. eqb j q.index) l ≡ member j (map (λ q. q.index) l)
unfolding any member
any-index j [] = refl
any-index j (q ∷ l) = ap (λ b. eqb j q.index || b) (any-index j l)

module _ (boundaries : List ℕ) (full : List (Option declared.Pair)) (counts marks : List ℕ) (C : Context) (S : Shows boundaries full counts marks C.count C.regions C) where
  -- what holds of every proposal
  pub record Reserving (p : Proposal) : Type 0 where
    pub index_in : p.index < C.count
    pub same : (j : ℕ) → j < C.count → is_reserved_port C p j ≡ reserves_at full p j

  key_is : (p : Proposal) → p.index < C.count → key C p ≡ key_at boundaries p
  unfolding key key_at
  key_is p l = ap (λ b. boundary_key b ++ tie_key p) (S.bounds.at p.index l)

  ranks_is : (p q : Proposal) → Reserving p → Reserving q → ranks_before C p q ≡ ranks_at boundaries p q
  unfolding ranks_before ranks_at
  ranks_is p q a b = ap₂ list_lt (key_is p a.index_in) (key_is q b.index_in)

  pub conflict_is : (q p : Proposal) → Reserving q → Reserving p → conflict C q p ≡ conflict_at full C.count q p
  unfolding conflict conflict_at
  conflict_is q p a b =
      λ t. b.same q.index a.index_in t || a.same p.index b.index_in t || below_ext C.count _ _ (λ j l. ap₂ ◌&&◌ (b.same j l) (a.same j l)) t || region_conflict q.kind p.kind q p

  module _ (formed : All Reserving (proposals C)) (rows : List Candidate) (verdicts : List Bool) (n : ℕ) (are : filter (is_allowed C) (rows_of rows n) ≡ proposals C) (judged : (k : ℕ) → k < n → get_or verdicts k false ≡ is_allowed C (row_at rows k)) where
    allowed_is : allowed_of rows verdicts n ≡ proposals C
    unfolding allowed_of rows_of
    allowed_is = sym (collect-filter (is_allowed C) n (λ k. Some (row_at rows k)) (λ k. only_if (get_or verdicts k false) (row_at rows k)) (λ k l. filter_only (is_allowed C) true (row_at rows k) ∙ ap (λ b. to_list (only_if b (row_at rows k))) (sym (judged k l)))) ∙ are

    -- the ranked rows are the ranked proposals
    pub ranked_is : sort (ranks_at boundaries) (allowed_of rows verdicts n) ≡ ranked C
    unfolding ranked
    ranked_is = ap (sort (ranks_at boundaries)) allowed_is ∙ sym (sort_ext Reserving (ranks_before C) (ranks_at boundaries) ranks_is formed)

    pub all-ranked : All Reserving (ranked C)
    unfolding ranked
    all-ranked = all-sort Reserving (ranks_before C) formed

    pub removed_is : (j : ℕ) → removed_at boundaries full rows verdicts C.count n j ≡ member j (removed C)
    unfolding removed_at removed taken
    removed_is j =
        ap (λ l. any (λ q. eqb j q.index) (select (conflict_at full C.count) [] l)) ranked_is
        ∙ ap (any (λ q. eqb j q.index)) (sym (select_ext Reserving (conflict C) (conflict_at full C.count) conflict_is all-ranked))
        ∙ any-index j (select (conflict C) [] (ranked C))
