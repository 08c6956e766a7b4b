-- The loop of `replace_ramp_mouths` (ramp_boundaries.rs) that takes proposals, with its six sets, as it is written there, and that the boundaries it removes are
-- those of the definitions' selection. The argument: a proposal that is taken adds to what the sets refuse just what it conflicts with, set by set; `occupied`
-- and `triangle_reserved` together refuse two unions that meet where one of the two is a triangle. Assumes nothing.
use Rattle.std.specs.Prelude.{ℕ, ◌≤◌, ◌≡◌, Bool, ◌&&◌, ◌||◌, cond, length, eqb, ltb, Option, None, Some}
use Rattle.std.proofs.Common.{arith, ◌∙◌}
use Rattle.std.proofs.Math.Path.{refl, sym, ap}
use Rattle.std.proofs.Math.Bool.{true, false, not, or-false, or_comm}
use mathlib.Core.List.{List, [], ◌∷◌, map}
use Rattle.definitions.specs.Scan.{any, member}
use Rattle.definitions.specs.Sort.{sort, select}
use Rattle.definitions.specs.Grid.{Pair, pair_eq}
use Rattle.definitions.specs.Partition.{add_pair}
use Rattle.definitions.specs.Context.{Context}
use Rattle.definitions.specs.RampMouths.{MouthProposal, union_of, meet, conflict}
use Rattle.laws.specs.ListLaws.Disjunction.{disjunction, or_middle}
use Rattle.laws.specs.ListLaws.Lists.{All, any_false}
use Rattle.laws.specs.OrderLaws.ListOrder.{eqb_sym}
use Rattle.laws.specs.ListLaws.ListsAsSets.{any_or}
use Rattle.laws.specs.ListLaws.SortedMembers.{any-sort}
use Rattle.laws.specs.OrderLaws.PairOrder.{pair_eq_sym}
use Rattle.laws.specs.OrderLaws.PairInsertion.{any-add_pair}
use Rattle.laws.specs.SetLaws.Sets.{set_insert, set_extend, member-insert, member_extend}
use Rattle.laws.specs.SetLaws.SetTests.{extended}
use Rattle.laws.specs.SetLaws.SelectionBySets.{loop, grow_all, loop_by_state}
use Rattle.laws.specs.RustContext.Incidents.{is_some_and}
use Rattle.laws.specs.RustMouths.MouthLoop.{MouthRust}
use Rattle.laws.specs.RustMouths.MouthFound.{head_of, inner_rust, union_rust}
use Rattle.laws.specs.RustMouths.MouthKept.{rendered}

-- ---- as the Rust writes it

-- `ramp_ends` holds (ramp.id, ramp.end) as a pair of two numbers
pub record Reserved : Type 0 where
  pub removed : List ℕ
  pub absorbed : List ℕ
  pub outers : List ℕ
  pub ramp_ends : List Pair
  pub occupied : List ℕ
  pub triangle_reserved : List ℕ

abbrev pub nothing_reserved : Reserved
nothing_reserved = record { removed = []; absorbed = []; outers = []; ramp_ends = []; occupied = []; triangle_reserved = [] }

--     if let Some(outer) = proposal.outer {
--         outers.insert(outer);
--     }
abbrev pub insert_outer : List ℕ → Option ℕ → List ℕ
insert_outer outers None = outers
insert_outer outers (Some outer) = set_insert outers outer

module _ (C : Context) where
  --     let ramp = boundaries[proposal.ramp_index]
  --         .ramp
  --         .expect("ramp proposal must retain provenance");
  -- and of it `(ramp.id, ramp.end)`
  abbrev pub ramp_end : ℕ → Pair
  ramp_end ramp_index = record { lo = (C.boundary ramp_index).ramp_id; hi = (C.boundary ramp_index).kind }

  --     removed.contains(&proposal.mouth_index)
  --         || ramp_ends.contains(&(ramp.id, ramp.end))
  --         || proposal
  --             .outer
  --             .is_some_and(|outer| absorbed.contains(&outer))
  --         || proposal
  --             .inner
  --             .iter()
  --             .any(|region| absorbed.contains(region) || outers.contains(region))
  --         || (proposal.triangle
  --             && proposal
  --                 .union
  --                 .iter()
  --                 .any(|region| occupied.contains(region)))
  --         || (!proposal.triangle
  --             && proposal
  --                 .union
  --                 .iter()
  --                 .any(|region| triangle_reserved.contains(region)))
  unfoldable pub refuses : Reserved → MouthRust → Bool
  refuses s proposal =
      member proposal.mouth_index s.removed || any (pair_eq (ramp_end proposal.ramp_index)) s.ramp_ends
      || is_some_and proposal.outer (λ outer. member outer s.absorbed)
      || any (λ region. member region s.absorbed || member region s.outers) proposal.inner
      || proposal.triangle && any (λ region. member region s.occupied) proposal.union
      || not proposal.triangle && any (λ region. member region s.triangle_reserved) proposal.union

  --     removed.insert(proposal.mouth_index);
  --     absorbed.extend(proposal.inner);
  --     if let Some(outer) = proposal.outer {
  --         outers.insert(outer);
  --     }
  --     occupied.extend(proposal.union.iter().copied());
  --     if proposal.triangle {
  --         triangle_reserved.extend(proposal.union);
  --     }
  --     ramp_ends.insert((ramp.id, ramp.end));
  unfoldable pub grow : Reserved → MouthRust → Reserved
  grow s proposal =
      record {
        removed = set_insert s.removed proposal.mouth_index;
        absorbed = set_extend s.absorbed proposal.inner;
        outers = insert_outer s.outers proposal.outer;
        ramp_ends = add_pair (ramp_end proposal.ramp_index) s.ramp_ends;
        occupied = set_extend s.occupied proposal.union;
        triangle_reserved = cond proposal.triangle (set_extend s.triangle_reserved proposal.union) s.triangle_reserved;
      }

  -- the loop over the sorted proposals, and what it removes
  unfoldable pub removed_rust : List MouthRust → List ℕ
  removed_rust proposals = (loop refuses grow nothing_reserved proposals).removed

-- ---- and that it is the same

-- a proposal has at most one outer region
abbrev pub OneOuter : MouthProposal → Type 0
OneOuter p = length p.outer ≤ 1

any-inner : (f : ℕ → Bool) (p : MouthProposal) → any f (inner_rust p) ≡ any f p.inner
any-inner f p = go p.is_triangle
  where
    go : (b : Bool) → any f (cond b (sort ltb p.inner) p.inner) ≡ any f p.inner
    go true = any-sort ltb f p.inner
    go false = refl

any-union : (f : ℕ → Bool) (p : MouthProposal) → any f (union_rust p) ≡ any f (union_of p)
any-union f p = go p.is_triangle
  where
    go : (b : Bool) → any f (cond b (sort ltb (union_of p)) (union_of p)) ≡ any f (union_of p)
    go true = any-sort ltb f (union_of p)
    go false = refl

-- a test of the outer region, if there is one
outer-test : (f : ℕ → Bool) (l : List ℕ) → length l ≤ 1 → is_some_and (head_of l) f ≡ any f l
unfolding any
outer-test f [] h = refl
outer-test f (x ∷ []) h = sym (or-false (f x))
outer-test f (x ∷ y ∷ l) h = absurd (omega arith)

outer-put : (r : ℕ) (outers l : List ℕ) → length l ≤ 1 → member r (insert_outer outers (head_of l)) ≡ (member r outers || member r l)
unfolding member any
outer-put r outers [] h = sym (or-false (member r outers))
outer-put r outers (x ∷ []) h = member-insert r outers x ∙ simp (or-false, disjunction)
outer-put r outers (x ∷ y ∷ l) h = absurd (omega arith)

module _ (C : Context) (s : Reserved) (q p : MouthProposal) (oq : OneOuter q) (op : OneOuter p) where
  inner-member : (r : ℕ) → member r (inner_rust q) ≡ member r q.inner
  unfolding member
  inner-member r = any-inner (eqb r) q

  union-member : (r : ℕ) → member r (union_rust q) ≡ member r (union_of q)
  unfolding member
  union-member r = any-union (eqb r) q

  -- ---- what q adds to each part of the refusal

  mouth-taken : member p.mouth_index (set_insert s.removed q.mouth_index) ≡ (member p.mouth_index s.removed || eqb q.mouth_index p.mouth_index)
  mouth-taken = member-insert p.mouth_index s.removed q.mouth_index ∙ or_comm (eqb p.mouth_index q.mouth_index) (member p.mouth_index s.removed) ∙ ap (λ b. member p.mouth_index s.removed || b) (eqb_sym p.mouth_index q.mouth_index)

  ramp-taken : any (pair_eq (ramp_end C p.ramp_index)) (add_pair (ramp_end C q.ramp_index) s.ramp_ends) ≡ (any (pair_eq (ramp_end C p.ramp_index)) s.ramp_ends || pair_eq (ramp_end C q.ramp_index) (ramp_end C p.ramp_index))
  ramp-taken =
      any-add_pair (pair_eq (ramp_end C p.ramp_index)) (ramp_end C q.ramp_index) s.ramp_ends
      ∙ or_comm (pair_eq (ramp_end C p.ramp_index) (ramp_end C q.ramp_index)) (any (pair_eq (ramp_end C p.ramp_index)) s.ramp_ends)
      ∙ ap (λ b. any (pair_eq (ramp_end C p.ramp_index)) s.ramp_ends || b) (pair_eq_sym (ramp_end C p.ramp_index) (ramp_end C q.ramp_index))

  outer-taken : is_some_and (head_of p.outer) (λ r. member r (set_extend s.absorbed (inner_rust q))) ≡ (is_some_and (head_of p.outer) (λ r. member r s.absorbed) || meet p.outer q.inner)
  unfolding meet
  outer-taken =
      outer-test (λ r. member r (set_extend s.absorbed (inner_rust q))) p.outer op ∙ extended s.absorbed (inner_rust q) p.outer
      ∙ (λ i. sym (outer-test (λ r. member r s.absorbed) p.outer op) i || any (λ r. inner-member r i) p.outer)

  inner-taken : any (λ r. member r (set_extend s.absorbed (inner_rust q)) || member r (insert_outer s.outers (head_of q.outer))) (inner_rust p) ≡ (any (λ r. member r s.absorbed || member r s.outers) (inner_rust p) || (meet p.inner q.inner || meet p.inner q.outer))
  unfolding meet
  inner-taken =
      (λ i. any (λ r. (member_extend r s.absorbed (inner_rust q) ∙ ap (λ b. member r s.absorbed || b) (inner-member r)) i || outer-put r s.outers q.outer oq i) (inner_rust p))
      ∙ (λ i. any (λ r. or_middle (member r s.absorbed) (member r q.inner) (member r s.outers) (member r q.outer) i) (inner_rust p))
      ∙ any_or (λ r. member r s.absorbed || member r s.outers) (λ r. member r q.inner || member r q.outer) (inner_rust p)
      ∙ ap (λ b. any (λ r. member r s.absorbed || member r s.outers) (inner_rust p) || b) (any-inner (λ r. member r q.inner || member r q.outer) p ∙ any_or (λ r. member r q.inner) (λ r. member r q.outer) p.inner)

  occupied-taken : any (λ r. member r (set_extend s.occupied (union_rust q))) (union_rust p) ≡ (any (λ r. member r s.occupied) (union_rust p) || meet (union_of p) (union_of q))
  unfolding meet
  occupied-taken = extended s.occupied (union_rust q) (union_rust p) ∙ (λ i. any (λ r. member r s.occupied) (union_rust p) || (any-union (λ r. member r (union_rust q)) p ∙ (λ j. any (λ r. union-member r j) (union_of p))) i)

  reserved_taken : any (λ r. member r (cond q.is_triangle (set_extend s.triangle_reserved (union_rust q)) s.triangle_reserved)) (union_rust p) ≡ (any (λ r. member r s.triangle_reserved) (union_rust p) || q.is_triangle && meet (union_of p) (union_of q))
  unfolding meet
  reserved_taken = go q.is_triangle
    where
      go : (b : Bool) → any (λ r. member r (cond b (set_extend s.triangle_reserved (union_rust q)) s.triangle_reserved)) (union_rust p) ≡ (any (λ r. member r s.triangle_reserved) (union_rust p) || b && meet (union_of p) (union_of q))
      go true = extended s.triangle_reserved (union_rust q) (union_rust p) ∙ (λ i. any (λ r. member r s.triangle_reserved) (union_rust p) || (any-union (λ r. member r (union_rust q)) p ∙ (λ j. any (λ r. union-member r j) (union_of p))) i)
      go false = sym (or-false (any (λ r. member r s.triangle_reserved) (union_rust p)))

  taken-adds : refuses C (grow C s (rendered C q)) (rendered C p) ≡ (refuses C s (rendered C p) || conflict C q p)
  unfolding refuses grow conflict
  taken-adds =
      (λ i. mouth-taken i || ramp-taken i || outer-taken i || inner-taken i || p.is_triangle && occupied-taken i || not p.is_triangle && reserved_taken i)
      ∙ order p.is_triangle q.is_triangle (member p.mouth_index s.removed) (eqb q.mouth_index p.mouth_index) (any (pair_eq (ramp_end C p.ramp_index)) s.ramp_ends) (pair_eq (ramp_end C q.ramp_index) (ramp_end C p.ramp_index)) (is_some_and (head_of p.outer) (λ r. member r s.absorbed)) (meet p.outer q.inner) (any (λ r. member r s.absorbed || member r s.outers) (inner_rust p)) (meet p.inner q.inner) (meet p.inner q.outer) (any (λ r. member r s.occupied) (union_rust p)) (any (λ r. member r s.triangle_reserved) (union_rust p)) (meet (union_of p) (union_of q))
    where
      order : (t u m x e y o z i v w k l n : Bool) → (m || x || (e || y) || (o || z) || (i || (v || w)) || t && (k || n) || not t && (l || u && n)) ≡ (m || e || o || i || t && k || not t && l || (x || y || z || v || w || (t || u) && n))
      order true u m x e y o z i v w k l n = simp (or-false, disjunction)
      order false true m x e y o z i v w k l n = simp (or-false, disjunction)
      order false false m x e y o z i v w k l n = simp (or-false, disjunction)

module _ (C : Context) where
  -- ---- the loop

  -- over the Rust's proposals it is the loop over ours
  loop-rendered : (s : Reserved) (l : List MouthProposal) → loop (refuses C) (grow C) s (map (rendered C) l) ≡ loop (λ t p. refuses C t (rendered C p)) (λ t p. grow C t (rendered C p)) s l
  unfolding loop
  loop-rendered s [] = refl
  loop-rendered s (p ∷ l) = loop-rendered (cond (refuses C s (rendered C p)) s (grow C s (rendered C p))) l

  removed-all : (s : Reserved) (l : List MouthProposal) → (grow_all (λ t p. refuses C t (rendered C p)) (λ t p. grow C t (rendered C p)) s l).removed ≡ set_extend s.removed (map (λ p. p.mouth_index) l)
  unfolding grow_all grow set_extend
  removed-all s [] = refl
  removed-all s (p ∷ l) = removed-all (grow C s (rendered C p)) l

  starts-free : (p : MouthProposal) → OneOuter p → refuses C nothing_reserved (rendered C p) ≡ false
  unfolding refuses member any
  starts-free p h = (λ i. outer_none (head_of p.outer) i || any_false (inner_rust p) i || p.is_triangle && any_false (union_rust p) i || not p.is_triangle && any_false (union_rust p) i) ∙ go p.is_triangle
    where
      outer_none : (o : Option ℕ) → is_some_and o (λ r. false) ≡ false
      outer_none None = refl
      outer_none (Some r) = refl

      go : (t : Bool) → (t && false || not t && false) ≡ false
      go true = refl
      go false = refl

  -- the boundaries removed, as the set that the Rust fills
  pub selection : {l : List MouthProposal} → All OneOuter l → removed_rust C (map (rendered C) l) ≡ set_extend [] (map (λ p. p.mouth_index) (select (conflict C) [] l))
  unfolding removed_rust
  selection {l} a =
      ap (λ s. s.removed)
      (loop-rendered nothing_reserved l
      ∙ loop_by_state (λ t p. refuses C t (rendered C p)) (λ t p. grow C t (rendered C p)) (conflict C) OneOuter (λ s. Unit {0}) (λ s q v h f. tt) (λ s q p v h k f. taken-adds C s q p h k) nothing_reserved tt starts-free a)
      ∙ removed-all nothing_reserved (select (conflict C) [] l)
