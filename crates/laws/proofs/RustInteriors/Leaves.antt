-- The Rust's walk over the two ports of an interior (LeavesLiteral) is `expand_port` twice: the same validity, and for regions the set of ours. The argument is on
-- one pair: how many of its two regions a set has. If it is one, they differ, so that `find` finds the other. Assumes nothing.
use Prim.Native.Nat.{ℕ, ◌+◌, ◌<◌}
use Rattle.std.specs.Prelude.{◌≡◌, Bool, ◌&&◌, ◌||◌, length}
use Rattle.std.proofs.Math.Path.{refl, sym, ap}
use Rattle.std.proofs.Common.{◌∙◌}
use Rattle.std.proofs.Math.Bool.{true, false, not, cond, and-true, and-false, and_assoc, and_comm, true≢false}
use mathlib.Core.List.{List, [], ◌∷◌, ◌++◌, append-nil, append_assoc}
use Rattle.std.proofs.Math.Dec.{eqb, ltb, leb}
use borrow.Author.Tests.{ne_eqb, eq-eqb}
use Rattle.definitions.specs.Scan.{any, all, filter, member, concat_map, bit}
use Rattle.definitions.specs.Grid.{Pair}
use Rattle.definitions.specs.Context.{Context, incident_count, is_incident}
use Rattle.definitions.specs.RampInteriors.{Expansion, inside_count, pair_exterior, exteriors, invalid, add_leaf, expand_pair, expand_pairs, expand_port}
use Rattle.laws.specs.ListLaws.Lists.{filter_two}
use Rattle.laws.specs.SetLaws.Sets.{set_insert, set_extend, member_extend}
use Rattle.laws.specs.SetLaws.SetTests.{extend_append}
use Rattle.laws.specs.RustContext.Incidents.{not-only_one}
use Rattle.laws.specs.RustMouths.MouthLiteral.{find}
use Rattle.laws.specs.RustMouths.Triangles.{any-not}
use Rattle.laws.specs.RustInteriors.LeavesLiteral.{pair_in, other_of, insert_exterior, find_exteriors, take_leaf, take_beyond, take_leaves, check_pairs, walk_port}

-- ---- one pair and one set

-- the set of a list, with one number more
put_last : (l : List ℕ) (x : ℕ) → set_insert (set_extend [] l) x ≡ set_extend [] (l ++ (x ∷ []))
unfolding set_extend
put_last l x = sym (extend_append [] l (x ∷ []))

-- it has the members of the list
in_set : (r : ℕ) (l : List ℕ) → member r (set_extend [] l) ≡ member r l
unfolding member any
in_set r l = member_extend r [] l

pair_in-set : (l : List ℕ) (p : Pair) → pair_in (set_extend [] l) p ≡ pair_in l p
unfolding pair_in
pair_in-set l p = λ i. filter (λ r. in_set r l i) (p.lo ∷ p.hi ∷ [])

module _ (set : List ℕ) (p : Pair) where
  differ : member p.lo set ≡ true → member p.hi set ≡ false → p.lo ≡ p.hi → ⊥
  differ h k e = true≢false (sym h ∙ ap (λ r. member r set) e ∙ k)

  other-hi : member p.lo set ≡ true → member p.hi set ≡ false → other_of p.lo p ≡ p.hi
  unfolding other_of find
  other-hi h k = rw (eq-eqb p.lo p.lo refl, ne_eqb p.hi p.lo (λ e. differ h k (sym e))) refl

  other-lo : member p.lo set ≡ false → member p.hi set ≡ true → other_of p.hi p ≡ p.lo
  unfolding other_of find
  other-lo h k = rw (ne_eqb p.lo p.hi (λ e. true≢false (sym k ∙ ap (λ r. member r set) (sym e) ∙ h))) refl

  -- `count`, `len`
  count_in : length (pair_in set p) ≡ inside_count set p
  unfolding pair_in inside_count
  count_in = filter_two (λ r. member r set) p.lo p.hi

  exterior-put : (es : List ℕ) → insert_exterior (set_extend [] es) p (pair_in set p) ≡ set_extend [] (es ++ pair_exterior set p)
  unfolding pair_in filter insert_exterior pair_exterior
  exterior-put es = go (member p.lo set) refl (member p.hi set) refl
    where
      go : (a : Bool) → member p.lo set ≡ a → (b : Bool) → member p.hi set ≡ b
          → insert_exterior (set_extend [] es) p (cond a (p.lo ∷ cond b (p.hi ∷ []) []) (cond b (p.hi ∷ []) [])) ≡ set_extend [] (es ++ cond a (cond b [] (p.hi ∷ [])) (cond b (p.lo ∷ []) []))
      go true h true k = ap (set_extend []) (sym (append-nil es))
      go true h false k = ap (set_insert (set_extend [] es)) (other-hi h k) ∙ put_last es p.hi
      go false h true k = ap (set_insert (set_extend [] es)) (other-lo h k) ∙ put_last es p.lo
      go false h false k = ap (set_extend []) (sym (append-nil es))

  two_inside : (v : Bool) → cond (ltb 1 (length (pair_in set p))) false v ≡ (v && leb (inside_count set p) 1)
  unfolding inside_count
  two_inside v = ap (λ n. cond (ltb 1 n) false v) count_in ∙ go (member p.lo set) (member p.hi set)
    where
      go : (a b : Bool) → cond (ltb 1 (bit a + bit b)) false v ≡ (v && leb (bit a + bit b) 1)
      go true true = sym (and-false v)
      go true false = sym (and-true v)
      go false true = sym (and-true v)
      go false false = sym (and-true v)

-- ---- the exteriors

exteriors-are : (rs es : List ℕ) (v : Bool) (ps : List Pair)
    → find_exteriors (set_extend [] rs) (record { exteriors = set_extend [] es; valid = v }) ps ≡ record { exteriors = set_extend [] (es ++ exteriors rs ps); valid = v && all (λ p. leb (inside_count rs p) 1) ps }
unfolding find_exteriors exteriors concat_map all
exteriors-are rs es v [] = λ i. record { exteriors = set_extend [] (sym (append-nil es) i); valid = sym (and-true v) i }
exteriors-are rs es v (p ∷ ps) =
    (λ i. find_exteriors (set_extend [] rs) (record { exteriors = insert_exterior (set_extend [] es) p (pair_in-set rs p i); valid = cond (ltb 1 (length (pair_in-set rs p i))) false v }) ps)
    ∙ (λ i. find_exteriors (set_extend [] rs) (record { exteriors = exterior-put rs p es i; valid = two_inside rs p v i }) ps)
    ∙ exteriors-are rs (es ++ pair_exterior rs p) (v && leb (inside_count rs p) 1) ps
    ∙ (λ i. record { exteriors = set_extend [] (append_assoc es (pair_exterior rs p) (concat_map (pair_exterior rs) ps) i); valid = and_assoc v (leb (inside_count rs p) 1) (all (λ p. leb (inside_count rs p) 1) ps) i })

-- ---- the leaves

-- an expansion of the definitions, its regions as a set
abbrev pub as_set : Expansion → Expansion
as_set s = record { regions = set_extend [] s.regions; valid = s.valid }

abbrev also : Bool → Expansion → Expansion
also b s = record { regions = s.regions; valid = s.valid && b }

module _ (C : Context) (i : ℕ) (hi : i < C.count) where
  leaf_is : (s : Expansion) (leaf : ℕ) → take_leaf C i (as_set s) leaf ≡ as_set (add_leaf C i s leaf)
  unfolding take_leaf add_leaf
  leaf_is s leaf = ap (λ b. cond (C.anchored leaf || b) (invalid (as_set s)) (record { regions = set_insert (set_extend [] s.regions) leaf; valid = s.valid })) (not-only_one C leaf i hi) ∙ go (C.anchored leaf || not (eqb (incident_count C leaf) 1 && is_incident C i leaf))
    where
      go : (bad : Bool) → cond bad (invalid (as_set s)) (record { regions = set_insert (set_extend [] s.regions) leaf; valid = s.valid }) ≡ record { regions = set_extend [] (cond bad s.regions (s.regions ++ (leaf ∷ []))); valid = s.valid && not bad }
      go true = λ j. record { regions = set_extend [] s.regions; valid = sym (and-false s.valid) j }
      go false = λ j. record { regions = put_last s.regions leaf j; valid = sym (and-true s.valid) j }

  -- of a pair with no region inside
  beyond_is : (es : List ℕ) (s : Expansion) (p : Pair) → take_beyond C i (as_set s) p (pair_in es p) ≡ as_set (cond (eqb (inside_count es p) 1) (add_leaf C i s (cond (member p.lo es) p.hi p.lo)) (invalid s))
  unfolding pair_in filter take_beyond inside_count
  beyond_is es s p = go (member p.lo es) refl (member p.hi es) refl
    where
      go : (a : Bool) → member p.lo es ≡ a → (b : Bool) → member p.hi es ≡ b
          → take_beyond C i (as_set s) p (cond a (p.lo ∷ cond b (p.hi ∷ []) []) (cond b (p.hi ∷ []) [])) ≡ as_set (cond (eqb (bit a + bit b) 1) (add_leaf C i s (cond a p.hi p.lo)) (invalid s))
      go true h true k = refl
      go true h false k = ap (take_leaf C i (as_set s)) (other-hi es p h k) ∙ leaf_is s p.hi
      go false h true k = ap (take_leaf C i (as_set s)) (other-lo es p h k) ∙ leaf_is s p.lo
      go false h false k = refl

  any_in : (l : List ℕ) (p : Pair) → any (λ r. member r l) (p.lo ∷ p.hi ∷ []) ≡ ltb 0 (inside_count l p)
  unfolding any inside_count
  any_in l p = go (member p.lo l) (member p.hi l)
    where
      go : (a b : Bool) → (a || (b || false)) ≡ ltb 0 (bit a + bit b)
      go true true = refl
      go true false = refl
      go false true = refl
      go false false = refl

  leaves-are : (es : List ℕ) (s : Expansion) (ps : List Pair) → take_leaves C i (set_extend [] es) (as_set s) ps ≡ as_set (expand_pairs C i es s ps)
  unfolding take_leaves expand_pairs expand_pair
  leaves-are es s [] = refl
  leaves-are es s (p ∷ ps) = ap (λ t. take_leaves C i (set_extend [] es) t ps) one ∙ leaves-are es (expand_pair C i es s p) ps
    where
      pick : (b : Bool) (x : Expansion) → cond b (as_set s) (as_set x) ≡ as_set (cond b s x)
      pick true x = refl
      pick false x = refl

      one : cond (any (λ r. member r (set_extend [] s.regions)) (p.lo ∷ p.hi ∷ [])) (as_set s) (take_beyond C i (as_set s) p (pair_in (set_extend [] es) p)) ≡ as_set (expand_pair C i es s p)
      one =
          (λ j. cond (((λ k. any (λ r. in_set r s.regions k) (p.lo ∷ p.hi ∷ [])) ∙ any_in s.regions p) j) (as_set s) ((ap (take_beyond C i (as_set s) p) (pair_in-set es p) ∙ beyond_is es s p) j))
          ∙ pick (ltb 0 (inside_count s.regions p)) (cond (eqb (inside_count es p) 1) (add_leaf C i s (cond (member p.lo es) p.hi p.lo)) (invalid s))

  -- a test made before the leaves are found counts as one made after
  pairs-also : (es : List ℕ) (b : Bool) (s : Expansion) (ps : List Pair) → expand_pairs C i es (also b s) ps ≡ also b (expand_pairs C i es s ps)
  unfolding expand_pairs expand_pair add_leaf
  pairs-also es b s [] = refl
  pairs-also es b s (p ∷ ps) = ap (λ t. expand_pairs C i es t ps) (go (ltb 0 (inside_count s.regions p)) (eqb (inside_count es p) 1)) ∙ pairs-also es b (expand_pair C i es s p) ps
    where
      leaf : ℕ
      leaf = cond (member p.lo es) p.hi p.lo

      swap : (v g : Bool) → (v && b && g) ≡ (v && g && b)
      swap true g = and_comm b g
      swap false g = refl

      go : (c d : Bool) → cond c (also b s) (cond d (add_leaf C i (also b s) leaf) (invalid (also b s))) ≡ also b (cond c s (cond d (add_leaf C i s leaf) (invalid s)))
      go true d = refl
      go false true = λ j. record { regions = (add_leaf C i s leaf).regions; valid = swap s.valid (not (C.anchored leaf || not (eqb (incident_count C leaf) 1 && is_incident C i leaf))) j }
      go false false = refl

  check_is : (ps : List Pair) (s : Expansion) → check_pairs C ps (as_set s) ≡ as_set (also (all (λ p. eqb (inside_count s.regions p) 1) ps) s)
  unfolding check_pairs
  check_is ps s =
      ap (λ b. cond b (invalid (as_set s)) (as_set s)) (any-not (λ p. eqb (length (pair_in (set_extend [] s.regions) p)) 1) (λ p. eqb (inside_count s.regions p) 1) (λ p. ap (λ l. eqb (length l) 1) (pair_in-set s.regions p) ∙ ap (λ n. eqb n 1) (count_in s.regions p)) ps)
      ∙ go (all (λ p. eqb (inside_count s.regions p) 1) ps)
    where
      go : (b : Bool) → cond (not b) (invalid (as_set s)) (as_set s) ≡ as_set (also b s)
      go true = λ j. record { regions = set_extend [] s.regions; valid = sym (and-true s.valid) j }
      go false = λ j. record { regions = set_extend [] s.regions; valid = sym (and-false s.valid) j }

  -- one port
  pub port_is : (s : Expansion) → walk_port C (as_set s) i ≡ as_set (expand_port C s i)
  unfolding walk_port expand_port set_extend
  port_is s =
      (λ j. check_pairs C ps (take_leaves C i (outside j).exteriors (record { regions = set_extend [] s.regions; valid = (outside j).valid }) ps))
      ∙ ap (check_pairs C ps) (leaves-are es (also before s) ps ∙ ap as_set (pairs-also es before s ps)) ∙ check_is ps (also before (expand_pairs C i es s ps))
    where
      ps : List Pair
      ps = C.pairs i

      es : List ℕ
      es = exteriors s.regions ps

      before : Bool
      before = all (λ p. leb (inside_count s.regions p) 1) ps

      outside : find_exteriors (set_extend [] s.regions) (record { exteriors = []; valid = s.valid }) ps ≡ record { exteriors = set_extend [] es; valid = s.valid && before }
      outside = exteriors-are s.regions [] s.valid ps

-- `for index in port_indexes`: both ports
pub ports-are : (C : Context) (a b : ℕ) → a < C.count → b < C.count → (s : Expansion) → walk_port C (walk_port C (as_set s) a) b ≡ as_set (expand_port C (expand_port C s a) b)
ports-are C a b ha hb s = ap (λ t. walk_port C t b) (port_is C a ha s) ∙ port_is C b hb (expand_port C s a)
