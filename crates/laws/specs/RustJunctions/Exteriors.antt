-- The exteriors of a union as the Rust collects them (junctions.rs), a set filled port by port, and that its length is the count of the ports
-- whose exterior is new. The argument: a set grows by one where what is inserted is not yet a member, and the members are the exteriors of the ports before.
-- Assumes nothing.
use Prim.Native.Nat.{ℕ, zero, suc, ◌+◌}
use Rattle.std.proofs.Common.{add-zero, ◌∙◌}
use Rattle.std.specs.Prelude.{◌≡◌, Bool, ◌&&◌, ◌||◌, eqb, Option, None, Some}
use Rattle.std.proofs.Math.Path.{refl, sym, ap}
use Rattle.std.proofs.Math.Bool.{true, false, not, cond, or-false}
use mathlib.Core.List.{List, [], ◌∷◌, ◌++◌}
use Rattle.std.proofs.Math.ListN.{length}
use Rattle.definitions.specs.Scan.{any, member, any_below_lem, count_below, collect, to_list, only_if, bit}
use Rattle.definitions.specs.Grid.{Pair}
use Rattle.definitions.specs.Context.{Context, holds, full_pair}
use Rattle.definitions.specs.Junctions.{exterior_of, is_union_port, is_new_exterior}
use Rattle.laws.specs.OrderLaws.ListOrder.{eqb_sym}
use Rattle.laws.specs.SetLaws.Sets.{set_insert, numbers_below, Ascending, none, member-insert, insert_ascending, length-insert}
use Rattle.laws.specs.RustJunctions.Ports.{union_set, union-member}

-- ---- as the Rust writes it

--     let other_pair = full_pair(&metadata[*port]).expect("validated port");
--     exteriors.insert(if union.contains(&other_pair[0]) { other_pair[1] } else { other_pair[0] });
-- (The walk that found the ports has seen that each is a full pair, so that `none` is not met.)
unfoldable pub insert_exterior : Pair → List ℕ → Option Pair → List ℕ
insert_exterior p exteriors None = exteriors
insert_exterior p exteriors (Some q) = set_insert exteriors (cond (member q.lo (union_set p)) q.hi q.lo)

module _ (full : ℕ → Option Pair) (p : Pair) where
  --     for port in &ports { .. }
  unfoldable pub exteriors_from : List ℕ → List ℕ → List ℕ
  exteriors_from exteriors [] = exteriors
  exteriors_from exteriors (j ∷ js) = exteriors_from (insert_exterior p exteriors (full j)) js

-- ---- and that it is the same

module _ (C : Context) (p : Pair) where
  insert_is : (exteriors : List ℕ) (q : Pair) → insert_exterior p exteriors (Some q) ≡ set_insert exteriors (exterior_of p q)
  unfolding insert_exterior
  insert_is exteriors q = rw (union-member q.lo p) refl

  exteriors-append : (exteriors js ks : List ℕ) → exteriors_from (full_pair C) p exteriors (js ++ ks) ≡ exteriors_from (full_pair C) p (exteriors_from (full_pair C) p exteriors js) ks
  unfolding exteriors_from
  exteriors-append exteriors [] ks = refl
  exteriors-append exteriors (j ∷ js) ks = exteriors-append (insert_exterior p exteriors (full_pair C j)) js ks

  module _ (i : ℕ) where
    -- the set after the ports below n
    abbrev after : ℕ → List ℕ
    after n = exteriors_from (full_pair C) p [] (numbers_below n (is_union_port C i p))

    after-suc : (n : ℕ) → after (suc n) ≡ cond (is_union_port C i p n) (insert_exterior p (after n) (full_pair C n)) (after n)
    unfolding numbers_below collect exteriors_from
    after-suc n = exteriors-append [] (numbers_below n (is_union_port C i p)) (to_list (only_if (is_union_port C i p n) n)) ∙ go (is_union_port C i p n)
      where
        go : (b : Bool) → exteriors_from (full_pair C) p (after n) (to_list (only_if b n)) ≡ cond b (insert_exterior p (after n) (full_pair C n)) (after n)
        go true = refl
        go false = refl

    after_ascending : (n : ℕ) → Ascending (after n)
    unfolding numbers_below collect exteriors_from insert_exterior
    after_ascending zero = none
    after_ascending (suc n) = rw (after-suc n) (go (is_union_port C i p n) (full_pair C n) (after_ascending n))
      where
        go : (b : Bool) (o : Option Pair) → Ascending (after n) → Ascending (cond b (insert_exterior p (after n) o) (after n))
        go true None s = s
        go true (Some q) s = insert_ascending _ s
        go false o s = s

    -- e is the exterior of port k
    abbrev has_exterior : ℕ → ℕ → Bool
    has_exterior e k = is_union_port C i p k && holds (full_pair C k) (λ o. eqb (exterior_of p o) e)

    after-member : (e n : ℕ) → member e (after n) ≡ any_below_lem n (has_exterior e)
    unfolding any_below_lem numbers_below collect exteriors_from insert_exterior member any
    after-member e zero = refl
    after-member e (suc n) = ap (member e) (after-suc n) ∙ go (is_union_port C i p n) (full_pair C n) ∙ ap (λ b. b || has_exterior e n) (after-member e n)
      where
        order : (a b : Bool) → (a || b) ≡ (b || a)
        order true true = refl
        order true false = refl
        order false true = refl
        order false false = refl

        go : (b : Bool) (o : Option Pair) → member e (cond b (insert_exterior p (after n) o) (after n)) ≡ (member e (after n) || (b && holds o (λ o. eqb (exterior_of p o) e)))
        go true None = sym (or-false (member e (after n)))
        go true (Some q) = ap (member e) (insert_is (after n) q) ∙ member-insert e (after n) (exterior_of p q) ∙ order (eqb e (exterior_of p q)) (member e (after n)) ∙ ap (λ b. member e (after n) || b) (eqb_sym e (exterior_of p q))
        go false o = sym (or-false (member e (after n)))

    after-length : (n : ℕ) → length (after n) ≡ count_below n (is_new_exterior C i p)
    unfolding count_below is_new_exterior numbers_below collect exteriors_from insert_exterior
    after-length zero = refl
    after-length (suc n) = ap length (after-suc n) ∙ go (is_union_port C i p n) (full_pair C n) ∙ ap (λ m. m + bit (is_new_exterior C i p n)) (after-length n)
      where
        go : (b : Bool) (o : Option Pair) → length (cond b (insert_exterior p (after n) o) (after n)) ≡ length (after n) + bit (b && holds o (λ q. not (any_below_lem n (has_exterior (exterior_of p q)))))
        go true None = sym (add-zero (length (after n)))
        go true (Some q) = ap length (insert_is (after n) q) ∙ length-insert (exterior_of p q) (after_ascending n) ∙ ap (λ b. length (after n) + bit (not b)) (after-member (exterior_of p q) n)
        go false o = sym (add-zero (length (after n)))

    -- `exteriors.len()`, of the set that the ports of the union give
    pub exteriors-length : length (exteriors_from (full_pair C) p [] (numbers_below C.count (is_union_port C i p))) ≡ count_below C.count (is_new_exterior C i p)
    exteriors-length = after-length C.count
