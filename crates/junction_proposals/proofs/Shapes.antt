-- The shape of a union, as `is_union` finds it: test by test, each return says what the whole test says. Assumes nothing.
use Prim.Native.Nat.{ℕ, ◌+◌, ◌-◌, ◌≤◌, ◌<◌}
use native.Mathlib.Omega.{arith}
use mathlib.Core.Path.{◌≡◌, refl, sym, ◌∙◌}
use mathlib.Core.Bool.{Bool, true, false, not, ◌&&◌, false≢true}
use Rattle.std.specs.Prelude.{Option, Some}
use mathlib.Core.List.{List}
use lib.ListN.{get_or}
use lib.Dec.{eqb, ltb, leb}
use borrow.Author.Tests.{lt-ltb, le-ltb}
use Rattle.std.specs.Bool.{beq}
use Rattle.definitions.specs.Scan.{count_below, bit}
use Rattle.definitions.specs.Grid.{Pair}
use Rattle.region_pairs.specs.declared.Pair as declared
use Rattle.junction_proposals.specs.Ports.{pair_of, walk_fits}
use Rattle.junction_proposals.specs.Unions.{no_ramp_at, marks_of, leads_anew, ports_pass, shape_at}
use Rattle.junction_proposals.proofs.FewPorts.{few-ports}

-- what the marks of both regions, m and n, say together
module _ {a b m n : Bool} (e : a ≡ m) (f : b ≡ n) where
  pub both_marked : (a && b) ≡ true → 2 ≤ bit m + bit n
  both_marked h = rw (← e, ← f) (go a b h)
    where
      go : (a b : Bool) → (a && b) ≡ true → 2 ≤ bit a + bit b
      go true true h = omega arith
      go true false h = absurd (false≢true h)
      go false b h = absurd (false≢true h)

  pub few_marked : (a && b) ≡ false → bit m + bit n < 2
  few_marked h = rw (← e, ← f) (go a b h)
    where
      go : (a b : Bool) → (a && b) ≡ false → bit a + bit b < 2
      go true true h = absurd (false≢true (sym h))
      go true false h = omega arith
      go false true h = omega arith
      go false false h = omega arith

  -- the test that just one is, as the derived one of two flags
  pub one_marked : not (beq a b) ≡ eqb (bit m + bit n) 1
  one_marked = rw (← e, ← f) (go a b)
    where
      go : (a b : Bool) → not (beq a b) ≡ eqb (bit a + bit b) 1
      go true true = refl
      go true false = refl
      go false true = refl
      go false false = refl

module _ (boundaries : List ℕ) (full : List (Option declared.Pair)) (counts marks : List ℕ) (count i : ℕ) (union : Pair) where
  abbrev fit : Bool
  fit = walk_fits full counts count i union

  abbrev three : Bool
  three = leb 3 (count_below count (leads_anew full i union))

  abbrev one : Bool
  one = eqb (marks_of marks union) 1

  abbrev whole : Bool
  whole = shape_at boundaries full count i union counts marks

  -- of what the tests say
  from : {n m w x q : Bool} → no_ramp_at boundaries i ≡ n → ltb (marks_of marks union) 2 ≡ m → fit ≡ w → three ≡ x → ports_pass boundaries full count i union one ≡ q → (n && m && w && x && q) ≡ whole
  unfolding shape_at
  from a b c d e = sym (λ t. a t && b t && c t && d t && e t)

  pub has_ramp_lem : no_ramp_at boundaries i ≡ false → false ≡ whole
  has_ramp_lem e = from e refl refl refl refl

  module _ (plain : no_ramp_at boundaries i ≡ true) where
    pub both-anchored : 2 ≤ marks_of marks union → false ≡ whole
    both-anchored e = from plain (le-ltb (marks_of marks union) 2 e) refl refl refl

    module _ (anchored : marks_of marks union < 2) where
      -- few incidents: the walk stops, or the ports are few
      pub few-incidents : pair_of full i ≡ Some union → i < count → get_or counts (union.lo - 1) 0 + get_or counts (union.hi - 1) 0 < 5 → false ≡ whole
      few-incidents own l s = go fit refl
        where
          go : (w : Bool) → fit ≡ w → false ≡ whole
          go true e = from plain (lt-ltb (marks_of marks union) 2 anchored) e (few-ports full counts count i union own l e s) refl
          go false e = from plain (lt-ltb (marks_of marks union) 2 anchored) e refl refl

      -- the tests that are left, as they were found: r, s and t
      module _ {r : Bool} (walked : r ≡ fit) where
        pub fit_fails : r ≡ false → false ≡ whole
        fit_fails h = from plain (lt-ltb (marks_of marks union) 2 anchored) (sym walked ∙ h) refl refl

        module _ {s : Bool} (h : r ≡ true) (counted : s ≡ three) where
          pub three_fail : s ≡ false → false ≡ whole
          three_fail k = from plain (lt-ltb (marks_of marks union) 2 anchored) (sym walked ∙ h) (sym counted ∙ k) refl

          pub by_ports : {t : Bool} → s ≡ true → t ≡ ports_pass boundaries full count i union one → t ≡ whole
          by_ports k e = from plain (lt-ltb (marks_of marks union) 2 anchored) (sym walked ∙ h) (sym counted ∙ k) (sym e)
