-- The ports of a component, found one by one. Assumes nothing.
use Prim.Native.Nat.{ℕ, zero, suc, ◌+◌, ◌≤◌, ◌<◌}
use native.Mathlib.Omega.{arith}
use native.Mathlib.Numerals.{add-one}
use mathlib.Core.Path.{◌≡◌, refl, sym, ap, ap₂, ◌∙◌}
use mathlib.Core.Bool.{Bool, true, false, not, false≢true}
use mathlib.Core.Logic.{⊎_elim}
use mathlib.Core.List.{List, [], ◌∷◌, ◌++◌, append-nil, append_assoc}
use Rattle.std.specs.Prelude.{Option, None, Some, MatchOption, is_some}
use Rattle.std.specs.Bool.{then_some}
use Rattle.definitions.specs.Scan.{collect, to_list, only_if}
use Rattle.definitions.specs.Context.{Context}
use Rattle.definitions.specs.RampInteriors.{components, component_ports}
use Rattle.laws.specs.NumberLaws.Comparisons.{last_or}
use Rattle.interior_proposals.specs.declared.ports.Ports.{Ports}
use Rattle.interior_proposals.specs.Candidates.{port, NoPort, PortFrom, NextPort, both_ports, two_ports}

-- ---- ports that are the same

port_of : (Ports → ℕ) → Option Ports → ℕ
port_of f None = 0
port_of f (Some p) = f p

pub same_ports : {a b x y : ℕ} → both_ports a b ≡ both_ports x y → (a ≡ x) × (b ≡ y)
unfolding port_of
same_ports e = (ap (port_of (λ p. p.first)) e, ap (port_of (λ p. p.second)) e)

-- ---- all that are found

module _ (p : ℕ → Bool) where
  abbrev picked : ℕ → List ℕ
  picked n = collect n (λ i. only_if (p i) i)

  -- none is found from k on
  picked-skip : (m k : ℕ) → k ≤ m → ((j : ℕ) → k ≤ j → j < m → p j ≡ false) → picked m ≡ picked k
  unfolding collect
  picked-skip zero k h f = ap picked start
    where
      start : 0 ≡ k
      start = omega arith
  picked-skip (suc m) k h f =
      ⊎_elim (λ e. ap picked (sym e))
      (λ l. ap₂ (λ a b. a ++ to_list (only_if b m)) (picked-skip m k (omega arith) (λ j a b. f j a (omega arith))) (f m (omega arith) (omega arith)) ∙ append-nil (picked k))
      (last_or k (suc m) (omega arith))

  picked_one : (k : ℕ) → p k ≡ true → picked (k + 1) ≡ picked k ++ (k ∷ [])
  unfolding collect
  picked_one k e = rw (add-one, e) refl

  -- what is found below k comes first
  picked-rest : (m k : ℕ) → k ≤ m → (l : List ℕ) × (picked m ≡ picked k ++ l)
  unfolding collect
  picked-rest zero k h = ([], ap picked start ∙ sym (append-nil (picked k)))
    where
      start : 0 ≡ k
      start = omega arith
  picked-rest (suc m) k h =
      ⊎_elim (λ e. ([], ap picked (sym e) ∙ sym (append-nil (picked k))))
      (λ l.
      let r = picked-rest m k (omega arith) in
      (r.0 ++ to_list (only_if (p m) m), ap (λ a. a ++ to_list (only_if (p m) m)) r.1 ∙ append_assoc (picked k) r.0 (to_list (only_if (p m) m))))
      (last_or k (suc m) (omega arith))

module _ (C : Context) (r : ℕ) where
  abbrev all_found : List ℕ
  all_found = component_ports C (components C) r

  all_is : {n : ℕ} → C.count ≡ n → all_found ≡ picked (port C r) n
  unfolding component_ports
  all_is e = ap (picked (port C r)) e

  module _ {count : ℕ} (e : C.count ≡ count) where
    -- what `find` gives, where the test is told of boundaries of C alone
    pub next_found : (first : ℕ) (found : Option ℕ) → MatchOption found ((k : ℕ) → first ≤ k → k < count → k < C.count → port C r k ≡ false) (λ i. (first ≤ i) × (i < count) × (i < C.count → port C r i ≡ true) × ((k : ℕ) → first ≤ k → k < i → k < C.count → port C r k ≡ false)) → NextPort C r count first found
    next_found first None h = λ k a b. h k a b (omega arith)
    next_found first (Some i) (a, b, p, h) = (a, b, p (omega arith), λ k c d. h k c d (omega arith))

    pub ports_none : NoPort C r 0 count → None ≡ two_ports all_found
    unfolding collect
    ports_none N = sym (ap two_ports (all_is e ∙ picked-skip (port C r) count 0 (omega arith) N))

    module _ {a : ℕ} (A : PortFrom C r count 0 a) where
      upto-a : picked (port C r) (a + 1) ≡ a ∷ []
      unfolding collect
      upto-a = picked_one (port C r) a A.2 ∙ ap (λ l. l ++ (a ∷ [])) (picked-skip (port C r) a 0 (omega arith) A.3)

      pub ports_one : NoPort C r (a + 1) count → None ≡ two_ports all_found
      ports_one N = sym (ap two_ports (all_is e ∙ picked-skip (port C r) count (a + 1) (omega (arith, A.1)) N ∙ upto-a))

      module _ {b : ℕ} (B : PortFrom C r count (a + 1) b) where
        upto-b : picked (port C r) (b + 1) ≡ a ∷ b ∷ []
        upto-b = picked_one (port C r) b B.2 ∙ ap (λ l. l ++ (b ∷ [])) (picked-skip (port C r) b (a + 1) B.0 B.3 ∙ upto-a)

        ports_two : NoPort C r (b + 1) count → both_ports a b ≡ two_ports all_found
        ports_two N = sym (ap two_ports (all_is e ∙ picked-skip (port C r) count (b + 1) (omega (arith, B.1)) N ∙ upto-b))

        ports_more : {d : ℕ} → PortFrom C r count (b + 1) d → None ≡ two_ports all_found
        ports_more {d} D =
            let rest = picked-rest (port C r) count (d + 1) (omega (arith, D.1)) in
            sym (ap two_ports (all_is e ∙ rest.1 ∙ ap (λ l. l ++ rest.0) (picked_one (port C r) d D.2 ∙ ap (λ l. l ++ (d ∷ [])) (picked-skip (port C r) d (b + 1) D.0 D.3 ∙ upto-b))))

        -- t says that there is no third
        pub ports_all : (third : Option ℕ) (t : Bool) → is_some third ≡ not t → NextPort C r count (b + 1) third → then_some t (record { first = a; second = b }) ≡ two_ports all_found
        ports_all None true e N = ports_two N
        ports_all None false e N = absurd (false≢true e)
        ports_all (Some d) true e D = absurd (false≢true (sym e))
        ports_all (Some d) false e D = ports_more D
