-- Names where the cells of a run are put under its first: those of the run are named after it, all others as before. Assumes nothing.
use Prim.Native.Nat.{ℕ, ◌≤◌, ◌<◌}
use native.Mathlib.Omega.{arith}
use mathlib.Core.Path.{◌≡◌, refl, sym, ◌∙◌}
use mathlib.Core.Bool.{Bool, true, false, cond}
use mathlib.Core.List.{List}
use lib.ListN.{get_or}
use lib.Dec.{ltb}
use borrow.Author.Tests.{ltb-true, ltb-false, lt-ltb, le-ltb}
use Rattle.parents.specs.Forest.{Parent, Forest}
use Rattle.row_runs.specs.Names.{Fresh, RunPut}
use Rattle.row_runs.specs.Numbered.{Filled}

module _ {n : ℕ} {name : ℕ → ℕ} {from end : ℕ} {was p : List ℕ} (F : Forest n name was) (fresh : Fresh n from was) (low : from ≤ end) (ends : end ≤ n) (W : Filled from end from was p) where
  after : ℕ → ℕ
  after c = cond (ltb c from) (name c) (cond (ltb c end) from (name c))

  at_before : (c : ℕ) → c < from → after c ≡ name c
  unfolding after
  at_before c h = rw (lt-ltb c from h) refl

  at_inside : (c : ℕ) → from ≤ c → c < end → after c ≡ from
  unfolding after
  at_inside c h k = rw (le-ltb c from h, lt-ltb c end k) refl

  at_behind : (c : ℕ) → end ≤ c → after c ≡ name c
  unfolding after
  at_behind c h = rw (le-ltb c from (omega arith), le-ltb c end h) refl

  stays : (c : ℕ) → c < n → end ≤ c → get_or p c 0 ≡ c
  stays c i h = W.behind c h ∙ fresh c (omega arith) i

  parent : (c : ℕ) → c < n → Parent after c (get_or p c 0)
  parent c i = go (ltb c from) (ltb c end) refl refl
    where
      go : (a b : Bool) → ltb c from ≡ a → ltb c end ≡ b → Parent after c (get_or p c 0)
      go true b e f =
          let h = ltb-true c from e in
          let P = F.parent c i in
          rw (W.before c h)
          record {
            low = P.low;
            same = at_before (get_or was c 0) (omega (arith, P.low)) ∙ P.same ∙ sym (at_before c h);
            top = λ t. at_before c h ∙ P.top t;
          }
      go false true e f =
          let h = ltb-false c from e in
          let k = ltb-true c end f in
          rw (W.inside c h k)
          record {
            low = h;
            same = at_inside from (omega arith) (omega arith) ∙ sym (at_inside c h k);
            top = λ t. at_inside c h k ∙ t;
          }
      go false false e f =
          let k = ltb-false c end f in
          rw (stays c i k)
          record { low = omega arith; same = refl; top = λ t. at_behind c k ∙ (F.parent c i).top (fresh c (omega arith) i) }

  pub run_put : RunPut n name from end was p
  run_put =
      record {
        after = after;
        left =
            record {
              forest = record { few = F.few; long = omega (arith, F.long, W.long); parent = parent };
              beyond = record { long = W.long; rest = W.rest n ends };
            };
        inside = at_inside;
        before = at_before;
        behind = at_behind;
        fresh = λ c h i. stays c i h;
      }
