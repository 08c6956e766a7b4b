-- A fold over the items of a list whose step keeps an invariant: the step may be called at each turn, and the invariant holds at the end. Assumes nothing.
use Prim.Native.Nat.{ℕ, suc, ◌+◌, ◌<◌}
use native.Mathlib.Omega.{arith}
use denote.Param.Members.{Mut}
use mathlib.Core.Path.{◌≡◌, refl, sym, ap, subst, ◌∙◌}
use mathlib.Core.List.{List, [], ◌∷◌}
use lib.ListN.{length, get_or}
use Rattle.std.specs.Prelude.{Option, None, Some}
use Rattle.std.specs.Fn.{Called, Takes}
use Rattle.std.specs.Iterator.{AlwaysYields, Yields, FoldTurn, CallableInFold, FoldsItems}
use Rattle.std.specs.List.{FoldsTo}
use Rattle.std.proofs.lemmas.Iterator.{YieldsList}

module _ {S A B X F : Type 0} {steps : S → Option A → S → Type 0} {v : A → X} {s : S} {all : List X} (road : YieldsList steps v s all)
    (g : Mut F (B × (A × Unit {0})) B) (f : F) (Inv : ℕ → B → Type 0) where
  -- x is the item at place k
  abbrev pub At : ℕ → A → Type 0
  At k x = (k < length all) × (v x ≡ get_or all k (v x))

  -- what a turn leaves
  abbrev pub Stays : Type 0
  Stays = (b : B) (x : A) (k : ℕ) (q : F) (r : B) → At k x → Inv k b → Called g f (b, (x, tt)) r q → (q ≡ f) × Inv (k + 1) r

  -- what k turns leave, with `rest` to come
  record Passed (t : S) (q : F × B) : Type 0 where
    k : ℕ
    rest : List X
    runs : AlwaysYields steps v t rest
    size : length all ≡ k + length rest
    at : (i : ℕ) (d : X) → get_or rest i d ≡ get_or all (k + i) d
    same : q.0 ≡ f
    kept : Inv k q.1

  -- the next item, where one comes
  next_item : (k : ℕ) (rest : List X) (t u : S) (x : A) → AlwaysYields steps v t rest → length all ≡ k + length rest → ((i : ℕ) (d : X) → get_or rest i d ≡ get_or all (k + i) d)
      → steps t (Some x) u → At k x
  next_item k [] t u x runs size at e = absurd (runs x u e)
  next_item k (y ∷ ys) t u x runs size at e =
      (omega (arith, size), (runs.1 x u e).0 ∙ at 0 (v x) ∙ ap (λ i. get_or all i (v x)) (omega arith))

  turn : (k : ℕ) (rest : List X) (t u : S) (x : A) (p q : F × B) → Stays → AlwaysYields steps v t rest → length all ≡ k + length rest → ((i : ℕ) (d : X) → get_or rest i d ≡ get_or all (k + i) d)
      → p.0 ≡ f → Inv k p.1 → steps t (Some x) u → FoldTurn g p x q → Passed u q
  turn k [] t u x p q stays runs size at same kept e c = absurd (runs x u e)
  turn k (y ∷ ys) t u x p q stays runs size at same kept e c =
      let left = stays p.1 x k q.0 q.1 (next_item k (y ∷ ys) t u x runs size at e) kept (subst (λ h. Called g h (p.1, (x, tt)) q.1 q.0) same c) in
      record {
        k = k + 1;
        rest = ys;
        runs = (runs.1 x u e).1;
        size = omega (arith, size);
        at = λ i d. at (suc i) d ∙ ap (λ j. get_or all j d) (omega arith);
        same = left.0;
        kept = left.1;
      }

  passed : (xs : List A) (t u : S) (p q : F × B) → Stays → Passed t p → Yields steps t xs u → FoldsTo (FoldTurn g) p xs q → Passed u q
  passed [] t u p q stays P y c = subst (Passed u) c (subst (λ h. Passed h p) y P)
  passed (x ∷ xs) t u p q stays P (j, step, more) (m, one, others) =
      passed xs j u m q stays (turn P.k P.rest t j x p m stays P.runs P.size P.at P.same P.kept step one) more others

  ended : (k : ℕ) (rest : List X) (t u : S) → AlwaysYields steps v t rest → length all ≡ k + length rest → steps t None u → k ≡ length all
  ended k [] t u runs size e = omega (arith, size)
  ended k (y ∷ ys) t u runs size e = absurd (runs.0 u e)

  module _ (init : B) (stays : Stays) (start : Inv 0 init) where
    first : Passed s (f, init)
    first = record { k = 0; rest = all; runs = road.runs; size = omega arith; at = λ i d. ap (λ j. get_or all j d) (omega arith); same = refl; kept = start }

    pub callable_in_fold : ((b : B) (x : A) (k : ℕ) → At k x → Inv k b → Takes g f (b, (x, tt))) → CallableInFold steps g s f init
    callable_in_fold asks = record {
      at = λ xs t q x u y c e.
          let h = passed xs s t (f, init) q stays first y c in
          subst (λ k. Takes g k (q.1, (x, tt))) (sym h.same) (asks q.1 x h.k (next_item h.k h.rest t u x h.runs h.size h.at e) h.kept);
    }

    pub kept_by_fold : (r : B) → FoldsItems steps g s f init r → Inv (length all) r
    kept_by_fold r (xs, q, (u, w), c) =
        let h = passed xs s w.0 (f, init) (q, r) stays first w.1 c in
        subst (λ k. Inv k r) (ended h.k h.rest w.0 u h.runs h.size w.2) h.kept
