-- A loop over numbers from one on before another that visits the steps of each: those of the numbers before k are visited (`Passing`), and the visitor is ready for those
-- of k and behind it. Assumes nothing.
use Prim.Native.Nat.{ℕ, suc, ◌+◌, ◌-◌, ◌*◌, ◌≤◌, ◌<◌}
use native.Mathlib.Omega.{arith}
use native.Mathlib.Nat.{mul-suc, mul-add, mul-le-mul_left}
use mathlib.Core.Path.{◌≡◌, sym, ap, ◌∙◌, subst}
use mathlib.Core.List.{List, [], ◌++◌}
use Rattle.definitions.specs.Scan.{concat_map, run}
use Rattle.definitions.specs.Grid.{Map, Pair}
use Rattle.cut_steps.specs.Prefixes.{up_to, concat_none, concat_more}
use Rattle.cut_steps.specs.Visits.{VisitLaws}
use Rattle.cut_steps.proofs.Trimmed.{concat-split}
use Rattle.cut_steps.proofs.Among.{among_at, among-part}

-- f are the steps of a number, of n cells each
pub record Passing {S : Type 0} (visited : Map → List Pair → ℕ → S → S → Type 0) (M : Map) (f : ℕ → List Pair) (n from to : ℕ) (s t : S) (k : ℕ) : Type 0 where
  pub from_k : from ≤ k
  pub k_to : k - from ≤ to - from
  pub visits : visited M (concat_map f (up_to from k)) (n * (k - from)) s t

module _ {S : Type 0} {ready : Map → List Pair → ℕ → S → Type 0} {visited : Map → List Pair → ℕ → S → S → Type 0} (L : VisitLaws ready visited) (M : Map) where
  pub visited_as : {E F : List Pair} {n : ℕ} {s t : S} → E ≡ F → visited M E n s t → visited M F n s t
  visited_as {n = n} {s} {t} e v = subst (λ l. visited M l n s t) e v

  -- nothing is visited where there is nothing, of however many cells
  pub visited_none : {E : List Pair} (n : ℕ) (s : S) → [] ≡ E → visited M E n s s
  visited_none n s e = visited_as e (L.most M [] 0 n s s (omega arith) (L.none M s))

  module _ (f : ℕ → List Pair) (n from to : ℕ) where
    pub passing-start : {s : S} → Passing visited M f n from to s s from
    passing-start {s} = record { from_k = omega arith; k_to = omega arith; visits = visited_none (n * (from - from)) s (sym (concat_none f from)) }

    module _ {s t : S} {k : ℕ} (P : Passing visited M f n from to s t k) where
      pub passing-more : k < to → {u : S} → visited M (f k) n t u → Passing visited M f n from to s u (k + 1)
      passing-more h {u} v =
          let e : k + 1 - from ≡ suc (k - from) = omega (arith, P.from_k) in
          let g : n * (k - from) + n ≤ n * (k + 1 - from) = omega (arith, ap (λ m. n * m) e, mul-suc n (k - from)) in
          record {
            from_k = omega (arith, P.from_k);
            k_to = omega (arith, P.from_k);
            visits = visited_as (sym (concat_more f from k P.from_k)) (L.most M (concat_map f (up_to from k) ++ f k) (n * (k - from) + n) (n * (k + 1 - from)) s u g (L.more M (concat_map f (up_to from k)) (f k) (n * (k - from)) n s t u P.visits v));
          }

      -- and several numbers at once
      pub passing-further : {next : ℕ} → k < next → next ≤ to → {u : S} → visited M (concat_map f (up_to k next)) (n * (next - k)) t u → Passing visited M f n from to s u next
      passing-further {next} h i {u} v =
          let e : next - from ≡ (k - from) + (next - k) = omega (arith, P.from_k) in
          let g : n * (k - from) + n * (next - k) ≤ n * (next - from) = omega (arith, ap (λ m. n * m) e, mul-add n (k - from) (next - k)) in
          let l = concat_map f (up_to from k) in
          let m = concat_map f (up_to k next) in
          record {
            from_k = omega (arith, P.from_k);
            k_to = omega (arith, P.from_k);
            visits = visited_as (concat-split f from k next P.from_k (omega arith)) (L.most M (l ++ m) (n * (k - from) + n * (next - k)) (n * (next - from)) s u g (L.more M l m (n * (k - from)) (n * (next - k)) s t u P.visits v));
          }

      pub passing-done : {room : ℕ} → to ≤ k → n * (to - from) ≤ room → visited M (concat_map f (up_to from to)) room s t
      passing-done {room} h r =
          let e : k - from ≡ to - from = omega (arith, P.from_k, P.k_to) in
          visited_as (ap (λ m. concat_map f (run from m)) e) (L.most M (concat_map f (up_to from k)) (n * (k - from)) room s t (omega (arith, ap (λ m. n * m) e, r)) P.visits)

      -- it is ready for steps of numbers behind k, where it was ready for those of all
      module _ {E : List Pair} {room : ℕ} (joined : E ≡ concat_map f (up_to from to)) (few : n * (to - from) ≤ room) (R : ready M E room s) where
        pub ready-further : {next : ℕ} → k ≤ next → next ≤ to → ready M (concat_map f (up_to k next)) (n * (next - k)) t
        ready-further {next} a b =
            let done = n * (k - from) in
            let e : next - from ≡ (k - from) + (next - k) = omega (arith, P.from_k) in
            let sum : n * (next - from) ≡ done + n * (next - k) = ap (λ m. n * m) e ∙ mul-add n (k - from) (next - k) in
            let all : n * (next - from) ≤ n * (to - from) = mul-le-mul_left n (omega arith) in
            let left : done + (room - done) ≡ room = omega (arith, sum, all, few) in
            let whole = subst (λ l. ready M l room s) joined R in
            L.part M (concat_map f (up_to from to)) (concat_map f (up_to k next)) (n * (next - k)) (room - done) t (among-part f P.from_k a b) (omega (arith, sum, all, few))
            (L.still M (concat_map f (up_to from k)) (concat_map f (up_to from to)) done (room - done) s t P.visits (subst (λ r. ready M (concat_map f (up_to from to)) r s) (sym left) whole))

        pub ready_at : k < to → ready M (f k) n t
        ready_at h =
            let one : k + 1 - k ≡ 1 = omega arith in
            let e : n ≤ n * (k + 1 - k) = omega (arith, ap (λ m. n * m) one) in
            L.part M (concat_map f (up_to k (k + 1))) (f k) n (n * (k + 1 - k)) t (among_at f (omega arith) (omega arith)) e (ready-further (omega arith) (omega arith))
