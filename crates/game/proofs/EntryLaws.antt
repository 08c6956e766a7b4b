-- What each entry of the lent verdicts says once a call is accepted: the three numbers of a place are those of its verdict over all ways of play. Assumes nothing.
use Prim.Native.Nat.{ℕ, zero, suc, ◌+◌, ◌-◌, ◌*◌, ◌/◌, ◌%◌, ◌≤◌, ◌<◌}
use Rattle.std.proofs.Common.{suc-mul, mul-le-mul_right, sym, ◌∙◌, subst}
use native.Mathlib.Omega.{arith}
use Rattle.std.specs.Prelude.{◌≡◌, Bool, cond, List, [], ◌∷◌, ◌++◌, length, drop, eqb, leb}
use Rattle.std.proofs.Math.Path.{refl, ap}
use Rattle.std.proofs.Math.Bool.{true, false}
use Rattle.std.proofs.Math.ListN.{get_or, length-append, get_or-append}
use Rattle.std.proofs.Math.Arith.{digits_div, digits_mod}
use Rattle.std.proofs.Math.Dec.{ltb}
use borrow.Author.Tests.{eq-eqb, leb-true, ltb-true, ltb-false}
use Rattle.definitions.specs.Scan.{gather}
use Rattle.definitions.specs.Lists.{overwrite}
use Rattle.definitions.specs.Verdict.{Answer}
use Rattle.laws.specs.ListLaws.Tests.{both}
use Rattle.game.specs.Game.{Game, Place, is_region, Inside}
use Rattle.game.specs.Play.{Verdict, Judged}
use Rattle.game.specs.Search.{verdict_of}
use Rattle.game.proofs.Verdicts.{judged}
use Rattle.game.specs.Graph.{graph_of, place_count, place_at, numbers_of, verdict_numbers, verdicts_at_exit, Solves}
use Rattle.game.specs.EntryLaws.{number_of, Entry}

-- ---- lists

second-part : (l m : List ℕ) (j : ℕ) → get_or (l ++ m) (length l + j) 0 ≡ get_or m j 0
second-part [] m j = ap (λ n. get_or m n 0) none
  where
    none : 0 + j ≡ j
    none = omega arith
second-part (x ∷ l) m j = ap (λ n. get_or (x ∷ (l ++ m)) n 0) next ∙ second-part l m j
  where
    next : suc (length l) + j ≡ suc (length l + j)
    next = omega arith

module _ (G : Game) where
  three : ℕ → List ℕ
  three c = numbers_of (verdict_of G (place_at G.regions c))

  pub numbers-length : (n : ℕ) → length (verdict_numbers G n) ≡ 3 * n
  unfolding verdict_numbers gather
  numbers-length zero = refl
  numbers-length (suc n) = length-append (verdict_numbers G n) (numbers_of (verdict_of G (place_at G.regions n))) ∙ ap (λ m. m + 3) (numbers-length n) ∙ more
    where
      more : 3 * n + 3 ≡ 3 * suc n
      more = omega arith

  -- the numbers of place c stand at 3 c
  number_at : (n c j : ℕ) → c < n → j < 3 → get_or (verdict_numbers G n) (3 * c + j) 0 ≡ get_or (three c) j 0
  unfolding verdict_numbers gather three
  number_at zero c j h k = absurd (omega arith)
  number_at (suc n) c j h k = go (ltb c n) refl (λ l. number_at n c j l k)
    where
      go : (b : Bool) → ltb c n ≡ b → (c < n → get_or (verdict_numbers G n) (3 * c + j) 0 ≡ get_or (three c) j 0)
          → get_or (verdict_numbers G n ++ numbers_of (verdict_of G (place_at G.regions n))) (3 * c + j) 0 ≡ get_or (three c) j 0
      go true e earlier =
          get_or-append (verdict_numbers G n) (numbers_of (verdict_of G (place_at G.regions n))) 0 (3 * c + j) (omega (arith, numbers-length n, ltb-true c n e))
          ∙ earlier (ltb-true c n e)
      go false e earlier =
          ap (λ i. get_or (verdict_numbers G n ++ numbers_of (verdict_of G (place_at G.regions n))) i 0) place
          ∙ second-part (verdict_numbers G n) (numbers_of (verdict_of G (place_at G.regions n))) j ∙ ap (λ d. get_or (numbers_of (verdict_of G (place_at G.regions d))) j 0) (sym last)
        where
          last : c ≡ n
          last = omega (arith, ltb-false c n e)

          place : 3 * c + j ≡ length (verdict_numbers G n) + j
          place = omega (arith, numbers-length n, last)

  -- ---- the number of a place

  region-parts : (d : ℕ) → is_region G.regions d ≡ true → (1 ≤ d) × (d ≤ G.regions)
  region-parts d h = (leb-true 1 d (both (leb 1 d) (leb d G.regions) h).0, leb-true d G.regions (both (leb 1 d) (leb d G.regions) h).1)

  turn_lt : (t : Bool) → cond t 0 1 < 2
  turn_lt true = omega arith
  turn_lt false = omega arith

  turn-back : (t : Bool) → eqb (cond t 0 1) 0 ≡ t
  turn-back true = refl
  turn-back false = refl

  place-back : (x : Place) → Inside G x → place_at G.regions (number_of G x) ≡ x
  unfolding place_at number_of
  place-back x i = λ j. record { runner = runner-back j; guard = guard-back j; runners_turn = turns j }
    where
      one : (1 ≤ x.runner) × (x.runner ≤ G.regions)
      one = region-parts x.runner i.runner_in

      two : (1 ≤ x.guard) × (x.guard ≤ G.regions)
      two = region-parts x.guard i.guard_in

      half : number_of G x / 2 ≡ (x.runner - 1) * G.regions + (x.guard - 1)
      half = digits_div ((x.runner - 1) * G.regions + (x.guard - 1)) (turn_lt x.runners_turn)

      below : x.guard - 1 < G.regions
      below = omega (arith, two.0, two.1)

      runner-back : suc (number_of G x / 2 / G.regions) ≡ x.runner
      runner-back = ap (λ h. suc (h / G.regions)) half ∙ ap suc (digits_div (x.runner - 1) below) ∙ up
        where
          up : suc (x.runner - 1) ≡ x.runner
          up = omega (arith, one.0)

      guard-back : suc (number_of G x / 2 % G.regions) ≡ x.guard
      guard-back = ap (λ h. suc (h % G.regions)) half ∙ ap suc (digits_mod (x.runner - 1) below) ∙ up
        where
          up : suc (x.guard - 1) ≡ x.guard
          up = omega (arith, two.0)

      turns : eqb (number_of G x % 2) 0 ≡ x.runners_turn
      turns = ap (λ h. eqb h 0) (digits_mod ((x.runner - 1) * G.regions + (x.guard - 1)) (turn_lt x.runners_turn)) ∙ turn-back x.runners_turn

  number-below : (x : Place) → Inside G x → number_of G x < place_count G.regions
  unfolding number_of
  number-below x i = omega (arith, two.0, two.1, grid, turn_lt x.runners_turn)
    where
      two : (1 ≤ x.guard) × (x.guard ≤ G.regions)
      two = region-parts x.guard i.guard_in

      above : suc (x.runner - 1) ≤ G.regions
      above = omega (arith, (region-parts x.runner i.runner_in).0, (region-parts x.runner i.runner_in).1)

      grid : (x.runner - 1) * G.regions + G.regions ≤ G.regions * G.regions
      grid = subst (λ n. n ≤ G.regions * G.regions) (suc-mul (x.runner - 1) G.regions) (mul-le-mul_right G.regions above)

-- ---- the theorem

-- of any list that the verdicts are written to
pub entries-filled : (G : Game) (old v : List ℕ) → v ≡ overwrite (verdict_numbers G (place_count G.regions)) old
    → (x : Place) → Inside G x → (w : Verdict) × Judged G x w × Entry v (number_of G x) w
unfolding three
entries-filled G old v filled x i = (verdict_of G x, judged G x i, record { winner = entry 0 (omega arith); moves = entry 1 (omega arith); region = entry 2 (omega arith) })
  where
    n : ℕ
    n = place_count G.regions

    entry : (j : ℕ) → j < 3 → get_or v (3 * number_of G x + j) 0 ≡ get_or (numbers_of (verdict_of G x)) j 0
    entry j h =
        ap (λ l. get_or l (3 * number_of G x + j) 0) filled
        ∙ get_or-append (verdict_numbers G n) (drop (length (verdict_numbers G n)) old) 0 (3 * number_of G x + j) (omega (arith, numbers-length G n, number-below G x i))
        ∙ number_at G n (number_of G x) j (number-below G x i) h ∙ ap (λ y. get_or (numbers_of (verdict_of G y)) j 0) (place-back G x i)

-- where the call is accepted, they are
pub written : (G : Game) (old v : List ℕ) (number : ℕ) → v ≡ verdicts_at_exit G old number → number ≡ 0 → v ≡ overwrite (verdict_numbers G (place_count G.regions)) old
unfolding verdicts_at_exit
written G old v number e z = e ∙ ap (λ b. cond b (overwrite (verdict_numbers G (place_count G.regions)) old) old) (eq-eqb number 0 z)

pub entries-judged : (regions : ℕ) (pairs : List ℕ) (goal : ℕ) (old : List ℕ) (a : Answer) (v : List ℕ) → Solves regions pairs goal old a v → a.number ≡ 0
    → (x : Place) → Inside (graph_of regions pairs goal) x → (w : Verdict) × Judged (graph_of regions pairs goal) x w × Entry v (number_of (graph_of regions pairs goal) x) w
entries-judged regions pairs goal old a v S z = entries-filled (graph_of regions pairs goal) old v (written (graph_of regions pairs goal) old v a.number S.at_exit z)
