-- Verdicts from the ranks: which region serves, the least of them, the verdict of a place, and the verdicts of all places one behind the other. Assumes
-- nothing.
use Prim.Native.Nat.{ℕ, zero, suc, ◌+◌, ◌-◌, ◌*◌, ◌/◌, ◌%◌, ◌≤◌, ◌<◌}
use native.Mathlib.Omega.{arith}
use native.Mathlib.Nat.{le_refl, mul-le-mul, div-lt_iff_lt-mul, mod-lt}
use mathlib.Core.Path.{◌≡◌, refl, sym, ap, ap₂, subst, ◌∙◌}
use mathlib.Core.Bool.{Bool, true, false, not, ◌&&◌, ◌||◌, cond, false≢true, beq}
use mathlib.Core.List.{List, [], ◌∷◌, ◌++◌}
use lib.ListN.{length, get_or, set, length-append}
use lib.Seq.{sets}
use lib.Dec.{eqb, ltb}
use borrow.Author.Tests.{ne_eqb, lt-ltb, ltb-true, ltb-false, le-leb}
use Rattle.definitions.specs.Scan.{gather}
use Rattle.laws.specs.ListLaws.Tests.{eqb_same}
use Rattle.laws.specs.ListLaws.Below.{below_none, below_at}
use Rattle.definitions.specs.Lists.{overwrite}
use Rattle.laws.specs.ListLaws.Overwritten.{sets_append, sets_overwrite}
use Rattle.game.specs.Game.{Game, mover, move_to, is_captured, is_region, is_step, is_move, runner_has_won, is_over, Inside}
use Rattle.game.specs.Search.{least_below}
use Rattle.game.proofs.Sweeps.{Least, least_is}
use Rattle.game.specs.Ranks.{is_found, serves_by, verdict_by}
use Rattle.game.proofs.RankLaws.{verdict_by_lem}
use Rattle.game.specs.Graph.{place_at, numbers_of, place_count, verdict_numbers}
use Rattle.game.proofs.EntryLaws.{numbers-length}
use Rattle.game_sets.specs.Words.{bit_at, Plays}
use Rattle.game_search.specs.Words.{rank_place, rank_at, Ranked, at}
use Rattle.std.specs.Prelude.{Option, None, Some, MatchOption, unwrap_or}
use Rattle.game_verdicts.specs.declared.Side.{Side}
use Rattle.game_verdicts.specs.declared.Side.TheVariants as side
use Rattle.game_verdicts.specs.Words.{verdicts_by, Served}
use Rattle.game_verdicts.specs.Forms.{is_runner, winner_number}

-- ---- the least

-- one that passes where none before it does
pub least_first : (n d : ℕ) (f : ℕ → Bool) → d < n → f d ≡ true → ((e : ℕ) → e < d → f e ≡ false) → d ≡ least_below n f
least_first n d f l h none = omega (arith, not_more (ltb (least_below n f) d) refl, not_less (ltb d (least_below n f)) refl)
  where
    found : Least f n (least_below n f)
    found = least_is n f (below_at n f d l h)

    not_more : (b : Bool) → ltb (least_below n f) d ≡ b → d ≤ least_below n f
    not_more true e = absurd (false≢true (sym (none (least_below n f) (ltb-true (least_below n f) d e)) ∙ found.found))
    not_more false e = ltb-false (least_below n f) d e

    not_less : (b : Bool) → ltb d (least_below n f) ≡ b → least_below n f ≤ d
    not_less true e = absurd (false≢true (sym (found.none d (ltb-true d (least_below n f) e)) ∙ h))
    not_less false e = ltb-false d (least_below n f) e

-- the last, where none before it passes
pub least_last : (n d : ℕ) (f : ℕ → Bool) → d ≡ n → ((e : ℕ) → e < d → f e ≡ false) → d ≡ least_below (suc n) f
unfolding least_below
least_last n d f q none = q ∙ sym (ap (λ b. cond b (least_below n f) n) (below_none n f (λ e l. none e (omega arith))))

-- ---- a region that serves

number_by : (winner : Side) → winner_number winner ≡ cond (is_runner winner) 1 2
number_by side.Runner = refl
number_by side.Guard = refl

pub back : (ranks : List ℕ) (r g : ℕ) (t : Bool) → rank_at ranks (at r g t) ≡ get_or ranks (rank_place r g t) 0
back ranks r g t = λ i. get_or ranks (rank_place (one r i) (one g i) t) 0
  where
    one : (n : ℕ) → suc n - 1 ≡ n
    one n = omega arith

module _ (near : List ℕ) (regions goal : ℕ) (G : Game) (P : Plays near regions goal G) (ranks : List ℕ) where
  pub runner-served : (r g d : ℕ) → r < 32 → d < 32
      → ((bit_at near r d && ltb 0 (get_or ranks (rank_place d g false) 0)) && ltb (get_or ranks (rank_place d g false) 0) (get_or ranks (rank_place r g true) 0)) ≡ serves_by G (rank_at ranks) (at r g true) (suc d)
  unfolding serves_by is_found is_move mover move_to
  runner-served r g d h k =
      assoc (bit_at near r d) (ltb 0 (get_or ranks (rank_place d g false) 0)) (ltb (get_or ranks (rank_place d g false) 0) (get_or ranks (rank_place r g true) 0))
      ∙ (λ i. P.steps r d h k i && (ltb 0 (sym (back ranks d g false) i) && ltb (sym (back ranks d g false) i) (sym (back ranks r g true) i)))
    where
      assoc : (a b c : Bool) → ((a && b) && c) ≡ (a && (b && c))
      assoc true b c = refl
      assoc false b c = refl

  pub guard-served : (r g d : ℕ) → g < 32 → d < 32 → (bit_at near g d && eqb (get_or ranks (rank_place r d true) 0) 0) ≡ serves_by G (rank_at ranks) (at r g false) (suc d)
  unfolding serves_by is_found is_move mover move_to
  guard-served r g d h k =
      ap (λ b. bit_at near g d && b) (unranked (get_or ranks (rank_place r d true) 0)) ∙ (λ i. P.steps g d h k i && not (ltb 0 (sym (back ranks r d true) i)))
    where
      unranked : (n : ℕ) → eqb n 0 ≡ not (ltb 0 n)
      unranked zero = refl
      unranked (suc n) = ne_eqb (suc n) 0 (λ e. never e) ∙ sym (ap not (lt-ltb 0 (suc n) (omega arith)))
        where
          never : suc n ≡ 0 → ⊥
          never e = omega arith

  -- region 0 serves nobody
  pub none_served : (r g : ℕ) (t : Bool) → serves_by G (rank_at ranks) (at r g t) 0 ≡ false
  unfolding serves_by is_move is_step mover
  none_served r g true = ap (λ b. (b || false) && (is_found G (rank_at ranks) (move_to (at r g true) 0) && ltb (rank_at ranks (move_to (at r g true) 0)) (rank_at ranks (at r g true)))) (ne_eqb 0 (suc r) (λ e. never e))
    where
      never : 0 ≡ suc r → ⊥
      never e = omega arith
  none_served r g false = ap (λ b. (b || false) && not (is_found G (rank_at ranks) (move_to (at r g false) 0))) (ne_eqb 0 (suc g) (λ e. never e))
    where
      never : 0 ≡ suc g → ⊥
      never e = omega arith

  -- ---- the region that the verdict names

  same_suc : (a b : ℕ) → eqb (suc a) (suc b) ≡ eqb a b
  same_suc a b = eqb_same (suc a) (suc b) a b ((λ e. omega arith), (λ e. ap suc e))

  over_is : (r g : ℕ) (t : Bool) → is_over G (at r g t) ≡ (eqb r g || eqb r goal)
  unfolding is_over is_captured runner_has_won
  over_is r g t = (λ i. same_suc r g i || (not (same_suc r g i) && ((λ j. eqb (suc r) (P.goal_is j)) ∙ same_suc r goal) i)) ∙ either (eqb r g) (eqb r goal)
    where
      either : (a b : Bool) → (a || (not a && b)) ≡ (a || b)
      either true b = refl
      either false b = refl

  module _ (r g : ℕ) (t : Bool) where
    named : Bool → Bool → ℕ
    named o f = cond o 0 (cond (beq t f) (least_below (suc G.regions) (serves_by G (rank_at ranks) (at r g t))) 0)

    pub over-unnamed : (eqb r g || eqb r goal) ≡ true → 0 ≡ (verdict_by G (rank_at ranks) (at r g t)).region
    unfolding verdict_by named
    over-unnamed h = sym (ap (λ o. named o (is_found G (rank_at ranks) (at r g t))) (over_is r g t ∙ h))

    -- the winner is not to move
    pub idle-unnamed : (f : Bool) → ltb 0 (rank_at ranks (at r g t)) ≡ f → beq t f ≡ false → 0 ≡ (verdict_by G (rank_at ranks) (at r g t)).region
    unfolding verdict_by named is_found
    idle-unnamed f e h = sym (ap (named (is_over G (at r g t))) e ∙ ap (λ b. cond (is_over G (at r g t)) 0 (cond b (least_below (suc G.regions) (serves_by G (rank_at ranks) (at r g t))) 0)) h ∙ nothing (is_over G (at r g t)))
      where
        nothing : (o : Bool) → cond {A = ℕ} o 0 0 ≡ 0
        nothing true = refl
        nothing false = refl

    pub region-named : (f : Bool) → (eqb r g || eqb r goal) ≡ false → ltb 0 (rank_at ranks (at r g t)) ≡ f → beq t f ≡ true
        → least_below (suc regions) (serves_by G (rank_at ranks) (at r g t)) ≡ (verdict_by G (rank_at ranks) (at r g t)).region
    unfolding verdict_by named is_found
    region-named f o e h =
        sym
        ((λ i. named ((over_is r g t ∙ o) i) (e i)) ∙ (λ i. cond (h i) (least_below (suc (P.regions_are i)) (serves_by G (rank_at ranks) (at r g t))) 0))

  -- ---- by the code's tests

  module _ (r g : ℕ) (side winner : Side) (e : is_runner winner ≡ ltb 0 (rank_at ranks (at r g (is_runner side)))) where
    pub idle-told : beq (is_runner side) (is_runner winner) ≡ false → 0 ≡ (verdict_by G (rank_at ranks) (at r g (is_runner side))).region
    idle-told h = idle-unnamed r g (is_runner side) (is_runner winner) (sym e) h

    pub region-told : (eqb r g || eqb r goal) ≡ false → beq (is_runner side) (is_runner winner) ≡ true
        → least_below (suc regions) (serves_by G (rank_at ranks) (at r g (is_runner side))) ≡ (verdict_by G (rank_at ranks) (at r g (is_runner side))).region
    region-told o h = region-named r g (is_runner side) (is_runner winner) o (sym e) h

  pub verdict-told : (r g : ℕ) (t : Bool) (winner : Side) (rank moves region : ℕ) → rank ≡ rank_at ranks (at r g t) → is_runner winner ≡ ltb 0 rank → moves ≡ rank - 1
      → region ≡ (verdict_by G (rank_at ranks) (at r g t)).region → (winner_number winner ∷ moves ∷ region ∷ []) ≡ numbers_of (verdict_by G (rank_at ranks) (at r g t))
  unfolding verdict_by is_found
  verdict-told r g t winner rank moves region e w m h =
      (λ i. (number_by winner ∙ ap (λ b. cond b 1 2) w) i ∷ m i ∷ region ∷ []) ∙ (λ i. cond (ltb 0 (e i)) 1 2 ∷ (e i - 1) ∷ h i ∷ [])

-- ---- the least region that serves: what `find` gives, whatever the game of the steps

module _ (near ranks : List ℕ) (regions r g : ℕ) (t : Bool) (some : 1 ≤ regions) (G : Game) (goal : ℕ) (P : Plays near regions goal G) where
  serving : ℕ → Bool
  serving = serves_by G (rank_at ranks) (at r g t)

  first_serves : (d : ℕ) → ((e : ℕ) → 1 ≤ e → e < d → serving e ≡ false) → (e : ℕ) → e < d → serving e ≡ false
  unfolding serving
  first_serves d none zero h = none_served near regions goal G P ranks r g t
  first_serves d none (suc e) h = none (suc e) (omega arith) h

  this : (d : ℕ) → 1 ≤ d → suc (d - 1) ≡ d
  this d h = omega arith

  tested : (d : ℕ) {b : Bool} → 1 ≤ d → Served near ranks r g t (d - 1) b → serving d ≡ b
  unfolding serving
  tested d h s = ap serving (sym (this d h)) ∙ sym (s.is G regions goal P)

  pub least_found : (o : Option ℕ) → MatchOption o ((k : ℕ) → 1 ≤ k → k < regions → Served near ranks r g t (k - 1) false)
      (λ i. (1 ≤ i) × (i < regions) × Served near ranks r g t (i - 1) true × ((k : ℕ) → 1 ≤ k → k < i → Served near ranks r g t (k - 1) false))
      → unwrap_or o regions ≡ least_below (suc regions) (serves_by G (rank_at ranks) (at r g t))
  unfolding serving
  least_found None none = least_last regions regions serving refl (first_serves regions (λ e l h. tested e l (none e l h)))
  least_found (Some d) (low, l, e, none) = least_first (suc regions) d serving (omega arith) (tested d low e) (first_serves d (λ e l h. tested e l (none e l h)))

-- a region that is found is one of them
pub found-few : (near ranks : List ℕ) (regions r g : ℕ) (t : Bool) (o : Option ℕ) → regions ≤ 32 → MatchOption o ((k : ℕ) → 1 ≤ k → k < regions → Served near ranks r g t (k - 1) false)
    (λ i. (1 ≤ i) × (i < regions) × Served near ranks r g t (i - 1) true × ((k : ℕ) → 1 ≤ k → k < i → Served near ranks r g t (k - 1) false))
    → unwrap_or o regions ≤ 32
found-few near ranks regions r g t None few h = few
found-few near ranks regions r g t (Some i) few (low, l, q, none) = omega arith

-- ---- all verdicts

pub three-stored : (l : List ℕ) (k v w x : ℕ) → set (set (set l k v) (k + 1) w) (k + 2) x ≡ sets l k (v ∷ w ∷ x ∷ [])
three-stored l k v w x =
    let one : k + 1 ≡ suc k = omega arith in
    let two : k + 2 ≡ suc (suc k) = omega arith in
    (λ i. set (set (set l k v) (one i) w) (two i) x)

pub verdicts-length : (G : Game) (ranks : List ℕ) (n : ℕ) → length (verdicts_by G ranks n) ≡ 3 * n
unfolding verdicts_by gather
verdicts-length G ranks zero = refl
verdicts-length G ranks (suc n) =
    length-append (verdicts_by G ranks n) (numbers_of (verdict_by G (rank_at ranks) (place_at G.regions n))) ∙ ap (λ m. m + 3) (verdicts-length G ranks n) ∙ more
  where
    more : 3 * n + 3 ≡ 3 * suc n
    more = omega arith

pub record Putting (near : List ℕ) (regions goal : ℕ) (ranks verdicts₀ : List ℕ) (c : ℕ) (verdicts : List ℕ) : Type 0 where
  pub upto : c ≤ place_count regions
  pub long : length verdicts ≡ length verdicts₀
  pub is : (G : Game) → Plays near regions goal G → verdicts ≡ sets verdicts₀ 0 (verdicts_by G ranks c)

pub putting-starts : (near : List ℕ) (regions goal : ℕ) (ranks verdicts : List ℕ) → Putting near regions goal ranks verdicts 0 verdicts
unfolding verdicts_by gather
putting-starts near regions goal ranks verdicts = record { upto = omega arith; long = refl; is = λ G P. refl }

pub putting_more : (near : List ℕ) (regions goal : ℕ) (ranks verdicts₀ : List ℕ) (c : ℕ) (verdicts verdicts' numbers : List ℕ) → Putting near regions goal ranks verdicts₀ c verdicts → c < place_count regions
    → ((G : Game) → Plays near regions goal G → numbers ≡ numbers_of (verdict_by G (rank_at ranks) (at (c / 2 / regions) (c / 2 % regions) (eqb (c % 2) 0))))
    → verdicts' ≡ sets verdicts (3 * c) numbers → length verdicts' ≡ length verdicts → Putting near regions goal ranks verdicts₀ (c + 1) verdicts'
unfolding verdicts_by gather place_at
putting_more near regions goal ranks verdicts₀ c verdicts verdicts' numbers S h e f l =
    record {
      upto = omega arith;
      long = l ∙ S.long;
      is =
          λ G P.
          f ∙ (λ i. sets (S.is G P i) (place G i) (e G P i))
          ∙ ap (λ n. sets (sets verdicts₀ 0 (verdicts_by G ranks c)) (0 + length (verdicts_by G ranks c)) (numbers_of (verdict_by G (rank_at ranks) (place_at n c)))) (sym P.regions_are)
          ∙ sym (sets_append verdicts₀ 0 (verdicts_by G ranks c) (numbers_of (verdict_by G (rank_at ranks) (place_at G.regions c))))
          ∙ ap (λ n. sets verdicts₀ 0 (verdicts_by G ranks n)) next;
    }
  where
    place : (G : Game) → 3 * c ≡ 0 + length (verdicts_by G ranks c)
    place G = omega (arith, verdicts-length G ranks c)

    next : suc c ≡ c + 1
    next = omega arith

pub putting-ends : (near : List ℕ) (regions goal : ℕ) (ranks verdicts₀ : List ℕ) (c : ℕ) (verdicts : List ℕ) → Putting near regions goal ranks verdicts₀ c verdicts → place_count regions ≤ c
    → (G : Game) → Plays near regions goal G → verdicts ≡ sets verdicts₀ 0 (verdicts_by G ranks (place_count regions))
putting-ends near regions goal ranks verdicts₀ c verdicts S h G P = S.is G P ∙ ap (λ n. sets verdicts₀ 0 (verdicts_by G ranks n)) whole
  where
    whole : c ≡ place_count regions
    whole = omega (arith, S.upto)

-- the regions of a place's number
pub place-parts : (regions c : ℕ) → c < place_count regions → (c / 2 / regions < regions) × (c / 2 % regions < regions)
place-parts regions c h = ((div-lt_iff_lt-mul some).1 half, mod-lt (c / 2) some)
  where
    half : c / 2 < regions * regions
    half = omega arith

    some : 0 < regions
    some = positive regions h
      where
        positive : (n : ℕ) → c < place_count n → 0 < n
        positive zero l = absurd (omega arith)
        positive (suc n) l = omega arith

pub square-few : (regions : ℕ) → regions ≤ 32 → regions * regions ≤ 1024
square-few regions h = grid
  where
    grid : regions * regions ≤ 32 * 32
    grid = mul-le-mul h h

pub places-few : (regions : ℕ) → regions ≤ 32 → place_count regions ≤ 2048
places-few regions h = omega (arith, square-few regions h)

-- ---- a graph's verdicts

-- from ranks that are the game's, the verdicts are
pub verdicts-are : (G : Game) (ranks : List ℕ) → Ranked G ranks → 1 ≤ G.regions → (n : ℕ) → n ≤ place_count G.regions → verdicts_by G ranks n ≡ verdict_numbers G n
unfolding verdicts_by verdict_numbers gather place_at
verdicts-are G ranks R some zero h = refl
verdicts-are G ranks R some (suc n) h = ap₂ ◌++◌ (verdicts-are G ranks R some n (omega arith)) (ap numbers_of (verdict_by_lem G (rank_at ranks) R (place_at G.regions n) inside))
  where
    inside : Inside G (place_at G.regions n)
    inside =
        let p = place-parts G.regions n (omega arith) in
        record { runner_in = region (n / 2 / G.regions) p.0; guard_in = region (n / 2 % G.regions) p.1 }
      where
        region : (d : ℕ) → d < G.regions → is_region G.regions (suc d) ≡ true
        region d l = ap₂ ◌&&◌ (le-leb 1 (suc d) (omega arith)) (le-leb (suc d) G.regions (omega arith))

pub solved : (G : Game) (near ranks old v : List ℕ) (regions goal : ℕ) → regions ≤ 32 → goal < regions → 6144 ≤ length old → Plays near regions goal G
    → ((G : Game) → Plays near regions goal G → Ranked G ranks)
    → ((G : Game) → Plays near regions goal G → v ≡ sets old 0 (verdicts_by G ranks (place_count regions)))
    → v ≡ overwrite (verdict_numbers G (place_count regions)) old
solved G near ranks old v regions goal few h room P r e =
    e G P
    ∙ ap (λ l. sets old 0 l) (verdicts-are G ranks (r G P) (omega (arith, P.regions_are, h)) (place_count regions) (subst (λ n. place_count regions ≤ place_count n) (sym P.regions_are) (le_refl (place_count regions))))
    ∙ sets_overwrite old (verdict_numbers G (place_count regions)) (omega (arith, numbers-length G (place_count regions), places-few regions few))
