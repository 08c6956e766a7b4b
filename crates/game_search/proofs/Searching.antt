-- The loop of the search. Its invariant (`Searched`): after k sweeps the sets have just the places found so far, which are won within k - 1 moves, and each of
-- these has one more than its fewest moves as its rank. Where a sweep changes no set, nothing is found ever after; and after as many sweeps as the search has,
-- nothing either. Assumes nothing.
use Prim.Native.Nat.{ℕ, zero, suc, ◌+◌, ◌-◌, ◌*◌, ◌/◌, ◌%◌, ◌≤◌, ◌<◌}
use native.Mathlib.Omega.{arith}
use native.Mathlib.Nat.{mul-le-mul}
use mathlib.Core.Path.{◌≡◌, refl, sym, ap, ◌∙◌, subst}
use mathlib.Core.Bool.{Bool, true, false, not, ◌&&◌, ◌||◌, cond, false≢true}
use mathlib.Core.List.{List}
use lib.ListN.{length, get_or, replicate, get_or-replicate, length-replicate}
use lib.Dec.{eqb, leb}
use borrow.Author.Tests.{eq-eqb, ne_eqb, leb-true}
use Rattle.definitions.specs.RegionRecord.{has_bit}
use Rattle.laws.specs.ListLaws.Tests.{both, same_test}
use Rattle.laws.specs.ListLaws.Below.{below_none}
use Rattle.game.specs.Game.{Game, Place, mover, is_captured, is_region, is_move, runner_has_won, is_over, Inside}
use Rattle.game.specs.Search.{some_move, every_move, sweep, wins_within, sweeps, runner_wins, fewest}
use Rattle.game.proofs.Sweeps.{won_uncaptured, move_in, stays, sweep-over, sweep-won, sweep-runner, sweep-guard, every_at}
use Rattle.game.proofs.Settled.{wins_more, wins-le, over-wins, found_by_then}
use Rattle.game.specs.RankLaws.{rank_of}
use Rattle.game.proofs.RankLaws.{sweep_same, fewest-new, fewest_none}
use Rattle.game_sets.specs.Words.{bit_at, Plays}
use Rattle.game_search.specs.Words.{Swept, rank_place, rank_at, set_for, ranked_by, Ranked, at}
use Rattle.game_sets.proofs.Rows.{zero_bit}
use Rattle.game_search.proofs.Sweeps.{place_in, runner_bit_is, guard_bit_is}

module _ (G : Game) where
  -- won within fewer than k moves
  unfoldable pub won_before : ℕ → Place → Bool
  unfolding wins_within
  won_before zero x = false
  won_before (suc k) x = wins_within G k x

  -- the first sweep, from nothing, finds what is won already
  first_sweep : (x : Place) → Inside G x → runner_has_won G x ≡ sweep G (won_before zero) x
  unfolding some_move every_move won_before
  first_sweep x i = go (is_over G x) refl x.runners_turn refl
    where
      unwon : is_over G x ≡ false → runner_has_won G x ≡ false
      unwon o = Rattle.game.proofs.Sweeps.unfinished G x o

      go : (o : Bool) → is_over G x ≡ o → (t : Bool) → x.runners_turn ≡ t → runner_has_won G x ≡ sweep G (won_before zero) x
      go true o t r = sym (sweep-over G (won_before zero) x o)
      go false o true r = unwon o ∙ sym (sweep-runner G (won_before zero) x o r ∙ below_none (suc G.regions) (λ d. is_move G x d && false) (λ d l. never (is_move G x d)))
        where
          never : (b : Bool) → (b && false) ≡ false
          never true = refl
          never false = refl
      go false o false r = unwon o ∙ sym (sweep-guard G (won_before zero) x o r ∙ lost (every_move G (won_before zero) x) refl)
        where
          lost : (b : Bool) → every_move G (won_before zero) x ≡ b → every_move G (won_before zero) x ≡ false
          lost true h = absurd (false≢true (every_at G (won_before zero) x h (mover x) (move_in G x (mover x) i (stays G x)) (stays G x)))
          lost false h = h

  pub won_next : (k : ℕ) (x : Place) → Inside G x → won_before (suc k) x ≡ sweep G (won_before k) x
  unfolding won_before wins_within
  won_next zero x i = first_sweep x i
  won_next (suc k) x i = refl

  won_more : (k : ℕ) (x : Place) → won_before k x ≡ true → won_before (suc k) x ≡ true
  unfolding won_before
  won_more zero x h = absurd (false≢true h)
  won_more (suc k) x h = wins_more G k x h

  pub caught : (k r : ℕ) (t : Bool) → won_before k (at r r t) ≡ false
  unfolding won_before is_over is_captured
  caught zero r t = refl
  caught (suc k) r t = over-wins G k (at r r t) over ∙ unwon (runner_has_won G (at r r t)) refl
    where
      same : is_captured (at r r t) ≡ true
      same = eq-eqb (suc r) (suc r) refl

      over : is_over G (at r r t) ≡ true
      over = ap (λ b. b || runner_has_won G (at r r t)) same

      unwon : (b : Bool) → runner_has_won G (at r r t) ≡ b → runner_has_won G (at r r t) ≡ false
      unwon true w = absurd (false≢true (sym (won_uncaptured G (at r r t) w) ∙ same))
      unwon false w = w

  -- found by sweep k and not before: k moves
  fewest_is : (k : ℕ) (x : Place) → Inside G x → won_before k x ≡ false → won_before (suc k) x ≡ true → fewest G x ≡ k
  unfolding won_before wins_within
  fewest_is zero x i n h = fewest_none G x i h
  fewest_is (suc k) x i n h = fewest-new G k x i n h

  -- ---- the end

  -- nothing new after k: nothing new ever after
  still : (k : ℕ) → ((x : Place) → Inside G x → won_before (suc k) x ≡ won_before k x) → (j : ℕ) (x : Place) → Inside G x → won_before (j + k) x ≡ won_before k x
  still k s zero x i = ap (λ n. won_before n x) none
    where
      none : 0 + k ≡ k
      none = omega arith
  still k s (suc j) x i =
      ap (λ n. won_before n x) next ∙ won_next (j + k) x i ∙ sweep_same G (won_before (j + k)) (won_before k) (still k s j) x i ∙ sym (won_next k x i) ∙ s x i
    where
      next : suc j + k ≡ suc (j + k)
      next = omega arith

  won-found : (k : ℕ) (x : Place) → Inside G x → won_before k x ≡ true → runner_wins G x ≡ true
  unfolding won_before runner_wins
  won-found zero x i h = absurd (false≢true h)
  won-found (suc k) x i h = found_by_then G k x i h

  found-won : (k : ℕ) (x : Place) → suc (sweeps G) ≤ k → runner_wins G x ≡ true → won_before k x ≡ true
  unfolding won_before runner_wins
  found-won zero x l h = absurd (omega arith)
  found-won (suc k) x l h = wins-le G (sweeps G) k x (omega arith) h

  -- all is found: after as many sweeps as the search has, or where one finds nothing
  pub all_found : (k : ℕ) → suc (sweeps G) ≤ k → (x : Place) → Inside G x → won_before k x ≡ runner_wins G x
  all_found k l x i = same_test (won-found k x i) (found-won k x l)

  pub still-found : (k : ℕ) → ((x : Place) → Inside G x → won_before (suc k) x ≡ won_before k x) → (x : Place) → Inside G x → won_before k x ≡ runner_wins G x
  still-found k s x i = sym (still k s (suc (sweeps G)) x i) ∙ all_found (suc (sweeps G) + k) (omega arith) x i

  pub enough : G.regions ≤ 32 → suc (sweeps G) ≤ 2180
  unfolding sweeps
  enough h = omega (arith, grid)
    where
      side : suc G.regions ≤ 33
      side = omega arith

      grid : suc G.regions * suc G.regions ≤ 33 * 33
      grid = mul-le-mul side side

-- ---- the invariant

pub record Found (G : Game) (regions k : ℕ) (runner guard ranks : List ℕ) : Type 0 where
  pub runners : (r g : ℕ) → r < regions → g < regions → bit_at runner g r ≡ won_before G k (at r g true)
  pub guards : (r g : ℕ) → r < regions → g < regions → bit_at guard g r ≡ won_before G k (at r g false)
  pub ranked : (r g : ℕ) (t : Bool) → r < regions → g < regions → get_or ranks (rank_place r g t) 0 ≡ cond (won_before G k (at r g t)) (suc (fewest G (at r g t))) 0

-- for every game of the steps
abbrev pub Searched : List ℕ → ℕ → ℕ → ℕ → List ℕ → List ℕ → List ℕ → Type 0
Searched near regions goal k runner guard ranks = (G : Game) → Plays near regions goal G → Found G regions k runner guard ranks

pub searched_none : (near : List ℕ) (regions goal : ℕ) → regions ≤ 32 → Searched near regions goal 0 (replicate 32 0) (replicate 32 0) (replicate 2048 0)
unfolding won_before
searched_none near regions goal few G P =
    record {
      runners = λ r g h k. empty r g h k;
      guards = λ r g h k. empty r g h k;
      ranked = λ r g t h k. get_or-replicate 2048 (rank_place r g t) 0 0 (below r g t h k);
    }
  where
    empty : (r g : ℕ) → r < regions → g < regions → bit_at (replicate 32 0) g r ≡ false
    empty r g h k = ap (λ n. has_bit n r) (get_or-replicate 32 g 0 0 (omega arith)) ∙ zero_bit r (omega arith)

    below : (r g : ℕ) (t : Bool) → r < regions → g < regions → rank_place r g t < 2048
    below r g true h k = omega arith
    below r g false h k = omega arith

module _ (near : List ℕ) (regions goal : ℕ) (few : regions ≤ 32) (G : Game) (P : Plays near regions goal G) where
  -- a place in its set, of sets that have the places won within fewer than m moves
  set_is : (m : ℕ) (runners guards : List ℕ) → ((r g : ℕ) → r < regions → g < regions → bit_at runners g r ≡ won_before G m (at r g true))
      → ((r g : ℕ) → r < regions → g < regions → bit_at guards g r ≡ won_before G m (at r g false))
      → (r g : ℕ) (t : Bool) → r < regions → g < regions → has_bit (set_for runners guards (rank_place r g t)) (rank_place r g t / 64) ≡ won_before G m (at r g t)
  set_is m runners guards e f r g true h l =
      (λ i. has_bit (cond (even i) (get_or runners (row i) 0) (get_or guards (row i) 0)) (column i)) ∙ e r g h l
    where
      even : eqb ((64 * r + 2 * g + 0) % 2) 0 ≡ true
      even = eq-eqb ((64 * r + 2 * g + 0) % 2) 0 (omega arith)

      row : (64 * r + 2 * g + 0) % 64 / 2 ≡ g
      row = omega arith

      column : (64 * r + 2 * g + 0) / 64 ≡ r
      column = omega arith
  set_is m runners guards e f r g false h l =
      (λ i. has_bit (cond (odd i) (get_or runners (row i) 0) (get_or guards (row i) 0)) (column i)) ∙ f r g h l
    where
      odd : eqb ((64 * r + 2 * g + 1) % 2) 0 ≡ false
      odd = ne_eqb ((64 * r + 2 * g + 1) % 2) 0 (λ q. never q)
        where
          never : (64 * r + 2 * g + 1) % 2 ≡ 0 → ⊥
          never q = omega arith

      row : (64 * r + 2 * g + 1) % 64 / 2 ≡ g
      row = omega arith

      column : (64 * r + 2 * g + 1) / 64 ≡ r
      column = omega arith

  -- the sets after a sweep
  module _ {k : ℕ} {runner guard ranks runners guards : List ℕ} (F : Found G regions k runner guard ranks) (S : Swept near regions goal runner guard runners guards) where
    runners_next : (r g : ℕ) → r < regions → g < regions → bit_at runners g r ≡ won_before G (suc k) (at r g true)
    runners_next r g h l =
        S.runners g r l h ∙ runner_bit_is near regions goal G P few (won_before G k) (get_or guard g 0) g r (λ d m. F.guards d g m l) h
        ∙ sym (won_next G k (at r g true) (place_in near regions goal G P few r g true h l))

    guards_next : (r g : ℕ) → r < regions → g < regions → bit_at guards g r ≡ won_before G (suc k) (at r g false)
    guards_next r g h l =
        S.guards g r l h ∙ guard_bit_is near regions goal G P few (won_before G k) runner g r (λ d m e n. F.runners e d n m) (caught G k g true) l h
        ∙ sym (won_next G k (at r g false) (place_in near regions goal G P few r g false h l))

    below : (r g : ℕ) (t : Bool) → r < regions → g < regions → rank_place r g t < 2048
    below r g true h l = omega arith
    below r g false h l = omega arith

    ranked_next : (ranks' : List ℕ) → ((i : ℕ) → i < 2048 → get_or ranks' i 0 ≡ ranked_by runner guard runners guards (suc k) ranks i)
        → (r g : ℕ) (t : Bool) → r < regions → g < regions → get_or ranks' (rank_place r g t) 0 ≡ cond (won_before G (suc k) (at r g t)) (suc (fewest G (at r g t))) 0
    ranked_next ranks' e r g t h l =
        e (rank_place r g t) (below r g t h l)
        ∙ (λ i. cond (is i && not (was i)) (suc k) (F.ranked r g t h l i))
        ∙ go (won_before G k (at r g t)) refl (won_before G (suc k) (at r g t)) refl
      where
        was : has_bit (set_for runner guard (rank_place r g t)) (rank_place r g t / 64) ≡ won_before G k (at r g t)
        was = set_is k runner guard F.runners F.guards r g t h l

        is : has_bit (set_for runners guards (rank_place r g t)) (rank_place r g t / 64) ≡ won_before G (suc k) (at r g t)
        is = set_is (suc k) runners guards runners_next guards_next r g t h l

        go : (a : Bool) → won_before G k (at r g t) ≡ a → (b : Bool) → won_before G (suc k) (at r g t) ≡ b
            → cond (b && not a) (suc k) (cond a (suc (fewest G (at r g t))) 0) ≡ cond b (suc (fewest G (at r g t))) 0
        go true p true q = refl
        go true p false q = absurd (false≢true (sym q ∙ won_more G k (at r g t) p))
        go false p true q = ap suc (sym (fewest_is G k (at r g t) (place_in near regions goal G P few r g t h l) p q))
        go false p false q = refl

    pub found_next : (ranks' : List ℕ) → ((i : ℕ) → i < 2048 → get_or ranks' i 0 ≡ ranked_by runner guard runners guards (suc k) ranks i) → Found G regions (suc k) runners guards ranks'
    found_next ranks' e = record { runners = runners_next; guards = guards_next; ranked = ranked_next ranks' e }

  -- ---- the ranks at the end

  -- a place of the graph, from 0
  place-back : (x : Place) → Inside G x → (x ≡ at (x.runner - 1) (x.guard - 1) x.runners_turn) × (x.runner - 1 < regions) × (x.guard - 1 < regions)
  place-back x i =
      ((λ j. record { runner = back x.runner i.runner_in j; guard = back x.guard i.guard_in j; runners_turn = x.runners_turn }), less x.runner i.runner_in, less x.guard i.guard_in)
    where
      parts : (d : ℕ) → is_region G.regions d ≡ true → (1 ≤ d) × (d ≤ G.regions)
      parts d h = (leb-true 1 d (both (leb 1 d) (leb d G.regions) h).0, leb-true d G.regions (both (leb 1 d) (leb d G.regions) h).1)

      back : (d : ℕ) → is_region G.regions d ≡ true → d ≡ suc (d - 1)
      back d h = omega (arith, (parts d h).0)

      less : (d : ℕ) → is_region G.regions d ≡ true → d - 1 < regions
      less d h = omega (arith, (parts d h).0, (parts d h).1, P.regions_are)

  -- for every place, from those by number
  everywhere : (Q : Place → Type 0) → ((r g : ℕ) (t : Bool) → r < regions → g < regions → Q (at r g t)) → (x : Place) → Inside G x → Q x
  everywhere Q h x i =
      let b = place-back x i in
      subst Q (sym b.0) (h (x.runner - 1) (x.guard - 1) x.runners_turn b.1 b.2)

  module _ {k : ℕ} {runner guard ranks : List ℕ} (F : Found G regions k runner guard ranks) where
    ranks-told : ((x : Place) → Inside G x → won_before G k x ≡ runner_wins G x) → Ranked G ranks
    unfolding rank_of
    ranks-told e = everywhere (λ x. rank_at ranks x ≡ rank_of G x) (λ r g t h l. back r g t ∙ F.ranked r g t h l ∙ ap (λ b. cond b (suc (fewest G (at r g t))) 0) (e (at r g t) (place_in near regions goal G P few r g t h l)))
      where
        back : (r g : ℕ) (t : Bool) → rank_at ranks (at r g t) ≡ get_or ranks (rank_place r g t) 0
        back r g t = λ i. get_or ranks (rank_place (one r i) (one g i) t) 0
          where
            one : (n : ℕ) → suc n - 1 ≡ n
            one n = omega arith

    pub ranks-after-all : 2180 ≤ k → Ranked G ranks
    ranks-after-all l = ranks-told (all_found G k (omega (arith, enough G (subst (λ n. n ≤ 32) (sym P.regions_are) few))))

    -- a sweep that changed no set
    pub ranks-still : {runners guards : List ℕ} → Swept near regions goal runner guard runners guards → ((i : ℕ) → i < 32 → get_or runners i 0 ≡ get_or runner i 0) → ((i : ℕ) → i < 32 → get_or guards i 0 ≡ get_or guard i 0) → Ranked G ranks
    ranks-still {runners} {guards} S a b = ranks-told (still-found G k (everywhere (λ x. won_before G (suc k) x ≡ won_before G k x) same))
      where
        same : (r g : ℕ) (t : Bool) → r < regions → g < regions → won_before G (suc k) (at r g t) ≡ won_before G k (at r g t)
        same r g true h l = sym (runners_next F S r g h l) ∙ ap (λ n. has_bit n r) (a g (omega arith)) ∙ F.runners r g h l
        same r g false h l = sym (guards_next F S r g h l) ∙ ap (λ n. has_bit n r) (b g (omega arith)) ∙ F.guards r g h l

-- ---- the loop's invariant, with the lengths of what it writes

pub record Searching (near : List ℕ) (regions goal k : ℕ) (runner guard ranks : List ℕ) : Type 0 where
  pub upto : k ≤ 2180
  pub runner_long : length runner ≡ 32
  pub guard_long : length guard ≡ 32
  pub long : length ranks ≡ 2048
  pub found : Searched near regions goal k runner guard ranks

pub searching_starts : (near : List ℕ) (regions goal : ℕ) (ranks : List ℕ) → regions ≤ 32 → ranks ≡ replicate 2048 0 → Searching near regions goal 0 (replicate 32 0) (replicate 32 0) ranks
searching_starts near regions goal ranks few e =
    record {
      upto = omega arith;
      runner_long = length-replicate {A = ℕ} 32 0;
      guard_long = length-replicate {A = ℕ} 32 0;
      long = ap length e ∙ length-replicate {A = ℕ} 2048 0;
      found = subst (λ l. Searched near regions goal 0 (replicate 32 0) (replicate 32 0) l) (sym e) (searched_none near regions goal few);
    }

pub searching_more : (near : List ℕ) (regions goal k : ℕ) (runner guard ranks runners guards ranks' : List ℕ) → regions ≤ 32 → Searching near regions goal k runner guard ranks → k < 2180
    → Swept near regions goal runner guard runners guards → length runners ≡ 32 → length guards ≡ 32
    → ((i : ℕ) → i < 2048 → get_or ranks' i 0 ≡ ranked_by runner guard runners guards (k + 1) ranks i) → length ranks' ≡ 2048 → Searching near regions goal (k + 1) runners guards ranks'
searching_more near regions goal k runner guard ranks runners guards ranks' few S h w a b e l =
    record {
      upto = omega arith;
      runner_long = a;
      guard_long = b;
      long = l;
      found =
          λ G P.
          subst (λ n. Found G regions n runners guards ranks') next
          (found_next near regions goal few G P (S.found G P) w ranks' (λ i m. e i m ∙ ap (λ n. ranked_by runner guard runners guards n ranks i) (sym next)));
    }
  where
    next : suc k ≡ k + 1
    next = omega arith

pub searching_still : (near : List ℕ) (regions goal k : ℕ) (runner guard ranks runners guards : List ℕ) → regions ≤ 32 → Searching near regions goal k runner guard ranks
    → Swept near regions goal runner guard runners guards → runners ≡ runner → guards ≡ guard → (G : Game) → Plays near regions goal G → Ranked G ranks
searching_still near regions goal k runner guard ranks runners guards few S w e f G P =
    ranks-still near regions goal few G P (S.found G P) w (λ i l. ap (λ s. get_or s i 0) e) (λ i l. ap (λ s. get_or s i 0) f)

pub searching_ends : (near : List ℕ) (regions goal k : ℕ) (runner guard ranks : List ℕ) → regions ≤ 32 → Searching near regions goal k runner guard ranks → 2180 ≤ k
    → (G : Game) → Plays near regions goal G → Ranked G ranks
searching_ends near regions goal k runner guard ranks few S h G P = ranks-after-all near regions goal few G P (S.found G P) h
