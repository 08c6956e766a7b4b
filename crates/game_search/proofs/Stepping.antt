-- Edges joined one by one give the steps of their graph. A pair whose numbers are both regions joins regions only, so that asking the pair's numbers or the two
-- regions comes to the same. Assumes nothing.
use Prim.Native.Nat.{ℕ, zero, suc, ◌+◌, ◌*◌, ◌%◌, ◌^◌, ◌≤◌, ◌<◌}
use native.Mathlib.Omega.{arith}
use mathlib.Core.Path.{◌≡◌, refl, sym, ap, ◌∙◌}
use mathlib.Core.Bool.{Bool, true, false, ◌&&◌, ◌||◌, or-false}
use mathlib.Core.List.{List}
use lib.ListN.{length, set, length-set}
use lib.Seq.{get_or-set_same, get_or-set_other}
use lib.Dec.{eqb, leb}
use borrow.Author.Tests.{eqb-true, eqb-false, leb-true}
use Rattle.definitions.specs.Scan.{any_below_lem}
use Rattle.definitions.specs.RegionRecord.{has_bit}
use Rattle.laws.specs.ListLaws.Tests.{both, eqb_same}
use Rattle.laws.specs.ListLaws.Below.{below_ext}
use Rattle.game.specs.Game.{is_region, is_step}
use Rattle.game.specs.Graph.{joins}
use Rattle.game_search.specs.Edges.{graph_by}
use Rattle.game_sets.specs.Words.{bit_at, Near}
use Rattle.game_sets.proofs.Bits.{one_bit_is, shifted_one}

or_assoc : (a b c : Bool) → ((a || b) || c) ≡ (a || (b || c))
or_assoc true b c = refl
or_assoc false b c = refl

pub region-parts : (regions d : ℕ) → is_region regions d ≡ true → (1 ≤ d) × (d ≤ regions)
region-parts regions d h = (leb-true 1 d (both (leb 1 d) (leb d regions) h).0, leb-true d regions (both (leb 1 d) (leb d regions) h).1)

-- ---- all edges

-- the step that edge k adds
abbrev pub added : ℕ → (ℕ → ℕ) → (ℕ → ℕ) → ℕ → ℕ → ℕ → Bool
added regions p q i j k = is_region regions (p k) && is_region regions (q k) && joins (p k) (q k) (suc i) (suc j)

pub record Joined (regions n : ℕ) (p q : ℕ → ℕ) (k : ℕ) (near : List ℕ) : Type 0 where
  pub upto : k ≤ n
  pub bits : (i j : ℕ) → i < 32 → j < 32 → bit_at near i j ≡ (eqb j i || any_below_lem k (added regions p q i j))

pub joined_none : (regions n : ℕ) (p q : ℕ → ℕ) (near : List ℕ) → ((i j : ℕ) → i < 32 → j < 32 → bit_at near i j ≡ eqb j i) → Joined regions n p q 0 near
unfolding any_below_lem
joined_none regions n p q near h = record { upto = omega arith; bits = λ i j k m. h i j k m ∙ sym (or-false (eqb j i)) }

pub joined_more : (regions n : ℕ) (p q : ℕ → ℕ) (k : ℕ) (near near' : List ℕ) → Joined regions n p q k near → k < n
    → ((i j : ℕ) → i < 32 → j < 32 → bit_at near' i j ≡ (bit_at near i j || added regions p q i j k)) → Joined regions n p q (k + 1) near'
unfolding any_below_lem
joined_more regions n p q k near near' J h e =
    record {
      upto = omega arith;
      bits =
          λ i j a b.
          e i j a b ∙ ap (λ t. t || added regions p q i j k) (J.bits i j a b) ∙ or_assoc (eqb j i) (any_below_lem k (added regions p q i j)) (added regions p q i j k)
          ∙ ap (λ m. eqb j i || any_below_lem m (added regions p q i j)) next;
    }
  where
    next : suc k ≡ k + 1
    next = omega arith

-- where a pair joins a and b, its numbers are regions if they are
same_regions : (regions p q a b : ℕ) → (is_region regions p && is_region regions q && joins p q a b) ≡ ((is_region regions a && is_region regions b) && joins p q a b)
same_regions regions p q a b = go (eqb p a) refl (eqb q b) refl (eqb p b) refl (eqb q a) refl
  where
    nothing : (c : Bool) → false ≡ (c && false)
    nothing true = refl
    nothing false = refl

    none : (c d : Bool) → (c && d && false) ≡ ((is_region regions a && is_region regions b) && false)
    none true true = nothing (is_region regions a && is_region regions b)
    none true false = nothing (is_region regions a && is_region regions b)
    none false d = nothing (is_region regions a && is_region regions b)

    as_written : p ≡ a → q ≡ b → (is_region regions p && is_region regions q && true) ≡ ((is_region regions a && is_region regions b) && true)
    as_written e f = (λ i. is_region regions (e i) && is_region regions (f i) && true) ∙ assoc (is_region regions a) (is_region regions b)
      where
        assoc : (c d : Bool) → (c && d && true) ≡ ((c && d) && true)
        assoc true d = refl
        assoc false d = refl

    turned : p ≡ b → q ≡ a → (is_region regions p && is_region regions q && true) ≡ ((is_region regions a && is_region regions b) && true)
    turned e f = (λ i. is_region regions (e i) && is_region regions (f i) && true) ∙ assoc (is_region regions b) (is_region regions a)
      where
        assoc : (c d : Bool) → (c && d && true) ≡ ((d && c) && true)
        assoc true true = refl
        assoc true false = refl
        assoc false true = refl
        assoc false false = refl

    go : (s : Bool) → eqb p a ≡ s → (t : Bool) → eqb q b ≡ t → (u : Bool) → eqb p b ≡ u → (v : Bool) → eqb q a ≡ v
        → (is_region regions p && is_region regions q && ((s && t) || (u && v))) ≡ ((is_region regions a && is_region regions b) && ((s && t) || (u && v)))
    go true e true f u g v k = as_written (eqb-true p a e) (eqb-true q b f)
    go true e false f true g true k = turned (eqb-true p b g) (eqb-true q a k)
    go true e false f true g false k = none (is_region regions p) (is_region regions q)
    go true e false f false g v k = none (is_region regions p) (is_region regions q)
    go false e t f true g true k = turned (eqb-true p b g) (eqb-true q a k)
    go false e t f true g false k = none (is_region regions p) (is_region regions q)
    go false e t f false g v k = none (is_region regions p) (is_region regions q)

any_and : (n : ℕ) (c : Bool) (f : ℕ → Bool) → any_below_lem n (λ k. c && f k) ≡ (c && any_below_lem n f)
unfolding any_below_lem
any_and zero true f = refl
any_and zero false f = refl
any_and (suc n) true f = refl
any_and (suc n) false f = ap (λ t. t || false) (any_and n false f)

pub joined-near : (regions n : ℕ) (p q : ℕ → ℕ) (near : List ℕ) (k goal : ℕ) → Joined regions n p q k near → n ≤ k → Near (graph_by regions n p q goal) near
unfolding is_step graph_by
joined-near regions n p q near k goal J h i j a b =
    J.bits i j a b ∙ ap (λ m. eqb j i || any_below_lem m (added regions p q i j)) whole
    ∙ ap (λ t. eqb j i || t)
    (below_ext n (added regions p q i j) (λ m. (is_region regions (suc i) && is_region regions (suc j)) && joins (p m) (q m) (suc i) (suc j))
    (λ m l. same_regions regions (p m) (q m) (suc i) (suc j))
    ∙ any_and n (is_region regions (suc i) && is_region regions (suc j)) (λ m. joins (p m) (q m) (suc i) (suc j)))
    ∙ (λ m. same m || twice (is_region regions (suc i)) (is_region regions (suc j)) (any_below_lem n (λ m. joins (p m) (q m) (suc i) (suc j))) m)
  where
    whole : k ≡ n
    whole = omega (arith, J.upto)

    twice : (c d x : Bool) → ((c && d) && x) ≡ (d && (c && d && x))
    twice true true x = refl
    twice true false x = refl
    twice false true x = refl
    twice false false x = refl

    same : eqb j i ≡ eqb (suc j) (suc i)
    same = eqb_same j i (suc j) (suc i) ((λ e. ap suc e), (λ e. omega arith))

-- ---- staying

pub record Selves (i : ℕ) (near : List ℕ) : Type 0 where
  pub upto : i ≤ 32
  pub long : length near ≡ 32
  pub bits : (k j : ℕ) → k < i → j < 32 → bit_at near k j ≡ eqb j k

pub selves_more : (i : ℕ) (near : List ℕ) → Selves i near → i < 32 → Selves (i + 1) (set near i (1 * 2 ^ i % 4294967296))
selves_more i near S h =
    record {
      upto = omega arith;
      long = length-set near i (1 * 2 ^ i % 4294967296) ∙ S.long;
      bits = λ k j l m. go k j l m (eqb k i) refl;
    }
  where
    go : (k j : ℕ) → k < i + 1 → j < 32 → (b : Bool) → eqb k i ≡ b → bit_at (set near i (1 * 2 ^ i % 4294967296)) k j ≡ eqb j k
    go k j l m true e =
        let q = eqb-true k i e in
        ap (λ n. bit_at (set near i (1 * 2 ^ i % 4294967296)) n j) q ∙ ap (λ n. has_bit n j) (get_or-set_same near i (1 * 2 ^ i % 4294967296) 0 (omega (arith, S.long)) ∙ shifted_one i h)
        ∙ one_bit_is j i m h ∙ ap (eqb j) (sym q)
    go k j l m false e = ap (λ n. has_bit n j) (get_or-set_other near i k (1 * 2 ^ i % 4294967296) 0 (eqb-false k i e)) ∙ S.bits k j (omega (arith, eqb-false k i e)) m
