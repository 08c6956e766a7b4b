-- Scans below n, and lists: scans that agree at each place are equal; a scan for one place; what is picked by a test, by place; and what is true of every
-- element of a list made by a scan. Assumes nothing.
use Prim.Native.Nat.{ℕ, zero, suc, ◌+◌, ◌≤◌, ◌<◌}
use Rattle.std.proofs.Common.{arith, ◌∙◌, ltb-true, ltb-false, eqb-true, ne_eqb}
use Rattle.std.specs.Prelude.{◌≡◌, Bool, ◌&&◌, eqb, ltb, Option}
use Rattle.std.proofs.Math.Path.{refl, sym, ap, ap₂}
use Rattle.std.proofs.Math.Bool.{true, false, ◌||◌, cond, or-false}
use mathlib.Core.List.{List, [], ◌∷◌, ◌++◌, map}
use Rattle.std.proofs.Math.ListN.{length, get_or, length-append, get_or-append}
use Rattle.std.proofs.lemmas.List.{get_or_at}
use Rattle.std.proofs.Math.Arith.{lt_of_le-ne}
use Rattle.std.proofs.lemmas.Bool.{eqb-false}
use Rattle.definitions.specs.Scan.{any_below_lem, count_below, bit, collect, gather, to_list, only_if, run, any, filter}
use Rattle.laws.specs.ListLaws.Lists.{All, done, more, filter-append, filter_in, filter-out, any_append, map-append}
use Rattle.laws.specs.ListLaws.Below.{below_none}
use Rattle.laws.specs.OrderLaws.Ranks.{rank_lt}

-- ---- scans that agree at each place

module _ {A : Type 0} where
  pub collect_ext : (n : ℕ) (f g : ℕ → Option A) → ((c : ℕ) → c < n → f c ≡ g c) → collect n f ≡ collect n g
  unfolding collect
  collect_ext zero f g h = refl
  collect_ext (suc n) f g h = ap₂ (λ l o. l ++ to_list o) (collect_ext n f g (λ c l. h c (omega arith))) (h n (omega arith))

  run_ext : (f g : ℕ → A) (s n : ℕ) → ((c : ℕ) → s ≤ c → c < s + n → f c ≡ g c) → map f (run s n) ≡ map g (run s n)
  unfolding run
  run_ext f g s zero h = refl
  run_ext f g s (suc n) h = ap₂ {C = List A} (λ x l. x ∷ l) (h s (omega arith) (omega arith)) (run_ext f g (suc s) n (λ c a b. h c (omega arith) (omega arith)))

  pub tab_ext : (f g : ℕ → A) (n : ℕ) → ((c : ℕ) → c < n → f c ≡ g c) → map f (run 0 n) ≡ map g (run 0 n)
  tab_ext f g n h = run_ext f g 0 n (λ c a b. h c (omega arith))

-- ---- a test at one place

below_or : (p q f : ℕ → Bool) (n : ℕ) → any_below_lem n (λ c. (p c || q c) && f c) ≡ (any_below_lem n (λ c. p c && f c) || any_below_lem n (λ c. q c && f c))
unfolding any_below_lem
below_or p q f zero = refl
below_or p q f (suc n) =
    ap (λ b. b || ((p n || q n) && f n)) (below_or p q f n) ∙ mix (any_below_lem n (λ c. p c && f c)) (any_below_lem n (λ c. q c && f c)) (p n) (q n) (f n)
  where
    mix : (a b x y z : Bool) → ((a || b) || ((x || y) && z)) ≡ ((a || (x && z)) || (b || (y && z)))
    mix true b x y z = refl
    mix false true true y true = refl
    mix false true true y false = refl
    mix false true false y z = refl
    mix false false true true true = refl
    mix false false true true false = refl
    mix false false true false true = refl
    mix false false true false false = refl
    mix false false false y z = refl

below_one : (a : ℕ) (f : ℕ → Bool) (n : ℕ) → (n ≤ a → f a ≡ false) → any_below_lem n (λ c. eqb c a && f c) ≡ f a
unfolding any_below_lem
below_one a f zero o = sym (o (omega arith))
below_one a f (suc n) o = go (eqb n a) refl (λ e. below_one a f n e)
  where
    go : (b : Bool) → eqb n a ≡ b → ((n ≤ a → f a ≡ false) → any_below_lem n (λ c. eqb c a && f c) ≡ f a) → (any_below_lem n (λ c. eqb c a && f c) || (b && f n)) ≡ f a
    go true e ih = ap (λ b. b || f n) (below_none n _ (λ c l. ap (λ b. b && f c) (ne_eqb c a (λ q. omega (arith, eqb-true n a e))))) ∙ ap f (eqb-true n a e)
    go false e ih = or-false (any_below_lem n (λ c. eqb c a && f c)) ∙ ih (λ l. o (lt_of_le-ne l (eqb-false n a e)))

-- A test of a list's elements is a scan below n for one that is in the list, if it fails from n on.
pub any_below : (f : ℕ → Bool) (n : ℕ) (xs : List ℕ) → ((a : ℕ) → n ≤ a → f a ≡ false) → any f xs ≡ any_below_lem n (λ c. any (eqb c) xs && f c)
unfolding any
any_below f n [] o = sym (below_none n _ (λ c l. refl))
any_below f n (a ∷ xs) o = sym (below_or (λ c. eqb c a) (λ c. any (eqb c) xs) f n ∙ ap₂ ◌||◌ (below_one a f n (o a)) (sym (any_below f n xs o)))

-- ---- f at the numbers below n that pass p

module _ {A : Type 0} (p : ℕ → Bool) (f : ℕ → A) where
  abbrev pub picked : ℕ → List A
  picked n = collect n (λ i. only_if (p i) (f i))

  pub picked-length : (n : ℕ) → length (picked n) ≡ count_below n p
  unfolding collect count_below
  picked-length zero = refl
  picked-length (suc n) = length-append (picked n) (to_list (only_if (p n) (f n))) ∙ ap₂ ◌+◌ (picked-length n) (go (p n))
    where
      go : (b : Bool) → length (to_list (only_if b (f n))) ≡ bit b
      go true = refl
      go false = refl

  -- its place is how many pass before it
  pub picked_at : (d : A) (n i : ℕ) → i < n → p i ≡ true → get_or (picked n) (count_below i p) d ≡ f i
  unfolding collect
  picked_at d zero i h k = absurd (omega arith)
  picked_at d (suc n) i h k = go (ltb i n) refl (λ l. picked_at d n i l k)
    where
      here : (m : ℕ) → m ≡ i → get_or (picked m ++ to_list (only_if (p m) (f m))) (count_below i p) d ≡ f i
      here m e = rw (e, k) (get_or_at (picked i) (f i) [] d (count_below i p) (picked-length i))

      there : i < n → get_or (picked n) (count_below i p) d ≡ f i → get_or (picked n ++ to_list (only_if (p n) (f n))) (count_below i p) d ≡ f i
      there l ih = get_or-append (picked n) (to_list (only_if (p n) (f n))) d (count_below i p) (omega (arith, picked-length n, rank_lt p i n k l)) ∙ ih

      go : (b : Bool) → ltb i n ≡ b → (i < n → get_or (picked n) (count_below i p) d ≡ f i) → get_or (picked n ++ to_list (only_if (p n) (f n))) (count_below i p) d ≡ f i
      go true e ih = there (ltb-true i n e) (ih (ltb-true i n e))
      go false e ih = here n (omega (arith, ltb-false i n e))

  pub picked-map : {B : Type 0} (e : B → A) (g : ℕ → B) (n : ℕ) → ((i : ℕ) → i < n → f i ≡ e (g i)) → picked n ≡ map e (collect n (λ i. only_if (p i) (g i)))
  unfolding collect
  picked-map e g zero h = refl
  picked-map {B} e g (suc n) h =
      ap₂ ◌++◌ (picked-map e g n (λ i l. h i (omega arith))) (go (p n)) ∙ sym (map-append e (collect n (λ i. only_if (p i) (g i))) (to_list (only_if (p n) (g n))))
    where
      go : (b : Bool) → to_list (only_if b (f n)) ≡ map e (to_list (only_if b (g n)))
      go true = ap {B = List A} (λ x. x ∷ []) (h n (omega arith))
      go false = refl

  pub any-picked : (g : A → Bool) (n : ℕ) → any g (picked n) ≡ any_below_lem n (λ c. p c && g (f c))
  unfolding collect any any_below_lem
  any-picked g zero = refl
  any-picked g (suc n) = any_append g (picked n) (to_list (only_if (p n) (f n))) ∙ ap₂ ◌||◌ (any-picked g n) (go (p n))
    where
      go : (b : Bool) → any g (to_list (only_if b (f n))) ≡ (b && g (f n))
      go true = or-false (g (f n))
      go false = refl

-- ---- lists

module _ {A : Type 0} where
  pub all_every : {P : A → Type 0} → ((x : A) → P x) → (l : List A) → All P l
  all_every h [] = done
  all_every h (x ∷ l) = more (h x) (all_every h l)

  pub filter_ext : {f g : A → Bool} {l : List A} → All (λ x. f x ≡ g x) l → filter f l ≡ filter g l
  unfolding filter
  filter_ext done = refl
  filter_ext (more {x = x} h a) = ap₂ (λ b r. cond b (x ∷ r) r) h (filter_ext a)

  pub filter-gather : (f : A → Bool) (n : ℕ) (F G : ℕ → List A) → ((c : ℕ) → filter f (F c) ≡ G c) → filter f (gather n F) ≡ gather n G
  unfolding gather filter
  filter-gather f zero F G h = refl
  filter-gather f (suc n) F G h = filter-append f (gather n F) (F n) ∙ ap₂ ◌++◌ (filter-gather f n F G h) (h n)

  -- two filters change places, if the second says the same of what the first leaves
  pub filter-swap : (f g g' : A → Bool) (l : List A) → ((x : A) → f x ≡ true → g x ≡ g' x) → filter f (filter g l) ≡ filter g' (filter f l)
  unfolding filter
  filter-swap f g g' [] h = refl
  filter-swap f g g' (x ∷ l) h = go (f x) refl (g x) refl (filter-swap f g g' l h)
    where
      go : (b : Bool) → f x ≡ b → (c : Bool) → g x ≡ c → filter f (filter g l) ≡ filter g' (filter f l) → filter f (cond c (x ∷ filter g l) (filter g l)) ≡ filter g' (cond b (x ∷ filter f l) (filter f l))
      go true p true q ih = filter_in f x (filter g l) p ∙ ap {B = List A} (λ r. x ∷ r) ih ∙ sym (filter_in g' x (filter f l) (sym (h x p) ∙ q))
      go true p false q ih = ih ∙ sym (filter-out g' x (filter f l) (sym (h x p) ∙ q))
      go false p true q ih = filter-out f x (filter g l) p ∙ ih
      go false p false q ih = ih

module _ {A B : Type 0} where
  pub map_ext : {f g : A → B} {l : List A} → All (λ x. f x ≡ g x) l → map f l ≡ map g l
  map_ext done = refl
  map_ext (more h a) = ap₂ {C = List B} (λ x r. x ∷ r) h (map_ext a)
