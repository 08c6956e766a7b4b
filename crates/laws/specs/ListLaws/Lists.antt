-- Lists: what holds of every element (`All`), and how filters, maps and scans go through one another. Assumes nothing.
use Prim.Native.Nat.{ℕ, zero, suc, ◌+◌, ◌≤◌, ◌<◌}
use Rattle.std.proofs.Common.{arith, add-zero, zero-add, ◌∙◌}
use Rattle.std.specs.Prelude.{◌≡◌, Bool, get_or}
use Rattle.std.proofs.Math.Path.{refl, sym, ap, ap₂}
use Rattle.std.proofs.Math.Bool.{true, false, ◌&&◌, ◌||◌, cond, or_assoc}
use mathlib.Core.List.{List, [], ◌∷◌, ◌++◌, map}
use Rattle.std.proofs.Math.ListN.{length, take}
use Rattle.std.proofs.Math.Seq.{length-take-le}
use Rattle.definitions.specs.Scan.{any, all, filter, gather, any_below_lem, run, bit}

pub data All {A : Type 0} (P : A → Type 0) : List A → Type 0 where
  done : All P []
  more : {x : A} {l : List A} → P x → All P l → All P (x ∷ l)

pub all_append : {A : Type 0} {P : A → Type 0} {l m : List A} → All P l → All P m → All P (l ++ m)
all_append done b = b
all_append (more h r) b = more h (all_append r b)

-- ---- filters

module _ {A : Type 0} (p : A → Bool) where
  pub filter_in : (x : A) (l : List A) → p x ≡ true → filter p (x ∷ l) ≡ x ∷ filter p l
  unfolding filter
  filter_in x l h = rw h

  pub filter-out : (x : A) (l : List A) → p x ≡ false → filter p (x ∷ l) ≡ filter p l
  unfolding filter
  filter-out x l h = rw h

  pub filter-append : (l m : List A) → filter p (l ++ m) ≡ filter p l ++ filter p m
  unfolding filter
  filter-append [] m = refl
  filter-append (x ∷ l) m = go (p x) (filter-append l m)
    where
      go : (b : Bool) → filter p (l ++ m) ≡ filter p l ++ filter p m → cond b (x ∷ filter p (l ++ m)) (filter p (l ++ m)) ≡ cond b (x ∷ filter p l) (filter p l) ++ filter p m
      go true ih = ap {B = List A} (λ r. x ∷ r) ih
      go false ih = ih

module _ {A : Type 0} where
  pub all_map : {P Q : A → Type 0} {l : List A} → ((x : A) → P x → Q x) → All P l → All Q l
  all_map f done = done
  all_map f (more {x = x} h a) = more (f x h) (all_map f a)

  -- how many of two a filter leaves
  pub filter_two : (f : A → Bool) (x y : A) → length (filter f (x ∷ y ∷ [])) ≡ bit (f x) + bit (f y)
  unfolding filter
  filter_two f x y = go (f x) (f y)
    where
      go : (a b : Bool) → length (cond a (x ∷ cond b (y ∷ []) []) (cond b (y ∷ []) [])) ≡ bit a + bit b
      go true true = refl
      go true false = refl
      go false true = refl
      go false false = refl

  pub all_both : {P Q : A → Type 0} {l : List A} → All P l → All Q l → All (λ x. P x × Q x) l
  all_both done b = done
  all_both (more h a) (more k b) = more (h, k) (all_both a b)

  pub all_split : {P : A → Type 0} (l : List A) {m : List A} → All P (l ++ m) → All P l × All P m
  all_split [] a = (done, a)
  all_split (x ∷ l) (more h a) =
      let r = all_split l a in
      (more h r.0, r.1)

  pub all_filter : {P : A → Type 0} (f : A → Bool) {l : List A} → All P l → All P (filter f l)
  unfolding filter
  all_filter f done = done
  all_filter {P} f (more {x = x} {l = l} h a) = go (f x) (all_filter f a)
    where
      go : (b : Bool) → All P (filter f l) → All P (cond b (x ∷ filter f l) (filter f l))
      go true r = more h r
      go false r = r

  pub filter_none : {P : A → Type 0} (f : A → Bool) {l : List A} → ((x : A) → P x → f x ≡ false) → All P l → filter f l ≡ []
  unfolding filter
  filter_none f h done = refl
  filter_none f h (more {x = x} k a) = rw (h x k) (filter_none f h a)

  pub any_append : (f : A → Bool) (l m : List A) → any f (l ++ m) ≡ (any f l || any f m)
  unfolding any
  any_append f [] m = refl
  any_append f (x ∷ l) m = ap (λ b. f x || b) (any_append f l m) ∙ sym (or_assoc (f x) (any f l) (any f m))

  pub any_false : (l : List A) → any (λ x. false) l ≡ false
  unfolding any
  any_false [] = refl
  any_false (x ∷ l) = any_false l

  pub any-gather : (f : A → Bool) (n : ℕ) (F : ℕ → List A) → any f (gather n F) ≡ any_below_lem n (λ i. any f (F i))
  unfolding gather any_below_lem any
  any-gather f zero F = refl
  any-gather f (suc n) F = any_append f (gather n F) (F n) ∙ ap (λ b. b || any f (F n)) (any-gather f n F)

-- ---- through a renaming e, where f and g say the same

module _ {A B : Type 0} (e : A → B) where
  pub map-append : (l m : List A) → map e (l ++ m) ≡ map e l ++ map e m
  map-append [] m = refl
  map-append (x ∷ l) m = ap {B = List B} (λ r. e x ∷ r) (map-append l m)

module _ {A B : Type 0} (e : A → B) (P : A → Type 0) (f : A → Bool) (g : B → Bool) (same : (x : A) → P x → f x ≡ g (e x)) where
  pub filter-ren : {l : List A} → All P l → map e (filter f l) ≡ filter g (map e l)
  unfolding filter
  filter-ren done = refl
  filter-ren (more {x = x} {l = l} h a) = rw (← (same x h)) (go (f x) (filter-ren a))
    where
      go : (b : Bool) → map e (filter f l) ≡ filter g (map e l) → map e (cond b (x ∷ filter f l) (filter f l)) ≡ cond b (e x ∷ filter g (map e l)) (filter g (map e l))
      go true ih = ap {B = List B} (λ r. e x ∷ r) ih
      go false ih = ih

  pub any-ren : {l : List A} → All P l → any f l ≡ any g (map e l)
  unfolding any
  any-ren done = refl
  any-ren (more {x = x} h a) = ap₂ ◌||◌ (same x h) (any-ren a)

  pub all-ren : {l : List A} → All P l → all f l ≡ all g (map e l)
  unfolding all
  all-ren done = refl
  all-ren (more {x = x} h a) = ap₂ ◌&&◌ (same x h) (all-ren a)

-- ---- the lists `run` and `map f (run ..)`, by place

pub length_run : (s n : ℕ) → length (run s n) ≡ n
unfolding run
length_run s zero = refl
length_run s (suc n) = ap suc (length_run (suc s) n)

get_d_run_from : {A : Type 0} (f : ℕ → A) (d : A) (s n c : ℕ) → c < n → get_or (map f (run s n)) c d ≡ f (s + c)
unfolding run
get_d_run_from f d s zero c h = absurd (omega arith)
get_d_run_from f d s (suc n) zero h = ap f (sym (add-zero s))
get_d_run_from f d s (suc n) (suc c) h = get_d_run_from f d (suc s) n c (omega arith) ∙ ap f (omega arith)

pub get_d_tab : {A : Type 0} (f : ℕ → A) (d : A) (n c : ℕ) → c < n → get_or (map f (run 0 n)) c d ≡ f c
get_d_tab f d n c h = get_d_run_from f d 0 n c h ∙ ap f (zero-add c)

pub all-run : {A : Type 0} {P : A → Type 0} (f : ℕ → A) (s n : ℕ) → ((i : ℕ) → i < s + n → P (f i)) → All P (map f (run s n))
unfolding run
all-run f s zero h = done
all-run f s (suc n) h = more (h s (omega arith)) (all-run f (suc s) n (λ i l. h i (omega arith)))

pub run_last : (n k : ℕ) → run n (suc k) ≡ run n k ++ ((n + k) ∷ [])
unfolding run
run_last n zero = ap {B = List ℕ} (λ x. x ∷ []) (sym (add-zero n))
run_last n (suc k) =
    let e : suc n + k ≡ n + suc k = omega arith in
    ap {B = List ℕ} (λ r. n ∷ r) (run_last (suc n) k ∙ ap {B = List ℕ} (λ x. run (suc n) k ++ (x ∷ [])) e)

-- a place among the first n is one of n places
pub place_in-front : {A : Type 0} (l : List A) (n : ℕ) {i : ℕ} → n ≤ length l → i < length (take n l) → i < n
place_in-front l n few h = omega (arith, h, length-take-le n l few)
