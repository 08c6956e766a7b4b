-- Lists of numbers asked as sets (`member`, `add_new`, `add_all`, `meet`): under a renaming e that keeps the equality of the numbers at hand, and where
-- the numbers lie on two sides of a test. Assumes nothing.
use Rattle.std.specs.Prelude.{ℕ, ◌≡◌, Bool, not, ◌||◌, eqb}
use Rattle.std.proofs.Math.Path.{refl, ap}
use Rattle.std.proofs.Common.{sym, ◌∙◌, true≢false, eqb-true}
use Rattle.std.proofs.Math.Bool.{true, false, cond}
use Rattle.std.proofs.lemmas.Bool.{false≢true}
use mathlib.Core.List.{List, [], ◌∷◌, ◌++◌, map}
use Rattle.definitions.specs.Scan.{member, add_new, add_all}
use Rattle.definitions.specs.RampMouths.{meet}
use Rattle.laws.specs.ListLaws.Lists.{All, done, more, all_append, all_map, any_append, any-ren, map-append}
use Rattle.laws.specs.ListLaws.Members.{any-fails}

module _ {P : ℕ → Type 0} where
  all-add_new : {l : List ℕ} {x : ℕ} → All P l → P x → All P (add_new l x)
  unfolding add_new
  all-add_new {l} {x} a h = go (member x l)
    where
      go : (b : Bool) → All P (cond b l (l ++ (x ∷ [])))
      go true = a
      go false = all_append a (more h done)

  pub all-add_all : {l m : List ℕ} → All P l → All P m → All P (add_all l m)
  unfolding add_all
  all-add_all a done = a
  all-add_all {l} a (more {x = x} h b) = all-add_all {l = add_new l x} (all-add_new a h) b

-- ---- renamed

module _ (e : ℕ → ℕ) (P : ℕ → Type 0) (level : (a b : ℕ) → P a → P b → eqb a b ≡ eqb (e a) (e b)) where
  pub member-ren : (r : ℕ) {l : List ℕ} → P r → All P l → member r l ≡ member (e r) (map e l)
  unfolding member
  member-ren r h a = any-ren e P (eqb r) (eqb (e r)) (λ s k. level r s h k) a

  add_new-ren : (x : ℕ) {l : List ℕ} → P x → All P l → map e (add_new l x) ≡ add_new (map e l) (e x)
  unfolding add_new
  add_new-ren x {l} h a = rw (← (member-ren x h a)) (go (member x l))
    where
      go : (b : Bool) → map e (cond b l (l ++ (x ∷ []))) ≡ cond b (map e l) (map e l ++ (e x ∷ []))
      go true = refl
      go false = map-append e l (x ∷ [])

  pub add_all-ren : {l m : List ℕ} → All P l → All P m → map e (add_all l m) ≡ add_all (map e l) (map e m)
  unfolding add_all
  add_all-ren a done = refl
  add_all-ren {l} a (more {x = x} {l = m} h b) = add_all-ren {l = add_new l x} (all-add_new a h) b ∙ ap (λ k. add_all k (map e m)) (add_new-ren x h a)

  pub meet-ren : {l m : List ℕ} → All P l → All P m → meet l m ≡ meet (map e l) (map e m)
  unfolding meet
  meet-ren {l} {m} a b = any-ren e P (λ r. member r m) (λ r. member r (map e m)) (λ r h. member-ren r h b) a

-- ---- on two sides

module _ (inside : ℕ → Bool) where
  -- two numbers of different sides differ
  pub split : (b : Bool) (x y : ℕ) → inside x ≡ b → inside y ≡ not b → eqb x y ≡ false
  split b x y h k = go (eqb x y) refl b h k
    where
      go : (t : Bool) → eqb x y ≡ t → (b : Bool) → inside x ≡ b → inside y ≡ not b → t ≡ false
      go false e b h k = refl
      go true e true h k = absurd (true≢false (sym h ∙ ap inside (eqb-true x y e) ∙ k))
      go true e false h k = absurd (false≢true (sym h ∙ ap inside (eqb-true x y e) ∙ k))

  pub member-split : (b : Bool) (r : ℕ) {l : List ℕ} → inside r ≡ b → All (λ s. inside s ≡ not b) l → member r l ≡ false
  unfolding member
  member-split b r h a = any-fails (eqb r) (all_map (λ s k. split b r s h k) a)

  pub meet-split : (b : Bool) {l m : List ℕ} → All (λ r. inside r ≡ b) l → All (λ r. inside r ≡ not b) m → meet l m ≡ false
  unfolding meet
  meet-split b {m = m} x y = any-fails (λ r. member r m) (all_map (λ r h. member-split b r h y) x)

pub member-append : (r : ℕ) (l m : List ℕ) → member r (l ++ m) ≡ (member r l || member r m)
unfolding member
member-append r l m = any_append (eqb r) l m
