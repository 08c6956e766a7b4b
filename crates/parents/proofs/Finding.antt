-- The way of `find`: at each turn the list is parents of the same names, for every choice of names for which it was, and the number reached is named as the
-- first one. Assumes nothing.
use Prim.Native.Nat.{ℕ, ◌≤◌, ◌<◌}
use native.Mathlib.Omega.{arith}
use mathlib.Core.Path.{◌≡◌, refl, sym, ap, ◌∙◌, subst}
use mathlib.Core.List.{List}
use lib.ListN.{length, get_or, set}
use Rattle.laws.specs.ListLaws.Beyond.{beyond_same}
use Rattle.parents.specs.Forest.{Forest, Placed, Found, Left}
use Rattle.parents.specs.ForestLaws.{parent-below, halved, beyond-written}

-- the number reached is c
pub record Seek (n : ℕ) (name : ℕ → ℕ) (from : ℕ) (was l : List ℕ) (c : ℕ) : Type 0 where
  pub left : Left n name was l
  pub inside : c < n
  pub same : name c ≡ name from

-- p is its parent
pub record Finding (was : List ℕ) (from : ℕ) (l : List ℕ) (c p : ℕ) : Type 0 where
  pub is : p ≡ get_or l c 0
  pub all : (n : ℕ) (name : ℕ → ℕ) → Forest n name was → from < n → Seek n name from was l c

pub finding-starts : (was : List ℕ) (from p : ℕ) → p ≡ get_or was from 0 → Finding was from was from p
finding-starts was from p e =
    record { is = e; all = λ n name F h. record { left = record { forest = F; beyond = beyond_same n was }; inside = h; same = refl } }

module _ {was l : List ℕ} {from c p : ℕ} (P : Placed was from) (I : Finding was from l c p) where
  seek : Seek P.n P.name from was l c
  seek = I.all P.n P.name P.forest P.inside

  -- both are places of the list, and small
  pub record Places : Type 0 where
    pub low : p ≤ c
    pub inside : c < length l
    pub small : c < 1048576
    pub next : get_or l p 0 ≤ p
    pub long : length l ≡ length was

  pub places : Places
  places =
      record {
        low = low;
        inside = omega (arith, seek.inside, seek.left.forest.long);
        small = omega (arith, seek.inside, seek.left.forest.few);
        next = (seek.left.forest.parent p (omega (arith, low, seek.inside))).low;
        long = seek.left.beyond.long;
      }
    where
      low : p ≤ c
      low = omega (arith, I.is, (seek.left.forest.parent c seek.inside).low)

module _ {was l : List ℕ} {from c p : ℕ} (I : Finding was from l c p) where
  -- c gets its parent's parent, and is left for it
  pub finding-goes_on : (d q : ℕ) → d ≡ get_or l p 0 → q ≡ get_or (set l c (get_or l p 0)) d 0 → Finding was from (set l c (get_or l p 0)) d q
  finding-goes_on d q e f = record { is = f; all = on }
    where
      on : (n : ℕ) (name : ℕ → ℕ) → Forest n name was → from < n → Seek n name from was (set l c (get_or l p 0)) d
      on n name F h =
          record {
            left =
                record {
                  forest = subst (λ x. Forest n name (set l c (get_or l x 0))) (sym I.is) (halved G c s.inside);
                  beyond = beyond-written c (get_or l p 0) s.inside s.left.beyond;
                };
            inside = omega (arith, e, (G.parent p below).low, below);
            same = ap name e ∙ (G.parent p below).same ∙ ap name I.is ∙ (G.parent c s.inside).same ∙ s.same;
          }
        where
          s : Seek n name from was l c
          s = I.all n name F h

          G : Forest n name l
          G = s.left.forest

          below : p < n
          below = omega (arith, I.is, parent-below G c s.inside)

  -- who is his own parent is the name
  pub finding-ends : p ≡ c → (n : ℕ) (name : ℕ → ℕ) → Forest n name was → from < n → Found n name from was l c
  finding-ends e n name F h =
      let s = I.all n name F h in
      record { left = s.left; is = sym ((s.left.forest.parent c s.inside).top (sym I.is ∙ e)) ∙ s.same }
