-- The way of `join`: two names are found, and the greater gets the lesser as its parent. Assumes nothing.
use Prim.Native.Nat.{ℕ, ◌<◌, min, max}
use native.Mathlib.Omega.{arith}
use mathlib.Core.Path.{◌≡◌, sym, ap, ◌∙◌}
use mathlib.Core.List.{List}
use lib.ListN.{length, get_or, set, length-set}
use Rattle.laws.specs.ListLaws.Beyond.{beyond_same, beyond-then}
use Rattle.parents.specs.Forest.{Forest, joined_name, Placed, PlacedTwo, Found, Left}
use Rattle.parents.specs.ForestLaws.{name_below, joined_already, linked, beyond-written}

-- what `find` promises
abbrev pub Finds : (was : List ℕ) (a : ℕ) (l : List ℕ) (i : ℕ) → Type 0
Finds was a l i = (n : ℕ) (name : ℕ → ℕ) → Forest n name was → a < n → Found n name a was l i

-- a and b have one parent
pub join-idle : {was : List ℕ} {a b : ℕ} → get_or was a 0 ≡ get_or was b 0 → (n : ℕ) (name : ℕ → ℕ) → Forest n name was → a < n → b < n → Left n (joined_name name a b) was was
join-idle {was} {a} {b} e n name F h k =
    record { forest = joined_already F a b (sym (F.parent a h).same ∙ ap name e ∙ (F.parent b k).same); beyond = beyond_same n was }

pub placed_first : {was : List ℕ} {a b : ℕ} → PlacedTwo was a b → Placed was a
placed_first P = record { n = P.n; name = P.name; forest = P.forest; inside = P.first }

pub placed-second : {was l : List ℕ} {a b i : ℕ} → PlacedTwo was a b → Finds was a l i → Placed l b
placed-second P f = record { n = P.n; name = P.name; forest = (f P.n P.name P.forest P.first).left.forest; inside = P.second }

module _ {was l m : List ℕ} {a b i j : ℕ} (f : Finds was a l i) (g : Finds l b m j) where
  -- both names are places of the list, and small
  pub record Names : Type 0 where
    pub first : i < 1048576
    pub second : j < 1048576
    pub first_in : i < length m
    pub second_in : j < length m
    pub long : length m ≡ length was

  pub names : PlacedTwo was a b → Names
  names P =
      record {
        first = omega (arith, x.is, name_below P.forest a P.first, P.forest.few);
        second = omega (arith, y.is, name_below P.forest b P.second, P.forest.few);
        first_in = omega (arith, x.is, name_below P.forest a P.first, y.left.forest.long);
        second_in = omega (arith, y.is, name_below P.forest b P.second, y.left.forest.long);
        long = y.left.beyond.long ∙ x.left.beyond.long;
      }
    where
      x : Found P.n P.name a was l i
      x = f P.n P.name P.forest P.first

      y : Found P.n P.name b l m j
      y = g P.n P.name x.left.forest P.second

  pub join-long : PlacedTwo was a b → (high low : ℕ) → length (set m high low) ≡ length was
  join-long P high low = length-set m high low ∙ (names P).long

  -- the greater and the lesser of the two
  pub join-linked : (high low : ℕ) → high ≡ max i j → low ≡ min i j → (n : ℕ) (name : ℕ → ℕ) → Forest n name was → a < n → b < n → Left n (joined_name name a b) was (set m high low)
  join-linked high low e k n name F h q =
      record {
        forest = linked y.left.forest a b high low h q (omega (arith, e, x.is, y.is)) (omega (arith, k, x.is, y.is));
        beyond = beyond-written high low (omega (arith, e, x.is, y.is, name_below F a h, name_below F b q)) (beyond-then x.left.beyond y.left.beyond);
      }
    where
      x : Found n name a was l i
      x = f n name F h

      y : Found n name b l m j
      y = g n name x.left.forest q
