-- What holds at each turn of the loop that reads a number (`Groups`), that it holds again after a group that is continued, and what the number is where
-- the loop is left. Assumes nothing.
use Prim.Native.Nat.{ℕ, ◌+◌, ◌-◌, ◌*◌, ◌%◌, ◌^◌, ◌≤◌, ◌<◌}
use mathlib.Core.Path.{◌≡◌, refl, sym, ap, ◌∙◌}
use mathlib.Core.Bool.{true, false}
use mathlib.Core.List.{List, ◌∷◌}
use native.Mathlib.Omega.{arith}
use native.Mathlib.Numerals.{add-one}
use lib.ListN.{length, take, drop, get_or, drop_of_length-le}
use Rattle.std.proofs.lemmas.List.{length-take, length-drop, get_or-take, get_or-drop}
use lib.Seq.{drop-cons}
use lib.Pow.{pow-add, pow_mono}
use Rattle.definitions.specs.SheetNumber.{found, failed, with_group, ill_formed, groups, number}
use Rattle.laws.specs.SheetReading.SheetLaws.{groups-bad, groups_more, groups_last, not-tenth, below_next, within_64}

-- Of the number at `at`, the groups before `next` have this value, and reading on from there gives the number.
pub record Groups (bytes : List ℕ) (at value scale group next : ℕ) : Type 0 where
  pub inside : next ≤ length bytes
  pub counted : next ≡ at + group
  pub few : group ≤ 9
  pub scaled : scale ≡ 2 ^ (7 * group)
  pub below : value < 2 ^ (7 * group)
  pub same : number at (drop at bytes) ≡ groups at group value next (drop next bytes)

-- the bytes from `at` on, at a place among them
module _ (bytes : List ℕ) (at : ℕ) (inside : at ≤ length bytes) where
  abbrev behind : List ℕ
  behind = take (length bytes - at) (drop at bytes)

  long : length behind ≡ length bytes - at
  long = length-take (length bytes - at) (drop at bytes) ∙ omega (arith, length-drop at bytes)

  module _ (group : ℕ) where
    pub behind-inside : group < length behind → at + group < length bytes
    behind-inside h = omega (arith, h, long)

    pub behind-ends : length behind ≤ group → length bytes ≤ at + group
    behind-ends h = omega (arith, h, long)

    pub behind-byte : group < length behind → {b : ℕ} → b ≡ get_or behind group 0 → b ≡ get_or bytes (at + group) 0
    behind-byte h e = e ∙ get_or-take (length bytes - at) (drop at bytes) group 0 (omega (arith, h, long)) ∙ get_or-drop at bytes group 0

pub start : (bytes : List ℕ) (at : ℕ) → at ≤ length bytes → Groups bytes at 0 1 0 at
unfolding number
start bytes at h = record { inside = h; counted = omega arith; few = omega arith; scaled = refl; below = omega arith; same = refl }

pub early-end : {bytes : List ℕ} {at value scale group next : ℕ} → Groups bytes at value scale group next → length bytes ≤ next → number at (drop at bytes) ≡ failed 14 (length bytes)
unfolding groups
early-end {bytes} {at} {value} {scale} {group} {next} G h =
    let e : next ≡ length bytes = omega (arith, G.inside) in
    G.same ∙ ap (λ l. groups at group value next l) (drop_of_length-le bytes h) ∙ ap (failed 14) e

-- with the byte that stands at `next`
module _ {bytes : List ℕ} {at value scale group next b : ℕ} (G : Groups bytes at value scale group next) (h : next < length bytes) (byte : b ≡ get_or bytes next 0) where
  here : number at (drop at bytes) ≡ groups at group value next (b ∷ drop (next + 1) bytes)
  here = G.same ∙ rw (byte, add-one next, drop-cons bytes next 0 h)

  grown : value + b % 128 * scale ≡ with_group value group b
  grown = ap (λ s. value + b % 128 * s) G.scaled

  pub bad : ill_formed group b ≡ true → number at (drop at bytes) ≡ failed 14 at
  bad t = here ∙ groups-bad at group value next b (drop (next + 1) bytes) t

  module _ (t : ill_formed group b ≡ false) where
    pub fits : value + b % 128 * scale < 2 ^ 64
    fits = rw grown (within_64 group value b G.few G.below t)

    pub last : b < 128 → number at (drop at bytes) ≡ found (value + b % 128 * scale) (next + 1) (drop (next + 1) bytes)
    last k = rw grown (here ∙ groups_last at group value next b (drop (next + 1) bytes) t k)

    pub more : 128 ≤ b → Groups bytes at (value + b % 128 * scale) (scale * 128) (group + 1) (next + 1)
    more k =
        rw grown
        (record {
          inside = omega arith;
          counted = omega (arith, G.counted);
          few = not-tenth group b G.few t k;
          scaled = ap (λ s. s * 128) G.scaled ∙ sym (pow-add 2 (7 * group) 7) ∙ ap (λ n. 2 ^ n) (omega arith);
          below = below_next group value b G.below;
          same = here ∙ groups_more at group value next b (drop (next + 1) bytes) t k;
        })

    pub scale-fits : 128 ≤ b → scale * 128 < 2 ^ 64
    scale-fits k =
        let G' = more k in
        let p : 2 ^ (7 * (group + 1)) ≤ 2 ^ 63 = pow_mono {i = 7 * (group + 1)} {j = 63} (omega (arith, G'.few)) in
        omega (arith, G'.scaled)
