-- Names while two rows are joined from one end of a stretch to the next: of the columns before c all steps to the south are done. In both rows c lies in a
-- stretch, whose end is known, or begins one. Assumes nothing.
use Prim.Native.Nat.{ℕ, ◌+◌, ◌-◌, ◌≤◌, ◌<◌, min, max}
use native.Mathlib.Omega.{arith}
use mathlib.Core.Path.{◌≡◌, refl, sym, ap, ◌∙◌, subst}
use mathlib.Core.Bool.{Bool, true, false, cond, true≢false}
use mathlib.Core.List.{List}
use lib.ListN.{get_or}
use lib.Dec.{eqb, ltb}
use borrow.Author.Tests.{eqb-true, eq-eqb, ne_eqb, ltb-true, ltb-false}
use Rattle.laws.specs.RegionLaws.Merging.{merged, merged_one}
use Rattle.laws.specs.ListLaws.Beyond.{beyond_same, beyond-then}
use Rattle.grid_steps.specs.Masks.{cut_bit}
use Rattle.parents.specs.Forest.{Forest, joined_name, Left}
use Rattle.row_runs.specs.Stretch.{walks, Until, Stretch}
use Rattle.row_runs.specs.Names.{Tiles, none, more, EastLevel}
use Rattle.row_runs.specs.South.{SouthLevel, Coarser, Kept, OverlapAsked, OverlapJoined, apart, cut, one, RowsAsked, RowsJoined}
use Rattle.row_runs.proofs.RowNames.{run-level}

-- ---- a test that says the same of two names says the same after they are merged

pub merged-test : (g : ℕ → Bool) (a b r : ℕ) → g a ≡ g b → g (merged a b r) ≡ g r
unfolding merged
merged-test g a b r h = go (eqb r (max a b)) refl (ltb a b) refl
  where
    go : (t : Bool) → eqb r (max a b) ≡ t → (u : Bool) → ltb a b ≡ u → g (cond t (min a b) r) ≡ g r
    go false q u v = refl
    go true q true v = ap g (omega (arith, ltb-true a b v)) ∙ h ∙ ap g (omega (arith, ltb-true a b v, eqb-true r (max a b) q))
    go true q false v = ap g (omega (arith, ltb-false a b v)) ∙ sym h ∙ ap g (omega (arith, ltb-false a b v, eqb-true r (max a b) q))

-- ---- a place in a tiled row

module _ (cells masks : List ℕ) (from end : ℕ) (q : List ℕ) where
  -- a stretch begins at c, or c lies in one that ends at a
  pub data Cursor (c : ℕ) : ℕ → Type 0 where
    begins : from ≤ c → Tiles cells masks end q c end → Cursor c c
    inside : {s a : ℕ} → Stretch cells masks end s a → from ≤ s → s ≤ c → c < a → Tiles cells masks end q a end → Cursor c a

  -- the stretch that has c
  pub record Reach (c a : ℕ) : Type 0 where
    pub first : ℕ
    pub stretch : Stretch cells masks end first a
    pub start : from ≤ first
    pub low : first ≤ c
    pub high : c < a
    pub rest : Tiles cells masks end q a end

  record Begun (c : ℕ) : Type 0 where
    behind : ℕ
    stretch : Stretch cells masks end c behind
    is : get_or q c 0 ≡ behind
    rest : Tiles cells masks end q behind end

  begun : {c to : ℕ} → Tiles cells masks end q c to → to ≡ end → c < to → Begun c
  begun none e h = absurd (omega arith)
  begun (more {e = b} S i t) e h = record { behind = b; stretch = S; is = i; rest = subst (Tiles cells masks end q b) e t }

  pub reach : {c a : ℕ} (r : ℕ) → Cursor c a → c < end → r ≡ cond (eqb a c) (get_or q c 0) a → Reach c r
  reach {c} r (begins f t) h e =
      let b = begun t refl h in
      let is : b.behind ≡ r = sym b.is ∙ sym (e ∙ ap (λ x. cond x (get_or q c 0) c) (eq-eqb c c refl)) in
      subst (Reach c) is (record { first = c; stretch = b.stretch; start = f; low = omega arith; high = b.stretch.more; rest = b.rest })
  reach {c} r (inside {s} {a} S f i k t) h e =
      let off : a ≡ c → ⊥ = λ x. omega arith in
      let is : a ≡ r = sym (e ∙ ap (λ x. cond x (get_or q c 0) a) (ne_eqb a c off)) in
      subst (Reach c) is (record { first = s; stretch = S; start = f; low = i; high = k; rest = t })

  pub advance : {c a : ℕ} (e : ℕ) → Reach c a → c < e → e ≤ a → Cursor e a
  advance {c} {a} e R h k = go (ltb e a) refl
    where
      go : (b : Bool) → ltb e a ≡ b → Cursor e a
      go true l = inside R.stretch R.start (omega (arith, R.low)) (ltb-true e a l) R.rest
      go false l =
          let is : a ≡ e = omega (arith, ltb-false e a l) in
          subst (λ x. Cursor x a) is (begins (omega (arith, R.start, R.low, R.high)) R.rest)

  -- the cells of the stretch that has c are walkable if c is, and have one name
  module _ {c a : ℕ} (R : Reach c a) where
    alike : (d : ℕ) → c ≤ d → d < a → walks cells d ≡ walks cells c
    alike d i k = R.stretch.alike d (omega (arith, R.low)) k ∙ sym (R.stretch.alike c R.low R.high)

    one_name : {X : Type 0} (g : ℕ → X) → EastLevel cells masks from end g → walks cells c ≡ true → (d : ℕ) → c ≤ d → d < a → g d ≡ g c
    one_name g level w d i k = at d (omega (arith, R.low)) k ∙ sym (at c R.low R.high)
      where
        walked : walks cells R.first ≡ true
        walked = sym (R.stretch.alike c R.low R.high) ∙ w

        at : (d : ℕ) → R.first ≤ d → d < a → g d ≡ g R.first
        at d i k =
            let there : R.first + (d - R.first) ≡ d = omega arith in
            ap g (sym there)
            ∙ run-level R.stretch from g R.start (λ x j m. level x j (omega (arith, m, R.stretch.ends))) walked (d - R.first) (omega (arith, there))

-- ---- names

record JoinNames (w : ℕ) (cells masks : List ℕ) (up n : ℕ) (name : ℕ → ℕ) (was p : List ℕ) (c : ℕ) : Type 0 where
  after : ℕ → ℕ
  left : Left n after was p
  coarser : Coarser name after
  joins : SouthLevel w cells masks up c after
  sound : (g : ℕ → Bool) → SouthLevel w cells masks up c g → Kept n name g → Kept n after g

module _ (w : ℕ) {cells masks q : List ℕ} {up c a b e : ℕ} (U : Reach cells masks up (up + w) q c a) (L : Reach cells masks (up + w) (up + w + w) q (c + w) b) (h : c < e) (k : e ≤ a) (m : e + w ≤ b) where
  -- what is done before c and from c up to e
  joins_by : {X : Type 0} (g : ℕ → X) → SouthLevel w cells masks up c g → ((d : ℕ) → c ≤ d → d < e → walks cells d ≡ true → walks cells (d + w) ≡ true → cut_bit masks d 7 ≡ false → g (d + w) ≡ g d) → SouthLevel w cells masks up e g
  joins_by g old new d i j v x f = go (ltb d c) refl
    where
      go : (t : Bool) → ltb d c ≡ t → g (d + w) ≡ g d
      go true l = old d i (ltb-true d c l) v x f
      go false l = new d (ltb-false d c l) j v x f

  fewer : {X : Type 0} (g : ℕ → X) → SouthLevel w cells masks up e g → SouthLevel w cells masks up c g
  fewer g level d i j = level d i (omega arith)

  -- both cells of a step in the overlap are as the first two are
  above : (d : ℕ) → c ≤ d → d < e → walks cells d ≡ walks cells c
  above d i j = alike cells masks up (up + w) q U d i (omega arith)

  below : (d : ℕ) → c ≤ d → d < e → walks cells (d + w) ≡ walks cells (c + w)
  below d i j = alike cells masks (up + w) (up + w + w) q L (d + w) (omega arith) (omega arith)

  module _ {n : ℕ} {name : ℕ → ℕ} {was p : List ℕ} (room : e + w ≤ n) (low : up ≤ c) (upper : EastLevel cells masks up (up + w) name) (lower : EastLevel cells masks (up + w) (up + w + w) name) (N : JoinNames w cells masks up n name was p c) where
    -- two runs become one by the step at t
    module _ (t : ℕ) (i : c ≤ t) (j : t < e) (v : walks cells c ≡ true) (x : walks cells (c + w) ≡ true) (f : cut_bit masks t 7 ≡ false) where
      now : ℕ → ℕ
      now = joined_name N.after t (t + w)

      name-above : (d : ℕ) → c ≤ d → d < e → N.after d ≡ N.after c
      name-above d i j = one_name cells masks up (up + w) q U N.after (λ y l o a b s. N.coarser (y + 1) y (upper y l o a b s)) v d i (omega arith)

      name_below : (d : ℕ) → c ≤ d → d < e → N.after (d + w) ≡ N.after (c + w)
      name_below d i j = one_name cells masks (up + w) (up + w + w) q L N.after (λ y l o a b s. N.coarser (y + 1) y (lower y l o a b s)) x (d + w) (omega arith) (omega arith)

      joined : (d : ℕ) → c ≤ d → d < e → now (d + w) ≡ now d
      unfolding now
      joined d k l =
          ap (merged (N.after t) (N.after (t + w))) (name_below d k l ∙ sym (name_below t i j))
          ∙ sym (merged_one (N.after t) (N.after (t + w)))
          ∙ ap (merged (N.after t) (N.after (t + w))) (name-above t i j ∙ sym (name-above d k l))

      kept : (g : ℕ → Bool) → SouthLevel w cells masks up e g → Kept n name g → Kept n now g
      unfolding now
      kept g level K d h =
          merged-test g (N.after t) (N.after (t + w)) (N.after d)
          (before t (omega arith) ∙ sym (level t (omega arith) j (above t i j ∙ v) (below t i j ∙ x) f) ∙ sym (before (t + w) (omega arith)))
          ∙ before d h
        where
          before : Kept n N.after g
          before = N.sound g (fewer g level) K

    join_names : {p' : List ℕ} → OverlapJoined w cells masks n N.after c e p p' → JoinNames w cells masks up n name was p' e
    unfolding now
    join_names (apart f) =
        record {
          after = N.after;
          left = N.left;
          coarser = N.coarser;
          joins = joins_by N.after N.joins (λ d i j v x _. absurd (f (sym (above d i j) ∙ v) (sym (below d i j) ∙ x)));
          sound = λ g level. N.sound g (fewer g level);
        }
    join_names (cut f) =
        record {
          after = N.after;
          left = N.left;
          coarser = N.coarser;
          joins = joins_by N.after N.joins (λ d i j _ _ s. absurd (true≢false (sym (f d i j) ∙ s)));
          sound = λ g level. N.sound g (fewer g level);
        }
    join_names (one t i j v x f l) =
        record {
          after = now t i j v x f;
          left = record { forest = l.forest; beyond = beyond-then N.left.beyond l.beyond };
          coarser = λ y z s. ap (merged (N.after t) (N.after (t + w))) (N.coarser y z s);
          joins =
              joins_by (now t i j v x f) (λ d k o a b s. ap (merged (N.after t) (N.after (t + w))) (N.joins d k o a b s))
              (λ d k o _ _ _. joined t i j v x f d k o);
          sound = kept t i j v x f;
        }

-- ---- the loop

pub record Southing (w : ℕ) (cells masks q : List ℕ) (up : ℕ) (was p : List ℕ) (c a b : ℕ) : Type 0 where
  pub low : up ≤ c
  pub ends : c ≤ up + w
  pub upper : Cursor cells masks up (up + w) q c a
  pub lower : Cursor cells masks (up + w) (up + w + w) q (c + w) b
  all : (n : ℕ) (name : ℕ → ℕ) → Forest n name was → up + w + w ≤ n → EastLevel cells masks up (up + w) name → EastLevel cells masks (up + w) (up + w + w) name → JoinNames w cells masks up n name was p c

pub southing_starts : (w : ℕ) (cells masks q : List ℕ) (up : ℕ) (was : List ℕ) → RowsAsked w cells masks was q up → Southing w cells masks q up was was up up (up + w)
southing_starts w cells masks q up was A =
    record {
      low = omega arith;
      ends = omega arith;
      upper = begins (omega arith) A.upper;
      lower = begins (omega arith) A.lower;
      all = λ n name F _ _ _.
          record {
            after = name;
            left = record { forest = F; beyond = beyond_same n was };
            coarser = λ x y e. e;
            joins = λ d i j. absurd (omega arith);
            sound = λ g _ K. K;
          };
    }

module _ {w : ℕ} {cells masks q : List ℕ} {up : ℕ} {was p : List ℕ} {c a b : ℕ} (I : Southing w cells masks q up was p c a b) (h : c < up + w) where
  -- the ends of the two stretches that have column c
  pub upper-reach : (r : ℕ) → r ≡ cond (eqb a c) (get_or q c 0) a → Reach cells masks up (up + w) q c r
  upper-reach r e = reach cells masks up (up + w) q r I.upper h e

  pub lower-reach : (r : ℕ) → r ≡ cond (eqb b (c + w)) (get_or q (c + w) 0) b → Reach cells masks (up + w) (up + w + w) q (c + w) r
  lower-reach r e = reach cells masks (up + w) (up + w + w) q r I.lower (omega arith) e

  module _ {r s e : ℕ} (U : Reach cells masks up (up + w) q c r) (L : Reach cells masks (up + w) (up + w + w) q (c + w) s) (is : e ≡ min r (s - w)) where
    -- where the overlap ends
    pub record Overlap : Type 0 where
      pub some : c < e
      pub above : e ≤ r
      pub below : e + w ≤ s
      pub ends : e ≤ up + w

    pub overlap : Overlap
    overlap =
        record {
          some = omega (arith, is, U.high, L.high);
          above = omega (arith, is);
          below = omega (arith, is, L.high);
          ends = omega (arith, is, U.stretch.ends);
        }

    pub overlap-asked : RowsAsked w cells masks was q up → OverlapAsked w cells masks p c e
    overlap-asked A =
        let N = I.all A.n A.name A.forest A.ends A.east_upper A.east_lower in
        record {
          more = overlap.some;
          cells_long = omega (arith, overlap.ends, A.cells_long);
          masks_long = omega (arith, overlap.ends, A.masks_long);
          n = A.n;
          name = N.after;
          forest = N.left.forest;
          ends = omega (arith, overlap.ends, A.ends);
        }

    pub southing_goes_on : {p' : List ℕ} → ((n : ℕ) (name : ℕ → ℕ) → Forest n name p → e + w ≤ n → OverlapJoined w cells masks n name c e p p') → Southing w cells masks q up was p' e r s
    southing_goes_on J =
        record {
          low = omega (arith, I.low, overlap.some);
          ends = overlap.ends;
          upper = advance cells masks up (up + w) q e U overlap.some overlap.above;
          lower = advance cells masks (up + w) (up + w + w) q (e + w) L (omega (arith, overlap.some)) overlap.below;
          all = λ n name F k x y.
              let N = I.all n name F k x y in
              let room : e + w ≤ n = omega (arith, overlap.ends) in
              join_names w U L overlap.some overlap.above overlap.below room I.low x y N (J n N.after N.left.forest room);
        }

module _ {w : ℕ} {cells masks q : List ℕ} {up : ℕ} {was p : List ℕ} {c a b : ℕ} (I : Southing w cells masks q up was p c a b) where
  pub southing_ends : up + w ≤ c → (n : ℕ) (name : ℕ → ℕ) → Forest n name was → up + w + w ≤ n → EastLevel cells masks up (up + w) name → EastLevel cells masks (up + w) (up + w + w) name → RowsJoined w cells masks n name up was p
  southing_ends h n name F k x y =
      let N = I.all n name F k x y in
      record {
        after = N.after;
        left = N.left;
        coarser = N.coarser;
        joins = λ d i j. N.joins d i (omega arith);
        sound = λ g level. N.sound g (λ d i j. level d i (omega (arith, I.ends)));
      }

-- ---- what the code reads

-- ---- the ways through `join_overlap`

module _ {w : ℕ} {cells masks was : List ℕ} {from end : ℕ} where
  pub blocked-above : walks cells from ≡ false → (n : ℕ) (name : ℕ → ℕ) → Forest n name was → end + w ≤ n → OverlapJoined w cells masks n name from end was was
  blocked-above e n name F h = apart (λ v x. true≢false (sym v ∙ e))

  pub blocked-below : walks cells (from + w) ≡ false → (n : ℕ) (name : ℕ → ℕ) → Forest n name was → end + w ≤ n → OverlapJoined w cells masks n name from end was was
  blocked-below e n name F h = apart (λ v x. true≢false (sym x ∙ e))

  pub all-cut : {r : ℕ} → Until (λ c. cut_bit masks c 7) from end r → end ≤ r → (n : ℕ) (name : ℕ → ℕ) → Forest n name was → end + w ≤ n → OverlapJoined w cells masks n name from end was was
  all-cut u k n name F h = cut (λ c i j. u.all c i (omega arith))

  pub one_joined : {r : ℕ} {p : List ℕ} → Until (λ c. cut_bit masks c 7) from end r → r < end → walks cells from ≡ true → walks cells (from + w) ≡ true → ((n : ℕ) (name : ℕ → ℕ) → Forest n name was → r < n → r + w < n → Left n (joined_name name r (r + w)) was p) → (n : ℕ) (name : ℕ → ℕ) → Forest n name was → end + w ≤ n → OverlapJoined w cells masks n name from end was p
  one_joined {r} u k v x J n name F h = one r u.low k v x (u.stop k) (J n name F (omega arith) (omega arith))
