-- Names of a row's cells while its stretches are found one behind another: before c all is done, and from c on each cell is alone. Assumes nothing.
use Prim.Native.Nat.{ℕ, zero, suc, ◌+◌, ◌-◌, ◌≤◌, ◌<◌}
use native.Mathlib.Omega.{arith}
use mathlib.Core.Path.{◌≡◌, refl, sym, ap, ◌∙◌, subst}
use mathlib.Core.Bool.{Bool, true, false, cond, true≢false}
use mathlib.Core.List.{List}
use lib.ListN.{length, get_or, set, drop, length-set}
use lib.Seq.{get_or-set_same, get_or-set_other, drop-set-lt}
use lib.Dec.{eqb, ltb}
use borrow.Author.Tests.{eqb-true, eqb-false, ltb-true, ltb-false}
use Rattle.grid_steps.specs.Masks.{cut_bit}
use Rattle.laws.specs.ListLaws.Beyond.{beyond_same, beyond-then}
use Rattle.parents.specs.Forest.{Forest, Left}
use Rattle.row_runs.specs.Stretch.{walks, Stretch}
use Rattle.row_runs.specs.Names.{Fresh, RunPut, PutAsked, StretchPut, Tiles, none, more, EastLevel, RowNamed, ScanAsked, RowScanned}

-- ---- a stretch

pub run-put : {cells was p : List ℕ} {n : ℕ} {name : ℕ → ℕ} {from end : ℕ} → walks cells from ≡ true → RunPut n name from end was p → StretchPut cells n name from end was p
run-put {cells} {from = from} w R =
    record {
      after = R.after;
      left = R.left;
      inside = λ c i k. R.inside c i k ∙ sym (ap (λ b. cond b from c) w);
      before = R.before;
      fresh = R.fresh;
    }

-- ---- names

record ScanNames (cells masks : List ℕ) (n : ℕ) (name : ℕ → ℕ) (from : ℕ) (was p : List ℕ) (c : ℕ) : Type 0 where
  after : ℕ → ℕ
  left : Left n after was p
  named : RowNamed cells masks after from c
  before : (d : ℕ) → d < from → after d ≡ name d
  fresh : Fresh n c p

-- the step into the stretch at c is cut, where both its cells are walkable
abbrev Edge : List ℕ → List ℕ → ℕ → ℕ → ℕ → Type 0
Edge cells masks from end c = from < c → c < end → walks cells (c - 1) ≡ true → walks cells c ≡ true → cut_bit masks (c - 1) 5 ≡ true

module _ {cells masks : List ℕ} {end c e : ℕ} (S : Stretch cells masks end c e) where
  -- what says the same at both ends of every uncut step says the same throughout a run
  pub run-level : {X : Type 0} (from : ℕ) (g : ℕ → X) → from ≤ c → EastLevel cells masks from e g → walks cells c ≡ true → (k : ℕ) → c + k < e → g (c + k) ≡ g c
  run-level from g low level w zero h = ap g (omega arith)
  run-level from g low level w (suc k) h =
      ap g next
      ∙ level (c + k) (omega arith) (omega arith) (S.alike (c + k) (omega arith) (omega arith) ∙ w) (S.alike (c + k + 1) (omega arith) (omega arith) ∙ w)
      (S.free w (c + k) (omega arith) (omega arith))
      ∙ run-level from g low level w k (omega arith)
    where
      next : c + suc k ≡ c + k + 1
      next = omega arith

  edge_next : (from : ℕ) → Edge cells masks from end e
  edge_next from l h v w = S.last (sym (S.alike (e - 1) (omega (arith, S.more)) (omega (arith, S.more))) ∙ v) h w

  module _ {n : ℕ} {name : ℕ → ℕ} {from : ℕ} {was p p' : List ℕ} (low : from ≤ c) (edge : Edge cells masks from end c) (N : ScanNames cells masks n name from was p c) (P : StretchPut cells n N.after c e p p') where
    in_run : walks cells c ≡ true → (d : ℕ) → c ≤ d → d < e → P.after d ≡ c
    in_run w d i k = P.inside d i k ∙ ap (λ b. cond b c d) w

    in_gap : walks cells c ≡ false → (d : ℕ) → c ≤ d → d < e → P.after d ≡ d
    in_gap w d i k = P.inside d i k ∙ ap (λ b. cond b c d) w

    joins : (d : ℕ) → from ≤ d → d + 1 < e → walks cells d ≡ true → walks cells (d + 1) ≡ true → cut_bit masks d 5 ≡ false → P.after (d + 1) ≡ P.after d
    joins d i k v w f = go (ltb (d + 1) c) refl (eqb (d + 1) c) refl
      where
        go : (a : Bool) → ltb (d + 1) c ≡ a → (b : Bool) → eqb (d + 1) c ≡ b → P.after (d + 1) ≡ P.after d
        go true l b m =
            let less = ltb-true (d + 1) c l in
            P.before (d + 1) less ∙ N.named.joins d i less v w f ∙ sym (P.before d (omega (arith, less)))
        go false l true m =
            let is : d + 1 ≡ c = eqb-true (d + 1) c m in
            let here : c - 1 ≡ d = omega (arith, is) in
            absurd
            (true≢false
            (sym (edge (omega (arith, is)) (omega (arith, is, S.ends)) (ap (walks cells) here ∙ v) (ap (walks cells) (sym is) ∙ w))
            ∙ ap (λ x. cut_bit masks x 5) here ∙ f))
        go false l false m =
            let past : c ≤ d = omega (arith, ltb-false (d + 1) c l, eqb-false (d + 1) c m) in
            let t : walks cells c ≡ true = sym (S.alike d past (omega arith)) ∙ v in
            in_run t (d + 1) (omega (arith, past)) k ∙ sym (in_run t d past (omega arith))

    sound : (g : ℕ → Bool) → EastLevel cells masks from e g → (d : ℕ) → from ≤ d → d < e → g (P.after d) ≡ g d
    sound g level d i k = go (ltb d c) refl (walks cells c) refl
      where
        go : (a : Bool) → ltb d c ≡ a → (b : Bool) → walks cells c ≡ b → g (P.after d) ≡ g d
        go true l b w =
            ap g (P.before d (ltb-true d c l))
            ∙ N.named.sound g (λ x j m. level x j (omega (arith, m, S.more))) d i (ltb-true d c l)
        go false l true w =
            let past = ltb-false d c l in
            let there : c + (d - c) ≡ d = omega (arith, past) in
            ap g (in_run w d past k) ∙ sym (run-level from g low level w (d - c) (omega (arith, there))) ∙ ap g there
        go false l false w = ap g (in_gap w d (ltb-false d c l) k)

    names-go_on : ScanNames cells masks n name from was p' e
    names-go_on =
        record {
          after = P.after;
          left = record { forest = P.left.forest; beyond = beyond-then N.left.beyond P.left.beyond };
          named = record { joins = joins; sound = sound };
          before = λ d i. P.before d (omega arith) ∙ N.before d i;
          fresh = P.fresh;
        }

-- ---- the queue

pub tiles-le : {cells masks q : List ℕ} {end from to : ℕ} → Tiles cells masks end q from to → from ≤ to
tiles-le none = omega arith
tiles-le (more S e t) = omega (arith, S.more, tiles-le t)

tiles_more : {cells masks q : List ℕ} {end from c e : ℕ} → Tiles cells masks end q from c → c < length q → Stretch cells masks end c e → Tiles cells masks end (set q c e) from e
tiles_more {q = q} {c = c} {e = e} none h S = more S (get_or-set_same q c e 0 h) none
tiles_more {q = q} {from = from} {c = c} {e = e} (more T f t) h S =
    let off : from ≡ c → ⊥ = λ s. omega (arith, s, T.more, tiles-le t) in
    more T (get_or-set_other q c from e 0 off ∙ f) (tiles_more t h S)

-- ---- the loop

pub record Scanning (cells masks : List ℕ) (from end : ℕ) (was waited p q : List ℕ) (c : ℕ) : Type 0 where
  pub low : from ≤ c
  pub ends : c ≤ end
  edge : Edge cells masks from end c
  tiles : Tiles cells masks end q from c
  pub queue_long_lem : length q ≡ length waited
  earlier : (d : ℕ) → d < from → get_or q d 0 ≡ get_or waited d 0
  beyond : drop end q ≡ drop end waited
  all : (n : ℕ) (name : ℕ → ℕ) → Forest n name was → Fresh n from was → end ≤ n → ScanNames cells masks n name from was p c

pub scanning_starts : (cells masks : List ℕ) (from end : ℕ) (was waited : List ℕ) → from ≤ end → Scanning cells masks from end was waited was waited from
scanning_starts cells masks from end was waited h =
    record {
      low = omega arith;
      ends = h;
      edge = λ l. absurd (omega arith);
      tiles = none;
      queue_long_lem = refl;
      earlier = λ d i. refl;
      beyond = refl;
      all = λ n name F fresh _.
          record {
            after = name;
            left = record { forest = F; beyond = beyond_same n was };
            named = record { joins = λ d i k. absurd (omega arith); sound = λ g level d i k. absurd (omega arith) };
            before = λ d i. refl;
            fresh = fresh;
          };
    }

-- what `put_stretch` promises
abbrev Puts : List ℕ → ℕ → ℕ → List ℕ → List ℕ → Type 0
Puts cells c e p p' = (n : ℕ) (name : ℕ → ℕ) → Forest n name p → Fresh n c p → e ≤ n → StretchPut cells n name c e p p'

module _ {cells masks : List ℕ} {from end : ℕ} {was waited p q : List ℕ} {c : ℕ} (I : Scanning cells masks from end was waited p q c) where
  pub scanning_goes_on : {e : ℕ} {p' : List ℕ} → c < end → end ≤ length waited → Stretch cells masks end c e → Puts cells c e p p' → Scanning cells masks from end was waited p' (set q c e) e
  scanning_goes_on {e} {p'} h room S P =
      record {
        low = omega (arith, I.low, S.more);
        ends = S.ends;
        edge = edge_next S from;
        tiles = tiles_more I.tiles (omega (arith, I.queue_long_lem)) S;
        queue_long_lem = length-set q c e ∙ I.queue_long_lem;
        earlier = λ d i. let off : d ≡ c → ⊥ = λ s. omega (arith, I.low) in get_or-set_other q c d e 0 off ∙ I.earlier d i;
        beyond = drop-set-lt end q c e h ∙ I.beyond;
        all = λ n name F fresh k.
            let N = I.all n name F fresh k in
            names-go_on S I.low I.edge N (P n N.after N.left.forest N.fresh (omega (arith, S.ends)));
      }

  pub scanning_ends : end ≤ c → (n : ℕ) (name : ℕ → ℕ) → Forest n name was → Fresh n from was → end ≤ n → RowScanned cells masks n name from end was waited p q
  scanning_ends h n name F fresh k =
      let N = I.all n name F fresh k in
      let done : c ≡ end = omega (arith, I.ends) in
      record {
        after = N.after;
        left = N.left;
        named = subst (RowNamed cells masks N.after from) done N.named;
        before = N.before;
        fresh = λ d i m. N.fresh d (omega (arith, done)) m;
        tiles = subst (Tiles cells masks end q from) done I.tiles;
        queue_long_lem = I.queue_long_lem;
        earlier = I.earlier;
        beyond = I.beyond;
      }

  pub put-asked : {marked : Bool} {e : ℕ} → ScanAsked cells masks was waited from end marked → Stretch cells masks end c e → PutAsked cells p c e
  put-asked A S =
      let N = I.all A.run.n A.run.name A.run.forest A.run.fresh A.run.ends in
      record {
        cells_long = omega (arith, A.cells_long, S.more, S.ends);
        run = record { n = A.run.n; name = N.after; forest = N.left.forest; fresh = N.fresh; low = omega (arith, S.more); ends = omega (arith, S.ends, A.run.ends) };
      }

  pub few : {marked : Bool} → ScanAsked cells masks was waited from end marked → end ≤ 1048576
  few A = omega (arith, A.run.forest.few, A.run.ends)
