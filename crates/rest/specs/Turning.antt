-- A run pass by pass, as one loop over passes goes that stops once three in a row removed none (`Turning`). It starts before pass 1 (`turning-starts`), goes on within a round
-- (`turning_on`, `turning_on_quiet`) and from round to round (`turning-round`, `turning-round-quiet`), and where a third quiet pass ends it, it has come to what the run comes to, in as
-- many rounds (`turning-ends`): the round in which the last of the three stands is the last. Assumes nothing.
use Prim.Native.Nat.{ℕ, zero, suc, ◌+◌, ◌-◌, ◌≤◌, ◌<◌}
use native.Mathlib.Omega.{arith}
use Rattle.std.specs.Prelude.{◌≡◌, List}
use Rattle.std.proofs.Math.Path.{refl, ap, subst}
use Rattle.std.proofs.Common.{sym, ◌∙◌}
use Rattle.std.proofs.Math.ListN.{length}
use Rattle.definitions.specs.Grid.{Map}
use Rattle.rest_definitions.specs.Rest.{passed, round}
use Rattle.rest.specs.Rounds.{passed-few, passed-still, Still, Rests, rests_next, after_passes, three-passes, quiet}

-- the pass before one
abbrev pub pass_before : ℕ → ℕ
pass_before zero = 3
pass_before (suc zero) = 3
pass_before (suc (suc p)) = suc p

module _ (N : Map) where
  after-few : (p : ℕ) (ps : List ℕ) → length (after_passes N p ps) ≤ length ps
  unfolding after_passes
  after-few zero ps = omega arith
  after-few (suc p) ps = omega (arith, passed-few N (suc p) (after_passes N p ps), after-few p ps)

  -- one pass more of the round
  after_next : (p : ℕ) (ps : List ℕ) → passed (suc p) N (after_passes N p ps) ≡ after_passes N (suc p) ps
  unfolding after_passes
  after_next p ps = refl

  -- the run comes to `final` in `total` rounds
  module _ (total : ℕ) (final : List ℕ) where
    -- Before a pass: ps is what is kept, the last `quiet` passes removed none, and so many rounds are over.
    pub record Turning (pass quiet rounds : ℕ) (ps : List ℕ) : Type 0 where
      -- the round began with these, from which so many rounds are left
      pub begun : List ℕ
      pub left : ℕ
      pub first : 1 ≤ pass
      pub last : pass ≤ 3
      pub now : ps ≡ after_passes N (pass - 1) begun
      pub rests : Rests N begun left final
      pub counted : rounds + left ≡ total
      -- where all passes of the round so far were quiet nothing went, otherwise something did
      pub same : pass ≤ quiet + 1 → ps ≡ begun
      pub fewer : quiet + 1 < pass → length ps < length begun
      -- what the last two passes say of ps, if they were quiet
      pub one : 1 ≤ quiet → passed (pass_before pass) N ps ≡ ps
      pub two : 2 ≤ quiet → passed (pass_before (pass_before pass)) N ps ≡ ps

    pub turning-starts : {ps : List ℕ} → Rests N ps total final → Turning 1 0 0 ps
    unfolding after_passes
    turning-starts {ps} r =
        record {
          begun = ps;
          left = total;
          first = omega arith;
          last = omega arith;
          now = refl;
          rests = r;
          counted = omega arith;
          same = λ h. refl;
          fewer = λ h. absurd (omega arith);
          one = λ h. absurd (omega arith);
          two = λ h. absurd (omega arith);
        }

    module _ {p quiet rounds : ℕ} {ps : List ℕ} (T : Turning (suc p) quiet rounds ps) where
      reached : passed (suc p) N ps ≡ after_passes N (suc p) T.begun
      reached =
          let e : suc p - 1 ≡ p = omega arith in
          ap (passed (suc p) N) (T.now ∙ ap (λ q. after_passes N q T.begun) e) ∙ after_next p T.begun

      few : length ps ≤ length T.begun
      few = omega (arith, ap length T.now, after-few (suc p - 1) T.begun)

      -- ---- within a round

      -- a pass that removes some
      pub turning_on : p ≤ 1 → length (passed (suc p) N ps) < length ps → Turning (suc (suc p)) 0 rounds (passed (suc p) N ps)
      turning_on h l =
          let e : suc p ≡ suc (suc p) - 1 = omega arith in
          record {
            begun = T.begun;
            left = T.left;
            first = omega arith;
            last = omega arith;
            now = reached ∙ ap (λ q. after_passes N q T.begun) e;
            rests = T.rests;
            counted = T.counted;
            same = λ k. absurd (omega arith);
            fewer = λ k. omega (arith, l, few);
            one = λ k. absurd (omega arith);
            two = λ k. absurd (omega arith);
          }

      -- a pass that removes none
      module _ (still : length (passed (suc p) N ps) ≡ length ps) where
        all : passed (suc p) N ps ≡ ps
        all = passed-still N (suc p) ps still

        kept : (q : ℕ) → passed q N ps ≡ ps → passed q N (passed (suc p) N ps) ≡ passed (suc p) N ps
        kept q e = subst (λ qs. passed q N qs ≡ qs) (sym all) e

        pub turning_on_quiet : p ≤ 1 → Turning (suc (suc p)) (quiet + 1) rounds (passed (suc p) N ps)
        turning_on_quiet h =
            let e : suc p ≡ suc (suc p) - 1 = omega arith in
            record {
              begun = T.begun;
              left = T.left;
              first = omega arith;
              last = omega arith;
              now = reached ∙ ap (λ q. after_passes N q T.begun) e;
              rests = T.rests;
              counted = T.counted;
              same = λ k. all ∙ T.same (omega arith);
              fewer = λ k. omega (arith, still, T.fewer (omega arith));
              one = λ k. kept (suc p) all;
              two = λ k. kept (pass_before (suc p)) (T.one (omega arith));
            }

    -- ---- from round to round

    module _ {quiet rounds : ℕ} {ps : List ℕ} (T : Turning 3 quiet rounds ps) where
      over : passed 3 N ps ≡ round N T.begun
      over = reached T ∙ three-passes N T.begun

      -- the next round begins with what is kept
      begins : (quiet' : ℕ) → length (passed 3 N ps) < length T.begun
          → (1 ≤ quiet' → passed 3 N (passed 3 N ps) ≡ passed 3 N ps) → (2 ≤ quiet' → passed 2 N (passed 3 N ps) ≡ passed 3 N ps)
          → Turning 1 quiet' (rounds + 1) (passed 3 N ps)
      unfolding after_passes
      begins quiet' l one two =
          let on = rests_next N T.rests (omega (arith, l, ap length over)) in
          record {
            begun = passed 3 N ps;
            left = on.0;
            first = omega arith;
            last = omega arith;
            now = refl;
            rests = subst (λ qs. Rests N qs on.0 final) (sym over) on.2;
            counted = omega (arith, T.counted, on.1);
            same = λ k. refl;
            fewer = λ k. absurd (omega arith);
            one = one;
            two = two;
          }

      pub turning-round : length (passed 3 N ps) < length ps → Turning 1 0 (rounds + 1) (passed 3 N ps)
      turning-round l = begins 0 (omega (arith, l, few T)) (λ k. absurd (omega arith)) (λ k. absurd (omega arith))

      pub turning-round-quiet : length (passed 3 N ps) ≡ length ps → quiet ≤ 1 → Turning 1 (quiet + 1) (rounds + 1) (passed 3 N ps)
      turning-round-quiet e h = begins (quiet + 1) (omega (arith, e, T.fewer (omega arith))) (λ k. kept T e 3 (all T e)) (λ k. kept T e 2 (T.one (omega arith)))

    -- ---- the end

    -- the third quiet pass in a row, whichever it is
    pub turning-ends : {pass rounds : ℕ} {ps : List ℕ} → Turning pass 2 rounds ps → length (passed pass N ps) ≡ length ps → (passed pass N ps ≡ final) × (rounds + 1 ≡ total)
    turning-ends {pass} {rounds} {ps} T e =
        let all = passed-still N pass ps e in
        let begun = T.same (omega (arith, T.last)) in
        let end = quiet N (subst (Still N) begun (calm pass T.first T.last all (T.one (omega arith)) (T.two (omega arith)))) T.rests in
        (all ∙ begun ∙ sym end.1, omega (arith, T.counted, end.0))
      where
        calm : (p : ℕ) → 1 ≤ p → p ≤ 3 → passed p N ps ≡ ps → passed (pass_before p) N ps ≡ ps → passed (pass_before (pass_before p)) N ps ≡ ps → Still N ps
        calm zero h l a b c = absurd (omega arith)
        calm (suc zero) h l a b c = record { one = a; two = c; three = b }
        calm (suc (suc zero)) h l a b c = record { one = b; two = a; three = c }
        calm (suc (suc (suc zero))) h l a b c = record { one = c; two = b; three = a }
        calm (suc (suc (suc (suc p)))) h l a b c = absurd (omega arith)
