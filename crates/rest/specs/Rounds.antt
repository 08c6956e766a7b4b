-- How a run comes to rest. `Rests` says what the request says: rounds are run until one removes none, each of the others removing at least one. The bound in
-- `rest_from` never ends a run (`rests`); so it has at most one round more than there are boundaries (`rounds-few`), 257 of 256 (`rounds_257`); at its end no
-- pass removes any (`still`); and further rounds change nothing (`rests-iterate`). Assumes nothing.
use Prim.Native.Nat.{ℕ, zero, suc, ◌+◌, ◌≤◌, ◌<◌}
use Rattle.std.proofs.Common.{arith, sym, ◌∙◌, eqb-true}
use Rattle.std.specs.Prelude.{◌≡◌, Bool, true, false, not, List, length, eqb}
use Rattle.std.proofs.Math.Path.{refl, ap, subst}
use Rattle.std.proofs.Math.Arith.{lt_of_le-ne}
use Rattle.std.proofs.lemmas.Bool.{eqb-false}
use Rattle.definitions.specs.Scan.{member, run}
use Rattle.definitions.specs.Grid.{Map}
use Rattle.definitions.specs.Rows.{removed_of}
use Rattle.laws.specs.ListLaws.Lists.{length_run}
use Rattle.rest_definitions.specs.Rest.{kept_map, passed, round, rest_from, rested}
use Rattle.rest.specs.Picking.{left-few, left-all}

module _ (N : Map) where
  -- ---- a pass, and a round

  abbrev keeps : ℕ → List ℕ → ℕ → Bool
  keeps pass ps k = not (member k (removed_of pass (kept_map N ps)))

  pub passed-few : (pass : ℕ) (ps : List ℕ) → length (passed pass N ps) ≤ length ps
  unfolding passed
  passed-few pass ps = left-few (keeps pass ps) ps 0

  -- a pass that leaves as many as there were leaves all
  pub passed-still : (pass : ℕ) (ps : List ℕ) → length (passed pass N ps) ≡ length ps → passed pass N ps ≡ ps
  unfolding passed
  passed-still pass ps e = left-all (keeps pass ps) ps 0 e

  pub round-few : (ps : List ℕ) → length (round N ps) ≤ length ps
  unfolding round
  round-few ps = omega (arith, passed-few 1 ps, passed-few 2 (passed 1 N ps), passed-few 3 (passed 2 N (passed 1 N ps)))

  -- what a round that leaves as many does: each of its passes removes none
  pub record Still (ps : List ℕ) : Type 0 where
    pub one : passed 1 N ps ≡ ps
    pub two : passed 2 N ps ≡ ps
    pub three : passed 3 N ps ≡ ps

  pub round-still : (ps : List ℕ) → length (round N ps) ≡ length ps → Still ps
  unfolding round
  round-still ps e =
      let a = passed-few 1 ps in
      let b = passed-few 2 (passed 1 N ps) in
      let c = passed-few 3 (passed 2 N (passed 1 N ps)) in
      let one = passed-still 1 ps (omega (arith, a, b, c)) in
      let two = passed-still 2 (passed 1 N ps) (omega (arith, a, b, c)) in
      let three = passed-still 3 (passed 2 N (passed 1 N ps)) (omega (arith, a, b, c)) in
      let two' : passed 2 N ps ≡ ps = subst (λ qs. passed 2 N qs ≡ qs) one two in
      let three' : passed 3 N ps ≡ ps = subst (λ qs. passed 3 N qs ≡ qs) two' (subst (λ qs. passed 3 N (passed 2 N qs) ≡ passed 2 N qs) one three) in
      record { one = one; two = two'; three = three' }

  pub still-round : {ps : List ℕ} → Still ps → round N ps ≡ ps
  unfolding round
  still-round S = ap (λ qs. passed 3 N (passed 2 N qs)) S.one ∙ ap (passed 3 N) S.two ∙ S.three

  -- ---- the run

  -- from the first list, k rounds come to rest at the second: the last removes none, the others at least one
  pub data Rests : List ℕ → ℕ → List ℕ → Type 0 where
    last : {ps : List ℕ} → Still ps → Rests ps 1 ps
    onward : {ps qs : List ℕ} {k : ℕ} → length (round N ps) < length ps → Rests (round N ps) k qs → Rests ps (suc k) qs

  stop : (n : ℕ) (ps : List ℕ) → rest_from n true N ps ≡ record { rounds = 0; places = ps }
  unfolding rest_from
  stop zero ps = refl
  stop (suc n) ps = refl

  -- the bound, if above how many there are, is not what ends the run
  pub rests : (n : ℕ) (ps : List ℕ) → length ps < n → Rests ps (rest_from n false N ps).rounds (rest_from n false N ps).places
  unfolding rest_from
  rests zero ps h = absurd (omega arith)
  rests (suc n) ps h = go (eqb (length (round N ps)) (length ps)) refl (rests n (round N ps))
    where
      ended : Still ps → Rests ps 1 (round N ps)
      ended S = subst (Rests ps 1) (sym (still-round S)) (last S)

      go : (b : Bool) → eqb (length (round N ps)) (length ps) ≡ b
          → (length (round N ps) < n → Rests (round N ps) (rest_from n false N (round N ps)).rounds (rest_from n false N (round N ps)).places)
          → Rests ps (suc (rest_from n b N (round N ps)).rounds) (rest_from n b N (round N ps)).places
      go true e ih = subst (λ r. Rests ps (suc r.rounds) r.places) (sym (stop n (round N ps))) (ended (round-still ps (eqb-true _ _ e)))
      go false e ih =
          let fewer : length (round N ps) < length ps = lt_of_le-ne (round-few ps) (eqb-false (length (round N ps)) (length ps) e) in
          onward {ps = ps} fewer (ih (omega arith))

  pub rested-rests : Rests (run 0 (length N.boundaries)) (rested N).rounds (rested N).places
  unfolding rested
  rested-rests = rests (suc (length N.boundaries)) (run 0 (length N.boundaries)) (omega (arith, length_run 0 (length N.boundaries)))

  -- ---- what follows

  pub rests-few : {ps qs : List ℕ} {k : ℕ} → Rests ps k qs → k + length qs ≤ suc (length ps)
  rests-few (last S) = omega arith
  rests-few (onward h r) = omega (arith, h, rests-few r)

  pub rests-still : {ps qs : List ℕ} {k : ℕ} → Rests ps k qs → Still qs
  rests-still (last S) = S
  rests-still (onward h r) = rests-still r

  -- "Every round but the last removes at least one"
  pub rounds-few : (rested N).rounds + length (rested N).places ≤ suc (length N.boundaries)
  rounds-few = omega (arith, rests-few rested-rests, length_run 0 (length N.boundaries))

  -- "so 256 boundaries need at most 257 rounds"
  pub rounds_257 : length N.boundaries ≤ 256 → (rested N).rounds ≤ 257
  rounds_257 h = omega (arith, rounds-few)

  pub still : Still (rested N).places
  still = rests-still rested-rests

  -- n rounds
  unfoldable pub iterate : ℕ → List ℕ → List ℕ
  iterate zero ps = ps
  iterate (suc n) ps = iterate n (round N ps)

  stays : (n : ℕ) {ps : List ℕ} → Still ps → iterate n ps ≡ ps
  unfolding iterate
  stays zero S = refl
  stays (suc n) S = ap (iterate n) (still-round S) ∙ stays n S

  pub rests-iterate : (n : ℕ) {ps qs : List ℕ} {k : ℕ} → Rests ps k qs → k ≤ suc n → iterate n ps ≡ qs
  unfolding iterate
  rests-iterate n (last S) h = stays n S
  rests-iterate zero (onward h (last S)) l = absurd (omega arith)
  rests-iterate zero (onward h (onward k r)) l = absurd (omega arith)
  rests-iterate (suc n) (onward h r) l = rests-iterate n r (omega arith)

  -- as many rounds as there are boundaries, or more, come to the same
  pub rested-iterate : (n : ℕ) → length N.boundaries ≤ n → (rested N).places ≡ iterate n (run 0 (length N.boundaries))
  rested-iterate n h = sym (rests-iterate n rested-rests (omega (arith, rounds-few)))

  -- ---- round by round, as a loop goes

  -- a round that removes some: the run goes on from there, one round shorter
  pub rests_next : {ps qs : List ℕ} {k : ℕ} → Rests ps k qs → length (round N ps) < length ps → (m : ℕ) × (k ≡ suc m) × Rests (round N ps) m qs
  rests_next {ps} (last S) h = absurd (omega (arith, ap length (still-round S)))
  rests_next (onward {k = m} l r) h = (m, refl, r)

  -- a round that removes none ends it
  pub rests-end : {ps qs : List ℕ} {k : ℕ} → Rests ps k qs → length (round N ps) ≡ length ps → (k ≡ 1) × (qs ≡ ps)
  rests-end (last S) h = (refl, refl)
  rests-end (onward l r) h = absurd (omega arith)

  -- the rounds and what is kept are determined
  pub rests_one : {ps qs qs' : List ℕ} {k k' : ℕ} → Rests ps k qs → Rests ps k' qs' → (k ≡ k') × (qs ≡ qs')
  rests_one (last S) (last T) = (refl, refl)
  rests_one (last S) (onward l r) = absurd (omega (arith, l, ap length (still-round S)))
  rests_one (onward l r) (last S) = absurd (omega (arith, l, ap length (still-round S)))
  rests_one (onward l r) (onward m s) =
      let e = rests_one r s in
      (ap suc e.0, e.1)

  -- ---- pass by pass, as one loop over passes goes

  -- what passes 1 to p of a round leave
  unfoldable pub after_passes : ℕ → List ℕ → List ℕ
  unfolding passed
  after_passes zero ps = ps
  after_passes (suc p) ps = passed (suc p) N (after_passes p ps)

  pub three-passes : (ps : List ℕ) → after_passes 3 ps ≡ round N ps
  unfolding after_passes round
  three-passes ps = refl

  -- three passes one after another that remove none, whichever comes first, end the run: the round in which the last of them stands, if it is not their own,
  -- is the last
  pub quiet : {ps qs : List ℕ} {k : ℕ} → Still ps → Rests ps k qs → (k ≡ 1) × (qs ≡ ps)
  quiet S r = rests-end r (ap length (still-round S))
