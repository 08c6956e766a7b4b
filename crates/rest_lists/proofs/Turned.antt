-- The turns of a run: before each the passes stand as `Turning` says, and behind the third quiet pass in a row the run has come to rest (`TurnsAt`). A turn
-- keeps this (`turns_next`), by the laws of `Turning`: a pass that removes some begins the count of quiet ones anew, and behind pass 3 the next round begins.
-- Assumes at most 256 boundaries.
use Prim.Native.Nat.{ℕ, zero, suc, ◌+◌, ◌≤◌, ◌<◌}
use native.Mathlib.Omega.{arith}
use lib.Arith.{lt_of_le-ne}
use mathlib.Core.Path.{◌≡◌, sym, ◌∙◌}
use mathlib.Core.Bool.{Bool, true, false, not, cond}
use mathlib.Core.List.{List}
use lib.ListN.{length}
use lib.Dec.{eqb}
use borrow.Author.Tests.{eqb-true, eqb-false, not-true, not-false}
use Rattle.definitions.specs.Scan.{run}
use Rattle.definitions.specs.Grid.{Map}
use Rattle.rest_definitions.specs.Rest.{passed, rested}
use Rattle.rest.specs.Rounds.{passed-few, rested-rests, rounds_257}
use Rattle.rest.specs.Turning.{Turning, turning-starts, turning_on, turning_on_quiet, turning-round, turning-round-quiet, turning-ends}
use Rattle.rest_lists.specs.Turns.{TurnIs, turn_after}

-- the rounds of a run that ends before this turn
abbrev pub rounds_at : TurnIs → ℕ
rounds_at t = cond (eqb t.pass 1) t.rounds (t.rounds + 1)

pub record TurnsAt (N : Map) (t : TurnIs) (ps : List ℕ) : Type 0 where
  pub first : 1 ≤ t.pass
  pub last : t.pass ≤ 3
  pub quiet : t.quiet ≤ 3
  pub rounds : t.rounds ≤ 257
  pub going : t.quiet < 3 → Turning N (rested N).rounds (rested N).places t.pass t.quiet t.rounds ps
  pub over : t.quiet ≡ 3 → (ps ≡ (rested N).places) × (rounds_at t ≡ (rested N).rounds)

module _ (N : Map) (few : length N.boundaries ≤ 256) where
  abbrev total : ℕ
  total = (rested N).rounds

  abbrev final : List ℕ
  final = (rested N).places

  at_turn : {pass quiet rounds : ℕ} {ps : List ℕ} → quiet ≤ 2 → Turning N total final pass quiet rounds ps
      → TurnsAt N (record { pass = pass; quiet = quiet; rounds = rounds }) ps
  at_turn h T =
      record {
        first = T.first;
        last = T.last;
        quiet = omega arith;
        rounds = omega (arith, T.counted, rounds_257 N few);
        going = λ l. T;
        over = λ e. absurd (omega arith);
      }

  at-end : {pass rounds : ℕ} {ps : List ℕ} → 1 ≤ pass → pass ≤ 3 → rounds ≤ 257 → ps ≡ final → rounds_at (record { pass = pass; quiet = 3; rounds = rounds }) ≡ total
      → TurnsAt N (record { pass = pass; quiet = 3; rounds = rounds }) ps
  at-end f l r e k = record { first = f; last = l; quiet = omega arith; rounds = r; going = λ h. absurd (omega arith); over = λ h. (e, k) }

  pub turns-start : TurnsAt N (record { pass = 1; quiet = 0; rounds = 0 }) (run 0 (length N.boundaries))
  turns-start = at_turn (omega arith) (turning-starts N total final (rested-rests N))

  -- a pass that removes some
  some_go : (pass quiet rounds : ℕ) (ps : List ℕ) → Turning N total final pass quiet rounds ps → length (passed pass N ps) < length ps
      → TurnsAt N (turn_after (record { pass = pass; quiet = quiet; rounds = rounds }) true) (passed pass N ps)
  some_go zero quiet rounds ps T l = absurd (omega (arith, T.first))
  some_go (suc zero) quiet rounds ps T l = at_turn (omega arith) (turning_on N total final T (omega arith) l)
  some_go (suc (suc zero)) quiet rounds ps T l = at_turn (omega arith) (turning_on N total final T (omega arith) l)
  some_go (suc (suc (suc zero))) quiet rounds ps T l = at_turn (omega arith) (turning-round N total final T l)
  some_go (suc (suc (suc (suc p)))) quiet rounds ps T l = absurd (omega (arith, T.last))

  -- a quiet one, that is not the third
  none_go : (pass quiet rounds : ℕ) (ps : List ℕ) → quiet ≤ 1 → Turning N total final pass quiet rounds ps → length (passed pass N ps) ≡ length ps
      → TurnsAt N (turn_after (record { pass = pass; quiet = quiet; rounds = rounds }) false) (passed pass N ps)
  none_go zero quiet rounds ps h T e = absurd (omega (arith, T.first))
  none_go (suc zero) quiet rounds ps h T e = at_turn (omega arith) (turning_on_quiet N total final T e (omega arith))
  none_go (suc (suc zero)) quiet rounds ps h T e = at_turn (omega arith) (turning_on_quiet N total final T e (omega arith))
  none_go (suc (suc (suc zero))) quiet rounds ps h T e = at_turn (omega arith) (turning-round-quiet N total final T e h)
  none_go (suc (suc (suc (suc p)))) quiet rounds ps h T e = absurd (omega (arith, T.last))

  -- the third
  third : (pass rounds : ℕ) (ps : List ℕ) → Turning N total final pass 2 rounds ps → length (passed pass N ps) ≡ length ps
      → TurnsAt N (turn_after (record { pass = pass; quiet = 2; rounds = rounds }) false) (passed pass N ps)
  third zero rounds ps T e = absurd (omega (arith, T.first))
  third (suc zero) rounds ps T e =
      let end = turning-ends N total final T e in
      at-end (omega arith) (omega arith) (omega (arith, end.1, rounds_257 N few)) end.0 end.1
  third (suc (suc zero)) rounds ps T e =
      let end = turning-ends N total final T e in
      at-end (omega arith) (omega arith) (omega (arith, end.1, rounds_257 N few)) end.0 end.1
  third (suc (suc (suc zero))) rounds ps T e =
      let end = turning-ends N total final T e in
      at-end (omega arith) (omega arith) (omega (arith, end.1, rounds_257 N few)) end.0 end.1
  third (suc (suc (suc (suc p)))) rounds ps T e = absurd (omega (arith, T.last))

  quiet-go : (pass quiet rounds : ℕ) (ps : List ℕ) → quiet < 3 → Turning N total final pass quiet rounds ps → length (passed pass N ps) ≡ length ps
      → TurnsAt N (turn_after (record { pass = pass; quiet = quiet; rounds = rounds }) false) (passed pass N ps)
  quiet-go pass zero rounds ps h T e = none_go pass 0 rounds ps (omega arith) T e
  quiet-go pass (suc zero) rounds ps h T e = none_go pass 1 rounds ps (omega arith) T e
  quiet-go pass (suc (suc zero)) rounds ps h T e = third pass rounds ps T e
  quiet-go pass (suc (suc (suc q))) rounds ps h T e = absurd (omega arith)

  -- one turn more: so many were kept before it, and are left
  pub turns_next : {t : TurnIs} {ps : List ℕ} {before left : ℕ} → TurnsAt N t ps → t.quiet < 3 → before ≡ length ps → left ≡ length (passed t.pass N ps)
      → {removed : Bool} → removed ≡ not (eqb left before) → TurnsAt N (turn_after t removed) (passed t.pass N ps)
  turns_next {t} {ps} {before} {left} T h b l {removed} e = go removed e
    where
      go : (r : Bool) → r ≡ not (eqb left before) → TurnsAt N (turn_after t r) (passed t.pass N ps)
      go true f =
          let n = eqb-false left before (not-true (eqb left before) (sym f)) in
          some_go t.pass t.quiet t.rounds ps (T.going h) (lt_of_le-ne (passed-few N t.pass ps) (λ q. n (l ∙ q ∙ sym b)))
      go false f =
          quiet-go t.pass t.quiet t.rounds ps h (T.going h) (sym l ∙ eqb-true left before (not-false (eqb left before) (sym f)) ∙ b)
