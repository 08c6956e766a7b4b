-- A turn keeps what is known of the run (`run-turn`), and the measure falls (`run-lower`); where three passes in a row were quiet the run has come to rest
-- (`run_ends`).
use Rattle.std.proofs.Common.{refl}
use Rattle.topology.proofs.Lending.{same_at_entry, still_same, kept_at_entry, still_kept}
use Rattle.topology.proofs.Running.{start-few, run-starts, run_next, run-turn, run-lower, run_ends}
use Rattle.topology.proofs.to_rest.run_turns.Goals as goal

pub loop-turn-init : goal.loop-turn-init
loop-turn-init c = (λ O s E. run-starts E c.first_turn-turn.ensures, same_at_entry _, kept_at_entry _)

pub turn_once-next-requires : goal.turn_once-next-requires
turn_once-next-requires c = (_, _, _, (c.loop-turn.invariant.0 _ _ c.requires.2).stands)

pub next-turn-requires : goal.next-turn-requires
next-turn-requires c = run_next (c.loop-turn.invariant.0 _ _ c.requires.2)

pub loop-turn-smaller : goal.loop-turn-smaller
loop-turn-smaller c =
    let E = c.requires.2 in
    let R = c.loop-turn.invariant.0 _ _ E in
    run-lower R (start-few E) c.loop-turn-test.true c.next-turn.result (c.turn_once-next.ensures.stands _ _ _ R.stands) refl c.next-turn.ensures

pub loop-turn-preserved : goal.loop-turn-preserved
loop-turn-preserved c = (
  λ O s E.
      let R = c.loop-turn.invariant.0 O s E in
      run-turn R (start-few E) c.loop-turn-test.true c.next-turn.result (c.turn_once-next.ensures.stands _ _ _ R.stands) refl c.next-turn.ensures,
  still_same c.loop-turn.invariant.1 c.turn_once-next.ensures.same,
  still_kept c.loop-turn.invariant.2 c.turn_once-next.ensures.same_kept,
)

pub rounds_run-requires : goal.rounds_run-requires
rounds_run-requires c = (c.loop-turn.invariant.0 _ _ c.requires.2).turns.rounds

pub returns-clause-rests : goal.returns-clause-rests
returns-clause-rests c = λ O s E. run_ends (c.loop-turn.invariant.0 O s E) c.loop-turn-test.false refl c.rounds_run.ensures

pub returns-clause-same : goal.returns-clause-same
returns-clause-same c = c.loop-turn.invariant.1

pub returns-clause-same_kept : goal.returns-clause-same_kept
returns-clause-same_kept c = c.loop-turn.invariant.2
