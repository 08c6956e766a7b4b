-- The loop of `run_turns`: before each turn the run stands at some places (`RunsAt`), where the passes are as `TurnsAt` says. A turn keeps this (`run-turn`),
-- the measure falls, since a pass removes some or is one quiet pass more (`run-lower`), and where three in a row were quiet the run has come to rest
-- (`run_ends`). Assumes nothing.
use Prim.Native.Nat.{ℕ, ◌+◌, ◌*◌, ◌-◌, ◌≤◌, ◌<◌}
use native.Mathlib.Omega.{arith}
use mathlib.Core.Path.{◌≡◌, refl, sym, ap, subst, ◌∙◌}
use mathlib.Core.Bool.{Bool, true, false, not, cond}
use mathlib.Core.List.{List}
use lib.ListN.{length}
use lib.Dec.{eqb}
use borrow.Author.Tests.{eqb-true, eqb-false}
use Rattle.definitions.specs.Grid.{Map}
use Rattle.context.specs.declared.Region.{Region}
use Rattle.rest_definitions.specs.RowOrder.{start_map}
use Rattle.rest_definitions.specs.Rest.{passed}
use Rattle.rest.specs.Rounds.{passed-few}
use Rattle.rest.specs.StartMaps.{start-boundaries, start-count}
use Rattle.checks.specs.Passes.{pass_number}
use Rattle.rest_lists.specs.declared.kept.Standing.{Standing}
use Rattle.rest_lists.specs.declared.turns.Turn.{Turn}
use Rattle.rest_lists.specs.Kept.{Origin, map_lent, all_places}
use Rattle.rest_lists.specs.Turns.{turn_of, turn_after, quiet_after}
use Rattle.rest_lists.proofs.Turned.{TurnsAt, turns-start, turns_next}
use Rattle.call_answers.specs.declared.rest_answers.RestKept.{RestKept}
use Rattle.topology.specs.Rest.{Stands, RanToRest, run-lists}
use Rattle.topology.proofs.Resting.{kept-few}

-- the starting map
abbrev start_of : (w h : ℕ) (cells anchors : List ℕ) → Origin → Map
start_of w h cells anchors O = start_map (map_lent w h cells anchors O)

-- where the run stands before a turn
pub record RunsAt (w h : ℕ) (cells anchors : List ℕ) (O : Origin) (s : List Region) (first standing : Standing) (turn : Turn)
    (l m q t p : List ℕ) (rs : List Region) (n b d : List ℕ) : Type 0 where
  pub places : List ℕ
  pub stands : Stands w h cells anchors O s places first standing (run-lists l m q t p rs n b d)
  pub turns : TurnsAt (start_map (map_lent w h cells anchors O)) (turn_of turn) places

module _ {w h : ℕ} {cells anchors : List ℕ} {O : Origin} {s : List Region} {first : Standing} where
  -- the starting list has at most 256 entries
  module _ {l m q t p : List ℕ} {rs : List Region} {n b d : List ℕ}
      (E : Stands w h cells anchors O s (all_places (map_lent w h cells anchors O)) first first (run-lists l m q t p rs n b d)) where
    pub start-few : length (start_of w h cells anchors O).boundaries ≤ 256
    start-few =
        let M = map_lent w h cells anchors O in
        omega (arith, kept-few E, E.lists.firsts.kept, start-count M, start-boundaries M)

    pub run-starts : {turn : Turn} → turn_of turn ≡ record { pass = 1; quiet = 0; rounds = 0 } → RunsAt w h cells anchors O s first first turn l m q t p rs n b d
    run-starts e =
        record {
          places = all_places (map_lent w h cells anchors O);
          stands = E;
          turns = subst (λ x. TurnsAt (start_of w h cells anchors O) x (all_places (map_lent w h cells anchors O))) (sym e) (turns-start (start_of w h cells anchors O) start-few);
        }

  module _ {standing : Standing} {turn : Turn} {l m q t p : List ℕ} {rs : List Region} {n b d : List ℕ}
      (R : RunsAt w h cells anchors O s first standing turn l m q t p rs n b d) where
    pub run_next : (turn.quiet ≤ 3) × (turn.rounds ≤ 257)
    run_next = (R.turns.quiet, R.turns.rounds)

    module _ (few : length (start_of w h cells anchors O).boundaries ≤ 256) (going : turn.quiet < 3) {next : Standing} (turn' : Turn) {removed : Bool}
        {l' m' q' t' p' : List ℕ} {rs' : List Region} {n' b' d' : List ℕ}
        (N : Stands w h cells anchors O s (passed (pass_number turn.pass) (start_of w h cells anchors O) R.places) first next (run-lists l' m' q' t' p' rs' n' b' d'))
        (gone : removed ≡ not (eqb next.kept standing.kept)) (after : turn_of turn' ≡ turn_after (turn_of turn) removed) where
      pub run-turn : RunsAt w h cells anchors O s first next turn' l' m' q' t' p' rs' n' b' d'
      run-turn =
          record {
            places = passed (pass_number turn.pass) (start_of w h cells anchors O) R.places;
            stands = N;
            turns =
                subst (λ x. TurnsAt (start_of w h cells anchors O) x (passed (pass_number turn.pass) (start_of w h cells anchors O) R.places)) (sym after)
                (turns_next (start_of w h cells anchors O) few R.turns going R.stands.lists.count N.lists.count gone);
          }

      pub run-lower : 3 * next.kept + (3 - turn'.quiet) < 3 * standing.kept + (3 - turn.quiet)
      run-lower = go (eqb next.kept standing.kept) refl
        where
          fewer : next.kept ≤ standing.kept
          fewer = omega (arith, N.lists.count, R.stands.lists.count, passed-few (start_of w h cells anchors O) (pass_number turn.pass) R.places)

          quiet_is : turn'.quiet ≡ quiet_after turn.quiet removed
          quiet_is = ap (λ x. x.quiet) after

          go : (e : Bool) → eqb next.kept standing.kept ≡ e → 3 * next.kept + (3 - turn'.quiet) < 3 * standing.kept + (3 - turn.quiet)
          go true e =
              let k = eqb-true next.kept standing.kept e in
              let quiet : turn'.quiet ≡ turn.quiet + 1 = quiet_is ∙ ap (quiet_after turn.quiet) (gone ∙ ap not e) in
              omega (arith, k, quiet, going)
          go false e =
              let k = eqb-false next.kept standing.kept e in
              let quiet : turn'.quiet ≡ 0 = quiet_is ∙ ap (quiet_after turn.quiet) (gone ∙ ap not e) in
              omega (arith, k, quiet, going, fewer)

    pub run_ends : 3 ≤ turn.quiet → {a : RestKept} → a.kept ≡ standing.kept
        → a.rounds ≡ cond (eqb (pass_number turn.pass) 1) turn.rounds (turn.rounds + 1) → RanToRest w h cells anchors O s first a (run-lists l m q t p rs n b d)
    run_ends f ev er =
        let end = R.turns.over (omega (arith, f, R.turns.quiet)) in
        record {
          standing = standing;
          value = ev;
          rounds = er ∙ end.1;
          stands = subst (λ ps. Stands w h cells anchors O s ps first standing (run-lists l m q t p rs n b d)) end.0 R.stands;
        }
