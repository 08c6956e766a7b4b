-- A refusal has left every list as it must; of a call that is ready the second partition's lists and the verdicts are filled (Playing).
use Rattle.std.proofs.Common.{rules, refl, ◌≡◌}
use Rattle.std.specs.Prelude.{Err}
use Rattle.topology.proofs.Playing.{game_named, game_as, refused_over, runs-ready, rows_fit, played-over, played_as}
use Rattle.topology.proofs.games.topology_runner_and_guard.Goals as goal

pub returns-in_err-pass-clause-played : goal.returns-in_err-pass-clause-played
returns-in_err-pass-clause-played c =
    let given : c.from_residual.result ≡ Err c.in_err-pass.field-0.0 = search rules in
    rw given (refused_over c.args.goal c.args.records.now c.args.output.now c.args.verdicts.now c.prepare_game.ensures.prepared c.in_err-pass.was refl refl refl)

pub run_kept-second-requires : goal.run_kept-second-requires
run_kept-second-requires c =
    let G = game_as _ (game_named c.prepare_game.ensures.prepared c.in_ok-pass.was) in
    let size = c.prepare_game.ensures.same in
    (_, runs-ready G c.args.records.now c.args.output.now refl refl size.labels_long size.masks_long size.queue_long_lem size.tallies_long size.pairs_long)

pub play-requires : goal.play-requires
play-requires c =
    let G = game_as _ (game_named c.prepare_game.ensures.prepared c.in_ok-pass.was) in
    let size = c.prepare_game.ensures.same in
    let runs = runs-ready G c.args.records.now c.args.output.now refl refl size.labels_long size.masks_long size.queue_long_lem size.tallies_long size.pairs_long in
    (rows_fit G (c.run_kept-second.ensures.kept _ runs), G.enough)

pub returns-clause-played : goal.returns-clause-played
returns-clause-played c =
    let G = game_as _ (game_named c.prepare_game.ensures.prepared c.in_ok-pass.was) in
    let named = (game_named c.prepare_game.ensures.prepared c.in_ok-pass.was).0 in
    let size = c.prepare_game.ensures.same in
    let runs = runs-ready G c.args.records.now c.args.output.now refl refl size.labels_long size.masks_long size.queue_long_lem size.tallies_long size.pairs_long in
    played_as _ named (played-over G (c.run_kept-second.ensures.kept _ runs) c.args.goal c.args.verdicts.now refl refl refl c.play.ensures.answer c.play.ensures.verdicts)
