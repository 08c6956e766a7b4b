-- The contract of the call that plays on the kept graph, by the case of what its first part answers: a refusal has left every list as it must
-- (`refused_over`); of a call that is ready the second partition's lists and the verdicts are filled (`played-over`). Assumes nothing.
use Prim.Native.Nat.{ℕ, ◌*◌, ◌≤◌}
use native.Mathlib.Omega.{arith}
use mathlib.Core.Path.{◌≡◌, refl, sym, ap, ap₂, subst, ◌∙◌}
use Rattle.std.specs.Prelude.{None, Result, Ok, Err}
use mathlib.Core.List.{List, map}
use lib.ListN.{length, drop, length-append, length-map}
use Rattle.definitions.specs.Lists.{zeroed}
use Rattle.definitions.specs.Grid.{Map, map_of}
use Rattle.definitions.specs.Partition.{region_count}
use Rattle.definitions.specs.Context.{context_of}
use Rattle.definitions.specs.Rows.{rows_of}
use Rattle.definitions.specs.Verdict.{pair_rows_of}
use Rattle.definitions.specs.AtExit.{complete}
use Rattle.context.specs.declared.Region.{Region}
use Rattle.context.specs.Records.{record_of}
use Rattle.refusals.specs.declared.Refusal as code
use Rattle.refusals.specs.Refusals.{number_of}
use Rattle.checks.specs.declared.passes.Pass.{Pass}
use Rattle.checks.specs.Passes.{pass_number}
use Rattle.call_partition.specs.declared.Ready.{Ready}
use Rattle.game.specs.Graph.{edges_in, graph_of, verdicts_at_exit}
use Rattle.game_calls.specs.KeptGraph.{graph_map, kept_game}
use Rattle.game_calls.specs.GameVerdict.{GameAnswer}
use Rattle.game_calls.specs.GameExit.{game_stage}
use Rattle.game_lists.specs.Early.{game_early}
use Rattle.game_lists.specs.Forms.{late_answer}
use Rattle.game_lists.specs.Prepared.{GameReady, GamePreparedAs}
use Rattle.game_lists.proofs.Answering.{late_complete, played_complete}
use Rattle.game_lists.proofs.Ready.{ready-early, kept-edges}
use Rattle.rest_lists.specs.declared.kept.Standing.{Standing}
use Rattle.topology.specs.Games.{Begun, RunsKept, RanKept, written_at, PlayedOver}
use Rattle.topology.specs.Lent.{LentLists, LeftLists, lends, leaves}

-- the lists as they were lent
abbrev pub begun : ℕ → List ℕ → List ℕ → List ℕ → List ℕ → List ℕ → Begun
begun verdicts l m q t p = record { verdicts = verdicts; labels = l; masks = m; queue = q; tallies = t; pairs = p }

module _ {pass w h : ℕ} {cells spans boundaries anchors : List ℕ} {room output verdicts : ℕ} {l m q t p l' m' q' t' p' : List ℕ} where
  -- by the case of the answer
  pub game_named : {r : Result (Pass × Ready) code.Refusal} {y : Pass × Ready} → GamePreparedAs pass w h cells spans boundaries anchors room output verdicts l m q t p r l' m' q' t' p'
      → r ≡ Ok y → (pass_number y.0 ≡ pass) × GameReady pass w h cells spans boundaries anchors room output verdicts l m q t p y.1.regions y.1.rows l' m' q' t' p'
  game_named a e = subst (λ r. GamePreparedAs pass w h cells spans boundaries anchors room output verdicts l m q t p r l' m' q' t' p') e a

  -- of the pass itself
  pub game_as : (y : Pass × Ready) → (pass_number y.0 ≡ pass) × GameReady pass w h cells spans boundaries anchors room output verdicts l m q t p y.1.regions y.1.rows l' m' q' t' p'
      → GameReady (pass_number y.0) w h cells spans boundaries anchors room output verdicts l m q t p y.1.regions y.1.rows l' m' q' t' p'
  game_as y P = subst (λ n. GameReady n w h cells spans boundaries anchors room output verdicts l m q t p y.1.regions y.1.rows l' m' q' t' p') (sym P.0) P.1

  pub refused_over : {r : Result (Pass × Ready) code.Refusal} {x : code.Refusal} (goal : ℕ) (s : List Region) (o v : List ℕ)
      → GamePreparedAs pass w h cells spans boundaries anchors room output verdicts l m q t p r l' m' q' t' p' → r ≡ Err x
      → length s ≡ room → length o ≡ output → length v ≡ verdicts
      → PlayedOver pass (lends w h cells spans boundaries anchors l m q t p s o) goal v (record { number = number_of x.cause; value = x.place; regions = 0 }) (leaves l' m' q' t' p' s o) v
  refused_over {x = x} goal s o v prepared e long wide table =
      let at : GamePreparedAs pass w h cells spans boundaries anchors room output verdicts l m q t p (Err x) l' m' q' t' p'
      = subst (λ r. GamePreparedAs pass w h cells spans boundaries anchors room output verdicts l m q t p r l' m' q' t' p') e prepared in
      record { played = at goal (map record_of s) o v (length-map s record_of ∙ long) wide table; beyond = refl }

  module _ {regions rows : ℕ} (G : GameReady pass w h cells spans boundaries anchors room output verdicts l m q t p regions rows l' m' q' t' p') where
    abbrev M : Map
    M = map_of w h cells spans boundaries anchors

    abbrev K : Map
    K = graph_map pass M

    -- what `run_kept` asks
    pub runs-ready : (s : List Region) (o : List ℕ) → length s ≡ room → length o ≡ output → length l' ≡ length l → length m' ≡ length m → length q' ≡ length q → length t' ≡ length t → length p' ≡ length p
        → RunsKept (begun verdicts l m q t p) pass (lends w h cells spans boundaries anchors l' m' q' t' p' s o) regions rows
    runs-ready s o long wide longL longM longQ longT longP =
        let ready : GameReady pass w h cells spans boundaries anchors (length s) (length o) verdicts l m q t p regions rows l' m' q' t' p'
        = subst (λ k. GameReady pass w h cells spans boundaries anchors k (length o) verdicts l m q t p regions rows l' m' q' t' p') (sym long)
        (subst (λ k. GameReady pass w h cells spans boundaries anchors room k verdicts l m q t p regions rows l' m' q' t' p') (sym wide) G) in
        record { ready = ready; labels_long = longL; masks_long = longM; queue_long_lem = longQ; tallies_long = longT; pairs_long = longP }

    module _ {s : List Region} {o : List ℕ} {r : Standing} {l₂ m₂ q₂ t₂ p₂ : List ℕ} {s₂ : List Region} {o₂ : List ℕ}
        (R : RanKept (begun verdicts l m q t p) pass (lends w h cells spans boundaries anchors l' m' q' t' p' s o) r (leaves l₂ m₂ q₂ t₂ p₂ s₂ o₂)) where
      -- what `play` asks
      pub rows_fit : 3 * r.rows ≤ length p₂
      rows_fit =
          let pairs = pair_rows_of (context_of K) in
          omega (arith, R.rows, ap length R.pairs, length-append pairs (drop (length pairs) (zeroed (length (pair_rows_of (context_of M))) p)))

      -- the graph that is played on is the kept graph
      same_game : (goal : ℕ) → graph_of r.regions (edges_in p₂ r.rows) goal ≡ kept_game pass M goal
      unfolding kept_game
      same_game goal =
          let pairs = pair_rows_of (context_of K) in
          ap₂ (λ n e. graph_of n e goal) R.regions (kept-edges pairs (zeroed (length (pair_rows_of (context_of M))) p) r.rows R.pairs R.rows)

      pub played-over : (goal : ℕ) (v : List ℕ) {a : GameAnswer} {v₂ : List ℕ} → length s ≡ room → length o ≡ output → length v ≡ verdicts
          → a ≡ late_answer r.kept r.regions goal → v₂ ≡ verdicts_at_exit (graph_of r.regions (edges_in p₂ r.rows) goal) v a.number
          → PlayedOver pass (lends w h cells spans boundaries anchors l m q t p s o) goal v a (leaves l₂ m₂ q₂ t₂ p₂ s₂ o₂) v₂
      played-over goal v {a} {v₂} long wide table answer filled =
          let early : None ≡ game_early pass w h cells spans boundaries anchors (length l) (length m) (length q) (length t) (length o) (length v)
          = ready-early G ∙ ap₂ (game_early pass w h cells spans boundaries anchors (length l) (length m) (length q) (length t)) (sym wide) (sym table) in
          let few : region_count M ≤ length (map record_of s) = omega (arith, G.ready.enough, length-map s record_of, long) in
          let is : a ≡ late_answer (length (rows_of pass M)) (region_count K) goal = answer ∙ ap₂ (λ k n. late_answer k n goal) R.kept R.regions in
          let verdicts-are : v₂ ≡ verdicts_at_exit (kept_game pass M goal) v a.number = filled ∙ ap (λ g. verdicts_at_exit g v a.number) (same_game goal) in
          let stage : game_stage a.number ≡ complete = ap (λ b. game_stage b.number) answer ∙ late_complete r.kept r.regions goal in
          record {
            played =
                played_complete pass w h cells spans boundaries anchors l m q t p (map record_of s) o goal v early few G.ready.fits is R.labels R.masks R.queue
                R.tallies R.pairs R.records R.output verdicts-are;
            beyond = subst (λ g. drop (written_at g (region_count M)) s₂ ≡ drop (written_at g (region_count M)) s) (sym stage) R.beyond;
          }

-- by the number of the pass that was asked for
pub played_as : {k pass : ℕ} (L : LentLists) {goal : ℕ} {were : List ℕ} {a : GameAnswer} {E : LeftLists} {verdicts : List ℕ} → k ≡ pass
    → PlayedOver k L goal were a E verdicts → PlayedOver pass L goal were a E verdicts
played_as L {goal} {were} {a} {E} {verdicts} e P = subst (λ n. PlayedOver n L goal were a E verdicts) e P
