-- What a call that is ready (`GameReady`) and the second partition's rows of pairs say, as the end of the call asks it: no check before the first partition
-- refuses (`ready-early`), and the graph of the rows is the kept graph (`kept-edges`). Assumes nothing.
use Prim.Native.Nat.{ℕ, ◌+◌, ◌*◌, ◌/◌, ◌≤◌}
use native.Mathlib.Omega.{arith}
use mathlib.Core.Path.{◌≡◌, sym, ap, ◌∙◌}
use Rattle.std.specs.Prelude.{None}
use mathlib.Core.List.{List, [], ◌∷◌, ◌++◌}
use lib.ListN.{length, get_or, drop, get_or-append}
use borrow.Author.Tests.{le-leb}
use Rattle.definitions.specs.Lists.{overwrite}
use Rattle.definitions.specs.Refusals.{unless}
use Rattle.definitions.specs.Verdict.{refusal}
use Rattle.laws.specs.ListLaws.NoFault.{or_else_none}
use Rattle.cut_steps.specs.Prefixes.{gather_ext}
use Rattle.refusals.proofs.Steps.{next}
use Rattle.call_partition.specs.Early.{sizes_refusal, early_refusal}
use Rattle.game.specs.Graph.{verdicts_room, edges_in}
use Rattle.game_lists.specs.Early.{game_early}
use Rattle.game_lists.specs.Prepared.{GameReady}

pub ready-early : {pass w h : ℕ} {cells spans boundaries anchors : List ℕ} {room output verdicts : ℕ} {l m q t p : List ℕ} {regions rows : ℕ} {l' m' q' t' p' : List ℕ}
    → GameReady pass w h cells spans boundaries anchors room output verdicts l m q t p regions rows l' m' q' t' p'
    → None ≡ game_early pass w h cells spans boundaries anchors (length l) (length m) (length q) (length t) output verdicts
unfolding game_early early_refusal
ready-early {pass} {w} {h} {cells} {spans} {boundaries} {anchors} {verdicts = verdicts} G =
    next (or_else_none (sizes_refusal pass w h cells spans boundaries anchors) _ (sym G.ready.accepted)).0
    (next (ap (refusal 16) G.lists) (next (sym G.ready.accepted) (sym (ap (λ b. refusal 10 (unless b)) (le-leb verdicts_room verdicts G.enough)))))

-- the edges of the first rows of a list, whatever stands behind them
edges-front : (rows rest : List ℕ) (n : ℕ) → 3 * n ≤ length rows → edges_in (rows ++ rest) n ≡ edges_in rows n
unfolding edges_in
edges-front rows rest n h =
    gather_ext n (λ k. get_or (rows ++ rest) (3 * k + 1) 0 ∷ get_or (rows ++ rest) (3 * k + 2) 0 ∷ []) (λ k. get_or rows (3 * k + 1) 0 ∷ get_or rows (3 * k + 2) 0 ∷ [])
    (λ i l t. get_or-append rows rest 0 (3 * i + 1) (omega (arith, h, l)) t ∷ get_or-append rows rest 0 (3 * i + 2) (omega (arith, h, l)) t ∷ [])

pub kept-edges : (rows old : List ℕ) (n : ℕ) {pairs : List ℕ} → pairs ≡ overwrite rows old → 3 * n ≡ length rows → edges_in pairs n ≡ edges_in rows (length rows / 3)
kept-edges rows old n e count =
    let third : n ≡ length rows / 3 = omega (arith, count) in
    ap (λ l. edges_in l n) e ∙ edges-front rows (drop (length rows) old) n (omega (arith, count)) ∙ ap (edges_in rows) third
