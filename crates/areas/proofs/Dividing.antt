-- The contract of the partition from labels, cleared masks and queue, and assessed spans. Assumes nothing.
use Prim.Native.Nat.{ℕ, ◌*◌, ◌<◌}
use native.Mathlib.Omega.{arith}
use mathlib.Core.Path.{◌≡◌, sym, ap, ap₂, ◌∙◌, subst}
use Rattle.std.specs.Prelude.{Option, None, Some, Ok, Err}
use mathlib.Core.List.{List, [], ◌++◌}
use lib.ListN.{length, get_or, drop, replicate, get_or-append}
use lib.Seq.{drop-length}
use Rattle.definitions.specs.Grid.{Map, map_of, cell_count}
use Rattle.definitions.specs.Lists.{overwrite, zeroed}
use Rattle.definitions.specs.Partition.{labels}
use Rattle.definitions.specs.Context.{context_of}
use Rattle.definitions.specs.Verdict.{map_in, pair_rows_of}
use Rattle.laws.specs.RegionLaws.Regions.{labels_length}
use Rattle.row_runs.specs.Contract.{Labelled as CellsLabelled}
use Rattle.cut_steps.specs.Marking.{SpansShown}
use Rattle.assessments.specs.Contract.{AssessAsked, Answers, SpansAssessed}
use Rattle.refusals.specs.declared.Cause.TheVariants.{Pairs}
use Rattle.areas.specs.Contract.{given, early_refusal, Ran}
use Rattle.areas.specs.Fit.{Fit}
use Rattle.areas.specs.Labelled.{LabelledAs}
use Rattle.areas.proofs.Labelling.{zeroed-again, spans-alone}
use Rattle.areas.proofs.Exits.{Labelled, ran_complete, ran-pairs}

-- the labels that the lists begin with
pub labels-shown : (M : Map) (l : List ℕ) {l' : List ℕ} → l' ≡ overwrite (labels M) l → (c : ℕ) → c < M.height * M.width → get_or l' c 0 ≡ get_or (labels M) c 0
unfolding cell_count
labels-shown M l e c h = ap (λ z. get_or z c 0) e ∙ get_or-append (labels M) (drop (length (labels M)) l) 0 c (omega (arith, labels_length M))

-- what the assessment asks
pub assess_asked : {w h : ℕ} {cells spans : List ℕ} {l m q : ℕ} {t l' m' : List ℕ} → Fit w h cells spans l m q (length t) → SpansShown w h cells spans m' → length l' ≡ l → AssessAsked w h cells m' spans l' t
assess_asked F shown e = record { few = F.few; shown = shown; labels_long = omega (arith, F.labels_long, e); tallies_long = F.tallies_long }

-- two lists of one length, cleared whole
pub cleared-whole : (p p₁ : List ℕ) → length p₁ ≡ length p → zeroed (length p₁) p₁ ≡ zeroed (length p) p
cleared-whole p p₁ e = ap₂ (λ n r. replicate n 0 ++ r) e (drop-length p₁ ∙ sym (drop-length p))

module _ (w h : ℕ) (cells spans l m q t p : List ℕ) {l' m₁ q₁ m' q' : List ℕ} {r : ℕ} (A : LabelledAs w h cells spans l m q l' m₁ q₁ r) (em : m' ≡ zeroed (h * w) m₁) (eq : q' ≡ zeroed (h * w) q₁) where
  abbrev M : Map
  M = map_of w h cells spans [] []

  found : CellsLabelled M l q l' q₁ r
  found = A.maps M (spans-alone w h cells spans)

  begun : Labelled w h cells spans l m q t p l' m' q'
  unfolding map_in map_of cell_count
  begun =
      record {
        filled = found.labels;
        masks = em ∙ zeroed-again (h * w) m m₁ A.rest;
        queue = eq ∙ zeroed-again (h * w) q q₁ found.beyond;
      }

  module _ {t' p₁ : List ℕ} {a : Option ℕ} (S : SpansAssessed w h cells spans l' t p t' p₁ a) where
    pub divided_whole : {n : ℕ} → a ≡ Some n → None ≡ early_refusal w h cells spans (length l) (length m) (length q) (length t) → Ran (given w h cells spans l m q t p) (Ok r) l' m' q' t' p₁
    unfolding map_in map_of
    divided_whole e none-early =
        let assessed = S M (spans-alone w h cells spans) (labels-shown M l found.labels) in
        let rows = subst (λ x. Answers x (pair_rows_of (context_of M)) p p₁) e assessed.answer in
        ran_complete w h cells spans l m q t p none-early begun assessed.counts r found.count rows.0 rows.2

    pub divided_short : {p' : List ℕ} → a ≡ None → p' ≡ zeroed (length p₁) p₁ → None ≡ early_refusal w h cells spans (length l) (length m) (length q) (length t) → Ran (given w h cells spans l m q t p) (Err (record { cause = Pairs; place = 0 })) l' m' q' t' p'
    unfolding map_in map_of
    divided_short e cleared none-early =
        let assessed = S M (spans-alone w h cells spans) (labels-shown M l found.labels) in
        let rows = subst (λ x. Answers x (pair_rows_of (context_of M)) p p₁) e assessed.answer in
        ran-pairs w h cells spans l m q t p none-early begun assessed.counts rows.0 (cleared ∙ cleared-whole p p₁ rows.1)
