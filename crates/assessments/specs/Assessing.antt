-- The assessment of a span as a visit of its cut steps: what it asks, what it does, and the laws of these. Steps are assessed one after the other: none, and a list behind
-- another. Assumes nothing.
use Rattle.std.specs.Prelude.{ℕ, ◌+◌, ◌*◌, ◌≤◌, ◌≡◌, List, [], ◌++◌, length, refl}
use Rattle.std.proofs.Common.{arith, sym, ◌∙◌, subst}
use mathlib.Core.List.{append_assoc, append-nil}
use Rattle.definitions.specs.Grid.{Map, Pair}
use Rattle.cut_steps.specs.Marking.{Shown}
use Rattle.cut_steps.specs.Visits.{VisitLaws}
use Rattle.cut_steps.specs.Among.{shown-among}
use Rattle.assessments.specs.declared.BoundaryAssessment.{BoundaryAssessment}
use Rattle.assessments.specs.declared.Assessing.{Assessing}
use Rattle.assessments.specs.Assess.{max_cell_edges, max_edges, Counting, Gathered, Assesses}

module _ {labels : List ℕ} {span first : ℕ} where
  pub assesses_none : {a : BoundaryAssessment} {now : List ℕ} → Assesses labels span first [] a now a now
  assesses_none {a} {now} = record { each = λ before old es G. subst (λ l. Gathered labels span first before old l a now) (sym (append-nil es)) G }

  pub assesses-both :
      {es fs : List Pair} {a b c : BoundaryAssessment} {now now' now'' : List ℕ}
      → Assesses labels span first es a now b now' → Assesses labels span first fs b now' c now'' → Assesses labels span first (es ++ fs) a now c now''
  assesses-both {es} {fs} {c = c} {now'' = now''} A B =
      record { each = λ before old l G. subst (λ m. Gathered labels span first before old m c now'') (append_assoc l es fs) (B.each before old (l ++ es) (A.each before old l G)) }

-- ---- the words

abbrev pub CountingIn : ℕ → Assessing → Type 0
CountingIn most s = Counting s.pairs.now s.first most s.found

abbrev pub AssessesIn : List Pair → Assessing → Assessing → Type 0
AssessesIn es s t = Assesses s.labels.now s.span s.first es s.found s.pairs.now t.found t.pairs.now

-- the same span with the same lists, of which the pairs alone may have changed
pub record Keeps (s t : Assessing) : Type 0 where
  pub masks : t.masks.now ≡ s.masks.now
  pub labels : t.labels.now ≡ s.labels.now
  pub span : t.span ≡ s.span
  pub first : t.first ≡ s.first
  pub pairs_name : t.pairs.ghost_name ≡ s.pairs.ghost_name

-- there is room in the counts for the steps of n cells more
pub record CellsRoom (n : ℕ) (s : Assessing) : Type 0 where
  pub counting : CountingIn max_edges s
  pub left : s.found.removed + max_cell_edges * n ≤ max_edges

-- each cell has a label, the masks show the steps, and there is room for the steps of n cells
pub record AssessReady (M : Map) (steps : List Pair) (n : ℕ) (s : Assessing) : Type 0 where
  pub labels_long : M.height * M.width ≤ length s.labels.now
  pub shown : Shown M s.masks.now steps
  pub room : CellsRoom n s

-- the steps are assessed, and took the room of n cells at most
pub record AssessVisited (M : Map) (steps : List Pair) (n : ℕ) (s t : Assessing) : Type 0 where
  pub kept : Keeps s t
  pub assessed : AssessesIn steps s t
  pub room : (m : ℕ) → CellsRoom (m + n) s → CellsRoom m t

-- ---- one after the other

pub kept_none : (s : Assessing) → Keeps s s
kept_none s = record { masks = refl; labels = refl; span = refl; first = refl; pairs_name = refl }

pub kept-then : {s t u : Assessing} → Keeps s t → Keeps t u → Keeps s u
kept-then a b =
    record { masks = b.masks ∙ a.masks; labels = b.labels ∙ a.labels; span = b.span ∙ a.span; first = b.first ∙ a.first; pairs_name = b.pairs_name ∙ a.pairs_name }

pub assessed-then : {E F : List Pair} {s t : Assessing} (u : Assessing) → Keeps s t → AssessesIn E s t → AssessesIn F t u → AssessesIn (E ++ F) s u
assessed-then {F = F} {s} {t} u k a b =
    assesses-both a
    (subst (λ l. Assesses l s.span s.first F t.found t.pairs.now u.found u.pairs.now) k.labels
    (subst (λ n. Assesses t.labels.now n s.first F t.found t.pairs.now u.found u.pairs.now) k.span
    (subst (λ n. Assesses t.labels.now t.span n F t.found t.pairs.now u.found u.pairs.now) k.first b)))

pub less_room : (m n : ℕ) {s : Assessing} → m ≤ n → CellsRoom n s → CellsRoom m s
less_room m n l r = record { counting = r.counting; left = omega (arith, r.left, l) }

pub assess_laws : VisitLaws AssessReady AssessVisited
assess_laws =
    record {
      none = λ M s. record { kept = kept_none s; assessed = assesses_none; room = λ m r. less_room m (m + 0) (omega arith) r };
      more = λ M E F m n s t u a b. record {
        kept = kept-then a.kept b.kept;
        assessed = assessed-then u a.kept a.assessed b.assessed;
        room = λ k r. b.room k (a.room (k + n) (less_room (k + n + m) (k + (m + n)) (omega arith) r));
      };
      most = λ M E m n s t l a. record { kept = a.kept; assessed = a.assessed; room = λ k r. a.room k (less_room (k + m) (k + n) (omega arith) r) };
      still = λ M E F m n s t a r. record {
        labels_long = subst (λ l. M.height * M.width ≤ length l) (sym a.kept.labels) r.labels_long;
        shown = subst (λ l. Shown M l F) (sym a.kept.masks) r.shown;
        room = a.room n (less_room (n + m) (m + n) (omega arith) r.room);
      };
      part = λ M E F m n s a l r. record { labels_long = r.labels_long; shown = shown-among a r.shown; room = less_room m n l r.room };
    }
