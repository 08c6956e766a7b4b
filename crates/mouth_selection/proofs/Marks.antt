-- Marks of regions: what holding a region, a row and the rows of a mouth does to them, and that a proposal is held exactly where its marks say so. Assumes nothing.
use Rattle.mouth_proposals.specs.Candidates.{is_triangular, Numbered, proposal_of}
use Rattle.mouth_proposals.specs.declared.mouths.MouthKind.{MouthKind}
use Prim.Native.Nat.{ℕ, ◌+◌, ◌-◌, ◌*◌, ◌%◌, ◌≤◌, ◌<◌}
use native.Mathlib.Omega.{arith}
use mathlib.Core.Path.{◌≡◌, refl, sym, ap, ap₂, ◌∙◌}
use Rattle.std.specs.Prelude.{Option, None, Some}
use mathlib.Core.Bool.{Bool, true, false, not, ◌&&◌, ◌||◌, cond, or-false}
use mathlib.Core.Logic.{⊎_elim}
use mathlib.Core.List.{List, [], ◌∷◌, ◌++◌}
use lib.ListN.{length, get_or, set, length-set}
use lib.Seq.{get_or-set_same, get_or-set_other}
use lib.Dec.{leb}
use borrow.Author.Tests.{le-leb, lt-leb}
use Rattle.definitions.specs.Scan.{any, filter, add_all, to_list}
use Rattle.definitions.specs.Grid.{Pair}
use Rattle.definitions.specs.MouthShapes.{regions_of, distinct_regions}
use Rattle.definitions.specs.Context.{Context}
use Rattle.definitions.specs.RampMouths.{MouthProposal}
use Rattle.laws.specs.ListLaws.Lists.{All, done, more}
use Rattle.laws.specs.ListLaws.ListsAsSets.{any-add_all}
use Rattle.laws.specs.NumberLaws.Comparisons.{le_or_lt, same_or}
use Rattle.context.specs.Shown.{pair_at, pairs_between, ShownPairs}
use Rattle.laws.specs.RustMouths.Triangles.{any-regions}
use Rattle.context.proofs.Counting.{between_none, between_more}
use Rattle.mouth_proposals.specs.Rows.{is_outer, inner_of}
use Rattle.mouth_selection.specs.Held.{held, is_held, hold_at_lem, outer_hold, mark_held, mark_outer, mark_inner, outer_held, inner_held, row_held, held_at, HeldMarks}
use Rattle.mouth_proposals.proofs.ApproachLaws.{Named}
use Rattle.mouth_proposals.proofs.Fitting.{all-named-regions}

-- ---- lengths, and one row more

pub held-length : (hold : ℕ) (marks : List ℕ) (r : ℕ) → length (mark_held hold marks r) ≡ length marks
unfolding mark_held
held-length hold marks r = length-set marks (r - 1) (get_or marks (r - 1) 0 % 2 + 2 * hold)

pub inner-length : (outer : Option ℕ) (marks l : List ℕ) → length (mark_inner outer marks l) ≡ length marks
unfolding mark_inner
inner-length outer marks [] = refl
inner-length outer marks (r ∷ l) = inner-length outer (cond (is_outer outer r) marks (mark_held 2 marks r)) l ∙ go (is_outer outer r)
  where
    go : (b : Bool) → length (cond b marks (mark_held 2 marks r)) ≡ length marks
    go true = refl
    go false = held-length 2 marks r

kept-length : (b : Bool) (marks : List ℕ) (hold r : ℕ) → length (cond b marks (mark_held hold marks r)) ≡ length marks
kept-length true marks hold r = refl
kept-length false marks hold r = held-length hold marks r

pub outer-length : (hold : ℕ) (outer : Option ℕ) (marks : List ℕ) → length (mark_outer hold outer marks) ≡ length marks
outer-length hold None marks = refl
outer-length hold (Some r) marks = held-length hold marks r

-- the odd part of a mark stays
held-odd : (hold : ℕ) (marks : List ℕ) (r i : ℕ) → i < length marks → get_or (mark_held hold marks r) i 0 % 2 ≡ get_or marks i 0 % 2
unfolding mark_held
held-odd hold marks r i l = ⊎_elim here (λ h. ap (λ n. n % 2) (get_or-set_other marks (r - 1) i (get_or marks (r - 1) 0 % 2 + 2 * hold) 0 h)) (same_or i (r - 1))
  where
    odd : (n : ℕ) → (n % 2 + 2 * hold) % 2 ≡ n % 2
    odd n = omega arith

    here : i ≡ r - 1 → get_or (set marks (r - 1) (get_or marks (r - 1) 0 % 2 + 2 * hold)) i 0 % 2 ≡ get_or marks i 0 % 2
    here e =
        ap (λ i. get_or (set marks (r - 1) (get_or marks (r - 1) 0 % 2 + 2 * hold)) i 0 % 2) e ∙ ap (λ n. n % 2) (get_or-set_same marks (r - 1) (get_or marks (r - 1) 0 % 2 + 2 * hold) 0 (omega (arith, l, e)))
        ∙ odd (get_or marks (r - 1) 0) ∙ ap (λ i. get_or marks i 0 % 2) (sym e)

pub outer-odd : (hold : ℕ) (outer : Option ℕ) (marks : List ℕ) (i : ℕ) → i < length marks → get_or (mark_outer hold outer marks) i 0 % 2 ≡ get_or marks i 0 % 2
outer-odd hold None marks i l = refl
outer-odd hold (Some r) marks i l = held-odd hold marks r i l

kept-odd : (b : Bool) (marks : List ℕ) (hold r i : ℕ) → i < length marks → get_or (cond b marks (mark_held hold marks r)) i 0 % 2 ≡ get_or marks i 0 % 2
kept-odd true marks hold r i l = refl
kept-odd false marks hold r i l = held-odd hold marks r i l

pub inner-odd : (outer : Option ℕ) (marks l : List ℕ) (i : ℕ) → i < length marks → get_or (mark_inner outer marks l) i 0 % 2 ≡ get_or marks i 0 % 2
unfolding mark_inner
inner-odd outer marks [] i h = refl
inner-odd outer marks (r ∷ l) i h =
    inner-odd outer (cond (is_outer outer r) marks (mark_held 2 marks r)) l i (omega (arith, h, kept-length (is_outer outer r) marks 2 r)) ∙ kept-odd (is_outer outer r) marks 2 r i h

inner-append : (outer : Option ℕ) (marks l k : List ℕ) → mark_inner outer marks (l ++ k) ≡ mark_inner outer (mark_inner outer marks l) k
unfolding mark_inner
inner-append outer marks [] k = refl
inner-append outer marks (r ∷ l) k = inner-append outer (cond (is_outer outer r) marks (mark_held 2 marks r)) l k

regions-append : (l k : List Pair) → regions_of (l ++ k) ≡ regions_of l ++ regions_of k
regions-append [] k = refl
regions-append (p ∷ l) k = ap (λ r. p.lo ∷ p.hi ∷ r) (regions-append l k)

module _ (outer : Option ℕ) (marks rows : List ℕ) (first : ℕ) where
  abbrev pub marked : ℕ → List ℕ
  marked k = mark_inner outer marks (regions_of (pairs_between rows first k))

  pub none_marked : marks ≡ marked first
  unfolding mark_inner
  none_marked = ap (λ l. mark_inner outer marks (regions_of l)) (sym (between_none rows first))

  pub row-marked : (k : ℕ) → first ≤ k → {l m : List ℕ} {p : Pair} → l ≡ marked k → p ≡ pair_at rows k → m ≡ mark_inner outer l (p.lo ∷ p.hi ∷ []) → m ≡ marked (k + 1)
  row-marked k h {p = p} e f g =
      g ∙ (λ i. mark_inner outer (e i) ((f i).lo ∷ (f i).hi ∷ []))
      ∙ sym (ap (λ l. mark_inner outer marks (regions_of l)) (between_more rows first k h) ∙ ap (mark_inner outer marks) (regions-append (pairs_between rows first k) (pair_at rows k ∷ []))
      ∙ inner-append outer marks (regions_of (pairs_between rows first k)) ((pair_at rows k).lo ∷ (pair_at rows k).hi ∷ []))

-- ---- a proposal that is held

any-agree : {P : ℕ → Type 0} (f g : ℕ → Bool) {l : List ℕ} → ((x : ℕ) → P x → f x ≡ g x) → All P l → any f l ≡ any g l
unfolding any
any-agree f g h done = refl
any-agree f g h (more {x = x} k a) = ap₂ ◌||◌ (h x k) (any-agree f g h a)

any_of-filter : (k g : ℕ → Bool) (l : List ℕ) → any g (filter k l) ≡ any (λ s. k s && g s) l
unfolding any filter
any_of-filter k g [] = refl
any_of-filter k g (x ∷ l) = go (k x) (any_of-filter k g l)
  where
    go : (b : Bool) → any g (filter k l) ≡ any (λ s. k s && g s) l → any g (cond b (x ∷ filter k l) (filter k l)) ≡ ((b && g x) || any (λ s. k s && g s) l)
    go true ih = ap (λ b. g x || b) ih
    go false ih = ih

-- held at all, where nothing else may hold
held_at-all : (n : ℕ) → leb 3 (n + 2) ≡ leb 1 n
held_at-all n = ⊎_elim (λ h. le-leb 3 (n + 2) (omega arith) ∙ sym (le-leb 1 n h)) (λ h. lt-leb 3 (n + 2) (omega arith) ∙ sym (lt-leb 1 n h)) (le_or_lt 1 n)

module _ (C : Context) (taken : List MouthProposal) (marks : List ℕ) (H : HeldMarks C taken marks) where
  outside : (outer : Option ℕ) (kind : MouthKind) → Numbered C.regions outer → outer_held marks outer (outer_hold kind) ≡ any (λ r. leb 3 (held taken r + cond (is_triangular kind) 2 1)) (to_list outer)
  unfolding any
  outside None kind h = refl
  outside (Some r) kind h = ap (λ n. leb 3 (n + outer_hold kind)) (H.at r h.0 h.1) ∙ sym (or-false (leb 3 (held taken r + outer_hold kind)))

  inside : (outer : Option ℕ) {l : List Pair} → All (Named C.regions) l → any (row_held marks outer) l ≡ any (λ r. leb 1 (held taken r)) (inner_of outer l)
  unfolding inner_of distinct_regions any
  inside outer {l} named =
      sym (any-regions (inner_held marks outer) l)
      ∙ any-agree _ _ (λ s k. ap (λ b. not (is_outer outer s) && b) (held_at-all (hold_at_lem marks s) ∙ ap (leb 1) (H.at s k.0 k.1))) (all-named-regions named)
      ∙ sym (any_of-filter (λ s. not (is_outer outer s)) (λ r. leb 1 (held taken r)) (add_all [] (regions_of l))
      ∙ any-add_all (λ s. not (is_outer outer s) && leb 1 (held taken s)) [] (regions_of l))

  -- a proposal is held exactly where its marks say so
  pub held_is : {pairs starts : List ℕ} → ShownPairs C pairs starts → {m : ℕ} → m < C.count → (a : ℕ) (outer : Option ℕ) (kind : MouthKind) → Numbered C.regions outer
      → held_at pairs starts marks m outer kind ≡ is_held taken (proposal_of C m a outer kind)
  unfolding held_at is_held proposal_of
  held_is P {m} l a outer kind h =
      ap₂ ◌||◌ (outside outer kind h) (ap (any (row_held marks outer)) (sym (P.at m l)) ∙ inside outer (P.named m l))
