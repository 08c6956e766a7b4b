-- Exteriors of the rows of a port, row by row. Assumes nothing.
use Prim.Native.Nat.{ℕ, ◌+◌, ◌-◌, ◌%◌, ◌≤◌, ◌<◌}
use mathlib.Core.Path.{◌≡◌, refl, sym, ap, ap₂, subst, ◌∙◌}
use mathlib.Core.Bool.{Bool, true, false, not, ◌&&◌, ◌||◌, cond, or-false, or-true, or_assoc, and-true, false≢true}
use mathlib.Core.List.{List, [], ◌∷◌, ◌++◌, append-nil}
use lib.ListN.{set}
use Rattle.std.proofs.lemmas.List.{set-get_or}
use lib.Dec.{eqb, leb}
use Rattle.definitions.specs.Scan.{any, member, concat_map, bit}
use Rattle.definitions.specs.Grid.{Pair, contains}
use Rattle.definitions.specs.Context.{Context}
use Rattle.definitions.specs.RampInteriors.{inside_count, pair_exterior, exteriors}
use Rattle.laws.specs.OrderLaws.ListOrder.{eqb_sym}
use Rattle.laws.specs.ListLaws.NumberLists.{member-append}
use Rattle.laws.specs.ListLaws.Beyond.{Beyond, beyond_same, beyond-then}
use Rattle.laws.specs.RustJunctions.JunctionsAsRust.{concat-append}
use Rattle.context.specs.Shown.{pair_at, pairs_between}
use Rattle.interior_proposals.specs.Given.{Marked}
use Rattle.interior_proposals.specs.Owners.{Walkable, entry_at}
use Rattle.interior_proposals.specs.Leaves.{Inside, Exteriored, Cleared}
use Rattle.interior_proposals.proofs.RowScans.{between_none, between_next, between-end, any-rows_none, any-rows_next, any-rows_end, all-rows_next, all-rows_none}
use Rattle.interior_proposals.proofs.Walks.{low_in_lem, high_in}
use Rattle.interior_proposals.proofs.MarkLaws.{marked_same, marked_on, marked-off, mark-beyond}

-- ---- lists

exteriors_last : (rs : List ℕ) (l : List Pair) (p : Pair) (x : ℕ) → member x (exteriors rs (l ++ (p ∷ []))) ≡ (member x (exteriors rs l) || member x (pair_exterior rs p))
unfolding exteriors concat_map
exteriors_last rs l p x =
    ap (member x) (concat-append (pair_exterior rs) l (p ∷ []) ∙ ap (λ m. concat_map (pair_exterior rs) l ++ m) (append-nil (pair_exterior rs p)))
    ∙ member-append x (concat_map (pair_exterior rs) l) (pair_exterior rs p)

-- ---- one pair, of which a and b say whether its regions are in rs

member-other : (lo hi x : ℕ) (a b : Bool) → member x (cond a (cond b [] (hi ∷ [])) (cond b (lo ∷ []) [])) ≡ ((a && not b && eqb x hi) || (b && not a && eqb x lo))
unfolding member any
member-other lo hi x true true = refl
member-other lo hi x true false = refl
member-other lo hi x false true = or-false (eqb x lo)
member-other lo hi x false false = refl

few-inside : (a b : Bool) → not (a && b) ≡ leb (bit a + bit b) 1
few-inside true true = refl
few-inside true false = refl
few-inside false true = refl
few-inside false false = refl

-- ---- the walk

module _ (C : Context) (rs names rows : List ℕ) (first end r : ℕ) (I : Inside C r rs names) (w : Walkable rows first end C.regions) where
  -- up to row k
  abbrev pub Marking : List ℕ → ℕ → List ℕ → Bool → Type 0
  Marking was k marks fit = Exteriored C rs (pairs_between rows first k) was marks fit

  pub marking-start : {was : List ℕ} → Marked C (λ x. false) was → Marking was first was true
  unfolding exteriors concat_map member any
  marking-start {was} M =
      record {
        marked = marked_same M (λ x. member x (exteriors rs (pairs_between rows first first))) (λ x. sym (ap (λ l. member x (exteriors rs l)) (between_none rows first)));
        beyond = beyond_same C.regions was;
        fits = sym (all-rows_none (λ p. leb (inside_count rs p) 1) rows first);
      }

  -- lo and hi are the regions of row k as they were read, a and b whether they are named r
  module _ (k : ℕ) (h : first ≤ k) (l : k < end) {lo hi : ℕ} (d : lo ≡ (pair_at rows k).lo) (e : hi ≡ (pair_at rows k).hi) {p q : ℕ} (i : p ≡ entry_at names lo) (j : q ≡ entry_at names hi) where
    abbrev a : Bool
    a = eqb p r

    abbrev b : Bool
    b = eqb q r

    low-inside : a ≡ member lo rs
    low-inside = ap (λ n. eqb n r) i ∙ I.at lo (low_in_lem w h l d).0 (low_in_lem w h l d).1

    high-inside : b ≡ member hi rs
    high-inside = ap (λ n. eqb n r) j ∙ I.at hi (high_in w h l e).0 (high_in w h l e).1

    exterior-row : (x : ℕ) → member x (pair_exterior rs (pair_at rows k)) ≡ ((a && not b && eqb x hi) || (b && not a && eqb x lo))
    unfolding pair_exterior
    exterior-row x =
        (λ t. member x (cond (member (d' t) rs) (cond (member (e' t) rs) [] (e' t ∷ [])) (cond (member (e' t) rs) (d' t ∷ []) [])))
        ∙ (λ t. member x (cond (low_inside' t) (cond (high_inside' t) [] (hi ∷ [])) (cond (high_inside' t) (lo ∷ []) [])))
        ∙ member-other lo hi x a b
      where
        d' : (pair_at rows k).lo ≡ lo
        d' = sym d

        e' : (pair_at rows k).hi ≡ hi
        e' = sym e

        low_inside' : member lo rs ≡ a
        low_inside' = sym low-inside

        high_inside' : member hi rs ≡ b
        high_inside' = sym high-inside

    few-row : not (a && b) ≡ leb (inside_count rs (pair_at rows k)) 1
    unfolding inside_count
    few-row = few-inside a b ∙ (λ t. leb (bit ((low-inside ∙ ap (λ x. member x rs) d) t) + bit ((high-inside ∙ ap (λ x. member x rs) e) t)) 1)

    module _ {was marks : List ℕ} {fit : Bool} (E : Marking was k marks fit) where
      abbrev old : ℕ → Bool
      old x = member x (exteriors rs (pairs_between rows first k))

      once : {mid : List ℕ} → mid ≡ set marks (hi - 1) (cond (a && not b) (entry_at marks hi % 4 + 4) (entry_at marks hi)) → Marked C (λ x. old x || (a && not b && eqb x hi)) mid
      once s = subst (Marked C (λ x. old x || (a && not b && eqb x hi))) (sym s) (marked_on E.marked hi (high_in w h l e).0 (high_in w h l e).1 (a && not b))

      marking_more : {mid now : List ℕ} → mid ≡ set marks (hi - 1) (cond (a && not b) (entry_at marks hi % 4 + 4) (entry_at marks hi)) → now ≡ set mid (lo - 1) (cond (b && not a) (entry_at mid lo % 4 + 4) (entry_at mid lo)) → Marking was (k + 1) now (fit && not (a && b))
      marking_more {mid} s t =
          record {
            marked = marked_same (subst (Marked C (λ x. (old x || (a && not b && eqb x hi)) || (b && not a && eqb x lo))) (sym t) (marked_on (once s) lo (low_in_lem w h l d).0 (low_in_lem w h l d).1 (b && not a)))
                (λ x. member x (exteriors rs (pairs_between rows first (k + 1)))) next;
            beyond = beyond-then E.beyond (beyond-then (subst (Beyond C.regions marks) (sym s) (mark-beyond E.marked hi (high_in w h l e).0 (high_in w h l e).1 _)) (subst (Beyond C.regions mid) (sym t) (mark-beyond (once s) lo (low_in_lem w h l d).0 (low_in_lem w h l d).1 _)));
            fits = ap₂ ◌&&◌ E.fits few-row ∙ sym (all-rows_next (λ p. leb (inside_count rs p) 1) rows first k h);
          }
        where
          next : (x : ℕ) → ((old x || (a && not b && eqb x hi)) || (b && not a && eqb x lo)) ≡ member x (exteriors rs (pairs_between rows first (k + 1)))
          next x =
              or_assoc (old x) (a && not b && eqb x hi) (b && not a && eqb x lo) ∙ ap (λ u. old x || u) (sym (exterior-row x))
              ∙ sym (ap (λ m. member x (exteriors rs m)) (between_next rows first k h) ∙ exteriors_last rs (pairs_between rows first k) (pair_at rows k) x)

      -- as the code marks, by the two tests
      abbrev pub step : Bool → Bool → List ℕ
      step true true = marks
      step true false = set marks (hi - 1) (entry_at marks hi % 4 + 4)
      step false true = set marks (lo - 1) (entry_at marks lo % 4 + 4)
      step false false = marks

      abbrev mid_by : Bool → Bool → List ℕ
      mid_by x y = set marks (hi - 1) (cond (x && not y) (entry_at marks hi % 4 + 4) (entry_at marks hi))

      twice : (x y : Bool) → set (mid_by x y) (lo - 1) (cond (y && not x) (entry_at (mid_by x y) lo % 4 + 4) (entry_at (mid_by x y) lo)) ≡ step x y
      twice true true = set-get_or (mid_by true true) (lo - 1) 0 ∙ set-get_or marks (hi - 1) 0
      twice true false = set-get_or (mid_by true false) (lo - 1) 0
      twice false true = ap (λ m. set m (lo - 1) (entry_at m lo % 4 + 4)) (set-get_or marks (hi - 1) 0)
      twice false false = set-get_or (mid_by false false) (lo - 1) 0 ∙ set-get_or marks (hi - 1) 0

      pub marking-by : (x y : Bool) → a ≡ x → b ≡ y → {now : List ℕ} {fit' : Bool} → now ≡ step x y → fit' ≡ (fit && not (x && y)) → Marking was (k + 1) now fit'
      marking-by x y e f {now} {fit'} n g =
          subst (λ m. Marking was (k + 1) m fit') (twice a b ∙ ap₂ step e f ∙ sym n)
          (subst (λ v. Marking was (k + 1) (set (mid_by a b) (lo - 1) (cond (b && not a) (entry_at (mid_by a b) lo % 4 + 4) (entry_at (mid_by a b) lo))) v) ((λ i. fit && not (e i && f i)) ∙ sym g) (marking_more refl refl))

  pub marking-end : {was marks : List ℕ} {k : ℕ} {fit : Bool} → Marking was k marks fit → k ≤ end → end ≤ k → Marking was end marks fit
  marking-end {was} {marks} {fit = fit} E a b = subst (λ l. Exteriored C rs l was marks fit) (between-end rows first a b) E

-- ---- clearing

-- an exterior stands in a pair
exterior-named : (rs : List ℕ) (x : ℕ) (l : List Pair) → member x (exteriors rs l) ≡ true → any (contains x) l ≡ true
unfolding exteriors concat_map any member pair_exterior
exterior-named rs x [] h = h
exterior-named rs x (p ∷ l) h =
    go (member x (pair_exterior rs p)) refl (sym (member-append x (pair_exterior rs p) (exteriors rs l)) ∙ h) (exterior-named rs x l)
  where
    mine : (a b : Bool) → member x (cond a (cond b [] (p.hi ∷ [])) (cond b (p.lo ∷ []) [])) ≡ true → contains x p ≡ true
    mine true true k = absurd (false≢true k)
    mine true false k = ap (λ y. eqb p.lo x || y) (eqb_sym p.hi x ∙ sym (or-false (eqb x p.hi)) ∙ k) ∙ or-true (eqb p.lo x)
    mine false true k = ap (λ y. y || eqb p.hi x) (eqb_sym p.lo x ∙ sym (or-false (eqb x p.lo)) ∙ k)
    mine false false k = absurd (false≢true k)

    go : (t : Bool) → member x (pair_exterior rs p) ≡ t → (t || member x (exteriors rs l)) ≡ true → (member x (exteriors rs l) ≡ true → any (contains x) l ≡ true) → (contains x p || any (contains x) l) ≡ true
    go true e k ih = ap (λ y. y || any (contains x) l) (mine (member p.lo rs) (member p.hi rs) e)
    go false e k ih = ap (λ y. contains x p || y) (ih k) ∙ or-true (contains x p)

module _ (C : Context) (ext : ℕ → Bool) (rows : List ℕ) (first end : ℕ) (w : Walkable rows first end C.regions) where
  -- up to row k
  pub record Clearing (was : List ℕ) (k : ℕ) (marks : List ℕ) : Type 0 where
    pub marked : Marked C (λ x. ext x && not (any (contains x) (pairs_between rows first k))) marks
    pub beyond : Beyond C.regions was marks

  pub clearing-start : {was : List ℕ} → Marked C ext was → Clearing was first was
  clearing-start {was} M =
      record {
        marked = marked_same M _ (λ x. sym (ap (λ b. ext x && not b) (any-rows_none (contains x) rows first) ∙ and-true (ext x)));
        beyond = beyond_same C.regions was;
      }

  module _ (k : ℕ) (h : first ≤ k) (l : k < end) {lo hi : ℕ} (d : lo ≡ (pair_at rows k).lo) (e : hi ≡ (pair_at rows k).hi) {was marks : List ℕ} (E : Clearing was k marks) where
    abbrev left : ℕ → Bool
    left x = ext x && not (any (contains x) (pairs_between rows first k))

    without : {mid : List ℕ} → mid ≡ set marks (lo - 1) (entry_at marks lo % 4) → Marked C (λ x. left x && not (eqb x lo)) mid
    without s = subst (Marked C (λ x. left x && not (eqb x lo))) (sym s) (marked-off E.marked lo (low_in_lem w h l d).0 (low_in_lem w h l d).1)

    pub clearing_more : {mid now : List ℕ} → mid ≡ set marks (lo - 1) (entry_at marks lo % 4) → now ≡ set mid (hi - 1) (entry_at mid hi % 4) → Clearing was (k + 1) now
    clearing_more {mid} s t =
        record {
          marked = marked_same (subst (Marked C (λ x. left x && not (eqb x lo) && not (eqb x hi))) (sym t) (marked-off (without s) hi (high_in w h l e).0 (high_in w h l e).1)) _ next;
          beyond = beyond-then E.beyond (beyond-then (subst (Beyond C.regions marks) (sym s) (mark-beyond E.marked lo (low_in_lem w h l d).0 (low_in_lem w h l d).1 _)) (subst (Beyond C.regions mid) (sym t) (mark-beyond (without s) hi (high_in w h l e).0 (high_in w h l e).1 _)));
        }
      where
        order : (a b y z : Bool) → (a && not b && not y && not z) ≡ (a && not (b || (y || z)))
        order true true y z = refl
        order true false true z = refl
        order true false false z = refl
        order false b y z = refl

        next : (x : ℕ) → (left x && not (eqb x lo) && not (eqb x hi)) ≡ (ext x && not (any (contains x) (pairs_between rows first (k + 1))))
        next x =
            order (ext x) (any (contains x) (pairs_between rows first k)) (eqb x lo) (eqb x hi)
            ∙ (λ j. ext x && not (any (contains x) (pairs_between rows first k) || ((eqb_sym x lo ∙ ap (λ y. eqb y x) d) j || (eqb_sym x hi ∙ ap (λ y. eqb y x) e) j)))
            ∙ ap (λ b. ext x && not b) (sym (any-rows_next (contains x) rows first k h))

pub clearing-end : (C : Context) (rs rows : List ℕ) (first end : ℕ) (w : Walkable rows first end C.regions) {was marks : List ℕ} {k : ℕ} → Clearing C (λ x. member x (exteriors rs (pairs_between rows first end))) rows first end w was k marks → k ≤ end → end ≤ k → Cleared C was marks
clearing-end C rs rows first end w {k = k} E a b =
    record {
      marked = marked_same E.marked (λ x. false)
          (λ x. ap (λ t. member x (exteriors rs (pairs_between rows first end)) && not t) (any-rows_end (contains x) rows first a b) ∙ go x (member x (exteriors rs (pairs_between rows first end))) refl);
      beyond = E.beyond;
    }
  where
    go : (x : ℕ) (t : Bool) → member x (exteriors rs (pairs_between rows first end)) ≡ t → (t && not (any (contains x) (pairs_between rows first end))) ≡ false
    go x true e = ap not (exterior-named rs x (pairs_between rows first end) e)
    go x false e = refl
