-- Leaves of a port, row by row: what the walk does to the names is what `expand_pair` does to the regions. Assumes nothing.
use Prim.Native.Nat.{ℕ, ◌+◌, ◌-◌, ◌%◌, ◌≤◌, ◌<◌}
use native.Mathlib.Omega.{arith}
use mathlib.Core.Path.{◌≡◌, refl, sym, ap, ap₂, subst, ◌∙◌}
use mathlib.Core.Bool.{Bool, true, false, not, beq, ◌&&◌, ◌||◌, cond, or-false, or-true, and-true, and-false, and_assoc, true≢false}
use mathlib.Core.Logic.{◌⊎◌, inl, inr, ⊎_elim}
use mathlib.Core.List.{List, [], ◌∷◌, ◌++◌}
use lib.ListN.{length, set, length-set}
use lib.Dec.{eqb, ltb, leb}
use borrow.Author.Tests.{eq-eqb, ne_eqb, eqb-true}
use Rattle.std.specs.Prelude.{MatchBool}
use Rattle.definitions.specs.Scan.{any, all, member, bit}
use Rattle.definitions.specs.Grid.{Pair, contains}
use Rattle.definitions.specs.Context.{Context, is_incident, incident_count}
use Rattle.definitions.specs.RampInteriors.{Expansion, inside_count, exteriors, invalid, add_leaf, expand_pair, expand_pairs, expand_port}
use Rattle.laws.specs.ListLaws.Tests.{both}
use Rattle.laws.specs.ListLaws.NumberLists.{member-append}
use Rattle.laws.specs.ListLaws.Beyond.{beyond_same, beyond-set, beyond-then}
use Rattle.interior_proposals.specs.Given.{Marked}
use Rattle.context.specs.Shown.{pair_at, pairs_between}
use Rattle.interior_proposals.specs.Owners.{Walkable, entry_at}
use Rattle.interior_proposals.specs.Leaves.{Inside, Single, Grown, Exteriored, Cleared, from, Held, Ported, RowOf, Walked}
use Rattle.interior_proposals.proofs.Forests.{set_case}
use Rattle.interior_proposals.proofs.RowScans.{between_none, between_next, between-end, any-rows_at, all-rows_is}
use Rattle.interior_proposals.proofs.Walks.{low_in_lem, high_in}
use Rattle.interior_proposals.proofs.MarkLaws.{exterior_is, leaf_is}

-- ---- what grows

pub grown_same : (C : Context) (i r : ℕ) (names : List ℕ) → Grown C i r names names
grown_same C i r names = record { beyond = beyond_same C.regions names; each = λ x a b. inl refl }

pub grown-then : {C : Context} {i r : ℕ} {was mid now : List ℕ} → Grown C i r was mid → Grown C i r mid now → Grown C i r was now
grown-then {C} {i} {r} {was} {mid} {now} g h =
    record {
      beyond = beyond-then g.beyond h.beyond;
      each = λ x a b. ⊎_elim
          (λ e. ⊎_elim (λ d. inl (e ∙ d)) (λ d. inr (e ∙ d.0, d.1)) (g.each x a b))
          (λ e. inr e) (h.each x a b);
    }

-- ---- tests

some_inside : (a b : Bool) → ltb 0 (bit a + bit b) ≡ (a || b)
some_inside true true = refl
some_inside true false = refl
some_inside false true = refl
some_inside false false = refl

one_of_two : (a b : Bool) → eqb (bit a + bit b) 1 ≡ not (beq a b)
one_of_two true true = refl
one_of_two true false = refl
one_of_two false true = refl
one_of_two false false = refl

-- ---- one row

module _ (C : Context) (i r : ℕ) (rs es : List ℕ) (v : Bool) {names marks : List ℕ} (lo hi : ℕ) (W : RowOf C i lo hi) (I : Inside C r rs names) (M : Marked C (λ y. member y es) marks) where
  abbrev row : Pair
  row = record { lo = lo; hi = hi }

  abbrev stepped : Expansion
  stepped = expand_pair C i es (from rs v) row

  idle : {fit : Bool} → (v && fit) ≡ v → Held C i r (from rs v) v names names fit
  idle e = record { inside = I; grown = grown_same C i r names; fits = e }

  -- p and q are the names of the row's regions
  module _ {p q : ℕ} (d : p ≡ entry_at names lo) (e : q ≡ entry_at names hi) where
    inside_is : (eqb p r || eqb q r) ≡ ltb 0 (inside_count rs row)
    unfolding inside_count
    inside_is =
        ap₂ ◌||◌ (ap (λ n. eqb n r) d ∙ I.at lo W.low_from W.low_upto) (ap (λ n. eqb n r) e ∙ I.at hi W.high_from W.high_upto)
        ∙ sym (some_inside (member lo rs) (member hi rs))

    pub row_inside : (eqb p r || eqb q r) ≡ true → Held C i r stepped v names names true
    unfolding expand_pair
    row_inside h =
        subst (λ s. Held C i r s v names names true)
        (sym (ap (λ b. cond b (from rs v) (cond (eqb (inside_count es row) 1) (add_leaf C i (from rs v) (cond (member lo es) hi lo)) (invalid (from rs v)))) (sym inside_is ∙ h)))
        (idle (and-true v))

    module _ (n : (eqb p r || eqb q r) ≡ false) {a b : Bool} (f : a ≡ leb 4 (entry_at marks lo)) (g : b ≡ leb 4 (entry_at marks hi)) where
      low-exterior : a ≡ member lo es
      low-exterior = f ∙ exterior_is M lo W.low_from W.low_upto

      high-exterior : b ≡ member hi es
      high-exterior = g ∙ exterior_is M hi W.high_from W.high_upto

      outside : stepped ≡ cond (not (beq a b)) (add_leaf C i (from rs v) (cond a hi lo)) (invalid (from rs v))
      unfolding expand_pair inside_count
      outside =
          ap (λ t. cond t (from rs v) (cond (eqb (inside_count es row) 1) (add_leaf C i (from rs v) (cond (member lo es) hi lo)) (invalid (from rs v)))) (sym inside_is ∙ n)
          ∙ (λ t. cond (eqb (bit (low_exterior' t) + bit (high_exterior' t)) 1) (add_leaf C i (from rs v) (cond (low_exterior' t) hi lo)) (invalid (from rs v)))
          ∙ ap (λ t. cond t (add_leaf C i (from rs v) (cond a hi lo)) (invalid (from rs v))) (one_of_two a b)
        where
          low_exterior' : member lo es ≡ a
          low_exterior' = sym low-exterior

          high_exterior' : member hi es ≡ b
          high_exterior' = sym high-exterior

      pub row_unclear : beq a b ≡ true → Held C i r stepped v names names false
      row_unclear h =
          subst (λ s. Held C i r s v names names false)
          (sym (outside ∙ ap (λ t. cond (not t) (add_leaf C i (from rs v) (cond a hi lo)) (invalid (from rs v))) h))
          (record { inside = I; grown = grown_same C i r names; fits = and-false v })

      -- x is the region that was chosen
      module _ (m : beq a b ≡ false) {x : ℕ} (c : x ≡ cond a hi lo) where
        chosen : stepped ≡ add_leaf C i (from rs v) x
        chosen = outside ∙ ap (λ t. cond (not t) (add_leaf C i (from rs v) (cond a hi lo)) (invalid (from rs v))) m ∙ ap (add_leaf C i (from rs v)) (sym c)

        -- it is a region of the row
        of_row : (P : ℕ → Type 0) → P lo → P hi → P x
        of_row P l h = subst P (sym c) (go a)
          where
            go : (t : Bool) → P (cond t hi lo)
            go true = h
            go false = l

        x_in : (1 ≤ x) × (x ≤ C.regions)
        x_in = of_row (λ y. (1 ≤ y) × (y ≤ C.regions)) (W.low_from, W.low_upto) (W.high_from, W.high_upto)

        x_incident : is_incident C i x ≡ true
        x_incident = of_row (λ y. is_incident C i y ≡ true) W.low_incident W.high_incident

        module _ {t : Bool} (u : t ≡ eqb (entry_at marks x % 4) 2) where
          passes : t ≡ (not (C.anchored x) && eqb (incident_count C x) 1)
          passes = u ∙ leaf_is M x x_in.0 x_in.1

          bad_is : (C.anchored x || not (eqb (incident_count C x) 1 && is_incident C i x)) ≡ not t
          bad_is = ap (λ z. C.anchored x || not (eqb (incident_count C x) 1 && z)) x_incident ∙ go (C.anchored x) (eqb (incident_count C x) 1) ∙ ap not (sym passes)
            where
              go : (y z : Bool) → (y || not (z && true)) ≡ not (not y && z)
              go true z = refl
              go false true = refl
              go false false = refl

          added : add_leaf C i (from rs v) x ≡ record { regions = cond (not t) rs (rs ++ (x ∷ [])); valid = v && not (not t) }
          unfolding add_leaf
          added = ap {B = Expansion} (λ z. record { regions = cond z rs (rs ++ (x ∷ [])); valid = v && not z }) bad_is

          pub row_no_leaf : not t ≡ true → Held C i r stepped v names names false
          row_no_leaf h =
              subst (λ s. Held C i r s v names names false)
              (sym (chosen ∙ added ∙ ap {B = Expansion} (λ z. record { regions = cond z rs (rs ++ (x ∷ [])); valid = v && not z }) h))
              (record { inside = I; grown = grown_same C i r names; fits = refl })

          pub row-leaf : {now : List ℕ} → not t ≡ false → now ≡ set names (x - 1) r → Held C i r stepped v names now true
          unfolding member any
          row-leaf {now} h s =
              subst (λ ns. Held C i r stepped v names ns true) (sym s)
              (subst (λ z. Held C i r z v names (set names (x - 1) r) true)
              (sym (chosen ∙ added ∙ ap {B = Expansion} (λ z. record { regions = cond z rs (rs ++ (x ∷ [])); valid = v && not z }) h)) new)
            where
              here : (not (C.anchored x) && eqb (incident_count C x) 1) ≡ true
              here = sym passes ∙ go t h
                where
                  go : (z : Bool) → not z ≡ false → z ≡ true
                  go true k = refl
                  go false k = absurd (true≢false k)

              in_names : x ≤ length names
              in_names = omega (arith, x_in.1, I.long)

              grows : (y : ℕ) → member y (rs ++ (x ∷ [])) ≡ (member y rs || eqb y x)
              grows y = member-append y rs (x ∷ []) ∙ ap (λ z. member y rs || z) (or-false (eqb y x))

              new : Held C i r (record { regions = rs ++ (x ∷ []); valid = v && not false }) v names (set names (x - 1) r) true
              new =
                  record {
                    inside =
                        record {
                          long = subst (λ n. C.regions ≤ n) (sym (length-set names (x - 1) r)) I.long;
                          at = λ y k l. set_case (λ z w. eqb w r ≡ member z (rs ++ (x ∷ []))) names x r x_in.0 in_names y k
                              (eq-eqb r r refl ∙ sym (grows x ∙ ap (λ z. member x rs || z) (eq-eqb x x refl) ∙ or-true (member x rs)))
                              (λ ne. I.at y k l ∙ sym (grows y ∙ ap (λ z. member y rs || z) (ne_eqb y x ne) ∙ or-false (member y rs)));
                        };
                    grown =
                        record {
                          beyond = beyond-set C.regions names (x - 1) r (omega (arith, x_in.0, x_in.1));
                          each = λ y k l. set_case (λ z w. (w ≡ entry_at names z) ⊎ ((w ≡ r) × Single C i z)) names x r x_in.0 in_names y k
                              (inr (refl, record { one = eqb-true (incident_count C x) 1 (both (not (C.anchored x)) (eqb (incident_count C x) 1) here).1; mine = x_incident }))
                              (λ ne. inl refl);
                        };
                    fits = refl;
                  }

-- ---- rows with exactly one region inside

-- exactly one region of p has the name
abbrev pub splits : List ℕ → ℕ → Pair → Bool
splits names r p = not (beq (eqb (entry_at names p.lo) r) (eqb (entry_at names p.hi) r))

module _ (C : Context) (rs : List ℕ) {names rows : List ℕ} {first end r : ℕ} (I : Inside C r rs names) (w : Walkable rows first end C.regions) where
  abbrev split : Pair → Bool
  split p = eqb (inside_count rs p) 1

  splits-row : (k : ℕ) → first ≤ k → k < end → splits names r (pair_at rows k) ≡ split (pair_at rows k)
  unfolding inside_count
  splits-row k h l =
      let a = low_in_lem w h l refl in
      let b = high_in w h l refl in
      let p = pair_at rows k in
      sym (one_of_two (eqb (entry_at names p.lo) r) (eqb (entry_at names p.hi) r)) ∙ (λ t. eqb (bit (I.at p.lo a.0 a.1 t) + bit (I.at p.hi b.0 b.1 t)) 1)

  pub split_rows : (t : Bool) → MatchBool t ((k : ℕ) → first ≤ k → k < end → splits names r (pair_at rows k) ≡ true) ((k : ℕ) × (first ≤ k) × (k < end) × (splits names r (pair_at rows k) ≡ false)) → t ≡ all split (pairs_between rows first end)
  split_rows true h = all-rows_is split rows first end w.rising true (λ k a b. sym (splits-row k a b) ∙ h k a b)
  split_rows false (k, a, b, e) = all-rows_is split rows first end w.rising false (k, a, b, sym (splits-row k a b) ∙ e)

-- ---- all rows

expand_last : (C : Context) (i : ℕ) (es : List ℕ) (s : Expansion) (l : List Pair) (p : Pair) → expand_pairs C i es s (l ++ (p ∷ [])) ≡ expand_pair C i es (expand_pairs C i es s l) p
unfolding expand_pairs
expand_last C i es s [] p = refl
expand_last C i es s (q ∷ l) p = expand_last C i es (expand_pair C i es s q) l p

module _ (C : Context) (i r : ℕ) (rs es : List ℕ) (v : Bool) (rows : List ℕ) (first end : ℕ) (P : Ported C rows first end i) where
  -- after the rows before k
  abbrev pub up_to : ℕ → Expansion
  up_to k = expand_pairs C i es (from rs v) (pairs_between rows first k)

  pub held_start : {names : List ℕ} → Inside C r rs names → Held C i r (up_to first) v names names true
  unfolding expand_pairs
  held_start {names} I =
      subst (λ l. Held C i r (expand_pairs C i es (from rs v) l) v names names true) (sym (between_none rows first))
      (record { inside = I; grown = grown_same C i r names; fits = and-true v })

  -- lo and hi are the regions of row k as they were read
  module _ (k : ℕ) (h : first ≤ k) (l : k < end) {lo hi : ℕ} (d : lo ≡ (pair_at rows k).lo) (e : hi ≡ (pair_at rows k).hi) where
    named : (x : ℕ) → contains x (pair_at rows k) ≡ true → is_incident C i x ≡ true
    unfolding is_incident
    named x c = ap (any (contains x)) P.at ∙ any-rows_at (contains x) rows first k end h l c

    pub row_of : RowOf C i lo hi
    row_of =
        let a = low_in_lem P.walk h l d in
        let b = high_in P.walk h l e in
        record {
          low_from = a.0;
          low_upto = a.1;
          high_from = b.0;
          high_upto = b.1;
          low_incident = named lo (ap (λ t. t || eqb (pair_at rows k).hi lo) (eq-eqb (pair_at rows k).lo lo (sym d)));
          high_incident = named hi (ap (λ t. eqb (pair_at rows k).lo hi || t) (eq-eqb (pair_at rows k).hi hi (sym e)) ∙ or-true (eqb (pair_at rows k).lo hi));
        }

    pub held_more : {was names now : List ℕ} {fit ok : Bool} → Held C i r (up_to k) v was names fit → Held C i r (expand_pair C i es (up_to k) (record { lo = lo; hi = hi })) (up_to k).valid names now ok → Held C i r (up_to (k + 1)) v was now (fit && ok)
    held_more {was} {names} {now} {fit} {ok} H G =
        subst (λ s. Held C i r s v was now (fit && ok))
        (sym (ap (expand_pairs C i es (from rs v)) (between_next rows first k h) ∙ expand_last C i es (from rs v) (pairs_between rows first k) (pair_at rows k) ∙ ap (expand_pair C i es (up_to k)) (sym same)))
        (record {
          inside = G.inside;
          grown = grown-then H.grown G.grown;
          fits = sym (and_assoc v fit ok) ∙ ap (λ t. t && ok) H.fits ∙ G.fits;
        })
      where
        same : ◌≡◌ {A = Pair} (record { lo = lo; hi = hi }) (pair_at rows k)
        same = ap₂ {C = Pair} (λ x y. record { lo = x; hi = y }) d e

  pub held-end : {was names : List ℕ} {k : ℕ} {fit : Bool} → Held C i r (up_to k) v was names fit → k ≤ end → end ≤ k → Held C i r (up_to end) v was names fit
  held-end {was} {names} {fit = fit} H a b = subst (λ l. Held C i r (expand_pairs C i es (from rs v) l) v was names fit) (between-end rows first a b) H

-- ---- a port

module _ (C : Context) (i r : ℕ) (rs : List ℕ) (v : Bool) (rows : List ℕ) (first end : ℕ) (P : Ported C rows first end i) where
  abbrev pairs : List Pair
  pairs = pairs_between rows first end

  abbrev beyond : Expansion
  beyond = expand_pairs C i (exteriors rs pairs) (from rs v) pairs

  -- f, g and h are what the three walks returned
  pub port-walked : {was names wasMarks mid marks : List ℕ} {f g h : Bool} → Exteriored C rs pairs wasMarks mid f → Held C i r beyond v was names g → h ≡ all (λ p. eqb (inside_count beyond.regions p) 1) pairs → Cleared C mid marks → Walked C i r rs v was names wasMarks marks (f && g && h)
  unfolding expand_port
  port-walked {was} {names} {wasMarks} {mid} {marks} {f} {g} {h} E H s K =
      record {
        held = subst (λ x. Held C i r x v was names (f && g && h)) (sym expanded) (record { inside = H.inside; grown = H.grown; fits = order v f g h ∙ (λ j. H.fits j && E.fits j && s j) });
        cleared = record { marked = K.marked; beyond = beyond-then E.beyond K.beyond };
      }
    where
      after : List Pair → Expansion
      after ps =
          let t = expand_pairs C i (exteriors rs ps) (from rs v) ps in
          record { regions = t.regions; valid = t.valid && all (λ p. leb (inside_count rs p) 1) ps && all (λ p. eqb (inside_count t.regions p) 1) ps }

      expanded : expand_port C (from rs v) i ≡ after pairs
      expanded = ap after P.at

      order : (x y z w : Bool) → (x && (y && z && w)) ≡ (x && z && y && w)
      order true true true w = refl
      order true true false w = refl
      order true false true w = refl
      order true false false w = refl
      order false y z w = refl
