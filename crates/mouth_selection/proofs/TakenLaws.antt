-- One proposal more is taken: what its mouth, its ramp end and its regions add to what is refused is what the code marks. A region outside it was held by no inner
-- region and no triangle, or the proposal would have been refused. Assumes nothing.
use Rattle.mouth_proposals.specs.Candidates.{is_triangular, Numbered, proposal_of}
use Rattle.mouth_proposals.specs.Rows.{is_outer}
use Rattle.mouth_proposals.specs.declared.mouths.MouthKind.{MouthKind}
use Prim.Native.Nat.{ℕ, ◌+◌, ◌-◌, ◌*◌, ◌/◌, ◌%◌, ◌≤◌, ◌<◌}
use native.Mathlib.Omega.{arith}
use native.Mathlib.Nat.{le_trans}
use mathlib.Core.Path.{◌≡◌, refl, sym, ap, ap₂, ◌∙◌, subst}
use Rattle.std.specs.Prelude.{Option, None, Some}
use mathlib.Core.Bool.{Bool, true, false, not, ◌&&◌, ◌||◌, cond, or-false, true≢false, false≢true}
use mathlib.Core.List.{List, [], ◌∷◌, ◌++◌, map}
use lib.ListN.{length, get_or, set}
use lib.Seq.{get_or-set_same, get_or-set_other}
use lib.Dec.{eqb, leb}
use borrow.Author.Tests.{eqb-true, eqb-false}
use Rattle.definitions.specs.Scan.{any, member, to_list}
use Rattle.definitions.specs.Grid.{Pair, Boundary, contains}
use Rattle.definitions.specs.MouthShapes.{regions_of}
use Rattle.definitions.specs.Context.{Context}
use Rattle.definitions.specs.RampMouths.{MouthProposal, union_of}
use Rattle.laws.specs.ListLaws.Lists.{All, done, more, any_append, map-append}
use Rattle.laws.specs.ListLaws.NumberLists.{member-append}
use Rattle.laws.specs.OrderLaws.ListOrder.{eqb_sym}
use Rattle.laws.specs.RustMouths.Triangles.{any-regions}
use Rattle.laws.specs.ListLaws.Tests.{neither}
use Rattle.context.specs.Shown.{ShownBoundaries, ShownPairs}
use Rattle.mouth_selection.specs.Held.{held, is_used, is_held, is_refused, hold_at_lem, outer_hold, mark_held, mark_outer, mark_inner, held_at, left_at, HeldMarks, TakenState, same_end_lem}
use Rattle.mouth_proposals.proofs.Distinct.{member-inner}
use Rattle.mouth_proposals.proofs.ApproachLaws.{Named}
use Rattle.mouth_proposals.proofs.Fitting.{all-named-regions}
use Rattle.mouth_selection.proofs.Marks.{held-length, outer-length, held_is}

-- ---- what is left

module _ (C : Context) (taken : List MouthProposal) (m a : ℕ) (outer : Option ℕ) (kind : MouthKind) where
  abbrev p : MouthProposal
  p = proposal_of C m a outer kind

  pub left_by : {x y z : Bool} → member m (map (λ q. q.mouth_index) taken) ≡ x → is_used C taken a ≡ y → is_held taken p ≡ z → not (x || (y || z)) ≡ not (is_refused C taken p)
  unfolding is_refused proposal_of
  left_by e f g = sym (λ i. not (e i || (f i || g i)))

  -- a proposal is left exactly where the marks say so
  pub left_is : {pairs starts marks : List ℕ} {gone ends : List Bool} → ShownPairs C pairs starts → TakenState C taken gone ends marks → m < C.count → a < C.count → Numbered C.regions outer
      → left_at pairs starts marks gone ends (record { mouth = m; ramp = a; outer = outer; kind = kind }) ≡ not (is_refused C taken p)
  unfolding left_at
  left_is {pairs} {starts} {marks} {gone} {ends} P S hm ha h =
      order (get_or gone m false) (get_or ends a false) (held_at pairs starts marks m outer kind)
      ∙ left_by (sym (S.gone m hm)) (sym (S.ends a ha)) (sym (held_is C taken marks S.holds P hm a outer kind h))
    where
      order : (x y z : Bool) → (not (x || y) && not z) ≡ not (x || (y || z))
      order true y z = refl
      order false true z = refl
      order false false z = refl

  pub refused-parts : is_refused C taken p ≡ false → is_held taken p ≡ false
  unfolding is_refused
  refused-parts e = (neither (is_used C taken p.ramp_index) (is_held taken p) (neither (member p.mouth_index (map (λ q. q.mouth_index) taken)) (is_used C taken p.ramp_index || is_held taken p) e).1).1

-- ---- ramp ends

module _ {C : Context} {boundaries : List ℕ} (S : ShownBoundaries C boundaries) (taken : List MouthProposal) (p : MouthProposal) where
  pub end-taken : (a j : ℕ) → p.ramp_index ≡ a → a < C.count → j < C.count → {u : Bool} → u ≡ is_used C taken j → (u || same_end_lem boundaries a j) ≡ is_used C (taken ++ (p ∷ [])) j
  unfolding is_used any
  end-taken a j e ha hj f =
      ap₂ ◌||◌ f (sym (λ i. same (S.at a ha i) (S.at j hj i)) ∙ ap (λ x. same (C.boundary x) (C.boundary j)) (sym e) ∙ sym (or-false (same (C.boundary p.ramp_index) (C.boundary j))))
      ∙ sym (any_append (λ q. same (C.boundary q.ramp_index) (C.boundary j)) taken (p ∷ []))
    where
      same : Boundary → Boundary → Bool
      same x y = eqb x.ramp_id y.ramp_id && eqb x.kind y.kind

-- ---- mouths

pub mouth-taken : (taken : List MouthProposal) (p : MouthProposal) (removed : List Bool) (m i : ℕ) → p.mouth_index ≡ m → m < length removed → get_or removed i false ≡ member i (map (λ q. q.mouth_index) taken)
    → get_or (set removed m true) i false ≡ member i (map (λ q. q.mouth_index) (taken ++ (p ∷ [])))
unfolding member any
mouth-taken taken p removed m i e l h =
    go (eqb i m) refl
    ∙ sym (ap (member i) (map-append (λ q. q.mouth_index) taken (p ∷ [])) ∙ member-append i (map (λ q. q.mouth_index) taken) (p.mouth_index ∷ [])
    ∙ ap (λ b. member i (map (λ q. q.mouth_index) taken) || b) (or-false (eqb i p.mouth_index) ∙ ap (eqb i) e))
  where
    last : (b : Bool) → true ≡ (b || true)
    last true = refl
    last false = refl

    go : (b : Bool) → eqb i m ≡ b → get_or (set removed m true) i false ≡ (member i (map (λ q. q.mouth_index) taken) || eqb i m)
    go true k = ap (λ i. get_or (set removed m true) i false) (eqb-true i m k) ∙ get_or-set_same removed m true false l ∙ last (member i (map (λ q. q.mouth_index) taken)) ∙ ap (λ b. member i (map (λ q. q.mouth_index) taken) || b) (sym k)
    go false k = get_or-set_other removed m i true false (eqb-false i m k) ∙ h ∙ sym (ap (λ b. member i (map (λ q. q.mouth_index) taken) || b) k ∙ or-false (member i (map (λ q. q.mouth_index) taken)))

-- ---- regions

member-regions : (x : ℕ) (l : List Pair) → member x (regions_of l) ≡ any (contains x) l
unfolding member
member-regions x l = any-regions (eqb x) l ∙ (λ i. any (λ p. eqb_sym x p.lo i || eqb_sym x p.hi i) l)

-- one mark, seen at region r; both numbered from 1 on
hold_at : (hold : ℕ) (marks : List ℕ) (s r : ℕ) → 1 ≤ s → s ≤ length marks → 1 ≤ r → hold_at_lem (mark_held hold marks s) r ≡ cond (eqb r s) hold (hold_at_lem marks r)
unfolding mark_held
hold_at hold marks s r hs ls hr = go (eqb r s) refl
  where
    half : (n h : ℕ) → (n % 2 + 2 * h) / 2 ≡ h
    half n h = omega arith

    go : (b : Bool) → eqb r s ≡ b → get_or (set marks (s - 1) (get_or marks (s - 1) 0 % 2 + 2 * hold)) (r - 1) 0 / 2 ≡ cond b hold (hold_at_lem marks r)
    go true k =
        ap (λ r. get_or (set marks (s - 1) (get_or marks (s - 1) 0 % 2 + 2 * hold)) (r - 1) 0 / 2) (eqb-true r s k)
        ∙ ap (λ n. n / 2) (get_or-set_same marks (s - 1) (get_or marks (s - 1) 0 % 2 + 2 * hold) 0 (omega arith)) ∙ half (get_or marks (s - 1) 0) hold
    go false k = ap (λ n. n / 2) (get_or-set_other marks (s - 1) (r - 1) (get_or marks (s - 1) 0 % 2 + 2 * hold) 0 (λ q. eqb-false r s k (omega (arith, q))))

inner_at_lem : (outer : Option ℕ) {n : ℕ} (marks : List ℕ) {l : List ℕ} (r : ℕ) → 1 ≤ r → n ≤ length marks → All (λ s. (1 ≤ s) × (s ≤ n)) l
    → hold_at_lem (mark_inner outer marks l) r ≡ cond (not (is_outer outer r) && member r l) 2 (hold_at_lem marks r)
unfolding mark_inner member any
inner_at_lem outer marks r hr hn done = none (is_outer outer r)
  where
    none : (b : Bool) → hold_at_lem marks r ≡ cond (not b && false) 2 (hold_at_lem marks r)
    none true = refl
    none false = refl
inner_at_lem outer {n} marks r hr hn (more {x = s} {l = l} h t) = next (is_outer outer s) refl (λ m k. inner_at_lem outer m r hr k t)
  where
    skip : (u v : ℕ) (x y e : Bool) → (e ≡ true → x ≡ true) → cond (not x && y) u v ≡ cond (not x && (e || y)) u v
    skip u v x y false k = refl
    skip u v x y true k = ap (λ x. cond (not x && y) u v) (k refl) ∙ sym (ap (λ x. cond (not x && true) u v) (k refl))

    join : (v : ℕ) (x y e : Bool) → (e ≡ true → x ≡ false) → cond (not x && y) 2 (cond e 2 v) ≡ cond (not x && (e || y)) 2 v
    join v true y false k = refl
    join v true y true k = absurd (true≢false (k refl))
    join v false true e k = all_two e
      where
        all_two : (e : Bool) → ◌≡◌ {A = ℕ} 2 (cond (e || true) 2 v)
        all_two true = refl
        all_two false = refl
    join v false false true k = refl
    join v false false false k = refl

    next : (b : Bool) → is_outer outer s ≡ b → ((m : List ℕ) → n ≤ length m → hold_at_lem (mark_inner outer m l) r ≡ cond (not (is_outer outer r) && any (eqb r) l) 2 (hold_at_lem m r))
        → hold_at_lem (mark_inner outer (cond b marks (mark_held 2 marks s)) l) r ≡ cond (not (is_outer outer r) && (eqb r s || any (eqb r) l)) 2 (hold_at_lem marks r)
    next true e ih = ih marks hn ∙ skip 2 (hold_at_lem marks r) (is_outer outer r) (any (eqb r) l) (eqb r s) (λ k. ap (is_outer outer) (eqb-true r s k) ∙ e)
    next false e ih =
        ih (mark_held 2 marks s) (subst (λ k. n ≤ k) (sym (held-length 2 marks s)) hn)
        ∙ ap (cond (not (is_outer outer r) && any (eqb r) l) 2) (hold_at 2 marks s r h.0 (le_trans h.1 hn) hr)
        ∙ join (hold_at_lem marks r) (is_outer outer r) (any (eqb r) l) (eqb r s) (λ k. ap (is_outer outer) (eqb-true r s k) ∙ e)

module _ (C : Context) (taken : List MouthProposal) (m a : ℕ) (outer : Option ℕ) (kind : MouthKind) (marks : List ℕ) (H : HeldMarks C taken marks) (long : C.regions ≤ length marks) (named : All (Named C.regions) (C.pairs m)) (inside : Numbered C.regions outer) (free : is_held taken (proposal_of C m a outer kind) ≡ false) where
  abbrev one : MouthProposal
  one = proposal_of C m a outer kind

  abbrev tri : Bool
  tri = is_triangular kind

  abbrev first : List ℕ
  first = mark_outer (outer_hold kind) outer marks

  abbrev hard : ℕ → Bool
  hard r = any (λ q. member r q.inner || q.is_triangle && member r (union_of q)) taken

  abbrev known : ℕ → Bool
  known r = any (λ q. member r (union_of q)) taken

  -- a region outside was held by none that holds it alone
  outer-free : (o : Option ℕ) → is_held taken (proposal_of C m a o kind) ≡ false → (r : ℕ) → is_outer o r ≡ true → tri ≡ false → hard r ≡ false
  unfolding is_held proposal_of held any
  outer-free None unheld r e t = absurd (false≢true e)
  outer-free (Some o) unheld r e t = ap hard (eqb-true r o e) ∙ go (hard o) refl
    where
      open_outer : (leb 3 (held taken o + cond tri 2 1) || false) ≡ false
      open_outer = (neither _ _ unheld).0

      go : (b : Bool) → hard o ≡ b → b ≡ false
      go true k = absurd (true≢false (sym (ap₂ (λ b t. leb 3 (cond b 2 (cond (known o) 1 0) + cond t 2 1) || false) k t) ∙ open_outer))
      go false k = refl

  -- whether region r is inside
  abbrev within : ℕ → Bool
  within r = not (is_outer outer r) && member r (regions_of (C.pairs m))

  first_at : (o : Option ℕ) → Numbered C.regions o → (r : ℕ) → 1 ≤ r → r ≤ C.regions → hold_at_lem (mark_outer (outer_hold kind) o marks) r ≡ cond (is_outer o r) (cond tri 2 1) (held taken r)
  first_at None h r hr lr = H.at r hr lr
  first_at (Some o) h r hr lr = hold_at (outer_hold kind) marks o r h.0 (le_trans h.1 long) hr ∙ ap (cond (eqb r o) (outer_hold kind)) (H.at r hr lr)

  in_one : (r : ℕ) → member r one.inner ≡ within r
  unfolding proposal_of
  in_one r = member-inner outer r (C.pairs m) ∙ ap (λ b. not (is_outer outer r) && b) (sym (member-regions r (C.pairs m)))

  of_one : (r : ℕ) → member r (union_of one) ≡ (is_outer outer r || within r)
  unfolding proposal_of member any
  of_one r = member-append r one.outer one.inner ∙ ap₂ ◌||◌ (go outer) (in_one r)
    where
      go : (o : Option ℕ) → any (eqb r) (to_list o) ≡ is_outer o r
      go None = refl
      go (Some o) = or-false (eqb r o)

  held_one : (r : ℕ) → held (taken ++ (one ∷ [])) r ≡ cond (hard r || (within r || tri && (is_outer outer r || within r))) 2 (cond (known r || (is_outer outer r || within r)) 1 0)
  unfolding held any
  held_one r =
      (λ i. cond ((any_append (λ q. member r q.inner || q.is_triangle && member r (union_of q)) taken (one ∷ []) ∙ ap (λ b. hard r || b) (or-false _ ∙ new)) i) 2
      (cond ((any_append (λ q. member r (union_of q)) taken (one ∷ []) ∙ ap (λ b. known r || b) (or-false _ ∙ of_one r)) i) 1 0))
    where
      new : (member r one.inner || one.is_triangle && member r (union_of one)) ≡ (within r || tri && (is_outer outer r || within r))
      new = ap₂ (λ x y. x || one.is_triangle && y) (in_one r) (of_one r) ∙ kind_is
        where
          kind_is : (within r || one.is_triangle && (is_outer outer r || within r)) ≡ (within r || tri && (is_outer outer r || within r))
          kind_is = unfold proposal_of in refl

  pub held-taken : HeldMarks C (taken ++ (one ∷ [])) (mark_inner outer first (regions_of (C.pairs m)))
  held-taken = record { at = at }
    where
      at : (r : ℕ) → 1 ≤ r → r ≤ C.regions → hold_at_lem (mark_inner outer first (regions_of (C.pairs m))) r ≡ held (taken ++ (one ∷ [])) r
      at r hr lr =
          inner_at_lem outer first r hr (subst (λ k. C.regions ≤ k) (sym (outer-length (outer_hold kind) outer marks)) long) (all-named-regions named)
          ∙ ap (cond (within r) 2) (first_at outer inside r hr lr ∙ ap (cond (is_outer outer r) (cond tri 2 1)) split)
          ∙ order (is_outer outer r) refl (member r (regions_of (C.pairs m))) tri refl (hard r) refl (known r) ∙ sym (held_one r)
        where
          split : held taken r ≡ cond (hard r) 2 (cond (known r) 1 0)
          split = unfold held in refl

          order : (e : Bool) → is_outer outer r ≡ e → (i t : Bool) → tri ≡ t → (h : Bool) → hard r ≡ h → (k : Bool)
              → ◌≡◌ {A = ℕ} (cond (not e && i) 2 (cond e (cond t 2 1) (cond h 2 (cond k 1 0)))) (cond (h || (not e && i || t && (e || not e && i))) 2 (cond (k || (e || not e && i)) 1 0))
          order true d i true f true g k = refl
          order true d i true f false g k = refl
          order true d i false f true g k = absurd (true≢false (sym g ∙ outer-free outer free r d f))
          order true d i false f false g true = refl
          order true d i false f false g false = refl
          order false d true t f true g k = refl
          order false d true t f false g k = refl
          order false d false true f true g k = refl
          order false d false true f false g true = refl
          order false d false true f false g false = refl
          order false d false false f true g k = refl
          order false d false false f false g true = refl
          order false d false false f false g false = refl
