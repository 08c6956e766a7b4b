-- Boundaries that can be the mouth of no proposal any more, and ramps whose end is used: all that is proposed of them conflicts with one taken. Assumes nothing.
use Rattle.mouth_proposals.specs.declared.mouths.MouthKind.{MouthKind}
use Prim.Native.Nat.{ℕ, zero, suc, ◌+◌, ◌≤◌, ◌<◌}
use native.Mathlib.Omega.{arith}
use mathlib.Core.Path.{◌≡◌, refl, sym, ap, ap₂, ◌∙◌, subst}
use mathlib.Core.Logic.{⊎_elim}
use mathlib.Core.Bool.{Bool, true, false, not, ◌&&◌, ◌||◌, cond, or-false}
use Rattle.std.specs.Prelude.{Option, None, Some}
use mathlib.Core.List.{List, map}
use lib.ListN.{get_or}
use lib.Dec.{eqb, leb}
use borrow.Author.Tests.{eq-eqb, leb-true, le-leb}
use Rattle.definitions.specs.Scan.{any, filter, member, collect, to_list}
use Rattle.definitions.specs.Grid.{contains}
use Rattle.definitions.specs.MouthShapes.{distinct_regions, mouth_shape}
use Rattle.definitions.specs.Context.{Context, full_cut, full_pair, no_ramp}
use Rattle.definitions.specs.RampMouths.{MouthProposal, union_of, retain, is_local, corners_near_lem, broad_mouth, nearby_representative, overlay_representative, triangle, triangle_or, shaped_mouth, ranks_before, mouth_proposal, proposals}
use Rattle.laws.specs.ListLaws.Lists.{All, done, all_append, filter_none}
use Rattle.laws.specs.ListLaws.Options.{OnO, absent, present, on_only, on_list, on_map_lem}
use Rattle.laws.specs.ListLaws.NumberLists.{member-append}
use Rattle.laws.specs.ListLaws.ListsAsSets.{any-member}
use Rattle.laws.specs.ListLaws.Below.{gather-below}
use Rattle.laws.specs.ListLaws.Tests.{or_split, or_right}
use Rattle.context.specs.Shown.{ShownPairs, pair_at, pairs_between}
use Rattle.context.specs.Rows.{NamedRow}
use Rattle.context.proofs.ShownLaws.{shown-rows}
use Rattle.mouth_proposals.specs.Rows.{is_outer, inner_of}
use Rattle.mouth_proposals.specs.Candidates.{Numbered, proposal_of, mouth_candidate}
use Rattle.mouth_proposals.proofs.ApproachLaws.{Named}
use Rattle.mouth_proposals.proofs.Distinct.{member_filter, member_distinct, member-inner}
use Rattle.mouth_proposals.proofs.RowLists.{between_cons}
use Rattle.mouth_proposals.proofs.OuterWithin.{triangle_of, found_on}
use Rattle.mouth_selection.specs.Held.{held, hold_at_lem, is_used, is_held, is_refused, TakenState}
use Rattle.mouth_selection.specs.Rounds.{least_from, least_among}
use Rattle.mouth_selection.specs.Selecting.{row_of, Gone}
use Rattle.mouth_selection.proofs.ProposalLists.{proposal_is}

-- ---- what is proposed names its mouth, its ramp and every region of the mouth's pairs

record Formed (C : Context) (a m : ℕ) (p : MouthProposal) : Type 0 where
  mouth : p.mouth_index ≡ m
  ramp : p.ramp_index ≡ a
  names : (r : ℕ) → 1 ≤ r → any (contains r) (C.pairs m) ≡ true → member r (union_of p) ≡ true

module _ (C : Context) (a m : ℕ) (named : All (Named C.regions) (C.pairs m)) where
  plain-formed : (outer : Option ℕ) (kind : MouthKind) → Numbered C.regions outer → Formed C a m (proposal_of C m a outer kind)
  unfolding proposal_of member any
  plain-formed outer kind h =
      record {
        mouth = refl;
        ramp = refl;
        names = λ r k e.
            member-append r (to_list outer) (inner_of outer (C.pairs m)) ∙ ap₂ ◌||◌ (named-outer outer r) (member-inner outer r (C.pairs m)) ∙ pick (is_outer outer r) (any (contains r) (C.pairs m)) e;
      }
    where
      named-outer : (o : Option ℕ) (r : ℕ) → any (eqb r) (to_list o) ≡ is_outer o r
      named-outer None r = refl
      named-outer (Some o) r = or-false (eqb r o)

      pick : (b c : Bool) → c ≡ true → (b || (not b && c)) ≡ true
      pick true c e = refl
      pick false c e = e

  triangle-formed : Formed C a m (triangle_of C a m)
  triangle-formed =
      record {
        mouth = refl;
        ramp = refl;
        names = λ r k e.
            member-append r (filter C.anchored (distinct_regions (C.pairs m))) (filter (λ r. not (C.anchored r)) (distinct_regions (C.pairs m)))
            ∙ ap₂ ◌||◌ (member_filter C.anchored r (distinct_regions (C.pairs m))) (member_filter (λ r. not (C.anchored r)) r (distinct_regions (C.pairs m)))
            ∙ pick (C.anchored r) (member r (distinct_regions (C.pairs m))) (member_distinct r (C.pairs m) ∙ e);
      }
    where
      pick : (b c : Bool) → c ≡ true → ((b && c) || (not b && c)) ≡ true
      pick true c e = or-false c ∙ e
      pick false c e = e

  on_retain : {P : MouthProposal → Type 0} (f : MouthProposal → Bool) {o : Option MouthProposal} → OnO P o → OnO P (retain f o)
  on_retain f absent = absent
  on_retain f (present {x = x} h) = on_only (f x) x h

  formed_on : OnO (Formed C a m) (mouth_proposal C a m)
  unfolding mouth_candidate
  formed_on = subst (OnO (Formed C a m)) (sym (proposal_is C a m)) (on_retain (corners_near_lem C) (on_retain _ (found_on C a m named plain-formed triangle-formed)))

collected : {P : MouthProposal → Type 0} (n : ℕ) (f : ℕ → Option MouthProposal) → ((i : ℕ) → i < n → OnO P (f i)) → All P (collect n f)
unfolding collect
collected zero f h = done
collected (suc n) f h = all_append (collected n f (λ i l. h i (omega arith))) (on_list (h n (omega arith)))

pub row_ramps : {C : Context} {pairs starts : List ℕ} → ShownPairs C pairs starts → (a : ℕ) → All (λ p. p.ramp_index ≡ a) (row_of C a)
row_ramps {C} P a = collected C.count (mouth_proposal C a) (λ m h. on_map_lem (λ p F. F.ramp) (formed_on C a m (P.named m h)))

-- ---- what conflicts with one taken

module _ (C : Context) (T : List MouthProposal) where
  abbrev Refused : MouthProposal → Type 0
  Refused p = is_refused C T p ≡ true

  module _ {a m : ℕ} (p : MouthProposal) (F : Formed C a m p) where
    by_mouth : member m (map (λ q. q.mouth_index) T) ≡ true → Refused p
    unfolding is_refused
    by_mouth e = ap (λ b. b || (is_used C T p.ramp_index || is_held T p)) (ap (λ i. member i (map (λ q. q.mouth_index) T)) F.mouth ∙ e)

    by_ramp : is_used C T a ≡ true → Refused p
    unfolding is_refused
    by_ramp e = or_right (member p.mouth_index (map (λ q. q.mouth_index) T)) _ (ap (λ b. b || is_held T p) (ap (is_used C T) F.ramp ∙ e))

    by_region : (r : ℕ) → 1 ≤ r → any (contains r) (C.pairs m) ≡ true → 2 ≤ held T r → Refused p
    unfolding is_refused is_held
    by_region r l e h =
        or_right (member p.mouth_index (map (λ q. q.mouth_index) T)) _
        (or_right (is_used C T p.ramp_index) _
        (⊎_elim (λ o. ap (λ b. b || any (λ r. leb 1 (held T r)) p.inner) (any-member (λ r. leb 3 (held T r + cond p.is_triangle 2 1)) r p.outer o (three p.is_triangle)))
        (λ i. or_right (any (λ r. leb 3 (held T r + cond p.is_triangle 2 1)) p.outer) _ (any-member (λ r. leb 1 (held T r)) r p.inner i (le-leb 1 (held T r) (omega arith))))
        (or_split (member r p.outer) (member r p.inner) (sym (member-append r p.outer p.inner) ∙ F.names r l e))))
      where
        three : (t : Bool) → leb 3 (held T r + cond t 2 1) ≡ true
        three true = le-leb 3 (held T r + 2) (omega arith)
        three false = le-leb 3 (held T r + 1) (omega arith)

  none_free : {l : List MouthProposal} → All Refused l → None ≡ least_among C T l
  unfolding least_among least_from
  none_free a = sym (ap (least_from (ranks_before C) None) (filter_none (λ p. not (is_refused C T p)) (λ p e. ap not e) a))

  -- no boundary can be a mouth
  pub all_none : ((m : ℕ) → m < C.count → Gone C T m) → None ≡ least_among C T (proposals C)
  unfolding proposals
  all_none g = none_free (gather-below (λ a. collect C.count (mouth_proposal C a)) C.count (λ a h. collected C.count (mouth_proposal C a) (λ m k. (g m k).refused a)))

  -- ---- a boundary

  pub gone-ramp : (m : ℕ) → no_ramp C m ≡ false → Gone C T m
  unfolding mouth_proposal
  gone-ramp m e =
      record {
        refused = λ a.
            subst (OnO Refused)
            (sym ((λ i. cond (not (no_ramp C a) && full_cut C a && e i && near a) (rest a) None) ∙ go (not (no_ramp C a)) (full_cut C a) (near a) (rest a)))
            absent;
      }
    where
      near : ℕ → Bool
      near a = broad_mouth C m a || nearby_representative C m a || overlay_representative C m a

      rest : ℕ → Option MouthProposal
      rest a = retain (is_local C) (triangle_or C (triangle C m a) m a (shaped_mouth C m a (full_pair C a) (mouth_shape (full_cut C m) (C.pairs m))))

      go : (x y z : Bool) (o : Option MouthProposal) → cond (x && y && false && z) o None ≡ None
      go true true z o = refl
      go true false z o = refl
      go false y z o = refl

  module _ {pairs starts : List ℕ} (P : ShownPairs C pairs starts) {m : ℕ} (hm : m < C.count) where
    formed : (a : ℕ) → OnO (Formed C a m) (mouth_proposal C a m)
    formed a = formed_on C a m (P.named m hm)

    module _ {removed used : List Bool} {marks : List ℕ} (S : TakenState C T removed used marks) where
      pub gone-removed : get_or removed m false ≡ true → Gone C T m
      gone-removed e = record { refused = λ a. on_map_lem (λ p F. by_mouth p F (sym (S.gone m hm) ∙ e)) (formed a) }

      -- a region of the first row is held
      pub gone_held : get_or starts m 0 < get_or starts (m + 1) 0 → {lo hi : ℕ} → record { lo = lo; hi = hi } ≡ pair_at pairs (get_or starts m 0)
          → (leb 2 (hold_at_lem marks lo) || leb 2 (hold_at_lem marks hi)) ≡ true → Gone C T m
      unfolding any
      gone_held l {lo} {hi} e h = ⊎_elim (gone lo row.lo-pos row.lo-le (ap (λ p. p.lo) e) first) (gone hi row.hi-pos row.hi-le (ap (λ p. p.hi) e) second) (or_split (leb 2 (hold_at_lem marks lo)) (leb 2 (hold_at_lem marks hi)) h)
        where
          row : NamedRow pairs C.regions (get_or starts m 0)
          row = (shown-rows P).named m hm (get_or starts m 0) (omega arith) l

          named : (r : ℕ) → contains r (pair_at pairs (get_or starts m 0)) ≡ true → any (contains r) (C.pairs m) ≡ true
          named r f = ap (any (contains r)) (P.at m hm ∙ between_cons pairs (get_or starts m 0) (get_or starts (m + 1) 0) l) ∙ ap (λ b. b || any (contains r) (pairs_between pairs (get_or starts m 0 + 1) (get_or starts (m + 1) 0))) f

          first : contains lo (pair_at pairs (get_or starts m 0)) ≡ true
          first = ap (λ b. b || eqb (pair_at pairs (get_or starts m 0)).hi lo) (eq-eqb (pair_at pairs (get_or starts m 0)).lo lo (sym (ap (λ p. p.lo) e)))

          second : contains hi (pair_at pairs (get_or starts m 0)) ≡ true
          second = or_right (eqb (pair_at pairs (get_or starts m 0)).lo hi) _ (eq-eqb (pair_at pairs (get_or starts m 0)).hi hi (sym (ap (λ p. p.hi) e)))

          gone : (r : ℕ) → {s : ℕ} → 1 ≤ s → s ≤ C.regions → r ≡ s → contains r (pair_at pairs (get_or starts m 0)) ≡ true → leb 2 (hold_at_lem marks r) ≡ true → Gone C T m
          gone r p q f c k = record { refused = λ a. on_map_lem (λ x F. by_region x F r (omega (arith, p, f)) (named r c) (omega (arith, leb-true 2 (hold_at_lem marks r) k, S.holds.at r (omega (arith, p, f)) (omega (arith, q, f))))) (formed a) }

  -- ---- a ramp whose end is used

  pub used_none : {pairs starts : List ℕ} → ShownPairs C pairs starts → (a : ℕ) → is_used C T a ≡ true → None ≡ least_among C T (row_of C a)
  used_none P a e = none_free (collected C.count (mouth_proposal C a) (λ m h. on_map_lem (λ p F. by_ramp p F e) (formed P h a)))
