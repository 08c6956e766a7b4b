-- The rounds of the selection: what is known between them, that each leaves a mouth less, and that what was taken at the end is the definitions' choice. Assumes nothing.
use Rattle.mouth_proposals.specs.declared.candidates.Candidate.{Candidate}
use Prim.Native.Nat.{ℕ, ◌≤◌, ◌<◌}
use native.Mathlib.Omega.{arith}
use native.Mathlib.Nat.{le_trans}
use mathlib.Core.Path.{◌≡◌, refl, sym, ap, ◌∙◌, subst}
use mathlib.Core.Bool.{Bool, true, false, not, ◌||◌, cond, or-false, or-true, false≢true}
use Rattle.std.specs.Prelude.{Option, None, Some}
use mathlib.Core.List.{List, [], ◌∷◌, ◌++◌, map}
use lib.ListN.{length, get_or}
use lib.Dec.{eqb}
use borrow.Author.Tests.{eq-eqb, ne_eqb}
use Rattle.definitions.specs.Scan.{any, filter, member, count_below}
use Rattle.definitions.specs.Sort.{sort, select}
use Rattle.definitions.specs.Context.{Context}
use Rattle.definitions.specs.RampMouths.{MouthProposal, conflict, key, ranks_before, proposals}
use Rattle.definitions.specs.RampMouths as mouths
use Rattle.laws.specs.ListLaws.Lists.{All, done, more, map-append}
use Rattle.laws.specs.ListLaws.Members.{filter_passes}
use Rattle.laws.specs.ListLaws.NumberLists.{member-append}
use Rattle.laws.specs.ListLaws.Below.{count_ext}
use Rattle.laws.specs.OrderLaws.ListOrder.{by_key}
use Rattle.laws.specs.OrderLaws.StableSort.{Weak}
use Rattle.laws.specs.ListLaws.Tests.{neither}
use Rattle.laws.specs.RegionLaws.OneMore.{OneMore, count_more}
use Rattle.context.proofs.ShownLaws.{shown-stretch, shown-rows}
use Rattle.context.specs.Rows.{NamedRow, NamedRows}
use Rattle.mouth_selection.specs.Held.{is_refused, TakenState}
use Rattle.mouth_proposals.specs.Candidates.{Numbered}
use Rattle.mouth_selection.specs.Entries.{SafeMouth, Known}
use Rattle.mouth_selection.specs.Rounds.{better, least_from, least_among}
use Rattle.mouth_selection.specs.Selecting.{is_removed, Lists}
use Rattle.mouth_selection.proofs.Conflicts.{refused_is, conflicts-itself}
use Rattle.mouth_selection.proofs.Greedy.{is_left, rounds-end, round-taken}

-- ---- what the code may read

numbered-wider : {k l : ℕ} → k ≤ l → (o : Option ℕ) → Numbered k o → Numbered l o
numbered-wider long None h = tt
numbered-wider long (Some r) h = (h.0, le_trans h.1 long)

row-wider : {rows : List ℕ} {k l r : ℕ} → k ≤ l → NamedRow rows k r → NamedRow rows l r
row-wider long r = record { inside = r.inside; lo-pos = r.lo-pos; lo-le = le_trans r.lo-le long; hi-pos = r.hi-pos; hi-le = le_trans r.hi-le long }

module _ {boundaries pairs starts : List ℕ} {count : ℕ} {C : Context} (L : Lists boundaries pairs starts count C) (marks : List ℕ) (long : C.regions ≤ length marks) where
  pub safe-mouth : {e : Candidate} → Known C e → SafeMouth pairs starts marks e.mouth e.outer
  safe-mouth {e} K =
      record {
        stretch = shown-stretch L.rows _ K.mouth;
        rows = λ r l u. row-wider long ((shown-rows L.rows).named _ K.mouth r l u);
        marked = numbered-wider long e.outer K.outer;
      }

  pub all-rows : NamedRows pairs starts count (length marks)
  all-rows =
      let N = shown-rows L.rows in
      subst (λ n. NamedRows pairs starts n (length marks)) L.counted (record { few = N.few; stretch = N.stretch; named = λ i h k a b. row-wider long (N.named i h k a b) })

-- ---- the least of what is left is left

pub least_passes : {P : MouthProposal → Type 0} (lt : MouthProposal → MouthProposal → Bool) (b : Option MouthProposal) {l : List MouthProposal} (p : MouthProposal)
    → ((q : MouthProposal) → b ≡ Some q → P q) → All P l → least_from lt b l ≡ Some p → P p
unfolding least_from
least_passes lt b p h done e = h p e
least_passes {P} lt b p h (more {x = x} k a) e = least_passes lt (better lt b x) p (next b h) a e
  where
    next : (b : Option MouthProposal) → ((q : MouthProposal) → b ≡ Some q → P q) → (q : MouthProposal) → better lt b x ≡ Some q → P q
    next None h q f = let same : x ≡ q = cc in subst P same k
    next (Some y) h q f = pick (lt x y) f
      where
        pick : (c : Bool) → Some (cond c x y) ≡ Some q → P q
        pick true f = let same : x ≡ q = cc in subst P same k
        pick false f = let same : y ≡ q = cc in subst P same (h y refl)

pub least_left-over : (C : Context) (T l : List MouthProposal) (p : MouthProposal) → Some p ≡ least_among C T l → is_refused C T p ≡ false
unfolding least_among
least_left-over C T l p e =
    negated (is_refused C T p)
    (least_passes {P = λ q. not (is_refused C T q) ≡ true} (ranks_before C) None p (λ q f. absurd (apart q f)) (filter_passes (λ q. not (is_refused C T q)) l) (sym e))
  where
    apart : (q : MouthProposal) → None ≡ Some q → ⊥
    apart q f = let z : ◌≡◌ {A = ℕ} 0 1 = cc in omega arith

    negated : (b : Bool) → not b ≡ true → b ≡ false
    negated true e = absurd (false≢true e)
    negated false e = refl

-- ---- between rounds

module _ (C : Context) (l : List MouthProposal) where
  abbrev sorted : List MouthProposal
  sorted = sort (ranks_before C) l

  weak : Weak (ranks_before C)
  unfolding ranks_before
  weak = by_key (key C)

  left_is : (T : List MouthProposal) → least_among C T l ≡ least_from (ranks_before C) None (filter (is_left (conflict C) T) l)
  unfolding least_among
  left_is T = λ i. least_from (ranks_before C) None (filter (λ p. not (sym (refused_is T C p) i)) l)

  pub one_round : (T : List MouthProposal) (p : MouthProposal) → Some p ≡ least_among C T l → select (conflict C) T sorted ≡ select (conflict C) (T ++ (p ∷ [])) sorted
  one_round T p e =
      round-taken (conflict C) (ranks_before C) weak l T p (conflicts-itself C p) (ap not (refused_is T C p ∙ least_left-over C T l p e)) (sym (left_is T) ∙ sym e)

  pub last_round : (T : List MouthProposal) → None ≡ least_among C T l → select (conflict C) T sorted ≡ T
  last_round T e = rounds-end (conflict C) (ranks_before C) weak l T (sym (left_is T) ∙ sym e)

-- nothing is left: what was taken is what the pass removes
pub round_last : {C : Context} {removed used : List Bool} {marks : List ℕ} (T : List MouthProposal) → TakenState C T removed used marks
    → select (conflict C) T (sort (ranks_before C) (proposals C)) ≡ select (conflict C) [] (sort (ranks_before C) (proposals C)) → None ≡ least_among C T (proposals C)
    → (i : ℕ) → i < C.count → get_or removed i false ≡ is_removed C i
unfolding mouths.removed mouths.taken
round_last {C} T S same e i h = S.gone i h ∙ ap (λ t. member i (map (λ q. q.mouth_index) t)) (sym (last_round C (proposals C) T e) ∙ same)

-- what is left has a mouth that is not gone
pub mouth-left : (C : Context) (T : List MouthProposal) (p : MouthProposal) → is_refused C T p ≡ false → member p.mouth_index (map (λ q. q.mouth_index) T) ≡ false
unfolding is_refused
mouth-left C T p e = (neither (member p.mouth_index (map (λ q. q.mouth_index) T)) _ e).0

-- a mouth more is gone
pub fewer-left : {C : Context} {count : ℕ} → C.count ≡ count → (T : List MouthProposal) (p : MouthProposal) {was now : List Bool} {used uses : List Bool} {marks mark : List ℕ} → TakenState C T was used marks → TakenState C (T ++ (p ∷ [])) now uses mark
    → p.mouth_index < C.count → member p.mouth_index (map (λ q. q.mouth_index) T) ≡ false
    → count_below count (λ i. not (get_or now i false)) < count_below count (λ i. not (get_or was i false))
fewer-left {C} same T p {was} {now} S U h e =
    subst (λ n. count_below n (λ i. not (get_or now i false)) < count_below n (λ i. not (get_or was i false))) same less
  where
    F : ℕ → Bool
    F i = not (member i (map (λ q. q.mouth_index) T))

    G : ℕ → Bool
    G i = not (member i (map (λ q. q.mouth_index) (T ++ (p ∷ []))))

    grown : (i : ℕ) → member i (map (λ q. q.mouth_index) (T ++ (p ∷ []))) ≡ (member i (map (λ q. q.mouth_index) T) || eqb i p.mouth_index)
    grown i = ap (member i) (map-append (λ q. q.mouth_index) T (p ∷ [])) ∙ member-append i (map (λ q. q.mouth_index) T) (p.mouth_index ∷ []) ∙ ap (λ b. member i (map (λ q. q.mouth_index) T) || b) (last i)
      where
        last : (i : ℕ) → member i (p.mouth_index ∷ []) ≡ eqb i p.mouth_index
        last i = unfold member in (unfold any in or-false (eqb i p.mouth_index))

    one : OneMore (λ i. not (member i (map (λ q. q.mouth_index) (T ++ (p ∷ []))))) (λ i. not (member i (map (λ q. q.mouth_index) T))) p.mouth_index
    one =
        record {
          before = ap not (grown p.mouth_index ∙ ap (λ b. member p.mouth_index (map (λ q. q.mouth_index) T) || b) (eq-eqb p.mouth_index p.mouth_index refl) ∙ or-true (member p.mouth_index (map (λ q. q.mouth_index) T)));
          after = ap not e;
          rest = λ d k. sym (ap not (grown d ∙ ap (λ b. member d (map (λ q. q.mouth_index) T) || b) (ne_eqb d p.mouth_index k) ∙ or-false (member d (map (λ q. q.mouth_index) T))));
        }

    less : count_below C.count (λ i. not (get_or now i false)) < count_below C.count (λ i. not (get_or was i false))
    less =
        let a = count_ext C.count (λ i. not (get_or now i false)) G (λ i l. ap not (U.gone i l)) in
        let b = count_ext C.count (λ i. not (get_or was i false)) F (λ i l. ap not (S.gone i l)) in
        omega (arith, a, b, count_more one C.count h)
