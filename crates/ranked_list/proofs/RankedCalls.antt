-- What the request says of the ranked list, over any call that met its contract and answered 0: the list holds exactly the proposals that reach the ranking, in rank
-- order; the taken ones keep apart, and pass 3 removes just theirs; a refused one names the earliest taken one that conflicts with it. Assumes nothing.
use Rattle.std.specs.Prelude.{ℕ, zero, suc, ◌<◌, ◌≡◌, Bool, ◌&&◌, length, get_or, drop, eqb, Option, None, Some}
use Rattle.std.proofs.Common.{arith, sym, ◌∙◌}
use Rattle.std.proofs.Math.Path.{refl, ap, subst}
use Rattle.std.proofs.Math.Bool.{true, false, cond}
use mathlib.Core.List.{List, [], ◌∷◌, ◌++◌, map}
use Rattle.definitions.specs.Grid.{span_count}
use Rattle.definitions.specs.RegionRecord.{Region}
use Rattle.definitions.specs.Context.{Context, context_of}
use Rattle.definitions.specs.Junctions.{Proposal, conflict, ranked, removed, is_reserved_port}
use Rattle.definitions.specs.Rows.{removed_of, removed_by}
use Rattle.definitions.specs.Verdict.{Lent, map_in, verdict, refusal}
use Rattle.laws.specs.ListLaws.Flags.{bit-is_one}
use Rattle.ranked_list.specs.RankedList.{Listed, judged, judged_after, ranked_rows, ranked_of, numbers_per_ranked, flat_ranked}
use Rattle.ranked_list.specs.RankedAnswers.{RankedAnswer, ranked_fault, ranked_after, ranked_verdict, ranked_list_exit, RankedRan}
use Rattle.ranked_list.proofs.RankedLaws.{chosen, rows, judged-length, removed-are, taken-apart, refused_by, ports-apart}
use Rattle.ranked_list.proofs.OneBoundary.{no_two}

-- ---- the rows of a list of numbers

-- the row that begins here
abbrev pub ranked_at : List ℕ → Listed Proposal
ranked_at l = record { item = record { index = get_or l 1 0; kind = get_or l 0 0; first = get_or l 2 0; second = get_or l 3 0 }; taken = eqb (get_or l 4 0) 1; by = get_or l 5 0 }

-- the first k rows
unfoldable pub ranked_in : ℕ → List ℕ → List (Listed Proposal)
ranked_in zero l = []
ranked_in (suc k) l = ranked_at l ∷ ranked_in k (drop numbers_per_ranked l)

-- what rows were written is read
pub ranked_of-flat : (l : List (Listed Proposal)) (rest : List ℕ) → ranked_in (length l) (flat_ranked l ++ rest) ≡ l
unfolding ranked_in flat_ranked
ranked_of-flat [] rest = refl
ranked_of-flat (r ∷ l) rest = λ i. record { item = r.item; taken = bit-is_one r.taken i; by = r.by } ∷ ranked_of-flat l rest i

-- ---- what the request says of the rows of a context

-- the first row where there is none; nothing is said of it
unfoldable pub nobody : Listed Proposal
nobody = record { item = record { index = 0; kind = 0; first = 0; second = 0 }; taken = false; by = 0 }

-- p and q, of which neither keeps the other out: 'disjoint port sets', and neither's boundary 'is another's port'
pub record Apart (C : Context) (q p : Proposal) : Type 0 where
  pub first : is_reserved_port C p q.index ≡ false
  pub second : is_reserved_port C q p.index ≡ false
  pub ports : (j : ℕ) → j < C.count → (is_reserved_port C p j && is_reserved_port C q j) ≡ false
  pub boundaries : q.index ≡ p.index → ⊥

-- rank r is the earliest taken one that conflicts with that of rank k, and precedes it
pub record EarliestConflict (C : Context) (l : List (Listed Proposal)) (k r : ℕ) : Type 0 where
  pub precedes : r < k
  pub taken : (get_or l r nobody).taken ≡ true
  pub conflicts : conflict C (get_or l r nobody).item (get_or l k nobody).item ≡ true
  pub earliest : (i : ℕ) → i < r → (get_or l i nobody).taken ≡ true → conflict C (get_or l i nobody).item (get_or l k nobody).item ≡ false

pub record Greedy (C : Context) (l : List (Listed Proposal)) : Type 0 where
  pub items : map (λ r. r.item) l ≡ ranked C
  pub removes : map (λ p. p.index) (chosen (conflict C) l) ≡ removed C
  pub apart : (i j : ℕ) → i < j → j < length l → (get_or l i nobody).taken ≡ true → (get_or l j nobody).taken ≡ true → Apart C (get_or l i nobody).item (get_or l j nobody).item
  pub refused : (k : ℕ) → k < length l → (get_or l k nobody).taken ≡ false → EarliestConflict C l k (get_or l k nobody).by

items-are : {A : Type 0} (clash : A → A → Bool) (earlier : List (Listed A)) (l : List A) → map (λ r. r.item) (judged_after clash earlier l) ≡ l
unfolding judged_after judged
items-are clash earlier [] = refl
items-are {A} clash earlier (p ∷ l) = ap {B = List A} (λ t. p ∷ t) (items-are clash (earlier ++ (judged clash earlier p ∷ [])) l)

pub rows_greedy : (C : Context) → Greedy C (ranked_rows C)
unfolding ranked_rows rows
rows_greedy C = record { items = items-are (conflict C) [] (ranked C); removes = removed-are C; apart = apart; refused = named }
  where
    below : (j : ℕ) → j < length (ranked_rows C) → j < length (ranked C)
    below j h = subst (λ n. j < n) (judged-length (conflict C) [] (ranked C)) h

    apart : (i j : ℕ) → i < j → j < length (ranked_rows C) → (get_or (ranked_rows C) i nobody).taken ≡ true → (get_or (ranked_rows C) j nobody).taken ≡ true → Apart C (get_or (ranked_rows C) i nobody).item (get_or (ranked_rows C) j nobody).item
    apart i j h k a b =
        let p = ports-apart C (get_or (ranked_rows C) i nobody).item (get_or (ranked_rows C) j nobody).item (taken-apart (conflict C) (ranked C) nobody i j h (below j k) a b) in
        record { first = p.0; second = p.1; ports = p.2; boundaries = no_two C nobody i j h (below j k) a b }

    named : (k : ℕ) → k < length (ranked_rows C) → (get_or (ranked_rows C) k nobody).taken ≡ false → EarliestConflict C (ranked_rows C) k (get_or (ranked_rows C) k nobody).by
    named k h a =
        let s = refused_by (conflict C) (ranked C) nobody k (below k h) a in
        record { precedes = s.0; taken = s.1; conflicts = s.2; earliest = s.3 }

-- ---- over a call

-- an answer of 0 has the count of proposals
proposals-are : (n v : ℕ) (o : Option ℕ) (k : ℕ) → (ranked_after n v (refusal 21 o) k).number ≡ 0 → (ranked_after n v (refusal 21 o) k).proposals ≡ k
proposals-are zero v None k h = refl
proposals-are zero v (Some x) k h = absurd (omega (arith, h))
proposals-are (suc n) v o k h = absurd (omega (arith, h))

module _ {L : Lent} {was : List ℕ} {a : RankedAnswer} {l m q t p : List ℕ} {s : List Region} {o k : List ℕ} (ran : RankedRan L was a l m q t p s o k) (accepted : a.number ≡ 0) where
  -- the list holds the ranked list of the map
  pub call-lists : ranked_in a.proposals k ≡ ranked_of (map_in L)
  unfolding ranked_verdict ranked_list_exit
  call-lists =
      ap (λ n. ranked_in n k) (ap (λ b. b.proposals) ran.answer ∙ proposals-are (verdict L).number (verdict L).value (ranked_fault (map_in L) was) (length (ranked_of (map_in L))) (sym (ap (λ b. b.number) ran.answer) ∙ accepted))
      ∙ ap (ranked_in (length (ranked_of (map_in L)))) (ran.list ∙ ap (λ n. ranked_list_exit (map_in L) n was) accepted)
      ∙ ranked_of-flat (ranked_of (map_in L)) (drop (length (flat_ranked (ranked_of (map_in L)))) was)

  -- where there are as many boundaries as spans, all that the request says holds of the rows that the list holds
  pub call_greedy : eqb (length (map_in L).boundaries) (span_count (map_in L)) ≡ true → Greedy (context_of (map_in L)) (ranked_in a.proposals k)
  unfolding ranked_of
  call_greedy e = subst (Greedy (context_of (map_in L))) (sym (call-lists ∙ ap (λ b. cond b (ranked_rows (context_of (map_in L))) []) e)) (rows_greedy (context_of (map_in L)))

  -- where there are not, nothing is proposed
  pub call-lists_none : eqb (length (map_in L).boundaries) (span_count (map_in L)) ≡ false → ranked_in a.proposals k ≡ []
  unfolding ranked_of
  call-lists_none e = call-lists ∙ ap (λ b. cond b (ranked_rows (context_of (map_in L))) []) e

  -- 'pass 3 removes just theirs'
  pub call-removes : map (λ p. p.index) (chosen (conflict (context_of (map_in L))) (ranked_in a.proposals k)) ≡ removed_of 3 (map_in L)
  unfolding ranked_of removed_of removed_by
  call-removes = ap (λ r. map (λ p. p.index) (chosen (conflict (context_of (map_in L))) r)) call-lists ∙ go (eqb (length (map_in L).boundaries) (span_count (map_in L)))
    where
      go : (b : Bool) → map (λ p. p.index) (chosen (conflict (context_of (map_in L))) (cond b (ranked_rows (context_of (map_in L))) [])) ≡ cond b (removed_by 3 (context_of (map_in L))) []
      go true = removed-are (context_of (map_in L))
      go false = refl
