-- What request 11 says of the ranked list, proved of its definition: the taken ones are the selection of pass 3; of two taken ones neither conflicts with the other;
-- a refused one names an earlier taken one that conflicts with it, and none before that does. Assumes nothing.
use Prim.Native.Nat.{ℕ, zero, suc, ◌<◌}
use Rattle.std.proofs.Common.{arith, sym, ◌∙◌, get_or-take}
use Rattle.std.specs.Prelude.{◌≡◌, Bool, not, ◌&&◌, ◌||◌, length, get_or, take}
use Rattle.std.proofs.Math.Path.{refl, ap, subst}
use Rattle.std.proofs.Math.Bool.{true, false, cond}
use Rattle.std.proofs.lemmas.Bool.{false≢true}
use mathlib.Core.List.{List, [], ◌∷◌, ◌++◌, map, append-nil, append_assoc}
use Rattle.std.proofs.Math.ListN.{length-take}
use borrow.Author.Tests.{not-true, not-false}
use Rattle.definitions.specs.Scan.{any, filter, any_below_lem}
use Rattle.definitions.specs.Sort.{select}
use Rattle.definitions.specs.Context.{Context}
use Rattle.definitions.specs.Junctions.{Proposal, conflict, ranked, taken, removed, is_reserved_port, region_conflict}
use Rattle.laws.specs.ListLaws.Lists.{filter-append, map-append}
use Rattle.laws.specs.ListLaws.Tests.{both}
use Rattle.laws.specs.ListLaws.Below.{below_at}
use Rattle.ranked_list.specs.RankedList.{Listed, first_place, blocks, judged, judged_after, ranked_rows}

module _ {A : Type 0} (clash : A → A → Bool) where
  abbrev pub chosen : List (Listed A) → List A
  chosen l = map (λ r. r.item) (filter (λ r. r.taken) l)

  -- a test of the taken rows is a test of the chosen
  any-chosen : (p : A) (l : List (Listed A)) → any (blocks clash p) l ≡ any (λ q. clash q p) (chosen l)
  unfolding any filter
  any-chosen p [] = refl
  any-chosen p (r ∷ l) = ap (λ b. (r.taken && clash r.item p) || b) (any-chosen p l) ∙ go r.taken
    where
      go : (t : Bool) → ((t && clash r.item p) || any (λ q. clash q p) (chosen l)) ≡ any (λ q. clash q p) (map (λ r. r.item) (cond t (r ∷ filter (λ r. r.taken) l) (filter (λ r. r.taken) l)))
      go true = refl
      go false = refl

  chosen_snoc : (l : List (Listed A)) (p : A) → chosen (l ++ (judged clash l p ∷ [])) ≡ cond (any (λ q. clash q p) (chosen l)) (chosen l) (chosen l ++ (p ∷ []))
  unfolding judged filter
  chosen_snoc l p =
      ap (map (λ r. r.item)) (filter-append (λ r. r.taken) l (judged clash l p ∷ []))
      ∙ map-append (λ r. r.item) (filter (λ r. r.taken) l) (filter (λ r. r.taken) (judged clash l p ∷ []))
      ∙ ap (λ b. chosen l ++ map (λ r. r.item) (cond (not b) (judged clash l p ∷ []) [])) (any-chosen p l)
      ∙ go (any (λ q. clash q p) (chosen l))
    where
      go : (b : Bool) → (chosen l ++ map (λ r. r.item) (cond (not b) (judged clash l p ∷ []) [])) ≡ cond b (chosen l) (chosen l ++ (p ∷ []))
      go true = append-nil (chosen l)
      go false = refl

  -- the taken rows are the greedy selection
  pub chosen-select : (earlier : List (Listed A)) (l : List A) → chosen (earlier ++ judged_after clash earlier l) ≡ select clash (chosen earlier) l
  unfolding judged_after select any
  chosen-select earlier [] = ap chosen (append-nil earlier)
  chosen-select earlier (p ∷ l) =
      ap chosen (sym (append_assoc earlier (judged clash earlier p ∷ []) (judged_after clash (earlier ++ (judged clash earlier p ∷ [])) l)))
      ∙ chosen-select (earlier ++ (judged clash earlier p ∷ [])) l
      ∙ ap (λ c. select clash c l) (chosen_snoc earlier p)

  -- every row is that of its item behind the rows before it
  pub row_at_lem : (earlier : List (Listed A)) (l : List A) (k : ℕ) (d : Listed A) (e : A) → k < length l → get_or (judged_after clash earlier l) k d ≡ judged clash (earlier ++ take k (judged_after clash earlier l)) (get_or l k e)
  unfolding judged_after
  row_at_lem earlier [] k d e h = absurd (omega arith)
  row_at_lem earlier (p ∷ l) zero d e h = ap (λ a. judged clash a p) (sym (append-nil earlier))
  row_at_lem earlier (p ∷ l) (suc k) d e h =
      row_at_lem (earlier ++ (judged clash earlier p ∷ [])) l k d e (omega arith)
      ∙ ap (λ a. judged clash a (get_or l k e)) (append_assoc earlier (judged clash earlier p ∷ []) (take k (judged_after clash (earlier ++ (judged clash earlier p ∷ [])) l)))

  -- ---- places

  pub judged-length : (earlier : List (Listed A)) (l : List A) → length (judged_after clash earlier l) ≡ length l
  unfolding judged_after
  judged-length earlier [] = refl
  judged-length earlier (p ∷ l) = ap suc (judged-length (earlier ++ (judged clash earlier p ∷ [])) l)

module _ {A : Type 0} (f : Listed A → Bool) where
  none_at : (l : List (Listed A)) (d : Listed A) → any f l ≡ false → (i : ℕ) → i < length l → f (get_or l i d) ≡ false
  unfolding any
  none_at [] d h i k = absurd (omega arith)
  none_at (r ∷ l) d h zero k = (parts (f r) (any f l) h).0
    where
      parts : (a b : Bool) → (a || b) ≡ false → (a ≡ false) × (b ≡ false)
      parts true b h = absurd (false≢true (sym h))
      parts false b h = (refl, h)
  none_at (r ∷ l) d h (suc i) k = none_at l d (parts (f r) (any f l) h).1 i (omega arith)
    where
      parts : (a b : Bool) → (a || b) ≡ false → (a ≡ false) × (b ≡ false)
      parts true b h = absurd (false≢true (sym h))
      parts false b h = (refl, h)

  pub record Earliest (l : List (Listed A)) (d : Listed A) (k : ℕ) : Type 0 where
    pub below : k < length l
    pub found : f (get_or l k d) ≡ true
    pub none : (i : ℕ) → i < k → f (get_or l i d) ≡ false

  first_is : (l : List (Listed A)) (d : Listed A) → any f l ≡ true → Earliest l d (first_place f l)
  unfolding any first_place
  first_is [] d h = absurd (false≢true h)
  first_is (r ∷ l) d h = go (f r) refl (any f l) refl h (first_is l d)
    where
      go : (a : Bool) → f r ≡ a → (b : Bool) → any f l ≡ b → (a || b) ≡ true → (any f l ≡ true → Earliest l d (first_place f l)) → Earliest (r ∷ l) d (cond a 0 (cond b (suc (first_place f l)) 0))
      go true e b q k ih = record { below = omega arith; found = e; none = λ i l. absurd (omega arith) }
      go false e true q k ih =
          let s = ih q in
          record { below = omega (arith, s.below); found = s.found; none = λ i. before s i }
        where
          before : Earliest l d (first_place f l) → (i : ℕ) → i < suc (first_place f l) → f (get_or (r ∷ l) i d) ≡ false
          before s zero h = e
          before s (suc i) h = s.none i (omega arith)
      go false e false q k ih = absurd (false≢true k)

-- ---- the list by ranks

module _ {A : Type 0} (clash : A → A → Bool) (l : List A) (d : Listed A) where
  unfoldable pub rows : List (Listed A)
  unfolding judged_after
  rows = judged_after clash [] l

  abbrev pub row : ℕ → Listed A
  row k = get_or rows k d

  before-length : (k : ℕ) → k < length l → length (take k rows) ≡ k
  unfolding rows
  before-length k h = length-take k rows ∙ omega (arith, judged-length clash [] l)

  -- rank k holds the k-th item, and is judged by the rows of the ranks before
  row_is : (k : ℕ) → k < length l → row k ≡ judged clash (take k rows) (row k).item
  unfolding rows judged
  row_is k h = at ∙ ap (judged clash (take k rows)) (sym (ap (λ r. r.item) at))
    where
      at : row k ≡ judged clash (take k rows) (get_or l k d.item)
      at = row_at_lem clash [] l k d d.item h

  -- of two taken ones the earlier does not conflict with the later
  pub taken-apart : (i j : ℕ) → i < j → j < length l → (row i).taken ≡ true → (row j).taken ≡ true → clash (row i).item (row j).item ≡ false
  unfolding rows judged
  taken-apart i j h k a b = subst (λ t. (t && clash (row i).item (row j).item) ≡ false) a free
    where
      nothing : any (blocks clash (row j).item) (take j rows) ≡ false
      nothing = not-true _ (sym (ap (λ r. r.taken) (row_is j k)) ∙ b)

      free : ((row i).taken && clash (row i).item (row j).item) ≡ false
      free = ap (blocks clash (row j).item) (sym (get_or-take j rows i d h)) ∙ none_at (blocks clash (row j).item) (take j rows) d nothing i (omega (arith, before-length j k))

  -- a refused one names an earlier taken one that conflicts with it, and no taken one before that conflicts with it
  pub refused_by : (k : ℕ) → k < length l → (row k).taken ≡ false → ((row k).by < k) × ((row (row k).by).taken ≡ true) × (clash (row (row k).by).item (row k).item ≡ true) × ((i : ℕ) → i < (row k).by → (row i).taken ≡ true → clash (row i).item (row k).item ≡ false)
  unfolding rows judged
  refused_by k h a = (low, parts.0, parts.1, λ i m t. subst (λ b. (b && clash (row i).item (row k).item) ≡ false) t (none i m))
    where
      something : any (blocks clash (row k).item) (take k rows) ≡ true
      something = not-false _ (sym (ap (λ r. r.taken) (row_is k h)) ∙ a)

      by_is : (row k).by ≡ first_place (blocks clash (row k).item) (take k rows)
      by_is = ap (λ r. r.by) (row_is k h)

      earliest : Earliest (blocks clash (row k).item) (take k rows) d (row k).by
      earliest = subst (λ n. Earliest (blocks clash (row k).item) (take k rows) d n) (sym by_is) (first_is (blocks clash (row k).item) (take k rows) d something)

      low : (row k).by < k
      low = omega (arith, earliest.below, before-length k h)

      at : (i : ℕ) → i < k → get_or (take k rows) i d ≡ row i
      at i m = get_or-take k rows i d m

      parts : ((row (row k).by).taken ≡ true) × (clash (row (row k).by).item (row k).item ≡ true)
      parts = both _ _ (ap (blocks clash (row k).item) (sym (at (row k).by low)) ∙ earliest.found)

      none : (i : ℕ) → i < (row k).by → ((row i).taken && clash (row i).item (row k).item) ≡ false
      none i m = ap (blocks clash (row k).item) (sym (at i (omega (arith, low)))) ∙ earliest.none i m

-- ---- of pass 3

module _ (C : Context) where
  -- "pass 3 removes just theirs"
  pub taken-are : chosen (conflict C) (ranked_rows C) ≡ taken C
  unfolding ranked_rows taken filter
  taken-are = chosen-select (conflict C) [] (ranked C)

  pub removed-are : map (λ p. p.index) (chosen (conflict C) (ranked_rows C)) ≡ removed C
  unfolding removed
  removed-are = ap (map (λ p. p.index)) taken-are

  or_none : (a b : Bool) → (a || b) ≡ false → (a ≡ false) × (b ≡ false)
  or_none true b h = absurd (false≢true (sym h))
  or_none false b h = (refl, h)

  none_below : (n : ℕ) (f : ℕ → Bool) → any_below_lem n f ≡ false → (j : ℕ) → j < n → f j ≡ false
  none_below n f h j k = go (f j) refl
    where
      go : (b : Bool) → f j ≡ b → f j ≡ false
      go true e = absurd (false≢true (sym h ∙ below_at n f j k e))
      go false e = e

  -- two that do not conflict: "disjoint port sets, no taken boundary is another's port"
  pub ports-apart : (q p : Proposal) → conflict C q p ≡ false → (is_reserved_port C p q.index ≡ false) × (is_reserved_port C q p.index ≡ false) × ((j : ℕ) → j < C.count → (is_reserved_port C p j && is_reserved_port C q j) ≡ false)
  unfolding conflict
  ports-apart q p h = (first.0, first.1, none_below C.count (λ j. is_reserved_port C p j && is_reserved_port C q j) second.1)
    where
      third : ((is_reserved_port C p q.index || is_reserved_port C q p.index || any_below_lem C.count (λ j. is_reserved_port C p j && is_reserved_port C q j)) ≡ false) × (region_conflict q.kind p.kind q p ≡ false)
      third = or_none _ _ h

      second : ((is_reserved_port C p q.index || is_reserved_port C q p.index) ≡ false) × (any_below_lem C.count (λ j. is_reserved_port C p j && is_reserved_port C q j) ≡ false)
      second = or_none _ _ third.0

      first : (is_reserved_port C p q.index ≡ false) × (is_reserved_port C q p.index ≡ false)
      first = or_none _ _ second.0
