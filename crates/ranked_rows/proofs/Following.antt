-- A row that is put behind those of the ranks before it gives the list with that row more, and so the list of an order comes about rank by rank. Assumes nothing.
use Prim.Native.Nat.{ℕ, suc, ◌+◌, ◌≤◌, ◌<◌}
use native.Mathlib.Numerals.{add-one}
use native.Mathlib.Omega.{arith}
use mathlib.Core.Path.{◌≡◌, refl, sym, ap, ap₂, ◌∙◌, subst}
use mathlib.Core.Bool.{Bool, not}
use Rattle.std.specs.Prelude.{Option, None, Some}
use Rattle.std.specs.Option.{is_some}
use mathlib.Core.List.{List, [], ◌∷◌, ◌++◌, map}
use lib.ListN.{length, get_or, set, take, drop, length-map, length-set, get_or-map}
use Rattle.std.proofs.lemmas.List.{map-append, drop-set-lt}
use lib.Seq.{take-suc-set, drop-drop}
use Rattle.definitions.specs.Scan.{collect}
use Rattle.definitions.specs.Junctions.{Proposal}
use Rattle.laws.specs.ListLaws.Lists.{All, done, more, all_append}
use Rattle.laws.specs.ListLaws.Flags.{bit_le}
use Rattle.junction_proposals.specs.declared.proposals.Candidate.{Candidate}
use Rattle.junction_proposals.specs.Bridges.{FirstIn}
use Rattle.junction_proposals.specs.Rows.{form, nothing, row_at}
use Rattle.junction_selection.specs.Ranks.{order_of, conflict_at}
use Rattle.ranked_list.specs.RankedList.{Listed, blocks, judged, judged_after, flat_ranked}
use Rattle.ranked_rows.specs.declared.RankedRow.{RankedRow}
use Rattle.ranked_rows.specs.Contract.{listed_form, judged_row, row_numbers, no_row, row_of, listed_from, blocks_at}
use Rattle.ranked_rows.proofs.Judging.{judged_more, row_listed}
use Rattle.ranked_rows.proofs.Numbers.{IsFlagged, numbers_listed}
use Rattle.region_pairs.specs.declared.Pair as declared

-- ---- the rows that an order names

pub order_next : (rows : List Candidate) (order : List ℕ) (k : ℕ) → order_of rows order (k + 1) ≡ order_of rows order k ++ (row_at rows (get_or order k 0) ∷ [])
unfolding order_of collect
order_next rows order k =
    let one : k + 1 ≡ suc k = omega arith in
    ap (order_of rows order) one

-- ---- a row more

-- a search of one list is that of another that is alike
alike : {f g : ℕ → Bool} {n m : ℕ} → ((i : ℕ) → i < n → f i ≡ g i) → n ≡ m → (found : Option ℕ) → FirstIn f 0 n found → FirstIn g 0 m found
alike e q None s = λ j a h. sym (e j (omega arith)) ∙ s j a (omega arith)
alike e q (Some r) s = (s.0, omega (arith, s.1), sym (e r s.1) ∙ s.2, λ j a h. sym (e j (omega (arith, s.1))) ∙ s.3 j a h)

-- what stands behind the rows is as it was
pub rest_more : {A : Type 0} (listed was : List A) (k : ℕ) (x : A) → drop k listed ≡ drop k was → drop (k + 1) (set listed k x) ≡ drop (k + 1) was
rest_more listed was k x e = drop-set-lt (k + 1) listed k x (omega arith) ∙ sym (drop-drop 1 k listed) ∙ ap (drop 1) e ∙ drop-drop 1 k was

module _ (full : List (Option declared.Pair)) (count : ℕ) where
  abbrev clash : Proposal → Proposal → Bool
  clash = conflict_at full count

  -- the rows of the first k ranks are listed, and what stands behind them is as it was
  pub record ListedTo (rows : List Candidate) (order : List ℕ) (was listed : List RankedRow) (k : ℕ) : Type 0 where
    pub upto : k ≤ length order
    pub long : length listed ≡ length was
    pub list : map listed_form (take k listed) ≡ listed_from full count (order_of rows order k)
    pub flagged : All IsFlagged (take k listed)
    pub rest : drop k listed ≡ drop k was

  pub listed_none : (rows : List Candidate) (order : List ℕ) (listed : List RankedRow) → ListedTo rows order listed listed 0
  unfolding listed_from order_of judged_after collect
  listed_none rows order listed = record { upto = omega arith; long = refl; list = refl; flagged = done; rest = refl }

  pub listed_more : (rows : List Candidate) (order : List ℕ) (was listed : List RankedRow) (k : ℕ) (row : RankedRow) (found : Option ℕ)
      → ListedTo rows order was listed k → k < length order → length order ≤ length was
      → FirstIn (λ r. blocks_at full count (get_or rows (get_or order k 0) nothing) (row_of (take k listed) r)) 0 (length (take k listed)) found
      → row ≡ judged_row (get_or rows (get_or order k 0) nothing) found → ListedTo rows order was (set listed k row) (k + 1)
  listed_more rows order was listed k row found h below room first judged_is =
      record {
        upto = omega arith;
        long = length-set listed k row ∙ h.long;
        list =
            ap (map listed_form) grown_to ∙ map-append listed_form (take k listed) (row ∷ [])
            ∙ ap₂ (λ x y. x ++ (y ∷ [])) h.list
            (ap listed_form judged_is ∙ row_listed clash before p found (listed_form no_row) (alike held (sym (length-map (take k listed) listed_form)) found first)
            ∙ ap (λ b. judged clash b (form p)) h.list)
            ∙ sym grown;
        flagged = subst (All IsFlagged) (sym grown_to) (all_append h.flagged (more flag done));
        rest = rest_more listed was k row h.rest;
      }
    where
      p : Candidate
      p = get_or rows (get_or order k 0) nothing

      before : List (Listed Proposal)
      before = map listed_form (take k listed)

      held : (i : ℕ) → i < length (take k listed) → blocks_at full count p (row_of (take k listed) i) ≡ blocks clash (form p) (get_or before i (listed_form no_row))
      held i h = ap (blocks clash (form p)) (sym (get_or-map listed_form (take k listed) i no_row))

      grown_to : take (k + 1) (set listed k row) ≡ take k listed ++ (row ∷ [])
      grown_to = ap (λ n. take n (set listed k row)) (add-one k) ∙ take-suc-set listed k row (omega (arith, h.long))

      flag : row.taken ≤ 1
      flag = omega (arith, ap (λ r. r.taken) judged_is, bit_le (not (is_some found)))

      grown : listed_from full count (order_of rows order (k + 1)) ≡ listed_from full count (order_of rows order k) ++ (judged clash (listed_from full count (order_of rows order k)) (form p) ∷ [])
      grown =
          ap (listed_from full count) (order_next rows order k)
          ∙ unfold listed_from in judged_more clash [] (order_of rows order k) (form p)

  -- so the rows' numbers are those of the list that comes of the order
  pub listed_numbers : {rows : List Candidate} {order : List ℕ} {was listed : List RankedRow} {k : ℕ} → ListedTo rows order was listed k
      → row_numbers (take k listed) ≡ flat_ranked (listed_from full count (order_of rows order k))
  listed_numbers h = numbers_listed h.flagged ∙ ap flat_ranked h.list
