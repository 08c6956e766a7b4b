-- The table of records by their map's slot: it starts empty, takes one record more, and is followed from a slot's last record back, one record of the slot after
-- the other. What a step passes over is of another slot, so of another map. Assumes nothing.
use Prim.Native.Nat.{ℕ, zero, suc, ◌+◌, ◌-◌, ◌≤◌, ◌<◌, ◌%◌}
use native.Mathlib.Numerals.{add-one}
use native.Mathlib.Omega.{arith}
use mathlib.Core.Path.{◌≡◌, refl, sym, ap, ◌∙◌}
use mathlib.Core.Bool.{Bool, true, false}
use mathlib.Core.List.{List}
use lib.ListN.{length, get_or, set, replicate, length-set}
use lib.Seq.{get_or-set_same, get_or-set_other}
use lib.Dec.{eqb, ltb}
use borrow.Author.Tests.{eqb-true, eqb-false, eq-eqb, ne_eqb, ltb-true, ltb-false}
use Rattle.catalogue.specs.Accession.{accession_at, accession_count}
use Rattle.catalogue.specs.AccessionLaws.Last.{last_below, last_here, last_not, last_back, last_within, last_passes, last_skip}
use Rattle.accession.specs.Held.{in_slot, Holds}
use Rattle.catalogue.specs.AccessionLaws.MapLine.{is_of_map}

-- a list of one value has it everywhere, and what stands for an entry beyond its end too
pub replicate_at : {A : Type 0} (x : A) (n slot : ℕ) → get_or (replicate n x) slot x ≡ x
replicate_at x zero slot = refl
replicate_at x (suc n) zero = refl
replicate_at x (suc n) (suc slot) = replicate_at x n slot

module _ (l : List ℕ) where
  pub holds_none : {slots : ℕ} (last links : List ℕ) → length last ≡ slots → 0 < slots → ((slot : ℕ) → get_or last slot 0 ≡ 0) → Holds l slots 0 last links
  unfolding last_below
  holds_none last links long h e =
      record {
        some_slots = h;
        slot_count = long;
        of_list = omega arith;
        room = omega arith;
        lasts = λ slot k. e slot;
        linked = λ j k. absurd (omega arith);
      }

  -- one record more
  module _
      {slots held : ℕ} {last links : List ℕ} (H : Holds l slots held last links) (own : held < accession_count l) (room : held < length links) (slot : ℕ)
      (at : slot ≡ (accession_at l held).on_map % slots) (within : slot < slots) where
    last_more : (s : ℕ) → s < slots → get_or (set last slot (held + 1)) s 0 ≡ last_below (suc held) (in_slot l slots s)
    unfolding in_slot
    last_more s h = go (eqb s slot) refl
      where
        go : (b : Bool) → eqb s slot ≡ b → get_or (set last slot (held + 1)) s 0 ≡ last_below (suc held) (in_slot l slots s)
        go true e =
            let q : s ≡ slot = eqb-true s slot e in
            ap (λ t. get_or (set last slot (held + 1)) t 0) q ∙ get_or-set_same last slot (held + 1) 0 (omega (arith, H.slot_count)) ∙ add-one held
            ∙ sym (last_here (in_slot l slots s) held (eq-eqb ((accession_at l held).on_map % slots) s (sym (q ∙ at))))
        go false e =
            let d : (s ≡ slot → ⊥) = eqb-false s slot e in
            get_or-set_other last slot s (held + 1) 0 d ∙ H.lasts s h
            ∙ sym (last_not (in_slot l slots s) held (ne_eqb ((accession_at l held).on_map % slots) s (λ q. d (sym (at ∙ q)))))

    link_more : (j : ℕ) → j < suc held → get_or (set links held (get_or last slot 0)) j 0 ≡ last_below j (in_slot l slots ((accession_at l j).on_map % slots))
    link_more j h = go (ltb j held) refl
      where
        go : (b : Bool) → ltb j held ≡ b → get_or (set links held (get_or last slot 0)) j 0 ≡ last_below j (in_slot l slots ((accession_at l j).on_map % slots))
        go true e =
            let m : j < held = ltb-true j held e in
            get_or-set_other links held j (get_or last slot 0) 0 (λ q. omega arith) ∙ H.linked j m
        go false e =
            let q : j ≡ held = omega (arith, ltb-false j held e) in
            ap (λ t. get_or (set links held (get_or last slot 0)) t 0) q ∙ get_or-set_same links held (get_or last slot 0) 0 room ∙ H.lasts slot within
            ∙ ap (λ t. last_below held (in_slot l slots t)) at ∙ ap (λ t. last_below t (in_slot l slots ((accession_at l t).on_map % slots))) (sym q)

    pub holds_more : Holds l slots (held + 1) (set last slot (held + 1)) (set links held (get_or last slot 0))
    holds_more =
        record {
          some_slots = H.some_slots;
          slot_count = length-set last slot (held + 1) ∙ H.slot_count;
          of_list = omega arith;
          room = omega (arith, length-set links held (get_or last slot 0));
          lasts = λ s h. last_more s h ∙ ap (λ t. last_below t (in_slot l slots s)) (sym (add-one held));
          linked = λ j h. link_more j (omega arith);
        }

  -- ---- back along a slot

  -- the last record of the map among those held is the last among the first k, whose own last is in the map's slot
  pub record Reached (slots held number k : ℕ) : Type 0 where
    pub within : k ≤ held
    pub rest : last_below held (is_of_map l number) ≡ last_below k (is_of_map l number)
    pub at_slot : 0 < k → (accession_at l (k - 1)).on_map % slots ≡ number % slots

  -- from the first n records to the last one in the slot
  module _ (slots number slot : ℕ) (q : slot ≡ number % slots) where
    in_slot_lem : (j : ℕ) → is_of_map l number j ≡ true → in_slot l slots slot j ≡ true
    unfolding is_of_map in_slot
    in_slot_lem j e = eq-eqb ((accession_at l j).on_map % slots) slot (ap (λ m. m % slots) (eqb-true (accession_at l j).on_map number e) ∙ sym q)

    passed : (n k : ℕ) → last_below n (in_slot l slots slot) ≡ k → 0 < k → (accession_at l (k - 1)).on_map % slots ≡ number % slots
    unfolding in_slot
    passed n zero e h = absurd (omega arith)
    passed n (suc k) e h =
        let one : suc k - 1 ≡ k = omega arith in
        ap (λ j. (accession_at l j).on_map % slots) one ∙ eqb-true ((accession_at l k).on_map % slots) slot (last_passes (in_slot l slots slot) n k e) ∙ q

    reached-slot :
        (held n k : ℕ) → n ≤ held → last_below held (is_of_map l number) ≡ last_below n (is_of_map l number) → k ≡ last_below n (in_slot l slots slot)
        → Reached slots held number k
    reached-slot held n k h r e =
        record {
          within = omega (arith, last_within (in_slot l slots slot) n);
          rest = r ∙ last_skip (is_of_map l number) (in_slot l slots slot) in_slot_lem n ∙ ap (λ t. last_below t (is_of_map l number)) (sym e);
          at_slot = passed n k (sym e);
        }

  module _ {slots held : ℕ} {last links : List ℕ} (H : Holds l slots held last links) (number : ℕ) where
    pub reached_first : (slot : ℕ) → slot ≡ number % slots → slot < slots → Reached slots held number (get_or last slot 0)
    reached_first slot q h = reached-slot slots number slot q held held (get_or last slot 0) (omega arith) refl (H.lasts slot h)

    pub reached_next : (k : ℕ) → Reached slots held number k → 0 < k → is_of_map l number (k - 1) ≡ false → Reached slots held number (get_or links (k - 1) 0)
    reached_next k R h e =
        reached-slot slots number ((accession_at l (k - 1)).on_map % slots) (R.at_slot h) held (k - 1) (get_or links (k - 1) 0) (omega (arith, R.within))
        (R.rest ∙ last_back (is_of_map l number) k h e) (H.linked (k - 1) (omega (arith, R.within)))

    pub next_before : (k : ℕ) → Reached slots held number k → 0 < k → get_or links (k - 1) 0 < k
    next_before k R h =
        let f = in_slot l slots ((accession_at l (k - 1)).on_map % slots) in
        omega (arith, H.linked (k - 1) (omega (arith, R.within)), last_within f (k - 1))
