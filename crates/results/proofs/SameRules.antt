-- The rules of a result sheet ask for numbers and not for places: of two results with the same numbers both keep them, or neither. Assumes nothing.
use Rattle.std.specs.Prelude.{ℕ, ◌+◌, ◌≡◌, refl, Bool, true, false, not, cond, List, [], ◌∷◌, map, leb, eqb, get_or, Option, None, Some}
use Rattle.std.proofs.Common.{arith, ap, ap₂, subst, ◌∙◌}
use Rattle.definitions.specs.Scan.{only_if}
use Rattle.definitions.specs.Sort.{list_lt}
use Rattle.definitions.specs.Refusals.{or_else}
use Rattle.laws.specs.ListLaws.NoFault.{no_fault_lem, or_else_none}
use Rattle.results.specs.Result.{Entry, Placed, Turns, started, out_of_turn, in_turn, turns, labels_fault, ascent_fault, pair_key, row_key, rules_fault}

abbrev pub numbers_in : List Entry → List (List ℕ)
numbers_in es = map (λ e. e.numbers) es

same_turns : (regions n k : ℕ) (es fs : List Entry) → numbers_in es ≡ numbers_in fs → turns regions n es ≡ started k → turns regions n fs ≡ started k
unfolding turns
same_turns regions n k [] [] e h = h
same_turns regions n k [] (f ∷ fs) e h = absurd (nil_cons e)
  where
    nil_cons : {x : List ℕ} {l : List (List ℕ)} → [] ≡ x ∷ l → ⊥
    nil_cons q = let z : ◌≡◌ {A = ℕ} 0 1 = cc in omega arith
same_turns regions n k (e ∷ es) [] q h = absurd (cons_nil q)
  where
    cons_nil : {x : List ℕ} {l : List (List ℕ)} → x ∷ l ≡ [] → ⊥
    cons_nil q = let z : ◌≡◌ {A = ℕ} 0 1 = cc in omega arith
same_turns regions n k (e ∷ es) (f ∷ fs) q h =
    let head : e.numbers ≡ f.numbers = cc in
    let tail : numbers_in es ≡ numbers_in fs = cc in
    let label : get_or e.numbers 0 0 ≡ get_or f.numbers 0 0 = ap (λ m. get_or m 0 0) head in
    go (leb (get_or f.numbers 0 0) n) (in_turn regions n (get_or f.numbers 0 0)) (same_turns regions n k es fs tail) (same_turns regions (n + 1) k es fs tail) (rw label at h)
  where
    go : (t u : Bool) → (turns regions n es ≡ started k → turns regions n fs ≡ started k) → (turns regions (n + 1) es ≡ started k → turns regions (n + 1) fs ≡ started k)
        → cond t (turns regions n es) (cond u (turns regions (n + 1) es) (out_of_turn e.place)) ≡ started k
        → cond t (turns regions n fs) (cond u (turns regions (n + 1) fs) (out_of_turn f.place)) ≡ started k
    go true u a b h = a h
    go false true a b h = b h
    go false false a b h = absurd (not-started h)
      where
        not-started : {p : ℕ} → out_of_turn p ≡ started k → ⊥
        not-started h = let z : ◌≡◌ {A = ℕ} 0 1 = cc in omega arith

same_ascent : (key : List ℕ → List ℕ) (es fs : List Entry) → numbers_in es ≡ numbers_in fs → ascent_fault key es ≡ None → ascent_fault key fs ≡ None
unfolding ascent_fault
same_ascent key es [] e h = refl
same_ascent key es (f ∷ []) e h = refl
same_ascent key [] (f ∷ g ∷ fs) e h = absurd (nil_cons e)
  where
    nil_cons : {x : List ℕ} {l : List (List ℕ)} → [] ≡ x ∷ l → ⊥
    nil_cons q = let z : ◌≡◌ {A = ℕ} 0 1 = cc in omega arith
same_ascent key (a ∷ []) (f ∷ g ∷ fs) e h = absurd (one_two e)
  where
    one_two : {x y z : List ℕ} {l : List (List ℕ)} → x ∷ [] ≡ y ∷ z ∷ l → ⊥
    one_two q = let z : ◌≡◌ {A = ℕ} 0 1 = cc in omega arith
same_ascent key (a ∷ b ∷ es) (f ∷ g ∷ fs) q h =
    let first : a.numbers ≡ f.numbers = cc in
    let second : b.numbers ≡ g.numbers = cc in
    let tail : numbers_in (b ∷ es) ≡ numbers_in (g ∷ fs) = cc in
    let test : list_lt (key a.numbers) (key b.numbers) ≡ list_lt (key f.numbers) (key g.numbers) = ap₂ (λ x y. list_lt (key x) (key y)) first second in
    go (list_lt (key f.numbers) (key g.numbers)) (same_ascent key (b ∷ es) (g ∷ fs) tail) (subst (λ t. cond t (ascent_fault key (b ∷ es)) (Some b.place) ≡ None) test h)
  where
    go : (t : Bool) → (ascent_fault key (b ∷ es) ≡ None → ascent_fault key (g ∷ fs) ≡ None) → cond t (ascent_fault key (b ∷ es)) (Some b.place) ≡ None → cond t (ascent_fault key (g ∷ fs)) (Some g.place) ≡ None
    go true r h = r h
    go false r h = absurd (some_none h)
      where
        some_none : {p : ℕ} → Some p ≡ None → ⊥
        some_none h = let z : ◌≡◌ {A = ℕ} 0 1 = cc in omega arith

pub same_rules : (p q : Placed) → p.regions ≡ q.regions → numbers_in p.labels ≡ numbers_in q.labels → numbers_in p.pairs ≡ numbers_in q.pairs → numbers_in p.rows ≡ numbers_in q.rows
    → rules_fault p ≡ None → rules_fault q ≡ None
unfolding rules_fault
same_rules p q regions labels pairs rows h =
    let first = or_else_none (labels_fault p.regions p.regions_place (turns p.regions 0 p.labels)) (or_else (ascent_fault pair_key p.pairs) (ascent_fault row_key p.rows)) h in
    let later = or_else_none (ascent_fault pair_key p.pairs) (ascent_fault row_key p.rows) first.1 in
    all_none (in_turn_lem (turns p.regions 0 p.labels) refl first.0) (same_ascent pair_key p.pairs q.pairs pairs later.0) (same_ascent row_key p.rows q.rows rows later.1)
  where
    in_turn_lem : (t : Turns) → turns p.regions 0 p.labels ≡ t → labels_fault p.regions p.regions_place t ≡ None → labels_fault q.regions q.regions_place (turns q.regions 0 q.labels) ≡ None
    in_turn_lem (started n) e f =
        let s : turns p.regions 0 q.labels ≡ started n = same_turns p.regions 0 n p.labels q.labels labels e in
        let u : turns q.regions 0 q.labels ≡ started n = subst (λ m. turns m 0 q.labels ≡ started n) regions s in
        let reached : eqb n p.regions ≡ true = no_fault_lem (eqb n p.regions) p.regions_place f in
        let reached' : eqb n q.regions ≡ true = subst (λ m. eqb n m ≡ true) regions reached in
        ap (labels_fault q.regions q.regions_place) u ∙ ap (λ t. only_if (not t) q.regions_place) reached'
    in_turn_lem (out_of_turn at) e f = absurd (some_none f)
      where
        some_none : {x : ℕ} → Some x ≡ None → ⊥
        some_none h = let z : ◌≡◌ {A = ℕ} 0 1 = cc in omega arith

    all_none : {a b c : Option ℕ} → a ≡ None → b ≡ None → c ≡ None → or_else a (or_else b c) ≡ None
    all_none e f g = rw (e, f, g) refl
