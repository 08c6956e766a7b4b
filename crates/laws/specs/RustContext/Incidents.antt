-- `ctx.incidents.get(&region)` as passes 1 and 2 ask it (ramp_boundaries.rs): the boundaries that pass `is_incident`, ascending, or no entry where there is none
-- (IncidentMap). What the passes ask of an entry is then a count and a test or two. Assumes nothing.
use Rattle.std.specs.Prelude.{ℕ, ◌<◌, ◌≡◌, Bool, true, false, ◌&&◌, ◌||◌, cond, length, Option, None, Some}
use Rattle.std.proofs.Math.Path.{refl, ap}
use Rattle.std.proofs.Common.{ap₂, ◌∙◌, lt-ltb}
use Rattle.std.proofs.Math.Bool.{not}
use Rattle.std.proofs.lemmas.Bool.{false≢true}
use mathlib.Core.List.{List, [], ◌∷◌}
use Rattle.std.proofs.Math.Dec.{eqb}
use Rattle.definitions.specs.Scan.{member}
use Rattle.definitions.specs.Context.{Context, is_incident, incident_count}
use Rattle.definitions.specs.RampMouths.{only_incidents}
use Rattle.laws.specs.ListLaws.Tests.{not_and}
use Rattle.laws.specs.ListLaws.Lists.{done, more}
use Rattle.laws.specs.SetLaws.Entries.{Entry, boundaries_at, is_filled, Filled}
use Rattle.laws.specs.RustContext.IncidentMap.{incidents, incidents-below, incidents-filled, incidents_get}
use Rattle.laws.specs.SetLaws.Sets.{numbers_below, member_below, length-below}

-- ---- as the Rust writes it

-- `is_none_or`
abbrev pub is_none_or : {A : Type 0} → Option A → (A → Bool) → Bool
is_none_or None f = true
is_none_or (Some a) f = f a

-- `is_some_and`
abbrev pub is_some_and : {A : Type 0} → Option A → (A → Bool) → Bool
is_some_and None f = false
is_some_and (Some a) f = f a

-- `into_iter().flatten()`, of a set
abbrev pub or_nothing : Option (List ℕ) → List ℕ
or_nothing None = []
or_nothing (Some s) = s

-- `get`
unfoldable pub entry_at : List Entry → ℕ → Option (List ℕ)
entry_at [] r = None
entry_at (e ∷ es) r = cond (eqb r e.region) (Some e.boundaries) (entry_at es r)

--     ctx.incidents.get(&r)
unfoldable pub incidents_rust : Context → ℕ → Option (List ℕ)
incidents_rust C r = entry_at (incidents C) r

-- ---- and that it is the set of the incidents

-- a set in a map without empty entries
abbrev pub present_set : List ℕ → Option (List ℕ)
present_set [] = None
present_set (x ∷ l) = Some (x ∷ l)

pub nothing-present : (l : List ℕ) → or_nothing (present_set l) ≡ l
nothing-present [] = refl
nothing-present (x ∷ l) = refl

entry_is : (r : ℕ) {es : List Entry} → Filled es → entry_at es r ≡ present_set (boundaries_at es r)
unfolding entry_at boundaries_at
entry_is r done = refl
entry_is r (more {x = e} {l = es} h a) = go (eqb r e.region) (entry_is r a)
  where
    there : (l : List ℕ) → is_filled l ≡ true → Some l ≡ present_set l
    there [] k = absurd (false≢true k)
    there (x ∷ l) k = refl

    go : (b : Bool) → entry_at es r ≡ present_set (boundaries_at es r) → cond b (Some e.boundaries) (entry_at es r) ≡ present_set (cond b e.boundaries (boundaries_at es r))
    go true ih = there e.boundaries h
    go false ih = ih

module _ (C : Context) where
  pub incidents-are : (r : ℕ) → incidents_rust C r ≡ present_set (numbers_below C.count (λ j. is_incident C j r))
  unfolding incidents_rust incidents
  incidents-are r = entry_is r (incidents-filled C C.count) ∙ ap present_set (incidents_get C r ∙ incidents-below C r)

  -- ---- what the passes ask

  module _ (r : ℕ) where
    count_is : length (numbers_below C.count (λ j. is_incident C j r)) ≡ incident_count C r
    unfolding incident_count
    count_is = length-below (λ j. is_incident C j r) C.count

    has_is : (i : ℕ) → i < C.count → member i (numbers_below C.count (λ j. is_incident C j r)) ≡ is_incident C i r
    has_is i h = member_below (λ j. is_incident C j r) i C.count ∙ rw (lt-ltb i C.count h) refl

    --     incidents.len() != 1 || !incidents.contains(&index)
    -- of no entry, or of one
    pub not-only_one : (i : ℕ) → i < C.count → is_none_or (incidents_rust C r) (λ s. not (eqb (length s) 1) || not (member i s)) ≡ not (eqb (incident_count C r) 1 && is_incident C i r)
    not-only_one i h =
        ap (λ o. is_none_or o (λ s. not (eqb (length s) 1) || not (member i s))) (incidents-are r) ∙ go (numbers_below C.count (λ j. is_incident C j r))
        ∙ ap₂ (λ n b. not (eqb n 1 && b)) count_is (has_is i h)
      where
        go : (l : List ℕ) → is_none_or (present_set l) (λ s. not (eqb (length s) 1) || not (member i s)) ≡ not (eqb (length l) 1 && member i l)
        go [] = refl
        go (x ∷ l) = not_and (eqb (length (x ∷ l)) 1) (member i (x ∷ l))

    --     incidents.len() != 2 || !incidents.contains(&mouth_index) || !incidents.contains(&ramp_index)
    -- of no entry, or of one
    pub not-only_two : (i j : ℕ) → i < C.count → j < C.count → is_none_or (incidents_rust C r) (λ s. not (eqb (length s) 2) || not (member i s) || not (member j s)) ≡ not (only_incidents C r i j)
    unfolding only_incidents
    not-only_two i j h k =
        ap (λ o. is_none_or o (λ s. not (eqb (length s) 2) || not (member i s) || not (member j s))) (incidents-are r)
        ∙ go (numbers_below C.count (λ j. is_incident C j r)) ∙ (λ e. not (eqb (count_is e) 2 && has_is i h e && has_is j k e))
      where
        go : (l : List ℕ) → is_none_or (present_set l) (λ s. not (eqb (length s) 2) || not (member i s) || not (member j s)) ≡ not (eqb (length l) 2 && member i l && member j l)
        go [] = refl
        go (x ∷ l) =
            ap (λ b. b || not (member j (x ∷ l))) (not_and (eqb (length (x ∷ l)) 2) (member i (x ∷ l))) ∙ not_and (eqb (length (x ∷ l)) 2 && member i (x ∷ l)) (member j (x ∷ l))

    --     incidents.len() == 2 && incidents.contains(&mouth_index) && incidents.contains(&ramp_index)
    -- of an entry
    pub only_two : (i j : ℕ) → i < C.count → j < C.count → is_some_and (incidents_rust C r) (λ s. eqb (length s) 2 && member i s && member j s) ≡ only_incidents C r i j
    unfolding only_incidents
    only_two i j h k =
        ap (λ o. is_some_and o (λ s. eqb (length s) 2 && member i s && member j s)) (incidents-are r)
        ∙ go (numbers_below C.count (λ j. is_incident C j r)) ∙ (λ e. eqb (count_is e) 2 && has_is i h e && has_is j k e)
      where
        go : (l : List ℕ) → is_some_and (present_set l) (λ s. eqb (length s) 2 && member i s && member j s) ≡ (eqb (length l) 2 && member i l && member j l)
        go [] = refl
        go (x ∷ l) = refl
