-- The ports of a union as the Rust finds them (junctions.rs): a walk over the incidents of both regions that stops at the first unfit port. It goes through
-- exactly where `ports_fit` holds, and the set that it fills is then the boundaries that pass `is_union_port`. The argument: what the walk finds is a conjunction
-- over the incidents, and what it fills is a union of the two sets of incidents without the boundary itself. Assumes nothing.
use Rattle.std.specs.Prelude.{ℕ, ◌≡◌, Bool, ◌||◌, cond, eqb, ltb, Option, None, Some}
use Rattle.std.proofs.Math.Path.{refl, sym, ap, ap₂}
use Rattle.std.proofs.Common.{◌∙◌, eqb-true}
use Rattle.std.proofs.Math.Bool.{true, false, not, ◌&&◌, or-false, or-true}
use Rattle.std.specs.Bool.{beq}
use Rattle.std.proofs.lemmas.Bool.{false≢true}
use mathlib.Core.List.{List, [], ◌∷◌}
use Rattle.definitions.specs.Scan.{any, all, member, all_below}
use Rattle.definitions.specs.Grid.{Pair, contains}
use Rattle.definitions.specs.Context.{Context, holds, full_pair, is_incident}
use Rattle.definitions.specs.Junctions.{fits_union, is_union_port, ports_fit}
use Rattle.laws.specs.OrderLaws.ListOrder.{eqb_sym}
use Rattle.laws.specs.ListLaws.Tests.{both}
use Rattle.laws.specs.ListLaws.ScansOfAll.{all_ext, all_and}
use Rattle.laws.specs.SetLaws.Entries.{Entry, boundaries_at}
use Rattle.laws.specs.RustContext.IncidentMap.{incidents, incidents-below, incidents_get}
use Rattle.laws.specs.SetLaws.Sets.{set_insert, numbers_below, Ascending, none, member-insert, insert_ascending, member_below, all_below_lem, set_below}

-- ---- as the Rust writes it

--     let union = BTreeSet::from(pair);
unfoldable pub union_set : Pair → List ℕ
union_set p = set_insert (set_insert [] p.lo) p.hi

--     let Some(other_pair) = full_pair(&metadata[*other_index]) else { valid = false; break; };
--     if union.contains(&other_pair[0]) == union.contains(&other_pair[1]) { valid = false; break; }
unfoldable pub is_unfit : Pair → Option Pair → Bool
is_unfit p None = true
is_unfit p (Some q) = beq (member q.lo (union_set p)) (member q.hi (union_set p))

pub record Walked : Type 0 where
  pub valid : Bool
  pub ports : List ℕ

-- `full` is `full_pair(&metadata[..])` (FullCut)
module _ (full : ℕ → Option Pair) where
  --     for other_index in ctx.incidents.get(&region).into_iter().flatten() {
  --         if *other_index == index { continue; }
  --         ..                                          -- `is_unfit`: the walk ends
  --         ports.insert(*other_index);
  --     }
  unfoldable pub walk_region : ℕ → Pair → List ℕ → List ℕ → Walked
  walk_region i p ports [] = record { valid = true; ports = ports }
  walk_region i p ports (j ∷ js) =
      cond (eqb j i) (walk_region i p ports js)
      (cond (is_unfit p (full j)) (record { valid = false; ports = ports }) (walk_region i p (set_insert ports j) js))

  --     for region in pair { ..; if !valid { break; } }
  unfoldable pub walk_union : List Entry → ℕ → Pair → Walked
  walk_union incidents i p =
      let first = walk_region i p [] (boundaries_at incidents p.lo) in
      cond first.valid (walk_region i p first.ports (boundaries_at incidents p.hi)) first

-- ---- and that it is the same

pub union-member : (r : ℕ) (p : Pair) → member r (union_set p) ≡ contains r p
unfolding union_set member any
union-member r p = member-insert r (set_insert [] p.lo) p.hi ∙ ap (λ b. eqb r p.hi || b) (member-insert r [] p.lo) ∙ order (eqb r p.hi) (eqb r p.lo) ∙ ap₂ ◌||◌ (eqb_sym r p.lo) (eqb_sym r p.hi)
  where
    order : (a b : Bool) → (a || (b || false)) ≡ (b || a)
    order true true = refl
    order true false = refl
    order false true = refl
    order false false = refl

pub fit-unfit : (p : Pair) (o : Option Pair) → not (is_unfit p o) ≡ holds o (fits_union p)
unfolding is_unfit
fit-unfit p None = refl
fit-unfit p (Some q) = rw (union-member q.lo p, union-member q.hi p) (go (contains q.lo p) (contains q.hi p))
  where
    go : (a b : Bool) → not (beq a b) ≡ (not a && b || a && not b)
    go true true = refl
    go true false = refl
    go false true = refl
    go false false = refl

module _ (C : Context) (i : ℕ) (p : Pair) where
  -- what the walk asks of an incident
  abbrev passes : ℕ → Bool
  passes j = eqb j i || not (is_unfit p (full_pair C j))

  -- the walk at incident j, by the two tests that are made of it
  abbrev walk_at : List ℕ → ℕ → List ℕ → Bool → Bool → Walked
  walk_at ports j js own unfit = cond own (walk_region (full_pair C) i p ports js) (cond unfit (record { valid = false; ports = ports }) (walk_region (full_pair C) i p (set_insert ports j) js))

  region-valid : (ports js : List ℕ) → (walk_region (full_pair C) i p ports js).valid ≡ all passes js
  unfolding walk_region all
  region-valid ports [] = refl
  region-valid ports (j ∷ js) = go (eqb j i) (is_unfit p (full_pair C j)) (region-valid ports js) (region-valid (set_insert ports j) js)
    where
      go : (a b : Bool) → (walk_region (full_pair C) i p ports js).valid ≡ all passes js → (walk_region (full_pair C) i p (set_insert ports j) js).valid ≡ all passes js → (walk_at ports j js a b).valid ≡ ((a || not b) && all passes js)
      go true b h k = h
      go false true h k = refl
      go false false h k = k

  -- the walk has filled in the incidents other than i
  abbrev Filled : List ℕ → List ℕ → Walked → Type 0
  Filled ports js w = w.valid ≡ true → (x : ℕ) → member x w.ports ≡ (member x ports || (member x js && not (eqb x i)))

  region-ports : (ports js : List ℕ) → Filled ports js (walk_region (full_pair C) i p ports js)
  unfolding walk_region member any
  region-ports ports [] = λ h x. sym (or-false (member x ports))
  region-ports ports (j ∷ js) = go (eqb j i) refl (is_unfit p (full_pair C j)) (region-ports ports js) (region-ports (set_insert ports j) js)
    where
      own : (e m : Bool) → (m && not e) ≡ ((e || m) && not e)
      own true true = refl
      own true false = refl
      own false m = refl

      other : (x : ℕ) (b : Bool) → eqb j i ≡ false → eqb x j ≡ b → (mp m : Bool) → (b || mp || (m && not (eqb x i))) ≡ (mp || ((b || m) && not (eqb x i)))
      other x true f e mp m = rw (eqb-true x j e, f) (sym (or-true mp))
      other x false f e mp m = refl

      go : (a : Bool) → eqb j i ≡ a → (b : Bool) → Filled ports js (walk_region (full_pair C) i p ports js) → Filled (set_insert ports j) js (walk_region (full_pair C) i p (set_insert ports j) js) → Filled ports (j ∷ js) (walk_at ports j js a b)
      go true e b ih ih' h x = ih h x ∙ ap (λ c. member x ports || c) (rw (eqb-true j i e) (own (eqb x i) (member x js)))
      go false e true ih ih' h x = absurd (false≢true h)
      go false e false ih ih' h x = ih' h x ∙ ap (λ c. c || (member x js && not (eqb x i))) (member-insert x ports j) ∙ other x (eqb x j) e refl (member x ports) (member x js)

  region_ascending : {ports : List ℕ} (js : List ℕ) → Ascending ports → Ascending (walk_region (full_pair C) i p ports js).ports
  unfolding walk_region
  region_ascending [] s = s
  region_ascending {ports} (j ∷ js) s = go (eqb j i) (is_unfit p (full_pair C j)) (region_ascending js s) (region_ascending {ports = set_insert ports j} js (insert_ascending j s))
    where
      go : (a b : Bool) → Ascending (walk_region (full_pair C) i p ports js).ports → Ascending (walk_region (full_pair C) i p (set_insert ports j) js).ports → Ascending (walk_at ports j js a b).ports
      go true b h k = h
      go false true h k = s
      go false false h k = k

  -- what is asked of j as an incident of either region
  asked : (j : ℕ) → ((not (is_incident C j p.lo) || passes j) && (not (is_incident C j p.hi) || passes j)) ≡ (not (is_union_port C i p j) || holds (full_pair C j) (fits_union p))
  unfolding is_union_port
  asked j =
      order (eqb j i) (is_incident C j p.lo) (is_incident C j p.hi) (not (is_unfit p (full_pair C j)))
      ∙ ap (λ b. not (not (eqb j i) && (is_incident C j p.lo || is_incident C j p.hi)) || b) (fit-unfit p (full_pair C j))
    where
      order : (e a b u : Bool) → ((not a || (e || u)) && (not b || (e || u))) ≡ (not (not e && (a || b)) || u)
      order true true true u = refl
      order true true false u = refl
      order true false true u = refl
      order true false false u = refl
      order false true true true = refl
      order false true true false = refl
      order false true false true = refl
      order false true false false = refl
      order false false true u = refl
      order false false false u = refl

  all-passes : (r : ℕ) → all passes (boundaries_at (incidents C) r) ≡ all_below C.count (λ j. not (is_incident C j r) || passes j)
  all-passes r = ap (all passes) (incidents_get C r ∙ incidents-below C r) ∙ all_below_lem (λ j. is_incident C j r) passes C.count

  abbrev first : Walked
  first = walk_region (full_pair C) i p [] (boundaries_at (incidents C) p.lo)

  abbrev second : Walked
  second = walk_region (full_pair C) i p first.ports (boundaries_at (incidents C) p.hi)

  walk-both : (walk_union (full_pair C) (incidents C) i p).valid ≡ (first.valid && second.valid)
  unfolding walk_union
  walk-both = go first.valid refl
    where
      go : (b : Bool) → first.valid ≡ b → (cond b second first).valid ≡ (b && second.valid)
      go true e = refl
      go false e = e

  pub walk-valid : (walk_union (full_pair C) (incidents C) i p).valid ≡ ports_fit C i p
  unfolding ports_fit
  walk-valid =
      walk-both ∙ ap₂ ◌&&◌ (region-valid [] (boundaries_at (incidents C) p.lo) ∙ all-passes p.lo) (region-valid first.ports (boundaries_at (incidents C) p.hi) ∙ all-passes p.hi)
      ∙ all_and (λ j. not (is_incident C j p.lo) || passes j) (λ j. not (is_incident C j p.hi) || passes j) C.count
      ∙ all_ext (λ j. (not (is_incident C j p.lo) || passes j) && (not (is_incident C j p.hi) || passes j)) (λ j. not (is_union_port C i p j) || holds (full_pair C j) (fits_union p)) C.count (λ j h. asked j)

  incident_member : (x r : ℕ) → member x (boundaries_at (incidents C) r) ≡ (ltb x C.count && is_incident C x r)
  incident_member x r = ap (member x) (incidents_get C r ∙ incidents-below C r) ∙ member_below (λ j. is_incident C j r) x C.count

  both-ports : first.valid ≡ true → (walk_union (full_pair C) (incidents C) i p).ports ≡ second.ports
  unfolding walk_union
  both-ports h = rw h refl

  pub walk-member : (walk_union (full_pair C) (incidents C) i p).valid ≡ true → (x : ℕ) → member x (walk_union (full_pair C) (incidents C) i p).ports ≡ (ltb x C.count && is_union_port C i p x)
  unfolding is_union_port member any
  walk-member h x =
      let valid = both first.valid second.valid (sym walk-both ∙ h) in
      ap (member x) (both-ports valid.0) ∙ region-ports first.ports (boundaries_at (incidents C) p.hi) valid.1 x
      ∙ ap₂ (λ a b. a || (b && not (eqb x i))) (region-ports [] (boundaries_at (incidents C) p.lo) valid.0 x ∙ ap (λ a. a && not (eqb x i)) (incident_member x p.lo)) (incident_member x p.hi)
      ∙ order (ltb x C.count) (is_incident C x p.lo) (is_incident C x p.hi) (not (eqb x i))
    where
      order : (l a b n : Bool) → (l && a && n || (l && b && n)) ≡ (l && (n && (a || b)))
      order true true true true = refl
      order true true false true = refl
      order true false true true = refl
      order true false false true = refl
      order true true true false = refl
      order true true false false = refl
      order true false true false = refl
      order true false false false = refl
      order false a b n = refl

  walk_ascending : Ascending (walk_union (full_pair C) (incidents C) i p).ports
  unfolding walk_union
  walk_ascending = go first.valid
    where
      go : (b : Bool) → Ascending (cond b second first).ports
      go true = region_ascending (boundaries_at (incidents C) p.hi) (region_ascending (boundaries_at (incidents C) p.lo) none)
      go false = region_ascending (boundaries_at (incidents C) p.lo) none

  -- the set, as a list
  pub walk-ports : (walk_union (full_pair C) (incidents C) i p).valid ≡ true → (walk_union (full_pair C) (incidents C) i p).ports ≡ numbers_below C.count (is_union_port C i p)
  walk-ports h = set_below (is_union_port C i p) C.count walk_ascending (walk-member h)
