-- Conflicts of proposals as the code finds them: regions by the kinds of two proposals, one after the other among those taken, and ports by marks. Assumes nothing.
use Rattle.std.specs.Prelude.{Option, MatchBool}
use Rattle.std.specs.List.{AllWithin, HoldsAt}
use Prim.Native.Nat.{ℕ, ◌<◌}
use native.Mathlib.Omega.{arith}
use mathlib.Core.Path.{◌≡◌, refl, sym, ap, ◌∙◌}
use mathlib.Core.Bool.{Bool, true, false, ◌&&◌, ◌||◌, and-false}
use mathlib.Core.List.{List, ◌∷◌}
use lib.ListN.{length, get_or}
use lib.Dec.{eqb}
use Rattle.definitions.specs.Scan.{any, any_below_lem}
use Rattle.definitions.specs.Junctions.{Proposal, region_conflict}
use Rattle.laws.specs.ListLaws.Disjunction.{disjunction, or_middle}
use Rattle.laws.specs.ListLaws.Lists.{All, done, more}
use Rattle.laws.specs.ListLaws.Below.{below_at, below_none, below_ext}
use Rattle.laws.specs.ListLaws.Scans.{any-picked}
use Rattle.laws.specs.ListLaws.ScanSteps.{any-either, any_one}
use Rattle.junction_proposals.specs.declared.proposals.Candidate.{Candidate}
use Rattle.junction_proposals.specs.Rows.{row_at}
use Rattle.junction_selection.specs.Ranks.{order_of, reserves_at, conflict_at}
use Rattle.region_pairs.specs.declared.Pair as declared

-- ---- regions

-- one after the other
pub any-taken : (f : Proposal → Bool) (rows : List Candidate) (taken : List ℕ) (t : ℕ) → any f (order_of rows taken t) ≡ any_below_lem t (λ k. f (row_at rows (get_or taken k 0)))
unfolding order_of
any-taken f rows taken t = any-picked (λ k. true) (λ k. row_at rows (get_or taken k 0)) f t

-- as `any` over them gives it
pub any-of_taken : (f : Proposal → Bool) (rows : List Candidate) (taken : List ℕ) (r : Bool)
    → MatchBool r ((k : ℕ) × (k < length taken) × HoldsAt (λ q. f (row_at rows q) ≡ true) taken k) (AllWithin (λ q. f (row_at rows q) ≡ false) taken 0 (length taken))
    → r ≡ any f (order_of rows taken (length taken))
any-of_taken f rows taken true (k, l, h) = sym (any-taken f rows taken (length taken) ∙ below_at (length taken) (λ k. f (row_at rows (get_or taken k 0))) k l (h 0))
any-of_taken f rows taken false h = sym (any-taken f rows taken (length taken) ∙ below_none (length taken) (λ k. f (row_at rows (get_or taken k 0))) (λ k l. h k 0 (omega arith) l))

-- ---- all that keeps p from being taken, by what the taken ones have marked

module _ (full : List (Option declared.Pair)) (count : ℕ) (p : Proposal) where
  abbrev mine : ℕ → Bool
  mine = reserves_at full p

  -- the marks of removed and of reserved boundaries
  abbrev pub removed_by : List Proposal → ℕ → Bool
  removed_by l j = any (λ q. eqb j q.index) l

  abbrev pub reserved_by : List Proposal → ℕ → Bool
  reserved_by l j = any (λ q. reserves_at full q j) l

  abbrev regions : List Proposal → Bool
  regions l = any (λ q. region_conflict q.kind p.kind q p) l

  ports_more : (q : Proposal) (l : List Proposal) → q.index < count → any_below_lem count (λ j. mine j && (removed_by (q ∷ l) j || reserved_by (q ∷ l) j)) ≡ (mine q.index || any_below_lem count (λ j. mine j && reserves_at full q j) || any_below_lem count (λ j. mine j && (removed_by l j || reserved_by l j)))
  unfolding any
  ports_more q l h =
      below_ext count (λ j. mine j && (removed_by (q ∷ l) j || reserved_by (q ∷ l) j)) (λ j. (mine j && eqb j q.index || mine j && reserves_at full q j) || mine j && (removed_by l j || reserved_by l j)) (λ j k. spread (mine j) (eqb j q.index) (removed_by l j) (reserves_at full q j) (reserved_by l j))
      ∙ any-either (λ j. mine j && eqb j q.index || mine j && reserves_at full q j) (λ j. mine j && (removed_by l j || reserved_by l j)) count
      ∙ ap (λ b. b || any_below_lem count (λ j. mine j && (removed_by l j || reserved_by l j))) (any-either (λ j. mine j && eqb j q.index) (λ j. mine j && reserves_at full q j) count ∙ ap (λ b. b || any_below_lem count (λ j. mine j && reserves_at full q j)) (any_one mine count q.index h))
    where
      spread : (m e a r b : Bool) → (m && (e || a || (r || b))) ≡ ((m && e || m && r) || m && (a || b))
      spread true e a r b = or_middle e a r b
      spread false e a r b = refl

  pub refused_is : {l : List Proposal} → All (λ q. q.index < count) l → (any_below_lem count (λ j. mine j && (removed_by l j || reserved_by l j)) || reserved_by l p.index || regions l) ≡ any (λ q. conflict_at full count q p) l
  unfolding any conflict_at
  refused_is done = ap (λ b. b || false || false) (below_none count (λ j. mine j && false) (λ j h. and-false (mine j)))
  refused_is (more {x = q} {l = l} h a) =
      ap (λ b. b || reserved_by (q ∷ l) p.index || regions (q ∷ l)) (ports_more q l h)
      ∙ order (mine q.index) (any_below_lem count (λ j. mine j && reserves_at full q j)) (any_below_lem count (λ j. mine j && (removed_by l j || reserved_by l j))) (reserves_at full q p.index) (reserved_by l p.index) (region_conflict q.kind p.kind q p) (regions l)
      ∙ ap (λ b. (mine q.index || reserves_at full q p.index || any_below_lem count (λ j. mine j && reserves_at full q j) || region_conflict q.kind p.kind q p) || b) (refused_is a)
    where
      order : (i n x r y g z : Bool) → ((i || n || x) || (r || y) || (g || z)) ≡ ((i || r || n || g) || (x || y || z))
      order i n x r y g z = simp disjunction
