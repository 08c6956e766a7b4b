-- Maps spread to entries from the last on: what lies in front of the entries that are written is as it was (`Spreading`). Assumes nothing.
use Prim.Native.Nat.{ℕ, zero, suc, ◌+◌, ◌-◌, ◌*◌, ◌/◌, ◌≤◌, ◌<◌}
use native.Mathlib.Omega.{arith}
use mathlib.Core.Path.{◌≡◌, refl, sym, ap, ap₂, ◌∙◌}
use mathlib.Core.List.{List, [], ◌∷◌, ◌++◌, append-nil}
use Rattle.std.specs.Prelude.{Option, None, Some}
use lib.ListN.{length, get_or, set, take, drop, length-append, length-drop, length-take}
use lib.Seq.{sets, length-sets, drop-cons, get_or-take, get_or-set_other, take-append_seam, drop-append_seam, take-take}
use lib.Dec.{ltb}
use Rattle.definitions.specs.Lists.{overwrite}
use Rattle.definitions.specs.Scan.{concat_map}
use Rattle.definitions.specs.Sort.{sort}
use Rattle.laws.specs.ListLaws.Overwritten.{sets_append, sets_later, sets_overwrite, overwrite-twice}
use Rattle.laws.specs.ListLaws.SortedMembers.{length-sort}
use Rattle.catalogue.specs.Accession.{Accession}
use Rattle.catalogue.specs.Pool.{entry_of}
use Rattle.pool_entries.specs.Steps.{entries_by, blank}

entry_length : (m : ℕ) (o : Option Accession) → length (entry_of m o) ≡ 4
entry_length m None = refl
entry_length m (Some r) = refl

pub entries-length : (f : ℕ → Option Accession) (M : List ℕ) → length (entries_by f M) ≡ 4 * length M
unfolding entries_by concat_map
entries-length f [] = refl
entries-length f (m ∷ M) = omega (arith, length-append (entry_of m (f m)) (concat_map (λ n. entry_of n (f n)) M), entry_length m (f m), entries-length f M)

blank_cons : (m : ℕ) (M : List ℕ) → blank (m ∷ M) ≡ (m ∷ 0 ∷ 0 ∷ 0 ∷ []) ++ blank M
unfolding entries_by concat_map
blank_cons m M = refl

-- two lists stored apart, in either order
sets_swap : (l : List ℕ) (k n : ℕ) (v w : List ℕ) → k + length v ≤ n → sets (sets l n w) k v ≡ sets (sets l k v) n w
sets_swap l k n v [] h = refl
sets_swap l k n v (x ∷ w) h = sets_swap (set l n x) k (suc n) v w (omega arith) ∙ ap (λ m. sets m (suc n) w) (sets_later l k v n x h)

-- an entry in front of what is stored
before_sets : (l : List ℕ) (n : ℕ) (w : List ℕ) (k : ℕ) → k < n → get_or (sets l n w) k 0 ≡ get_or l k 0
before_sets l n [] k h = refl
before_sets l n (x ∷ w) k h = before_sets (set l n x) (suc n) w k (omega arith) ∙ get_or-set_other l n k x 0 (λ e. omega arith)

pub record Spreading (maps : ℕ) (old new : List ℕ) (k : ℕ) : Type 0 where
  pub within : k ≤ maps
  pub room : 4 * maps ≤ length old
  pub stored : new ≡ sets old (4 * k) (blank (drop k (take maps old)))
  pub long : length new ≡ length old

drop_all : {A : Type 0} (l : List A) (n : ℕ) → length l ≤ n → drop n l ≡ []
drop_all [] zero h = refl
drop_all [] (suc n) h = refl
drop_all (x ∷ l) zero h = absurd (omega arith)
drop_all (x ∷ l) (suc n) h = drop_all l n (omega arith)

taken-length : (maps : ℕ) (old : List ℕ) → 4 * maps ≤ length old → length (take maps old) ≡ maps
taken-length maps old h = simp length-take (omega arith)

module _ {maps : ℕ} {old : List ℕ} where
  pub spreading_starts : 4 * maps ≤ length old → Spreading maps old old maps
  unfolding entries_by concat_map
  spreading_starts h =
      record {
        within = omega arith;
        room = h;
        stored = ap (λ l. sets old (4 * maps) (blank l)) (sym (drop_all (take maps old) maps (omega (arith, taken-length maps old h))));
        long = refl;
      }

  module _ {new : List ℕ} {k : ℕ} (S : Spreading maps old new k) (h : 0 < k) where
    -- the map that is read
    read : get_or new (k - 1) 0 ≡ get_or (take maps old) (k - 1) 0
    read =
        let inside : k - 1 < maps = omega (arith, S.within) in
        ap (λ l. get_or l (k - 1) 0) S.stored ∙ before_sets old (4 * k) (blank (drop k (take maps old))) (k - 1) (omega arith) ∙ sym (rw get_or-take refl)

    next_drop : drop (k - 1) (take maps old) ≡ get_or (take maps old) (k - 1) 0 ∷ drop k (take maps old)
    next_drop =
        let up : suc (k - 1) ≡ k = omega arith in
        drop-cons (take maps old) (k - 1) 0 (omega (arith, S.within, taken-length maps old S.room)) ∙ ap (λ n. get_or (take maps old) (k - 1) 0 ∷ drop n (take maps old)) up

    pub spreading_goes_on : {next : List ℕ} → next ≡ sets new (4 * (k - 1)) (get_or new (k - 1) 0 ∷ 0 ∷ 0 ∷ 0 ∷ []) → Spreading maps old next (k - 1)
    spreading_goes_on e =
        let m = get_or (take maps old) (k - 1) 0 in
        let four : List ℕ = m ∷ 0 ∷ 0 ∷ 0 ∷ [] in
        let rest = blank (drop k (take maps old)) in
        let place : 4 * (k - 1) + 4 ≡ 4 * k = omega arith in
        record {
          within = omega (arith, S.within);
          room = S.room;
          stored =
              e
              ∙ ap₂ (λ l x. sets l (4 * (k - 1)) (x ∷ 0 ∷ 0 ∷ 0 ∷ [])) S.stored read
              ∙ sets_swap old (4 * (k - 1)) (4 * k) four rest (omega arith)
              ∙ ap (λ n. sets (sets old (4 * (k - 1)) four) n rest) (sym place)
              ∙ sym (sets_append old (4 * (k - 1)) four rest)
              ∙ ap (sets old (4 * (k - 1))) (sym (blank_cons m (drop k (take maps old))) ∙ ap blank (sym next_drop));
          long = ap length e ∙ length-sets new (4 * (k - 1)) (get_or new (k - 1) 0 ∷ 0 ∷ 0 ∷ 0 ∷ []) ∙ S.long;
        }

  pub spreading_ends : {new : List ℕ} {k : ℕ} → Spreading maps old new k → k ≤ 0 → new ≡ overwrite (blank (take maps old)) old
  spreading_ends {new} {k} S h =
      let z : k ≡ 0 = omega arith in
      S.stored
      ∙ ap (λ n. sets old (4 * n) (blank (drop n (take maps old)))) z
      ∙ sets_overwrite old (blank (take maps old)) (omega (arith, entries-length (λ m. None) (take maps old), taken-length maps old S.room, S.room))

-- ---- the maps put, sorted and spread

-- the maps X at the front, sorted, and the part that their entries need then spread
pub listed : (X old : List ℕ) {put sorted spread : List ℕ} {n : ℕ} → n ≡ length X → 4 * length X ≤ length old → put ≡ overwrite X old → sorted ≡ sort ltb (take n put)
    → spread ≡ overwrite (blank (take (length (take (4 * n) (sorted ++ drop n put)) / 4) (take (4 * n) (sorted ++ drop n put)))) (take (4 * n) (sorted ++ drop n put))
    → spread ++ drop (4 * n) (sorted ++ drop n put) ≡ overwrite (blank (sort ltb X)) old
listed X old {put} {sorted} {spread} {n} c room p s e =
    let S = sort ltb X in
    let sized : length S ≡ n = length-sort ltb X ∙ sym c in
    let W = overwrite S old in
    let part = take (4 * n) W in
    let front : take n put ≡ X = ap₂ take c p ∙ take-append_seam X (drop (length X) old) in
    let behind : drop n put ≡ drop (length S) old = ap₂ drop c p ∙ drop-append_seam X (drop (length X) old) ∙ ap (λ k. drop k old) (sym c ∙ sym sized) in
    let there : sorted ++ drop n put ≡ W = ap₂ (λ u v. u ++ v) (s ∙ ap (sort ltb) front) behind in
    let long : length part ≡ 4 * n = simp length-take (omega (arith, length-append S (drop (length S) old), length-drop (length S) old, sized, c, room)) in
    let quarter : length part / 4 ≡ length S = omega (arith, long, sized) in
    let read : take (length part / 4) part ≡ S = ap (λ k. take k part) quarter ∙ take-take (length S) (4 * n) W (omega (arith, sized)) ∙ take-append_seam S (drop (length S) old) in
    let none : drop (length (blank S)) part ≡ [] = drop_all part (length (blank S)) (omega (arith, long, sized, entries-length (λ m. None) S)) in
    let full : length (blank S) ≡ 4 * n = omega (arith, sized, entries-length (λ m. None) S) in
    ap₂ (λ u v. u ++ v)
    (e
    ∙ ap (λ w. overwrite (blank (take (length (take (4 * n) w) / 4) (take (4 * n) w))) (take (4 * n) w)) there
    ∙ ap (λ t. overwrite (blank t) part) read
    ∙ ap (λ t. blank S ++ t) none
    ∙ append-nil (blank S))
    (ap (drop (4 * n)) there ∙ ap (λ k. drop k W) (sym full))
    ∙ overwrite-twice (blank S) S old (omega (arith, entries-length (λ m. None) S))
