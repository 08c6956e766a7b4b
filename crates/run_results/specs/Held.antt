-- How a caller finds, from the lists alone, what the call that runs a pass does not answer with: the number of regions is the greatest label, of every result that keeps the
-- rules; and where the list lent for pairs was zero, the pairs are its rows whose smaller label is not 0, since no label of a pair is 0. Assumes nothing.
use Rattle.std.specs.Prelude.{ℕ, zero, suc, ◌+◌, ◌/◌, max, ◌≡◌, refl, Bool, true, false, not, cond, List, [], ◌∷◌, ◌++◌, map, leb, eqb, length, take, drop, get_or, None, Some}
use Rattle.std.proofs.Common.{arith, zero-add, sym, ap, ap₂, ◌∙◌, append_assoc, append-nil, length-append, leb-true, eqb-true, eq-eqb}
use Rattle.std.proofs.Math.Seq.{take-append_seam, drop-append_seam}
use Rattle.definitions.specs.Limits.{numbers_per_pair}
use Rattle.definitions.specs.Lists.{overwrite}
use Rattle.definitions.specs.Scan.{filter, concat_map}
use Rattle.definitions.specs.Grid.{Map}
use Rattle.definitions.specs.Context.{Context, context_of}
use Rattle.definitions.specs.Refusals.{or_else}
use Rattle.definitions.specs.Verdict.{pair_rows_of}
use Rattle.laws.specs.ListLaws.Tests.{both}
use Rattle.laws.specs.ListLaws.Lists.{All, done, more, filter-append}
use Rattle.laws.specs.ListLaws.Members.{all_default}
use Rattle.laws.specs.ListLaws.NoFault.{no_fault_lem, or_else_none}
use Rattle.results.specs.Result.{Result, Entry, Turns, started, out_of_turn, in_turn, turns, labels_fault, ascent_fault, pair_key, row_key, rules_fault}
use Rattle.results.specs.ResultAnswers.{chunks, entries_in, placed}
use Rattle.run_results.specs.EntriesOf.{unplaced, joined, joined_length}
use Rattle.run_results.specs.LabelsInTurn.{single, label-entries}
use Rattle.run_results.specs.PairsAscend.{rows_below, rows_long, pairs-joined, rows-labelled}

-- ---- the number of regions

unfoldable pub greatest : List ℕ → ℕ
greatest [] = 0
greatest (x ∷ l) = max x (greatest l)

turns-greatest : (regions n k : ℕ) (l : List ℕ) → turns regions n (map unplaced (map single l)) ≡ started k → k ≡ max n (greatest l)
unfolding turns greatest
turns-greatest regions n k [] h = same h
  where
    same : started n ≡ started k → k ≡ max n 0
    same h =
        let e : n ≡ k = cc in
        omega arith
turns-greatest regions n k (x ∷ l) h = go (leb x n) refl (in_turn regions n x) refl (turns-greatest regions n k l) (turns-greatest regions (n + 1) k l) h
  where
    behind : List Entry
    behind = map unplaced (map single l)

    go : (t : Bool) → leb x n ≡ t → (u : Bool) → in_turn regions n x ≡ u
        → (turns regions n behind ≡ started k → k ≡ max n (greatest l)) → (turns regions (n + 1) behind ≡ started k → k ≡ max (n + 1) (greatest l))
        → cond t (turns regions n behind) (cond u (turns regions (n + 1) behind) (out_of_turn 0)) ≡ started k → k ≡ max n (max x (greatest l))
    go true e u f a b h = omega (arith, leb-true x n e, a h)
    go false e true f a b h = omega (arith, eqb-true x (n + 1) (both (eqb x (n + 1)) (leb x regions) f).0, b h)
    go false e false f a b h = absurd (not-started h)
      where
        not-started : out_of_turn 0 ≡ started k → ⊥
        not-started h = let z : ◌≡◌ {A = ℕ} 0 1 = cc in omega arith

pub regions-greatest : (r : Result) → rules_fault (placed r) ≡ None → r.regions ≡ greatest r.labels
unfolding rules_fault placed
regions-greatest r h =
    let along = turns r.regions 0 (entries_in 1 r.labels) in
    let first = (or_else_none (labels_fault r.regions 0 along) (or_else (ascent_fault pair_key (placed r).pairs) (ascent_fault row_key (placed r).rows)) h).0 in
    reached along refl first
  where
    reached : (t : Turns) → turns r.regions 0 (entries_in 1 r.labels) ≡ t → labels_fault r.regions 0 t ≡ None → r.regions ≡ greatest r.labels
    reached (started n) e f =
        let started-there : turns r.regions 0 (map unplaced (map single r.labels)) ≡ started n = ap (turns r.regions 0) (sym (label-entries r.labels)) ∙ e in
        let is-regions : n ≡ r.regions = eqb-true n r.regions (no_fault_lem (eqb n r.regions) 0 f) in
        omega (arith, turns-greatest r.regions 0 n r.labels started-there, is-regions)
    reached (out_of_turn at) e f = absurd (some_none f)
      where
        some_none : {x : ℕ} → Some x ≡ None → ⊥
        some_none h = let z : ◌≡◌ {A = ℕ} 0 1 = cc in omega arith

-- ---- the pairs

-- the rows whose smaller label is not 0
unfoldable pub pairs_held : List ℕ → List ℕ
pairs_held p = joined (filter (λ c. not (eqb (get_or c 1 0) 0)) (chunks (length p / numbers_per_pair) numbers_per_pair p))

all_take : {P : ℕ → Type 0} (n : ℕ) {l : List ℕ} → All P l → All P (take n l)
all_take zero a = done
all_take (suc n) done = done
all_take (suc n) (more h a) = more h (all_take n a)

all_drop : {P : ℕ → Type 0} (n : ℕ) {l : List ℕ} → All P l → All P (drop n l)
all_drop zero a = a
all_drop (suc n) done = done
all_drop (suc n) (more h a) = all_drop n a

chunks-behind : (k size : ℕ) {cs : List (List ℕ)} (rest : List ℕ) → All (λ c. length c ≡ size) cs → chunks (length cs + k) size (joined cs ++ rest) ≡ cs ++ chunks k size rest
unfolding chunks concat_map
chunks-behind k size rest done = ap (λ n. chunks n size rest) (zero-add k)
chunks-behind k size rest (more {x = c} {l = cs} h a) =
    let e : suc (length cs) + k ≡ suc (length cs + k) = omega arith in
    ap (λ n. chunks n size (c ++ joined cs ++ rest)) e
    ∙ ap₂ ◌∷◌ (ap₂ take (sym h) (append_assoc c (joined cs) rest) ∙ take-append_seam c (joined cs ++ rest))
    (ap (chunks (length cs + k) size) (ap₂ drop (sym h) (append_assoc c (joined cs) rest) ∙ drop-append_seam c (joined cs ++ rest)) ∙ chunks-behind k size rest a)

no_pairs : (k size : ℕ) {l : List ℕ} → All (λ n. n ≡ 0) l → filter (λ c. not (eqb (get_or c 1 0) 0)) (chunks k size l) ≡ []
unfolding chunks filter
no_pairs zero size a = refl
no_pairs (suc k) size {l} a = rw (eq-eqb (get_or (take size l) 1 0) 0 (all_default 0 refl (all_take size a) 1)) (no_pairs k size (all_drop size a))

filter-all : (f : List ℕ → Bool) {cs : List (List ℕ)} → All (λ c. f c ≡ true) cs → filter f cs ≡ cs
unfolding filter
filter-all f done = refl
filter-all f (more {x = c} h a) = rw h (ap (λ r. c ∷ r) (filter-all f a))

pub pairs_held_lem : (M : Map) (old : List ℕ) → All (λ n. n ≡ 0) old → pairs_held (overwrite (pair_rows_of (context_of M)) old) ≡ pair_rows_of (context_of M)
unfolding pairs_held
pairs_held_lem M old zeros =
    ap pairs_held (ap (λ l. l ++ rest) (pairs-joined C)) ∙ ap (λ n. joined (filter labelled (chunks n numbers_per_pair (joined cs ++ rest)))) many
    ∙ ap (λ ds. joined (filter labelled ds)) (chunks-behind (length rest / numbers_per_pair) numbers_per_pair rest (rows_long C C.count))
    ∙ ap joined (filter-append labelled cs (chunks (length rest / numbers_per_pair) numbers_per_pair rest))
    ∙ ap₂ (λ ds es. joined (ds ++ es)) (filter-all labelled (rows-labelled M)) (no_pairs (length rest / numbers_per_pair) numbers_per_pair (all_drop (length (pair_rows_of C)) zeros))
    ∙ ap joined (append-nil cs) ∙ sym (pairs-joined C)
  where
    C : Context
    C = context_of M

    cs : List (List ℕ)
    cs = rows_below C C.count

    rest : List ℕ
    rest = drop (length (pair_rows_of C)) old

    labelled : List ℕ → Bool
    labelled c = not (eqb (get_or c 1 0) 0)

    many : length (joined cs ++ rest) / numbers_per_pair ≡ length cs + length rest / numbers_per_pair
    many = omega (arith, length-append (joined cs) rest, joined_length numbers_per_pair (rows_long C C.count))
