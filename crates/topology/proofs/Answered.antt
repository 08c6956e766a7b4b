-- The call with records of its own: they are all alike at entry, a part of them is lent, and what the call leaves in them is written in numbers. Assumes
-- nothing.
use Prim.Native.Nat.{ℕ, zero, suc, ◌≤◌, min}
use native.Mathlib.Omega.{arith}
use mathlib.Core.Path.{◌≡◌, refl, sym, ap, ◌∙◌, subst}
use mathlib.Core.List.{List, [], ◌∷◌, ◌++◌, map}
use lib.ListN.{length, take, replicate, length-replicate, length-map}
use lib.Seq.{take_at}
use Rattle.definitions.specs.RegionRecord.{empty_region}
use Rattle.definitions.specs.RegionRecord as def
use Rattle.definitions.specs.Verdict as verdict
use Rattle.context.specs.declared.Region.{Region}
use Rattle.context.specs.Records.{record_of}
use Rattle.call_partition.specs.Contract.{given, Ran}
use Rattle.topology.specs.Numbers.{with_records}
use Rattle.topology.specs.Lent.{LentLists, LeftLists}
use Rattle.topology.specs.Contract.{RanOver, records_here, LentHere, LeftHere, here_call, RanHere}

-- ---- records that are all alike

module _ {A B : Type 0} (f : A → B) where
  pub map-replicate : (n : ℕ) (a : A) → map f (replicate n a) ≡ replicate n (f a)
  map-replicate zero a = refl
  map-replicate (suc n) a = ap {B = List B} (λ l. f a ∷ l) (map-replicate n a)

  pub map-take : (n : ℕ) (l : List A) → map f (take n l) ≡ take n (map f l)
  map-take zero l = refl
  map-take (suc n) [] = refl
  map-take (suc n) (x ∷ l) = ap {B = List B} (λ r. f x ∷ r) (map-take n l)

take-replicate : {A : Type 0} (n k : ℕ) (a : A) → n ≤ k → take n (replicate k a) ≡ replicate n a
take-replicate zero k a h = refl
take-replicate (suc n) zero a h = absurd (omega arith)
take-replicate {A} (suc n) (suc k) a h = ap {B = List A} (λ l. a ∷ l) (take-replicate n k a (omega arith))

-- n records are lent, the first of the call's own
module _ (room : ℕ) {n : ℕ} (s : List Region) (f : n ≡ min room records_here) (e : map record_of s ≡ replicate records_here empty_region) where
  pub first_empty : map record_of (take n s) ≡ replicate n empty_region
  first_empty = map-take record_of n s ∙ ap (take n) e ∙ take-replicate n records_here empty_region (omega (arith, f))

  pub lent-long : n ≡ length (take n s)
  lent-long = sym (length-replicate n empty_region) ∙ ap length (sym first_empty) ∙ length-map (take n s) record_of

-- ---- the contract

-- what the call with its own records was lent, and what it leaves, where it lends L to the call and is left E
abbrev pub lent_here : LentLists → (room : ℕ) (numbers : List ℕ) → LentHere
lent_here L room numbers =
    record {
      width = L.width;
      height = L.height;
      cells = L.cells;
      spans = L.spans;
      boundaries = L.boundaries;
      anchors = L.anchors;
      labels = L.labels;
      masks = L.masks;
      queue = L.queue;
      tallies = L.tallies;
      pairs = L.pairs;
      room = room;
      output = L.output;
      numbers = numbers;
    }

abbrev pub left_here : LeftLists → (numbers : List ℕ) → LeftHere
left_here E numbers =
    record { labels = E.labels; masks = E.masks; queue = E.queue; tallies = E.tallies; pairs = E.pairs; output = E.output; numbers = numbers }

-- the call's own form of what was lent, with other records
abbrev with_records_lem : ℕ → LentLists → List def.Region → verdict.Lent
with_records_lem pass L records =
    given pass L.width L.height L.cells L.spans L.boundaries L.anchors L.labels L.masks L.queue L.tallies L.pairs records L.output

module _ {pass : ℕ} (L : LentLists) (E : LeftLists) where
  -- k records were lent, that were empty; then the first k of those that are left and of what stands behind them were written in the numbers n
  pub ran_here : {a b : verdict.Answer} {n n' : List ℕ} {k : ℕ} (room : ℕ) (rest : List Region) → k ≡ min room records_here
      → RanOver pass L a E → map record_of L.records ≡ replicate k empty_region → length E.records ≡ k
      → n' ≡ with_records (map record_of (take k (E.records ++ rest))) n → b ≡ a
      → RanHere pass (lent_here L room n) b (left_here E n')
  ran_here {a} {n = n} {k = k} room rest f r e long put same =
      record {
        records = map record_of E.records;
        ran =
            subst (λ b. Ran (here_call pass (lent_here L room n)) b E.labels E.masks E.queue E.tallies E.pairs (map record_of E.records) E.output) (sym same)
            (subst (λ s. Ran (with_records_lem pass L s) a E.labels E.masks E.queue E.tallies E.pairs (map record_of E.records) E.output)
            (e ∙ ap (λ n. replicate n empty_region) f) r.ran);
        numbers = put ∙ ap (λ l. with_records (map record_of l) n) (take_at E.records rest k long);
      }
