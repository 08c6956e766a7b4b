-- The room that numbers take: the sizes while they are taken from the room (`Spending`), and the room for the
-- whole sheet. Assumes nothing.
use Prim.Native.Nat.{ℕ, suc, ◌+◌, ◌-◌, ◌/◌, ◌<◌, ◌≤◌}
use native.Mathlib.Omega.{arith}
use native.Mathlib.Numerals.{add-one}
use mathlib.Core.Path.{◌≡◌, refl, sym, ap, ◌∙◌}
use mathlib.Core.Bool.{Bool, true, false, cond}
use mathlib.Core.List.{List, ◌++◌}
use lib.Dec.{leb}
use lib.ListN.{length, drop, get_or, length-append, drop_of_length-le}
use lib.Seq.{drop-cons}
use borrow.Author.Tests.{le-leb, lt-leb, leb-true, leb-false}
use Rattle.definitions.specs.Scan.{concat_map}
use Rattle.definitions.specs.Limits.{tallies_per_span, numbers_per_pair, numbers_per_row}
use Rattle.results.specs.Shortest.{shortest, list_bytes}
use Rattle.results.specs.Result.{Result}
use Rattle.results.specs.ResultAnswers.{result_bytes}
use Rattle.result_writer.specs.Contract.{spent}
use Rattle.std.specs.Prelude.{Option, None, Some, SomeIff, is_some}

-- ---- what is taken from a room

spent-twice : (room : Option ℕ) (a b : ℕ) → spent (spent room a) b ≡ spent room (a + b)
unfolding spent
spent-twice None a b = refl
spent-twice (Some l) a b = go (leb a l) refl (leb b (l - a)) refl
  where
    go : (t : Bool) → leb a l ≡ t → (u : Bool) → leb b (l - a) ≡ u → spent (cond t (Some (l - a)) None) b ≡ cond (leb (a + b) l) (Some (l - (a + b))) None
    go true e true f =
        let x : a ≤ l = leb-true a l e in
        let y : b ≤ l - a = leb-true b (l - a) f in
        let z : l - a - b ≡ l - (a + b) = omega arith in
        rw (f, le-leb (a + b) l (omega arith)) (ap Some z)
    go true e false f =
        let x : a ≤ l = leb-true a l e in
        let y : l - a < b = leb-false b (l - a) f in
        rw (f, lt-leb (a + b) l (omega arith)) refl
    go false e u f =
        let x : l < a = leb-false a l e in
        rw (lt-leb (a + b) l (omega arith)) refl

pub spent-then : (room : Option ℕ) (a b : ℕ) {r s : Option ℕ} → r ≡ spent room a → s ≡ spent r b → s ≡ spent room (a + b)
spent-then room a b e f = f ∙ ap (λ r. spent r b) e ∙ spent-twice room a b

pub spent_none : {room : Option ℕ} (size : ℕ) → room ≡ None → None ≡ spent room size
unfolding spent
spent_none size e = sym (ap (λ r. spent r size) e)

pub spent-short : {room : Option ℕ} {left size : ℕ} (n : ℕ) → room ≡ Some left → size ≡ n → left < size → None ≡ spent room n
unfolding spent
spent-short {room} {left} n e s h =
    let few : left < n = omega arith in
    sym (ap (λ r. spent r n) e ∙ short few)
  where
    short : left < n → spent (Some left) n ≡ None
    short h = rw (lt-leb n left h) refl

pub spent-left : {room : Option ℕ} {left size : ℕ} (n : ℕ) → room ≡ Some left → size ≡ n → size ≤ left → Some (left - size) ≡ spent room n
unfolding spent
spent-left {room} {left} n e s h =
    let enough : n ≤ left = omega arith in
    ap (λ k. Some (left - k)) s ∙ sym (ap (λ r. spent r n) e ∙ some enough)
  where
    some : n ≤ left → spent (Some left) n ≡ Some (left - n)
    some h = rw (le-leb n left h) refl

-- what a subtraction leaves, if it leaves anything
pub spent-known : {room : Option ℕ} {left size : ℕ} (r : Option ℕ) (n : ℕ) → room ≡ Some left → size ≡ n → SomeIff r (size ≤ left) (left - size) → r ≡ spent room n
spent-known {left = left} {size = size} None n e s h =
    let short : left < size = omega (arith, h) in
    spent-short n e s short
spent-known (Some x) n e s h = ap Some h.1 ∙ spent-left n e s h.0

-- what is taken behind a step that left so much
pub spent-behind : {room : Option ℕ} {left : ℕ} {r : Option ℕ} (size : ℕ) → room ≡ Some left → r ≡ spent (Some left) size → r ≡ spent room size
spent-behind size w e = e ∙ ap (λ s. spent s size) (sym w)

-- ---- the numbers of a list

pub next_bytes : (numbers : List ℕ) (i : ℕ) → i < length numbers → concat_map shortest (drop i numbers) ≡ shortest (get_or numbers i 0) ++ concat_map shortest (drop (suc i) numbers)
unfolding concat_map
next_bytes numbers i h = ap (concat_map shortest) (drop-cons numbers i 0 h)

pub next_length : (numbers : List ℕ) (i : ℕ) → i < length numbers
    → length (concat_map shortest (drop i numbers)) ≡ length (shortest (get_or numbers i 0)) + length (concat_map shortest (drop (suc i) numbers))
next_length numbers i h = ap length (next_bytes numbers i h) ∙ length-append (shortest (get_or numbers i 0)) (concat_map shortest (drop (suc i) numbers))

-- what is left of the room has to do for what is left of the numbers
pub record Spending (numbers : List ℕ) (whole left i : ℕ) : Type 0 where
  pub few : i ≤ length numbers
  pub same : spent (Some left) (length (concat_map shortest (drop i numbers))) ≡ spent (Some whole) (length (concat_map shortest numbers))

module _ {numbers : List ℕ} {whole left i : ℕ} (S : Spending numbers whole left i) where
  -- the next number's size is taken
  taken : i < length numbers → {r : Option ℕ} → r ≡ spent (Some left) (length (shortest (get_or numbers i 0)))
      → spent r (length (concat_map shortest (drop (suc i) numbers))) ≡ spent (Some whole) (length (concat_map shortest numbers))
  taken h e = spent-then (Some left) (length (shortest (get_or numbers i 0))) (length (concat_map shortest (drop (suc i) numbers))) e refl ∙ ap (spent (Some left)) (sym (next_length numbers i h)) ∙ S.same

  pub spending_goes_on : i < length numbers → {r : Option ℕ} {new : ℕ} → r ≡ spent (Some left) (length (shortest (get_or numbers i 0))) → r ≡ Some new
      → Spending numbers whole new (i + 1)
  spending_goes_on h e w =
      record { few = omega arith; same = rw (add-one i) (ap (λ s. spent s (length (concat_map shortest (drop (suc i) numbers)))) (sym w) ∙ taken h e) }

  pub spending_stops : i < length numbers → {r : Option ℕ} → r ≡ spent (Some left) (length (shortest (get_or numbers i 0))) → r ≡ None
      → None ≡ spent (Some whole) (length (concat_map shortest numbers))
  spending_stops h e w = spent_none (length (concat_map shortest (drop (suc i) numbers))) w ∙ taken h e

pub spending_ends : {numbers : List ℕ} {whole left i : ℕ} → Spending numbers whole left i → length numbers ≤ i → Some left ≡ spent (Some whole) (length (concat_map shortest numbers))
unfolding concat_map
spending_ends {numbers} {left = left} {i = i} S h =
    let all : left - 0 ≡ left = omega arith in
    sym (ap Some all) ∙ nothing ∙ sym (ap (λ m. spent (Some left) (length (concat_map shortest m))) (drop_of_length-le numbers h)) ∙ S.same
  where
    nothing : Some (left - 0) ≡ spent (Some left) 0
    nothing = spent-left 0 refl refl (omega arith)

pub spent-list : (room : Option ℕ) {counted r : Option ℕ} (size : ℕ) (numbers : List ℕ) → counted ≡ spent room (length (shortest (length numbers / size)))
    → r ≡ spent counted (length (concat_map shortest numbers)) → r ≡ spent room (length (list_bytes size numbers))
unfolding list_bytes
spent-list room size numbers e f =
    spent-then room (length (shortest (length numbers / size))) (length (concat_map shortest numbers)) e f ∙ ap (spent room) (sym (length-append (shortest (length numbers / size)) (concat_map shortest numbers)))

-- ---- the sheet

pub sheet-length : (r : Result) → length (result_bytes r)
    ≡ length (shortest 2) + length (shortest r.regions) + length (list_bytes 1 r.labels) + length (list_bytes tallies_per_span r.tallies)
    + length (list_bytes numbers_per_pair r.pairs) + length (list_bytes numbers_per_row r.rows)
unfolding result_bytes
sheet-length r = six (shortest 2) (shortest r.regions) (list_bytes 1 r.labels) (list_bytes tallies_per_span r.tallies) (list_bytes numbers_per_pair r.pairs) (list_bytes numbers_per_row r.rows)
  where
    six : (a b c d e f : List ℕ) → length (a ++ b ++ c ++ d ++ e ++ f) ≡ length a + length b + length c + length d + length e + length f
    six a b c d e f = simp length-append refl

-- the parts of the sheet, one after the other
pub sheet-spent : (r : Result) (room : Option ℕ) {a b c d e f : Option ℕ} → a ≡ spent room (length (shortest 2)) → b ≡ spent a (length (shortest r.regions))
    → c ≡ spent b (length (list_bytes 1 r.labels)) → d ≡ spent c (length (list_bytes tallies_per_span r.tallies)) → e ≡ spent d (length (list_bytes numbers_per_pair r.pairs))
    → f ≡ spent e (length (list_bytes numbers_per_row r.rows)) → f ≡ spent room (length (result_bytes r))
sheet-spent r room u v w x y z =
    let kind : ℕ = length (shortest 2) in
    let regions : ℕ = length (shortest r.regions) in
    let labels : ℕ = length (list_bytes 1 r.labels) in
    let tallies : ℕ = length (list_bytes tallies_per_span r.tallies) in
    let pairs : ℕ = length (list_bytes numbers_per_pair r.pairs) in
    let rows : ℕ = length (list_bytes numbers_per_row r.rows) in
    let two = spent-then room kind regions u v in
    let three = spent-then room (kind + regions) labels two w in
    let four = spent-then room (kind + regions + labels) tallies three x in
    let five = spent-then room (kind + regions + labels + tallies) pairs four y in
    spent-then room (kind + regions + labels + tallies + pairs) rows five z ∙ ap (spent room) (sym (sheet-length r))

pub has_room : (room n : ℕ) {left : Option ℕ} → left ≡ spent (Some room) n → is_some left ≡ leb n room
unfolding spent
has_room room n {left} e = ap is_some e ∙ go (leb n room)
  where
    go : (t : Bool) → is_some (cond t (Some (room - n)) None) ≡ t
    go true = refl
    go false = refl
