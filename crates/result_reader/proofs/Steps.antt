-- One entry more: what is remembered with it says of the rest what was said of both before. Assumes nothing.
use Prim.Native.Nat.{ℕ, ◌+◌}
use mathlib.Core.Path.{◌≡◌, refl, sym, ap, ◌∙◌}
use mathlib.Core.Bool.{Bool, true, false, cond}
use Rattle.std.specs.Prelude.{Option, None, Some, Result, Ok, Err}
use mathlib.Core.List.{List, [], ◌∷◌}
use lib.Dec.{leb}
use Rattle.definitions.specs.Sort.{list_lt}
use Rattle.results.specs.Result.{Entry, out_of_turn, in_turn, turns, ascent_fault}
use Rattle.result_writer.specs.Contract.{turn_of}
use Rattle.result_reader.specs.Walks.{turned_at, turn_at, turns_from, ascent_of, fault_behind, ascent_from}

-- ---- labels

turn_step : (regions label place n : ℕ) (es : List Entry)
    → turns_from regions (turned_at place (turn_of regions n label)) es ≡ turns_from regions (Ok n) (record { place = place; numbers = label ∷ [] } ∷ es)
unfolding turns_from turns
turn_step regions label place n es = go (leb label n) (in_turn regions n label)
  where
    go : (t u : Bool) → turns_from regions (turned_at place (cond t (Some n) (cond u (Some (n + 1)) None))) es
        ≡ cond t (turns regions n es) (cond u (turns regions (n + 1) es) (out_of_turn place))
    go true u = refl
    go false true = refl
    go false false = refl

turns_step : (regions label place : ℕ) (s : Result ℕ ℕ) (es : List Entry)
    → turns_from regions (turn_at regions s label place) es ≡ turns_from regions s (record { place = place; numbers = label ∷ [] } ∷ es)
unfolding turns_from
turns_step regions label place (Ok n) es = turn_step regions label place n es
turns_step regions label place (Err first) es = refl

pub turn_next : (regions label place : ℕ) (s : Result ℕ ℕ) {t : Result ℕ ℕ} → t ≡ turn_at regions s label place → (es : List Entry)
    → turns_from regions t es ≡ turns_from regions s (record { place = place; numbers = label ∷ [] } ∷ es)
turn_next regions label place s e es = ap (λ t. turns_from regions t es) e ∙ turns_step regions label place s es

-- ---- pairs and rows

-- behind the first entry
first_behind : (key : List ℕ → List ℕ) (e : Entry) (es : List Entry) → fault_behind key (key e.numbers) es ≡ ascent_fault key (e ∷ es)
unfolding fault_behind ascent_fault
first_behind key e [] = refl
first_behind key e (f ∷ es) = ap (λ r. cond (list_lt (key e.numbers) (key f.numbers)) r (Some f.place)) (first_behind key f es)

module _ (key : List ℕ → List ℕ) where
  ascent_step : (s : Result (Option (List ℕ)) ℕ) (numbers : List ℕ) (place : ℕ) (es : List Entry)
      → ascent_from key (ascent_of s (key numbers) place) es ≡ ascent_from key s (record { place = place; numbers = numbers } ∷ es)
  unfolding ascent_from fault_behind
  ascent_step (Ok None) numbers place es = first_behind key (record { place = place; numbers = numbers }) es
  ascent_step (Ok (Some before)) numbers place es = go (list_lt before (key numbers))
    where
      go : (t : Bool) → ascent_from key (cond t (Ok (Some (key numbers))) (Err place)) es ≡ cond t (fault_behind key (key numbers) es) (Some place)
      go true = refl
      go false = refl
  ascent_step (Err first) numbers place es = refl

  pub ascent_next : (s t : Result (Option (List ℕ)) ℕ) (numbers k : List ℕ) (place : ℕ) → t ≡ ascent_of s k place → k ≡ key numbers → (es : List Entry)
      → ascent_from key t es ≡ ascent_from key s (record { place = place; numbers = numbers } ∷ es)
  ascent_next s t numbers k place e f es = ap (λ u. ascent_from key u es) (e ∙ ap (λ l. ascent_of s l place) f) ∙ ascent_step s numbers place es

module _ {state : Result (Option (List ℕ)) ℕ} (k : List ℕ) (place : ℕ) where
  pub climbed_on : {before : List ℕ} → state ≡ Ok (Some before) → list_lt before k ≡ true → Ok (Some k) ≡ ascent_of state k place
  climbed_on e f = sym (ap (λ s. ascent_of s k place) e ∙ ap (λ u. cond u (Ok (Some k)) (Err place)) f)

  pub climbed_not : {before : List ℕ} → state ≡ Ok (Some before) → list_lt before k ≡ false → Err place ≡ ascent_of state k place
  climbed_not e f = sym (ap (λ s. ascent_of s k place) e ∙ ap (λ u. cond u (Ok (Some k)) (Err place)) f)
