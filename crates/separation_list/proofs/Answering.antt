-- What the checks leave, and the output at exit by the answer's number. Assumes nothing.
use mathlib.Core.Path.{◌≡◌, refl, sym, ap, ◌∙◌}
use mathlib.Core.Bool.{Bool, true, cond}
use mathlib.Core.List.{List, [], ◌∷◌}
use Prim.Native.Nat.{ℕ, ◌*◌, ◌%◌, ◌≤◌}
use native.Mathlib.Omega.{arith}
use lib.Dec.{eqb, leb}
use lib.ListN.{length}
use lib.Seq.{sets}
use borrow.Author.Tests.{leb-true, eq-eqb, ne_eqb}
use Rattle.definitions.specs.Limits.{max_entries, numbers_per_boundary}
use Rattle.definitions.specs.Lists.{overwrite}
use Rattle.std.specs.Prelude.{Option, None, Some}
use Rattle.definitions.specs.Refusals.{unless, sides_fault, is_whole, boundaries_fault}
use Rattle.definitions.specs.Verdict.{refusal, first_refusal}
use Rattle.laws.specs.ListLaws.NoFault.{no_fault_lem}
use Rattle.laws.specs.ListLaws.Tests.{both}
use Rattle.laws.specs.ListLaws.Overwritten.{sets_overwrite}
use Rattle.separations.specs.Listing.{numbers_per_separation, boundary_count, pair_count, separation_rows, list_verdict, list_at_exit}

pub entries-le : (boundaries : List ℕ) {b : Bool} → b ≡ is_whole numbers_per_boundary boundaries → b ≡ true → boundary_count boundaries ≤ max_entries
entries-le boundaries e f =
    leb-true (boundary_count boundaries) max_entries (both (eqb (length boundaries % numbers_per_boundary) 0) (leb (boundary_count boundaries) max_entries) (sym e ∙ f)).1

-- an accepted call has at most as many
second_passed : (a b c d : Option ℕ) (n : ℕ) → (first_refusal (refusal 1 a ∷ refusal 3 b ∷ refusal 7 c ∷ refusal 10 d ∷ []) n).number ≡ 0 → b ≡ None
second_passed None None c d n h = refl
second_passed None (Some p) c d n h = absurd (omega arith)
second_passed (Some p) b c d n h = absurd (omega arith)

pub few_entries : (w h : ℕ) (boundaries : List ℕ) (room : ℕ) → (list_verdict w h boundaries room).number ≡ 0 → boundary_count boundaries ≤ max_entries
unfolding list_verdict
few_entries w h boundaries room success =
    let whole = no_fault_lem (is_whole numbers_per_boundary boundaries) 0 (second_passed (sides_fault w h) (unless (is_whole numbers_per_boundary boundaries)) (boundaries_fault w h boundaries) (unless (leb (numbers_per_separation * pair_count (boundary_count boundaries)) room)) (pair_count (boundary_count boundaries)) success) in
    entries-le boundaries refl whole

-- ---- the output at exit

pub at_success : (boundaries output : List ℕ) {output' : List ℕ} {number : ℕ} → number ≡ 0 → length (separation_rows boundaries (boundary_count boundaries)) ≤ length output
    → output' ≡ sets output 0 (separation_rows boundaries (boundary_count boundaries)) → output' ≡ list_at_exit boundaries output number
unfolding list_at_exit
at_success boundaries output {number = number} z l e =
    let rows = separation_rows boundaries (boundary_count boundaries) in
    e ∙ sets_overwrite output rows l ∙ ap (λ b. cond b (overwrite rows output) output) (sym (eq-eqb number 0 z))

pub at_refusal : (boundaries output : List ℕ) {number : ℕ} → (number ≡ 0 → ⊥) → output ≡ list_at_exit boundaries output number
unfolding list_at_exit
at_refusal boundaries output {number} z = ap (λ b. cond b (overwrite (separation_rows boundaries (boundary_count boundaries)) output) output) (sym (ne_eqb number 0 z))
