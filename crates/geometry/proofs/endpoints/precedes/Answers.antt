-- `endpoints::precedes` meets its contract: two canonical segments compare as their four numbers do. Assumes nothing.
use Rattle.std.proofs.Common.{arith, ◌≡◌, List, ℕ, [], ◌∷◌}
use Rattle.std.proofs.lemmas.Grind.{common_steps}
use Rattle.definitions.specs.Grid.{Segment, canonical}
use Rattle.definitions.specs.Context.{endpoints_key}
use Rattle.definitions.specs.Sort.{list_lt}
use Rattle.geometry.specs.Forms.{segment_form}
use Rattle.geometry.proofs.endpoints.precedes.Goals as goal

abbrev ends_of : Segment → List ℕ
ends_of s = s.a.x ∷ s.a.y ∷ s.b.x ∷ s.b.y ∷ []

key_is : (s l : Segment) → l ≡ canonical s → ends_of l ≡ endpoints_key s
unfolding endpoints_key
key_is s l e = λ i. ends_of (e i)

pub returns : goal.returns
unfolding list_lt
returns c =
    let left = c.canonical-left in
    let right = c.canonical-right in
    rw (← key_is (segment_form c.args.s) (segment_form left.result) left.ensures, ← key_is (segment_form c.args.t) (segment_form right.result) right.ensures) (grind (arith, common_steps))
