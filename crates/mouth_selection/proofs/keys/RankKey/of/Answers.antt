-- `keys::RankKey::of` meets its contract: the endpoints as the list has them, made canonical. Assumes nothing.
use Rattle.std.proofs.Common.{ap, ◌≡◌, ◌∙◌, ◌*◌, [], ◌∷◌}
use Rattle.definitions.specs.Limits.{numbers_per_boundary}
use Rattle.definitions.specs.Grid.{canonical, segment_at}
use Rattle.definitions.specs.Context.{endpoints_key}
use Rattle.geometry.specs.Forms.{segment_form}
use Rattle.mouth_selection.specs.Keys.{key_at}
use Rattle.mouth_selection.proofs.keys.RankKey.of.Goals as goal

pub returns : goal.returns
unfolding key_at endpoints_key
returns c =
    let s = c.args in
    let m : segment_form c.canonical.result ≡ canonical (segment_at s.boundaries.now (numbers_per_boundary * s.m)) = c.canonical.ensures ∙ ap canonical c.segment_of.ensures in
    let r : segment_form c.canonical-2.result ≡ canonical (segment_at s.boundaries.now (numbers_per_boundary * s.a)) = c.canonical-2.ensures ∙ ap canonical c.segment_of-2.ensures in
    λ i. s.separation ∷ (m i).a.x ∷ (m i).a.y ∷ (m i).b.x ∷ (m i).b.y ∷ (r i).a.x ∷ (r i).a.y ∷ (r i).b.x ∷ (r i).b.y ∷ []
