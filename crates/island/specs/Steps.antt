-- Steps of a grid with all but an island blocked: they are the steps from the island's cells. A diagonal step needs its two side cells, and these lie in the
-- island with the step: each is the end of a straight step from its first cell. Assumes, as section parameters, what is blocked and that no step leaves the island.
use Rattle.std.specs.Prelude.{ℕ, ◌+◌, ◌-◌, ◌≡◌, refl, Bool, true, false, ◌&&◌}
use Rattle.std.proofs.Common.{arith, sym, ap, ◌∙◌, le-leb}
use Rattle.std.proofs.lemmas.Bool.{false≢true}
use Rattle.definitions.specs.Grid.{Map, Position, at, toward, walkable, is_step}
use Rattle.laws.specs.ListLaws.Tests.{both}
use Rattle.laws.specs.RegionLaws.Steps.{StepParts, step-parts, step-whole}

module _
    (M M' : Map) (isl : Position → Bool)
    (blocked : (q : Position) → walkable M' q ≡ (walkable M q && isl q))
    (apart : (p d : Position) → is_step M p d ≡ true → isl p ≡ isl (toward p d)) where
  weaker : (q : Position) → walkable M' q ≡ true → walkable M q ≡ true
  weaker q h = (both (walkable M q) (isl q) (sym (blocked q) ∙ h)).0

  within : (q : Position) → walkable M' q ≡ true → isl q ≡ true
  within q h = (both (walkable M q) (isl q) (sym (blocked q) ∙ h)).1

  stays : (q : Position) → walkable M q ≡ true → isl q ≡ true → walkable M' q ≡ true
  stays q h k = rw (blocked q, h, k) refl

  one_back : (n : ℕ) → n + 1 - 1 ≡ n
  one_back n = omega arith

  -- the straight step along the row to one side cell, and the one along the column to the other
  leg_x : (p d : Position) → StepParts M p d → isl p ≡ isl (at (toward p d).x p.y)
  leg_x p d f = apart p (at d.x 1) (step-whole M p (at d.x 1) legs) ∙ ap (λ n. isl (at (p.x + d.x - 1) n)) (one_back p.y)
    where
      legs : StepParts M p (at d.x 1)
      legs =
          record {
            near_x = f.near_x;
            near_y = refl;
            right = f.right;
            down = le-leb 1 (p.y + 1) (omega arith);
            far = rw (one_back p.y) f.side;
            near = f.near;
            side = f.side;
            under = rw (one_back p.y) f.near;
          }

  leg_y : (p d : Position) → StepParts M p d → isl p ≡ isl (at p.x (toward p d).y)
  leg_y p d f = apart p (at 1 d.y) (step-whole M p (at 1 d.y) legs) ∙ ap (λ n. isl (at n (p.y + d.y - 1))) (one_back p.x)
    where
      legs : StepParts M p (at 1 d.y)
      legs =
          record {
            near_x = refl;
            near_y = f.near_y;
            right = le-leb 1 (p.x + 1) (omega arith);
            down = f.down;
            far = rw (one_back p.x) f.under;
            near = f.near;
            side = rw (one_back p.x) f.near;
            under = f.under;
          }

  pub steps_in : (p d : Position) → is_step M' p d ≡ (isl p && is_step M p d)
  steps_in p d = go (is_step M p d) refl (isl p) refl (is_step M' p d) refl
    where
      whole : isl p ≡ true → StepParts M p d → StepParts M' p d
      whole i f =
          record {
            near_x = f.near_x;
            near_y = f.near_y;
            right = f.right;
            down = f.down;
            far = stays (toward p d) f.far (sym (apart p d (step-whole M p d f)) ∙ i);
            near = stays p f.near i;
            side = stays _ f.side (sym (leg_x p d f) ∙ i);
            under = stays _ f.under (sym (leg_y p d f) ∙ i);
          }

      back : StepParts M' p d → StepParts M p d
      back f =
          record
          { near_x = f.near_x; near_y = f.near_y; right = f.right; down = f.down; far = weaker _ f.far; near = weaker _ f.near; side = weaker _ f.side; under = weaker _ f.under }

      go : (b : Bool) → is_step M p d ≡ b → (c : Bool) → isl p ≡ c → (e : Bool) → is_step M' p d ≡ e → e ≡ (c && b)
      go true h true i true k = refl
      go true h true i false k = absurd (false≢true (sym k ∙ step-whole M' p d (whole i (step-parts M p d h))))
      go true h false i true k = absurd (false≢true (sym i ∙ within p (step-parts M' p d k).near))
      go true h false i false k = refl
      go false h true i true k = absurd (false≢true (sym h ∙ step-whole M p d (back (step-parts M' p d k))))
      go false h true i false k = refl
      go false h false i true k = absurd (false≢true (sym i ∙ within p (step-parts M' p d k).near))
      go false h false i false k = refl
