-- What a mouth and a ramp propose before the records of regions are looked at, as the code has it: the region outside, and a kind. Definitions only; assumes nothing.
use Rattle.std.specs.Prelude.{ℕ, ◌≡◌, ◌≤◌, Bool, true, false, ◌&&◌, ◌||◌, [], ◌∷◌, Option, None, Some}
use Rattle.std.proofs.Math.Bool.{not, cond}
use Rattle.std.proofs.Math.Dec.{eqb}
use Rattle.std.specs.Float.Ieee.{lt}
use Rattle.definitions.specs.Scan.{to_list, all, only_if, filter}
use Rattle.definitions.specs.Grid.{Pair, contains}
use Rattle.definitions.specs.MouthShapes.{MouthShape, single, star, regions_of, mouth_shape}
use Rattle.definitions.specs.Context.{Context, full_cut, full_pair, other_region, incident_count, no_ramp}
use Rattle.definitions.specs.RampMouths.{MouthProposal, max_mouth_distance, retain, other_end_incident, broad_mouth, nearby_representative, overlay_representative, overlay_only, separation_of, shaped_mouth, triangle, triangle_or}
use Rattle.mouth_proposals.specs.Rows.{inner_of, one_of}
use Rattle.mouth_proposals.specs.declared.approaches.Approach.{Approach}
use Rattle.mouth_proposals.specs.declared.approaches.Approach.TheVariants as approach
use Rattle.mouth_proposals.specs.declared.measures.Measures.{Measures}
use Rattle.mouth_proposals.specs.declared.mouths.Mouth.{Mouth}
use Rattle.mouth_proposals.specs.declared.mouths.MouthKind.{MouthKind}
use Rattle.mouth_proposals.specs.declared.mouths.MouthKind.TheVariants as kind-of

-- ---- approaches: the one region of the mouth that the ramp's own pair names

abbrev pub single_at : Pair → Option ℕ → Option Approach
single_at p None = None
single_at p (Some r) = Some (approach.Single (record { outer = other_region r p; approach = r }))

abbrev pub star_at : ℕ → Option ℕ → Option Approach
star_at outer None = None
star_at outer (Some r) = Some (approach.Star (record { outer = outer; approach = r }))

-- from the ramp's full pair and the mouth's shape
abbrev pub approach_of : Option Pair → Option MouthShape → Option Approach
approach_of None s = None
approach_of (Some q) None = None
approach_of (Some q) (Some (single p)) = single_at p (one_of (filter (λ r. contains r q) (p.lo ∷ p.hi ∷ [])))
approach_of (Some q) (Some (star outer inner)) = star_at outer (one_of (filter (λ r. contains r q) inner))

-- both regions are numbered from 1 to n
abbrev pub Within : ℕ → Option Approach → Type 0
Within n None = Unit {0}
Within n (Some (approach.Single s)) = ((1 ≤ s.outer) × (s.outer ≤ n)) × ((1 ≤ s.approach) × (s.approach ≤ n))
Within n (Some (approach.Star s)) = ((1 ≤ s.outer) × (s.outer ≤ n)) × ((1 ≤ s.approach) × (s.approach ≤ n))

-- ---- proposals

-- the region outside, if there is one, is numbered from 1 to n
abbrev pub Numbered : ℕ → Option ℕ → Type 0
Numbered n None = Unit {0}
Numbered n (Some r) = (1 ≤ r) × (r ≤ n)

abbrev pub plain : MouthKind
plain = kind-of.Plain

abbrev pub triangular : MouthKind
triangular = kind-of.Triangular

abbrev pub broad : MouthKind
broad = kind-of.Broad

abbrev pub is_triangular : MouthKind → Bool
is_triangular kind-of.Plain = false
is_triangular kind-of.Triangular = true
is_triangular kind-of.Broad = false

abbrev pub is_broad : MouthKind → Bool
is_broad kind-of.Plain = false
is_broad kind-of.Triangular = false
is_broad kind-of.Broad = true

-- what is measured of mouth m and ramp a
pub record Measured (C : Context) (m a : ℕ) (measures : Measures) : Type 0 where
  pub broad : measures.broad ≡ broad_mouth C m a
  pub nearby : measures.nearby ≡ nearby_representative C m a
  pub overlay : measures.overlay ≡ overlay_representative C m a

module _ (C : Context) where
  -- of mouth m and ramp a; inner are the regions that the mouth's pairs name, but for the one outside
  unfoldable pub proposal_of : ℕ → ℕ → Option ℕ → MouthKind → MouthProposal
  unfolding inner_of separation_of
  proposal_of m a outer kind =
      record {
        mouth_index = m;
        ramp_index = a;
        outer = to_list outer;
        inner = inner_of outer (C.pairs m);
        is_triangle = is_triangular kind;
        two_port_broad_approach = is_broad kind;
        separation = separation_of C m a;
      }

  abbrev pub candidate_form : ℕ → ℕ → Option Mouth → Option MouthProposal
  candidate_form m a None = None
  candidate_form m a (Some p) = Some (proposal_of m a p.outer p.kind)

  -- `mouth_proposal` of RampMouths.antt, but for `is_local`
  unfoldable pub found_mouth : ℕ → ℕ → Option MouthProposal
  unfolding full_cut broad_mouth nearby_representative overlay_representative triangle_or triangle shaped_mouth full_pair mouth_shape
  found_mouth a m =
      cond (not (no_ramp C a) && full_cut C a && no_ramp C m && (broad_mouth C m a || nearby_representative C m a || overlay_representative C m a))
      (triangle_or C (triangle C m a) m a (shaped_mouth C m a (full_pair C a) (mouth_shape (full_cut C m) (C.pairs m)))) None

  -- `mouth_proposal`, but for `corners_near_lem`
  unfoldable pub mouth_candidate : ℕ → ℕ → Option MouthProposal
  unfolding lt max_mouth_distance found_mouth
  mouth_candidate a m = retain (λ p. not (lt max_mouth_distance p.separation)) (found_mouth a m)

  -- ---- `approach_fits` and `two_port_broad` of a mouth of one pair and of a star, as the code asks them

  unfoldable pub single_fits : ℕ → ℕ → ℕ → ℕ → Bool
  unfolding overlay_only incident_count other_end_incident
  single_fits m a outer r = not (C.anchored r) && (not (overlay_only C m a && (C.anchored outer || not (eqb (incident_count C r) 2))) && not (other_end_incident C a r))

  unfoldable pub star_fits : ℕ → ℕ → ℕ → ℕ → Bool
  unfolding overlay_only incident_count all other_end_incident
  star_fits m a outer r =
      not (overlay_only C m a)
      && (eqb (incident_count C r) 2
      && (all (λ s. eqb s outer || not (C.anchored s) && (eqb s r || eqb (incident_count C s) 1)) (regions_of (C.pairs m)) && not (other_end_incident C a r)))

  unfoldable pub approach_mouth : ℕ → ℕ → Option Approach → Option MouthProposal
  unfolding single_fits star_fits proposal_of
  approach_mouth m a None = None
  approach_mouth m a (Some (approach.Single s)) =
      only_if (single_fits m a s.outer s.approach) (proposal_of m a (Some s.outer) (cond ((broad_mouth C m a || overlay_only C m a) && eqb (incident_count C s.approach) 2) broad plain))
  approach_mouth m a (Some (approach.Star s)) =
      only_if (star_fits m a s.outer s.approach) (proposal_of m a (Some s.outer) (cond (broad_mouth C m a) broad plain))
