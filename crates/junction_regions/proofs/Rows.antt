-- What `is_allowed` reads of a row and of the lists is what the context says. Assumes nothing.
use Prim.Native.Nat.{ℕ, ◌+◌, ◌*◌}
use mathlib.Core.Path.{◌≡◌, sym, ap, ap₂, ◌∙◌}
use mathlib.Core.Bool.{Bool, true, false}
use mathlib.Core.List.{List}
use lib.Dec.{eqb}
use Rattle.definitions.specs.Limits.{numbers_per_boundary}
use Rattle.definitions.specs.Scan.{bit}
use Rattle.definitions.specs.Grid.{Segment, segment_at}
use Rattle.definitions.specs.Junctions.{Proposal, union_regions}
use Rattle.definitions.specs.Context.{Context}
use Rattle.context.specs.declared.Region.{Region}
use Rattle.context.specs.Records.{record_of}
use Rattle.junction_proposals.specs.declared.proposals.Candidate.{Candidate}
use Rattle.junction_proposals.specs.Unions.{mark_at}
use Rattle.junction_proposals.specs.Rows.{form, is_allowed, bridge_region}
use Rattle.junction_regions.specs.Tests.{is_local, union_of, bridge_of}
use Rattle.junction_regions.specs.Asked.{Asked}

module _ {C : Context} {boundaries marks : List ℕ} {given : Candidate} {first second : Region} (h : Asked C boundaries marks given first second) where
  abbrev row : Proposal
  row = form given

  -- s is what stands in the list as its boundary
  pub ends-are : {s : Segment} → s ≡ segment_at boundaries (numbers_per_boundary * row.index) → s ≡ (C.boundary row.index).endpoints
  ends-are e = e ∙ sym (ap (λ b. b.endpoints) (h.told.bounds.at row.index h.fits.index_in))

  module _ {s : Segment} (ends : s ≡ (C.boundary row.index).endpoints) where
    pub allowed-bridge : {r : Bool} → eqb row.kind 0 ≡ false → r ≡ bridge_of (record_of first) s → r ≡ is_allowed C row
    unfolding is_allowed bridge_region bridge_of
    allowed-bridge n e = e ∙ ap₂ bridge_of h.first_is ends ∙ rw n

    -- n counts the anchored regions
    pub allowed-union : {r one : Bool} → eqb row.kind 0 ≡ true → one ≡ eqb (bit (mark_at marks row.first) + bit (mark_at marks row.second)) 1
        → r ≡ union_of (record_of first) (record_of second) s one → r ≡ is_allowed C row
    unfolding is_allowed union_regions union_of is_local
    allowed-union {one = one} z m e =
        e ∙ (λ i. union_of (h.first_is i) (h.second_is i) (ends i) (anchored i)) ∙ rw z
      where
        anchored : one ≡ eqb (bit (C.anchored row.first) + bit (C.anchored row.second)) 1
        anchored =
            m
            ∙ ap₂ (λ a b. eqb (bit a + bit b) 1) (sym (h.told.anchored.at row.first h.fits.first_from h.fits.first_to))
            (sym (h.told.anchored.at row.second h.fits.second_from h.fits.second_to))
