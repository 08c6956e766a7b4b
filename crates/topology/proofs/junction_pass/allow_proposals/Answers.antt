-- A turn reads the row's two regions from the records, which are those of the context's regions, so the function that judges a row by two records judges it by
-- the context.
use Rattle.std.proofs.Common.{◌≡◌, ℕ, ◌+◌, ◌-◌, ◌≤◌, ◌<◌, Bool, List, length, get_or, set, refl, sym, ap, ◌∙◌, subst, length-set, arith}
use Rattle.definitions.specs.Context.{Context}
use Rattle.context.specs.declared.Region.{Region}
use Rattle.junction_proposals.specs.declared.proposals.Candidate.{Candidate}
use Rattle.junction_proposals.specs.Rows.{max_proposals, nothing, form, RowFits, is_allowed}
use Rattle.rest.specs.Picking.{get_d_inside}
use Rattle.junction_regions.specs.Asked.{Asked}
use Rattle.topology.specs.Held.{place_in}
use Rattle.topology.specs.Proposals.{Allows, Allowed}
use Rattle.topology.proofs.ProposalLoops.{asked, allowed_more}
use Rattle.topology.proofs.junction_pass.allow_proposals.Goals as goal

abbrev Inv : (records : List Region) (boundaries marks : List ℕ) (rows : List Candidate) (allowed : List Bool) (k : ℕ) → Type 0
Inv records boundaries marks rows allowed k =
    (k ≤ length rows) × (length allowed ≡ max_proposals)
    × ((C : Context) → Allows C records boundaries marks rows (length rows) → Allowed C rows k allowed)

start : {records : List Region} {boundaries marks : List ℕ} {rows : List Candidate} {allowed : List Bool}
    → length allowed ≡ max_proposals → Inv records boundaries marks rows allowed 0
start e = (omega arith, e, λ C h. record { long = e; at = λ k l. absurd (omega (arith, l)) })

-- what a turn asks, over plain variables
module _ {records : List Region} {boundaries marks : List ℕ} {rows : List Candidate} {allowed : List Bool} {k : ℕ}
    (pre : (C : Context) × Allows C records boundaries marks rows (length rows)) (inv : Inv records boundaries marks rows allowed k) where
  done : length rows ≤ k → (C : Context) → Allows C records boundaries marks rows (length rows) → Allowed C rows (length rows) allowed
  done f C h = let a = inv.2 C h in record { long = a.long; at = λ j l. a.at j (omega (arith, l, f)) }

  -- row k, as the loop has it
  module _ (l : k < length rows) where
    abbrev row : Candidate
    row = get_or rows k nothing

    fits : RowFits pre.0.count pre.0.regions (form row)
    fits = pre.1.fits k l

    first_in_lem : {i : ℕ} → i ≡ row.first - 1 → i < length records
    first_in_lem e = place_in pre.1.held e fits.first_from fits.first_to

    second_in_lem : {i : ℕ} → i ≡ row.second - 1 → i < length records
    second_in_lem e = place_in pre.1.held e fits.second_from fits.second_to

    module _ {i j : ℕ} {first second : Region} (p : i ≡ row.first - 1) (a : (d : Region) → first ≡ get_or records i d)
        (q : j ≡ row.second - 1) (b : (d : Region) → second ≡ get_or records j d) where
      asked_of : (C : Context) → Allows C records boundaries marks rows (length rows) → Asked C boundaries marks row first second
      asked_of C h = asked h l p a q b

      judged : (C : Context) × Asked C boundaries marks row first second
      judged = (_, asked_of pre.0 pre.1)

      again : {allowed' : List Bool} {r : Bool} → ((C : Context) → Asked C boundaries marks row first second → r ≡ is_allowed C (form row)) → allowed' ≡ set allowed k r
          → Inv records boundaries marks rows allowed' (k + 1)
      again {r = r} e stored = (
        omega (arith, l),
        ap length stored ∙ length-set allowed k r ∙ inv.1,
        λ C h.
            subst (λ m. Allowed C rows (k + 1) m) (sym stored)
            (allowed_more r (omega (arith, l, inv.1, h.few)) (inv.2 C h) (e C (asked_of C h))),
      )

pub loop-k-init : goal.loop-k-init
loop-k-init c = start c.requires.allowed_long

pub first_place-requires : goal.first_place-requires
first_place-requires c = (fits c.requires.rows_fit c.loop-k.invariant c.loop-k-test.true).first_from

pub bounds-records-first_place : goal.bounds-records-first_place
bounds-records-first_place c = first_in_lem c.requires.rows_fit c.loop-k.invariant c.loop-k-test.true c.first_place.ensures

pub second_place-requires : goal.second_place-requires
second_place-requires c = (fits c.requires.rows_fit c.loop-k.invariant c.loop-k-test.true).second_from

pub bounds-records-second_place : goal.bounds-records-second_place
bounds-records-second_place c = second_in_lem c.requires.rows_fit c.loop-k.invariant c.loop-k-test.true c.second_place.ensures

pub is_allowed-requires : goal.is_allowed-requires
is_allowed-requires c =
    judged c.requires.rows_fit c.loop-k.invariant c.loop-k-test.true c.first_place.ensures (λ d. get_d_inside _ _ d _ (first_in_lem c.requires.rows_fit c.loop-k.invariant c.loop-k-test.true c.first_place.ensures)) c.second_place.ensures (λ d. get_d_inside _ _ d _ (second_in_lem c.requires.rows_fit c.loop-k.invariant c.loop-k-test.true c.second_place.ensures))

pub bounds-allowed-k : goal.bounds-allowed-k
bounds-allowed-k c = omega (arith, c.requires.rows_fit.1.few, c.loop-k-test.true, c.loop-k.invariant.1)

pub loop-k-preserved : goal.loop-k-preserved
loop-k-preserved c =
    again c.requires.rows_fit c.loop-k.invariant c.loop-k-test.true c.first_place.ensures (λ d. get_d_inside _ _ d _ (first_in_lem c.requires.rows_fit c.loop-k.invariant c.loop-k-test.true c.first_place.ensures)) c.second_place.ensures (λ d. get_d_inside _ _ d _ (second_in_lem c.requires.rows_fit c.loop-k.invariant c.loop-k-test.true c.second_place.ensures))
    c.is_allowed.ensures refl

pub returns : goal.returns
returns c = done c.requires.rows_fit c.loop-k.invariant c.loop-k-test.false
