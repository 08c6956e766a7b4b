-- Checks 1 to 4 as 1 to 3 with 4 behind them, and what holds where 1 to 3 refuse nothing. Assumes nothing.
use Prim.Native.Nat.{ℕ, ◌*◌, ◌≤◌}
use mathlib.Core.Path.{◌≡◌, refl, sym, ap, ap₂, ◌∙◌}
use mathlib.Core.Bool.{true, ◌&&◌}
use Rattle.std.specs.Prelude.{Option, None, Some}
use mathlib.Core.List.{List}
use lib.ListN.{length}
use lib.Dec.{leb}
use borrow.Author.Tests.{eqb-true, leb-true, le-leb}
use Rattle.definitions.specs.Limits.{max_side, is_side, numbers_per_span, numbers_per_boundary, numbers_per_anchor}
use Rattle.definitions.specs.Refusals.{or_else, unless, sides_fault, cells_fault, is_whole, pass_fault}
use Rattle.definitions.specs.Verdict.{refusal}
use Rattle.laws.specs.ListLaws.Tests.{both}
use Rattle.laws.specs.ListLaws.NoFault.{no_fault_lem, or_else_none}
use Rattle.laws.specs.TableLaws.AcceptedCalls.{or_else-assoc, refusal_none}
use Rattle.laws.specs.FloatLaws.MapPixels.{side-bounds}
use Rattle.checks.specs.Passes.{IsPass}
use Rattle.call_partition.specs.Early.{whole_refusal, sizes_refusal, lists_refusal, early_refusal}

-- ---- checks 1 to 3, and 4 behind them

pub sizes-parts : (pass w h : ℕ) (cells spans boundaries anchors : List ℕ)
    → sizes_refusal pass w h cells spans boundaries anchors ≡ or_else (whole_refusal w h cells spans boundaries anchors) (refusal 4 (pass_fault pass))
unfolding sizes_refusal whole_refusal
sizes-parts pass w h cells spans boundaries anchors =
    let three = refusal 3 (unless (is_whole numbers_per_span spans && is_whole numbers_per_boundary boundaries && is_whole numbers_per_anchor anchors)) in
    sym (or_else-assoc (refusal 1 (sides_fault w h)) _ _ ∙ ap (or_else (refusal 1 (sides_fault w h))) (or_else-assoc (refusal 2 (cells_fault w h cells)) three _))

-- a pass that fits refuses nothing
pub pass-fits : (pass : ℕ) → IsPass pass → refusal 4 (pass_fault pass) ≡ None
pass-fits pass p = ap (λ b. refusal 4 (unless b)) (ap₂ (λ a b. a && b) (le-leb 1 pass p.0) (le-leb pass 3 p.1))

or_none : {A : Type 0} (a : Option A) → or_else a None ≡ a
or_none None = refl
or_none (Some x) = refl

pub sizes-of-pass : (pass w h : ℕ) (cells spans boundaries anchors : List ℕ) → IsPass pass
    → whole_refusal w h cells spans boundaries anchors ≡ sizes_refusal pass w h cells spans boundaries anchors
sizes-of-pass pass w h cells spans boundaries anchors p =
    sym (sizes-parts pass w h cells spans boundaries anchors ∙ ap (or_else (whole_refusal w h cells spans boundaries anchors)) (pass-fits pass p) ∙ or_none _)

-- all checks before a call begins: 1 to 3, 4, and 5 to 10
module _ (pass w h : ℕ) (cells spans boundaries anchors : List ℕ) (l m q t o : ℕ) where
  pub early-joined : early_refusal pass w h cells spans boundaries anchors l m q t o
      ≡ or_else (whole_refusal w h cells spans boundaries anchors) (or_else (refusal 4 (pass_fault pass)) (lists_refusal w h cells spans boundaries anchors l m q t o))
  unfolding early_refusal
  early-joined =
      ap (λ x. or_else x (lists_refusal w h cells spans boundaries anchors l m q t o)) (sizes-parts pass w h cells spans boundaries anchors)
      ∙ or_else-assoc (whole_refusal w h cells spans boundaries anchors) _ _

  -- of a pass that fits, 1 to 3 and 5 to 10
  pub early-of-pass : IsPass pass → or_else (whole_refusal w h cells spans boundaries anchors) (lists_refusal w h cells spans boundaries anchors l m q t o)
      ≡ early_refusal pass w h cells spans boundaries anchors l m q t o
  unfolding early_refusal
  early-of-pass p = ap (λ x. or_else x (lists_refusal w h cells spans boundaries anchors l m q t o)) (sizes-of-pass pass w h cells spans boundaries anchors p)

  -- where 1 to 4 refuse nothing, 5 to 10
  pub early-behind : sizes_refusal pass w h cells spans boundaries anchors ≡ None
      → lists_refusal w h cells spans boundaries anchors l m q t o ≡ early_refusal pass w h cells spans boundaries anchors l m q t o
  unfolding early_refusal
  early-behind e = sym (ap (λ x. or_else x (lists_refusal w h cells spans boundaries anchors l m q t o)) e)

-- a number that is let through is a pass's
pub is-pass : (pass : ℕ) → refusal 4 (pass_fault pass) ≡ None → IsPass pass
is-pass pass e =
    let b = both (leb 1 pass) (leb pass 3) (no_fault_lem _ 0 (refusal_none 4 _ e)) in
    (leb-true 1 pass b.0, leb-true pass 3 b.1)

-- ---- what holds where they refuse nothing

pub record WholeFit (w h : ℕ) (cells spans boundaries anchors : List ℕ) : Type 0 where
  pub wide : 1 ≤ w
  pub narrow : w ≤ max_side
  pub tall : 1 ≤ h
  pub short : h ≤ max_side
  pub counted : length cells ≡ w * h
  pub whole : (is_whole numbers_per_span spans && is_whole numbers_per_boundary boundaries && is_whole numbers_per_anchor anchors) ≡ true

pub whole-fit : {w h : ℕ} {cells spans boundaries anchors : List ℕ} → whole_refusal w h cells spans boundaries anchors ≡ None → WholeFit w h cells spans boundaries anchors
unfolding whole_refusal
whole-fit {w} {h} {cells} e =
    let one = or_else_none (refusal 1 (sides_fault w h)) _ e in
    let two = or_else_none (refusal 2 (cells_fault w h cells)) _ one.1 in
    let s = both (is_side w) (is_side h) (no_fault_lem _ 0 (refusal_none 1 _ one.0)) in
    record {
      wide = (side-bounds w s.0).0;
      narrow = (side-bounds w s.0).1;
      tall = (side-bounds h s.1).0;
      short = (side-bounds h s.1).1;
      counted = eqb-true (length cells) (w * h) (no_fault_lem _ 0 (refusal_none 2 _ two.0));
      whole = no_fault_lem _ 0 (refusal_none 3 _ two.1);
    }

-- so too where 1 to 4 refuse nothing
pub sizes-fit : (pass : ℕ) {w h : ℕ} {cells spans boundaries anchors : List ℕ} → sizes_refusal pass w h cells spans boundaries anchors ≡ None → WholeFit w h cells spans boundaries anchors
sizes-fit pass {w} {h} {cells} {spans} {boundaries} {anchors} e =
    whole-fit (or_else_none (whole_refusal w h cells spans boundaries anchors) _ (sym (sizes-parts pass w h cells spans boundaries anchors) ∙ e)).0
