-- `apart::apart_terms_by` meets its contract. The invariant: the first `apart` terms are apart. The measure: more are known to be apart, or fewer are left to ask about. Assumes
-- nothing.
use Prim.Native.Nat.{◌-◌, ◌≤◌}
use mathlib.Core.Path.{◌≡◌}
use lib.ListN.{length}
use Rattle.catalogue.specs.Terms.{term_count}
use Rattle.pool_faults.specs.Apart.{ApartTo}
use Rattle.pool_faults.proofs.apart.apart_terms_by.Given as goal

abbrev pub invariant-loop-apart : goal.invariant-loop-apart
invariant-loop-apart l =
    (l.apart ≤ term_count l.terms) × (l.high ≤ term_count l.terms) × (length l.maps ≡ length l.initial.maps) × (length l.keys ≡ length l.initial.keys) × ApartTo l.terms l.apart

abbrev pub decreases-loop-apart : goal.decreases-loop-apart
decreases-loop-apart l = l.high - l.apart
