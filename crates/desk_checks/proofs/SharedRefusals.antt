-- What `prepare_lists` answers with no boundaries and no anchors is the shared refusal, whose number is not 0. Assumes nothing.
use Prim.Native.Nat.{ℕ}
use native.Mathlib.Omega.{arith}
use mathlib.Core.Path.{refl, ◌∙◌}
use Rattle.std.specs.Prelude.{Result, Ok, Err}
use mathlib.Core.List.{List, []}
use Rattle.definitions.specs.RegionRecord.{Region}
use Rattle.refusals.specs.declared.Refusal.{Refusal}
use Rattle.refusals.specs.Refusals.{number_of}
use Rattle.refusals.proofs.Steps.{positive}
use Rattle.call_partition.specs.declared.Ready.{Ready}
use Rattle.call_partition.specs.Contract.{Ran}
use Rattle.call_partition.specs.Prepared.{PreparedAs}
use Rattle.desks.specs.Desks.{Shared, terrain, shared_refusal}
use Rattle.desks.proofs.SharedCalls.{shared_as_call, refused_is}
use Rattle.desk_checks.specs.AloneCalls.{terrain-left}
use Rattle.desk_checks.specs.Shared.{lent_both, RefusedBoth, SharedAs}

-- the call with no boundaries and no anchors came back with it
refused-both : (S : Shared) (r : Refusal) {l m q t p : List ℕ} {s : List Region} {o : List ℕ} → Ran (terrain S) (record { number = number_of r.cause; value = r.place }) l m q t p s o → RefusedBoth S (number_of r.cause) r.place l m q t p s
refused-both S r R =
    record { refused = refused_is (shared_refusal S) (number_of r.cause) r.place (R.answer ∙ shared_as_call S) (λ z. omega (arith, z, positive r.cause)); left = terrain-left R }

-- what the call with no boundaries and no anchors leaves before its records, of pass 1
pub shared-as : (w h : ℕ) (cells spans : List ℕ) (room : ℕ) (l m q t p : List ℕ) (r : Result Ready Refusal) (l' m' q' t' p' : List ℕ)
    → PreparedAs 1 w h cells spans [] [] room 0 l m q t p r l' m' q' t' p' → SharedAs w h cells spans room l m q t p r l' m' q' t' p'
shared-as w h cells spans room l m q t p (Err r) l' m' q' t' p' P = λ s long. refused-both (lent_both w h cells spans l m q t p s) r (P s [] long refl)
shared-as w h cells spans room l m q t p (Ok ready) l' m' q' t' p' P = P
