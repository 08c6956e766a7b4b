-- The call that was lent what the program lends for a sheet. Assumes nothing.
use Prim.Native.Nat.{ℕ}
use mathlib.Core.Path.{◌≡◌, subst}
use mathlib.Core.List.{List}
use lib.ListN.{replicate}
use Rattle.definitions.specs.RegionRecord.{Region, empty_region}
use Rattle.definitions.specs.Verdict.{Lent, Answer}
use Rattle.definitions.specs.Printed.{lent_for}
use Rattle.call_partition.specs.Contract.{given, Ran}
use Rattle.std.specs.Prelude.{Result, Ok}
use Rattle.refusals.specs.declared.Refusal.{Refusal}
use Rattle.sheet_answer.specs.declared.runs.SheetRun.{SheetRun}
use Rattle.sheet_answer.specs.Contract.{sheet_from, SheetCalled}

-- what is lent for a sheet of these parts, as lists of zeros, with this output
abbrev lent : ℕ → ℕ → ℕ → List ℕ → List ℕ → List ℕ → List ℕ → List ℕ → Lent
lent pass w h cells spans boundaries anchors output =
    given pass w h cells spans boundaries anchors (replicate 4096 0) (replicate 4096 0) (replicate 4096 0) (replicate 512 0) (replicate 6144 0) (replicate 512 empty_region) output

pub called : {pass w h : ℕ} {cells spans boundaries anchors output l m q t p : List ℕ} {s : List Region} {o : List ℕ} {a : Answer} → output ≡ replicate 1280 0
    → Ran (lent pass w h cells spans boundaries anchors output) a l m q t p s o → SheetCalled (sheet_from pass w h cells spans boundaries anchors) a o
unfolding lent_for
called {pass} {w} {h} {cells} {spans} {boundaries} {anchors} {l = l} {m} {q} {t} {p} {s} {o} {a} e R =
    let S = subst (λ x. Ran (lent pass w h cells spans boundaries anchors x) a l m q t p s o) e R in
    record { answer = S.answer; output_left = S.output }

pub same_run : {a b : SheetRun} → ◌≡◌ {A = Result SheetRun Refusal} (Ok a) (Ok b) → a ≡ b
same_run e = cc e
