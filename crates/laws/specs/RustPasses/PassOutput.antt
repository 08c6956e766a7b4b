-- The last lines of each pass as the Rust writes them: nothing is removed where spans and boundaries differ in number, and the rest is put out in order. Two sets of removed
-- boundaries with the same members leave the same rows, so that it gives the definitions' rows. Assumes nothing.
use Rattle.std.specs.Prelude.{ℕ, ◌≡◌, Bool, true, false, not, cond, List, [], length, eqb}
use Rattle.std.proofs.Common.{ap, ◌∙◌}
use Rattle.std.proofs.Math.Path.{fun_ext}
use Rattle.definitions.specs.Scan.{member}
use Rattle.definitions.specs.Grid.{Map, span_count, boundary_of}
use Rattle.definitions.specs.Context.{context_of}
use Rattle.definitions.specs.Rows.{Row, rows_from, removed_by, removed_of, rows_of}
use Rattle.laws.specs.OrderLaws.ListOrder.{eqb_sym}
use Rattle.laws.specs.RustContext.CanonicalOutput.{canonical_output, output_is}

--     if ctx.partition.boundaries().len() != boundaries.len() {
--         return canonical_output(boundaries, &BTreeSet::new());
--     }
--     ..
--     canonical_output(boundaries, &removed)
unfoldable pub output_of : Map → List ℕ → List Row
output_of M removed =
    cond (not (eqb (span_count M) (length M.boundaries))) (canonical_output (length M.boundaries) (boundary_of M) [])
    (canonical_output (length M.boundaries) (boundary_of M) removed)

pub output-rows : (pass : ℕ) (M : Map) (removed : List ℕ) → ((i : ℕ) → member i removed ≡ member i (removed_by pass (context_of M))) → output_of M removed ≡ rows_of pass M
unfolding output_of rows_of removed_of
output-rows pass M removed same =
    ap (λ b. cond (not b) (canonical_output (length M.boundaries) (boundary_of M) []) (canonical_output (length M.boundaries) (boundary_of M) removed)) (eqb_sym (span_count M) (length M.boundaries))
    ∙ go (eqb (length M.boundaries) (span_count M))
  where
    go : (b : Bool) → cond (not b) (canonical_output (length M.boundaries) (boundary_of M) []) (canonical_output (length M.boundaries) (boundary_of M) removed) ≡ rows_from (length M.boundaries) (boundary_of M) (λ i. not (member i (cond b (removed_by pass (context_of M)) [])))
    go true = output_is (length M.boundaries) (boundary_of M) removed ∙ ap (rows_from (length M.boundaries) (boundary_of M)) (fun_ext (λ i. ap not (same i)))
    go false = output_is (length M.boundaries) (boundary_of M) []
