-- Bytes put one behind the other (`Appends`). Assumes nothing.
use Prim.Native.Nat.{ℕ, ◌≤◌}
use native.Mathlib.Omega.{arith}
use mathlib.Core.Path.{◌∙◌}
use mathlib.Core.List.{List, [], ◌∷◌, ◌++◌, append_assoc}
use lib.ListN.{length}
use Rattle.definitions.specs.Rows.{Row}
use Rattle.definitions.specs.Printed.{text, decimal, row_line}
use Rattle.laws.specs.ListLaws.Overwritten.{sets_overwrite}
use Rattle.byte_writer.specs.declared.Writer.{Writer}
use Rattle.byte_writer.specs.Contract.{Put, Appends}
use Rattle.byte_writer.specs.Chains.{appends_then}
use Rattle.printed.specs.Contract.{Printed}

-- two lists at once
put_both : {old new new' : Writer} {v : List ℕ} (w x : List ℕ) → Appends old v new → Appends new (w ++ x) new' → Appends old (v ++ w ++ x) new'
put_both {v = v} w x P Q = rw (append_assoc v w x) (appends_then P Q)

pub printed : {old new bytes : List ℕ} {answer : ℕ} → answer ≤ length old → Put old 0 bytes new answer → Printed bytes old new answer
printed {old} {bytes = bytes} h P =
    let e : length bytes ≤ length old = omega (arith, P.next_is) in
    record { stored = P.stored ∙ sets_overwrite old bytes e; length_is = omega (arith, P.next_is) }

-- ---- lines

module _ {w₀ w₁ w₂ w₃ w₄ : Writer} where
  pub line-put : (first second : List ℕ) (m n : ℕ) → Appends w₀ first w₁ → Appends w₁ (decimal m) w₂ → Appends w₂ second w₃ → Appends w₃ (decimal n ++ (10 ∷ [])) w₄
      → Appends w₀ (first ++ decimal m ++ second ++ decimal n ++ text "\n") w₄
  unfolding text
  line-put first second m n P Q R S = put_both (decimal n) (10 ∷ []) (appends_then (appends_then P Q) R) S

  pub row_put : {w₅ : Writer} (r : Row) → Appends w₀ (decimal r.number ++ (32 ∷ [])) w₁ → Appends w₁ (decimal r.line.a.x ++ (32 ∷ [])) w₂
      → Appends w₂ (decimal r.line.a.y ++ (32 ∷ [])) w₃ → Appends w₃ (decimal r.line.b.x ++ (32 ∷ [])) w₄ → Appends w₄ (decimal r.line.b.y ++ (10 ∷ [])) w₅
      → Appends w₀ (row_line r) w₅
  unfolding row_line text
  row_put r P Q R S T =
      put_both (decimal r.line.b.y) (10 ∷ [])
      (put_both (decimal r.line.b.x) (32 ∷ []) (put_both (decimal r.line.a.y) (32 ∷ []) (put_both (decimal r.line.a.x) (32 ∷ []) P Q) R) S) T
