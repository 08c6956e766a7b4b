-- The rows while they are printed: the lines of those so far stand one behind the other. Assumes nothing.
use Prim.Native.Nat.{ℕ, suc, ◌+◌, ◌*◌, ◌≤◌, ◌<◌}
use native.Mathlib.Omega.{arith}
use native.Mathlib.Nat.{add-zero}
use mathlib.Core.Path.{◌≡◌, refl, sym, ap, subst, ◌∙◌}
use mathlib.Core.List.{List, [], ◌∷◌, ◌++◌, append-nil}
use lib.ListN.{length, take, get_or}
use lib.Seq.{take-suc}
use Rattle.definitions.specs.Scan.{concat_map}
use Rattle.definitions.specs.Printed.{row_line}
use Rattle.laws.specs.ListLaws.FlatRows.{row_at}
use Rattle.laws.specs.RustJunctions.JunctionsAsRust.{concat-append}
use Rattle.byte_writer.specs.declared.Writer.{Writer}
use Rattle.byte_writer.specs.Contract.{HasRoom, Appends}
use Rattle.byte_writer.specs.Chains.{appends_then, appends_long}
use Rattle.printed.specs.Contract.{row_room, row_lines}

-- one row more
lines_next : (rows : List (List ℕ)) (k : ℕ) (none : List ℕ) → k < length rows → row_lines (take (k + 1) rows) ≡ row_lines (take k rows) ++ row_line (row_at (get_or rows k none) 0)
unfolding concat_map
lines_next rows k none h =
    let next : k + 1 ≡ suc k = omega arith in
    ap (λ n. row_lines (take n rows)) next ∙ ap row_lines (take-suc rows k none h)
    ∙ concat-append (λ row. row_line (row_at row 0)) (take k rows) (get_or rows k none ∷ [])
    ∙ ap (λ l. row_lines (take k rows) ++ l) (append-nil (row_line (row_at (get_or rows k none) 0)))

pub record Listing (old : Writer) (rows : List (List ℕ)) (now : Writer) (k : ℕ) : Type 0 where
  pub next_few : now.at ≤ old.at + row_room * k
  pub put : Appends old (row_lines (take k rows)) now

pub listing_none : (old : Writer) (rows : List (List ℕ)) → Listing old rows old 0
unfolding concat_map
listing_none old rows = record { next_few = omega arith; put = record { put = record { stored = refl; next_is = sym (add-zero old.at) }; same = refl } }

module _ {old now : Writer} {rows : List (List ℕ)} {k : ℕ} (L : Listing old rows now k) where
  pub listing_room : HasRoom old (row_room * length rows) → k < length rows → HasRoom now row_room
  listing_room r h = omega (arith, r, h, L.next_few, appends_long L.put)

  pub listing_more : (none : List ℕ) → k < length rows → {now' : Writer} → Appends now (row_line (row_at (get_or rows k none) 0)) now' → now'.at ≤ now.at + row_room → Listing old rows now' (k + 1)
  listing_more none h {now'} A n =
      record {
        next_few = omega (arith, L.next_few, n);
        put = subst (λ l. Appends old l now') (sym (lines_next rows k none h)) (appends_then L.put A);
      }
