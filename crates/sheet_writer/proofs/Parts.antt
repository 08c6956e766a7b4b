-- The parts of a sheet of kind 3, one behind the other: how long they are together, what they take from a room, and their bytes put. Assumes nothing.
use Prim.Native.Nat.{ℕ, ◌+◌}
use mathlib.Core.Path.{◌≡◌, refl, sym, ap, ◌∙◌}
use mathlib.Core.List.{List, ◌++◌, append-nil}
use lib.ListN.{length, length-append}
use Rattle.definitions.specs.Limits.{numbers_per_boundary, numbers_per_anchor}
use Rattle.definitions.specs.Scan.{concat_map}
use Rattle.results.specs.Shortest.{shortest, list_bytes}
use Rattle.map_sheets.specs.SheetBytes.{sheet_bytes}
use Rattle.map_sheets.specs.Writing.{stating}
use Rattle.byte_writer.specs.declared.Writer.{Writer}
use Rattle.byte_writer.specs.Contract.{Appends}
use Rattle.byte_writer.specs.Chains.{appends_then}
use Rattle.result_writer.specs.Contract.{spent}
use Rattle.std.specs.Prelude.{Option, map}
use Rattle.result_writer.proofs.Mapped.{themselves}
use Rattle.result_writer.proofs.Spending.{spent-then}
use Rattle.sheet_writer.specs.Contract.{opening}

-- ---- the opening

pub opening-length : (pass width height : ℕ)
    → length (opening pass width height) ≡ length (shortest 3) + length (shortest pass) + length (shortest width) + length (shortest height)
unfolding opening
opening-length pass width height = four (shortest 3) (shortest pass) (shortest width) (shortest height)
  where
    four : (a b c d : List ℕ) → length (a ++ b ++ c ++ d) ≡ length a + length b + length c + length d
    four a b c d = simp length-append refl

pub opening-put : (pass width height : ℕ) {o a b c d : Writer} → Appends o (shortest 3) a → Appends a (shortest pass) b
    → Appends b (shortest width) c → Appends c (shortest height) d → Appends o (opening pass width height) d
unfolding opening
opening-put pass width height p q s t = appends_then (appends_then (appends_then p q) s) t

-- ---- the sheet, which holds no spans

module _ (pass width height : ℕ) (cells boundaries anchors : List ℕ) where
  parts : List ℕ
  parts = opening pass width height ++ concat_map shortest (map (λ n. n) cells) ++ list_bytes numbers_per_boundary boundaries ++ list_bytes numbers_per_anchor anchors

  in_parts : sheet_bytes 3 (stating pass width height cells boundaries anchors) ≡ parts
  unfolding parts sheet_bytes stating opening
  in_parts =
      ap (λ l. l ++ list_bytes numbers_per_boundary boundaries ++ list_bytes numbers_per_anchor anchors) (append-nil (opening pass width height ++ concat_map shortest cells))
      ∙ ap (λ l. opening pass width height ++ concat_map shortest l ++ list_bytes numbers_per_boundary boundaries ++ list_bytes numbers_per_anchor anchors) (sym (themselves cells))

  pub sheet-length : length (sheet_bytes 3 (stating pass width height cells boundaries anchors))
      ≡ length (opening pass width height) + length (concat_map shortest (map (λ n. n) cells)) + length (list_bytes numbers_per_boundary boundaries) + length (list_bytes numbers_per_anchor anchors)
  unfolding parts
  sheet-length = ap length in_parts ∙ four (opening pass width height) (concat_map shortest (map (λ n. n) cells)) (list_bytes numbers_per_boundary boundaries) (list_bytes numbers_per_anchor anchors)
    where
      four : (a b c d : List ℕ) → length (a ++ b ++ c ++ d) ≡ length a + length b + length c + length d
      four a b c d = simp length-append refl

  pub sheet-put : {o a b c d : Writer} → Appends o (opening pass width height) a → Appends a (concat_map shortest (map (λ n. n) cells)) b
      → Appends b (list_bytes numbers_per_boundary boundaries) c → Appends c (list_bytes numbers_per_anchor anchors) d
      → Appends o (sheet_bytes 3 (stating pass width height cells boundaries anchors)) d
  unfolding parts
  sheet-put {o} {d = d} p q s t =
      let all : Appends o parts d = appends_then (appends_then (appends_then p q) s) t in
      rw in_parts all

  pub sheet-spent : (room : Option ℕ) {a b c d e f g : Option ℕ} → a ≡ spent room (length (shortest 3)) → b ≡ spent a (length (shortest pass))
      → c ≡ spent b (length (shortest width)) → d ≡ spent c (length (shortest height)) → e ≡ spent d (length (concat_map shortest (map (λ n. n) cells)))
      → f ≡ spent e (length (list_bytes numbers_per_boundary boundaries)) → g ≡ spent f (length (list_bytes numbers_per_anchor anchors))
      → g ≡ spent room (length (sheet_bytes 3 (stating pass width height cells boundaries anchors)))
  sheet-spent room u v w x y z t =
      let kind : ℕ = length (shortest 3) in
      let first : ℕ = length (shortest pass) in
      let wide : ℕ = length (shortest width) in
      let high : ℕ = length (shortest height) in
      let inner : ℕ = length (concat_map shortest (map (λ n. n) cells)) in
      let lines : ℕ = length (list_bytes numbers_per_boundary boundaries) in
      let points : ℕ = length (list_bytes numbers_per_anchor anchors) in
      let two = spent-then room kind first u v in
      let three = spent-then room (kind + first) wide two w in
      let four = spent-then room (kind + first + wide) high three x in
      let opened = four ∙ ap (spent room) (sym (opening-length pass width height)) in
      let long : ℕ = length (opening pass width height) in
      let five = spent-then room long inner opened y in
      let six = spent-then room (long + inner) lines five z in
      spent-then room (long + inner + lines) points six t ∙ ap (spent room) (sym sheet-length)
