-- Records emptied from the front: the first k are one that is empty and the others as they were (`emptied`); and the records of a map put over records that
-- were emptied (`renewed`). Assumes nothing.
use Prim.Native.Nat.{ℕ, ◌+◌, ◌-◌, ◌≤◌}
use native.Mathlib.Omega.{arith}
use mathlib.Core.Path.{◌≡◌, sym, ap, ap₂, ◌∙◌}
use mathlib.Core.List.{List, ◌++◌, map, map-append}
use lib.ListN.{length, take, drop, replicate, length-replicate}
use lib.Seq.{drop_at, drop-drop, length-take-le}
use Rattle.definitions.specs.Grid.{Map}
use Rattle.definitions.specs.Partition.{region_count}
use Rattle.definitions.specs.RegionRecord.{empty_region}
use Rattle.definitions.specs.Context.{context_of}
use Rattle.definitions.specs.AtExit.{records_of}
use Rattle.definitions.specs.Lists.{overwrite}
use Rattle.context.specs.declared.Region.{Region}
use Rattle.context.specs.Records.{record_of}
use Rattle.topology.specs.Filled.{Filled, Emptied, Renewed}
use Rattle.topology.proofs.Answered.{map-replicate}
use Rattle.topology.proofs.Filling.{map-drop}

-- the first k records have become one that is empty
pub emptied : (empty : Region) (k : ℕ) (was : List Region) {front : List Region} → k ≤ length was → front ≡ replicate (length (take k was)) empty → record_of empty ≡ empty_region
    → Emptied k was (front ++ drop k was)
emptied empty k was {front} h e r =
    let put : front ≡ replicate k empty = e ∙ ap (λ n. replicate n empty) (length-take-le k was h) in
    rw put (record {
      records =
          map-append record_of (replicate k empty) (drop k was)
          ∙ ap₂ ◌++◌ (map-replicate record_of k empty ∙ ap (replicate k) r) (sym (map-drop record_of k was))
          ∙ ap (λ m. replicate k empty_region ++ drop m (map record_of was)) (sym (length-replicate k empty_region));
      beyond = drop_at (replicate k empty) (drop k was) k (length-replicate k empty);
    })

-- ---- filled again

pub drop_more : {A : Type 0} (k n : ℕ) (l l' : List A) → drop k l ≡ drop k l' → k ≤ n → drop n l ≡ drop n l'
drop_more k n l l' e h =
    let s : k + (n - k) ≡ n = omega arith in
    ap (λ m. drop m l) (sym s) ∙ sym (drop-drop (n - k) k l) ∙ ap (drop (n - k)) e ∙ drop-drop (n - k) k l' ∙ ap (λ m. drop m l') s

pub renewed : {M : Map} {first : ℕ} {was empty rs : List Region} → Emptied first was empty → Filled M empty rs → Renewed M first was rs
renewed {M} {first} {was} {empty} {rs} E F = record {
  records = F.records ∙ ap (overwrite (records_of (context_of M))) E.records;
  beyond = λ n h l. drop_more (region_count M) n rs empty F.beyond l ∙ drop_more first n empty was E.beyond h;
}
