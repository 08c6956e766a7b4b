-- A record copied from the list to the output (`record_copied`). Assumes nothing.
use Prim.Native.Nat.{ℕ, suc, ◌+◌, ◌-◌, ◌*◌, ◌≤◌, ◌<◌}
use native.Mathlib.Omega.{arith}
use mathlib.Core.Path.{◌≡◌, ap, ◌∙◌}
use mathlib.Core.List.{List, [], ◌∷◌}
use lib.ListN.{length, get_or, take, drop}
use lib.Seq.{sets, drop-cons}
use borrow.Rule.Slice.PartMut.{put_mid}
use Rattle.catalogue.specs.Accession.{flat_accession, accession_at, accession_count}
use Rattle.catalogue.proofs.Copying.{put_four}

-- the four numbers from k on
four_from : (l : List ℕ) (k : ℕ) → k + 4 ≤ length l → take 4 (drop k l) ≡ get_or l k 0 ∷ get_or l (k + 1) 0 ∷ get_or l (k + 2) 0 ∷ get_or l (k + 3) 0 ∷ []
four_from l k h =
    let one : suc k ≡ k + 1 = omega arith in
    let two : suc (suc k) ≡ k + 2 = omega arith in
    let three : suc (suc (suc k)) ≡ k + 3 = omega arith in
    ap (take 4)
    (drop-cons l k 0 (omega arith)
    ∙ ap (λ t. get_or l k 0 ∷ t)
    (drop-cons l (suc k) 0 (omega arith)
    ∙ ap (λ t. get_or l (suc k) 0 ∷ t)
    (drop-cons l (suc (suc k)) 0 (omega arith)
    ∙ ap (λ t. get_or l (suc (suc k)) 0 ∷ t) (drop-cons l (suc (suc (suc k))) 0 (omega arith)))))
    ∙ (λ t. get_or l k 0 ∷ get_or l (one t) 0 ∷ get_or l (two t) 0 ∷ get_or l (three t) 0 ∷ [])

pub record_copied : (l : List ℕ) (i : ℕ) (old : List ℕ) (k : ℕ) {part : List ℕ} → i < accession_count l → k + 4 ≤ length old
    → part ≡ take 4 (drop (4 * i) l) → put_mid k (k + 4 - k) old part ≡ sets old k (flat_accession (accession_at l i))
unfolding accession_at
record_copied l i old k h room e =
    put_four old k _ _ _ _ room (e ∙ four_from l (4 * i) (omega arith))
