-- The line put into the output from its newest record on: what is written so far stands at the front, the records that are left make up the rest of the line,
-- and beyond what is written the output is as it was. Assumes nothing.
use Prim.Native.Nat.{ℕ, suc, ◌+◌, ◌-◌, ◌*◌, ◌≤◌, ◌<◌}
use native.Mathlib.Omega.{arith}
use mathlib.Core.Path.{◌≡◌, refl, sym, ap, subst, ◌∙◌}
use mathlib.Core.Bool.{Bool, true, false, true≢false, false≢true}
use mathlib.Core.List.{List, [], ◌++◌, append-nil, append_assoc}
use lib.ListN.{length, drop, length-append, length-drop}
use lib.Seq.{sets}
use Rattle.definitions.specs.Lists.{overwrite}
use Rattle.definitions.specs.Scan.{count_below, bit, collect, concat_map}
use Rattle.laws.specs.ListLaws.Overwritten.{overwrite_more}
use Rattle.catalogue.specs.Accession.{Accession, numbers_per_accession, flat_accession, accession_at, accession_count}
use Rattle.catalogue.specs.Line.{reversed, flat_line}
use Rattle.catalogue.specs.AccessionLaws.Newest.{one, newest_first, newest_next, newest-length, flat_line-append, flat_line-length}
use Rattle.catalogue.specs.AccessionLaws.MapLine.{is_of_map, map_line}

-- a record that is put, and one that is not
module _ (l : List ℕ) (i : ℕ) (out : List ℕ) (k : ℕ) where
  pub put_one :
      (b : Bool) → b ≡ true
      → (k + 4 ≡ k + numbers_per_accession * bit b) × (sets out k (flat_accession (accession_at l i)) ≡ sets out k (flat_line (one b l i)))
  unfolding flat_line concat_map
  put_one true e = (omega arith, refl)
  put_one false e = absurd (false≢true e)

  pub put_none : (b : Bool) → b ≡ false → (k ≡ k + numbers_per_accession * bit b) × (out ≡ sets out k (flat_line (one b l i)))
  unfolding flat_line concat_map
  put_none true e = absurd (true≢false e)
  put_none false e = (omega arith, refl)

module _ (l : List ℕ) (number : ℕ) (old : List ℕ) where
  abbrev p : ℕ → Bool
  p = is_of_map l number

  pub record Putting (out : List ℕ) (i k : ℕ) : Type 0 where
    pub done : List Accession
    pub within : i ≤ accession_count l
    pub whole : done ++ newest_first l p i ≡ map_line l number
    pub placed : k ≡ numbers_per_accession * length done
    pub written : out ≡ overwrite (flat_line done) old

  pub putting_none : Putting old (accession_count l - 0) 0
  unfolding map_line flat_line
  putting_none =
      let all : accession_count l ≡ accession_count l - 0 = omega arith in
      subst (λ i. Putting old i 0) all (record { done = []; within = omega arith; whole = refl; placed = refl; written = refl })

  module _ (fits : numbers_per_accession * count_below (accession_count l) p ≤ length old) where
    -- how much is written and left
    counted : (done : List Accession) (i : ℕ) → done ++ newest_first l p i ≡ map_line l number → length done + count_below i p ≡ count_below (accession_count l) p
    unfolding map_line
    counted done i e =
        omega (arith, length-append done (newest_first l p i), newest-length l p i, newest-length l p (accession_count l), ap length e)

    pub putting-long : {out : List ℕ} {i k : ℕ} → Putting out i k → length out ≡ length old
    putting-long {i = i} P =
        let D = flat_line P.done in
        ap length P.written
        ∙ omega (arith, length-append D (drop (length D) old), length-drop (length D) old, flat_line-length P.done, counted P.done i P.whole)

    pub putting-room : {out : List ℕ} {i k : ℕ} → Putting out (suc i) k → p i ≡ true → k + 3 < length out
    unfolding count_below
    putting-room {i = i} P e =
        omega (arith, putting-long P, P.placed, counted P.done (suc i) P.whole, ap (λ b. count_below i p + bit b) e)

    putting-suc : {out : List ℕ} {i k : ℕ} → Putting out (suc i) k → Putting (sets out k (flat_line (one (p i) l i))) i (k + numbers_per_accession * bit (p i))
    unfolding count_below
    putting-suc {out} {i} {k} P =
        let D = P.done in
        let x = one (p i) l i in
        let at : k ≡ length (flat_line D) = omega (arith, P.placed, flat_line-length D) in
        record {
          done = D ++ x;
          within = omega (arith, P.within);
          whole = append_assoc D x (newest_first l p i) ∙ ap (λ r. D ++ r) (sym (newest_next l p i)) ∙ P.whole;
          placed = omega (arith, P.placed, length-append D x, one_length (p i));
          written = ap (λ o. sets o k (flat_line x)) P.written ∙ ap (λ n. sets (overwrite (flat_line D) old) n (flat_line x)) at
              ∙ overwrite_more (flat_line D) (flat_line x) old
              (omega (arith, flat_line-length D, flat_line-length x, one_length (p i), counted D (suc i) P.whole))
              ∙ ap (λ f. overwrite f old) (sym (flat_line-append D x));
        }
      where
        one_length : (b : Bool) → length (one b l i) ≡ bit b
        one_length true = refl
        one_length false = refl

    -- the same for a walk that stands at i, which is above 0
    back : {out : List ℕ} (i : ℕ) {k : ℕ} → 0 < i → Putting out i k → Putting out (suc (i - 1)) k
    back {out} i {k} h P =
        let e : i ≡ suc (i - 1) = omega arith in
        subst (λ n. Putting out n k) e P

    pub room-before : {out : List ℕ} (i : ℕ) {k : ℕ} → 0 < i → Putting out i k → p (i - 1) ≡ true → k + 3 < length out
    room-before i h P e = putting-room (back i h P) e

    pub putting_next : {out out' : List ℕ} (i : ℕ) {k k' : ℕ} → 0 < i → Putting out i k → out' ≡ sets out k (flat_line (one (p (i - 1)) l (i - 1)))
        → k' ≡ k + numbers_per_accession * bit (p (i - 1)) → Putting out' (i - 1) k'
    putting_next i h P e f = rw (e, f) (putting-suc (back i h P))

    pub putting-done : {out : List ℕ} {i k : ℕ} → Putting out i k → i ≤ 0 → out ≡ overwrite (flat_line (map_line l number)) old
    unfolding newest_first collect reversed
    putting-done {i = i} P h =
        let e : i ≡ 0 = omega arith in
        P.written ∙ ap (λ D. overwrite (flat_line D) old) (sym (append-nil P.done) ∙ ap (λ n. P.done ++ newest_first l p n) (sym e) ∙ P.whole)
