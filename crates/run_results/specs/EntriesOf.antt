-- The entries of a flat list (`entries_in` of results) are those that it was joined from, where each has the size of an entry; and entries whose keys rise break no
-- rule of ascent. Assumes nothing.
use Rattle.std.specs.Prelude.{ℕ, ◌*◌, ◌/◌, ◌≡◌, refl, List, ◌∷◌, ◌++◌, map, length, take, drop, None}
use Rattle.std.proofs.Common.{arith, sym, ap, ap₂, ◌∙◌, length-append}
use Rattle.std.proofs.Math.Seq.{take-append_seam, drop-append_seam}
use Rattle.definitions.specs.Scan.{concat_map}
use Rattle.definitions.specs.Sort.{list_lt}
use Rattle.laws.specs.ListLaws.Lists.{All, done, more}
use Rattle.results.specs.Result.{Entry, ascent_fault}
use Rattle.results.specs.ResultAnswers.{chunks, entries_in}
use Rattle.run_results.specs.Rises.{Rises}

-- an entry as the writer has it, at no place
abbrev pub unplaced : List ℕ → Entry
unplaced numbers = record { place = 0; numbers = numbers }

abbrev pub joined : List (List ℕ) → List ℕ
joined cs = concat_map (λ c. c) cs

pub joined_length : (size : ℕ) {cs : List (List ℕ)} → All (λ c. length c ≡ size) cs → length (joined cs) ≡ length cs * size
unfolding concat_map
joined_length size done = omega arith
joined_length size (more {x = c} {l = cs} h a) = omega (arith, length-append c (joined cs), h, joined_length size a)

chunks-joined : (size : ℕ) {cs : List (List ℕ)} → All (λ c. length c ≡ size) cs → chunks (length cs) size (joined cs) ≡ cs
unfolding chunks concat_map
chunks-joined size done = refl
chunks-joined size (more {x = c} {l = cs} h a) =
    ap₂ ◌∷◌ (ap (λ n. take n (c ++ joined cs)) (sym h) ∙ take-append_seam c (joined cs))
    (ap (chunks (length cs) size) (ap (λ n. drop n (c ++ joined cs)) (sym h) ∙ drop-append_seam c (joined cs)) ∙ chunks-joined size a)

pub entries-joined : (size : ℕ) {cs : List (List ℕ)} → All (λ c. length c ≡ size) cs → length (joined cs) / size ≡ length cs → entries_in size (joined cs) ≡ map unplaced cs
unfolding entries_in
entries-joined size {cs} a h = ap (map unplaced) (ap (λ n. chunks n size (joined cs)) h ∙ chunks-joined size a)

pub rises_ascent : (key : List ℕ → List ℕ) {cs : List (List ℕ)} → Rises (λ c d. list_lt (key c) (key d)) cs → ascent_fault key (map unplaced cs) ≡ None
unfolding ascent_fault
rises_ascent key Rises.none = refl
rises_ascent key (Rises.next done Rises.none) = refl
rises_ascent key (Rises.next (more h a) (Rises.next b r)) = rw h (rises_ascent key (Rises.next b r))
