-- The numbers that the entries of a list are, at a place. Assumes nothing.
use Rattle.std.proofs.Common.{ℕ, ◌<◌, ◌≤◌, ◌≡◌, refl, sym, ap, ◌∙◌, List, [], ◌∷◌, length, map, get_or, arith}
use Rattle.std.proofs.lemmas.List.{length-map, get_or-map}

module _ {A : Type 0} (value : A → ℕ) (l : List A) (i : ℕ) where
  pub mapped_inside : i < length l → i < length (map value l)
  mapped_inside h = omega (arith, h, length-map l value)

  pub mapped_ends : length l ≤ i → length (map value l) ≤ i
  mapped_ends h = omega (arith, h, length-map l value)

  pub mapped_item : i < length l → {n : ℕ} {entry : A} → entry ≡ get_or l i entry → n ≡ value entry → n ≡ get_or (map value l) i 0
  mapped_item h {entry = entry} e q = q ∙ ap value e ∙ sym (get_or-map value l i entry 0 h)

-- of numbers, they themselves
pub themselves : (l : List ℕ) → map (λ n. n) l ≡ l
themselves [] = refl
themselves (n ∷ l) = ap (λ m. n ∷ m) (themselves l)
