-- Whole numbers as lists of words in a base B, the lowest word first: what a count of words can hold, how two numbers are compared, how columns are added and their carries
-- passed up, how words are joined in pairs, and how the lowest digits are cut off. Every law is over any number of words, and code cites it at the width that it uses.
-- All go by induction on the list: a word more makes a number of two digits, the rest times B and the word. Assumes nothing.
use Rattle.std.specs.Prelude.{◌≡◌, refl, List, [], ◌∷◌, ◌++◌, ℕ, ◌+◌, ◌*◌, ◌/◌, ◌%◌, ◌^◌, ◌≤◌, ◌<◌, length}
use Rattle.std.proofs.Common.{sym, ap, ◌∙◌, inl, inr, pow-suc, lt_of_lt_of_le, le-add_right, zero-add, add-zero, zero-mul, mul-one, div-add-mod', mod-lt, add_assoc, add_comm, mul_assoc, mul_comm, mul_left_comm, add-mul, arith}
use Rattle.std.proofs.Math.Nat.{pow-zero, add_left_comm}
use Rattle.std.proofs.Math.Arith.{digits_lt}
use Rattle.laws.specs.NumberLaws.Comparisons.{SameOrder, le_or_lt}
use Rattle.laws.specs.ListLaws.Lists.{All, done, more}

abbrev pub words_value : ℕ → List ℕ → ℕ
words_value B [] = 0
words_value B (w ∷ ws) = words_value B ws * B + w

-- ---- what a count of words can hold

-- the highest word may be shorter: it is below C
pub words_lt : (B C top : ℕ) (ws : List ℕ) → All (λ w. w < B) ws → top < C → words_value B (ws ++ (top ∷ [])) < C * B ^ length ws
words_lt B C top [] done h = simp (zero-mul, mul-one, zero-add, pow-zero, mul-one) h
words_lt B C top (w ∷ ws) (more l ls) h = rw (pow-suc B (length ws), ← mul_assoc) (digits_lt (words_lt B C top ws ls h) l)

-- ---- comparing

module _ (B w v : ℕ) (ws vs : List ℕ) where
  -- where the higher words are worth the same, the lowest word decides
  pub lowest_decides : words_value B ws ≡ words_value B vs → SameOrder (words_value B (w ∷ ws)) (words_value B (v ∷ vs)) w v
  lowest_decides e = go (words_value B ws * B) (words_value B vs * B) (ap (λ (x : ℕ). x * B) e)
    where
      go : (x y : ℕ) → x ≡ y → SameOrder (x + w) (y + v) w v
      go x y e = ((λ h. omega arith, λ h. omega arith), (λ h. omega arith, λ h. omega arith))

-- a list is below another whose higher words are worth more
above : (B w v : ℕ) (ws vs : List ℕ) → w < B → words_value B ws < words_value B vs → words_value B (w ∷ ws) < words_value B (v ∷ vs)
above B w v ws vs h l = lt_of_lt_of_le (digits_lt l h) (le-add_right (words_value B vs * B) v)

module _ (B w v : ℕ) (ws vs : List ℕ) (hw : w < B) (hv : v < B) where
  -- where they are not, they decide
  pub higher_decide : (words_value B ws ≡ words_value B vs → ⊥) → SameOrder (words_value B (w ∷ ws)) (words_value B (v ∷ vs)) (words_value B ws) (words_value B vs)
  higher_decide n = elim (le_or_lt (words_value B vs) (words_value B ws)) [
    | inl h ↦ greater (words_value B ws) (words_value B vs) n h (above B v w vs ws hv)
    | inr l ↦ less (above B w v ws vs hw l) l
  ]
    where
      less : {x y p q : ℕ} → p < q → x < y → SameOrder p q x y
      less h l = ((λ a. omega arith, λ a. omega arith), (λ a. omega arith, λ a. omega arith))

      greater : (x y : ℕ) {p q : ℕ} → (x ≡ y → ⊥) → y ≤ x → (y < x → q < p) → SameOrder p q x y
      greater x y n h f =
          let l : y < x = omega arith in
          let g = f l in
          ((λ a. omega arith, λ a. omega arith), (λ a. omega arith, λ a. omega arith))

-- ---- adding

-- the sums of two lists' words, place by place
abbrev pub columns : List ℕ → List ℕ → List ℕ
columns [] vs = vs
columns (w ∷ ws) [] = w ∷ ws
columns (w ∷ ws) (v ∷ vs) = (w + v) ∷ columns ws vs

-- a word w and the words above it, each but the highest brought below B, and what was over added to the next
abbrev pub carried : ℕ → ℕ → List ℕ → List ℕ
carried B w [] = w ∷ []
carried B w (v ∷ vs) = w % B ∷ carried B (v + w / B) vs

pub columns-value : (B : ℕ) (ws vs : List ℕ) → words_value B (columns ws vs) ≡ words_value B ws + words_value B vs
columns-value B [] vs = sym (zero-add (words_value B vs))
columns-value B (w ∷ ws) [] = sym (add-zero (words_value B ws * B + w))
columns-value B (w ∷ ws) (v ∷ vs) = ap (λ (x : ℕ). x * B + (w + v)) (columns-value B ws vs) ∙ e (words_value B ws) (words_value B vs)
  where
    e : (x y : ℕ) → (x + y) * B + (w + v) ≡ x * B + w + (y * B + v)
    e x y = simp (add-mul, add_assoc, add_comm, add_left_comm) refl

pub carried-value : (B w : ℕ) (vs : List ℕ) → words_value B (carried B w vs) ≡ words_value B (w ∷ vs)
carried-value B w [] = refl
carried-value B w (v ∷ vs) =
    ap (λ (x : ℕ). x * B + w % B) (carried-value B (v + w / B) vs)
    ∙ e (words_value B vs * B) (w / B)
    ∙ ap (λ (x : ℕ). (words_value B vs * B + v) * B + x) (div-add-mod' w B)
  where
    e : (x q : ℕ) → (x + (v + q)) * B + w % B ≡ (x + v) * B + (q * B + w % B)
    e x q = simp (add-mul, add_assoc, add_comm, add_left_comm) refl

-- ---- joining words in pairs, each pair a word in base P * P

abbrev pub paired : ℕ → List ℕ → List ℕ
paired P [] = []
paired P (w ∷ []) = w ∷ []
paired P (w ∷ v ∷ vs) = (v * P + w) ∷ paired P vs

pub paired-value : (P : ℕ) (ws : List ℕ) → words_value (P * P) (paired P ws) ≡ words_value P ws
paired-value P [] = refl
paired-value P (w ∷ []) = ap (λ (x : ℕ). x + w) (zero-mul (P * P) ∙ sym (zero-mul P))
paired-value P (w ∷ v ∷ vs) = ap (λ (x : ℕ). x * (P * P) + (v * P + w)) (paired-value P vs) ∙ e (words_value P vs)
  where
    e : (x : ℕ) → x * (P * P) + (v * P + w) ≡ (x * P + v) * P + w
    e x = simp (add-mul, mul_assoc, add_assoc) refl

-- ---- cutting off the lowest digits, those below N, in base M * N: each word keeps its upper part, and gets the lower part of the next word above it

abbrev pub cut : ℕ → ℕ → ℕ → List ℕ → List ℕ
cut M N w [] = w / N ∷ []
cut M N w (v ∷ vs) = (v % N * M + w / N) ∷ cut M N v vs

pub cut-value : (M N w : ℕ) (vs : List ℕ) → words_value (M * N) (cut M N w vs) * N + w % N ≡ words_value (M * N) (w ∷ vs)
cut-value M N w [] = simp (zero-mul, mul-one, zero-add) (div-add-mod' w N)
cut-value M N w (v ∷ vs) =
    e (words_value (M * N) (cut M N v vs)) (v % N) (w / N)
    ∙ ap (λ (x : ℕ). x * (M * N) + (w / N * N + w % N)) (cut-value M N v vs)
    ∙ ap (λ (x : ℕ). words_value (M * N) (v ∷ vs) * (M * N) + x) (div-add-mod' w N)
  where
    e : (x r q : ℕ) → (x * (M * N) + (r * M + q)) * N + w % N ≡ (x * N + r) * (M * N) + (q * N + w % N)
    e x r q = simp (add-mul, mul_assoc, mul_comm, mul_left_comm, add_assoc, add_comm, add_left_comm) refl

-- the words stay below M * N
pub cut_lt : (M N w v : ℕ) → 0 < N → w / N < M → v % N * M + w / N < N * M
cut_lt M N w v p h = digits_lt (mod-lt v p) h
