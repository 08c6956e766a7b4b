-- The latest ends of terms, by the remainder of their map's number: what lets most terms pass without a look at the earlier ones. Definitions only; assumes
-- nothing.
use Rattle.std.specs.Prelude.{ℕ, ◌%◌, ◌≤◌, ◌<◌, ◌≡◌, Bool, ◌&&◌, List, length, get_or, ltb, leb}
use Rattle.catalogue.specs.Terms.{Term, term_at, days_of}
use Rattle.pool_terms.specs.Contract.{first_in, end_in}

-- of the first i terms, none ends later than its slot says
pub record Latest (terms : List ℕ) (i : ℕ) (ends : List ℕ) : Type 0 where
  pub slots : length ends ≡ 4096
  pub latest : (j : ℕ) → j < i → end_in (days_of (term_at terms j)) ≤ get_or ends ((term_at terms j).on_map % 4096) 0

-- the term's slot says its end or a later one, and no slot says less than it did
pub record EndKept (t : Term) (old new : List ℕ) : Type 0 where
  pub slots : length new ≡ 4096
  pub said : end_in (days_of t) ≤ get_or new (t.on_map % 4096) 0
  pub grown : (k : ℕ) → get_or old k 0 ≤ get_or new k 0

-- the term has a day, and starts no earlier than its slot says
abbrev pub passes : Term → List ℕ → Bool
passes t ends = ltb (first_in (days_of t)) (end_in (days_of t)) && leb (get_or ends (t.on_map % 4096) 0) (first_in (days_of t))
