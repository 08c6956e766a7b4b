-- The flood over the ways of a graph on the numbers below n, and its invariant. Labels are compared with the final ones, and what is labelled and does not wait leads
-- only to labelled cells. A visit of an unlabelled cell labels it and lets it wait, so that the labelled cells less the waiting ones stay equally many: this is what bounds the
-- rounds. The ways are the eight directions. Assumes, as section parameters, the graph and the final labels.
use Rattle.std.specs.Prelude.{ℕ, ◌+◌, ◌≤◌, ◌<◌, ◌≡◌, Bool, ◌&&◌, ◌||◌, cond, ◌⊎◌, length, get_or}
use Rattle.std.proofs.Common.{arith, sym, ap, ◌∙◌, inl, ⊎_elim, length-set, length-append, get_or-set_same, get_or-set_other, eqb-true, eq-eqb}
use Rattle.std.proofs.Math.Path.{refl}
use Rattle.std.proofs.Math.Bool.{true, false, or-true}
use Rattle.std.proofs.lemmas.Bool.{false≢true, eqb-false}
use Rattle.std.proofs.Math.Logic.{inr}
use mathlib.Core.List.{List, [], ◌∷◌, ◌++◌}
use Rattle.std.proofs.Math.ListN.{set}
use Rattle.std.proofs.Math.Dec.{eqb}
use Rattle.definitions.specs.Scan.{any, member, count_below}
use Rattle.definitions.specs.Grid.{Position, directions}
use Rattle.laws.specs.ListLaws.Lists.{All, done, more, all_map, all_append}
use Rattle.laws.specs.ListLaws.NumberLists.{member-append}
use Rattle.rust_partition.specs.UsedCells.{used, used_some, used_none, used_same, used-keeps, used-new, count_set}
use Rattle.rust_partition.specs.Literal.Components.{Waiting}

-- ---- members of a list with one number more behind

member_more : (x : ℕ) (l : List ℕ) (t : ℕ) → member x l ≡ true → member x (l ++ (t ∷ [])) ≡ true
member_more x l t h = member-append x l (t ∷ []) ∙ ap (λ b. b || member x (t ∷ [])) h

member_last : (x : ℕ) (l : List ℕ) (t : ℕ) → x ≡ t → member x (l ++ (t ∷ [])) ≡ true
unfolding member any
member_last x l t e = member-append x l (t ∷ []) ∙ ap (λ b. member x l || (b || false)) (eq-eqb x t e) ∙ or-true (member x l)

module _ (n : ℕ) (final : ℕ → ℕ) (is_open : ℕ → Position → Bool) (to : ℕ → Position → ℕ) where
  -- ---- one visit

  unfoldable pub visit_way : ℕ → ℕ → Waiting → Position → Waiting
  visit_way id c s d =
      cond (is_open c d && eqb (get_or s.labels (to c d) 0) 0) (record { labels = set s.labels (to c d) id; queue = s.queue ++ (to c d ∷ []) }) s

  unfoldable pub visit_ways : ℕ → ℕ → Waiting → List Position → Waiting
  unfolding visit_way
  visit_ways id c s [] = s
  visit_ways id c s (d ∷ ds) = visit_ways id c (visit_way id c s d) ds

  -- ---- the state

  -- the open ways of c among ds lead to labelled cells
  abbrev pub Shut : List ℕ → ℕ → List Position → Type 0
  Shut l c ds = All (λ d. is_open c d ≡ true → used l (to c d) ≡ true) ds

  -- a cell that waits
  pub record Waits (id : ℕ) (l : List ℕ) (c : ℕ) : Type 0 where
    pub cell : c < n
    pub marked : used l c ≡ true
    pub mine : final c ≡ id

  -- labels up to id have been given; those of `todo` are not done
  pub record State (id : ℕ) (l queue todo : List ℕ) : Type 0 where
    pub long : length l ≡ n
    pub right : (c : ℕ) → c < n → used l c ≡ true → get_or l c 0 ≡ final c
    pub below : (c : ℕ) → c < n → used l c ≡ true → final c ≤ id
    pub waits : All (Waits id l) queue
    pub closed : (c : ℕ) → c < n → used l c ≡ true → (member c todo ≡ true) ⊎ Shut l c directions

  -- what visits of the cell c leave of a state s
  pub record Visited (id c : ℕ) (s s' : Waiting) : Type 0 where
    pub state : State id s'.labels s'.queue (c ∷ s'.queue)
    pub grows : (x : ℕ) → used s.labels x ≡ true → used s'.labels x ≡ true
    pub balance : count_below n (used s'.labels) + length s.queue ≡ count_below n (used s.labels) + length s'.queue

  module _ (id : ℕ) (some : 0 < id) (c : ℕ) where
    still : {s : Waiting} → State id s.labels s.queue (c ∷ s.queue) → Visited id c s s
    still S = record { state = S; grows = λ x u. u; balance = refl }

    visited-then : {s t u : Waiting} → Visited id c s t → Visited id c t u → Visited id c s u
    visited-then A B = record { state = B.state; grows = λ x h. B.grows x (A.grows x h); balance = omega (arith, A.balance, B.balance) }

    -- an unlabelled cell t of the region is labelled and waits
    module _ (s : Waiting) (S : State id s.labels s.queue (c ∷ s.queue)) (t : ℕ) (in-n : t < n) (free : get_or s.labels t 0 ≡ 0) (own : final t ≡ id) where
      abbrev l : List ℕ
      l = s.labels

      abbrev s' : Waiting
      s' = record { labels = set l t id; queue = s.queue ++ (t ∷ []) }

      in_l : t < length l
      in_l = omega (arith, S.long)

      pub taken : Visited id c s s'
      taken =
          record {
            state =
                record {
                  long = length-set l t id ∙ S.long;
                  right = λ x h u.
                      ⊎_elim (λ e. rw e (get_or-set_same l t id 0 in_l ∙ sym own)) (λ e. get_or-set_other l t x id 0 e.0 ∙ S.right x h e.1) (new x u);
                  below = λ x h u. ⊎_elim (λ e. rw e (omega (arith, own))) (λ e. S.below x h e.1) (new x u);
                  waits =
                      all_append (all_map (λ x w. record { cell = w.cell; marked = keeps x w.marked; mine = w.mine }) S.waits)
                      (more (record { cell = in-n; marked = used_same l t id in_l some; mine = own }) done);
                  closed = λ x h u.
                      ⊎_elim (λ e. inl (member_last x (c ∷ s.queue) t e))
                      (λ e. ⊎_elim (λ m. inl (member_more x (c ∷ s.queue) t m)) (λ a. inr (all_map (λ d f o. keeps (to x d) (f o)) a)) (S.closed x h e.1))
                      (new x u);
                };
            grows = keeps;
            balance = omega (arith, count_set l t id in_l some n in-n (used_none l t free), length-append s.queue (t ∷ []));
          }
        where
          keeps : (x : ℕ) → used l x ≡ true → used (set l t id) x ≡ true
          keeps = used-keeps l t id in_l some

          new : (x : ℕ) → used (set l t id) x ≡ true → (x ≡ t) ⊎ ((x ≡ t → ⊥) × (used l x ≡ true))
          new = used-new l t id in_l some

    module _ (inside : (d : Position) → is_open c d ≡ true → to c d < n) where
      -- one way: what it leaves, and that it is then shut
      way-visited : (s : Waiting) → State id s.labels s.queue (c ∷ s.queue) → (d : Position) → (is_open c d ≡ true → final (to c d) ≡ id) → Visited id c s (visit_way id c s d) × (is_open c d ≡ true → used (visit_way id c s d).labels (to c d) ≡ true)
      unfolding visit_way
      way-visited s S d own = go (is_open c d) refl (eqb (get_or s.labels (to c d) 0) 0) refl
        where
          go : (a : Bool) → is_open c d ≡ a → (b : Bool) → eqb (get_or s.labels (to c d) 0) 0 ≡ b → Visited id c s (cond (a && b) (record { labels = set s.labels (to c d) id; queue = s.queue ++ (to c d ∷ []) }) s) × (a ≡ true → used (cond (a && b) (record { labels = set s.labels (to c d) id; queue = s.queue ++ (to c d ∷ []) }) s).labels (to c d) ≡ true)
          go true e true f = (taken s S (to c d) (inside d e) (eqb-true _ _ f) (own e), λ o. used_same s.labels (to c d) id (omega (arith, S.long, inside d e)) some)
          go true e false f = (still S, λ o. used_some s.labels (to c d) (eqb-false _ _ f))
          go false e b f = (still S, λ o. absurd (false≢true o))

      pub ways-visited : (s : Waiting) → State id s.labels s.queue (c ∷ s.queue) → {ds : List Position} → All (λ d. is_open c d ≡ true → final (to c d) ≡ id) ds → Visited id c s (visit_ways id c s ds) × Shut (visit_ways id c s ds).labels c ds
      unfolding visit_ways
      ways-visited s S done = (still S, done)
      ways-visited s S (more {x = d} {l = ds} own a) =
          let first = way-visited s S d own in
          let rest = ways-visited (visit_way id c s d) first.0.state a in
          (visited-then first.0 rest.0, more (λ o. rest.0.grows (to c d) (first.1 o)) rest.1)

      -- the cell is then done
      pub cell-done : (s : Waiting) → State id s.labels s.queue (c ∷ s.queue) → Shut s.labels c directions → State id s.labels s.queue s.queue
      unfolding member any
      cell-done s S shut = record { long = S.long; right = S.right; below = S.below; waits = S.waits; closed = λ x h u. go x (eqb x c) refl (S.closed x h u) }
        where
          go : (x : ℕ) (b : Bool) → eqb x c ≡ b → ((b || any (eqb x) s.queue) ≡ true) ⊎ Shut s.labels x directions → (any (eqb x) s.queue ≡ true) ⊎ Shut s.labels x directions
          go x true e k = inr (rw (eqb-true x c e) shut)
          go x false e k = k
