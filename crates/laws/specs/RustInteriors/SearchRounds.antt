-- One round of the depth-first search (DepthFirstLiteral): what its sets have after the links of a region, by membership; and that the search ends within its bound,
-- since the regions to do and those not visited yet are together one fewer after each round. Assumes nothing.
use Prim.Native.Nat.{ℕ, zero, suc, ◌+◌, ◌<◌, ◌≤◌}
use Rattle.std.proofs.Common.{arith, ◌∙◌, eqb-true, eq-eqb, ne_eqb}
use Rattle.std.specs.Prelude.{◌≡◌, Bool, ◌&&◌, ◌||◌, cond}
use Rattle.std.proofs.Math.Path.{refl, sym, ap}
use Rattle.std.proofs.Math.Bool.{true, false, not, or-false, or_comm, or_assoc, and-false}
use mathlib.Core.List.{List, [], ◌∷◌}
use Rattle.std.proofs.Math.ListN.{length}
use Rattle.std.proofs.Math.Dec.{eqb}
use Rattle.std.proofs.Math.Arith.{lt_of_le-ne}
use Rattle.std.proofs.lemmas.Bool.{eqb-false}
use Rattle.definitions.specs.Scan.{any, member, count_below, bit}
use Rattle.definitions.specs.Context.{Context}
use Rattle.laws.specs.ListLaws.Lists.{All, done, more}
use Rattle.laws.specs.ListLaws.Below.{count_ext}
use Rattle.laws.specs.SetLaws.Sets.{Ascending, set_insert, member-insert, insert_ascending}
use Rattle.laws.specs.RustInteriors.DepthFirstLiteral.{Link, Search, seen_again, seen_first, visit_link, visit_links, with_todo, popped, graph_at, search_for}

-- ---- what is a member afterwards

-- x is the neighbor, or the boundary, of one of the links
abbrev pub leads_to : List Link → ℕ → Bool
leads_to links x = any (λ l. eqb x l.neighbor) links

abbrev pub goes_by : List Link → ℕ → Bool
goes_by links i = any (λ l. eqb i l.index) links

-- ---- one link

module _ (s : Search) (l : Link) where
  -- a member that is there already, or one that is not
  known : (x : ℕ) → member l.neighbor s.visited ≡ true → (e : Bool) → eqb x l.neighbor ≡ e → (e && not (member x s.visited)) ≡ false
  known x h true q = ap (λ y. not (member y s.visited)) (eqb-true x l.neighbor q) ∙ ap not h
  known x h false q = refl

  unknown : (x : ℕ) → member l.neighbor s.visited ≡ false → (e : Bool) → eqb x l.neighbor ≡ e → (e && not (member x s.visited)) ≡ e
  unknown x h true q = ap (λ y. not (member y s.visited)) (eqb-true x l.neighbor q) ∙ ap not h
  unknown x h false q = refl

  edge_one : (i : ℕ) → member i (visit_link s l).edges ≡ (member i s.edges || eqb i l.index)
  unfolding visit_link
  edge_one i = go (member l.neighbor s.visited) ∙ member-insert i s.edges l.index ∙ or_comm (eqb i l.index) (member i s.edges)
    where
      go : (b : Bool) → member i (cond {A = Search} b (seen_again s l) (seen_first s l)).edges ≡ member i (set_insert s.edges l.index)
      go true = refl
      go false = refl

  -- what one set has after the link, if it is put in where the neighbor was not visited
  module _ (set : Search → List ℕ) (put : (x : ℕ) → member x (set (seen_first s l)) ≡ (member x (set s) || eqb x l.neighbor)) (left : (x : ℕ) → member x (set (seen_again s l)) ≡ member x (set s)) where
    put_one : (x : ℕ) → member x (set (visit_link s l)) ≡ (member x (set s) || eqb x l.neighbor && not (member x s.visited))
    unfolding visit_link
    put_one x = go (member l.neighbor s.visited) refl
      where
        go : (b : Bool) → member l.neighbor s.visited ≡ b → member x (set (cond b (seen_again s l) (seen_first s l))) ≡ (member x (set s) || eqb x l.neighbor && not (member x s.visited))
        go true h = left x ∙ sym (ap (λ b. member x (set s) || b) (known x h (eqb x l.neighbor) refl) ∙ or-false (member x (set s)))
        go false h = put x ∙ ap (λ b. member x (set s) || b) (sym (unknown x h (eqb x l.neighbor) refl))

  insert_comm : (x : ℕ) (set : List ℕ) → member x (set_insert set l.neighbor) ≡ (member x set || eqb x l.neighbor)
  insert_comm x set = member-insert x set l.neighbor ∙ or_comm (eqb x l.neighbor) (member x set)

  regions_one : (x : ℕ) → member x (visit_link s l).regions ≡ (member x s.regions || eqb x l.neighbor && not (member x s.visited))
  regions_one = put_one (λ t. t.regions) (λ x. insert_comm x s.regions) (λ x. refl)

  todo_one : (x : ℕ) → member x (visit_link s l).todo ≡ (member x s.todo || eqb x l.neighbor && not (member x s.visited))
  unfolding member any
  todo_one = put_one (λ t. t.todo) (λ x. or_comm (eqb x l.neighbor) (member x s.todo)) (λ x. refl)

  visited_one : (x : ℕ) → member x (visit_link s l).visited ≡ (member x s.visited || eqb x l.neighbor)
  visited_one x = put_one (λ t. t.visited) (λ x. insert_comm x s.visited) (λ x. refl) x ∙ go (member x s.visited) (eqb x l.neighbor)
    where
      go : (v e : Bool) → (v || e && not v) ≡ (v || e)
      go true e = refl
      go false true = refl
      go false false = refl

-- ---- all links of a region

pub edges-after : (s : Search) (links : List Link) (i : ℕ) → member i (visit_links s links).edges ≡ (member i s.edges || goes_by links i)
unfolding visit_links any
edges-after s [] i = sym (or-false (member i s.edges))
edges-after s (l ∷ links) i = edges-after (visit_link s l) links i ∙ ap (λ b. b || goes_by links i) (edge_one s l i) ∙ or_assoc (member i s.edges) (eqb i l.index) (goes_by links i)

pub visited_after_lem : (s : Search) (links : List Link) (x : ℕ) → member x (visit_links s links).visited ≡ (member x s.visited || leads_to links x)
unfolding visit_links any
visited_after_lem s [] x = sym (or-false (member x s.visited))
visited_after_lem s (l ∷ links) x = visited_after_lem (visit_link s l) links x ∙ ap (λ b. b || leads_to links x) (visited_one s l x) ∙ or_assoc (member x s.visited) (eqb x l.neighbor) (leads_to links x)

new-both : (r e v m : Bool) → (r || e && not v || m && not (v || e)) ≡ (r || (e || m) && not v)
new-both true e v m = refl
new-both false true true m = and-false m
new-both false true false m = refl
new-both false false true m = refl
new-both false false false m = refl

pub regions-after : (s : Search) (links : List Link) (x : ℕ) → member x (visit_links s links).regions ≡ (member x s.regions || leads_to links x && not (member x s.visited))
unfolding visit_links any
regions-after s [] x = sym (or-false (member x s.regions))
regions-after s (l ∷ links) x =
    regions-after (visit_link s l) links x ∙ (λ i. regions_one s l x i || leads_to links x && not (visited_one s l x i))
    ∙ new-both (member x s.regions) (eqb x l.neighbor) (member x s.visited) (leads_to links x)

pub todo-after : (s : Search) (links : List Link) (x : ℕ) → member x (visit_links s links).todo ≡ (member x s.todo || leads_to links x && not (member x s.visited))
unfolding visit_links any
todo-after s [] x = sym (or-false (member x s.todo))
todo-after s (l ∷ links) x =
    todo-after (visit_link s l) links x ∙ (λ i. todo_one s l x i || leads_to links x && not (visited_one s l x i))
    ∙ new-both (member x s.todo) (eqb x l.neighbor) (member x s.visited) (leads_to links x)

-- ---- sets stay ascending lists

pub record Ordered (s : Search) : Type 0 where
  pub visited : Ascending s.visited
  pub regions : Ascending s.regions
  pub edges : Ascending s.edges

link-ordered : (s : Search) (l : Link) → Ordered s → Ordered (visit_link s l)
unfolding visit_link
link-ordered s l o = go (member l.neighbor s.visited)
  where
    go : (b : Bool) → Ordered (cond b (seen_again s l) (seen_first s l))
    go true = record { visited = o.visited; regions = o.regions; edges = insert_ascending l.index o.edges }
    go false = record { visited = insert_ascending l.neighbor o.visited; regions = insert_ascending l.neighbor o.regions; edges = insert_ascending l.index o.edges }

pub links-ordered : (s : Search) (links : List Link) → Ordered s → Ordered (visit_links s links)
unfolding visit_links
links-ordered s [] o = o
links-ordered s (l ∷ links) o = links-ordered (visit_link s l) links (link-ordered s l o)

-- ---- the search ends

-- two tests that differ at x alone
count-one_less : (n x : ℕ) (f g : ℕ → Bool) → x < n → f x ≡ true → g x ≡ false → ((y : ℕ) → (y ≡ x → ⊥) → f y ≡ g y) → count_below n f ≡ suc (count_below n g)
unfolding count_below
count-one_less zero x f g h p q e = absurd (omega arith)
count-one_less (suc n) x f g h p q e = go (eqb n x) refl (count-one_less n x f g)
  where
    go : (b : Bool) → eqb n x ≡ b → (x < n → f x ≡ true → g x ≡ false → ((y : ℕ) → (y ≡ x → ⊥) → f y ≡ g y) → count_below n f ≡ suc (count_below n g)) → count_below n f + bit (f n) ≡ suc (count_below n g + bit (g n))
    go true k ih =
        let same : n ≡ x = eqb-true n x k in
        omega (arith, count_ext n f g (λ y l. e y (λ r. omega arith)), ap bit (ap f same ∙ p), ap bit (ap g same ∙ q))
    go false k ih = omega (arith, ih (lt_of_le-ne (omega arith) (λ r. eqb-false n x k (sym r))) p q e, ap bit (e n (eqb-false n x k)))

module _ (n : ℕ) where
  -- what is to do and what is not visited
  unfoldable pub left : Search → ℕ
  left s = length s.todo + count_below n (λ y. not (member y s.visited))

  link_left : (s : Search) (l : Link) → l.neighbor < n → left (visit_link s l) ≡ left s
  unfolding left visit_link
  link_left s l h = go (member l.neighbor s.visited) refl
    where
      others : (y : ℕ) → (y ≡ l.neighbor → ⊥) → not (member y s.visited) ≡ not (member y (set_insert s.visited l.neighbor))
      others y d = ap not (sym (member-insert y s.visited l.neighbor ∙ ap (λ b. b || member y s.visited) (ne_eqb y l.neighbor d)))

      here : member l.neighbor (set_insert s.visited l.neighbor) ≡ true
      here = member-insert l.neighbor s.visited l.neighbor ∙ ap (λ b. b || member l.neighbor s.visited) (eq-eqb l.neighbor l.neighbor refl)

      go : (b : Bool) → member l.neighbor s.visited ≡ b → left (cond b (seen_again s l) (seen_first s l)) ≡ left s
      go true k = refl
      go false k = omega (arith, count-one_less n l.neighbor (λ y. not (member y s.visited)) (λ y. not (member y (set_insert s.visited l.neighbor))) h (ap not k) (ap not here) others)

  links-left : (s : Search) {links : List Link} → All (λ l. l.neighbor < n) links → left (visit_links s links) ≡ left s
  unfolding visit_links
  links-left s done = refl
  links-left s (more {x = l} h a) = links-left (visit_link s l) a ∙ link_left s l h

  module _ (C : Context) (low : (x : ℕ) → All (λ l. l.neighbor < n) (graph_at C x)) where
    pub search_ends : (rounds : ℕ) (s : Search) → left s ≤ rounds → (search_for C rounds s).todo ≡ []
    unfolding search_for left
    search_ends zero s h = none_left s.todo (omega arith)
      where
        none_left : (l : List ℕ) → length l ≤ 0 → l ≡ []
        none_left [] k = refl
        none_left (x ∷ l) k = absurd (omega arith)
    search_ends (suc rounds) s h = go s.todo refl (λ t k. search_ends rounds t k)
      where
        go : (todo : List ℕ) → s.todo ≡ todo → ((t : Search) → left t ≤ rounds → (search_for C rounds t).todo ≡ []) → (popped todo s (λ region rest. search_for C rounds (visit_links (with_todo rest s) (graph_at C region)))).todo ≡ []
        go [] e ih = e
        go (x ∷ rest) e ih = ih (visit_links (with_todo rest s) (graph_at C x)) (omega (arith, links-left (with_todo rest s) (low x), ap length e))
