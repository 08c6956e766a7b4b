-- The links that the Rust's graph holds at a region (DepthFirstLiteral): what holds of all of them is what holds of each pair of an ordinary full cut that names the
-- region. Assumes a sound context.
use Rattle.std.specs.Prelude.{ℕ, ◌<◌, ◌≡◌, Bool, eqb, None, Some}
use Rattle.std.proofs.Math.Path.{refl, ap₂}
use Rattle.std.proofs.Common.{sym, ◌∙◌, eqb-true, eq-eqb}
use Rattle.std.proofs.Math.Bool.{true, false, ◌&&◌, cond}
use Rattle.std.proofs.lemmas.Bool.{false≢true}
use mathlib.Core.List.{List, [], ◌∷◌, ◌++◌}
use Rattle.definitions.specs.Scan.{concat_map, to_list, only_if}
use Rattle.definitions.specs.Grid.{Pair}
use Rattle.definitions.specs.Context.{Context, no_ramp}
use Rattle.definitions.specs.RampInteriors.{is_ordinary}
use Rattle.laws.specs.ListLaws.Lists.{All, done, more, all_append, all_split}
use Rattle.laws.specs.ListLaws.Below.{gather-below, gather_at}
use Rattle.laws.specs.RustContext.SoundContext.{Sound}
use Rattle.laws.specs.RustContext.FullCut.{full_cut_lem}
use Rattle.laws.specs.RustMouths.MouthLiteral.{is_none}
use Rattle.laws.specs.RustInteriors.DepthFirstLiteral.{Link, links_of, is_joining, graph_at}

module _ (C : Context) (sound : Sound C) where
  pub joining_is : (i : ℕ) → is_joining C i ≡ is_ordinary C i
  unfolding is_ordinary
  joining_is i = ap₂ ◌&&◌ (go (no_ramp C i)) (sym (full_cut_lem C sound i))
    where
      go : (b : Bool) → is_none (cond b None (Some (C.boundary i))) ≡ b
      go true = refl
      go false = refl

  module _ {P : Link → Type 0} (x : ℕ) where
    pub links_of_lem : (i : ℕ) (p : Pair) → (p.lo ≡ x → P (record { neighbor = p.hi; index = i })) → (p.hi ≡ x → P (record { neighbor = p.lo; index = i })) → All P (links_of x i p)
    links_of_lem i p f g = all_append (first (eqb p.lo x) refl) (second (eqb p.hi x) refl)
      where
        first : (b : Bool) → eqb p.lo x ≡ b → All P (to_list (only_if b (record { neighbor = p.hi; index = i })))
        first true e = more (f (eqb-true p.lo x e)) done
        first false e = done

        second : (b : Bool) → eqb p.hi x ≡ b → All P (to_list (only_if b (record { neighbor = p.lo; index = i })))
        second true e = more (g (eqb-true p.hi x e)) done
        second false e = done

    pub graph_all : ((i : ℕ) → i < C.count → is_ordinary C i ≡ true → All (λ p. All P (links_of x i p)) (C.pairs i)) → All P (graph_at C x)
    unfolding graph_at concat_map
    graph_all h = gather-below (λ i. cond (is_joining C i) (concat_map (links_of x i) (C.pairs i)) []) C.count (λ i l. go i l (is_joining C i) refl)
      where
        join : (i : ℕ) {ps : List Pair} → All (λ p. All P (links_of x i p)) ps → All P (concat_map (links_of x i) ps)
        join i done = done
        join i (more k a) = all_append k (join i a)

        go : (i : ℕ) → i < C.count → (b : Bool) → is_joining C i ≡ b → All P (cond b (concat_map (links_of x i) (C.pairs i)) [])
        go i l true e = join i (h i l (sym (joining_is i) ∙ e))
        go i l false e = done

    pub graph_at_lem : All P (graph_at C x) → (i : ℕ) → i < C.count → is_ordinary C i ≡ true → All (λ p. All P (links_of x i p)) (C.pairs i)
    unfolding graph_at concat_map
    graph_at_lem a i l o = split (C.pairs i) (rw (joining_is i ∙ o) at (gather_at (λ i. cond (is_joining C i) (concat_map (links_of x i) (C.pairs i)) []) C.count a i l))
      where
        split : (ps : List Pair) → All P (concat_map (links_of x i) ps) → All (λ p. All P (links_of x i p)) ps
        split [] a = done
        split (p ∷ ps) a =
            let t = all_split (links_of x i p) a in
            more t.0 (split ps t.1)

  -- the link at each region of a pair
  pub at_lo_lem : {P : Link → Type 0} (i : ℕ) (p : Pair) → All P (links_of p.lo i p) → P (record { neighbor = p.hi; index = i })
  at_lo_lem {P} i p a = go (eqb p.lo p.lo) (eq-eqb p.lo p.lo refl) a
    where
      go : (b : Bool) → b ≡ true → All P (to_list (only_if b (record { neighbor = p.hi; index = i })) ++ to_list (only_if (eqb p.hi p.lo) (record { neighbor = p.lo; index = i }))) → P (record { neighbor = p.hi; index = i })
      go true e (more h r) = h
      go false e r = absurd (false≢true e)

  pub at_hi_lem : {P : Link → Type 0} (i : ℕ) (p : Pair) → All P (links_of p.hi i p) → P (record { neighbor = p.lo; index = i })
  at_hi_lem {P} i p a = go (eqb p.hi p.hi) (eq-eqb p.hi p.hi refl) (all_split (to_list (only_if (eqb p.lo p.hi) (record { neighbor = p.hi; index = i }))) a).1
    where
      go : (b : Bool) → b ≡ true → All P (to_list (only_if b (record { neighbor = p.lo; index = i }))) → P (record { neighbor = p.lo; index = i })
      go true e (more h r) = h
      go false e r = absurd (false≢true e)
