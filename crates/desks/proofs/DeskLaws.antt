-- What the request says of the desks, over any two calls that met the contract: a desk is served alike beside whatever other desk, in either order, whatever the shared lists
-- held; the shared lists are the same whatever the desks; a shared refusal goes to both; a desk's own leaves the shared lists as on success. Assumes nothing.
use Rattle.std.specs.Prelude.{ℕ, ◌≡◌, List, length, None, Some}
use Rattle.std.proofs.Common.{sym, ap₂, ◌∙◌}
use Rattle.std.proofs.Math.Path.{ap}
use Rattle.definitions.specs.RegionRecord.{Region}
use Rattle.definitions.specs.Rows.{rows_of, flat_rows}
use Rattle.definitions.specs.Refusals.{Refusal, or_else}
use Rattle.definitions.specs.Verdict.{Answer, map_in}
use Rattle.definitions.specs.AtExit.{call_exit}
use Rattle.desks.specs.Desks.{Shared, Desk, alone, terrain, shared_refusal, desk_refusal, answer_from, desk_answer, output_from, desk_output, Served, LeftShared, RanBoth}
use Rattle.desks.proofs.SameGround.{SameGround, same_ground, served_same}
use Rattle.desks.proofs.SharedCalls.{shared-success}

-- ---- two calls

module _ {x y : ℕ} {S S' : Shared} (g : SameGround S S') {A B C : Desk} {a b c d : Answer} {l m q t p l' m' q' t' p' : List ℕ} {s s' : List Region} {o u v z : List ℕ} where
  -- "swapping the other desk's lists at will alters none of them", nor does the order: the route desk
  pub route-free : RanBoth x S A B a b l m q t p s o u → RanBoth y S' A C c d l' m' q' t' p' s' v z → (a ≡ c) × (o ≡ v)
  route-free f k = served_same g f.route k.route

  -- the coaching desk
  pub coaching-free : RanBoth x S A B a b l m q t p s o u → RanBoth y S' C B c d l' m' q' t' p' s' v z → (b ≡ d) × (u ≡ z)
  coaching-free f k = served_same g f.coaching k.coaching

  -- a desk that has changed places
  pub places-free : RanBoth x S A B a b l m q t p s o u → RanBoth y S' C A c d l' m' q' t' p' s' v z → (a ≡ d) × (o ≡ z)
  places-free f k = served_same g f.route k.coaching

-- "Neither desk alters the shared lists": they are the same, whatever the desks
pub lists-free : {x y : ℕ} {S : Shared} {A B C D : Desk} {a b c d : Answer} {l m q t p l' m' q' t' p' : List ℕ} {s s' : List Region} {o u v z : List ℕ}
    → RanBoth x S A B a b l m q t p s o u → RanBoth y S C D c d l' m' q' t' p' s' v z → (l ≡ l') × (m ≡ m') × (q ≡ q') × (t ≡ t') × (p ≡ p') × (s ≡ s')
lists-free f k =
    let one = f.shared in
    let two = k.shared in (
      one.labels ∙ sym two.labels,
      one.masks ∙ sym two.masks,
      one.queue ∙ sym two.queue,
      one.tallies ∙ sym two.tallies,
      one.pairs ∙ sym two.pairs,
      one.records ∙ sym two.records,
    )

-- "Whichever desk goes first": everything is the same
pub either_order : {x y : ℕ} {S : Shared} {A B : Desk} {a b c d : Answer} {l m q t p l' m' q' t' p' : List ℕ} {s s' : List Region} {o u v z : List ℕ}
    → RanBoth x S A B a b l m q t p s o u → RanBoth y S A B c d l' m' q' t' p' s' v z
    → ((a ≡ c) × (o ≡ v)) × ((b ≡ d) × (u ≡ z)) × ((l ≡ l') × (m ≡ m') × (q ≡ q') × (t ≡ t') × (p ≡ p') × (s ≡ s'))
either_order {S = S} f k = (route-free (same_ground S) f k, coaching-free (same_ground S) f k, lists-free f k)

-- ---- refusals

-- a desk is refused this, and its output is as it was
pub record RefusedWith (D : Desk) (r : Refusal) (a : Answer) (o : List ℕ) : Type 0 where
  pub answer : a ≡ record { number = r.number; value = r.place }
  pub output : o ≡ D.output

module _ {S : Shared} {D : Desk} {a : Answer} {o : List ℕ} {r : Refusal} (v : Served S D a o) where
  -- by the first refusal there is
  refused_with : or_else (shared_refusal S) (desk_refusal S D) ≡ Some r → RefusedWith D r a o
  unfolding desk_answer desk_output
  refused_with e =
      record {
        answer = v.answer ∙ ap (λ f. answer_from f (length (rows_of D.pass (map_in (alone S D))))) e;
        output = v.output ∙ ap (λ f. output_from f (flat_rows (rows_of D.pass (map_in (alone S D)))) D.output) e;
      }

  pub refused-shared : shared_refusal S ≡ Some r → RefusedWith D r a o
  refused-shared e = refused_with (ap (λ f. or_else f (desk_refusal S D)) e)

  pub refused-own : shared_refusal S ≡ None → desk_refusal S D ≡ Some r → RefusedWith D r a o
  refused-own h e = refused_with (ap₂ or_else h e)

-- the shared lists are those of success, of the call with no boundaries and no anchors
abbrev pub LeftAsOnSuccess : Shared → List ℕ → List ℕ → List ℕ → List ℕ → List ℕ → List Region → Type 0
LeftAsOnSuccess S l m q t p s =
    let exit = call_exit (terrain S) 0 in
    (l ≡ exit.labels) × (m ≡ exit.masks) × (q ≡ exit.queue) × (t ≡ exit.tallies) × (p ≡ exit.pairs) × (s ≡ exit.records)

left_as_on_success : {S : Shared} {l m q t p : List ℕ} {s : List Region} → shared_refusal S ≡ None → LeftShared S l m q t p s → LeftAsOnSuccess S l m q t p s
left_as_on_success {S} h k =
    let e = shared-success S h in (
      k.labels ∙ ap (λ x. x.labels) e,
      k.masks ∙ ap (λ x. x.masks) e,
      k.queue ∙ ap (λ x. x.queue) e,
      k.tallies ∙ ap (λ x. x.tallies) e,
      k.pairs ∙ ap (λ x. x.pairs) e,
      k.records ∙ ap (λ x. x.records) e,
    )

module _ {x : ℕ} {S : Shared} {A B : Desk} {a b : Answer} {l m q t p : List ℕ} {s : List Region} {o u : List ℕ} (f : RanBoth x S A B a b l m q t p s o u) {r : Refusal} where
  -- "a refusal over the shared lists comes first and goes to both"
  pub goes_to_both : shared_refusal S ≡ Some r → RefusedWith A r a o × RefusedWith B r b u
  goes_to_both e = (refused-shared f.route e, refused-shared f.coaching e)

  -- "a desk's own refusal leaves them as on success, and its output as it was"
  pub route-refused : shared_refusal S ≡ None → desk_refusal S A ≡ Some r → RefusedWith A r a o × LeftAsOnSuccess S l m q t p s
  route-refused h e = (refused-own f.route h e, left_as_on_success h f.shared)

  pub coaching-refused : shared_refusal S ≡ None → desk_refusal S B ≡ Some r → RefusedWith B r b u × LeftAsOnSuccess S l m q t p s
  coaching-refused h e = (refused-own f.coaching h e, left_as_on_success h f.shared)
