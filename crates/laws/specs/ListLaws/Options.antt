-- Options: what holds of the value, if there is one (`OnO`), and how tests, renamings and lists of an option go through one another. Assumes nothing.
use Rattle.std.specs.Prelude.{◌≡◌, refl, Bool, true, false, cond, option_map, Option, None, Some}
use Rattle.std.proofs.Math.Path.{ap}
use Rattle.std.proofs.Common.{◌∙◌}
use mathlib.Core.List.{[], map}
use Rattle.std.specs.Bool.{then_some}
use Rattle.definitions.specs.Scan.{filter, to_list, only_if}
use Rattle.laws.specs.ListLaws.Lists.{All, done, more, filter_in, filter-out}

pub data OnO {A : Type 0} (P : A → Type 0) : Option A → Type 0 where
  absent : OnO P None
  present : {x : A} → P x → OnO P (Some x)

module _ {A : Type 0} {P : A → Type 0} where
  pub on_only : (b : Bool) (x : A) → P x → OnO P (only_if b x)
  on_only true x h = present h
  on_only false x h = absent

  pub on_cond : (b : Bool) {x y : Option A} → OnO P x → OnO P y → OnO P (cond b x y)
  on_cond true h k = h
  on_cond false h k = k

  pub on_list : {o : Option A} → OnO P o → All P (to_list o)
  on_list absent = done
  on_list (present h) = more h done

  pub on_map_lem : {Q : A → Type 0} {o : Option A} → ((x : A) → P x → Q x) → OnO P o → OnO Q o
  on_map_lem f absent = absent
  on_map_lem f (present {x = x} h) = present (f x h)

-- the library's word for it
pub only_then : {A : Type 0} (b : Bool) (x : A) → then_some b x ≡ only_if b x
only_then true x = refl
only_then false x = refl

module _ {A B : Type 0} (e : A → B) where
  pub only_map : (b : Bool) (x : A) → only_if b (e x) ≡ option_map e (only_if b x)
  only_map true x = refl
  only_map false x = refl

  pub cond_map : (b : Bool) (x y : Option A) → option_map e (cond b x y) ≡ cond b (option_map e x) (option_map e y)
  cond_map true x y = refl
  cond_map false x y = refl

  -- of a test p that the value passes
  pub option_in : (p : A → Bool) {o : Option A} {o' : Option B} → OnO (λ x. p x ≡ true) o → option_map e o ≡ o' → map e (filter p (to_list o)) ≡ to_list o'
  unfolding filter
  option_in p absent q = ap to_list q
  option_in p (present {x = x} h) q = ap (map e) (filter_in p x [] h) ∙ ap to_list q

-- of a test p that the value fails
pub option_out : {A : Type 0} (p : A → Bool) {o : Option A} → OnO (λ x. p x ≡ false) o → filter p (to_list o) ≡ []
unfolding filter
option_out p absent = refl
option_out p (present {x = x} h) = filter-out p x [] h
