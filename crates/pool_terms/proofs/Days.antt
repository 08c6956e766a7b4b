-- What `then` gives of a day. Assumes nothing.
use Prim.Native.Nat.{ℕ}
use mathlib.Core.Path.{◌≡◌, ◌∙◌, ap}
use mathlib.Core.Bool.{cond}
use Rattle.std.specs.Prelude.{Option, None, Some, is_some, IfSome}
use Rattle.catalogue.specs.Dates.{Date, is_day, day_number, day_of}

pub day_then : (d : Date) (r : Option ℕ) → is_some r ≡ is_day d → IfSome r (λ n. n ≡ day_number d) → r ≡ day_of d
unfolding day_of
day_then d None v s = ap (λ b. cond b (Some (day_number d)) None) v
day_then d (Some n) v s = ap Some s ∙ ap (λ b. cond b (Some (day_number d)) None) v
