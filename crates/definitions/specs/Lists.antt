-- What a lent list holds once its first entries are written: beyond them it is as it was. Assumes nothing.
use Rattle.std.specs.Prelude.{ℕ, List, ◌++◌, length, drop, replicate}

-- document 01, which SPECIFICATION 3 restates: "the other lists hold their data, and entries beyond stay unchanged"
abbrev pub overwrite : {A : Type 0} → List A → List A → List A
overwrite new old = new ++ drop (length new) old

-- the same paragraph: "Masks and queue are then zero over the needed length", which is n here
abbrev pub zeroed : ℕ → List ℕ → List ℕ
zeroed n old = replicate n 0 ++ drop n old
