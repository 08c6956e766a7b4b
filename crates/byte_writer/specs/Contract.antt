-- What a function promises that puts bytes into a lent list. Definitions only; assumes nothing.
use Rattle.std.specs.Prelude.{ℕ, ◌+◌, ◌≤◌, ◌≡◌, List, length}
use Rattle.std.proofs.lemmas.List.Edits.{sets}
use Rattle.byte_writer.specs.declared.Writer.{Writer}

-- the bytes stand at a place, and the next place is behind them
pub record Put (old : List ℕ) (at : ℕ) (bytes new : List ℕ) (next : ℕ) : Type 0 where
  pub stored : new ≡ sets old at bytes
  pub next_is : next ≡ at + length bytes

-- behind its place a writer has room for so many bytes
abbrev pub HasRoom : Writer → ℕ → Type 0
HasRoom w size = w.at + size ≤ length w.out.now

-- the bytes are put at the writer's place; it has the same list then, and its place is behind them
pub record Appends (old : Writer) (bytes : List ℕ) (new : Writer) : Type 0 where
  pub put : Put old.out.now old.at bytes new.out.now new.at
  pub same : new.out.ghost_name ≡ old.out.ghost_name
