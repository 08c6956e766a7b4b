-- Reading a number gives exactly the bytes that `shortest` would write for it (document 02, request 3). What is assumed: the bytes are below 256.
use Rattle.std.specs.Prelude.{ℕ, ◌<◌, List}
use Rattle.laws.specs.ListLaws.Lists.{All}

-- Every entry is a byte. Over other numbers the law fails: 129 and 385 have the same group, and both are continued (Examples, `no_bytes`).
abbrev pub Bytes : List ℕ → Type 0
Bytes l = All (λ b. b < 256) l
