-- What a case begins with, as the bytes of the input say it, and the room that it lends of. Definitions only; assumes nothing.
use Rattle.std.specs.Prelude.{ℕ, zero, suc, ◌+◌, ◌*◌, ◌≡◌, List, [], get_or, length, min, take, drop, Option, None, Some, if◌then◌else◌, nat_le}
use Rattle.replay_lists.specs.Contract.{HeldBefore}
use Rattle.replay_lists.specs.declared.Opening.{Opening}
use Rattle.replay_lists.specs.declared.LentRoom.{LentRoom}

-- number k, of its two bytes, the lesser first
abbrev pub number_at : List ℕ → ℕ → ℕ
number_at bytes k = get_or bytes (2 * k) 0 + 256 * get_or bytes (2 * k + 1) 0

-- the fifteen numbers in their order
abbrev pub opening_of : List ℕ → Opening
opening_of bytes =
    record {
      pass = number_at bytes 0;
      width = number_at bytes 1;
      height = number_at bytes 2;
      cells = number_at bytes 3;
      spans = number_at bytes 4;
      boundaries = number_at bytes 5;
      anchors = number_at bytes 6;
      labels = number_at bytes 7;
      masks = number_at bytes 8;
      queue = number_at bytes 9;
      tallies = number_at bytes 10;
      pairs = number_at bytes 11;
      records = number_at bytes 12;
      output = number_at bytes 13;
      sheet = number_at bytes 14;
    }

-- the opening that an input begins with: none where fewer than thirty bytes are left
abbrev pub next_opening : List ℕ → Option Opening
next_opening bytes = if nat_le 30 (length bytes) then Some (opening_of (take 30 bytes)) else None

-- what is left of an input behind its first case: nothing where fewer bytes are left than an opening has, or than the opening says of the sheet
abbrev pub behind_case : List ℕ → List ℕ
behind_case bytes = if nat_le 30 (length bytes) then drop (opening_of (take 30 bytes)).sheet (drop 30 bytes) else []

-- behind the first n
unfoldable pub behind_cases : ℕ → List ℕ → List ℕ
behind_cases zero bytes = bytes
behind_cases (suc n) bytes = behind_case (behind_cases n bytes)

-- each list of a room holds what lists hold before a call
pub record RoomBefore (room : LentRoom) : Type 0 where
  pub labels : HeldBefore (λ x y. y ≡ x) 4096 room.labels
  pub masks : HeldBefore (λ x y. y ≡ x) 4096 room.masks
  pub queue : HeldBefore (λ x y. y ≡ x) 4096 room.queue
  pub tallies : HeldBefore (λ x y. y ≡ x) 4096 room.tallies
  pub pairs : HeldBefore (λ x y. y ≡ x) 4096 room.pairs

-- the first entries of a list, as many as are asked for, at most 4096
abbrev pub lent_of : ℕ → List ℕ → List ℕ
lent_of asked l = take (min asked 4096) l
