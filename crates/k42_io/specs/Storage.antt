use Rattle.std.specs.Prelude.{ℕ, ◌+◌, ◌-◌, ◌^◌, nat_le, min, List, [], ◌++◌, length, take, Option, None, Some, if◌then◌else◌}

-- the room, the stored bytes, and how many bytes were written
pub record Shelf : Type 0 where
  pub room : ℕ
  pub stored : List ℕ
  pub written : ℕ

-- before the first write
abbrev pub empty_shelf : ℕ → Shelf
empty_shelf room = record { room = room; stored = []; written = 0 }

-- after more bytes: the first of all are stored, and the count stands still at the end of its type
abbrev pub after_store : Shelf → List ℕ → Shelf
after_store shelf bytes =
    record shelf {
      stored = take shelf.room (shelf.stored ++ bytes);
      written = min (shelf.written + length bytes) (2 ^ 64 - 1);
    }

-- the bytes written, which are told while there is room for all of them
abbrev pub told : Shelf → Option (List ℕ)
told shelf = if nat_le shelf.written shelf.room then Some shelf.stored else None
