-- What is written to the room of a caller.
use Rattle.std.specs.Prelude.{◌≡◌, ◌-◌, ◌^◌, ℕ, List, ◌++◌, drop, length, min, take}
use Rattle.infer_label.specs.declared.room.Room.{Room}

-- the room begins with the text, or with as much of it as it can hold, and is after it as it was at the start
abbrev pub laid : (text start : List ℕ) → List ℕ
laid text start = take (length start) text ++ drop (length text) start

abbrev pub saturated : ℕ → ℕ
saturated n = min n (2 ^ 64 - 1)

pub record Holds (start : List ℕ) (room : Room) (text : List ℕ) : Type 0 where
  pub begins : room.out.now ≡ laid text start
  pub length : room.len ≡ saturated (length text)

-- whatever it held, it holds these bytes after that
pub record Writes (old new : Room) (bytes : List ℕ) : Type 0 where
  pub more : (start text : List ℕ) → Holds start old text → Holds start new (text ++ bytes)
  pub same : new.out.ghost_name ≡ old.out.ghost_name
