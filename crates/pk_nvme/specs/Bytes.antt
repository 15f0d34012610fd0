-- Bytes in memory that is taken once: the bytes that are in it, and how many there is room for.
use Rattle.std.specs.Prelude.{ℕ, List}

pub record RoomyList : Type 0 where
  pub items : List ℕ
  pub room : ℕ
