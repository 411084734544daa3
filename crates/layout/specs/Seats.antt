-- A seat in a line.
use Rattle.std.specs.Prelude.{ℕ, ◌<◌, List, length}
use Rattle.layout.specs.declared.seat.Seat.{Seat}
use Rattle.plans.specs.declared.entry.Entry.{Entry}

-- the entries, so many times over, have the seat
pub record Seated (es : List Entry) (count : ℕ) (s : Seat) : Type 0 where
  pub turn : s.turn < count
  pub slot : s.slot < length es
