-- What a read and a write answer, and what a write leaves. Every promise on bytes is made in these words.
use Rattle.std.specs.Prelude.{ℕ, ◌<◌, cond, List, length, Ok, Err, Result, nat_lt, slice_index, slice_set}
use Rattle.fault.specs.Faults.{fault}
use Rattle.fault.specs.declared.fault.Fault.{Fault}
use Rattle.fault.specs.declared.layer.Layer.TheVariants.{Store}
use Rattle.fault.specs.declared.reason.Reason.TheVariants.{Bounds}

-- the refusal of a byte number at or past the length
abbrev pub outside : ℕ → Fault
outside at = fault Bounds Store at

abbrev pub read_answer : List ℕ → ℕ → Result ℕ Fault
read_answer bytes at = cond (nat_lt at (length bytes)) (Ok (slice_index bytes at)) (Err (outside at))

abbrev pub write_answer : List ℕ → ℕ → Result (Unit {0}) Fault
write_answer bytes at = cond (nat_lt at (length bytes)) (Ok tt) (Err (outside at))

-- one byte is another, and none where the number is at or past the length
abbrev pub written_bytes : List ℕ → ℕ → ℕ → List ℕ
written_bytes bytes at value = slice_set bytes at value

-- each number is a byte
abbrev pub Octets : List ℕ → Type 0
Octets bytes = (at : ℕ) → slice_index bytes at < 256
