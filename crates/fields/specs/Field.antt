-- Numbers of a box, the most significant byte first, at an offset from its start; and how readers follow one another.
use Rattle.std.specs.Prelude.{ℕ, ◌+◌, ◌*◌, Bool, cond, List, length, take, drop, Some, None, Ok, Err, Option, Result, nat_le, slice_index}
use Rattle.fault.specs.Faults.{fault}
use Rattle.fault.specs.declared.fault.Fault.{Fault}
use Rattle.fault.specs.declared.layer.Layer.{Layer}
use Rattle.fault.specs.declared.reason.Reason.TheVariants.{Extent}

-- goes on with what was read, or passes the fault up
abbrev pub then : {A B E : Type 0} → Result A E → (A → Result B E) → Result B E
then (Ok x) f = f x
then (Err e) f = Err e

-- refuses unless b holds
abbrev pub check : Bool → Fault → Result (Unit {0}) Fault
check b f = cond b (Ok tt) (Err f)

-- refuses where there is no value
abbrev pub accepted : {A : Type 0} → Option A → Fault → Result A Fault
accepted (Some x) f = Ok x
accepted None f = Err f

-- the number of the w bytes from `at` on, which must lie in the box
abbrev pub field : ℕ → (List ℕ → ℕ → ℕ) → Layer → List ℕ → ℕ → Result ℕ Fault
field w value who xs at = cond (nat_le (at + w) (length xs)) (Ok (value xs at)) (Err (fault Extent who at))

-- the w bytes from `at` on, which must lie in the box
abbrev pub part_at : ℕ → Layer → List ℕ → ℕ → Result (List ℕ) Fault
part_at w who xs at = cond (nat_le (at + w) (length xs)) (Ok (take w (drop at xs))) (Err (fault Extent who at))

abbrev pub byte : List ℕ → ℕ → ℕ
byte xs at = slice_index xs at

abbrev pub half : List ℕ → ℕ → ℕ
half xs at = slice_index xs at * 256 + slice_index xs (at + 1)

abbrev pub three : List ℕ → ℕ → ℕ
three xs at = slice_index xs at * 65536 + slice_index xs (at + 1) * 256 + slice_index xs (at + 2)

abbrev pub word : List ℕ → ℕ → ℕ
word xs at = slice_index xs at * 16777216 + slice_index xs (at + 1) * 65536 + slice_index xs (at + 2) * 256 + slice_index xs (at + 3)

abbrev pub byte_at : Layer → List ℕ → ℕ → Result ℕ Fault
byte_at = field 1 byte

abbrev pub half_at : Layer → List ℕ → ℕ → Result ℕ Fault
half_at = field 2 half

abbrev pub word_at : Layer → List ℕ → ℕ → Result ℕ Fault
word_at = field 4 word
