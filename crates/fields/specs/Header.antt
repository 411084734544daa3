-- What both boxes share: size and type word at the start, a count, and the end.
use Rattle.std.specs.Prelude.{ℕ, ◌&&◌, List, length, Ok, Result, ◌==◌, nat_le}
use Rattle.fault.specs.Faults.{fault}
use Rattle.fault.specs.declared.fault.Fault.{Fault}
use Rattle.fault.specs.declared.layer.Layer.{Layer}
use Rattle.fault.specs.declared.reason.Reason.TheVariants.{Extent, BoxType, Count}
use Rattle.fields.specs.Field.{then, check, word_at}

-- the size is that of the whole box, and the type is the one asked for
abbrev pub header_of : Layer → ℕ → List ℕ → Result (Unit {0}) Fault
header_of who type xs =
    then (word_at who xs 0) (λ size.
    then (check (size == length xs) (fault Extent who 0)) (λ _.
    then (word_at who xs 4) (λ found.
    check (found == type) (fault BoxType who 4))))

-- how many elements a list has, 1 to 16
abbrev pub count_at : Layer → List ℕ → ℕ → Result ℕ Fault
count_at who xs at =
    then (word_at who xs at) (λ n.
    then (check (nat_le 1 n && nat_le n 16) (fault Count who at)) (λ _.
    Ok n))

-- no byte is left over in a box of n bytes
abbrev pub end_at : Layer → ℕ → ℕ → Result (Unit {0}) Fault
end_at who n at = check (nat_le n at) (fault Extent who at)
