-- What is written.
use Rattle.std.specs.Prelude.{ℕ, ◌+◌, ◌/◌, ◌%◌, cond, List, [], ◌∷◌, ◌++◌, length, take, drop, Ok, Err, Result, nat_le}
use Rattle.fault.specs.Faults.{fault}
use Rattle.fault.specs.declared.fault.Fault.{Fault}
use Rattle.fault.specs.declared.layer.Layer.{Layer}
use Rattle.fault.specs.declared.reason.Reason.TheVariants.{Room}

-- s stands in o from `at` on, and the rest of o stays
abbrev pub placed : List ℕ → ℕ → List ℕ → List ℕ
placed o at s = take at o ++ (s ++ drop (at + length s) o)

-- s is written to o at an offset where there is room for it, and else nothing is
abbrev pub put_at : List ℕ → ℕ → List ℕ → List ℕ
put_at o at s = cond (nat_le (at + length s) (length o)) (placed o at s) o

abbrev pub half_bytes : ℕ → List ℕ
half_bytes n = (n / 256 % 256) ∷ (n % 256) ∷ []

abbrev pub word_bytes : ℕ → List ℕ
word_bytes n = (n / 16777216 % 256) ∷ (n / 65536 % 256) ∷ (n / 256 % 256) ∷ (n % 256) ∷ []

-- a box: the size of the whole, the type word, and what it holds
abbrev pub boxed : ℕ → List ℕ → List ℕ
boxed type body = word_bytes (8 + length body) ++ (word_bytes type ++ body)

-- how many bytes were written, or that there is no room for them
abbrev pub write_answer : Layer → List ℕ → List ℕ → Result ℕ Fault
write_answer who bytes o = cond (nat_le (length bytes) (length o)) (Ok (length bytes)) (Err (fault Room who 0))

-- the bytes stand at the front and further bytes stay, or nothing changes
abbrev pub written_to : List ℕ → List ℕ → List ℕ
written_to bytes o = cond (nat_le (length bytes) (length o)) (placed o 0 bytes) o
