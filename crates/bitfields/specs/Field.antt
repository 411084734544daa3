-- Fields of bits in a run of bytes: what they spell, and how a number is put there.
use Rattle.std.specs.Prelude.{◌≡◌, ℕ, zero, suc, ◌+◌, ◌-◌, ◌*◌, ◌/◌, ◌%◌, ◌^◌, ◌<◌, ◌≢◌, List, length, slice_index, slice_set}

-- bit k of a number, bit 0 being the lowest
abbrev pub bit : ℕ → ℕ → ℕ
bit n k = n / 2 ^ k % 2

-- the number n with its bit k made b
abbrev pub with_bit : ℕ → ℕ → ℕ → ℕ
with_bit n k b = n / 2 ^ (k + 1) * 2 ^ (k + 1) + (b * 2 ^ k + n % 2 ^ k)

-- bit q of the bytes, counted from the highest bit of the first byte
abbrev pub bit_at : List ℕ → ℕ → ℕ
bit_at bytes q = bit (slice_index bytes (q / 8)) (7 - q % 8)

-- the bytes with their bit q made b
abbrev pub set_bit : List ℕ → ℕ → ℕ → List ℕ
set_bit bytes q b = slice_set bytes (q / 8) (with_bit (slice_index bytes (q / 8)) (7 - q % 8) b)

-- each number is that of a byte
abbrev pub Bytes : List ℕ → Type 0
Bytes bytes = (k : ℕ) → slice_index bytes k < 256

-- `depth` bits, the highest first: bit i stands at `spots i`
pub record Field : Type 0 where
  pub depth : ℕ
  pub spots : ℕ → ℕ

-- the number that the first n digits spell
abbrev pub spelled : (ℕ → ℕ) → ℕ → ℕ
spelled digit zero = 0
spelled digit (suc n) = 2 * spelled digit n + digit n

-- the number that the field's bits spell
abbrev pub spell : Field → List ℕ → ℕ
spell x bytes = spelled (λ i. bit_at bytes (x.spots i)) x.depth

-- the first n bits of the field made those of the code
abbrev pub putting : Field → ℕ → ℕ → List ℕ → List ℕ
putting x code zero bytes = bytes
putting x code (suc n) bytes = set_bit (putting x code n bytes) (x.spots n) (bit code (x.depth - 1 - n))

-- the field's bits made those of the code
abbrev pub put : Field → ℕ → List ℕ → List ℕ
put x code bytes = putting x code x.depth bytes

-- the field's bits are different from each other, and lie in so many bytes
pub record Distinct (x : Field) (size : ℕ) : Type 0 where
  pub within : (i : ℕ) → i < x.depth → x.spots i < 8 * size
  pub own : (i j : ℕ) → i < x.depth → j < x.depth → x.spots i ≡ x.spots j → i ≡ j

-- q is no bit of the field
abbrev pub Outside : Field → ℕ → Type 0
Outside x q = (i : ℕ) → i < x.depth → x.spots i ≢ q

-- no bit of one field is a bit of the other
abbrev pub Separate : Field → Field → Type 0
Separate x y = (i j : ℕ) → i < x.depth → j < y.depth → x.spots i ≢ y.spots j

pub record FieldLaws : Type 0 where
  pub length-put : (x : Field) (code : ℕ) (bytes : List ℕ) → length (put x code bytes) ≡ length bytes
  pub spell-put_same : (x : Field) (code : ℕ) (bytes : List ℕ) → Distinct x (length bytes) → code < 2 ^ x.depth → spell x (put x code bytes) ≡ code
  pub spell-put_other : (x y : Field) (code : ℕ) (bytes : List ℕ) → Separate x y → spell y (put x code bytes) ≡ spell y bytes
  pub bit-put_other : (x : Field) (code : ℕ) (bytes : List ℕ) (q : ℕ) → Outside x q → bit_at (put x code bytes) q ≡ bit_at bytes q
  pub byte-put_other : (x : Field) (code : ℕ) (bytes : List ℕ) (k : ℕ) → ((i : ℕ) → i < x.depth → x.spots i / 8 ≢ k)
      → slice_index (put x code bytes) k ≡ slice_index bytes k
  pub bytes_put : (x : Field) (code : ℕ) (bytes : List ℕ) → Bytes bytes → Bytes (put x code bytes)
  -- `put` gives the only bytes with the code's bits in the field and the old ones outside it
  pub put_only : (x : Field) (code : ℕ) (bytes r : List ℕ) → Distinct x (length bytes) → Bytes bytes → Bytes r → length r ≡ length bytes
      → ((i : ℕ) → i < x.depth → bit_at r (x.spots i) ≡ bit code (x.depth - 1 - i))
      → ((q : ℕ) → Outside x q → bit_at r q ≡ bit_at bytes q)
      → r ≡ put x code bytes
  pub spell_below : (x : Field) (bytes : List ℕ) → spell x bytes < 2 ^ x.depth
