-- A field that lies in a word, read by arithmetic on the number of the word's bytes.
use Rattle.std.specs.Prelude.{◌≡◌, ℕ, zero, suc, ◌+◌, ◌*◌, ◌/◌, ◌%◌, ◌^◌, ◌<◌, cond, List, slice_index}
use Rattle.placement.specs.Word.{Word, Whole, spot}
use Rattle.bitfields.specs.Field.{Field, Bytes, spell}

-- the number of n bytes from the byte f, the first being the highest
abbrev pub big_number : List ℕ → ℕ → ℕ → ℕ
big_number bytes f zero = 0
big_number bytes f (suc n) = 256 * big_number bytes f n + slice_index bytes (f + n)

-- the same, the first being the lowest
abbrev pub little_number : List ℕ → ℕ → ℕ → ℕ
little_number bytes f zero = 0
little_number bytes f (suc n) = 256 * little_number bytes (f + 1) n + slice_index bytes f

-- the number of the word's bytes
abbrev pub word_number : List ℕ → Word → ℕ
word_number bytes w = cond w.little (little_number bytes w.first w.size) (big_number bytes w.first w.size)

-- the field that lies in a word
abbrev pub field_in : Word → Field
field_in w = record { depth = w.depth; spots = λ i. spot w i }

pub record ReadingLaws : Type 0 where
  pub number_below : (w : Word) (bytes : List ℕ) → Bytes bytes → word_number bytes w < 2 ^ (8 * w.size)
  pub spell-word : (w : Word) (bytes : List ℕ) → Whole w → Bytes bytes → spell (field_in w) bytes ≡ word_number bytes w / 2 ^ w.low % 2 ^ w.depth
