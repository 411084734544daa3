-- A field that lies in a word, written by arithmetic on the number of the word's bytes.
use Rattle.std.specs.Prelude.{◌≡◌, ℕ, zero, suc, ◌+◌, ◌*◌, ◌/◌, ◌%◌, ◌^◌, ◌<◌, ◌≤◌, List, length, slice_set}
use Rattle.placement.specs.Word.{Word, Whole, byte_in}
use Rattle.bitfields.specs.Field.{Bytes, put}
use Rattle.bitfields.specs.Reading.{word_number, field_in}

-- v with the code in the d bits from the weight m up
abbrev pub replaced : ℕ → ℕ → ℕ → ℕ → ℕ
replaced v m d code = (v / 2 ^ (m + d) * 2 ^ d + code) * 2 ^ m + v % 2 ^ m

-- the number of the word's bytes with the code in place of the field
abbrev pub word_with : List ℕ → Word → ℕ → ℕ
word_with bytes w code = replaced (word_number bytes w) w.low w.depth code

-- the n lowest bytes of v in the word's bytes
abbrev pub stored : List ℕ → Word → ℕ → ℕ → List ℕ
stored bytes w v zero = bytes
stored bytes w v (suc n) = slice_set (stored bytes w v n) (byte_in w (8 * n)) (v / 2 ^ (8 * n) % 256)

pub record WritingLaws : Type 0 where
  pub number_below : (w : Word) (bytes : List ℕ) (code : ℕ) → Whole w → Bytes bytes → code < 2 ^ w.depth → word_with bytes w code < 2 ^ (8 * w.size)
  pub put_word : (w : Word) (bytes : List ℕ) (code : ℕ) → Whole w → Bytes bytes → w.first + w.size ≤ length bytes → code < 2 ^ w.depth
      → put (field_in w) code bytes ≡ stored bytes w (word_with bytes w code) w.size
