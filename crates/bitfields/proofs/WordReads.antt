-- A field that lies in a word is read from the number of the word's bytes.
use Rattle.std.proofs.Common.{◌≡◌, ℕ, zero, suc, ◌+◌, ◌-◌, ◌*◌, ◌/◌, ◌%◌, ◌^◌, ◌<◌, ◌≤◌, List, get_or, sym, ap, ◌∙◌, subst, mod-lt, div-one, mul_comm, arith, pow_pos, pow-add, shr-shr}
use lib.Arith.{digits_lt}
use Rattle.std.proofs.lemmas.Bool.Decides.{nat_tests}
use Rattle.std.proofs.lemmas.Nat.Bits.{bit_at_cat_low, bit_at_cat_high}
use Rattle.placement.specs.Word.{Word, spot, weight, byte_in}
use Rattle.bitfields.specs.Field.{Bytes, bit, bit_at, spelled}
use Rattle.bitfields.specs.Reading.{big_number, little_number, word_number, ReadingLaws}
use Rattle.bitfields.proofs.Fields.{bit_low, spelled_same, spelled_code}
use Rattle.placement.proofs.Words.{weight_below}

-- the low byte, and what lies above it
join_low : (v b k : ℕ) → b < 256 → k < 8 → bit (256 * v + b) k ≡ bit b k
join_low v b k h l = ap (λ (x : ℕ). bit (x + b) k) (mul_comm 256 v) ∙ bit_at_cat_low v 8 b k l

join_high : (v b k : ℕ) → b < 256 → 8 ≤ k → bit (256 * v + b) k ≡ bit v (k - 8)
join_high v b k h l = ap (λ (x : ℕ). bit (x + b) k) (mul_comm 256 v) ∙ bit_at_cat_high v 8 b k h l

big_bit : (bytes : List ℕ) → Bytes bytes → (f n k : ℕ) → k < 8 * n → bit (big_number bytes f n) k ≡ bit (get_or bytes (f + (n - 1 - k / 8)) 0) (k % 8)
big_bit bytes a f zero k h = absurd (omega arith)
big_bit bytes a f (suc n) k h =
    grind (
      arith,
      join_low (big_number bytes f n) (get_or bytes (f + n) 0) k (a (f + n)),
      join_high (big_number bytes f n) (get_or bytes (f + n) 0) k (a (f + n)),
      big_bit bytes a f n (k - 8),
    )

little_bit : (bytes : List ℕ) → Bytes bytes → (n f k : ℕ) → k < 8 * n → bit (little_number bytes f n) k ≡ bit (get_or bytes (f + k / 8) 0) (k % 8)
little_bit bytes a zero f k h = absurd (omega arith)
little_bit bytes a (suc n) f k h =
    grind (
      arith,
      join_low (little_number bytes (f + 1) n) (get_or bytes f 0) k (a f),
      join_high (little_number bytes (f + 1) n) (get_or bytes f 0) k (a f),
      little_bit bytes a n (f + 1) (k - 8),
    )

-- a bit of the bytes is a bit of the word's number
pub word-bit : (w : Word) (bytes : List ℕ) → Bytes bytes → (k : ℕ) → k < 8 * w.size
    → bit_at bytes (8 * byte_in w k + (7 - k % 8)) ≡ bit (word_number bytes w) k
word-bit w bytes a k h =
    grind (arith, nat_tests, little_bit bytes a w.size w.first k h, big_bit bytes a w.first w.size k h)

-- the digits of v from the weight m + n down to m
spelled-field : (v n m : ℕ) → spelled (λ i. bit v (m + (n - 1 - i))) n ≡ v / 2 ^ m % 2 ^ n
spelled-field v n m =
    spelled_same (λ i. bit v (m + (n - 1 - i))) (λ i. bit (v / 2 ^ m % 2 ^ n) (0 + n - 1 - i)) n each
    ∙ spelled_code (v / 2 ^ m % 2 ^ n) n 0 (subst (λ (x : ℕ). v / 2 ^ m % 2 ^ n < 2 ^ x) none (mod-lt (v / 2 ^ m) (pow_pos n))) ∙ div-one (v / 2 ^ m % 2 ^ n)
  where
    none : n ≡ 0 + n
    none = omega arith

    each : (i : ℕ) → i < n → bit v (m + (n - 1 - i)) ≡ bit (v / 2 ^ m % 2 ^ n) (0 + n - 1 - i)
    each i l =
        ap (λ (x : ℕ). x % 2) (sym (shr-shr v m (n - 1 - i))) ∙ bit_low (v / 2 ^ m) n (n - 1 - i) (omega arith) ∙ ap (bit (v / 2 ^ m % 2 ^ n)) shift
      where
        shift : n - 1 - i ≡ 0 + n - 1 - i
        shift = omega arith

-- the number of n bytes is below 2 ^ (8 * n)
one_more : (v b n : ℕ) → v < 2 ^ (8 * n) → b < 256 → 256 * v + b < 2 ^ (8 * suc n)
one_more v b n h l = omega (arith, digits_lt h l, pow-add 2 (8 * n) 8, ap (λ (x : ℕ). 2 ^ x) e)
  where
    e : 8 * suc n ≡ 8 * n + 8
    e = omega arith

big_below : (bytes : List ℕ) → Bytes bytes → (f n : ℕ) → big_number bytes f n < 2 ^ (8 * n)
big_below bytes a f zero = omega arith
big_below bytes a f (suc n) = one_more (big_number bytes f n) (get_or bytes (f + n) 0) n (big_below bytes a f n) (a (f + n))

little_below : (bytes : List ℕ) → Bytes bytes → (n f : ℕ) → little_number bytes f n < 2 ^ (8 * n)
little_below bytes a zero f = omega arith
little_below bytes a (suc n) f = one_more (little_number bytes (f + 1) n) (get_or bytes f 0) n (little_below bytes a n (f + 1)) (a f)

pub number_below : (w : Word) (bytes : List ℕ) → Bytes bytes → word_number bytes w < 2 ^ (8 * w.size)
number_below w bytes a = grind (arith, nat_tests, little_below bytes a w.size w.first, big_below bytes a w.first w.size)

pub reading_laws : ReadingLaws
reading_laws = record {
  number_below = number_below;
  spell-word = λ w bytes h a.
      spelled_same (λ i. bit_at bytes (spot w i)) (λ i. bit (word_number bytes w) (w.low + (w.depth - 1 - i))) w.depth
      (λ i l. word-bit w bytes a (weight w i) (weight_below w h i l))
      ∙ spelled-field (word_number bytes w) w.depth w.low;
}
