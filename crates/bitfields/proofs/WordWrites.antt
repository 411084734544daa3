-- A field that lies in a word is written by replacing the word's bytes.
use Rattle.std.proofs.Common.{◌≡◌, ℕ, zero, suc, ◌+◌, ◌-◌, ◌*◌, ◌/◌, ◌%◌, ◌^◌, ◌<◌, ◌≤◌, cond, ◌≢◌, ◌⊎◌, List, length, get_or, sym, refl, ap, ◌∙◌, subst, inl, inr, arith, length-set, get_or-set_other, pow-add, shr_lt}
use lib.Arith.{digits_lt}
use Rattle.std.proofs.lemmas.Bool.{cases_lt}
use Rattle.std.proofs.lemmas.Bool.Decides.{nat_tests}
use Rattle.std.proofs.lemmas.Nat.Bits.{bit_at_cat_low, bit_at_cat_high}
use Rattle.std.proofs.lemmas.Grind.{common_steps}
use Rattle.placement.specs.Word.{Word, Whole, spot, weight, byte_in}
use Rattle.bitfields.specs.Field.{Bytes, bit, bit_at, put}
use Rattle.bitfields.specs.Reading.{word_number, field_in}
use Rattle.bitfields.specs.Writing.{replaced, word_with, stored, WritingLaws}
use Rattle.bitfields.proofs.Fields.{bit_low, bit_shift, low_rest, set_byte, put_only}
use Rattle.placement.proofs.Words.{weight_below, words_stand}
use Rattle.bitfields.proofs.WordReads.{word-bit, number_below}

module _ (v m d code : ℕ) (c : code < 2 ^ d) where
  replaced_low : (k : ℕ) → k < m → bit (replaced v m d code) k ≡ bit v k
  replaced_low k h = bit_at_cat_low (v / 2 ^ (m + d) * 2 ^ d + code) m (v % 2 ^ m) k h ∙ sym (bit_low v m k h)

  replaced_in : (k : ℕ) → m ≤ k → k < m + d → bit (replaced v m d code) k ≡ bit code (k - m)
  replaced_in k h l =
      bit_at_cat_high (v / 2 ^ (m + d) * 2 ^ d + code) m (v % 2 ^ m) k (low_rest v m) h
      ∙ bit_at_cat_low (v / 2 ^ (m + d)) d code (k - m) (omega arith)

  replaced-high : (k : ℕ) → m + d ≤ k → bit (replaced v m d code) k ≡ bit v k
  replaced-high k h =
      bit_at_cat_high (v / 2 ^ (m + d) * 2 ^ d + code) m (v % 2 ^ m) k (low_rest v m) (omega arith)
      ∙ bit_at_cat_high (v / 2 ^ (m + d)) d code (k - m) c (omega arith)
      ∙ ap (bit (v / 2 ^ (m + d))) e ∙ sym (bit_shift v (m + d) k h)
    where
      e : k - m - d ≡ k - (m + d)
      e = omega arith

  replaced_below : (n : ℕ) → m + d ≤ n → v < 2 ^ n → replaced v m d code < 2 ^ n
  replaced_below n h l =
      subst (λ (x : ℕ). replaced v m d code < x)
      (ap (λ (x : ℕ). x * 2 ^ m) (sym (pow-add 2 (n - (m + d)) d)) ∙ sym (pow-add 2 (n - (m + d) + d) m) ∙ ap (λ (x : ℕ). 2 ^ x) e)
      (digits_lt (digits_lt (shr_lt (n - (m + d)) (m + d) (subst (λ (x : ℕ). v < 2 ^ x) (sym e') l)) c) (low_rest v m))
    where
      e : n - (m + d) + d + m ≡ n
      e = omega arith

      e' : n - (m + d) + (m + d) ≡ n
      e' = omega arith

-- the bytes of a word
byte_in_low : (w : Word) (k : ℕ) → k < 8 * w.size → w.first ≤ byte_in w k
byte_in_low w k h = omega arith

byte_in-high : (w : Word) (k : ℕ) → k < 8 * w.size → byte_in w k < w.first + w.size
byte_in-high w k h = grind (arith, nat_tests)

byte_in_own : (w : Word) (k j : ℕ) → k < 8 * w.size → j < 8 * w.size → byte_in w k ≡ byte_in w j → k / 8 ≡ j / 8
byte_in_own w k j h l e = grind (arith, nat_tests)

byte_in_same : (w : Word) (k j : ℕ) → k / 8 ≡ j / 8 → byte_in w k ≡ byte_in w j
byte_in_same w k j e = ap (λ (x : ℕ). w.first + cond w.little x (w.size - 1 - x)) e

-- each byte from `first` on is the byte of some weight
abbrev weight_at : Word → ℕ → ℕ
weight_at w b = 8 * cond w.little (b - w.first) (w.size - 1 - (b - w.first))

weight_at_below : (w : Word) (b : ℕ) → w.first ≤ b → b < w.first + w.size → weight_at w b + 7 < 8 * w.size
weight_at_below w b h l = grind (arith, nat_tests)

weight_at_is : (w : Word) (b k : ℕ) → w.first ≤ b → b < w.first + w.size → k < 8 → byte_in w (weight_at w b + k) ≡ b
weight_at_is w b k h l g = grind (arith, nat_tests)

weight_at_mod : (w : Word) (b k : ℕ) → k < 8 → (weight_at w b + k) % 8 ≡ k
weight_at_mod w b k h = omega arith

length-stored : (bytes : List ℕ) (w : Word) (v n : ℕ) → length (stored bytes w v n) ≡ length bytes
length-stored bytes w v zero = refl
length-stored bytes w v (suc n) = length-set _ _ _ ∙ length-stored bytes w v n

stored_out : (bytes : List ℕ) (w : Word) (v n b : ℕ) → ((j : ℕ) → j < n → b ≢ byte_in w (8 * j)) → get_or (stored bytes w v n) b 0 ≡ get_or bytes b 0
stored_out bytes w v zero b f = refl
stored_out bytes w v (suc n) b f =
    get_or-set_other (stored bytes w v n) (byte_in w (8 * n)) b _ 0 (f n (omega arith)) ∙ stored_out bytes w v n b (λ j h. f j (omega arith))

stored_in : (bytes : List ℕ) (w : Word) (v n : ℕ) → n ≤ w.size → w.first + w.size ≤ length bytes
    → (j : ℕ) → j < n → get_or (stored bytes w v n) (byte_in w (8 * j)) 0 ≡ v / 2 ^ (8 * j) % 256
stored_in bytes w v zero h g j l = absurd (omega arith)
stored_in bytes w v (suc n) h g j l =
    grind (
      arith,
      common_steps,
      stored_in bytes w v n (omega arith) g j,
      byte_in_own w (8 * j) (8 * n) (omega arith) (omega arith),
      length-stored bytes w v n,
      byte_in-high w (8 * n) (omega arith),
    )

bytes_stored : (bytes : List ℕ) (w : Word) (v n : ℕ) → Bytes bytes → Bytes (stored bytes w v n)
bytes_stored bytes w v zero a = a
bytes_stored bytes w v (suc n) a = set_byte (stored bytes w v n) (byte_in w (8 * n)) _ (omega arith) (bytes_stored bytes w v n a)

-- the bits of a stored word
stored-bit : (bytes : List ℕ) (w : Word) (v : ℕ) → w.first + w.size ≤ length bytes → (k : ℕ) → k < 8 * w.size
    → bit_at (stored bytes w v w.size) (8 * byte_in w k + (7 - k % 8)) ≡ bit v k
stored-bit bytes w v g k h =
    ap (λ (x : ℕ). bit (get_or (stored bytes w v w.size) x 0) (7 - (8 * byte_in w k + (7 - k % 8)) % 8)) e1
    ∙ ap (bit (get_or (stored bytes w v w.size) (byte_in w (8 * (k / 8))) 0)) e2
    ∙ ap (λ (x : ℕ). bit x (k % 8)) (stored_in bytes w v w.size (omega arith) g (k / 8) (omega arith))
    ∙ sym (bit_low (v / 2 ^ (8 * (k / 8))) 8 (k % 8) (omega arith))
    ∙ ap (bit (v / 2 ^ (8 * (k / 8)))) e3
    ∙ sym (bit_shift v (8 * (k / 8)) k (omega arith))
  where
    e0 : byte_in w k ≡ byte_in w (8 * (k / 8))
    e0 = byte_in_same w k (8 * (k / 8)) (omega arith)

    e1 : (8 * byte_in w k + (7 - k % 8)) / 8 ≡ byte_in w (8 * (k / 8))
    e1 = omega (arith, e0)

    e2 : 7 - (8 * byte_in w k + (7 - k % 8)) % 8 ≡ k % 8
    e2 = omega arith

    e3 : k % 8 ≡ k - 8 * (k / 8)
    e3 = omega arith

stored_is_put : (w : Word) (bytes : List ℕ) (code : ℕ) → Whole w → Bytes bytes → w.first + w.size ≤ length bytes → code < 2 ^ w.depth
    → stored bytes w (word_with bytes w code) w.size ≡ put (field_in w) code bytes
stored_is_put w bytes code h a g c =
    put_only (field_in w) code bytes (stored bytes w v' w.size)
    (record { within = λ i l. omega (arith, ((words_stand w h).1 i l).1); own = (words_stand w h).0 })
    a (bytes_stored bytes w v' w.size a) (length-stored bytes w v' w.size) inside outside
  where
    v : ℕ
    v = word_number bytes w

    v' : ℕ
    v' = replaced v w.low w.depth code

    inside : (i : ℕ) → i < w.depth → bit_at (stored bytes w v' w.size) (spot w i) ≡ bit code (w.depth - 1 - i)
    inside i l =
        stored-bit bytes w v' g (weight w i) (weight_below w h i l)
        ∙ replaced_in v w.low w.depth code c (weight w i) (omega arith) (omega arith)
        ∙ ap (bit code) e
      where
        e : weight w i - w.low ≡ w.depth - 1 - i
        e = omega arith

    kept : (k : ℕ) → k < 8 * w.size → ((i : ℕ) → i < w.depth → spot w i ≢ 8 * byte_in w k + (7 - k % 8)) → bit v' k ≡ bit v k
    kept k l f =
        grind (
          arith,
          h.some,
          replaced_low v w.low w.depth code c k,
          replaced-high v w.low w.depth code c k,
          f (w.low + w.depth - 1 - k),
        )

    outside : (q : ℕ) → ((i : ℕ) → i < w.depth → spot w i ≢ q) → bit_at (stored bytes w v' w.size) q ≡ bit_at bytes q
    outside q f = go (cases_lt (q / 8) w.first) (cases_lt (q / 8) (w.first + w.size))
      where
        out : ((j : ℕ) → j < w.size → q / 8 ≢ byte_in w (8 * j)) → bit_at (stored bytes w v' w.size) q ≡ bit_at bytes q
        out n = ap (λ (x : ℕ). bit x (7 - q % 8)) (stored_out bytes w v' w.size (q / 8) n)

        go : (q / 8 < w.first) ⊎ (w.first ≤ q / 8) → (q / 8 < w.first + w.size) ⊎ (w.first + w.size ≤ q / 8)
            → bit_at (stored bytes w v' w.size) q ≡ bit_at bytes q
        go (inl l) r = out (λ j m e. omega (arith, byte_in_low w (8 * j) (omega arith), e, l))
        go (inr l) (inr r) = out (λ j m e. omega (arith, byte_in-high w (8 * j) (omega arith), e, r))
        go (inr l) (inl r) =
            ap (bit_at (stored bytes w v' w.size)) (sym at) ∙ stored-bit bytes w v' g k below
            ∙ kept k below (λ i m e. f i m (e ∙ at)) ∙ sym (word-bit w bytes a k below) ∙ ap (bit_at bytes) at
          where
            k : ℕ
            k = weight_at w (q / 8) + (7 - q % 8)

            below : k < 8 * w.size
            below = omega (arith, weight_at_below w (q / 8) l r)

            at : 8 * byte_in w k + (7 - k % 8) ≡ q
            at = omega (arith, weight_at_is w (q / 8) (7 - q % 8) l r (omega arith), weight_at_mod w (q / 8) (7 - q % 8) (omega arith))

pub writing_laws : WritingLaws
writing_laws = record {
  number_below = λ w bytes code h a c.
      replaced_below (word_number bytes w) w.low w.depth code c (8 * w.size) h.inside (number_below w bytes a);
  put_word = λ w bytes code h a g c. sym (stored_is_put w bytes code h a g c);
}
