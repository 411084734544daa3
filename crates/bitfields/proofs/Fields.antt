-- Fields of bits: what was put in one is spelled there, and no other bit changes.
use Rattle.std.proofs.Common.{◌≡◌, ℕ, zero, suc, ◌+◌, ◌-◌, ◌*◌, ◌/◌, ◌%◌, ◌^◌, ◌<◌, ◌≤◌, ◌≢◌, ◌⊎◌, List, length, get_or, set, sym, refl, ap, ◌∙◌, subst, inl, inr, mod-lt, div-one, arith, length-set, get_or-set_other, get_or-set_same, ext_get_or, pow_pos, pow-add, shr-shr, shr_lt}
use native.Mathlib.Nat.{div-eq_of_lt}
use lib.Arith.{digits_lt}
use Rattle.std.proofs.lemmas.Nat.Bits.{bit_at-lt, same_from_bits_below, bit_at_cat_low, bit_at_cat_high}
use Rattle.std.proofs.lemmas.Nat.{shr_split}
use Rattle.std.proofs.lemmas.Grind.{common_steps}
use Rattle.placement.proofs.Again.{find}
use Rattle.bitfields.specs.Field.{bit, with_bit, bit_at, set_bit, Field, spelled, putting, put, Bytes, Distinct, Outside, FieldLaws}

pub low_rest : (n k : ℕ) → n % 2 ^ k < 2 ^ k
low_rest n k = mod-lt n (pow_pos k)

-- the low part of a number that has a bit replaced
low_part : (n k b : ℕ) → b < 2 → b * 2 ^ k + n % 2 ^ k < 2 ^ (k + 1)
low_part n k b h = omega (arith, digits_lt h (low_rest n k), pow-add 2 k 1)

bit_with_same : (n k b : ℕ) → b < 2 → bit (with_bit n k b) k ≡ b
bit_with_same n k b h =
    bit_at_cat_low (n / 2 ^ (k + 1)) (k + 1) (b * 2 ^ k + n % 2 ^ k) k (omega arith)
    ∙ bit_at_cat_high b k (n % 2 ^ k) k (low_rest n k) (omega arith) ∙ ap (bit b) e ∙ omega arith
  where
    e : k - k ≡ 0
    e = omega arith

-- bits below k are those of the remainder
pub bit_low : (n k j : ℕ) → j < k → bit n j ≡ bit (n % 2 ^ k) j
bit_low n k j h = ap (λ (x : ℕ). bit x j) (sym (shr_split n k)) ∙ bit_at_cat_low (n / 2 ^ k) k (n % 2 ^ k) j h

-- bits from m up are those of the quotient
pub bit_shift : (n m k : ℕ) → m ≤ k → bit n k ≡ bit (n / 2 ^ m) (k - m)
bit_shift n m k h = ap (λ (x : ℕ). bit x k) (sym (shr_split n m)) ∙ bit_at_cat_high (n / 2 ^ m) m (n % 2 ^ m) k (low_rest n m) h

bit_with_other : (n k b j : ℕ) → b < 2 → j ≢ k → bit (with_bit n k b) j ≡ bit n j
bit_with_other n k b j h ne =
    grind (
      arith,
      bit_at_cat_low (n / 2 ^ (k + 1)) (k + 1) (b * 2 ^ k + n % 2 ^ k) j,
      bit_at_cat_low b k (n % 2 ^ k) j,
      bit_low n k j,
      bit_at_cat_high (n / 2 ^ (k + 1)) (k + 1) (b * 2 ^ k + n % 2 ^ k) j (low_part n k b h),
      bit_shift n (k + 1) j,
    )

with_below : (n k b : ℕ) → b < 2 → k < 8 → n < 256 → with_bit n k b < 256
with_below n k b h l g =
    subst (λ (x : ℕ). with_bit n k b < x) (sym (pow-add 2 (8 - (k + 1)) (k + 1)) ∙ ap (λ (x : ℕ). 2 ^ x) e)
    (digits_lt (shr_lt (8 - (k + 1)) (k + 1) (subst (λ (x : ℕ). n < 2 ^ x) (sym e) g)) (low_part n k b h))
  where
    e : 8 - (k + 1) + (k + 1) ≡ 8
    e = omega arith

-- one bit of the bytes

pub bit_at-set_same : (bytes : List ℕ) (q b : ℕ) → q < 8 * length bytes → b < 2 → bit_at (set_bit bytes q b) q ≡ b
bit_at-set_same bytes q b h l =
    ap (λ (x : ℕ). bit x (7 - q % 8)) (get_or-set_same bytes (q / 8) _ 0 (omega arith)) ∙ bit_with_same (get_or bytes (q / 8) 0) (7 - q % 8) b l

pub bit_at-set_other : (bytes : List ℕ) (q b r : ℕ) → b < 2 → q ≢ r → bit_at (set_bit bytes q b) r ≡ bit_at bytes r
bit_at-set_other bytes q b r l ne =
    grind (arith, common_steps, bit_with_other (get_or bytes (q / 8) 0) (7 - q % 8) b (7 - r % 8) l)

-- a byte is written among bytes
pub set_byte : (bytes : List ℕ) (i v : ℕ) → v < 256 → Bytes bytes → Bytes (set bytes i v)
set_byte bytes i v h f k = grind (arith, common_steps, f k)

bytes_set : (bytes : List ℕ) (q b : ℕ) → b < 2 → Bytes bytes → Bytes (set_bit bytes q b)
bytes_set bytes q b l f =
    set_byte bytes (q / 8) _ (with_below (get_or bytes (q / 8) 0) (7 - q % 8) b l (omega arith) (f (q / 8))) f

-- a field

pub length-putting : (x : Field) (code n : ℕ) (bytes : List ℕ) → length (putting x code n bytes) ≡ length bytes
length-putting x code zero bytes = refl
length-putting x code (suc n) bytes = length-set _ _ _ ∙ length-putting x code n bytes

pub putting-outside : (x : Field) (code n : ℕ) (bytes : List ℕ) (q : ℕ) → ((i : ℕ) → i < n → x.spots i ≢ q)
    → bit_at (putting x code n bytes) q ≡ bit_at bytes q
putting-outside x code zero bytes q f = refl
putting-outside x code (suc n) bytes q f =
    bit_at-set_other (putting x code n bytes) (x.spots n) _ q (bit_at-lt code (x.depth - 1 - n)) (f n (omega arith))
    ∙ putting-outside x code n bytes q (λ i h. f i (omega arith))

pub putting_inside : (x : Field) (code n : ℕ) (bytes : List ℕ) → Distinct x (length bytes) → n ≤ x.depth
    → (i : ℕ) → i < n → bit_at (putting x code n bytes) (x.spots i) ≡ bit code (x.depth - 1 - i)
putting_inside x code zero bytes d h i l = absurd (omega arith)
putting_inside x code (suc n) bytes d h i l =
    grind (
      arith,
      putting_inside x code n bytes d (omega arith) i,
      bit_at-set_same (putting x code n bytes) (x.spots n) (bit code (x.depth - 1 - n)) (omega (arith, length-putting x code n bytes, d.within n (omega arith))) (bit_at-lt code (x.depth - 1 - n)),
      bit_at-set_other (putting x code n bytes) (x.spots n) (bit code (x.depth - 1 - n)) (x.spots i) (bit_at-lt code (x.depth - 1 - n)),
      d.own i n (omega arith) (omega arith),
    )

pub spelled_same : (f g : ℕ → ℕ) (n : ℕ) → ((i : ℕ) → i < n → f i ≡ g i) → spelled f n ≡ spelled g n
spelled_same f g zero h = refl
spelled_same f g (suc n) h = omega (arith, spelled_same f g n (λ i l. h i (omega arith)), h n (omega arith))

-- the digits of a code above its lowest m
pub spelled_code : (code n m : ℕ) → code < 2 ^ (m + n) → spelled (λ i. bit code (m + n - 1 - i)) n ≡ code / 2 ^ m
spelled_code code zero m h = sym (div-eq_of_lt (subst (λ (x : ℕ). code < 2 ^ x) e h))
  where
    e : m + 0 ≡ m
    e = omega arith
spelled_code code (suc n) m h =
    omega (
      arith,
      spelled_same (λ i. bit code (m + suc n - 1 - i)) (λ i. bit code (suc m + n - 1 - i)) n (λ i l. ap (bit code) (e i)),
      spelled_code code n (suc m) (subst (λ (x : ℕ). code < 2 ^ x) e' h),
      ap (bit code) e'',
      shr-shr code m 1 ∙ ap (λ (x : ℕ). code / 2 ^ x) e''',
    )
  where
    e : (i : ℕ) → m + suc n - 1 - i ≡ suc m + n - 1 - i
    e i = omega arith

    e' : m + suc n ≡ suc m + n
    e' = omega arith

    e'' : m + suc n - 1 - n ≡ m
    e'' = omega arith

    e''' : m + 1 ≡ suc m
    e''' = omega arith

spelled_below : (f : ℕ → ℕ) (n : ℕ) → ((i : ℕ) → f i < 2) → spelled f n < 2 ^ n
spelled_below f zero h = omega arith
spelled_below f (suc n) h = omega (arith, spelled_below f n h, h n)

pub bytes_putting : (x : Field) (code n : ℕ) (bytes : List ℕ) → Bytes bytes → Bytes (putting x code n bytes)
bytes_putting x code zero bytes f k = f k
bytes_putting x code (suc n) bytes f k =
    bytes_set (putting x code n bytes) (x.spots n) _ (bit_at-lt code (x.depth - 1 - n)) (bytes_putting x code n bytes f) k

-- a byte in which the field has no bit
putting-byte : (x : Field) (code n : ℕ) (bytes : List ℕ) (k : ℕ) → ((i : ℕ) → i < n → x.spots i / 8 ≢ k)
    → get_or (putting x code n bytes) k 0 ≡ get_or bytes k 0
putting-byte x code zero bytes k f = refl
putting-byte x code (suc n) bytes k f =
    get_or-set_other (putting x code n bytes) (x.spots n / 8) k _ 0 (λ e. f n (omega arith) (sym e))
    ∙ putting-byte x code n bytes k (λ i h. f i (omega arith))

pub bytes_same : (a b : List ℕ) → Bytes a → Bytes b → length a ≡ length b → ((q : ℕ) → q < 8 * length a → bit_at a q ≡ bit_at b q) → a ≡ b
bytes_same a b h l e f =
    ext_get_or 0 a b e (λ k g. same_from_bits_below 8 (get_or a k 0) (get_or b k 0) (h k) (l k) (λ j m. one k j g m))
  where
    one : (k j : ℕ) → k < length a → j < 8 → bit (get_or a k 0) j ≡ bit (get_or b k 0) j
    one k j g m = grind (arith, f (8 * k + (7 - j)) (omega arith))

pub put_only : (x : Field) (code : ℕ) (bytes r : List ℕ) → Distinct x (length bytes) → Bytes bytes → Bytes r → length r ≡ length bytes
    → ((i : ℕ) → i < x.depth → bit_at r (x.spots i) ≡ bit code (x.depth - 1 - i))
    → ((q : ℕ) → Outside x q → bit_at r q ≡ bit_at bytes q)
    → r ≡ put x code bytes
put_only x code bytes r d a b e inside outside =
    bytes_same r (put x code bytes) b (bytes_putting x code x.depth bytes a) (e ∙ sym (length-putting x code x.depth bytes))
    (λ q l. go q (find x.spots q x.depth))
  where
    go : (q : ℕ) → ((i : ℕ) × (i < x.depth) × (x.spots i ≡ q)) ⊎ ((i : ℕ) → i < x.depth → x.spots i ≢ q) → bit_at r q ≡ bit_at (put x code bytes) q
    go q (inl z) =
        ap (bit_at r) (sym z.2) ∙ inside z.0 z.1 ∙ sym (putting_inside x code x.depth bytes d (omega arith) z.0 z.1)
        ∙ ap (bit_at (put x code bytes)) z.2
    go q (inr f) = outside q f ∙ sym (putting-outside x code x.depth bytes q f)

pub field_laws : FieldLaws
field_laws = record {
  length-put = λ x code bytes. length-putting x code x.depth bytes;
  spell-put_same = λ x code bytes d h.
      spelled_same (λ i. bit_at (put x code bytes) (x.spots i)) (λ i. bit code (0 + x.depth - 1 - i)) x.depth
      (λ i l. putting_inside x code x.depth bytes d (omega arith) i l ∙ ap (bit code) (shift x.depth i))
      ∙ spelled_code code x.depth 0 (subst (λ (n : ℕ). code < 2 ^ n) (none x.depth) h) ∙ div-one code;
  spell-put_other = λ x y code bytes s.
      spelled_same (λ i. bit_at (put x code bytes) (y.spots i)) (λ i. bit_at bytes (y.spots i)) y.depth
      (λ j l. putting-outside x code x.depth bytes (y.spots j) (λ i h. s i j h l));
  bit-put_other = λ x code bytes q f. putting-outside x code x.depth bytes q f;
  byte-put_other = λ x code bytes k f. putting-byte x code x.depth bytes k f;
  bytes_put = λ x code bytes f k. bytes_putting x code x.depth bytes f k;
  put_only = put_only;
  spell_below = λ x bytes. spelled_below (λ i. bit_at bytes (x.spots i)) x.depth (λ i. bit_at-lt (get_or bytes (x.spots i / 8) 0) (7 - x.spots i % 8));
}
  where
    none : (d : ℕ) → d ≡ 0 + d
    none d = omega arith

    shift : (d i : ℕ) → d - 1 - i ≡ 0 + d - 1 - i
    shift d i = omega arith
