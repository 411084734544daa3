-- Each choice has one number, and each number of a choice is its own.
use Rattle.std.proofs.Common.{◌≡◌, ℕ, ◌+◌, ◌*◌, ◌/◌, ◌%◌, ◌<◌, ◌≤◌, Bool, true, false, cond, eqb, Some, None, Option, sym, refl, ap, ◌∙◌, subst, arith, lit≤, eq-eqb, eqb-true}
use native.Mathlib.Nat.{div-div-eq-div-mul}
use borrow.Author.Tests.{eqb-false}
use Rattle.choices.specs.Choices.{format_of, format_number, sampling_of, sampling_number, interleave_of, interleave_number}
use Rattle.choices.specs.Flags.{bit, flags_in, flags_of, flags_byte}
use Rattle.choices.specs.declared.choice.Format.{Format}
use Rattle.choices.specs.declared.choice.Format.TheVariants.{Integer, Float, Complex}
use Rattle.choices.specs.declared.choice.Interleave.{Interleave}
use Rattle.choices.specs.declared.choice.Interleave.TheVariants.{Component, Pixel, Mixed, Row, TileComponent, MultiY}
use Rattle.choices.specs.declared.choice.Sampling.{Sampling}
use Rattle.choices.specs.declared.choice.Sampling.TheVariants.{Full, Yuv422, Yuv420, Yuv411}
use Rattle.choices.specs.declared.flags.Flags.{Flags}

some_same : {A : Type 0} (x y : A) → ◌≡◌ {A = Option A} (Some x) (Some y) → x ≡ y
some_same x y h = cc

-- the choice of n among several: it is the first, whose number is k, or one of the others
pub one_of : {A : Type 0} (number : A → ℕ) (n k : ℕ) (first x : A) (others : Option A) → number first ≡ k → (others ≡ Some x → number x ≡ n) → cond (eqb n k) (Some first) others ≡ Some x → number x ≡ n
one_of number n k first x others e rest h = go (eqb n k) refl h
  where
    go : (t : Bool) → eqb n k ≡ t → cond t (Some first) others ≡ Some x → number x ≡ n
    go true t h = ap number (sym (some_same first x h)) ∙ e ∙ sym (eqb-true n k t)
    go false t h = rest h

pub no_choice : {A : Type 0} (number : A → ℕ) (n : ℕ) (x : A) → None ≡ Some x → number x ≡ n
no_choice number n x h = let z : ◌≡◌ {A = ℕ} 0 1 = cc in absurd (omega arith)

pub format_number_lem : (n : ℕ) (x : Format) → format_of n ≡ Some x → format_number x ≡ n
format_number_lem n x =
    let N = format_number in
    one_of N n 0 Integer x _ refl (one_of N n 1 Float x _ refl (one_of N n 2 Complex x _ refl (no_choice N n x)))

pub number_format : (x : Format) → format_of (format_number x) ≡ Some x
number_format Integer = refl
number_format Float = refl
number_format Complex = refl

pub sampling_number_lem : (n : ℕ) (x : Sampling) → sampling_of n ≡ Some x → sampling_number x ≡ n
sampling_number_lem n x =
    let N = sampling_number in
    one_of N n 0 Full x _ refl (one_of N n 1 Yuv422 x _ refl (one_of N n 2 Yuv420 x _ refl (one_of N n 3 Yuv411 x _ refl (no_choice N n x))))

pub number_sampling : (x : Sampling) → sampling_of (sampling_number x) ≡ Some x
number_sampling Full = refl
number_sampling Yuv422 = refl
number_sampling Yuv420 = refl
number_sampling Yuv411 = refl

pub interleave_number_lem : (n : ℕ) (x : Interleave) → interleave_of n ≡ Some x → interleave_number x ≡ n
interleave_number_lem n x =
    let N = interleave_number in
    one_of N n 0 Component x _ refl (one_of N n 1 Pixel x _ refl (one_of N n 2 Mixed x _ refl
    (one_of N n 3 Row x _ refl (one_of N n 4 TileComponent x _ refl (one_of N n 5 MultiY x _ refl (no_choice N n x))))))

pub number_interleave : (x : Interleave) → interleave_of (interleave_number x) ≡ Some x
number_interleave Component = refl
number_interleave Pixel = refl
number_interleave Mixed = refl
number_interleave Row = refl
number_interleave TileComponent = refl
number_interleave MultiY = refl

-- a flag as a digit
abbrev digit : Bool → ℕ
digit b = cond b 1 0

digit_small : (b : Bool) → digit b ≤ 1
digit_small true = lit≤ tt
digit_small false = lit≤ tt

digit_flag : (b : Bool) → eqb (digit b) 1 ≡ b
digit_flag true = refl
digit_flag false = refl

weighs : (b : Bool) (w : ℕ) → cond b w 0 ≡ w * digit b
weighs true w = omega arith
weighs false w = omega arith

-- the digit of a bit
bit_digit : (w n : ℕ) → n / w % 2 < 2 → digit (bit w n) ≡ n / w % 2
bit_digit w n h = go (eqb (n / w % 2) 1) refl
  where
    go : (t : Bool) → eqb (n / w % 2) 1 ≡ t → digit t ≡ n / w % 2
    go true t = sym (eqb-true (n / w % 2) 1 t)
    go false t = let ne = eqb-false (n / w % 2) 1 t in omega arith

-- the weight of a bit where it is set
weight_of : (w n : ℕ) → n / w % 2 < 2 → cond (bit w n) w 0 ≡ w * (n / w % 2)
weight_of w n h = weighs (bit w n) w ∙ ap (λ d. w * d) (bit_digit w n h)

add_five : (a b c d e p q r s t : ℕ) → a ≡ p → b ≡ q → c ≡ r → d ≡ s → e ≡ t → a + b + c + d + e ≡ p + q + r + s + t
add_five a b c d e p q r s t h0 h1 h2 h3 h4 = cc

-- five halvings of a number, and what each leaves
halvings : (n a b c d e p q r s t : ℕ) → n ≡ 8 * a → a ≡ 2 * b + p → b ≡ 2 * c + q → c ≡ 2 * d + r → d ≡ 2 * e + s → e ≡ t → 128 * t + 64 * s + 32 * r + 16 * q + 8 * p ≡ n
halvings n a b c d e p q r s t h0 h1 h2 h3 h4 h5 = omega arith

halved : (n w : ℕ) → n / w ≡ 2 * (n / (w * 2)) + n / w % 2
halved n w = let e = div-div-eq-div-mul n w 2 in let m = n / w in omega arith

-- a byte whose three lowest bits are 0 is made of the five others
pub flags_number : (n : ℕ) (x : Flags) → n < 256 → flags_of n ≡ Some x → flags_byte x ≡ n
flags_number n x h = go (eqb (n % 8) 0) refl
  where
    go : (t : Bool) → eqb (n % 8) 0 ≡ t → cond t (Some (flags_in n)) None ≡ Some x → flags_byte x ≡ n
    go true t e =
        let z = eqb-true (n % 8) 0 t in
        let eight : n ≡ 8 * (n / 8) = omega arith in
        let top : n / 128 ≡ n / 128 % 2 = omega arith in
        ap flags_byte (sym (some_same (flags_in n) x e))
        ∙ add_five _ _ _ _ _ _ _ _ _ _ (weight_of 128 n (omega arith)) (weight_of 64 n (omega arith)) (weight_of 32 n (omega arith)) (weight_of 16 n (omega arith)) (weight_of 8 n (omega arith))
        ∙ halvings n (n / 8) (n / 16) (n / 32) (n / 64) (n / 128) _ _ _ _ _ eight (halved n 8) (halved n 16) (halved n 32) (halved n 64) top
    go false t e = no_choice flags_byte n x e

-- five digits in a byte
pub record Digits (n p q r s t : ℕ) : Type 0 where
  pub low : n % 8 ≡ 0
  pub first : n / 128 % 2 ≡ p
  pub second : n / 64 % 2 ≡ q
  pub third : n / 32 % 2 ≡ r
  pub fourth : n / 16 % 2 ≡ s
  pub fifth : n / 8 % 2 ≡ t

digits : (p q r s t : ℕ) → p ≤ 1 → q ≤ 1 → r ≤ 1 → s ≤ 1 → t ≤ 1 → Digits (128 * p + 64 * q + 32 * r + 16 * s + 8 * t) p q r s t
digits p q r s t h0 h1 h2 h3 h4 =
    record { low = omega arith; first = omega arith; second = omega arith; third = omega arith; fourth = omega arith; fifth = omega arith }

bit_flag : (w n : ℕ) (b : Bool) → n / w % 2 ≡ digit b → bit w n ≡ b
bit_flag w n b e = ap (λ d. eqb d 1) e ∙ digit_flag b

pub number_flags : (x : Flags) → (flags_of (flags_byte x) ≡ Some x) × (flags_byte x < 256)
number_flags x =
    let p = x.components_little_endian in
    let q = x.pad_low in
    let r = x.block_little_endian in
    let s = x.block_reversed in
    let t = x.pad_unknown in
    let n = flags_byte x in
    let sum : 128 * digit p + 64 * digit q + 32 * digit r + 16 * digit s + 8 * digit t ≡ n =
    sym (add_five _ _ _ _ _ _ _ _ _ _ (weighs p 128) (weighs q 64) (weighs r 32) (weighs s 16) (weighs t 8)) in
    let h0 = digit_small p in
    let h1 = digit_small q in
    let h2 = digit_small r in
    let h3 = digit_small s in
    let h4 = digit_small t in
    let d : Digits n (digit p) (digit q) (digit r) (digit s) (digit t) = subst (λ k. Digits k (digit p) (digit q) (digit r) (digit s) (digit t)) sum (digits (digit p) (digit q) (digit r) (digit s) (digit t) h0 h1 h2 h3 h4) in
    let f0 = bit_flag 128 n p d.first in
    let f1 = bit_flag 64 n q d.second in
    let f2 = bit_flag 32 n r d.third in
    let f3 = bit_flag 16 n s d.fourth in
    let f4 = bit_flag 8 n t d.fifth in
    let same : flags_in n ≡ x =
    λ i. record { components_little_endian = f0 i; pad_low = f1 i; block_little_endian = f2 i; block_reversed = f3 i; pad_unknown = f4 i } in
    (ap (λ b. cond b (Some (flags_in n)) None) (eq-eqb (n % 8) 0 d.low) ∙ ap Some same, omega arith)
