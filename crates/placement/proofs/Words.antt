use Rattle.std.proofs.Common.{◌≡◌, ℕ, ◌+◌, ◌-◌, ◌*◌, ◌/◌, ◌%◌, ◌<◌, ◌≤◌, Bool, cond, arith}
use Rattle.std.proofs.lemmas.Bool.Decides.{nat_tests}
use Rattle.placement.specs.Word.{Word, weight, Whole, Own, WordsStand}

-- the spot of a weight, over plain numbers
abbrev pub spot_of : ℕ → ℕ → Bool → ℕ → ℕ
spot_of f n b k = 8 * (f + cond b (k / 8) (n - 1 - k / 8)) + (7 - k % 8)

pub spot_of_inj : (f n : ℕ) (b : Bool) (k l : ℕ) → k < 8 * n → l < 8 * n → spot_of f n b k ≡ spot_of f n b l → k ≡ l
spot_of_inj f n b k l h g e = grind (arith, nat_tests)

pub spot_of_low : (f n : ℕ) (b : Bool) (k : ℕ) → k < 8 * n → 8 * f ≤ spot_of f n b k
spot_of_low f n b k h = grind (arith, nat_tests)

pub spot_of_high : (f n : ℕ) (b : Bool) (k : ℕ) → k < 8 * n → spot_of f n b k < 8 * (f + n)
spot_of_high f n b k h = grind (arith, nat_tests)

pub weight_below : (w : Word) → Whole w → (i : ℕ) → i < w.depth → weight w i < 8 * w.size
weight_below w h i l = omega arith

pub own : (w : Word) → Whole w → Own w
own w h i j hi hj e =
    let k : weight w i ≡ weight w j = spot_of_inj w.first w.size w.little _ _ (weight_below w h i hi) (weight_below w h j hj) e in
    omega arith

pub words_stand : WordsStand
words_stand w h = (
  own w h,
  λ i l. (
    spot_of_low w.first w.size w.little _ (weight_below w h i l),
    spot_of_high w.first w.size w.little _ (weight_below w h i l),
  ),
)
