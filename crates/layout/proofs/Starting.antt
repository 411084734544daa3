-- Where lines begin stays small.
use Rattle.std.proofs.Common.{◌≡◌, ℕ, suc, ◌+◌, ◌*◌, ◌<◌, ◌≤◌, ap, ◌∙◌, mul-le-mul_right, arith}
use Rattle.placement.specs.Grid.{summed}
use Rattle.placement.proofs.Boxes.{summed_mono}

-- the tiles before one of them are no more than the frame
pub tiles_below : (tile tiles each size : ℕ) → tile < tiles → each ≡ size → tiles * size ≤ 4294967295 → tile * each ≤ 4294967295
tiles_below tile tiles each size h e s =
    let l : tile ≤ tiles = omega arith in
    omega (arith, mul-le-mul_right each l, ap (λ (x : ℕ). tiles * x) e)

-- three equal numbers in the place of three others
pub three : (F : ℕ → ℕ → ℕ → ℕ) {a b c x y z : ℕ} → a ≡ x → b ≡ y → c ≡ z → F a b c ≡ F x y z
three F {a} {b} {c} {x} {y} {z} p q r = ap (λ (n : ℕ). F n b c) p ∙ ap (λ (n : ℕ). F x n c) q ∙ ap (λ (n : ℕ). F x y n) r

-- all tiles of a group and of those before it are no more than the frame
pub groups_below : (F : ℕ → ℕ) (g n : ℕ) → g < n → summed F n ≤ 4294967295 → summed F g + F g ≤ 4294967295
groups_below F g n h s = omega (arith, summed_mono F (suc g) n h)
