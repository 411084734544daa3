-- Sums of what comes before.
use Rattle.std.proofs.Common.{◌≡◌, ℕ, zero, suc, ◌+◌, ◌*◌, ◌≤◌, length, ap, ◌∙◌, arith}
use Rattle.std.proofs.Math.Nat.{mul-add}
use Rattle.std.proofs.lemmas.List.{length-map}
use Rattle.choices.specs.declared.choice.Interleave.{Interleave}
use Rattle.choices.specs.declared.choice.Interleave.TheVariants.{Component, Pixel, Mixed, Row, TileComponent, MultiY}
use Rattle.placement.specs.Grid.{summed}
use Rattle.plans.specs.Facts.{Facts}
use Rattle.plans.specs.Views.{View, alone, strips_by}

pub groups_few : (v : View) → Facts v → (i : Interleave) → length (strips_by i v) ≤ 16
groups_few v f Component = omega (arith, f.few, length-map v.entries (alone v))
groups_few v f Pixel = omega arith
groups_few v f Mixed = omega arith
groups_few v f Row = omega (arith, f.few, length-map v.entries (alone v))
groups_few v f TileComponent = omega (arith, f.few, length-map v.entries (alone v))
groups_few v f MultiY = omega arith

-- so many times each
pub summed_times : (t : ℕ) (f : ℕ → ℕ) (n : ℕ) → t * summed f n ≡ summed (λ h. t * f h) n
summed_times t f zero = omega arith
summed_times t f (suc n) = mul-add t (summed f n) (f n) ∙ ap (λ (x : ℕ). x + t * f n) (summed_times t f n)
