-- Boxes of one size side by side, and boxes of several sizes one after another.
use Rattle.std.proofs.Common.{◌≡◌, ℕ, zero, suc, ◌+◌, ◌-◌, ◌*◌, ◌/◌, ◌%◌, ◌<◌, ◌≤◌, sym, ap, ◌∙◌, div-add-mod', arith}
use lib.Arith.{digits_div, digits_mod}
use Rattle.std.proofs.lemmas.Bool.{cases_eq}
use Rattle.std.proofs.lemmas.Bool.Decides.{nat_tests}
use Rattle.placement.specs.Line.{up_to}
use Rattle.placement.specs.Grid.{summed}

pub cell_apart : (s a b u v : ℕ) → u < s → v < s → a * s + u ≡ b * s + v → (a ≡ b) × (u ≡ v)
cell_apart s a b u v h g e =
    (sym (digits_div a h) ∙ ap (λ (x : ℕ). x / s) e ∙ digits_div b g, sym (digits_mod a h) ∙ ap (λ (x : ℕ). x % s) e ∙ digits_mod b g)

pub summed_mono : (f : ℕ → ℕ) (n m : ℕ) → n ≤ m → summed f n ≤ summed f m
summed_mono f n zero h = grind arith
summed_mono f n (suc m) h = grind (arith, cases_eq n (suc m), summed_mono f n m)

pub box_below : (f : ℕ → ℕ) (n g u : ℕ) → g < n → u < f g → summed f g + u < summed f n
box_below f n g u h l = omega (arith, summed_mono f (suc g) n h)

pub box_apart : (f : ℕ → ℕ) (g h u v : ℕ) → u < f g → v < f h → summed f g + u ≡ summed f h + v → (g ≡ h) × (u ≡ v)
box_apart f g h u v l m e = grind (arith, summed_mono f (suc g) h, summed_mono f (suc h) g)

pub up_le : (n m : ℕ) → n ≤ up_to n m
up_le n m = grind (arith, nat_tests, div-add-mod' (n + (m - 1)) m)
