use Rattle.std.proofs.Common.{◌≡◌, ℕ, zero, suc, ◌+◌, ◌-◌, ◌*◌, ◌<◌, ◌≤◌, cond, ltb, ◌≢◌, ◌⊎◌, List, [], ◌∷◌, ◌++◌, length, sym, refl, ap, ◌∙◌, inl, inr, append_assoc, arith}
use Rattle.std.specs.List.{AllByRecursion}
use Rattle.std.proofs.lemmas.Bool.{cases_lt, cases_eq}
use Rattle.std.proofs.lemmas.Bool.Decides.{nat_tests}
use Rattle.placement.proofs.Cycles.{all_repeated}
use Rattle.placement.specs.Pack.{Cell, Blocks, block_of, held}
use Rattle.placement.specs.Line.{repeated}
use Rattle.placement.specs.Steps.{block_after, held_after}
use Rattle.placement.specs.Turn.{block_at, held_at, Turns}

pub repeated_add : {A : Type 0} (m n : ℕ) (xs : List A) → repeated (m + n) xs ≡ repeated m xs ++ repeated n xs
repeated_add zero n xs = grind arith
repeated_add (suc m) n xs =
    let e : suc m + n ≡ suc (m + n) = omega arith in
    ap (λ (x : ℕ). repeated x xs) e ∙ ap (λ x. xs ++ x) (repeated_add m n xs) ∙ sym (append_assoc xs (repeated m xs) (repeated n xs))

pub held-append : (b : Blocks) (xs ys : List Cell) (o : ℕ) → held_after b o (xs ++ ys) ≡ held_after b (held_after b o xs) ys
held-append b [] ys o = refl
held-append b (e ∷ es) ys o = held-append b es ys (held b o e.depth + e.depth)

pub block_append : (b : Blocks) (xs ys : List Cell) (k o : ℕ) → block_after b k o (xs ++ ys) ≡ block_after b (block_after b k o xs) (held_after b o xs) ys
block_append b [] ys k o = refl
block_append b (e ∷ es) ys k o = block_append b es ys (block_of b k o e.depth) (held b o e.depth + e.depth)

block_moved : (b : Blocks) (es : List Cell) (k o m : ℕ) → block_after b (k + m) o es ≡ block_after b k o es + m
block_moved b [] k o m = refl
block_moved b (e ∷ es) k o m = grind (arith, nat_tests, block_moved b es (block_of b k o e.depth) (held b o e.depth + e.depth) m)

-- from the state after i repetitions
held_add : (b : Blocks) (cycle : List Cell) (i j : ℕ) → held_at b cycle (i + j) ≡ held_after b (held_at b cycle i) (repeated j cycle)
held_add b cycle i j = grind (arith, repeated_add i j cycle, held-append b (repeated i cycle) (repeated j cycle) 0)

pub block_add : (b : Blocks) (cycle : List Cell) (i j : ℕ) → block_at b cycle (i + j) ≡ block_after b 0 (held_at b cycle i) (repeated j cycle) + block_at b cycle i
block_add b cycle i j =
    grind (
      arith,
      repeated_add i j cycle,
      block_append b (repeated i cycle) (repeated j cycle) 0 0,
      block_moved b (repeated j cycle) 0 (held_at b cycle i) (block_at b cycle i),
    )

module _ (b : Blocks) (cycle : List Cell) (i n : ℕ) (same : held_at b cycle (i + n) ≡ held_at b cycle i) where
  held_once : (j : ℕ) → held_at b cycle (i + n + j) ≡ held_at b cycle (i + j)
  held_once j = held_add b cycle (i + n) j ∙ ap (λ (x : ℕ). held_after b x (repeated j cycle)) same ∙ sym (held_add b cycle i j)

  block_once : (j : ℕ) → block_at b cycle (i + n + j) ≡ block_at b cycle (i + j) + (block_at b cycle (i + n) - block_at b cycle i)
  block_once j =
      let e : block_after b 0 (held_at b cycle (i + n)) (repeated j cycle) ≡ block_after b 0 (held_at b cycle i) (repeated j cycle) =
      ap (λ (x : ℕ). block_after b 0 x (repeated j cycle)) same in
      omega (arith, e, block_add b cycle (i + n) j, block_add b cycle i j, block_add b cycle i n)

  pub held_again : (m j : ℕ) → held_at b cycle (i + m * n + j) ≡ held_at b cycle (i + j)
  held_again zero j = grind arith
  held_again (suc m) j = grind (arith, held_once (m * n + j), held_again m j)

  pub block_again : (m j : ℕ) → block_at b cycle (i + m * n + j) ≡ block_at b cycle (i + j) + m * (block_at b cycle (i + n) - block_at b cycle i)
  block_again zero j = grind arith
  block_again (suc m) j = grind (arith, block_once (m * n + j), block_again m j)

-- m + 1 numbers below m: two of them are equal
pub find : (f : ℕ → ℕ) (v n : ℕ) → ((i : ℕ) × (i < n) × (f i ≡ v)) ⊎ ((i : ℕ) → i < n → f i ≢ v)
find f v zero = inr (λ i h e. omega arith)
find f v (suc n) = go (find f v n) (cases_eq (f n) v)
  where
    go : ((i : ℕ) × (i < n) × (f i ≡ v)) ⊎ ((i : ℕ) → i < n → f i ≢ v) → (f n ≡ v) ⊎ (f n ≡ v → ⊥) → ((i : ℕ) × (i < suc n) × (f i ≡ v)) ⊎ ((i : ℕ) → i < suc n → f i ≢ v)
    go (inl x) y = inl (x.0, omega (arith, x.1), x.2)
    go (inr g) (inl e) = inl (n, omega arith, e)
    go (inr g) (inr z) = inr (λ i h e. elim (cases_eq i n) [ inl s ↦ z (sym (ap f s) ∙ e) | inr s ↦ g i (below i s h) e ])
      where
        below : (i : ℕ) → (i ≡ n → ⊥) → i < suc n → i < n
        below i s h = elim (cases_lt i n) [ inl l ↦ l | inr l ↦ absurd (s (omega arith)) ]

-- v taken out
abbrev squash : ℕ → ℕ → ℕ
squash v x = cond (ltb v x) (x - 1) x

squash_same : (v x y : ℕ) → x ≢ v → y ≢ v → squash v x ≡ squash v y → x ≡ y
squash_same v x y p q e = grind (arith, nat_tests)

squash_below : (v x m : ℕ) → x ≢ v → x < suc m → v < suc m → squash v x < m
squash_below v x m p h g = grind (arith, nat_tests)

two_equal : (m : ℕ) (f : ℕ → ℕ) → ((i : ℕ) → i ≤ m → f i < m) → (i : ℕ) × (j : ℕ) × (i < j) × (j ≤ m) × (f i ≡ f j)
two_equal zero f h = absurd (omega (arith, h 0 (omega arith)))
two_equal (suc m) f h = go (find f (f (suc m)) (suc m)) (λ g k. two_equal m g k)
  where
    go : ((i : ℕ) × (i < suc m) × (f i ≡ f (suc m))) ⊎ ((i : ℕ) → i < suc m → f i ≢ f (suc m))
        → ((g : ℕ → ℕ) → ((i : ℕ) → i ≤ m → g i < m) → (i : ℕ) × (j : ℕ) × (i < j) × (j ≤ m) × (g i ≡ g j))
        → (i : ℕ) × (j : ℕ) × (i < j) × (j ≤ suc m) × (f i ≡ f j)
    go (inl x) ih = (x.0, suc m, x.1, omega arith, x.2)
    go (inr z) ih =
        let x = ih (λ i. squash (f (suc m)) (f i)) (λ i l. squash_below (f (suc m)) (f i) m (z i (omega arith)) (h i (omega arith)) (h (suc m) (omega arith))) in
        (x.0, x.1, x.2, omega (arith, x.3), squash_same (f (suc m)) (f x.0) (f x.1) (z x.0 (omega (arith, x.2, x.3))) (z x.1 (omega (arith, x.3))) x.4)

held_fits : (b : Blocks) (es : List Cell) (o : ℕ) → AllByRecursion (λ e. e.depth ≤ 8 * b.bytes) es → o ≤ 8 * b.bytes → held_after b o es ≤ 8 * b.bytes
held_fits b [] o a h = h
held_fits b (e ∷ es) o a h = held_fits b es (held b o e.depth + e.depth) a.1 (grind (arith, nat_tests, a.0))

comes_round : (b : Blocks) (cycle : List Cell) → b.bytes ≤ 8 → AllByRecursion (λ e. e.depth ≤ 8 * b.bytes) cycle
    → (n : ℕ) × (0 < n) × (n ≤ 65) × (held_at b cycle (64 + n) ≡ held_at b cycle 64)
comes_round b cycle h a =
    let x = two_equal 65 (held_at b cycle) (λ i l. omega (arith, held_fits b (repeated i cycle) 0 (all_repeated (λ e. e.depth ≤ 8 * b.bytes) i cycle a) (omega arith))) in
    back x.0 x.1 x.2 x.3 x.4
  where
    back : (i j : ℕ) → i < j → j ≤ 65 → held_at b cycle i ≡ held_at b cycle j → (n : ℕ) × (0 < n) × (n ≤ 65) × (held_at b cycle (64 + n) ≡ held_at b cycle 64)
    back i j l g e =
        let u : i + (j - i) ≡ j = omega arith in
        let v : 64 + (j - i) ≡ i + (j - i) + (64 - i) = omega arith in
        let w : i + (64 - i) ≡ 64 = omega arith in (
          j - i,
          omega arith,
          omega arith,
          ap (λ (x : ℕ). held_at b cycle x) v ∙ held_once b cycle i (j - i) (ap (λ (x : ℕ). held_at b cycle x) u ∙ sym e) (64 - i) ∙ ap (λ (x : ℕ). held_at b cycle x) w,
        )

pub turns : Turns
turns =
    record {
      held_again = λ b cycle i n m j h. held_again b cycle i n h m j;
      block_again = λ b cycle i n m j h. block_again b cycle i n h m j;
      comes_round = comes_round;
    }

-- bounds
pub block_near : (b : Blocks) (es : List Cell) (k o : ℕ) → block_after b k o es ≤ k + length es
block_near b [] k o = omega arith
block_near b (e ∷ es) k o = grind (arith, nat_tests, block_near b es (block_of b k o e.depth) (held b o e.depth + e.depth))
