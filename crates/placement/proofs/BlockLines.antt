-- Lines packed in blocks.
use Rattle.std.proofs.Common.{◌≡◌, ℕ, zero, suc, ◌+◌, ◌-◌, ◌*◌, ◌<◌, ◌≤◌, Bool, true, false, cond, leb, ◌≢◌, ◌⊎◌, List, [], ◌∷◌, length, get_or, sym, refl, ap, ◌∙◌, subst, inl, inr, mul-le-mul_right, arith}
use Rattle.std.proofs.lemmas.Bool.{leb-true, leb-false}
use Rattle.std.specs.List.{AllByRecursion}
use Rattle.std.proofs.lemmas.Bool.Decides.{nat_tests}
use Rattle.placement.specs.Word.{Word, weight, spot, Whole, Apart}
use Rattle.placement.specs.Pack.{Cell, nowhere, Blocks, total, block_of, held, low_in, block_word, blocked, blocks_end, Blockable, BlockedStands}
use Rattle.placement.proofs.Words.{spot_of, spot_of_inj, spot_of_low, spot_of_high, weight_below}
use Rattle.placement.proofs.Lines.{sound}

-- what an entry of d bits does to a block of o bits: it goes in, or opens the next
data Step (b : Blocks) (k o d : ℕ) (es : List Cell) : ℕ → ℕ → ℕ → Type 0 where
  goes_in : o + d ≤ 8 * b.bytes → Step b k o d es k o (total b (o + d) es)
  opens : 8 * b.bytes < o + d → Step b k o d es (k + 1) 0 o

step : (b : Blocks) (k o : ℕ) (e : Cell) (es : List Cell)
    → Step b k o e.depth es (block_of b k o e.depth) (held b o e.depth) (total b o (e ∷ es))
step b k o e es = go (leb (o + e.depth) (8 * b.bytes)) refl
  where
    go : (t : Bool) → leb (o + e.depth) (8 * b.bytes) ≡ t
        → Step b k o e.depth es (cond t k (k + 1)) (cond t o 0) (cond t (total b (o + e.depth) es) o)
    go true q = goes_in (leb-true _ _ q)
    go false q = opens (leb-false _ _ q)

-- a word of the block k', behind k blocks and, in the block k, behind o bits of the t that it has in the end
record Behind (b : Blocks) (k o t : ℕ) (w : Word) : Type 0 where
  block : ℕ
  before : ℕ
  all : ℕ
  bits : ℕ
  is : w ≡ block_word b block before all bits
  some : 0 < bits
  inside : before + bits ≤ all
  fits : all ≤ 8 * b.bytes
  place : (k < block) ⊎ ((block ≡ k) × (o ≤ before) × (all ≡ t))

pub total_le : (b : Blocks) (es : List Cell) (o : ℕ) → o ≤ total b o es
total_le b [] o = omega arith
total_le b (e ∷ es) o = grind (arith, nat_tests, total_le b es (o + e.depth))

pub total_fits : (b : Blocks) (es : List Cell) (o : ℕ) → o ≤ 8 * b.bytes → total b o es ≤ 8 * b.bytes
total_fits b [] o h = h
total_fits b (e ∷ es) o h = grind (arith, nat_tests, total_fits b es (o + e.depth))

head_behind : (b : Blocks) (k o d k' o' t : ℕ) (es : List Cell) → 0 < d → d ≤ 8 * b.bytes → Step b k o d es k' o' t
    → Behind b k o t (block_word b k' o' (total b (o' + d) es) d)
head_behind b k o d k' o' t es s f (goes_in g) =
    record {
      block = k;
      before = o;
      all = total b (o + d) es;
      bits = d;
      is = refl;
      some = s;
      inside = total_le b es (o + d);
      fits = total_fits b es (o + d) g;
      place = inr (refl, omega arith, refl);
    }
head_behind b k o d k' o' t es s f (opens g) =
    record {
      block = k + 1;
      before = 0;
      all = total b (0 + d) es;
      bits = d;
      is = refl;
      some = s;
      inside = total_le b es (0 + d);
      fits = total_fits b es (0 + d) (omega arith);
      place = inl (omega arith);
    }

tail_behind : (b : Blocks) (k o d k' o' t : ℕ) (es : List Cell) (w : Word) → Step b k o d es k' o' t
    → Behind b k' (o' + d) (total b (o' + d) es) w → Behind b k o t w
tail_behind b k o d k' o' t es w (goes_in g) h =
    record {
      block = h.block;
      before = h.before;
      all = h.all;
      bits = h.bits;
      is = h.is;
      some = h.some;
      inside = h.inside;
      fits = h.fits;
      place = elim h.place [ inl l ↦ inl l | inr x ↦ inr (x.0, omega (arith, x.1), x.2) ];
    }
tail_behind b k o d k' o' t es w (opens g) h =
    record {
      block = h.block;
      before = h.before;
      all = h.all;
      bits = h.bits;
      is = h.is;
      some = h.some;
      inside = h.inside;
      fits = h.fits;
      place = elim h.place [ inl l ↦ inl (omega arith) | inr x ↦ inl (omega (arith, x.0)) ];
    }

blocked_behind : (b : Blocks) (es : List Cell) (k o : ℕ) → AllByRecursion (Blockable b) es → (n : ℕ) → n < length (blocked b k o es)
    → Behind b k o (total b o es) (get_or (blocked b k o es) n nowhere)
blocked_behind b [] k o a n h = absurd (omega arith)
blocked_behind b (e ∷ es) k o a zero h =
    head_behind b k o e.depth _ _ _ es a.0.some a.0.inside (step b k o e es)
blocked_behind b (e ∷ es) k o a (suc n) h =
    tail_behind b k o e.depth _ _ _ es _ (step b k o e es)
    (blocked_behind b es (block_of b k o e.depth) (held b o e.depth + e.depth) a.1 n (omega arith))

-- the weights of a value inside the block
low_inside : (b : Blocks) (o t d : ℕ) → o + d ≤ t → t ≤ 8 * b.bytes → low_in b o t d + d ≤ 8 * b.bytes
low_inside b o t d h g = grind (arith, nat_tests)

low_apart : (b : Blocks) (o o' t d d' i j : ℕ) → o + d ≤ o' → o' + d' ≤ t → t ≤ 8 * b.bytes → i < d → j < d'
    → low_in b o t d + (d - 1 - i) ≢ low_in b o' t d' + (d' - 1 - j)
low_apart b o o' t d d' i j h g f hi hj e = grind (arith, nat_tests)

block_whole : (b : Blocks) (k o t d : ℕ) → 0 < d → o + d ≤ t → t ≤ 8 * b.bytes → Whole (block_word b k o t d)
block_whole b k o t d s h g = record { some = s; inside = low_inside b o t d h g }

behind_whole : (b : Blocks) (k o t : ℕ) (w : Word) → Behind b k o t w → Whole w
behind_whole b k o t w h = subst (λ (x : Word). Whole x) (sym h.is) (block_whole b h.block h.before h.all h.bits h.some h.inside h.fits)

-- a word at o in the block k, and one behind it
block_apart : (b : Blocks) (k o t d : ℕ) (v : Word) → 0 < d → o + d ≤ t → t ≤ 8 * b.bytes
    → Behind b k (o + d) t v → Apart (block_word b k o t d) v
block_apart b k o t d v s h g u =
    subst (λ (x : Word). Apart (block_word b k o t d) x) (sym u.is) (elim u.place [ inl l ↦ far l | inr x ↦ near x.0 x.1 x.2 ])
  where
    w' : Word
    w' = block_word b u.block u.before u.all u.bits

    whole : Whole (block_word b k o t d)
    whole = block_whole b k o t d s h g

    whole' : Whole w'
    whole' = block_whole b u.block u.before u.all u.bits u.some u.inside u.fits

    far : k < u.block → Apart (block_word b k o t d) w'
    far l i j hi hj e =
        omega (
          arith,
          e,
          spot_of_high (k * b.bytes) b.bytes b.little _ (weight_below (block_word b k o t d) whole i hi),
          spot_of_low (u.block * b.bytes) b.bytes b.little _ (weight_below w' whole' j hj),
          mul-le-mul_right b.bytes l,
        )

    near : u.block ≡ k → o + d ≤ u.before → u.all ≡ t → Apart (block_word b k o t d) w'
    near p q r i j hi hj e =
        low_apart b o u.before t d u.bits i j q (omega arith) g hi hj
        (spot_of_inj (k * b.bytes) b.bytes b.little _ _ (weight_below (block_word b k o t d) whole i hi) (weight_below w' whole' j hj)
        (e ∙ ap (λ (x : ℕ). spot_of (x * b.bytes) b.bytes b.little (weight w' j)) p)
        ∙ ap (λ (x : ℕ). low_in b u.before x u.bits + (u.bits - 1 - j)) r)

head_apart : (b : Blocks) (k o d k' o' t : ℕ) (es : List Cell) (v : Word) → 0 < d → d ≤ 8 * b.bytes → Step b k o d es k' o' t
    → Behind b k' (o' + d) (total b (o' + d) es) v → Apart (block_word b k' o' (total b (o' + d) es) d) v
head_apart b k o d k' o' t es v s f (goes_in g) u =
    block_apart b k o (total b (o + d) es) d v s (total_le b es (o + d)) (total_fits b es (o + d) g) u
head_apart b k o d k' o' t es v s f (opens g) u =
    block_apart b (k + 1) 0 (total b (0 + d) es) d v s (total_le b es (0 + d)) (total_fits b es (0 + d) (omega arith)) u

blocked_apart : (b : Blocks) (es : List Cell) (k o : ℕ) → AllByRecursion (Blockable b) es → (n m : ℕ) → n < m → m < length (blocked b k o es)
    → Apart (get_or (blocked b k o es) n nowhere) (get_or (blocked b k o es) m nowhere)
blocked_apart b [] k o a n m l h = absurd (omega arith)
blocked_apart b (e ∷ es) k o a n zero l h = absurd (omega arith)
blocked_apart b (e ∷ es) k o a zero (suc m) l h =
    head_apart b k o e.depth _ _ _ es _ a.0.some a.0.inside (step b k o e es)
    (blocked_behind b es (block_of b k o e.depth) (held b o e.depth + e.depth) a.1 m (omega arith))
blocked_apart b (e ∷ es) k o a (suc n) (suc m) l h =
    blocked_apart b es (block_of b k o e.depth) (held b o e.depth + e.depth) a.1 n m (omega arith) (omega arith)

ends_some : (b : Blocks) (es : List Cell) (k o : ℕ) → 0 < o → AllByRecursion (Blockable b) es → k < blocks_end b k o es
ends_some b [] k o h a = grind (arith, nat_tests)
ends_some b (e ∷ es) k o h a =
    grind (arith, nat_tests, ends_some b es (block_of b k o e.depth) (held b o e.depth + e.depth) (omega (arith, a.0.some)) a.1)

below_end : (b : Blocks) (es : List Cell) (k o : ℕ) → AllByRecursion (Blockable b) es → (n : ℕ) → n < length (blocked b k o es)
    → (i : ℕ) → i < (get_or (blocked b k o es) n nowhere).depth
    → spot (get_or (blocked b k o es) n nowhere) i < 8 * (blocks_end b k o es * b.bytes)
below_end b [] k o a n h i l = absurd (omega arith)
below_end b (e ∷ es) k o a zero h i l =
    omega (
      arith,
      spot_of_high (block_of b k o e.depth * b.bytes) b.bytes b.little _
          (weight_below _ (behind_whole b k o (total b o (e ∷ es)) _ (blocked_behind b (e ∷ es) k o a zero h)) i l),
      mul-le-mul_right b.bytes
          (ends_some b es (block_of b k o e.depth) (held b o e.depth + e.depth) (omega (arith, a.0.some)) a.1),
    )
below_end b (e ∷ es) k o a (suc n) h i l =
    below_end b es (block_of b k o e.depth) (held b o e.depth + e.depth) a.1 n (omega arith) i l

pub blocked_stands : BlockedStands
blocked_stands b es a =
    sound (blocked b 0 0 es) (blocks_end b 0 0 es * b.bytes)
    (λ n h. behind_whole b 0 0 (total b 0 es) _ (blocked_behind b es 0 0 a n h))
    (below_end b es 0 0 a)
    (blocked_apart b es 0 0 a)
