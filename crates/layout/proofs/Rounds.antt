-- Lines in blocks: what the code's steps come to.
use Rattle.std.proofs.Common.{◌≡◌, ℕ, suc, ◌+◌, ◌-◌, ◌*◌, ◌/◌, ◌%◌, ◌^◌, ◌<◌, ◌≤◌, cond, eqb, ◌≢◌, List, [], ◌∷◌, ◌++◌, map, length, get_or, take, drop, sym, refl, ap, ◌∙◌, subst, append-nil, mod-lt, mul-le-mul, div-add-mod', arith}
use lib.Arith.{digits_lt}
use Rattle.std.proofs.lemmas.Nat.{div_below}
use Rattle.std.proofs.lemmas.List.{length-map, get_or-map, at_drop_more, at_drop_all, take_more, take_all, take-map, take-append-le}
use Rattle.std.proofs.lemmas.Bool.{cond-true, cond-false, le-leb, lt-leb, eq-eqb, ne_eqb}
use Rattle.layout.proofs.Entries.{none}
use Rattle.plans.specs.Cells.{cell_of, blocks_of}
use Rattle.layout.specs.Walk.{Opened, Walked, origin}
use Rattle.layout.specs.declared.blocks.State.{State}
use Rattle.plans.specs.declared.entry.Entry.{Entry}
use Rattle.plans.specs.declared.packing.Blocks.{Blocks}
use Rattle.placement.specs.Line.{repeated}
use Rattle.placement.specs.Pack as pack
use Rattle.placement.specs.Pack.{Cell, nowhere, blocked, blocks_end, block_word, block_of, held, total}
use Rattle.placement.specs.Steps.{block_after, held_after}
use Rattle.placement.specs.Turn.{held_at}
use Rattle.placement.specs.Word.{Word}
use Rattle.placement.proofs.Again.{repeated_add, held-append, block_append, held_again, block_again, block_add, block_near}
use Rattle.placement.proofs.BlockLines.{total_le, total_fits}
use Rattle.placement.proofs.Cycles.{get_or-repeated, length-repeated}
use Rattle.placement.proofs.Stepping.{stepwise}

-- value i of a line
at-line : (xs : List Entry) (count i : ℕ) → 0 < length xs → i < count * length xs
    → get_or (repeated count (map cell_of xs)) i (cell_of none) ≡ cell_of (get_or xs (i % length xs) none)
at-line xs count i z h =
    let n = length-map xs cell_of in
    let c : i % length xs < length xs = mod-lt i {m = length xs} z in
    let r : i / length xs < count = div_below i (length xs) count z h in
    cc (
      div-add-mod' i (length xs),
      get_or-repeated count (map cell_of xs) (i / length xs) (i % length xs) (cell_of none) r (omega arith),
      get_or-map cell_of xs (i % length xs) none (cell_of none) c,
    )

line-length : (xs : List Entry) (count : ℕ) → length (repeated count (map cell_of xs)) ≡ count * length xs
line-length xs count = length-repeated count (map cell_of xs) ∙ ap (λ (x : ℕ). count * x) (length-map xs cell_of)

-- one turn of the loop that fills a block
module _ (b : pack.Blocks) (xs : List Entry) (count i o : ℕ) (z : 0 < length xs) (h : i < count * length xs) where
  here : total b o (drop i (repeated count (map cell_of xs))) ≡ total b o (cell_of (get_or xs (i % length xs) none) ∷ drop (i + 1) (repeated count (map cell_of xs)))
  here =
      at_drop_more (λ ys. total b o ys) (repeated count (map cell_of xs)) i (cell_of none) (omega (arith, line-length xs count))
      ∙ ap (λ (x : Cell). total b o (x ∷ drop (i + 1) (repeated count (map cell_of xs)))) (at-line xs count i z h)

  pub fill_in : o + (get_or xs (i % length xs) none).depth.0 ≤ 8 * b.bytes
      → total b o (drop i (repeated count (map cell_of xs))) ≡ total b (o + (get_or xs (i % length xs) none).depth.0) (drop (i + 1) (repeated count (map cell_of xs)))
  fill_in g = here ∙ cond-true _ _ _ (le-leb _ _ g)

  pub fill_over : 8 * b.bytes < o + (get_or xs (i % length xs) none).depth.0 → total b o (drop i (repeated count (map cell_of xs))) ≡ o
  fill_over g = here ∙ cond-false _ _ _ (lt-leb _ _ g)

pub fill_end : (b : pack.Blocks) (xs : List Entry) (count i o : ℕ) → count * length xs ≤ i → total b o (drop i (repeated count (map cell_of xs))) ≡ o
fill_end b xs count i o h = at_drop_all (λ ys. total b o ys) (repeated count (map cell_of xs)) i (omega (arith, line-length xs count))

-- a walk goes on
on : {b : Blocks} {s t u : State} (xs ys : List Cell) → Walked b s xs t → Walked b t ys u → Walked b s (xs ++ ys) u
on {b} {s} xs ys p q =
    record { block = cc (block_append (blocks_of b) xs ys s.block s.bits.0); bits = cc (held-append (blocks_of b) xs ys s.bits.0) }

along : {b : Blocks} {s t : State} {xs ys : List Cell} → xs ≡ ys → Walked b s xs t → Walked b s ys t
along {b} {s} {t} e w = subst (λ (zs : List Cell). Walked b s zs t) e w

-- by one entry
pub entry_on : {b : Blocks} {s t u : State} (xs : List Entry) (i : ℕ) → i < length xs
    → Walked b s (take i (map cell_of xs)) t → Walked b t (cell_of (get_or xs i none) ∷ []) u → Walked b s (take (i + 1) (map cell_of xs)) u
entry_on xs i h w o = along (sym next) (on (take i (map cell_of xs)) (cell_of (get_or xs i none) ∷ []) w o)
  where
    next : take (i + 1) (map cell_of xs) ≡ take i (map cell_of xs) ++ cell_of (get_or xs i none) ∷ []
    next =
        take_more (map cell_of xs) i (cell_of none) (omega (arith, length-map xs cell_of))
        ∙ ap (λ (x : Cell). take i (map cell_of xs) ++ x ∷ []) (get_or-map cell_of xs i none (cell_of none) h)

-- by all of the entries
pub all_on : {b : Blocks} {s t : State} (xs : List Entry) (i : ℕ) → length xs ≤ i → Walked b s (take i (map cell_of xs)) t → Walked b s (map cell_of xs) t
all_on xs i h w = along (take_all i (map cell_of xs) (omega (arith, length-map xs cell_of))) w

-- by some repetitions
pub turns_on : {b : Blocks} {s t u : State} (es : List Cell) (i j : ℕ) → Walked b s (repeated i es) t → Walked b t (repeated j es) u → Walked b s (repeated (i + j) es) u
turns_on es i j p q = along (sym (repeated_add i j es)) (on (repeated i es) (repeated j es) p q)

pub turn_on : {b : Blocks} {s t u : State} (xs : List Entry) (i : ℕ) → Walked b s (repeated i (map cell_of xs)) t → Walked b t (map cell_of xs) u
    → Walked b s (repeated (i + 1) (map cell_of xs)) u
turn_on xs i p q =
    turns_on (map cell_of xs) i 1 p
    (along (sym (append-nil (map cell_of xs))) q)

-- so many, by another name
pub turns_are : {b : Blocks} {s t : State} (es : List Cell) (i j : ℕ) → i ≡ j → Walked b s (repeated i es) t → Walked b s (repeated j es) t
turns_are {b} {s} {t} es i j e w = subst (λ (n : ℕ). Walked b s (repeated n es) t) e w

pub turn_more : {b : Blocks} {s t : State} (es : List Cell) (i n : ℕ) → Walked b origin (repeated (i + n) es) s → Walked b s (repeated 1 es) t
    → Walked b origin (repeated (i + (n + 1)) es) t
turn_more es i n p q = turns_are es (i + n + 1) (i + (n + 1)) (omega arith) (turns_on es (i + n) 1 p q)

pub far : {b : Blocks} {s : State} (xs : List Entry) (r : ℕ) → r ≤ 32768 → length xs ≤ 16 → Walked b origin (repeated r (map cell_of xs)) s → s.block ≤ 2 ^ 19
far {b} xs r h g w = omega (arith, w.block, block_near (blocks_of b) (repeated r (map cell_of xs)) 0 0, line-length xs r, mul-le-mul h g)

-- m rounds of n repetitions left out
skipped : {b : Blocks} {s t : State} (es : List Cell) (lead n m : ℕ) → Walked b origin (repeated lead es) s → Walked b origin (repeated (lead + n) es) t
    → t.bits.0 ≡ s.bits.0 → Walked b origin (repeated (lead + m * n) es) (record { block = s.block + m * (t.block - s.block); bits = s.bits; few = s.few })
skipped {b} {s} {t} es lead n m p q r =
    record { block = cc (block_again (blocks_of b) es lead n same m 0, z, y); bits = cc (held_again (blocks_of b) es lead n same m 0, z, y) }
  where
    same : held_at (blocks_of b) es (lead + n) ≡ held_at (blocks_of b) es lead
    same = sym q.bits ∙ r ∙ p.bits

    z : lead + m * n + 0 ≡ lead + m * n
    z = omega arith

    y : lead + 0 ≡ lead
    y = omega arith

-- the bits of s come round in t, n repetitions later: where the whole rounds of `left` repetitions lead
pub record Leap (b : Blocks) (xs : List Entry) (lead left n : ℕ) (s t : State) : Type 0 where
  pub up : s.block ≤ t.block
  pub walk : Walked b origin (repeated (lead + left / n * n) (map cell_of xs)) (record { block = s.block + left / n * (t.block - s.block); bits = s.bits; few = s.few })
  pub low : s.block + left / n * (t.block - s.block) ≤ 2 ^ 19
  pub rest : left / n * n + left % n ≡ left

pub leap : {b : Blocks} {s t u : State} (xs : List Entry) (lead left n : ℕ) → length xs ≤ 16 → lead + left ≤ 32768
    → Walked b origin (repeated lead (map cell_of xs)) s → Walked b origin (repeated (lead + n) (map cell_of xs)) t → Walked b t (repeated 1 (map cell_of xs)) u
    → u.bits.0 ≡ s.bits.0 → Leap b xs lead left (n + 1) s u
leap {b} xs lead left n h g p q r e =
    let v = turn_more (map cell_of xs) lead n q r in
    let d : left / (n + 1) * (n + 1) + left % (n + 1) ≡ left = div-add-mod' left (n + 1) in
    let w = skipped (map cell_of xs) lead (n + 1) (left / (n + 1)) p v e in
    record {
      up = omega (arith, p.block, v.block, block_add (blocks_of b) (map cell_of xs) lead (n + 1));
      walk = w;
      low = far xs (lead + left / (n + 1) * (n + 1)) (omega arith) h w;
      rest = d;
    }

take_add : (xs ys : List Cell) (n : ℕ) → take (length xs + n) (xs ++ ys) ≡ xs ++ take n ys
take_add [] ys n = ap (λ (x : ℕ). take x ys) e
  where
    e : 0 + n ≡ n
    e = omega arith
take_add (x ∷ xs) ys n = ap (λ (m : ℕ). take m (x ∷ (xs ++ ys))) e ∙ ap (λ (zs : List Cell). x ∷ zs) (take_add xs ys n)
  where
    e : suc (length xs) + n ≡ suc (length xs + n)
    e = omega arith

-- what comes before entry c of repetition r
before : (count r c : ℕ) (es : List Cell) → r < count → c ≤ length es → take (r * length es + c) (repeated count es) ≡ repeated r es ++ take c es
before count r c es h g =
    cc (
      repeated_add r (suc (count - (r + 1))) es,
      length-repeated r es,
      take_add (repeated r es) (es ++ repeated (count - (r + 1)) es) c,
      take-append-le c es (repeated (count - (r + 1)) es) g,
      e,
    )
  where
    e : count ≡ r + suc (count - (r + 1))
    e = omega arith

-- what a block has in the end
pub filled_fits : (b : pack.Blocks) (es : List Cell) (o f : ℕ) → o ≤ 8 * b.bytes → f ≡ total b o es → (o ≤ f) × (f ≤ 8 * b.bytes)
filled_fits b es o f h e = (omega (arith, total_le b es o), omega (arith, total_fits b es o h))

-- the word of value n, by the walk before it
word_at : {b : Blocks} {s t : State} (es : List Cell) (n : ℕ) (d : Cell) (f : ℕ) (w : Word) → n < length es
    → Walked b origin (take n es) s → Opened b s (get_or es n d).depth t → f ≡ total (blocks_of b) (t.bits.0 + (get_or es n d).depth) (drop (n + 1) es)
    → w ≡ block_word (blocks_of b) t.block t.bits.0 f (get_or es n d).depth → w ≡ get_or (blocked (blocks_of b) 0 0 es) n nowhere
word_at {b} es n d f w h p o q z = cc (stepwise.blocked-at (blocks_of b) es 0 0 n d h)

pub block_word_is : {b : Blocks} {s t u : State} (xs : List Entry) (count r c f : ℕ) (w : Word) → r < count → c < length xs
    → Walked b origin (repeated r (map cell_of xs)) s → Walked b s (map cell_of (take c xs)) t
    → Opened b t (get_or xs c none).depth.0 u
    → f ≡ total (blocks_of b) (u.bits.0 + (get_or xs c none).depth.0) (drop (r * length xs + c + 1) (repeated count (map cell_of xs)))
    → w ≡ block_word (blocks_of b) u.block u.bits.0 f (get_or xs c none).depth.0
    → w ≡ get_or (blocked (blocks_of b) 0 0 (repeated count (map cell_of xs))) (r * length xs + c) nowhere
block_word_is {b} {s} {t} {u} xs count r c f w hr hc p q =
    subst (λ (e : Cell). Opened b t e.depth u
    → f ≡ total (blocks_of b) (u.bits.0 + e.depth) (drop (r * length xs + c + 1) (repeated count (map cell_of xs)))
    → w ≡ block_word (blocks_of b) u.block u.bits.0 f e.depth
    → w ≡ get_or (blocked (blocks_of b) 0 0 (repeated count (map cell_of xs))) (r * length xs + c) nowhere)
    entry (word_at (repeated count (map cell_of xs)) (r * length xs + c) (cell_of none) f w inside walk)
  where
    inside : r * length xs + c < length (repeated count (map cell_of xs))
    inside = omega (arith, line-length xs count, digits_lt hr hc)

    front : take (r * length xs + c) (repeated count (map cell_of xs)) ≡ repeated r (map cell_of xs) ++ take c (map cell_of xs)
    front = cc (length-map xs cell_of, before count r c (map cell_of xs) hr (omega (arith, length-map xs cell_of)))

    walk : Walked b origin (take (r * length xs + c) (repeated count (map cell_of xs))) t
    walk = along (sym front) (on (repeated r (map cell_of xs)) (take c (map cell_of xs)) p (along (sym (take-map cell_of c xs)) q))

    entry : get_or (repeated count (map cell_of xs)) (r * length xs + c) (cell_of none) ≡ cell_of (get_or xs c none)
    entry =
        cc (length-map xs cell_of, get_or-repeated count (map cell_of xs) r c (cell_of none) hr (omega (arith, length-map xs cell_of)), get_or-map cell_of xs c none (cell_of none) hc)

-- the blocks of a line from its last state
end_is : (b : pack.Blocks) (es : List Cell) (k o : ℕ) → blocks_end b k o es ≡ cond (eqb (held_after b o es) 0) (block_after b k o es) (block_after b k o es + 1)
end_is b [] k o = refl
end_is b (e ∷ es) k o = end_is b es (block_of b k o e.depth) (held b o e.depth + e.depth)

pub end_empty : {b : Blocks} {s : State} (es : List Cell) → Walked b origin es s → s.bits.0 ≡ 0 → s.block ≡ blocks_end (blocks_of b) 0 0 es
end_empty {b} es w z = w.block ∙ sym (cond-true _ _ _ (eq-eqb (held_after (blocks_of b) 0 es) 0 (sym w.bits ∙ z))) ∙ sym (end_is (blocks_of b) es 0 0)

pub end_open : {b : Blocks} {s : State} (es : List Cell) → Walked b origin es s → s.bits.0 ≢ 0 → s.block + 1 ≡ blocks_end (blocks_of b) 0 0 es
end_open {b} es w z =
    ap (λ (x : ℕ). x + 1) w.block ∙ sym (cond-false _ _ _ (ne_eqb (held_after (blocks_of b) 0 es) 0 (λ q. z (w.bits ∙ q)))) ∙ sym (end_is (blocks_of b) es 0 0)
