-- Lines of a repeated cycle.
use Rattle.std.proofs.Common.{◌≡◌, ℕ, zero, suc, ◌+◌, ◌*◌, ◌/◌, ◌<◌, Bool, true, false, cond, eqb, ◌≢◌, List, [], ◌∷◌, length, get_or, sym, refl, ap, ◌∙◌, subst, zero-mul, arith, length-append}
use lib.Arith.{digits_lt}
use Rattle.std.specs.List.{AllByRecursion}
use Rattle.std.proofs.ByRecursion.{All-weaker, All-append}
use Rattle.std.proofs.lemmas.List.{get_or_append_left, get_or-append-add}
use Rattle.std.proofs.lemmas.Bool.{eqb-true, eqb-false}
use Rattle.std.proofs.lemmas.Bool.Decides.{nat_tests}
use Rattle.placement.specs.Word.{Word, Whole, spot}
use Rattle.placement.specs.Pack.{Cell, nowhere, after, packed, packed_end, Packable, Blocks, block_of, held, blocked, blocks_end, Blockable, Sound}
use Rattle.placement.specs.Line.{Packing, run, run_bytes, Holds, repeated, moved, line_word, CycleFits, LinesStand}
use Rattle.placement.proofs.Lines.{packed_stands}
use Rattle.placement.proofs.BlockLines.{blocked_stands}
use Rattle.placement.proofs.Boxes.{cell_apart, up_le}

-- each entry has its word
pub packed-length : (little : Bool) (p : ℕ) (es : List Cell) → length (packed little p es) ≡ length es
packed-length little p [] = refl
packed-length little p (e ∷ es) = ap suc (packed-length little (after p e) es)

pub packed_depth : (little : Bool) (p : ℕ) (es : List Cell) (n : ℕ) (d : Cell) → n < length es → (get_or (packed little p es) n nowhere).depth ≡ (get_or es n d).depth
packed_depth little p [] n d h = absurd (omega arith)
packed_depth little p (e ∷ es) zero d h = grind (arith, nat_tests)
packed_depth little p (e ∷ es) (suc n) d h = packed_depth little (after p e) es n d (omega arith)

pub blocked-length : (b : Blocks) (k o : ℕ) (es : List Cell) → length (blocked b k o es) ≡ length es
blocked-length b k o [] = refl
blocked-length b k o (e ∷ es) = ap suc (blocked-length b (block_of b k o e.depth) (held b o e.depth + e.depth) es)

pub blocked_depth : (b : Blocks) (k o : ℕ) (es : List Cell) (n : ℕ) (d : Cell) → n < length es → (get_or (blocked b k o es) n nowhere).depth ≡ (get_or es n d).depth
blocked_depth b k o [] n d h = absurd (omega arith)
blocked_depth b k o (e ∷ es) zero d h = refl
blocked_depth b k o (e ∷ es) (suc n) d h = blocked_depth b (block_of b k o e.depth) (held b o e.depth + e.depth) es n d (omega arith)

-- a run, in blocks or not
pub run_sound : (p : Packing) (es : List Cell) → AllByRecursion (Holds p) es → Sound (run p es) (run_bytes p es)
run_sound p es a = go (eqb p.blocks.bytes 0) refl
  where
    go : (t : Bool) → eqb p.blocks.bytes 0 ≡ t
        → Sound (cond t (packed p.little 0 es) (blocked p.blocks 0 0 es)) (cond t ((packed_end 0 es + 7) / 8) (blocks_end p.blocks 0 0 es * p.blocks.bytes))
    go true q =
        packed_stands p.little es
        (All-weaker (Holds p) Packable (λ e h. record { some = h.some; inside = h.alone (eqb-true _ _ q) }) es a)
    go false q =
        blocked_stands p.blocks es
        (All-weaker (Holds p) (Blockable p.blocks) (λ e h. record { some = h.some; inside = h.in_block (eqb-false _ _ q) }) es a)

pub run_length : (p : Packing) (es : List Cell) → length (run p es) ≡ length es
run_length p es = grind (arith, nat_tests, packed-length p.little 0 es, blocked-length p.blocks 0 0 es)

pub run_depth : (p : Packing) (es : List Cell) (n : ℕ) (d : Cell) → n < length es → (get_or (run p es) n nowhere).depth ≡ (get_or es n d).depth
run_depth p es n d h = grind (arith, nat_tests, packed_depth p.little 0 es n d h, blocked_depth p.blocks 0 0 es n d h)

-- repetitions
pub length-repeated : {A : Type 0} (n : ℕ) (xs : List A) → length (repeated n xs) ≡ n * length xs
length-repeated zero xs = sym (zero-mul (length xs))
length-repeated (suc n) xs = omega (arith, length-append xs (repeated n xs), length-repeated n xs)

pub get_or-repeated : {A : Type 0} (n : ℕ) (xs : List A) (r c : ℕ) (d : A) → r < n → c < length xs → get_or (repeated n xs) (r * length xs + c) d ≡ get_or xs c d
get_or-repeated zero xs r c d h l = absurd (omega arith)
get_or-repeated (suc n) xs zero c d h l = grind (arith, get_or_append_left xs (repeated n xs) d c l)
get_or-repeated (suc n) xs (suc r) c d h l =
    grind (arith, get_or-append-add xs (repeated n xs) (r * length xs + c) d, get_or-repeated n xs r c d (omega arith) l)

pub all_repeated : {A : Type 0} (P : A → Type 0) (n : ℕ) (xs : List A) → AllByRecursion P xs → AllByRecursion P (repeated n xs)
all_repeated P zero xs a = tt
all_repeated P (suc n) xs a = All-append P xs (repeated n xs) a (all_repeated P n xs a)

pub spot-moved : (b : ℕ) (w : Word) (i : ℕ) → spot (moved b w) i ≡ 8 * b + spot w i
spot-moved b w i = omega arith

-- a line before it is rounded up
record Cycle (w : ℕ → ℕ → Word) (size : ℕ) (cycle : List Cell) (count : ℕ) : Type 0 where
  deep : (r c : ℕ) (d : Cell) → r < count → c < length cycle → (w r c).depth ≡ (get_or cycle c d).depth
  whole : (r c : ℕ) → r < count → c < length cycle → Whole (w r c)
  within : (r c i : ℕ) → r < count → c < length cycle → i < (w r c).depth → spot (w r c) i < 8 * size
  apart : (r c i s d j : ℕ) → r < count → c < length cycle → i < (w r c).depth → s < count → d < length cycle → j < (w s d).depth
      → spot (w r c) i ≡ spot (w s d) j → (r ≡ s) × (c ≡ d) × (i ≡ j)

module _ (p : Packing) (cycle : List Cell) (count : ℕ) (f : CycleFits p cycle) where
  -- one packing all along
  whole_run : Cycle (λ r c. get_or (run p (repeated count cycle)) (r * length cycle + c) nowhere) (run_bytes p (repeated count cycle)) cycle count
  whole_run =
      record {
        deep = λ r c d hr hc. run_depth p (repeated count cycle) (r * length cycle + c) d (at r c hr hc) ∙ ap (λ (x : Cell). x.depth) (get_or-repeated count cycle r c d hr hc);
        whole = λ r c hr hc. s.whole (r * length cycle + c) (at' r c hr hc);
        within = λ r c i hr hc hi. s.within (r * length cycle + c) i (at' r c hr hc) hi;
        apart = λ r c i r' c' j hr hc hi hr' hc' hj e.
            let q = s.apart (r * length cycle + c) (r' * length cycle + c') i j (at' r c hr hc) (at' r' c' hr' hc') hi hj e in
            let z = cell_apart (length cycle) r r' c c' hc hc' q.0 in
            (z.0, z.1, q.1);
      }
    where
      s : Sound (run p (repeated count cycle)) (run_bytes p (repeated count cycle))
      s = run_sound p (repeated count cycle) (all_repeated (Holds p) count cycle f.held)

      at : (r c : ℕ) → r < count → c < length cycle → r * length cycle + c < length (repeated count cycle)
      at r c hr hc = subst (λ (x : ℕ). r * length cycle + c < x) (sym (length-repeated count cycle)) (digits_lt hr hc)

      at' : (r c : ℕ) → r < count → c < length cycle → r * length cycle + c < length (run p (repeated count cycle))
      at' r c hr hc = subst (λ (x : ℕ). r * length cycle + c < x) (sym (run_length p (repeated count cycle))) (at r c hr hc)

  -- each repetition by itself
  by_pixel : p.pixel ≢ 0 → Cycle (λ r c. moved (r * p.pixel) (get_or (run p cycle) c nowhere)) (count * p.pixel) cycle count
  by_pixel z =
      record {
        deep = λ r c d hr hc. run_depth p cycle c d hc;
        whole = λ r c hr hc. let h = s.whole c (at c hc) in record { some = h.some; inside = h.inside };
        within = λ r c i hr hc hi. omega (arith, spot-moved (r * p.pixel) (get_or (run p cycle) c nowhere) i, digits_lt hr (small c i hc hi));
        apart = λ r c i r' c' j hr hc hi hr' hc' hj e.
            let q = cell_apart (8 * p.pixel) r r' (spot (get_or (run p cycle) c nowhere) i) (spot (get_or (run p cycle) c' nowhere) j) (small c i hc hi) (small c' j hc' hj)
            (cells r r' p.pixel _ _ (sym (spot-moved (r * p.pixel) (get_or (run p cycle) c nowhere) i) ∙ e ∙ spot-moved (r' * p.pixel) (get_or (run p cycle) c' nowhere) j)) in
            let y = s.apart c c' i j (at c hc) (at c' hc') hi hj q.1 in
            (q.0, y.0, y.1);
      }
    where
      s : Sound (run p cycle) (run_bytes p cycle)
      s = run_sound p cycle f.held

      at : (c : ℕ) → c < length cycle → c < length (run p cycle)
      at c hc = subst (λ (x : ℕ). c < x) (sym (run_length p cycle)) hc

      small : (c i : ℕ) → c < length cycle → i < (get_or (run p cycle) c nowhere).depth → spot (get_or (run p cycle) c nowhere) i < 8 * p.pixel
      small c i hc hi = omega (arith, s.within c i (at c hc) hi, f.pixel z)

      cells : (r r' k u v : ℕ) → 8 * (r * k) + u ≡ 8 * (r' * k) + v → r * (8 * k) + u ≡ r' * (8 * k) + v
      cells r r' k u v e = omega arith

  either : Cycle (line_word p cycle count) (cond (eqb p.pixel 0) (run_bytes p (repeated count cycle)) (count * p.pixel)) cycle count
  either = go (eqb p.pixel 0) refl
    where
      go : (t : Bool) → eqb p.pixel 0 ≡ t
          → Cycle (λ r c. cond t (get_or (run p (repeated count cycle)) (r * length cycle + c) nowhere) (moved (r * p.pixel) (get_or (run p cycle) c nowhere)))
          (cond t (run_bytes p (repeated count cycle)) (count * p.pixel)) cycle count
      go true q = whole_run
      go false q = by_pixel (eqb-false _ _ q)

pub lines_stand : LinesStand
lines_stand p cycle count f =
    let s = either p cycle count f in
    record {
      deep = s.deep;
      whole = s.whole;
      within = λ r c i hr hc hi.
          omega (arith, s.within r c i hr hc hi, up_le (cond (eqb p.pixel 0) (run_bytes p (repeated count cycle)) (count * p.pixel)) p.row_align);
      apart = s.apart;
    }
