use Rattle.std.proofs.Common.{◌≡◌, ℕ, zero, suc, ◌+◌, ◌-◌, ◌*◌, ◌/◌, ◌%◌, ◌<◌, Bool, true, false, eqb, List, [], ◌∷◌, ◌++◌, map, length, get_or, sym, refl, ap, ◌∙◌, arith}
use Rattle.std.proofs.lemmas.List.{get_or_append_left, get_or-append-add}
use Rattle.std.proofs.lemmas.List.Sums.{fold-append}
use Rattle.std.proofs.lemmas.Bool.Decides.{nat_tests}
use Rattle.placement.specs.Word.{Word}
use Rattle.placement.specs.Pack.{Cell, nowhere, packed_word, after, packed, packed_end}
use Rattle.placement.specs.Line.{repeated, moved}
use Rattle.placement.proofs.Cycles.{packed-length}
use Rattle.placement.proofs.Lines.{end_le}
use Rattle.placement.specs.Stride.{stride, starts, Strides}

-- whole bytes
after-moved : (p m : ℕ) (e : Cell) → after (p + 8 * m) e ≡ after p e + 8 * m
after-moved p m e = grind (arith, nat_tests)

end_moved : (es : List Cell) (p m : ℕ) → packed_end (p + 8 * m) es ≡ packed_end p es + 8 * m
end_moved [] p m = refl
end_moved (e ∷ es) p m = ap (λ (x : ℕ). packed_end x es) (after-moved p m e) ∙ end_moved es (after p e) m

word_moved : (little : Bool) (p m : ℕ) (e : Cell) → packed_word little (p + 8 * m) e ≡ moved m (packed_word little p e)
word_moved little p m e = grind (arith, nat_tests)

packed-moved : (little : Bool) (es : List Cell) (p m : ℕ) → packed little (p + 8 * m) es ≡ map (moved m) (packed little p es)
packed-moved little [] p m = refl
packed-moved little (e ∷ es) p m = grind (arith, word_moved little p m e, after-moved p m e, packed-moved little es (after p e) m)

-- a run adds its bits, or it has a word of its own, behind which the bit in the byte is the same from wherever the run began
data Shape (es : List Cell) : Type 0 where
  adds : (n : ℕ) → ((p : ℕ) → packed_end p es ≡ p + n) → Shape es
  settles : ((p q : ℕ) → packed_end p es % 8 ≡ packed_end q es % 8) → Shape es

shape : (es : List Cell) → Shape es
shape [] = adds 0 (λ p. omega arith)
shape (e ∷ es) = go (eqb e.align 0) refl (shape es)
  where
    go : (t : Bool) → eqb e.align 0 ≡ t → Shape es → Shape (e ∷ es)
    go true z (adds n f) = adds (e.depth + n) (λ p. f (after p e) ∙ streams p)
      where
        streams : (p : ℕ) → after p e + n ≡ p + (e.depth + n)
        streams p = rw z (omega arith)
    go true z (settles f) = settles (λ p q. f (after p e) (after q e))
    go false z (adds n f) = settles (λ p q. ap (λ (x : ℕ). x % 8) (f (after p e)) ∙ fresh p q ∙ ap (λ (x : ℕ). x % 8) (sym (f (after q e))))
      where
        fresh : (p q : ℕ) → (after p e + n) % 8 ≡ (after q e + n) % 8
        fresh p q = rw z (omega arith)
    go false z (settles f) = settles (λ p q. f (after p e) (after q e))

eighths : (j s p : ℕ) → s % 8 ≡ 0 → p + j * s ≡ p + 8 * (j * (s / 8))
eighths j s p z =
    let e : s ≡ 8 * (s / 8) = omega arith in
    ap (λ (x : ℕ). p + j * x) e ∙ omega arith

-- each later repetition takes as many bits as the second
next : (cycle : List Cell) (j : ℕ) → packed_end (packed_end 0 cycle + j * stride cycle) cycle ≡ packed_end 0 cycle + (j + 1) * stride cycle
next cycle j = go (shape cycle) (packed_end 0 cycle) (stride cycle) refl refl
  where
    go : Shape cycle → (first s : ℕ) → first ≡ packed_end 0 cycle → s ≡ packed_end first cycle - first → packed_end (first + j * s) cycle ≡ first + (j + 1) * s
    go (adds n f) first s a b =
        let e : s ≡ n = omega (arith, f first) in
        f (first + j * s) ∙ omega arith
    go (settles f) first s a b =
        let z : s % 8 ≡ 0 = omega (arith, f first 0, end_le first cycle) in
        let k : first + j * s ≡ first + 8 * (j * (s / 8)) = eighths j s first z in
        ap (λ (x : ℕ). packed_end x cycle) k ∙ end_moved cycle first (j * (s / 8)) ∙ omega (arith, end_le first cycle)

pub packed-append : (little : Bool) (xs ys : List Cell) (p : ℕ) → packed little p (xs ++ ys) ≡ packed little p xs ++ packed little (packed_end p xs) ys
packed-append little [] ys p = refl
packed-append little (e ∷ es) ys p = ap (λ (x : List Word). packed_word little p e ∷ x) (packed-append little es ys (after p e))

later : (cycle : List Cell) (r j : ℕ) → packed_end (packed_end 0 cycle + j * stride cycle) (repeated r cycle) ≡ packed_end 0 cycle + (j + r) * stride cycle
later cycle zero j = grind arith
later cycle (suc r) j =
    grind (arith, fold-append after (packed_end 0 cycle + j * stride cycle) cycle (repeated r cycle), next cycle j, later cycle r (j + 1))

pub ends : (cycle : List Cell) (r : ℕ) → packed_end 0 (repeated r cycle) ≡ starts cycle r
ends cycle zero = refl
ends cycle (suc r) = grind (arith, nat_tests, fold-append after 0 cycle (repeated r cycle), later cycle r 0)

turn : (little : Bool) (cycle : List Cell) (count r c p : ℕ) → r < count → c < length cycle
    → get_or (packed little p (repeated count cycle)) (r * length cycle + c) nowhere ≡ get_or (packed little (packed_end p (repeated r cycle)) cycle) c nowhere
turn little cycle zero r c p h g = absurd (omega arith)
turn little cycle (suc n) zero c p h g =
    grind (
      arith,
      packed-append little cycle (repeated n cycle) p,
      packed-length little p cycle,
      get_or_append_left (packed little p cycle) (packed little (packed_end p cycle) (repeated n cycle)) nowhere c,
    )
turn little cycle (suc n) (suc r) c p h g =
    grind (
      arith,
      packed-append little cycle (repeated n cycle) p,
      packed-length little p cycle,
      get_or-append-add (packed little p cycle) (packed little (packed_end p cycle) (repeated n cycle)) (r * length cycle + c) nowhere,
      turn little cycle n r c (packed_end p cycle) (omega arith) g,
      fold-append after p cycle (repeated r cycle),
    )

pub strides : Strides
strides =
    record {
      end_moved = end_moved;
      packed-moved = packed-moved;
      ends = ends;
      word = λ little cycle count r c h g.
          turn little cycle count r c 0 h g ∙ ap (λ (x : ℕ). get_or (packed little x cycle) c nowhere) (ends cycle r);
    }
