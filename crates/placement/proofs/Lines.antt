-- From words in order to a sound line.
use Rattle.std.proofs.Common.{◌≡◌, ℕ, zero, suc, ◌+◌, ◌*◌, ◌/◌, ◌<◌, ◌≤◌, Bool, true, false, cond, eqb, ◌⊎◌, List, [], ◌∷◌, length, get_or, sym, refl, ap, ◌∙◌, subst, inl, inr, arith}
use Rattle.std.proofs.lemmas.Bool.{cases_order, eqb-false}
use Rattle.std.specs.List.{AllByRecursion}
use Rattle.std.proofs.lemmas.Bool.Decides.{nat_tests}
use Rattle.placement.specs.Word.{Word, weight, spot, Whole, Apart}
use Rattle.placement.specs.Pack.{Cell, nowhere, streamed, aligned, packed_word, after, packed, packed_end, Packable, Sound, PackedStands}
use Rattle.placement.proofs.Words.{spot_of_low, spot_of_high, weight_below, own}

-- each word whole, below the end, and apart from those behind it
pub sound : (ws : List Word) (size : ℕ)
    → ((n : ℕ) → n < length ws → Whole (get_or ws n nowhere))
    → ((n : ℕ) → n < length ws → (i : ℕ) → i < (get_or ws n nowhere).depth → spot (get_or ws n nowhere) i < 8 * size)
    → ((n m : ℕ) → n < m → m < length ws → Apart (get_or ws n nowhere) (get_or ws m nowhere))
    → Sound ws size
sound ws size whole below apart =
    record { whole = whole; within = λ n i h l. below n h i l; apart = λ n m i j hn hm hi hj e. go n m i j hn hm hi hj e (cases_order n m) }
  where
    go : (n m i j : ℕ) → n < length ws → m < length ws → i < (get_or ws n nowhere).depth → j < (get_or ws m nowhere).depth
        → spot (get_or ws n nowhere) i ≡ spot (get_or ws m nowhere) j → (n ≡ m) ⊎ ((n < m) ⊎ (m < n)) → (n ≡ m) × (i ≡ j)
    go n m i j hn hm hi hj e (inl s) = (
      s,
      own (get_or ws n nowhere) (whole n hn) i j hi (subst (λ (x : ℕ). j < (get_or ws x nowhere).depth) (sym s) hj)
          (e ∙ ap (λ (x : ℕ). spot (get_or ws x nowhere) j) (sym s)),
    )
    go n m i j hn hm hi hj e (inr (inl l)) = absurd (apart n m l hm i j hi hj e)
    go n m i j hn hm hi hj e (inr (inr l)) = absurd (apart m n l hn j i hj hi (sym e))

-- Without blocks: a word from the cursor p takes bits from p up to the next cursor.

pub record Between (w : Word) (p q : ℕ) : Type 0 where
  pub whole : Whole w
  pub from : (i : ℕ) → i < w.depth → p ≤ spot w i
  pub to : (i : ℕ) → i < w.depth → spot w i < q

streamed_between : (p d : ℕ) → 0 < d → Between (streamed p d) p (p + d)
streamed_between p d h = record { whole = record { some = h; inside = omega arith }; from = λ i l. omega arith; to = λ i l. omega arith }

aligned_between : (little : Bool) (p : ℕ) (e : Cell) → 0 < e.depth → e.depth ≤ 8 * e.align → Between (aligned little p e) p (8 * ((p + 7) / 8 + e.align))
aligned_between little p e h g =
    let w : Whole (aligned little p e) = record { some = h; inside = omega arith } in
    record {
      whole = w;
      from = λ i l. omega (arith, spot_of_low ((p + 7) / 8) e.align little (weight (aligned little p e) i) (weight_below (aligned little p e) w i l));
      to = λ i l. spot_of_high ((p + 7) / 8) e.align little (weight (aligned little p e) i) (weight_below (aligned little p e) w i l);
    }

pub entry_between : (little : Bool) (p : ℕ) (e : Cell) → Packable e → Between (packed_word little p e) p (after p e)
entry_between little p e h = go (eqb e.align 0) refl
  where
    go : (t : Bool) → eqb e.align 0 ≡ t
        → Between (cond t (streamed p e.depth) (aligned little p e)) p (cond t (p + e.depth) (8 * ((p + 7) / 8 + e.align)))
    go true q = streamed_between p e.depth h.some
    go false q =
        aligned_between little p e h.some
        (h.inside (eqb-false e.align 0 q))

after_le : (p : ℕ) (e : Cell) → p ≤ after p e
after_le p e = grind (arith, nat_tests)

pub end_le : (p : ℕ) (es : List Cell) → p ≤ packed_end p es
end_le p [] = omega arith
end_le p (e ∷ es) = omega (arith, after_le p e, end_le (after p e) es)

wider : (w : Word) (p q p' q' : ℕ) → Between w p q → p' ≤ p → q ≤ q' → Between w p' q'
wider w p q p' q' b h g =
    record { whole = b.whole; from = λ i l. omega (arith, b.from i l); to = λ i l. omega (arith, b.to i l) }

packed_between : (little : Bool) (es : List Cell) (p : ℕ) → AllByRecursion Packable es → (n : ℕ) → n < length (packed little p es)
    → Between (get_or (packed little p es) n nowhere) p (packed_end p es)
packed_between little [] p a n h = absurd (omega arith)
packed_between little (e ∷ es) p a zero h =
    wider _ _ _ _ _ (entry_between little p e a.0) (omega arith) (end_le (after p e) es)
packed_between little (e ∷ es) p a (suc n) h =
    wider _ _ _ _ _ (packed_between little es (after p e) a.1 n (omega arith)) (after_le p e) (omega arith)

in_order : (w v : Word) (p q r : ℕ) → Between w p q → Between v q r → Apart w v
in_order w v p q r b c i j hi hj e = omega (arith, b.to i hi, c.from j hj, e)

packed_apart : (little : Bool) (es : List Cell) (p : ℕ) → AllByRecursion Packable es → (n m : ℕ) → n < m → m < length (packed little p es)
    → Apart (get_or (packed little p es) n nowhere) (get_or (packed little p es) m nowhere)
packed_apart little [] p a n m l h = absurd (omega arith)
packed_apart little (e ∷ es) p a n zero l h = absurd (omega arith)
packed_apart little (e ∷ es) p a zero (suc m) l h =
    in_order _ _ _ _ _ (entry_between little p e a.0) (packed_between little es (after p e) a.1 m (omega arith))
packed_apart little (e ∷ es) p a (suc n) (suc m) l h = packed_apart little es (after p e) a.1 n m (omega arith) (omega arith)

pub packed_stands : PackedStands
packed_stands little es a =
    sound (packed little 0 es) ((packed_end 0 es + 7) / 8)
    (λ n h. (packed_between little es 0 a n h).whole)
    (λ n h i l. omega (arith, (packed_between little es 0 a n h).to i l))
    (packed_apart little es 0 a)
