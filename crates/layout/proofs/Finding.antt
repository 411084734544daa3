-- What looking for an index comes to.
use Rattle.std.proofs.Common.{◌≡◌, ℕ, zero, suc, ◌+◌, ◌-◌, ◌<◌, Bool, true, false, cond, eqb, ltb, ◌≢◌, List, [], ◌∷◌, map, length, get_or, Some, None, Option, sym, refl, ap, ◌∙◌, subst, arith}
use Rattle.std.specs.List.{filter, enumerate_from, position_from, position_or_len, slice_get}
use Rattle.std.specs.Option as option
use Rattle.std.specs.Option.{MatchOption}
use Rattle.std.proofs.lemmas.Bool.{cond-false, ne_eqb, eqb-true, eqb-false}
use Rattle.std.proofs.lemmas.Iterator.Adapters.{position_from-zero}
use Rattle.placement.specs.Place.{times, nth}
use Rattle.plans.specs.Cells.{slot_of}
use Rattle.plans.specs.Entries.{no_entry, position_with}
use Rattle.plans.specs.declared.entry.Entry.{Entry}

-- a position among those from i on
abbrev pub shifted : ℕ → Option ℕ → Option ℕ
shifted i None = None
shifted i (Some n) = Some (i + n)

pub shifted_zero : (o : Option ℕ) → o ≡ shifted 0 o
shifted_zero None = refl
shifted_zero (Some n) = ap (λ (x : ℕ). Some x) e
  where
    e : n ≡ 0 + n
    e = omega arith

shifted_more : (i : ℕ) (o : Option ℕ) → shifted i (option.option_map suc o) ≡ shifted (i + 1) o
shifted_more i None = refl
shifted_more i (Some n) = ap (λ (x : ℕ). Some x) e
  where
    e : i + suc n ≡ i + 1 + n
    e = omega arith

module _ (c : ℕ) where
  abbrev pub lists : Entry → Bool
  lists e = eqb e.index c

  position_at : (es : List Entry) (i : ℕ) → position_from lists i es ≡ shifted i (position_with c es)
  position_at [] i = refl
  position_at (e ∷ es) i = go (eqb e.index c) (position_at es (i + 1))
    where
      go : (t : Bool) → position_from lists (i + 1) es ≡ shifted (i + 1) (position_with c es)
          → cond t (Some i) (position_from lists (i + 1) es) ≡ shifted i (cond t (Some 0) (option.option_map suc (position_with c es)))
      go true h = ap (λ (x : ℕ). Some x) z
        where
          z : i ≡ i + 0
          z = omega arith
      go false h = h ∙ sym (shifted_more i (position_with c es))

  pub position_is : (es : List Entry) → cond (ltb (position_or_len lists es) (length es)) (Some (position_or_len lists es)) None ≡ position_with c es
  position_is es = position_from-zero lists es ∙ position_at es 0 ∙ sym (shifted_zero (position_with c es))

  pub count_is : (es : List Entry) → length (filter lists es) ≡ times c (map slot_of es)
  count_is [] = refl
  count_is (e ∷ es) = go (eqb e.index c) (count_is es)
    where
      go : (t : Bool) → length (filter lists es) ≡ times c (map slot_of es) → length (cond t (e ∷ filter lists es) (filter lists es)) ≡ cond t 1 0 + times c (map slot_of es)
      go true h = omega arith
      go false h = omega arith

  pub nth_is : (es : List Entry) (i k : ℕ) → k < times c (map slot_of es)
      → option.option_map (λ (p : ℕ × Entry). p.0) (slice_get (filter (λ p. lists p.1) (enumerate_from i es)) k) ≡ Some (i + nth c k (map slot_of es))
  nth_is [] i k h = absurd (omega arith)
  nth_is (e ∷ es) i k h = go (eqb e.index c) k h (nth_is es (i + 1))
    where
      go : (t : Bool) (k : ℕ) → k < cond t 1 0 + times c (map slot_of es)
          → ((j : ℕ) → j < times c (map slot_of es) → option.option_map (λ (p : ℕ × Entry). p.0) (slice_get (filter (λ p. lists p.1) (enumerate_from (i + 1) es)) j) ≡ Some (i + 1 + nth c j (map slot_of es)))
          → option.option_map (λ (p : ℕ × Entry). p.0)
          (slice_get (cond t ((i, e) ∷ filter (λ p. lists p.1) (enumerate_from (i + 1) es)) (filter (λ p. lists p.1) (enumerate_from (i + 1) es))) k)
          ≡ Some (i + cond t (cond (eqb k 0) 0 (suc (nth c (k - 1) (map slot_of es)))) (suc (nth c k (map slot_of es))))
      go true zero h f = ap (λ (x : ℕ). Some x) z
        where
          z : i ≡ i + 0
          z = omega arith
      go true (suc k) h f = f k (omega arith) ∙ ap (λ (x : ℕ). Some x) z
        where
          y : suc k - 1 ≡ k
          y = omega arith

          n : suc k ≢ 0
          n e = absurd (omega arith)

          z : i + 1 + nth c k (map slot_of es) ≡ i + cond (eqb (suc k) 0) 0 (suc (nth c (suc k - 1) (map slot_of es)))
          z = omega (arith, cond-false _ 0 (suc (nth c (suc k - 1) (map slot_of es))) (ne_eqb (suc k) 0 n), ap (λ (x : ℕ). nth c x (map slot_of es)) y)
      go false k h f = f k (omega arith) ∙ ap (λ (x : ℕ). Some x) z
        where
          z : i + 1 + nth c k (map slot_of es) ≡ i + suc (nth c k (map slot_of es))
          z = omega arith

-- the number of the item that was found
pub number_of : {X Y : Type 0} (v : ℕ × X → ℕ × Y) (r : Option (ℕ × X)) (o : Option (ℕ × Y)) (d n m : ℕ) → ((x : ℕ × X) → (v x).0 ≡ x.0) → option.option_map v r ≡ o
    → option.option_map (λ (p : ℕ × Y). p.0) o ≡ Some n → MatchOption r (m ≡ d) (λ x. m ≡ x.0) → m ≡ n
number_of v None o d n m f e h k = absurd (let z : None ≡ Some n = ap (option.option_map (λ p. p.0)) e ∙ h in let y : ◌≡◌ {A = ℕ} 0 1 = cc in omega arith)
number_of v (Some x) o d n m f e h k =
    let z : Some (v x).0 ≡ Some n = ap (option.option_map (λ p. p.0)) e ∙ h in
    let y : (v x).0 ≡ n = cc in
    k ∙ sym (f x) ∙ y

-- the first entry that lists an index
pub record First (c : ℕ) (es : List Entry) (n : ℕ) : Type 0 where
  pub below : n < length es
  pub is : (get_or es n no_entry).index ≡ c
  pub before : (k : ℕ) → k < n → (get_or es k no_entry).index ≢ c

pub first : (c : ℕ) (es : List Entry) (n : ℕ) → position_with c es ≡ Some n → First c es n
first c [] n e = absurd (let z : ◌≡◌ {A = ℕ} 0 1 = cc in omega arith)
first c (x ∷ es) n e = go (eqb x.index c) refl (position_with c es) refl e (first c es)
  where
    go : (t : Bool) → eqb x.index c ≡ t → (o : Option ℕ) → position_with c es ≡ o → cond t (Some 0) (option.option_map suc o) ≡ Some n
        → ((m : ℕ) → position_with c es ≡ Some m → First c es m) → First c (x ∷ es) n
    go true q o p e f =
        let z : n ≡ 0 = cc in
        subst (First c (x ∷ es)) (sym z) (record { below = omega arith; is = eqb-true x.index c q; before = λ k l. absurd (omega arith) })
    go false q None p e f = absurd (let z : ◌≡◌ {A = ℕ} 0 1 = cc in omega arith)
    go false q (Some m) p e f =
        let z : n ≡ suc m = cc in
        let r = f m p in
        subst (First c (x ∷ es)) (sym z) (record { below = omega (arith, r.below); is = r.is; before = λ k l. earlier r k l })
      where
        earlier : First c es m → (k : ℕ) → k < suc m → (get_or (x ∷ es) k no_entry).index ≢ c
        earlier r zero l = eqb-false x.index c q
        earlier r (suc k) l = r.before k (omega arith)
