-- Bytes that stand in a box at an offset.
use Rattle.std.proofs.Common.{◌≡◌, ℕ, zero, suc, ◌+◌, ◌*◌, ◌/◌, ◌%◌, ◌^◌, ◌<◌, ◌≤◌, List, [], ◌∷◌, ◌++◌, length, get_or, drop, sym, refl, ap, ◌∙◌, subst, arith, lit<}
use native.Mathlib.Nat.{div-div-eq-div-mul}
use Rattle.std.proofs.lemmas.List.{append_assoc, append-nil, length-append, drop-drop, drop_at, drop_all, drop_more}
use Rattle.std.specs.List.{AllByRecursion}
use Rattle.fields.specs.Field.{half, word}
use Rattle.fields.specs.Put.{half_bytes, word_bytes}

pub record Stands (xs : List ℕ) (a : ℕ) (p : List ℕ) : Type 0 where
  pub fits : a + length p ≤ length xs
  pub same : drop a xs ≡ p ++ drop (a + length p) xs

-- every number fits a byte, by places
abbrev pub Bytes : List ℕ → Type 0
Bytes xs = (i : ℕ) → get_or xs i 0 < 256

-- a number is made of its four bytes
word_number : (n : ℕ) → n < 2 ^ 32 → n / 16777216 % 256 * 16777216 + n / 65536 % 256 * 65536 + n / 256 % 256 * 256 + n % 256 ≡ n
word_number n h =
    let c : n / 256 / 256 ≡ n / 65536 = div-div-eq-div-mul n 256 256 in
    let b : n / 65536 / 256 ≡ n / 16777216 = div-div-eq-div-mul n 65536 256 in
    let top : n / 16777216 % 256 ≡ n / 16777216 = omega arith in
    omega arith

pub octets : (xs : List ℕ) → AllByRecursion (λ b. b < 256) xs → Bytes xs
octets [] w i = lit< tt
octets (x ∷ xs) w zero = w.0
octets (x ∷ xs) w (suc i) = octets xs w.1 i

module _ (xs : List ℕ) where
  pub none_stands : (a : ℕ) → a ≤ length xs → Stands xs a []
  none_stands a h = let e : a + 0 ≡ a = omega arith in record { fits = omega arith; same = ap (λ k. drop k xs) (sym e) }

  -- what fills the box is the box
  pub whole : (p : List ℕ) → Stands xs 0 p → length p ≡ length xs → p ≡ xs
  whole p s n =
      let none : drop (0 + length p) xs ≡ [] = drop_all (0 + length p) xs (omega arith) in
      sym (s.same ∙ ap (λ z. p ++ z) none ∙ append-nil p)

  pub all_stands : (p : List ℕ) → p ≡ xs → Stands xs 0 p
  all_stands p e =
      let n : length p ≡ length xs = ap length e in
      record {
        fits = omega arith;
        same = sym e ∙ sym (append-nil p) ∙ ap (λ z. p ++ z) (sym (drop_all (0 + length p) xs (omega arith)));
      }

  pub join : (a b : ℕ) (p q : List ℕ) → Stands xs a p → Stands xs b q → b ≡ a + length p → Stands xs a (p ++ q)
  join a b p q s t e =
      let n = length-append p q in
      let k : a + length (p ++ q) ≡ b + length q = omega arith in
      record {
        fits = omega (arith, t.fits);
        same =
            s.same ∙ ap (λ z. p ++ drop z xs) (sym e) ∙ ap (λ z. p ++ z) t.same ∙ sym (append_assoc p q (drop (b + length q) xs))
            ∙ ap (λ z. (p ++ q) ++ drop z xs) (sym k);
      }

  after_first : (a : ℕ) (p q : List ℕ) → Stands xs a (p ++ q) → drop (a + length p) xs ≡ q ++ drop (a + length (p ++ q)) xs
  after_first a p q s =
      let rest = drop (a + length (p ++ q)) xs in
      sym (drop-drop (length p) a xs) ∙ ap (drop (length p)) (s.same ∙ append_assoc p q rest) ∙ drop_at p (q ++ rest) (length p) refl

  pub first : (a : ℕ) (p q : List ℕ) → Stands xs a (p ++ q) → Stands xs a p
  first a p q s =
      let n = length-append p q in
      record {
        fits = omega (arith, s.fits);
        same = s.same ∙ append_assoc p q (drop (a + length (p ++ q)) xs) ∙ ap (λ z. p ++ z) (sym (after_first a p q s));
      }

  pub second : (a b : ℕ) (p q : List ℕ) → Stands xs a (p ++ q) → b ≡ a + length p → Stands xs b q
  second a b p q s e =
      let n = length-append p q in
      let k : a + length (p ++ q) ≡ b + length q = omega arith in
      record {
        fits = omega (arith, s.fits);
        same = ap (λ z. drop z xs) e ∙ after_first a p q s ∙ ap (λ z. q ++ drop z xs) k;
      }

  pub byte_is : (a x : ℕ) (p : List ℕ) → Stands xs a (x ∷ p) → get_or xs a 0 ≡ x
  byte_is a x p s =
      let d = drop_more xs a 0 (omega (arith, s.fits)) in
      let e = s.same in
      cc

  pub byte_stands : (a : ℕ) → a + 1 ≤ length xs → Stands xs a (get_or xs a 0 ∷ [])
  byte_stands a h = record { fits = omega arith; same = drop_more xs a 0 (omega arith) }

  pub tail : (a : ℕ) (x : ℕ) (p : List ℕ) → Stands xs a (x ∷ p) → Stands xs (a + 1) p
  tail a x p s = second a (a + 1) (x ∷ []) p s refl

  pub half_is : (a n : ℕ) → n < 2 ^ 16 → Stands xs a (half_bytes n) → half xs a ≡ n
  half_is a n h s =
      let e0 = byte_is a _ _ s in
      let e1 = byte_is (a + 1) _ _ (tail a _ _ s) in
      omega arith

  pub word_is : (a n : ℕ) → n < 2 ^ 32 → Stands xs a (word_bytes n) → word xs a ≡ n
  word_is a n h s =
      let s1 = tail a _ _ s in
      let s2 = tail (a + 1) _ _ s1 in
      let s3 = tail (a + 1 + 1) _ _ s2 in
      let e0 = byte_is a _ _ s in
      let e1 = byte_is (a + 1) _ _ s1 in
      let n2 : a + 1 + 1 ≡ a + 2 = omega arith in
      let n3 : a + 1 + 1 + 1 ≡ a + 3 = omega arith in
      let e2 : get_or xs (a + 2) 0 ≡ n / 256 % 256 = ap (λ k. get_or xs k 0) (sym n2) ∙ byte_is (a + 1 + 1) _ _ s2 in
      let e3 : get_or xs (a + 3) 0 ≡ n % 256 = ap (λ k. get_or xs k 0) (sym n3) ∙ byte_is (a + 1 + 1 + 1) _ _ s3 in
      let number = word_number n h in
      omega arith

  module _ (o : Bytes xs) where
    pub half-stands : (a : ℕ) → a + 2 ≤ length xs → Stands xs a (half_bytes (half xs a))
    half-stands a h =
        let x = get_or xs a 0 in
        let y = get_or xs (a + 1) 0 in
        let hx = o a in
        let hy = o (a + 1) in
        let p : (x * 256 + y) / 256 % 256 ≡ x = omega arith in
        let q : (x * 256 + y) % 256 ≡ y = omega arith in
        let e : x ∷ y ∷ [] ≡ half_bytes (x * 256 + y) = cc in
        subst (Stands xs a) e (join a (a + 1) (x ∷ []) (y ∷ []) (byte_stands a (omega arith)) (byte_stands (a + 1) (omega arith)) refl)

    pub word_stands : (a : ℕ) → a + 4 ≤ length xs → Stands xs a (word_bytes (word xs a))
    word_stands a h =
        let x = get_or xs a 0 in
        let y = get_or xs (a + 1) 0 in
        let z = get_or xs (a + 2) 0 in
        let w = get_or xs (a + 3) 0 in
        let hx = o a in
        let hy = o (a + 1) in
        let hz = o (a + 2) in
        let hw = o (a + 3) in
        let n = x * 16777216 + y * 65536 + z * 256 + w in
        let p : n / 16777216 % 256 ≡ x = omega arith in
        let q : n / 65536 % 256 ≡ y = omega arith in
        let r : n / 256 % 256 ≡ z = omega arith in
        let s : n % 256 ≡ w = omega arith in
        let e : x ∷ y ∷ z ∷ w ∷ [] ≡ word_bytes n = cc in
        let s1 = join a (a + 1) (x ∷ []) (y ∷ []) (byte_stands a (omega arith)) (byte_stands (a + 1) (omega arith)) refl in
        let s2 = join a (a + 2) (x ∷ y ∷ []) (z ∷ []) s1 (byte_stands (a + 2) (omega arith)) refl in
        subst (Stands xs a) e (join a (a + 3) (x ∷ y ∷ z ∷ []) (w ∷ []) s2 (byte_stands (a + 3) (omega arith)) refl)
