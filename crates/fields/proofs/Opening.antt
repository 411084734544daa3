-- The header and the count of a box stand there as they are written, and what is written is read.
use Rattle.std.proofs.Common.{◌≡◌, ℕ, ◌+◌, ◌^◌, ◌<◌, ◌≤◌, true, ◌&&◌, eqb, leb, List, ◌++◌, length, take, Ok, refl, ap, ◌∙◌, subst, arith, eq-eqb, eqb-true}
use Rattle.std.proofs.lemmas.List.{take_at}
use Rattle.std.proofs.lemmas.Bool.Decides.{nat_tests}
use Rattle.fault.specs.Faults.{fault}
use Rattle.fault.specs.declared.layer.Layer.{Layer}
use Rattle.fault.specs.declared.reason.Reason.TheVariants.{Extent, BoxType, Count}
use Rattle.fields.specs.Field.{check, word, word_at}
use Rattle.fields.specs.Header.{header_of, count_at}
use Rattle.fields.specs.Items.{padded}
use Rattle.fields.specs.Put.{word_bytes, boxed}
use Rattle.fields.proofs.Chains.{then_ok, then_go, ok_same, check_ok, check_go, field_ok, field_go}
use Rattle.fields.proofs.Standing.{Stands, Bytes, join, first, second, whole, all_stands, word_is, word_stands}

-- the table begins with what was read
pub take-padded : {A : Type 0} (blank : A) (es : List A) (n : ℕ) → length es ≡ n → take n (padded blank es) ≡ es
take-padded blank es n e = take_at es _ n e

module _ (who : Layer) (xs : List ℕ) where
  -- the first eight bytes of a box
  abbrev pub Head : ℕ → Type 0
  Head type = Stands xs 0 (word_bytes (length xs) ++ word_bytes type)

  pub word_read : (at n : ℕ) → n < 2 ^ 32 → Stands xs at (word_bytes n) → word_at who xs at ≡ Ok n
  word_read at n h s = field_go 4 word who xs at n s.fits (word_is xs at n h s)

  pub header_read : (type : ℕ) → type < 2 ^ 32 → length xs < 2 ^ 32 → Head type → header_of who type xs ≡ Ok tt
  header_read type t n s =
      then_go _ (word_read 0 (length xs) n (first xs 0 (word_bytes (length xs)) (word_bytes type) s))
      (then_go _ (check_go (fault Extent who 0) (eq-eqb (length xs) (length xs) refl))
      (then_go _ (word_read 4 type t (second xs 0 4 (word_bytes (length xs)) (word_bytes type) s refl))
      (check_go (fault BoxType who 4) (eq-eqb type type refl))))

  pub count_read : (at n : ℕ) → 1 ≤ n → n ≤ 16 → Stands xs at (word_bytes n) → count_at who xs at ≡ Ok n
  count_read at n low high s =
      let known : (leb 1 n && leb n 16) ≡ true = grind (arith, nat_tests) in
      then_go _ (word_read at n (omega arith) s) (then_go (λ _. Ok n) (check_go (fault Count who at) known) refl)

  -- a box stands in its bytes by parts
  pub opened : (type : ℕ) (body : List ℕ) → boxed type body ≡ xs → Head type × Stands xs 8 body
  opened type body e =
      let s = all_stands xs (boxed type body) e in
      let l = ap length e in
      let n : 8 + length body ≡ length xs = omega arith in (
        subst (λ k. Stands xs 0 (word_bytes k ++ word_bytes type)) n (first xs 0 (word_bytes (8 + length body) ++ word_bytes type) body s),
        second xs 0 8 (word_bytes (8 + length body) ++ word_bytes type) body s refl,
      )

  -- and is its bytes where the parts fill them
  pub closed : (type : ℕ) (body : List ℕ) → Head type → Stands xs 8 body → 8 + length body ≡ length xs → boxed type body ≡ xs
  closed type body h s n =
      ap (λ k. word_bytes k ++ (word_bytes type ++ body)) n
      ∙ whole xs ((word_bytes (length xs) ++ word_bytes type) ++ body) (join xs 0 8 (word_bytes (length xs) ++ word_bytes type) body h s refl) (omega arith)

  module _ (o : Bytes xs) where
    pub word-found : (at n : ℕ) → word_at who xs at ≡ Ok n → Stands xs at (word_bytes n) × (n < 2 ^ 32)
    word-found at n e =
        let f = field_ok 4 word who xs at n e in
        let b0 = o at in
        let b1 = o (at + 1) in
        let b2 = o (at + 2) in
        let b3 = o (at + 3) in
        (subst (λ k. Stands xs at (word_bytes k)) f.1 (word_stands xs o at f.0), omega (arith, f.1))

    pub header-found : (type : ℕ) (u : Unit {0}) → header_of who type xs ≡ Ok u → Head type × (length xs < 2 ^ 32)
    header-found type u e =
        then_ok (word_at who xs 0) _ u e (λ size g0 e0.
        then_ok (check (eqb size (length xs)) (fault Extent who 0)) _ u e0 (λ v g1 e1.
        then_ok (word_at who xs 4) _ u e1 (λ found g2 e2.
        let s0 = word-found 0 size g0 in
        let s4 = word-found 4 found g2 in
        let n = eqb-true size (length xs) (check_ok _ _ v g1) in
        let t = eqb-true found type (check_ok _ _ u e2) in
        let small = s0.1 in (
          join xs 0 4 (word_bytes (length xs)) (word_bytes type) (subst (λ k. Stands xs 0 (word_bytes k)) n s0.0) (subst (λ k. Stands xs 4 (word_bytes k)) t s4.0) refl,
          omega arith,
        ))))

    pub count-found : (at n : ℕ) → count_at who xs at ≡ Ok n → (1 ≤ n) × (n ≤ 16) × Stands xs at (word_bytes n)
    count-found at n e =
        then_ok (word_at who xs at) _ n e (λ m g0 e0.
        then_ok (check (leb 1 m && leb m 16) (fault Count who at)) _ n e0 (λ v g1 e1.
        let is = ok_same m n e1 in
        let known = check_ok _ _ v g1 in
        let low : 1 ≤ m = grind (arith, nat_tests) in
        let high : m ≤ 16 = grind (arith, nat_tests) in
        (omega arith, omega arith, subst (λ k. Stands xs at (word_bytes k)) is (word-found at m g0).0)))
