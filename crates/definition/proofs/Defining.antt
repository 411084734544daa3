-- Components stand in the definition box as they are written, and what is written is read.
use Rattle.std.proofs.Common.{◌≡◌, ℕ, suc, ◌+◌, ◌^◌, ◌<◌, ◌≤◌, Bool, true, false, cond, ◌||◌, eqb, ltb, leb, List, [], ◌∷◌, ◌++◌, length, take, drop, Some, None, Ok, Option, Result, sym, refl, ap, ◌∙◌, subst, arith, ltb-false, ltb-true, le-ltb, lt-ltb, ne_eqb, eqb-true}
use borrow.Author.Tests.{eqb-false}
use Rattle.std.proofs.lemmas.List.{append_assoc, length-append, length-drop, length-take-le, get_or-drop, drop-drop, take_at}
use Rattle.std.proofs.ByRecursion.{All-from_get_or}
use Rattle.std.proofs.lemmas.Bool.Decides.{nat_tests}
use Rattle.std.specs.List.{AllByRecursion}
use Rattle.fault.specs.Faults.{fault}
use Rattle.fault.specs.declared.fault.Fault.{Fault}
use Rattle.fault.specs.declared.layer.Layer.TheVariants.{DefinitionBox}
use Rattle.fault.specs.declared.reason.Reason.TheVariants.{Extent, Reserved}
use Rattle.definition.specs.Components.{run, uri_at, component_at}
use Rattle.definition.specs.Encoded.{Described, described, described_bytes, uri_bytes}
use Rattle.fields.specs.Field.{then, check, half, half_at}
use Rattle.fields.specs.Put.{half_bytes}
use Rattle.definition.specs.RoundTrip.{WellTyped, WellDescribed}
use Rattle.definition.specs.declared.component.Component.{Component}
use Rattle.fields.specs.declared.item.Item.{Item}
use Rattle.fields.proofs.Chains.{then_ok, then_go, ok_same, check_ok, check_go, field_ok, field_go}
use Rattle.fields.proofs.Lists.{Element, Read}
use Rattle.fields.proofs.Standing.{Stands, Bytes, join, first, second, half_is, half-stands}

-- a byte of a URI
abbrev pub Letter : ℕ → Type 0
Letter b = (0 < b) × (b < 256)

-- one byte more: it ends the run, or stands before it
run_step : (P : List ℕ → ℕ → Type 0) (y : ℕ) (ys : List ℕ) → (y ≡ 0 → P (y ∷ ys) 0) → ((y ≡ 0 → ⊥) → P (y ∷ ys) (suc (run ys))) → P (y ∷ ys) (run (y ∷ ys))
run_step P y ys stop goes = go (eqb y 0) refl
  where
    go : (t : Bool) → eqb y 0 ≡ t → P (y ∷ ys) (cond t 0 (suc (run ys)))
    go true e = stop (eqb-true y 0 e)
    go false e = goes (eqb-false y 0 e)

-- the bytes before a zero byte, the zero byte, and the rest
run_splits : (ys : List ℕ) → run ys < length ys → ys ≡ take (run ys) ys ++ (0 ∷ drop (run ys + 1) ys)
run_splits [] = λ h. absurd (omega arith)
run_splits (y ∷ ys) =
    run_step (λ zs n. n < length zs → zs ≡ take n zs ++ (0 ∷ drop (n + 1) zs)) y ys
    (λ e h. ap (λ z. z ∷ ys) e)
    (λ _ h.
    let n : suc (run ys) + 1 ≡ suc (run ys + 1) = omega arith in
    ap (λ z. y ∷ z) (run_splits ys (omega arith)) ∙ ap (λ k. y ∷ (take (run ys) ys ++ (0 ∷ drop k (y ∷ ys)))) (sym n))

run_letters : (ys : List ℕ) → AllByRecursion (λ b. b < 256) ys → AllByRecursion Letter (take (run ys) ys)
run_letters [] = λ w. tt
run_letters (y ∷ ys) = run_step (λ zs n. AllByRecursion (λ b. b < 256) zs → AllByRecursion Letter (take n zs)) y ys (λ _ _. tt) (λ ne w. ((omega arith, w.0), run_letters ys w.1))

-- a zero byte after bytes that are not zero ends the run
run_of : (u rest : List ℕ) → AllByRecursion Letter u → run (u ++ (0 ∷ rest)) ≡ length u
run_of [] rest w = refl
run_of (b ∷ u) rest w =
    let z : eqb b 0 ≡ false = ne_eqb b 0 (λ e. omega (arith, w.0.0)) in
    ap (λ t. cond t 0 (suc (run (u ++ (0 ∷ rest))))) z ∙ ap suc (run_of u rest w.1)

module _ (xs : List ℕ) where
  abbrev pub OneComponent : ℕ → ℕ → Described → Type 0
  OneComponent = Element xs component_at (described xs) described_bytes WellDescribed

  module _ (o : Bytes xs) where
    octets-from : (a : ℕ) → AllByRecursion (λ b. b < 256) (drop a xs)
    octets-from a = All-from_get_or (λ b. b < 256) (drop a xs) 0 (λ i _. subst (λ b. b < 256) (sym (get_or-drop a xs i 0)) (o (a + i)))

    -- a URI that ends in the box stands there
    uri-stands : (a : ℕ) → a + run (drop a xs) < length xs → Stands xs a (take (run (drop a xs)) (drop a xs) ++ 0 ∷ [])
    uri-stands a h =
        let ys = drop a xs in
        let n = run ys in
        let l = length-drop a xs in
        let k : length (take n ys ++ 0 ∷ []) ≡ n + 1 = omega (arith, length-append (take n ys) (0 ∷ []), length-take-le n ys (omega arith)) in
        record {
          fits = omega arith;
          same =
              run_splits ys (omega arith) ∙ sym (append_assoc (take n ys) (0 ∷ []) (drop (n + 1) ys))
              ∙ ap (λ z. (take n ys ++ 0 ∷ []) ++ z) (drop-drop (n + 1) a xs)
              ∙ ap (λ z. (take n ys ++ 0 ∷ []) ++ drop (a + z) xs) (sym k);
        }

    pub component-stands : (a : ℕ) (i : Item Component) → component_at xs a ≡ Ok i → OneComponent a i.next (described xs i.value)
    component-stands a i e =
        then_ok (half_at DefinitionBox xs a) _ i e (λ number g0 e0.
        then_ok (check (leb number 16 || leb 0x8000 number) (fault Reserved DefinitionBox a)) _ i e0 (λ u g1 e1.
        let f0 = field_ok 2 half DefinitionBox xs a number g0 in
        let known = check_ok _ _ u g1 in
        let hs = subst (λ n. Stands xs a (half_bytes n)) f0.1 (half-stands xs o a f0.0) in
        let b0 = o a in
        let b1 = o (a + 1) in
        go number f0.0 known (omega arith) hs (ltb number 0x8000) refl e1))
      where
        go : (number : ℕ) → a + 2 ≤ length xs → (leb number 16 || leb 0x8000 number) ≡ true → number < 2 ^ 16 → Stands xs a (half_bytes number) → (t : Bool) → ltb number 0x8000 ≡ t → cond t (Ok (record { value = record { number = number; uri = None }; next = a + 2 })) (then (uri_at xs (a + 2)) (λ n. Ok (record { value = record { number = number; uri = Some (record { at = a + 2; len = n }) }; next = a + 2 + n + 1 }))) ≡ Ok i → OneComponent a i.next (described xs i.value)
        go number fit known small hs true t e =
            let is = ok_same _ i e in
            let l = ltb-true number 0x8000 t in
            let low : number ≤ 16 = grind (arith, nat_tests) in
            subst (λ z. OneComponent a z.next (described xs z.value)) is (record { well = low; stands = hs; ends = refl })
        go number fit known small hs false t e =
            then_ok (uri_at xs (a + 2)) _ i e (λ n g e1.
            then_ok (check (ltb (a + 2 + run (drop (a + 2) xs)) (length xs)) (fault Extent DefinitionBox (a + 2))) _ n g (λ v g1 e2.
            let is = ok_same _ i e1 in
            let len : run (drop (a + 2) xs) ≡ n = ok_same _ n e2 in
            let inside = ltb-true _ _ (check_ok _ _ v g1) in
            let high = ltb-false number 0x8000 t in
            let us = subst (λ k. Stands xs (a + 2) (take k (drop (a + 2) xs) ++ 0 ∷ [])) len (uri-stands (a + 2) inside) in
            let w = subst (λ k. AllByRecursion Letter (take k (drop (a + 2) xs))) len (run_letters (drop (a + 2) xs) (octets-from (a + 2))) in
            let u = take n (drop (a + 2) xs) in
            let k = length-append u (0 ∷ []) in
            let m = length-take-le n (drop (a + 2) xs) (omega (arith, length-drop (a + 2) xs)) in
            subst (λ z. OneComponent a z.next (described xs z.value)) is (record {
              well = (high, small, w);
              stands = join xs a (a + 2) (half_bytes number) (u ++ 0 ∷ []) hs us refl;
              ends = omega arith;
            })))

  abbrev pub ReadComponent : ℕ → Described → Type 0
  ReadComponent = Read xs component_at (described xs) described_bytes WellDescribed

  -- a type of the user's own, with a URI of n bytes
  abbrev own : ℕ → ℕ → ℕ → Result (Item Component) Fault
  own a number n = Ok (record { value = record { number = number; uri = Some (record { at = a + 2; len = n }) }; next = a + 2 + n + 1 })

  -- what follows a type that is not reserved
  abbrev kept : ℕ → ℕ → Bool → Result (Item Component) Fault
  kept a number t = cond t (Ok (record { value = record { number = number; uri = None }; next = a + 2 })) (then (uri_at xs (a + 2)) (own a number))

  typed_read : (a number : ℕ) (uri : Option (List ℕ)) → WellTyped number uri → Stands xs a (half_bytes number ++ uri_bytes uri) → ReadComponent a (record { number = number; uri = uri })
  typed_read a number None w s =
      let known : (leb number 16 || leb 0x8000 number) ≡ true = grind (arith, nat_tests) in
      let low : ltb number 0x8000 ≡ true = lt-ltb number 0x8000 (omega arith) in (
        record { number = number; uri = None },
        then_go _ (field_go 2 half DefinitionBox xs a number s.fits (half_is xs a number (omega arith) s))
            (then_go (λ _. kept a number (ltb number 0x8000)) (check_go (fault Reserved DefinitionBox a) known) (ap (kept a number) low)),
        refl,
      )
  typed_read a number (Some u) w s =
      let known : (leb number 16 || leb 0x8000 number) ≡ true = grind (arith, nat_tests) in
      let high : ltb number 0x8000 ≡ false = le-ltb number 0x8000 w.0 in
      let h = first xs a (half_bytes number) (u ++ 0 ∷ []) s in
      let t = second xs a (a + 2) (half_bytes number) (u ++ 0 ∷ []) s refl in
      let k = length-append u (0 ∷ []) in
      let rest = drop (a + 2 + length (u ++ 0 ∷ [])) xs in
      let from : drop (a + 2) xs ≡ u ++ (0 ∷ rest) = t.same ∙ append_assoc u (0 ∷ []) rest in
      let n : run (drop (a + 2) xs) ≡ length u = ap run from ∙ run_of u rest w.2 in
      let fit = t.fits in
      let inside : ltb (a + 2 + run (drop (a + 2) xs)) (length xs) ≡ true = lt-ltb _ _ (omega arith) in
      let end : a + 2 + length u + 1 ≡ a + length (half_bytes number ++ (u ++ 0 ∷ [])) = omega arith in
      let text : take (length u) (drop (a + 2) xs) ≡ u = ap (take (length u)) from ∙ take_at u (0 ∷ rest) (length u) refl in
      let read : uri_at xs (a + 2) ≡ Ok (length u) = then_go (λ _. Ok (run (drop (a + 2) xs))) (check_go (fault Extent DefinitionBox (a + 2)) inside) (ap Ok n) in (
        record { number = number; uri = Some (record { at = a + 2; len = length u }) },
        then_go _ (field_go 2 half DefinitionBox xs a number h.fits (half_is xs a number w.1 h))
            (then_go (λ _. kept a number (ltb number 0x8000)) (check_go (fault Reserved DefinitionBox a) known)
            (ap (kept a number) high ∙ then_go (own a number) read (ap (λ z. Ok (record { value = record { number = number; uri = Some (record { at = a + 2; len = length u }) }; next = z })) end))),
        ap (λ z. record { number = number; uri = Some z }) text,
      )

  pub component_read : (a : ℕ) (d : Described) → WellDescribed d → Stands xs a (described_bytes d) → ReadComponent a d
  component_read a d w s = typed_read a d.number d.uri w s
