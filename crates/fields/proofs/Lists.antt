-- A list in a box stands there as it is written, and what is written is read.
use Rattle.std.proofs.Common.{◌≡◌, ℕ, zero, suc, ◌+◌, ◌≤◌, List, [], ◌∷◌, ◌++◌, map, length, Ok, Result, refl, ap, ◌∙◌, subst, arith}
use Rattle.std.proofs.lemmas.List.{length-append}
use Rattle.std.specs.List.{flat_map, AllByRecursion}
use Rattle.fault.specs.declared.fault.Fault.{Fault}
use Rattle.fields.specs.Field.{then}
use Rattle.fields.specs.Items.{items_from}
use Rattle.fields.specs.declared.item.Item.{Item}
use Rattle.fields.proofs.Chains.{then_ok, then_go, ok_same}
use Rattle.fields.proofs.Standing.{Stands, none_stands, join, first, second}

-- elements read as A stand for what `see` shows of them, written by `bytes`
module _ {A D : Type 0} (xs : List ℕ) (read : List ℕ → ℕ → Result (Item A) Fault) (see : A → D) (bytes : D → List ℕ) (Well : D → Type 0) where
  -- d stands at a, and ends at b
  pub record Element (a b : ℕ) (d : D) : Type 0 where
    pub well : Well d
    pub stands : Stands xs a (bytes d)
    pub ends : b ≡ a + length (bytes d)

  pub record Elements (k a b : ℕ) (ds : List D) : Type 0 where
    pub count : length ds ≡ k
    pub well : AllByRecursion Well ds
    pub stands : Stands xs a (flat_map bytes ds)
    pub ends : b ≡ a + length (flat_map bytes ds)

  pub items_stand : ((a : ℕ) (i : Item A) → read xs a ≡ Ok i → Element a i.next (see i.value)) → (k a : ℕ) (i : Item (List A)) → a ≤ length xs → items_from read k xs a ≡ Ok i → Elements k a i.next (map see i.value)
  items_stand one zero a i h e =
      let is = ok_same _ i e in
      let n : a ≡ a + 0 = omega arith in
      subst (λ z. Elements zero a z.next (map see z.value)) is (record { count = refl; well = tt; stands = none_stands xs a h; ends = n })
  items_stand one (suc k) a i h e =
      then_ok (read xs a) _ i e (λ f g e1.
      then_ok (items_from read k xs f.next) _ i e1 (λ r g2 e2.
      let is = ok_same _ i e2 in
      let x = one a f g in
      let end = x.ends in
      let xs-fits = x.stands.fits in
      let m = items_stand one k f.next r (omega arith) g2 in
      let p = bytes (see f.value) in
      let q = flat_map bytes (map see r.value) in
      let n = length-append p q in
      let last = m.ends in
      subst (λ z. Elements (suc k) a z.next (map see z.value)) is (record {
        count = ap suc m.count;
        well = (x.well, m.well);
        stands = join xs a f.next p q x.stands m.stands end;
        ends = omega arith;
      })))

  -- what reading answers where d stands
  abbrev pub Read : ℕ → D → Type 0
  Read a d = (x : A) × (read xs a ≡ Ok (record { value = x; next = a + length (bytes d) })) × (see x ≡ d)

  abbrev pub Reads : ℕ → List D → Type 0
  Reads a ds = (vs : List A) × (items_from read (length ds) xs a ≡ Ok (record { value = vs; next = a + length (flat_map bytes ds) })) × (map see vs ≡ ds)

  pub items_read : ((a : ℕ) (d : D) → Well d → Stands xs a (bytes d) → Read a d) → (ds : List D) (a : ℕ) → AllByRecursion Well ds → Stands xs a (flat_map bytes ds) → Reads a ds
  items_read one [] a w s = ([], ap (λ n. Ok (record { value = []; next = n })) (omega arith), refl)
  items_read one (d ∷ ds) a w s =
      let b = a + length (bytes d) in
      let x = one a d w.0 (first xs a (bytes d) (flat_map bytes ds) s) in
      let r = items_read one ds b w.1 (second xs a b (bytes d) (flat_map bytes ds) s refl) in
      let n : b + length (flat_map bytes ds) ≡ a + length (bytes d ++ flat_map bytes ds) = omega (arith, length-append (bytes d) (flat_map bytes ds)) in (
        x.0 ∷ r.0,
        then_go (λ f. then (items_from read (length ds) xs f.next) (λ m. Ok (record { value = f.value ∷ m.value; next = m.next }))) x.1
            (then_go (λ m. Ok (record { value = x.0 ∷ m.value; next = m.next })) r.1 (ap (λ z. Ok (record { value = x.0 ∷ r.0; next = z })) n)),
        ap (λ z. z ∷ map see r.0) x.2 ∙ ap (λ z. d ∷ z) r.2,
      )
