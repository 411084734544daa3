-- The loop that reads a list into a table.
use Rattle.std.proofs.Common.{◌≡◌, ℕ, suc, ◌+◌, ◌-◌, ◌<◌, ◌≤◌, List, [], ◌∷◌, ◌++◌, length, take, drop, set, replicate, Ok, Err, Result, sym, refl, ap, ◌∙◌, arith}
use Rattle.std.proofs.lemmas.List.{append_assoc, append-nil, length-take-le, length-set, take-append-drop, take_more_set, drop-set-lt, drop-drop, drop-replicate}
use Rattle.fault.specs.declared.fault.Fault.{Fault}
use Rattle.fields.specs.Field.{then}
use Rattle.fields.specs.Items.{items_from, padded, tabled}
use Rattle.fields.specs.declared.item.Item.{Item}
use Rattle.fields.specs.declared.table.Table.{Table}

module _ {A : Type 0} (blank : A) where
  -- a table of i elements, and blanks behind them
  pub record Sofar (i : ℕ) (t : Table A) : Type 0 where
    pub count : t.count ≡ i
    pub all : length t.slots ≡ 16
    pub rest : drop i t.slots ≡ replicate (16 - i) blank

  -- the answer, where `done` was read before and r is what reading the rest gives
  abbrev pub Onward : ℕ → List A → Result (Item (List A)) Fault → Result (Item (Table A)) Fault
  Onward n done r = then r (λ es. Ok (tabled blank n (record { value = done ++ es.value; next = es.next })))

  pub onward_none : (n : ℕ) (r : Result (Item (List A)) Fault) → Onward n [] r ≡ then r (λ es. Ok (tabled blank n es))
  onward_none n (Ok es) = refl
  onward_none n (Err f) = refl

  onward_more : (n : ℕ) (done : List A) (e : A) (r : Result (Item (List A)) Fault) → Onward n done (then r (λ rest. Ok (record { value = e ∷ rest.value; next = rest.next }))) ≡ Onward n (done ++ e ∷ []) r
  onward_more n done e (Ok es) = ap (λ v. Ok (tabled blank n (record { value = v; next = es.next }))) (sym (append_assoc done (e ∷ []) es.value))
  onward_more n done e (Err f) = refl

  padded_sofar : (i : ℕ) (t : Table A) → i ≤ 16 → Sofar i t → padded blank (take i t.slots ++ []) ≡ t.slots
  padded_sofar i t h s =
      let slots = t.slots in
      let all = s.all in
      let n : length (take i slots) ≡ i = length-take-le i slots (omega arith) in
      ap (padded blank) (append-nil (take i slots)) ∙ ap (λ k. take i slots ++ replicate (16 - k) blank) n
      ∙ ap (λ z. take i slots ++ z) (sym s.rest) ∙ take-append-drop i slots

  pub sofar_more : (i : ℕ) (t : Table A) (e : A) → i < 16 → Sofar i t → Sofar (i + 1) (record { count = t.count + 1; slots = set t.slots t.count e })
  sofar_more i t e h s =
      let k : 16 - i - 1 ≡ 16 - (i + 1) = omega arith in
      let count = s.count in
      record {
        count = omega arith;
        all = length-set t.slots t.count e ∙ s.all;
        rest =
            drop-set-lt (i + 1) t.slots t.count e (omega arith) ∙ sym (drop-drop 1 i t.slots) ∙ ap (drop 1) s.rest
            ∙ drop-replicate 1 (16 - i) blank ∙ ap (λ k. replicate k blank) k;
      }

  module _ (read : List ℕ → ℕ → Result (Item A) Fault) (xs : List ℕ) where
    -- what follows the first of k + 1
    abbrev after : ℕ → Item A → Result (Item (List A)) Fault
    after k first =
        then (items_from read k xs first.next) (λ rest.
        Ok (record { value = first.value ∷ rest.value; next = rest.next }))

    at_turn : (n i next : ℕ) → i < n → items_from read (n - i) xs next ≡ then (read xs next) (after (n - (i + 1)))
    at_turn n i next h = let e : n - i ≡ suc (n - (i + 1)) = omega arith in ap (λ k. items_from read k xs next) e

    pub turn-stops : (n i next : ℕ) (done : List A) (f : Fault) → i < n → read xs next ≡ Err f → Onward n done (items_from read (n - i) xs next) ≡ Err f
    turn-stops n i next done f h e =
        ap (Onward n done) (at_turn n i next h) ∙ ap (λ r. Onward n done (then r (after (n - (i + 1))))) e

    pub turn-goes : (n i next : ℕ) (t : Table A) (item : Item A) → i < n → i < 16 → Sofar i t → read xs next ≡ Ok item → Onward n (take i t.slots) (items_from read (n - i) xs next) ≡ Onward n (take (i + 1) (set t.slots t.count item.value)) (items_from read (n - (i + 1)) xs item.next)
    turn-goes n i next t item h l s e =
        let all = s.all in
        let rest = items_from read (n - (i + 1)) xs item.next in
        ap (Onward n (take i t.slots)) (at_turn n i next h) ∙ ap (λ r. Onward n (take i t.slots) (then r (after (n - (i + 1))))) e
        ∙ onward_more n (take i t.slots) item.value rest
        ∙ ap (λ d. Onward n d rest) (sym (take_more_set t.slots i item.value (omega arith)))
        ∙ ap (λ k. Onward n (take (i + 1) (set t.slots k item.value)) rest) (sym s.count)

    pub finished : (n next : ℕ) (t : Table A) → n ≤ 16 → Sofar n t → Onward n (take n t.slots) (items_from read (n - n) xs next) ≡ Ok (record { value = t; next = next })
    finished n next t h s =
        let e : n - n ≡ 0 = omega arith in
        let p = padded_sofar n t h s in
        let c = s.count in
        ap (λ k. Onward n (take n t.slots) (items_from read k xs next)) e ∙ (λ i. Ok (record { value = record { count = sym c i; slots = p i }; next = next }))
