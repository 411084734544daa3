-- Readers one after another, taken apart and put together.
use Rattle.std.proofs.Common.{◌≡◌, ℕ, ◌+◌, ◌≤◌, Bool, true, false, cond, leb, List, length, Some, None, Ok, Err, Option, Result, refl, ap, ◌∙◌, arith, le-leb, leb-true}
use Rattle.fault.specs.Faults.{fault}
use Rattle.fault.specs.declared.fault.Fault.{Fault}
use Rattle.fault.specs.declared.layer.Layer.{Layer}
use Rattle.fault.specs.declared.reason.Reason.TheVariants.{Extent}
use Rattle.fields.specs.Field.{then, check, accepted, field}

-- what came before an accepted step
pub then_ok : {A B E P : Type 0} (r : Result A E) (f : A → Result B E) (y : B) → then r f ≡ Ok y → ((x : A) → r ≡ Ok x → f x ≡ Ok y → P) → P
then_ok (Ok x) f y h k = k x refl h
then_ok (Err e) f y h k = let z : ◌≡◌ {A = ℕ} 0 1 = cc in absurd (omega arith)

-- and how an accepted step goes on
pub then_go : {A B E : Type 0} {r : Result A E} {x : A} (f : A → Result B E) {y : Result B E} → r ≡ Ok x → f x ≡ y → then r f ≡ y
then_go f e h = ap (λ r. then r f) e ∙ h

pub ok_same : {A E : Type 0} (x y : A) → ◌≡◌ {A = Result A E} (Ok x) (Ok y) → x ≡ y
ok_same x y h = cc

pub check_ok : (b : Bool) (f : Fault) (x : Unit {0}) → check b f ≡ Ok x → b ≡ true
check_ok true f x h = refl
check_ok false f x h = let z : ◌≡◌ {A = ℕ} 0 1 = cc in absurd (omega arith)

pub check_go : {b : Bool} (f : Fault) → b ≡ true → check b f ≡ Ok tt
check_go f e = ap (λ b. check b f) e

pub accepted_ok : {A : Type 0} (o : Option A) (f : Fault) (x : A) → accepted o f ≡ Ok x → o ≡ Some x
accepted_ok (Some y) f x h = ap Some (ok_same y x h)
accepted_ok None f x h = let z : ◌≡◌ {A = ℕ} 0 1 = cc in absurd (omega arith)

pub accepted_go : {A : Type 0} {o : Option A} {x : A} (f : Fault) → o ≡ Some x → accepted o f ≡ Ok x
accepted_go f e = ap (λ o. accepted o f) e

cond_ok : (b : Bool) (x : ℕ) (f : Fault) (v : ℕ) → cond b (Ok x) (Err f) ≡ Ok v → (b ≡ true) × (x ≡ v)
cond_ok true x f v h = (refl, ok_same x v h)
cond_ok false x f v h = let z : ◌≡◌ {A = ℕ} 0 1 = cc in absurd (omega arith)

module _ (w : ℕ) (value : List ℕ → ℕ → ℕ) (who : Layer) (xs : List ℕ) (at v : ℕ) where
  pub field_ok : field w value who xs at ≡ Ok v → (at + w ≤ length xs) × (value xs at ≡ v)
  field_ok h =
      let p = cond_ok (leb (at + w) (length xs)) (value xs at) (fault Extent who at) v h in
      (leb-true (at + w) (length xs) p.0, p.1)

  pub field_go : at + w ≤ length xs → value xs at ≡ v → field w value who xs at ≡ Ok v
  field_go h e =
      ap (λ b. cond b (Ok (value xs at)) (Err (fault Extent who at))) (le-leb (at + w) (length xs) h) ∙ ap Ok e
