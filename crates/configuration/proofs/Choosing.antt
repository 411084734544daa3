-- A choice is read where its number stands.
use Rattle.std.proofs.Common.{◌≡◌, ℕ, ◌+◌, ◌<◌, ◌≤◌, List, length, Some, Ok, Option, sym, ◌∙◌, arith}
use Rattle.fault.specs.declared.layer.Layer.TheVariants.{ConfigurationBox}
use Rattle.configuration.specs.Chosen.{choice_at, reserved_at}
use Rattle.fields.specs.Field.{accepted, byte, byte_at}
use Rattle.fields.proofs.Chains.{then_ok, then_go, accepted_ok, accepted_go, field_ok, field_go}

-- a choice that was read has its number in the byte
pub choice_ok : {A : Type 0} (choose : ℕ → Option A) (number : A → ℕ) → ((n : ℕ) (x : A) → n < 256 → choose n ≡ Some x → number x ≡ n) → (xs : List ℕ) (at : ℕ) (x : A) → byte xs at < 256 → choice_at choose xs at ≡ Ok x → (at + 1 ≤ length xs) × (byte xs at ≡ number x)
choice_ok choose number back xs at x small h =
    then_ok (byte_at ConfigurationBox xs at) _ x h (λ n g k.
    let f = field_ok 1 byte ConfigurationBox xs at n g in
    let is = f.1 in
    (f.0, f.1 ∙ sym (back n x (omega arith) (accepted_ok (choose n) (reserved_at at) x k))))

pub choice_go : {A : Type 0} (choose : ℕ → Option A) (number : A → ℕ) → (xs : List ℕ) (at : ℕ) (x : A) → choose (number x) ≡ Some x → at + 1 ≤ length xs → byte xs at ≡ number x → choice_at choose xs at ≡ Ok x
choice_go choose number xs at x back h e =
    then_go (λ n. accepted (choose n) (reserved_at at)) (field_go 1 byte ConfigurationBox xs at (number x) h e) (accepted_go (reserved_at at) back)
