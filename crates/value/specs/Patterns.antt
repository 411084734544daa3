-- What is known of a type of floats, and its values and their codes: the two ways there and back.
use Rattle.std.specs.Prelude.{◌≡◌, ℕ, ◌*◌, ◌^◌, ◌<◌, Bool, true, T, Ok, refl, Float, nat_lt}
use Rattle.std.proofs.Common.{arith, lt-ltb, ltb-true}
use Rattle.std.specs.Float.{Format as Width, binary32, binary64}
use Rattle.std.specs.Float.Ieee.{fits, top}
use Rattle.value.specs.Floats.{float_code, value_of_code}
use Rattle.value.specs.Floating as floating

-- Its values are the floats of its width and no others, and the codes with room are those of as many bits.
pub record PatternLaws {A : Type 0} (width : Width) (float : A → Float) (of_float : Float → A) (room : ℕ → Bool) : Type 0 where
  pub value_is : (v : A) → of_float (float v) ≡ v
  pub float_is : (x : Float) → float (of_float x) ≡ x
  pub has_room : (n : ℕ) → n < 2 * top width → room n ≡ true
  pub is_small : (n : ℕ) → n < 2 ^ 64 → room n ≡ true → n < 2 * top width

module _ {A : Type 0} {w : Width} {float : A → Float} {of_float : Float → A} {room : ℕ → Bool} (laws : PatternLaws w float of_float room) where
  pub back : (v : A) (n : ℕ) → T (fits w (float v)) → float_code w (float v) ≡ Ok n → value_of_code of_float room w n ≡ Ok v
  back v n f h = grind (arith, laws.has_room n (floating.code_small w (float v) n f h), floating.back w (float v) n f h, laws.value_is)

  pub again : (n : ℕ) (v : A) → n < 2 ^ 64 → value_of_code of_float room w n ≡ Ok v → float_code w (float v) ≡ Ok n
  again n v s h = grind (arith, laws.is_small n s, floating.again w n, laws.float_is)

pub binary32_laws : PatternLaws binary32 (λ x. x) (λ x. x) (λ n. nat_lt n (2 ^ 32))
binary32_laws = record {
  value_is = λ v. refl;
  float_is = λ x. refl;
  has_room = λ n small. lt-ltb n (2 ^ 32) small;
  is_small = λ n _ room. ltb-true n (2 ^ 32) room;
}

pub binary64_laws : PatternLaws binary64 (λ x. x) (λ x. x) (λ n. true)
binary64_laws = record {
  value_is = λ v. refl;
  float_is = λ x. refl;
  has_room = λ n _. refl;
  is_small = λ n small _. small;
}
