-- A flag comes back from its code, and the code of a flag from that.
use Rattle.std.specs.Prelude.{◌≡◌, ℕ, ◌^◌, ◌<◌, Bool, Ok}
use Rattle.std.proofs.Common.{arith}
use Rattle.value_tests.specs.Flags.{always, flag_code, flag_of}

pub back : (v : Bool) (n : ℕ) → always v → flag_code v ≡ Ok n → flag_of n ≡ Ok v
back v n _ h = grind arith

pub again : (n : ℕ) (v : Bool) → n < 2 ^ 64 → flag_of n ≡ Ok v → flag_code v ≡ Ok n
again n v _ h = grind arith
