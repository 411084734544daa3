-- Which patterns of bits are numbers, for either width.
use Rattle.std.specs.Prelude.{◌≡◌, ℕ, ◌*◌, ◌%◌, nat_lt}
use Rattle.std.specs.Float.{Format as Width}
use Rattle.std.specs.Float.Ieee.{nan_bits, ones, hid, top}
use Rattle.std.specs.Float.Ieee.Bits.{nan_bits_above}

-- above the infinity, the sign left out, no pattern is a number
pub above : (w : Width) (n : ℕ) → nan_bits w n ≡ nat_lt (ones w * hid w) (n % top w)
above = nan_bits_above
