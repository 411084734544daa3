-- The flags byte of the configuration box, its three lowest bits reserved.
use Rattle.std.specs.Prelude.{ℕ, ◌+◌, ◌/◌, ◌%◌, Bool, cond, Some, None, Option, ◌==◌}
use Rattle.choices.specs.declared.flags.Flags.{Flags}

-- the bit of n with this weight
abbrev pub bit : ℕ → ℕ → Bool
bit weight n = n / weight % 2 == 1

abbrev pub flags_in : ℕ → Flags
flags_in n =
    record {
      components_little_endian = bit 128 n;
      pad_low = bit 64 n;
      block_little_endian = bit 32 n;
      block_reversed = bit 16 n;
      pad_unknown = bit 8 n;
    }

abbrev pub flags_of : ℕ → Option Flags
flags_of n = cond (n % 8 == 0) (Some (flags_in n)) None

abbrev pub flags_byte : Flags → ℕ
flags_byte f =
    cond f.components_little_endian 128 0 + cond f.pad_low 64 0 + cond f.block_little_endian 32 0
    + cond f.block_reversed 16 0 + cond f.pad_unknown 8 0
