-- Worked cases: small layouts, and where some of their bits lie.
use Rattle.std.specs.Prelude.{◌≡◌, ℕ, zero, suc, ◌-◌, Bool, true, false, List, [], ◌∷◌, length, Some, None, Ok, Option}
use Rattle.std.specs.List.{AllByRecursion}
use Rattle.choices.specs.declared.choice.Format.TheVariants.{Integer}
use Rattle.choices.specs.declared.choice.Interleave.{Interleave}
use Rattle.choices.specs.declared.choice.Interleave.TheVariants.{Component, Pixel, TileComponent, MultiY}
use Rattle.choices.specs.declared.choice.Sampling.{Sampling}
use Rattle.choices.specs.declared.choice.Sampling.TheVariants.{Full, Yuv422, Yuv420}
use Rattle.choices.specs.declared.flags.Flags.{Flags}
use Rattle.configuration.specs.Encoded.{listed}
use Rattle.configuration.specs.declared.entry.Entry.{Entry}
use Rattle.configuration.specs.declared.listing.Listing.{Listing}
use Rattle.configuration.specs.declared.listing.Sizes.{Sizes}
use Rattle.placement.specs.declared.place.Place.{Place}
use Rattle.rules.specs.Whole.{list_kept}
use Rattle.layout.specs.Locating.{locate_answer}
use Rattle.plans.specs.Views.{size_of, view_by}

-- the type of each index, in their order
abbrev pub typed : List ℕ → ℕ → Option ℕ
typed [] c = None
typed (t ∷ ts) zero = Some t
typed (t ∷ ts) (suc c) = typed ts c

-- integers of some bits, in a word of their own where it has bytes
abbrev pub integer : ℕ → ℕ → ℕ → Entry
integer index depth align = record { index = index; depth_less_one = depth - 1; format = Integer; align = align }

abbrev pub octet : ℕ → Entry
octet index = integer index 8 0

-- no byte order, no padding
abbrev pub flags : Bool → Bool → Bool → Flags
flags pad_low little reversed =
    record {
      components_little_endian = false;
      pad_low = pad_low;
      block_little_endian = little;
      block_reversed = reversed;
      pad_unknown = false;
    }

-- pixel size, row align, tile columns; nothing else
abbrev pub sizes : ℕ → ℕ → ℕ → Sizes
sizes pixel row columns =
    record {
      pixel_size = pixel;
      row_align = row;
      tile_align = 0;
      tile_columns_less_one = columns - 1;
      tile_rows_less_one = 0;
    }

abbrev pub listing : Sampling → Interleave → ℕ → Flags → Sizes → List Entry → Listing
listing s i block f z es =
    record { profile = 0; entries = record { count = length es; slots = es }; packing = record { sampling = s; interleave = i; block = block; flags = f }; sizes = z }

-- a bit of a place, and the byte and the number in it where it lies
pub record Bit : Type 0 where
  pub place : Place
  pub bit : ℕ
  pub byte : ℕ
  pub number : ℕ

abbrev pub at : ℕ → ℕ → ℕ → ℕ → ℕ → ℕ → Bit
at index column row bit byte number = record { place = record { index = index; column = column; row = row }; bit = bit; byte = byte; number = number }

pub record Case : Type 0 where
  pub types : List ℕ
  pub listing : Listing
  pub width : ℕ
  pub height : ℕ
  pub size : ℕ
  pub bits : List Bit

-- the rules accept the case, and its size and bits are as they are written
pub record Holds (c : Case) : Type 0 where
  pub kept : list_kept (typed c.types) c.listing (listed c.listing) c.width c.height ≡ Ok tt
  pub size : size_of (view_by (typed c.types) c.listing c.width c.height) ≡ c.size
  pub bits : AllByRecursion (λ b. locate_answer (view_by (typed c.types) c.listing c.width c.height) b.place b.bit ≡ Ok (b.byte, b.number)) c.bits

-- one pixel of R G B at depth 10 and A at depth 7 in a byte of its own
abbrev pub narrow_alpha : Case
narrow_alpha =
    record {
      types = 4 ∷ 5 ∷ 6 ∷ 7 ∷ [];
      listing = listing Full Pixel 0 (flags false false false) (sizes 0 0 1) (integer 0 10 0 ∷ integer 1 10 0 ∷ integer 2 10 0 ∷ integer 3 7 1 ∷ []);
      width = 1;
      height = 1;
      size = 5;
      bits = at 3 0 0 0 4 6 ∷ at 2 0 0 9 3 2 ∷ [];
    }

-- two pixels of R G B in blocks of 4, the unused bits low: the second pixel goes on in the first block
abbrev pub blocked : ℕ → ℕ → ℕ → Case
blocked pixel size second =
    record {
      types = 4 ∷ 5 ∷ 6 ∷ [];
      listing = listing Full Pixel 4 (flags true false false) (sizes pixel 0 1) (octet 0 ∷ octet 1 ∷ octet 2 ∷ []);
      width = 2;
      height = 1;
      size = size;
      bits = at 0 1 0 0 second 7 ∷ at 0 1 0 7 second 0 ∷ [];
    }

-- 4:2:2 as U Y V Y at depth 10, three values to a little-endian block of 4, the first lowest
abbrev pub multi_y : Case
multi_y =
    record {
      types = 2 ∷ 1 ∷ 3 ∷ [];
      listing = listing Yuv422 MultiY 4 (flags false true true) (sizes 0 0 1) (integer 0 10 0 ∷ integer 1 10 0 ∷ integer 2 10 0 ∷ integer 1 10 0 ∷ []);
      width = 6;
      height = 1;
      size = 16;
      bits = at 1 1 0 9 4 0 ∷ [];
    }

-- planes of 4:2:0, the rows rounded up or not
abbrev pub planes : ℕ → ℕ → ℕ → Case
planes row size second =
    record {
      types = 1 ∷ 2 ∷ 3 ∷ [];
      listing = listing Yuv420 Component 0 (flags false false false) (sizes 0 row 1) (octet 0 ∷ octet 1 ∷ octet 2 ∷ []);
      width = 4;
      height = 2;
      size = size;
      bits = at 2 1 0 0 second 7 ∷ at 2 1 0 7 second 0 ∷ [];
    }

-- two tiles side by side
abbrev pub tiled : Case
tiled =
    record {
      types = 0 ∷ [];
      listing = listing Full Component 0 (flags false false false) (sizes 0 0 2) (octet 0 ∷ []);
      width = 4;
      height = 2;
      size = 8;
      bits = at 0 2 0 0 4 7 ∷ at 0 2 0 7 4 0 ∷ [];
    }

-- two components in two tiles, by tile or by component
abbrev pub twice : Interleave → ℕ → Case
twice i second =
    record {
      types = 0 ∷ 0 ∷ [];
      listing = listing Full i 0 (flags false false false) (sizes 0 0 2) (octet 0 ∷ octet 1 ∷ []);
      width = 4;
      height = 1;
      size = 8;
      bits = at 1 0 0 0 second 7 ∷ at 1 0 0 7 second 0 ∷ [];
    }

abbrev pub cases : List Case
cases =
    narrow_alpha ∷ blocked 0 8 3 ∷ blocked 4 8 4 ∷ multi_y ∷ planes 0 12 11 ∷ planes 4 16 13 ∷ tiled ∷ twice Component 2
    ∷ twice TileComponent 4 ∷ []

abbrev pub Worked : Type 0
Worked = AllByRecursion Holds cases
