-- Blocks, byte orders, the pixel size and alignments.
use Rattle.std.specs.Prelude.{ℕ, ◌+◌, ◌*◌, ◌%◌, Bool, true, false, cond, not, ◌&&◌, ◌||◌, List, map, ◌==◌, nat_le}
use Rattle.std.specs.List.{list_all}
use Rattle.choices.specs.declared.choice.Interleave.{Interleave}
use Rattle.choices.specs.declared.choice.Interleave.TheVariants.{Component, Pixel, Mixed, Row, TileComponent, MultiY}
use Rattle.choices.specs.declared.flags.Flags.{Flags}
use Rattle.configuration.specs.declared.entry.Entry.{Entry}
use Rattle.configuration.specs.declared.listing.Sizes.{Sizes}
use Rattle.placement.specs.Line.{run_bytes}
use Rattle.placement.specs.Pack.{Cell, Blocks}

-- with blocks a value fits a block and has no word of its own
abbrev pub fits_block : ℕ → Entry → Bool
fits_block block e = nat_le (e.depth_less_one + 1) (8 * block) && e.align == 0

-- a value has a word of its own
abbrev pub is_aligned : Entry → Bool
is_aligned e = not (e.align == 0)

-- no flag of blocks is set
abbrev pub no_block_flags : Flags → Bool
no_block_flags f = not f.pad_low && (not f.block_little_endian && not f.block_reversed)

abbrev pub blocks_fit : ℕ → Flags → List Entry → Bool
blocks_fit block flags es =
    nat_le block 8
    && (cond (block == 0) (no_block_flags flags) (list_all (fits_block block) es) && (not flags.components_little_endian || list_all is_aligned es))

abbrev pub is_pixel : Interleave → Bool
is_pixel Component = false
is_pixel Pixel = true
is_pixel Mixed = false
is_pixel Row = false
is_pixel TileComponent = false
is_pixel MultiY = false

-- a listed entry as a value of a line
abbrev pub cell_of : Entry → Cell
cell_of e = record { depth = e.depth_less_one + 1; align = e.align }

-- blocks of so many bytes, of which nothing else matters here
abbrev pub sized : ℕ → Blocks
sized block = record { bytes = block; little = false; pad_low = false; reversed = false }

-- the bytes of one pixel, in whole blocks or bytes: those of a run of the entries
abbrev pub pixel_bytes : ℕ → List Entry → ℕ
pixel_bytes block es =
    run_bytes (record { little = false; blocks = sized block; pixel = 0; row_align = 0; tile_align = 0 }) (map cell_of es)

abbrev pub whole_blocks : ℕ → ℕ → Bool
whole_blocks block pixel = block == 0 || pixel % block == 0

abbrev pub pixel_fits : Interleave → ℕ → ℕ → List Entry → Bool
pixel_fits v block pixel es =
    (pixel == 0) || (nat_le pixel 65535 && (is_pixel v && (whole_blocks block pixel && nat_le (pixel_bytes block es) pixel)))

abbrev pub sizes_fit : Interleave → ℕ → Sizes → List Entry → Bool
sizes_fit v block s es =
    pixel_fits v block s.pixel_size es && (nat_le s.row_align 65536 && nat_le s.tile_align 1048576)
