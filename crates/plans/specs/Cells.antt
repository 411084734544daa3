-- What the values of the code mean: cells and slots of a line, and how a line is packed.
use Rattle.plans.specs.declared.entry.Entry.{Entry}
use Rattle.plans.specs.declared.packing.Blocks.{Blocks}
use Rattle.plans.specs.declared.packing.Packing.{Packing}
use Rattle.placement.specs.Line as line
use Rattle.placement.specs.Pack as pack
use Rattle.placement.specs.Place.{Slot}

abbrev pub cell_of : Entry → pack.Cell
cell_of e = record { depth = e.depth.0; align = e.align.0 }

abbrev pub slot_of : Entry → Slot
slot_of e = record { index = e.index; cell = cell_of e }

abbrev pub blocks_of : Blocks → pack.Blocks
blocks_of b = record { bytes = b.bytes.0; little = b.little; pad_low = b.pad_low; reversed = b.reversed }

abbrev pub packing_of : Packing → line.Packing
packing_of p =
    record {
      little = p.little;
      blocks = blocks_of p.blocks;
      pixel = p.pixel.0;
      row_align = p.row_align.0;
      tile_align = p.tile_align.0;
    }
