-- What the parts of a layout show.
use Rattle.std.specs.Prelude.{take}
use Rattle.plans.specs.Views.{View}
use Rattle.layout.specs.declared.parts.Parts.{Parts}

abbrev pub view_of : Parts → View
view_of p =
    record {
      width = p.width;
      height = p.height;
      sampling = p.sampling;
      interleave = p.interleave;
      packing = p.packing;
      tile_columns = p.tile_columns;
      tile_rows = p.tile_rows;
      entries = take p.count p.table;
    }
