-- What a listing says of its entries, with the types of their components.
use Rattle.std.specs.Prelude.{List}
use Rattle.boxes.specs.Pairs.{type_of}
use Rattle.configuration.specs.Encoded.{listed}
use Rattle.configuration.specs.declared.entry.Entry.{Entry}
use Rattle.configuration.specs.declared.listing.Packing.{Packing}
use Rattle.rules.specs.Entries.{Types}
use Rattle.rules.specs.declared.typed.Typed.{Typed}

abbrev pub types : Typed → Types
types t = type_of t.boxes.now

abbrev pub entries : Typed → List Entry
entries t = listed t.listing.now

abbrev pub packing : Typed → Packing
packing t = t.listing.now.packing
