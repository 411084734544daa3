-- All rules, in the order of their numbers.
use Rattle.std.specs.Prelude.{ℕ, Bool, true, false, ◌&&◌, List, [], is_some, Result}
use Rattle.fault.specs.declared.fault.Fault.{Fault}
use Rattle.fault.specs.declared.reason.Reason.TheVariants.{Presence, Dimensions, Index, Depth, Interleaving, Blocks, Alignment, Tiles}
use Rattle.fields.specs.Field.{then, check}
use Rattle.configuration.specs.Configurations.{listing_for}
use Rattle.configuration.specs.Encoded.{listed}
use Rattle.configuration.specs.declared.configuration.Configuration.{Configuration}
use Rattle.configuration.specs.declared.configuration.Configuration.TheVariants.{Listed, Brief}
use Rattle.configuration.specs.declared.entry.Entry.{Entry}
use Rattle.configuration.specs.declared.listing.Listing.{Listing}
use Rattle.boxes.specs.Pairs.{type_of}
use Rattle.boxes.specs.declared.boxes.Boxes.{Boxes}
use Rattle.rules.specs.Entries.{Types, indexed, deep}
use Rattle.rules.specs.Interleaving.{is_interleaved}
use Rattle.rules.specs.Packing.{blocks_fit, sizes_fit}
use Rattle.rules.specs.Rules.{broken, each_keeps}
use Rattle.rules.specs.Tiles.{side_fits, tiles_fit}

-- version 0 has a definition box, and version 1 has none
abbrev pub present_as : Configuration → Bool → Bool
present_as (Listed l) present = present
present_as (Brief p) true = false
present_as (Brief p) false = true

-- the rules on a list of entries, where the types of the indexes are known
abbrev pub list_kept : Types → Listing → List Entry → ℕ → ℕ → Result (Unit {0}) Fault
list_kept types l es width height =
    then (each_keeps (indexed types l.packing.interleave) Index [] es) (λ _.
    then (each_keeps (deep types) Depth [] es) (λ _.
    then (check (is_interleaved types l.packing.sampling l.packing.interleave es) (broken Interleaving)) (λ _.
    then (check (blocks_fit l.packing.block l.packing.flags es) (broken Blocks)) (λ _.
    then (check (sizes_fit l.packing.interleave l.packing.block l.sizes es) (broken Alignment)) (λ _.
    check (tiles_fit l.packing.sampling l.sizes width height) (broken Tiles))))))

-- the first rule that is broken is answered
abbrev pub kept : Boxes → ℕ → ℕ → Result (Unit {0}) Fault
kept b width height =
    then (check (present_as b.configuration (is_some b.definition)) (broken Presence)) (λ _.
    then (check (side_fits width && side_fits height) (broken Dimensions)) (λ _.
    list_kept (type_of b) (listing_for b.configuration) (listed (listing_for b.configuration)) width height))
