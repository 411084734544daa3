-- What a configuration box of version 0 says after its profile.
use Rattle.std.specs.Prelude.{ℕ, ◌+◌, List, length, Ok, Result}
use Rattle.fault.specs.declared.fault.Fault.{Fault}
use Rattle.fault.specs.declared.layer.Layer.{Layer}
use Rattle.fault.specs.declared.layer.Layer.TheVariants.{ConfigurationBox}
use Rattle.choices.specs.Choices.{sampling_of, interleave_of}
use Rattle.configuration.specs.Chosen.{choice_by}
use Rattle.configuration.specs.Entries.{entry_by, blank}
use Rattle.fields.specs.Field.{then, byte_at, word_at}
use Rattle.choices.specs.Flags.{flags_of}
use Rattle.fields.specs.Header.{end_at}
use Rattle.fields.specs.Items.{list_at}
use Rattle.configuration.specs.declared.listing.Listing.{Listing}
use Rattle.configuration.specs.declared.listing.Packing.{Packing}
use Rattle.configuration.specs.declared.listing.Sizes.{Sizes}

-- four bytes: sampling, interleave, block size and flags
abbrev pub packing_by : Layer → List ℕ → ℕ → Result Packing Fault
packing_by who xs at =
    then (choice_by sampling_of who xs at) (λ sampling.
    then (choice_by interleave_of who xs (at + 1)) (λ interleave.
    then (byte_at who xs (at + 2)) (λ block.
    then (choice_by flags_of who xs (at + 3)) (λ flags.
    Ok (record { sampling = sampling; interleave = interleave; block = block; flags = flags })))))

abbrev pub packing_at : List ℕ → ℕ → Result Packing Fault
packing_at = packing_by ConfigurationBox

-- five 32-bit numbers
abbrev pub sizes_by : Layer → List ℕ → ℕ → Result Sizes Fault
sizes_by who xs at =
    then (word_at who xs at) (λ pixel.
    then (word_at who xs (at + 4)) (λ row.
    then (word_at who xs (at + 8)) (λ tile.
    then (word_at who xs (at + 12)) (λ columns.
    then (word_at who xs (at + 16)) (λ rows.
    Ok (record {
      pixel_size = pixel;
      row_align = row;
      tile_align = tile;
      tile_columns_less_one = columns;
      tile_rows_less_one = rows;
    }))))))

abbrev pub sizes_at : List ℕ → ℕ → Result Sizes Fault
sizes_at = sizes_by ConfigurationBox

-- the count, the entries, the packing and the sizes, and then the box ends
abbrev pub listing_by : ℕ → Layer → List ℕ → Result Listing Fault
listing_by profile who xs =
    then (list_at blank (entry_by who) who xs 16) (λ entries.
    then (packing_by who xs entries.next) (λ packing.
    then (sizes_by who xs (entries.next + 4)) (λ sizes.
    then (end_at who (length xs) (entries.next + 24)) (λ _.
    Ok (record { profile = profile; entries = entries.value; packing = packing; sizes = sizes })))))

abbrev pub listing_of : ℕ → List ℕ → Result Listing Fault
listing_of profile = listing_by profile ConfigurationBox
