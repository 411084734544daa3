-- The words that stand for a whole configuration, in a box of version 1.
use Rattle.std.specs.Prelude.{ℕ, ◌+◌, false, cond, List, [], ◌∷◌, map, length, Some, None, Option, ◌==◌, nat_lt}
use Rattle.configuration.specs.Entries.{blank}
use Rattle.fields.specs.Items.{table_of}
use Rattle.choices.specs.declared.choice.Format.TheVariants.{Integer}
use Rattle.choices.specs.declared.choice.Interleave.TheVariants.{Pixel}
use Rattle.choices.specs.declared.choice.Sampling.TheVariants.{Full}
use Rattle.configuration.specs.declared.entry.Entry.{Entry}
use Rattle.choices.specs.declared.flags.Flags.{Flags}
use Rattle.configuration.specs.declared.listing.Listing.{Listing}
use Rattle.configuration.specs.declared.profile.Profile.{Profile}
use Rattle.configuration.specs.declared.profile.Profile.TheVariants.{Rgb3, Rgba, Abgr}

abbrev pub profile_word : Profile → ℕ
profile_word Rgb3 = 0x7267_6233
profile_word Rgba = 0x7267_6261
profile_word Abgr = 0x6162_6772

abbrev pub profile_of : ℕ → Option Profile
profile_of n =
    cond (n == 0x7267_6233) (Some Rgb3) (cond (n == 0x7267_6261) (Some Rgba) (cond (n == 0x6162_6772) (Some Abgr) None))

-- which components the word lists, in its order
abbrev pub profile_indexes : Profile → List ℕ
profile_indexes Rgb3 = 0 ∷ 1 ∷ 2 ∷ []
profile_indexes Rgba = 0 ∷ 1 ∷ 2 ∷ 3 ∷ []
profile_indexes Abgr = 3 ∷ 2 ∷ 1 ∷ 0 ∷ []

-- eight bits of a component
abbrev pub octet_of : ℕ → Entry
octet_of index = record { index = index; depth_less_one = 7; format = Integer; align = 0 }

abbrev pub none : Flags
none =
    record {
      components_little_endian = false;
      pad_low = false;
      block_little_endian = false;
      block_reversed = false;
      pad_unknown = false;
    }

-- interleaved by pixel, and all else 0
abbrev pub plain_listing : ℕ → List Entry → Listing
plain_listing profile entries =
    record {
      profile = profile;
      entries = table_of blank entries;
      packing = record { sampling = Full; interleave = Pixel; block = 0; flags = none };
      sizes =
          record {
            pixel_size = 0;
            row_align = 0;
            tile_align = 0;
            tile_columns_less_one = 0;
            tile_rows_less_one = 0;
          };
    }

-- the list that the word stands for
abbrev pub profile_listing : Profile → Listing
profile_listing p = plain_listing (profile_word p) (map octet_of (profile_indexes p))

-- the indexes from 0 on are R, G, B and, but for rgb3, alpha: types 4 to 7
abbrev pub profile_type : Profile → ℕ → Option ℕ
profile_type p index = cond (nat_lt index (length (profile_indexes p))) (Some (4 + index)) None
