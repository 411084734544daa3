-- Reading and writing are inverse to each other: a box is accepted exactly if it is the writing of something well formed.
use Rattle.std.specs.Prelude.{◌≡◌, ℕ, ◌^◌, ◌<◌, ◌≤◌, List, Ok, Result}
use Rattle.std.specs.List.{AllByRecursion}
use Rattle.fault.specs.declared.fault.Fault.{Fault}
use Rattle.configuration.specs.Configurations.{read_configuration}
use Rattle.configuration.specs.Encoded.{listed, configuration_bytes}
use Rattle.configuration.specs.Entries.{blank}
use Rattle.fields.specs.Items.{padded}
use Rattle.configuration.specs.declared.configuration.Configuration.{Configuration}
use Rattle.configuration.specs.declared.configuration.Configuration.TheVariants.{Listed, Brief}
use Rattle.configuration.specs.declared.entry.Entry.{Entry}
use Rattle.configuration.specs.declared.listing.Listing.{Listing}
use Rattle.configuration.specs.declared.listing.Sizes.{Sizes}

-- every number fits a byte
abbrev pub Octets : List ℕ → Type 0
Octets xs = AllByRecursion (λ b. b < 256) xs

-- a value that fits its fields
abbrev pub WellEntered : Entry → Type 0
WellEntered e = (e.index < 2 ^ 16) × (e.depth_less_one < 256) × (e.align < 256)

pub record WellSized (s : Sizes) : Type 0 where
  pub pixel : s.pixel_size < 2 ^ 32
  pub row : s.row_align < 2 ^ 32
  pub tile : s.tile_align < 2 ^ 32
  pub columns : s.tile_columns_less_one < 2 ^ 32
  pub rows : s.tile_rows_less_one < 2 ^ 32

-- what a configuration box of version 0 can hold
pub record WellListed (l : Listing) : Type 0 where
  pub some : 1 ≤ l.entries.count
  pub few : l.entries.count ≤ 16
  pub table : l.entries.slots ≡ padded blank (listed l)
  pub each : AllByRecursion WellEntered (listed l)
  pub profile : l.profile < 2 ^ 32
  pub block : l.packing.block < 256
  pub sizes : WellSized l.sizes

abbrev pub WellConfigured : Configuration → Type 0
WellConfigured (Listed l) = WellListed l
WellConfigured (Brief p) = Unit {0}

-- r is what reading xs answers: accepted exactly if xs is the writing of something well formed, which is then what was read
pub record ConfigurationExact (xs : List ℕ) (r : Result Configuration Fault) : Type 0 where
  pub written : (c : Configuration) → r ≡ Ok c → WellConfigured c × (configuration_bytes c ≡ xs)
  pub accepted : (c : Configuration) → WellConfigured c → configuration_bytes c ≡ xs → r ≡ Ok c

-- what is written: the bytes that were read, and, of anything well formed, a box that is read as the same again
pub record ConfigurationBack (c : Configuration) : Type 0 where
  pub same : (xs : List ℕ) → Octets xs → read_configuration xs ≡ Ok c → configuration_bytes c ≡ xs
  pub again : WellConfigured c → read_configuration (configuration_bytes c) ≡ Ok c
