-- The table of a layout: each entry with its component's type and grid.
use Rattle.std.specs.Prelude.{ℕ, suc, ◌+◌, ◌/◌, Bool, true, false, cond, List, [], ◌∷◌, Some, None, Option, ◌==◌}
use Rattle.std.specs.Option as option
use Rattle.choices.specs.Choices.{across_of, down_of}
use Rattle.choices.specs.ComponentTypes.{type_numbered}
use Rattle.choices.specs.declared.component_type.ComponentType.{ComponentType}
use Rattle.choices.specs.declared.component_type.ComponentType.TheVariants.{Mono, Y, U, V, R, G, B, Alpha, Depth, Disparity, Palette, FilterArray, Padding, Cyan, Magenta, Yellow, Black, Other}
use Rattle.choices.specs.declared.choice.Format.TheVariants.{Integer}
use Rattle.choices.specs.declared.choice.Sampling.{Sampling}
use Rattle.configuration.specs.declared.entry.Entry.{Entry as Listed}
use Rattle.rules.specs.Entries.{Types}
use Rattle.plans.specs.declared.entry.Entry.{Entry}

-- U and V
abbrev pub is_chroma : ComponentType → Bool
is_chroma Mono = false
is_chroma Y = false
is_chroma U = true
is_chroma V = true
is_chroma R = false
is_chroma G = false
is_chroma B = false
is_chroma Alpha = false
is_chroma Depth = false
is_chroma Disparity = false
is_chroma Palette = false
is_chroma FilterArray = false
is_chroma Padding = false
is_chroma Cyan = false
is_chroma Magenta = false
is_chroma Yellow = false
is_chroma Black = false
is_chroma (Other n) = false

-- chroma has a part of the frame's columns and rows, by the sampling; all else has the frame's size
abbrev pub columns_of : Sampling → ℕ → ComponentType → ℕ
columns_of s width t = cond (is_chroma t) (width / across_of s) width

abbrev pub rows_of : Sampling → ℕ → ComponentType → ℕ
rows_of s height t = cond (is_chroma t) (height / down_of s) height

-- a type that is defined; each listed index has one
abbrev pub defined_as : Option ℕ → ℕ
defined_as None = 0
defined_as (Some number) = number

-- an entry whose grid is not settled yet
abbrev pub unsettled : Types → Listed → Entry
unsettled types e =
    record {
      index = e.index;
      component_type = type_numbered (defined_as (types e.index));
      format = e.format;
      depth = record { 0 = e.depth_less_one + 1 };
      align = record { 0 = e.align };
      columns = 0;
      rows = 0;
    }

-- settling its grid changes nothing else of the entry
abbrev pub settled_in : Sampling → ℕ → ℕ → Entry → Entry
settled_in s width height e =
    record {
      index = e.index;
      component_type = e.component_type;
      format = e.format;
      depth = e.depth;
      align = e.align;
      columns = columns_of s width e.component_type;
      rows = rows_of s height e.component_type;
    }

abbrev pub entry_for : Types → Sampling → ℕ → ℕ → Listed → Entry
entry_for types s width height e = settled_in s width height (unsettled types e)

abbrev pub no_entry : Entry
no_entry =
    record {
      index = 0;
      component_type = Mono;
      format = Integer;
      depth = record { 0 = 0 };
      align = record { 0 = 0 };
      columns = 0;
      rows = 0;
    }

-- the position of the first entry that lists an index
abbrev pub position_with : ℕ → List Entry → Option ℕ
position_with c [] = None
position_with c (e ∷ es) = cond (e.index == c) (Some 0) (option.option_map suc (position_with c es))
