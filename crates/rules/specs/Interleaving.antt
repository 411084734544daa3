-- Which interleaves go with a sampling, and what they list.
use Rattle.std.specs.Prelude.{ℕ, ◌+◌, Bool, true, false, not, ◌&&◌, ◌||◌, List, length, ◌==◌, slice_index_or}
use Rattle.std.specs.List.{list_all}
use Rattle.choices.specs.Choices.{format_number, across_of}
use Rattle.choices.specs.declared.choice.Interleave.{Interleave}
use Rattle.choices.specs.declared.choice.Interleave.TheVariants.{Component, Pixel, Mixed, Row, TileComponent, MultiY}
use Rattle.choices.specs.declared.choice.Sampling.{Sampling}
use Rattle.choices.specs.declared.choice.Sampling.TheVariants.{Full, Yuv422, Yuv420, Yuv411}
use Rattle.configuration.specs.Entries.{blank}
use Rattle.configuration.specs.declared.entry.Entry.{Entry}
use Rattle.rules.specs.Entries.{Types, is_of}

-- interleaves 0, 1, 3, 4 in sampling 0; 0, 2, 4, 5 in 1; 0, 2, 4 in 2; 0, 4, 5 in 3
abbrev pub goes_with : Sampling → Interleave → Bool
goes_with Full Component = true
goes_with Full Pixel = true
goes_with Full Mixed = false
goes_with Full Row = true
goes_with Full TileComponent = true
goes_with Full MultiY = false
goes_with Yuv422 Component = true
goes_with Yuv422 Pixel = false
goes_with Yuv422 Mixed = true
goes_with Yuv422 Row = false
goes_with Yuv422 TileComponent = true
goes_with Yuv422 MultiY = true
goes_with Yuv420 Component = true
goes_with Yuv420 Pixel = false
goes_with Yuv420 Mixed = true
goes_with Yuv420 Row = false
goes_with Yuv420 TileComponent = true
goes_with Yuv420 MultiY = false
goes_with Yuv411 Component = true
goes_with Yuv411 Pixel = false
goes_with Yuv411 Mixed = false
goes_with Yuv411 Row = false
goes_with Yuv411 TileComponent = true
goes_with Yuv411 MultiY = true

-- two entries of a type list one index
abbrev pub same_of : Types → ℕ → Entry → Entry → Bool
same_of types number e f = not (is_of types number e && is_of types number f) || e.index == f.index

-- exactly one index of a type is listed
abbrev pub one_index_of : Types → ℕ → List Entry → Bool
one_index_of types number es =
    not (list_all (λ e. not (is_of types number e)) es) && list_all (λ e. list_all (same_of types number e) es) es

-- one listed index each of Y, U and V
abbrev pub yuv : Types → List Entry → Bool
yuv types es = one_index_of types 1 es && (one_index_of types 2 es && one_index_of types 3 es)

abbrev pub is_yuv : Types → Entry → Bool
is_yuv types e = is_of types 1 e || (is_of types 2 e || is_of types 3 e)

-- two entries of one index are stored alike
abbrev pub alike : Entry → Entry → Bool
alike e f =
    not (e.index == f.index)
    || (e.depth_less_one == f.depth_less_one
    && (format_number e.format == format_number f.format && e.align == f.align))

-- interleave 2 lists Y, U and V alone, Y first; interleave 5 U, V and equal Y entries alone
abbrev pub list_fits : Types → Sampling → Interleave → List Entry → Bool
list_fits types s Component es = true
list_fits types s Pixel es = true
list_fits types s Mixed es = length es == 3 && (list_all (is_yuv types) es && is_of types 1 (slice_index_or es 0 blank))
list_fits types s Row es = true
list_fits types s TileComponent es = true
list_fits types s MultiY es =
    (length es == 2 + across_of s) && (list_all (is_yuv types) es && list_all (λ e. list_all (alike e) es) es)

abbrev pub is_full : Sampling → Bool
is_full Full = true
is_full Yuv422 = false
is_full Yuv420 = false
is_full Yuv411 = false

abbrev pub is_interleaved : Types → Sampling → Interleave → List Entry → Bool
is_interleaved types s v es = goes_with s v && (is_full s || (yuv types es && list_fits types s v es))
