-- The closed choices of the configuration box, each by its number.
use Rattle.std.specs.Prelude.{ℕ, cond, Some, None, Option, ◌==◌}
use Rattle.choices.specs.declared.choice.Format.{Format}
use Rattle.choices.specs.declared.choice.Format.TheVariants.{Integer, Float, Complex}
use Rattle.choices.specs.declared.choice.Sampling.{Sampling}
use Rattle.choices.specs.declared.choice.Sampling.TheVariants.{Full, Yuv422, Yuv420, Yuv411}
use Rattle.choices.specs.declared.choice.Interleave.{Interleave}
use Rattle.choices.specs.declared.choice.Interleave.TheVariants.{Component, Pixel, Mixed, Row, TileComponent, MultiY}

abbrev pub format_number : Format → ℕ
format_number Integer = 0
format_number Float = 1
format_number Complex = 2

abbrev pub format_of : ℕ → Option Format
format_of n = cond (n == 0) (Some Integer) (cond (n == 1) (Some Float) (cond (n == 2) (Some Complex) None))

abbrev pub sampling_number : Sampling → ℕ
sampling_number Full = 0
sampling_number Yuv422 = 1
sampling_number Yuv420 = 2
sampling_number Yuv411 = 3

abbrev pub sampling_of : ℕ → Option Sampling
sampling_of n =
    cond (n == 0) (Some Full) (cond (n == 1) (Some Yuv422) (cond (n == 2) (Some Yuv420) (cond (n == 3) (Some Yuv411) None)))

abbrev pub interleave_number : Interleave → ℕ
interleave_number Component = 0
interleave_number Pixel = 1
interleave_number Mixed = 2
interleave_number Row = 3
interleave_number TileComponent = 4
interleave_number MultiY = 5

abbrev pub interleave_of : ℕ → Option Interleave
interleave_of n =
    cond (n == 0) (Some Component) (cond (n == 1) (Some Pixel) (cond (n == 2) (Some Mixed)
    (cond (n == 3) (Some Row) (cond (n == 4) (Some TileComponent) (cond (n == 5) (Some MultiY) None)))))

-- how many columns, and rows, of luma share one value of chroma
abbrev pub across_of : Sampling → ℕ
across_of Full = 1
across_of Yuv422 = 2
across_of Yuv420 = 2
across_of Yuv411 = 4

abbrev pub down_of : Sampling → ℕ
down_of Full = 1
down_of Yuv422 = 1
down_of Yuv420 = 2
down_of Yuv411 = 1
