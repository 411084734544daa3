-- What the rules say of an accepted layout, put together.
use Rattle.std.proofs.Common.{◌≡◌, ℕ, ◌+◌, ◌/◌, ◌%◌, ◌≤◌, Bool, true, cond, ◌&&◌, List, length, get_or, sym, ◌∙◌, subst, div-le_self, arith}
use native.Mathlib.Nat.{le_of_dvd, dvd_of_mod-eq-zero}
use lib.ListN.{length-map}
use Rattle.std.proofs.lemmas.Bool.Decides.{nat_tests}
use Rattle.choices.specs.Choices.{across_of, down_of}
use Rattle.choices.specs.declared.choice.Interleave.{Interleave}
use Rattle.choices.specs.declared.choice.Sampling.{Sampling}
use Rattle.choices.specs.declared.flags.Flags.{Flags}
use Rattle.configuration.specs.Encoded.{listed}
use Rattle.configuration.specs.Entries.{blank}
use Rattle.configuration.specs.declared.entry.Entry.{Entry as Listed}
use Rattle.configuration.specs.declared.listing.Sizes.{Sizes}
use Rattle.rules.specs.Entries.{Types}
use Rattle.rules.specs.Packing.{pixel_fits}
use Rattle.rules.specs.Tiles.{side_fits}
use Rattle.plans.specs.Entries.{is_chroma}
use Rattle.plans.specs.Facts.{Facts}
use Rattle.plans.specs.Views.{View, Accepted}
use Rattle.plans.specs.declared.entry.Entry.{Entry}
use Rattle.plans.proofs.Kept.{Rules, rules_of}
use Rattle.plans.proofs.Once.{facts_once}
use Rattle.plans.proofs.Planned.{entry, view, entry_at_lem, small, plan_fits}
use Rattle.plans.proofs.Tiled.{sides, mixed_three, gridded}

-- a part of a side is no longer than the side
part_le : (b : Bool) (n a m : ℕ) → n ≤ m → cond b (n / a) n ≤ m
part_le b n a m l = grind (arith, nat_tests, div-le_self n a)

-- a side has no more tiles than it is long
tiles_le : (n t : ℕ) → 1 ≤ n → n % t ≡ 0 → t ≤ n
tiles_le n t p e = le_of_dvd p (dvd_of_mod-eq-zero t e)

side : (n : ℕ) → side_fits n ≡ true → (1 ≤ n) × (n ≤ 32768)
side n q = (grind (arith, nat_tests), grind (arith, nat_tests))

module _ (types : Types) (s : Sampling) (v : Interleave) (block : ℕ) (f : Flags) (z : Sizes) (es : List Listed) (w h : ℕ)
    (r : Rules types s v block z es w h) where
  pixel_small : pixel_fits v block z.pixel_size es ≡ true → z.pixel_size ≤ 65535
  pixel_small q = grind (arith, nat_tests)

  facts : length es ≤ 16 → side_fits w && side_fits h ≡ true
      → Facts (view types s block f z es w h v)
  facts few q =
      let x = side w (grind (arith, nat_tests)) in
      let y = side h (grind (arith, nat_tests)) in
      let sizes = r.sizes in
      let d = sides s z w h r.tiles in
      let count = length-map es (entry types s block f z es w h) in
      record {
        few = omega arith;
        cells = small types s block f z es w h r;
        block = r.blocks;
        pixel = pixel_small (grind (arith, nat_tests));
        row = grind (arith, nat_tests);
        tile = grind (arith, nat_tests);
        width = x.1;
        height = y.1;
        across = (omega arith, omega (arith, tiles_le w (z.tile_columns_less_one + 1) x.0 d.0.tiles, x.1));
        down = (omega arith, omega (arith, tiles_le h (z.tile_rows_less_one + 1) y.0 d.1.tiles, y.1));
        three = λ e. count ∙ mixed_three types s block f z es w h (subst (λ (i : Interleave). Rules types s i block z es w h) e r);
        grids = λ n l. gridded types s block f z es w h v r n (omega arith);
        columns = λ n l. subst (λ (e : Entry). e.columns ≤ 32768) (sym (entry_at_lem types s block f z es w h n (omega arith)))
            (part_le (is_chroma (entry types s block f z es w h (get_or es n blank)).component_type) w (across_of s) 32768 x.1);
        rows = λ n l. subst (λ (e : Entry). e.rows ≤ 32768) (sym (entry_at_lem types s block f z es w h n (omega arith)))
            (part_le (is_chroma (entry types s block f z es w h (get_or es n blank)).component_type) h (down_of s) 32768 y.1);
        fits = plan_fits types s block f z es w h v r;
      }

pub facts_of : (v : View) → Accepted v → Facts v
facts_of v a =
    let l = a.listing in
    subst Facts (sym a.is)
    (facts a.types l.packing.sampling l.packing.interleave l.packing.block l.packing.flags l.sizes (listed l) v.width v.height
    (rules_of a.types l (listed l) v.width v.height a.kept)
    a.few a.sides)

pub facts_prop : (v : View) → IsProp (Facts v)
facts_prop = facts_once
