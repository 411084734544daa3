use Rattle.std.proofs.Common.{◌≡◌, ℕ, ◌+◌, ◌*◌, ◌<◌, sym, refl, ap, ◌∙◌, subst, arith}
use lib.Arith.{digits_lt}
use Rattle.placement.specs.Grid.{summed, Order, by_group, by_row, by_tile, Grid, area, line, tile_of, start_of, frame_of, Inside, EvenRows, GridsStand}
use Rattle.placement.proofs.Boxes.{cell_apart, box_below, box_apart, up_le}

-- byte b of line y lies in its group's area
in_area : (f : Grid) (t g y b : ℕ) → Inside f t g y b → y * line f g + b < area f g
in_area f t g y b h = digits_lt h.row h.byte

-- the same line and byte, where the groups are the same
same_line : (f : Grid) (g g' y b y' b' : ℕ) → g ≡ g' → b < line f g → b' < line f g' → y * line f g + b ≡ y' * line f g' + b' → (y ≡ y') × (b ≡ b')
same_line f g g' y b y' b' s h h' e =
    cell_apart (line f g) y y' b b' h (subst (λ (x : ℕ). b' < line f x) (sym s) h') (e ∙ ap (λ (x : ℕ). y' * line f x + b') (sym s))

module _ (f : Grid) where
  -- by_group
  g_place : (t g y b : ℕ) → Inside f t g y b → summed (area f) g + (y * line f g + b) < tile_of by_group f 0
  g_place t g y b h =
      omega (arith, box_below (area f) f.groups g (y * line f g + b) h.group (in_area f t g y b h), up_le (summed (area f) f.groups) f.tile_align)

  g_within : (t g y b : ℕ) → Inside f t g y b → start_of by_group f t g y + b < frame_of by_group f
  g_within t g y b h = omega (arith, digits_lt h.tile (g_place t g y b h))

  g_apart : (t g y b t' g' y' b' : ℕ) → Inside f t g y b → Inside f t' g' y' b'
      → start_of by_group f t g y + b ≡ start_of by_group f t' g' y' + b' → (t ≡ t') × (g ≡ g') × (y ≡ y') × (b ≡ b')
  g_apart t g y b t' g' y' b' h h' e =
      let tile = cell_apart (tile_of by_group f 0) t t' (summed (area f) g + (y * line f g + b)) (summed (area f) g' + (y' * line f g' + b'))
      (g_place t g y b h) (g_place t' g' y' b' h') (omega arith) in
      let group = box_apart (area f) g g' (y * line f g + b) (y' * line f g' + b') (in_area f t g y b h) (in_area f t' g' y' b' h') tile.1 in
      let row = same_line f g g' y b y' b' group.0 h.byte h'.byte group.1 in
      (tile.0, group.0, row.0, row.1)

  -- by_tile
  t_place : (t g y b : ℕ) → Inside f t g y b → y * line f g + b < tile_of by_tile f g
  t_place t g y b h = omega (arith, in_area f t g y b h, up_le (area f g) f.tile_align)

  t_box : (t g y b : ℕ) → Inside f t g y b → t * tile_of by_tile f g + (y * line f g + b) < f.tiles * tile_of by_tile f g
  t_box t g y b h = digits_lt h.tile (t_place t g y b h)

  t_within : (t g y b : ℕ) → Inside f t g y b → start_of by_tile f t g y + b < frame_of by_tile f
  t_within t g y b h =
      omega (arith, box_below (λ k. f.tiles * tile_of by_tile f k) f.groups g (t * tile_of by_tile f g + (y * line f g + b)) h.group (t_box t g y b h))

  t_apart : (t g y b t' g' y' b' : ℕ) → Inside f t g y b → Inside f t' g' y' b'
      → start_of by_tile f t g y + b ≡ start_of by_tile f t' g' y' + b' → (t ≡ t') × (g ≡ g') × (y ≡ y') × (b ≡ b')
  t_apart t g y b t' g' y' b' h h' e =
      let group = box_apart (λ k. f.tiles * tile_of by_tile f k) g g' (t * tile_of by_tile f g + (y * line f g + b)) (t' * tile_of by_tile f g' + (y' * line f g' + b'))
      (t_box t g y b h) (t_box t' g' y' b' h') (omega arith) in
      let tile = cell_apart (tile_of by_tile f g) t t' (y * line f g + b) (y' * line f g' + b')
      (t_place t g y b h) (subst (λ (x : ℕ). y' * line f g' + b' < tile_of by_tile f x) (sym group.0) (t_place t' g' y' b' h'))
      (group.1 ∙ ap (λ (x : ℕ). t' * tile_of by_tile f x + (y' * line f g' + b')) (sym group.0)) in
      let row = same_line f g g' y b y' b' group.0 h.byte h'.byte tile.1 in
      (tile.0, group.0, row.0, row.1)

  -- by_row
  module _ (even : (g : ℕ) → g < f.groups → (f.group g).rows ≡ (f.group 0).rows) where
    r-box : (t g y b : ℕ) → Inside f t g y b → summed (line f) g + b < summed (line f) f.groups
    r-box t g y b h = box_below (line f) f.groups g b h.group h.byte

    r-place : (t g y b : ℕ) → Inside f t g y b → y * summed (line f) f.groups + (summed (line f) g + b) < tile_of by_row f 0
    r-place t g y b h =
        let l : y < (f.group 0).rows = subst (λ (x : ℕ). y < x) (even g h.group) h.row in
        omega (arith, digits_lt l (r-box t g y b h), up_le ((f.group 0).rows * summed (line f) f.groups) f.tile_align)

    r-within : (t g y b : ℕ) → Inside f t g y b → start_of by_row f t g y + b < frame_of by_row f
    r-within t g y b h = omega (arith, digits_lt h.tile (r-place t g y b h))

    r-apart : (t g y b t' g' y' b' : ℕ) → Inside f t g y b → Inside f t' g' y' b'
        → start_of by_row f t g y + b ≡ start_of by_row f t' g' y' + b' → (t ≡ t') × (g ≡ g') × (y ≡ y') × (b ≡ b')
    r-apart t g y b t' g' y' b' h h' e =
        let tile = cell_apart (tile_of by_row f 0) t t' (y * summed (line f) f.groups + (summed (line f) g + b)) (y' * summed (line f) f.groups + (summed (line f) g' + b'))
        (r-place t g y b h) (r-place t' g' y' b' h') (omega arith) in
        let row = cell_apart (summed (line f) f.groups) y y' (summed (line f) g + b) (summed (line f) g' + b') (r-box t g y b h) (r-box t' g' y' b' h') tile.1 in
        let group = box_apart (line f) g g' b b' h.byte h'.byte row.1 in
        (tile.0, group.0, row.0, group.1)

by_order : (f : Grid) (o : Order) → f.order ≡ o → EvenRows f
    → ((t g y b : ℕ) → Inside f t g y b → start_of o f t g y + b < frame_of o f)
    × ((t g y b t' g' y' b' : ℕ) → Inside f t g y b → Inside f t' g' y' b'
    → start_of o f t g y + b ≡ start_of o f t' g' y' + b' → (t ≡ t') × (g ≡ g') × (y ≡ y') × (b ≡ b'))
by_order f by_group q even = (g_within f, g_apart f)
by_order f by_row q even = (r-within f (even q), r-apart f (even q))
by_order f by_tile q even = (t_within f, t_apart f)

pub grids_stand : GridsStand
grids_stand f even =
    let s = by_order f f.order refl even in
    record { within = s.0; apart = s.1 }
