use Rattle.std.proofs.Common.{◌+◌, ◌++◌, refl, arith}
use Rattle.fields.specs.Put.{word_bytes}
use Rattle.fields.proofs.Placing.{put-placed, then-put}
use Rattle.configuration.proofs.listing.Sizes.put.Goals as goal

pub returns : goal.returns
returns c =
    let o = c.args.out.now in
    let s = c.args.self.now in
    let a = c.args.at in
    let w0 = word_bytes s.pixel_size in
    let w4 = word_bytes s.row_align in
    let w8 = word_bytes s.tile_align in
    let w12 = word_bytes s.tile_columns_less_one in
    let w16 = word_bytes s.tile_rows_less_one in
    let e0 = put-placed o w0 a c.put_word.ensures (omega arith) in
    let e4 = then-put o w0 w4 a (a + 4) e0 c.put_word-2.ensures refl (omega arith) in
    let e8 = then-put o (w0 ++ w4) w8 a (a + 8) e4 c.put_word-3.ensures refl (omega arith) in
    let e12 = then-put o (w0 ++ w4 ++ w8) w12 a (a + 12) e8 c.put_word-4.ensures refl (omega arith) in
    then-put o (w0 ++ w4 ++ w8 ++ w12) w16 a (a + 16) e12 c.put_word-5.ensures refl (omega arith)
