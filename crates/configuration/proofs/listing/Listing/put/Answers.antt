use Rattle.std.proofs.Common.{◌≡◌, ◌+◌, ◌*◌, ◌++◌, length, refl, ap, ◌∙◌, arith}
use Rattle.std.proofs.lemmas.List.{length-append}
use Rattle.std.specs.List.{flat_map}
use Rattle.configuration.specs.Encoded.{listed, entry_bytes, packing_bytes, sizes_bytes, version_bytes}
use Rattle.fields.specs.Put.{placed, put_at, word_bytes}
use Rattle.configuration.proofs.Entering.{length_entries}
use Rattle.fields.proofs.Placing.{put-placed, then-placed, then-put}
use Rattle.configuration.proofs.listing.Listing.put.Goals as goal

pub returns : goal.returns
returns c =
    let o = c.args.out.now in
    let s = c.args.self.now in
    let es = c.entries-entries.result.now in
    let same : es ≡ listed s = c.entries-entries.ensures.value in
    let m = ap length same in
    let js = flat_map entry_bytes es in
    let n = length_entries es in
    let v = version_bytes 0 in
    let w12 = word_bytes s.profile in
    let w16 = word_bytes (length es) in
    let p = packing_bytes s.packing in
    let e8 = put-placed o v 8 (c.put.ensures ∙ ap (λ n. put_at o 8 (version_bytes n)) c.from.ensures) (omega arith) in
    let e12 = then-put o v w12 8 12 e8 c.put_word.ensures refl (omega arith) in
    let e16 = then-put o (v ++ w12) w16 8 16 e12 c.put_word-2.ensures refl (omega arith) in
    let e20 = then-placed o (v ++ w12 ++ w16) js 8 20 e16 c.put_entries.ensures refl (omega arith) in
    let e24 = then-placed o (v ++ w12 ++ w16 ++ js) p 8 (20 + 5 * length es) e20 c.put-2.ensures (omega arith) (omega arith) in
    let k = length-append (v ++ w12 ++ w16 ++ js) p in
    then-placed o (v ++ w12 ++ w16 ++ js ++ p) (sizes_bytes s.sizes) 8 (24 + 5 * length es) e24 c.put-3.ensures (omega arith) (omega arith)
    ∙ ap (λ z. placed o 8 (v ++ w12 ++ word_bytes (length z) ++ flat_map entry_bytes z ++ p ++ sizes_bytes s.sizes)) same
