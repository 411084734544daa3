-- The bytes of the entries.
use Rattle.std.proofs.Common.{◌≡◌, ℕ, ◌+◌, ◌*◌, ◌<◌, List, [], ◌∷◌, ◌++◌, length, get_or, take, sym, refl, ap, ◌∙◌, arith}
use Rattle.std.proofs.lemmas.List.{flat_map_more, take_more, length-append}
use Rattle.std.specs.List.{flat_map}
use Rattle.configuration.specs.Encoded.{entry_bytes, listed, version_bytes, packing_bytes, sizes_bytes, listing_bytes}
use Rattle.fields.specs.Put.{word_bytes}
use Rattle.configuration.specs.declared.listing.Listing.{Listing}
use Rattle.configuration.specs.Entries.{blank}
use Rattle.configuration.specs.declared.entry.Entry.{Entry}

pub length_entries : (es : List Entry) → length (flat_map entry_bytes es) ≡ 5 * length es
length_entries [] = refl
length_entries (e ∷ es) = omega (arith, length-append (entry_bytes e) (flat_map entry_bytes es), length_entries es)

pub entries_more : (es : List Entry) (i : ℕ) → i < length es → flat_map entry_bytes (take i es) ++ entry_bytes (get_or es i blank) ≡ flat_map entry_bytes (take (i + 1) es)
entries_more es i h = flat_map_more entry_bytes [] (take i es) (get_or es i blank) ∙ ap (flat_map entry_bytes) (sym (take_more es i blank h))

pub length-listing : (l : Listing) → length (listing_bytes l) ≡ 36 + 5 * length (listed l)
length-listing l =
    let js = flat_map entry_bytes (listed l) in
    let front = version_bytes 0 ++ word_bytes l.profile ++ word_bytes (length (listed l)) in
    omega (arith, length-append (front ++ js ++ packing_bytes l.packing) (sizes_bytes l.sizes), length-append (front ++ js) (packing_bytes l.packing), length-append front js, length_entries (listed l))
