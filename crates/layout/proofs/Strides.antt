-- Lines without blocks: what the code's steps come to.
use Rattle.std.proofs.Common.{◌≡◌, ℕ, ◌+◌, ◌-◌, ◌*◌, ◌<◌, Bool, ◌≢◌, List, map, length, get_or, take, ap, ◌∙◌, arith}
use Rattle.std.proofs.lemmas.List.{get_or-map, length-map, take_all, take-map}
use Rattle.std.proofs.lemmas.List.Sums.{fold_more}
use Rattle.std.proofs.lemmas.Bool.{cond-false, ne_eqb}
use Rattle.layout.proofs.Entries.{none}
use Rattle.plans.specs.Cells.{cell_of}
use Rattle.plans.specs.declared.entry.Entry.{Entry}
use Rattle.placement.specs.Line.{repeated}
use Rattle.placement.specs.Pack.{Cell, nowhere, packed_word, after, packed, packed_end}
use Rattle.placement.specs.Stride.{starts}
use Rattle.placement.specs.Word.{Word}
use Rattle.placement.proofs.Stepping.{stepwise}
use Rattle.placement.proofs.Strided.{ends, strides}

-- one entry more
pub bits_step : (xs : List Entry) (p at q i : ℕ) → i < length xs → at ≡ packed_end p (take i (map cell_of xs)) → q ≡ after at (cell_of (get_or xs i none))
    → q ≡ packed_end p (take (i + 1) (map cell_of xs))
bits_step xs p at q i h e g =
    cc (get_or-map cell_of xs i none (cell_of none) h, fold_more after p (map cell_of xs) i (cell_of none) (omega (arith, length-map xs cell_of)))

pub all_bits : (xs : List Entry) (p q : ℕ) → q ≡ packed_end p (take (length xs) (map cell_of xs)) → q ≡ packed_end p (map cell_of xs)
all_bits xs p q e = e ∙ ap (λ (x : List Cell). packed_end p x) (take_all (length xs) (map cell_of xs) (omega (arith, length-map xs cell_of)))

pub start_is : (es : List Cell) (first second r : ℕ) → r ≢ 0 → first ≡ packed_end 0 es → second ≡ packed_end first es
    → first + (r - 1) * (second - first) ≡ packed_end 0 (repeated r es)
start_is es first second r z e g =
    let f : starts es r ≡ packed_end 0 es + (r - 1) * (packed_end (packed_end 0 es) es - packed_end 0 es) = cond-false _ _ _ (ne_eqb r 0 z) in
    cc (ends es r)

pub word_is : (little : Bool) (xs : List Entry) (count r c start p : ℕ) (w : Word) → r < count → c < length xs
    → start ≡ packed_end 0 (repeated r (map cell_of xs)) → p ≡ packed_end start (map cell_of (take c xs)) → w ≡ packed_word little p (cell_of (get_or xs c none))
    → w ≡ get_or (packed little 0 (repeated count (map cell_of xs))) (r * length xs + c) nowhere
word_is little xs count r c start p w hr hc e f g =
    let l : c < length (map cell_of xs) = omega (arith, length-map xs cell_of) in
    cc (
      get_or-map cell_of xs c none (cell_of none) hc,
      stepwise.packed-at little (map cell_of xs) start c (cell_of none) l,
      ends (map cell_of xs) r,
      strides.word little (map cell_of xs) count r c hr l,
      length-map xs cell_of,
      take-map cell_of c xs,
    )
