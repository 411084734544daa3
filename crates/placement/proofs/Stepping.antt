use Rattle.std.proofs.Common.{◌≡◌, ℕ, zero, suc, ◌+◌, ◌<◌, Bool, List, [], ◌∷◌, length, get_or, take, drop, refl, add-one, arith}
use Rattle.placement.specs.Pack.{Cell, nowhere, packed, packed_word, packed_end, after, Blocks, block_of, held, total, block_word, blocked}
use Rattle.placement.specs.Steps.{block_after, held_after, Stepwise}

packed-at : (little : Bool) (es : List Cell) (p n : ℕ) (d : Cell) → n < length es
    → get_or (packed little p es) n nowhere ≡ packed_word little (packed_end p (take n es)) (get_or es n d)
packed-at little [] p n d h = absurd (omega arith)
packed-at little (e ∷ es) p zero d h = refl
packed-at little (e ∷ es) p (suc n) d h = packed-at little es (after p e) n d (omega arith)

blocked-at : (b : Blocks) (es : List Cell) (k o n : ℕ) (d : Cell) → n < length es
    → get_or (blocked b k o es) n nowhere
    ≡ block_word b (block_of b (block_after b k o (take n es)) (held_after b o (take n es)) (get_or es n d).depth)
    (held b (held_after b o (take n es)) (get_or es n d).depth)
    (total b (held b (held_after b o (take n es)) (get_or es n d).depth + (get_or es n d).depth) (drop (suc n) es))
    (get_or es n d).depth
blocked-at b [] k o n d h = absurd (omega arith)
blocked-at b (e ∷ es) k o zero d h = refl
blocked-at b (e ∷ es) k o (suc n) d h = blocked-at b es (block_of b k o e.depth) (held b o e.depth + e.depth) n d (omega arith)

pub stepwise : Stepwise
stepwise = record { packed-at = packed-at; blocked-at = λ b es k o n d h. rw (add-one n) (blocked-at b es k o n d h) }
