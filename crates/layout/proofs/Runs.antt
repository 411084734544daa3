-- Lines by their runs.
use Rattle.std.proofs.Common.{◌≡◌, ℕ, ◌+◌, ◌*◌, ◌≢◌, List, length, get_or, append-nil, arith}
use Rattle.std.proofs.lemmas.Bool.{cond-true, cond-false, eq-eqb, ne_eqb}
use Rattle.placement.specs.Line.{Packing, run, repeated, moved, line_word}
use Rattle.placement.specs.Pack.{Cell, nowhere}
use Rattle.placement.specs.Word.{Word}

module _ (p : Packing) (es : List Cell) (count r c n : ℕ) (w : Word) where
  pub whole : p.pixel ≡ 0 → n ≡ length es → w ≡ get_or (run p (repeated count es)) (r * n + c) nowhere → w ≡ line_word p es count r c
  whole z l e =
      let f : line_word p es count r c ≡ get_or (run p (repeated count es)) (r * length es + c) nowhere = cond-true _ _ _ (eq-eqb p.pixel 0 z) in
      cc

  -- a run of one repetition
  pub pixel : p.pixel ≢ 0 → w ≡ get_or (run p (repeated 1 es)) (0 * n + c) nowhere → moved (r * p.pixel) w ≡ line_word p es count r c
  pixel z e =
      let i : 0 * n + c ≡ c = omega arith in
      let f : line_word p es count r c ≡ moved (r * p.pixel) (get_or (run p es) c nowhere) = cond-false _ _ _ (ne_eqb p.pixel 0 z) in
      cc (append-nil es)
