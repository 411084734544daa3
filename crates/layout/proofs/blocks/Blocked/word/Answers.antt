use Rattle.std.proofs.Common.{◌+◌, ◌*◌, map, length, drop, arith}
use Rattle.std.proofs.lemmas.List.{length-take}
use Rattle.plans.specs.Cells.{blocks_of, cell_of}
use Rattle.layout.specs.Words.{word_in}
use Rattle.layout.proofs.Rounds.{block_word_is, filled_fits}
use Rattle.layout.proofs.blocks.Blocked.word.Goals as goal
use Rattle.layout.proofs.blocks.Blocked.word.Goals.{After-filled_from-filled}
use Rattle.placement.specs.Line.{repeated}

pub block_word-requires : goal.block_word-requires
block_word-requires c =
    let s = c.args.self.now in
    let f =
    filled_fits (blocks_of s.block) (drop (c.args.seat.turn * length s.cycle.now + c.args.seat.slot + 1) (repeated s.count (map cell_of s.cycle.now))) _
    c.filled_from-filled.result.0 c.open_for-open.ensures.fits c.filled_from-filled.ensures.is in
    record {
      inside = f.0;
      room = f.1;
      small = s.fits.small;
      low = omega (arith, c.open_for-open.ensures.near, c.through-s.ensures.near, c.turn_at.ensures.low, c.requires.slot, s.fits.short, length-take c.args.seat.slot s.cycle.now);
    }

pub returns-clause-is : goal.returns-clause-is
returns-clause-is c =
    block_word_is c.args.self.now.cycle.now c.args.self.now.count c.args.seat.turn c.args.seat.slot c.filled_from-filled.result.0 (word_in c.block_word.result)
    c.requires.turn c.requires.slot c.turn_at.ensures.is c.through-s.ensures.is c.open_for-open.ensures.is
    c.filled_from-filled.ensures.is c.block_word.ensures.is
