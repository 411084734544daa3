use Rattle.std.proofs.Common.{◌%◌, length, sym, ◌∙◌, mod-lt, arith}
use Rattle.plans.specs.Cells.{blocks_of}
use Rattle.layout.proofs.Entries.{within_at}
use Rattle.layout.proofs.Rounds.{fill_in, fill_over, fill_end}
use Rattle.layout.proofs.blocks.Blocked.filled_from.Goals as goal

pub overflow_add-filled : goal.overflow_add-filled
overflow_add-filled c =
    record {
      fits = omega (
        arith,
        c.loop-i.invariant.0,
        c.args.self.now.fits.small,
        within_at c.args.self.now.block c.args.self.now.cycle.now (c.loop-i.i % length c.args.self.now.cycle.now) (mod-lt c.loop-i.i {m = length c.args.self.now.cycle.now} c.requires.some) c.args.self.now.fits,
      );
    }

pub returns-then-filled-depth : goal.returns-then-filled-depth
returns-then-filled-depth c =
    record {
      is = sym (fill_over (blocks_of c.args.self.now.block) c.args.self.now.cycle.now c.args.self.now.count c.loop-i.i c.loop-i.filled.0 c.requires.some (omega arith) (omega arith))
          ∙ c.loop-i.invariant.1;
    }

pub loop-i-preserved : goal.loop-i-preserved
loop-i-preserved c = (
  omega arith,
  sym (fill_in (blocks_of c.args.self.now.block) c.args.self.now.cycle.now c.args.self.now.count c.loop-i.i c.loop-i.filled.0 c.requires.some (omega arith) (omega arith))
      ∙ c.loop-i.invariant.1,
)

pub returns : goal.returns
returns c =
    record { is = sym (fill_end (blocks_of c.args.self.now.block) c.args.self.now.cycle.now c.args.self.now.count c.loop-i.i c.loop-i.filled.0 (omega arith)) ∙ c.loop-i.invariant.1 }
