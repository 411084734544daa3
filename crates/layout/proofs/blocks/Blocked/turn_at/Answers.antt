use Rattle.std.proofs.Common.{◌≡◌, rules, ◌+◌, ◌-◌, ◌%◌, ◌≤◌, map, mul-le-mul, arith}
use Rattle.plans.specs.Cells.{cell_of}
use Rattle.layout.proofs.Rounds.{Leap, far, leap, turn_more, turns_are, turns_on}
use Rattle.layout.proofs.blocks.Blocked.turn_at.Goals as goal
use Rattle.layout.proofs.blocks.Blocked.turn_at.Goals.{Then-eq}

pub rounds-s-requires : goal.rounds-s-requires
rounds-s-requires c =
    omega (arith, c.args.self.now.fits.short, far c.args.self.now.cycle.now (c.min-lead.result + c.loop-before.before) (omega arith) c.args.self.now.fits.short c.loop-before.invariant)

leaps : (c : Then-eq)
    → Leap c.args.self.now.block c.args.self.now.cycle.now c.min-lead.result (c.args.turn - c.min-lead.result) (c.loop-before.before + 1) c.rounds-first.result c.rounds-s.result
leaps c =
    let same : c.rounds-s.result.bits.0 ≡ c.rounds-first.result.bits.0 = search rules in
    leap c.args.self.now.cycle.now c.min-lead.result (c.args.turn - c.min-lead.result) c.loop-before.before c.args.self.now.fits.short (omega arith)
    (record { block = c.rounds-first.ensures.is.block; bits = c.rounds-first.ensures.is.bits }) c.loop-before.invariant c.rounds-s.ensures.is same

pub overflow_sub-skipped : goal.overflow_sub-skipped
overflow_sub-skipped c = (leaps (goal.at.overflow_sub-skipped c).Then-eq).up

pub overflow_mul-skipped : goal.overflow_mul-skipped
overflow_mul-skipped c = record { fits = omega (arith, (leaps (goal.at.overflow_mul-skipped c).Then-eq).low) }

pub overflow_add-on : goal.overflow_add-on
overflow_add-on c = record { fits = omega (arith, (leaps (goal.at.overflow_add-on c).Then-eq).low) }

pub rounds-requires : goal.rounds-requires
rounds-requires c =
    let l = leaps (goal.at.rounds-requires c).Then-eq in
    let h : (c.args.turn - c.min-lead.result) % (c.loop-before.before + 1) ≤ 32768 = omega (arith, l.rest) in
    omega (arith, l.low, mul-le-mul h c.args.self.now.fits.short)

pub returns-then-eq : goal.returns-then-eq
returns-then-eq c =
    let l = leaps (goal.at.returns-then-eq c).Then-eq in
    let w =
    turns_are (map cell_of c.args.self.now.cycle.now) _ c.args.turn (omega (arith, l.rest))
    (turns_on (map cell_of c.args.self.now.cycle.now) _ _ l.walk (record { block = c.rounds.ensures.is.block; bits = c.rounds.ensures.is.bits })) in
    record { is = w; low = far c.args.self.now.cycle.now c.args.turn c.requires c.args.self.now.fits.short w }

pub loop-before-preserved : goal.loop-before-preserved
loop-before-preserved c =
    turn_more (map cell_of c.args.self.now.cycle.now) c.min-lead.result c.loop-before.before c.loop-before.invariant c.rounds-s.ensures.is

pub returns-clause-low : goal.returns-clause-low
returns-clause-low c =
    let w = turns_are (map cell_of c.args.self.now.cycle.now) (c.min-lead.result + c.loop-before.before) c.args.turn (omega arith) c.loop-before.invariant in
    far c.args.self.now.cycle.now c.args.turn c.requires c.args.self.now.fits.short w
