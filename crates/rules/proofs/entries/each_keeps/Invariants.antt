use Rattle.std.proofs.Common.{◌≡◌, Bool, [], List}
use Rattle.configuration.specs.declared.entry.Entry.{Entry}
use Rattle.rules.specs.Rules.{each_keeps}
use Rattle.rules.proofs.Keeping.{from}
use Rattle.rules.proofs.entries.each_keeps.Given as goal

abbrev pub invariant-loop-i : goal.invariant-loop-i
invariant-loop-i g l =
    (rule : List Entry → Entry → Bool)
    → ((earlier : _) (entry : _) (kept : Bool) → goal.K-post g l.keeps earlier entry kept → kept ≡ rule earlier.now entry.now)
    → from rule l.reason l.entries l.i ≡ each_keeps rule l.reason [] l.entries
