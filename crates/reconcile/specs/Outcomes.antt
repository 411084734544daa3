-- What came of writing a box back.
use Rattle.std.specs.Prelude.{◌≡◌, ℕ, List, Ok, Err, Result, ◌≢◌}
use Rattle.fault.specs.declared.fault.Fault.{Fault}
use Rattle.reconcile.specs.declared.returned.Written.{Written}
use Rattle.reconcile.specs.declared.returned.Written.TheVariants.{Same, Different, Absent}

-- the outcome says how the write answered, and whether what it wrote is what was read
abbrev pub Outcome : Result ℕ Fault → List ℕ → List ℕ → Result Written Fault → Type 0
Outcome answer written read (Ok (Same n)) = (answer ≡ Ok n) × (written ≡ read)
Outcome answer written read (Ok (Different n)) = (answer ≡ Ok n) × (written ≢ read)
Outcome answer written read (Ok (Absent n)) = ⊥
Outcome answer written read (Err f) = answer ≡ Err f
