-- What the words of one lane say.
use Rattle.std.specs.Prelude.{◌≡◌, ℕ, ◌≤◌, cond, List, [], length, Some, None, ◌==◌, slice_index_or}
use Rattle.std.specs.Option.{option_map}
use Rattle.reconcile.specs.declared.arguments.Lane.{Lane}

-- the third word is the configuration's file, and a fourth the definition's
abbrev pub Named : ℕ → List (List ℕ) → Lane → Type 0
Named number words lane =
    (lane.number ≡ number)
    × (3 ≤ length words) × (length words ≤ 4)
    × (lane.configuration.now ≡ slice_index_or words 2 [])
    × (option_map (λ x. x.now) lane.definition ≡ cond (length words == 4) (Some (slice_index_or words 3 [])) None)
