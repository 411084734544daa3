-- Where each bit of a place lies, or why there is none.
use Rattle.std.specs.Prelude.{◌≡◌, ℕ, ◌-◌, ◌/◌, ◌%◌, ◌<◌, true, ◌↔◌, is_ok, Ok, Result, nat_lt, slice_index_or}
use Rattle.fault.specs.Faults.{fault}
use Rattle.fault.specs.declared.fault.Fault.{Fault}
use Rattle.fault.specs.declared.layer.Layer.TheVariants.{Frame}
use Rattle.fault.specs.declared.reason.Reason.TheVariants.{NoSuchPlace}
use Rattle.fields.specs.Field.{then, check, accepted}
use Rattle.placement.specs.Place.{word_of}
use Rattle.placement.specs.Word.{spot}
use Rattle.placement.specs.declared.place.Place.{Place}
use Rattle.plans.specs.Entries.{no_entry, position_with}
use Rattle.plans.specs.Views.{View, plan_of, size_of}
use Rattle.plans.specs.declared.entry.Entry.{Entry}

-- no such component (0), column (1), row (2) or bit (3)
abbrev pub missing : ℕ → Fault
missing what = fault NoSuchPlace Frame what

abbrev pub entry_at : View → ℕ → Entry
entry_at v n = slice_index_or v.entries n no_entry

-- the position of the entry that lists the place's component, whose grid has its column and row
abbrev pub found_at : View → Place → Result ℕ Fault
found_at v p =
    then (accepted (position_with p.index v.entries) (missing 0)) (λ n.
    then (check (nat_lt p.column (entry_at v n).columns) (missing 1)) (λ _.
    then (check (nat_lt p.row (entry_at v n).rows) (missing 2)) (λ _.
    Ok n)))

-- bit i of a place: its byte, and its number in the byte, 7 being the highest
abbrev pub byte_of : View → Place → ℕ → ℕ
byte_of v p i = spot (word_of (plan_of v) p) i / 8

abbrev pub bit_of : View → Place → ℕ → ℕ
bit_of v p i = 7 - spot (word_of (plan_of v) p) i % 8

abbrev pub locate_answer : View → Place → ℕ → Result (ℕ × ℕ) Fault
locate_answer v p i =
    then (found_at v p) (λ n.
    then (check (nat_lt i (entry_at v n).depth.0) (missing 3)) (λ _.
    Ok (byte_of v p i, bit_of v p i)))

-- the frame has the place
abbrev pub Has : View → Place → Type 0
Has v p = is_ok (found_at v p) ≡ true

-- some bit of p is a bit of q
abbrev pub Share : View → Place → Place → Type 0
Share v p q =
    (i : ℕ) × (j : ℕ) × (at : ℕ × ℕ) × (locate_answer v p i ≡ Ok at) × (locate_answer v q j ≡ Ok at)

-- no two values share a bit, and all bits lie in the frame
pub record Apart (v : View) : Type 0 where
  pub below : (p : Place) (i : ℕ) (at : ℕ × ℕ) → locate_answer v p i ≡ Ok at → (at.0 < size_of v) × (at.1 < 8)
  pub equal : (p q : Place) → Has v p → Has v q → (p ≡ q) ↔ Share v p q
  pub own : (p : Place) (i j : ℕ) (at : ℕ × ℕ) → locate_answer v p i ≡ Ok at → locate_answer v p j ≡ Ok at → i ≡ j
