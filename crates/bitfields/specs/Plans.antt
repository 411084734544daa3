-- The fields of a plan's places: what is put at one is spelled there, and nothing else changes.
use Rattle.std.specs.Prelude.{◌≡◌, ℕ, ◌^◌, ◌<◌, ◌≤◌, ◌≢◌, List, length, slice_index}
use Rattle.placement.specs.declared.place.Place.{Place}
use Rattle.placement.specs.Grid.{frame_bytes}
use Rattle.placement.specs.Place.{Plan, grid, depth_of, word_of, Valid, PlanFits}
use Rattle.bitfields.specs.Field.{Field, bit_at, spell, put, Outside}
use Rattle.bitfields.specs.Reading.{field_in}

-- the field of a place
abbrev pub field_at : Plan → Place → Field
field_at f p = field_in (word_of f p)

-- q is no bit of any place
abbrev pub Unplaced : Plan → ℕ → Type 0
Unplaced f q = (p : Place) → Valid f p → Outside (field_at f p) q

pub record PlanKeeps (f : Plan) : Type 0 where
  pub deep : (p : Place) → Valid f p → (field_at f p).depth ≡ depth_of f p.index
  pub length-put : (p : Place) (code : ℕ) (bytes : List ℕ) → length (put (field_at f p) code bytes) ≡ length bytes
  -- in bytes that hold a frame, or more
  pub spell-put_same : (p : Place) (code : ℕ) (bytes : List ℕ) → Valid f p → frame_bytes (grid f) ≤ length bytes → code < 2 ^ depth_of f p.index
      → spell (field_at f p) (put (field_at f p) code bytes) ≡ code
  pub spell-put_other : (p q : Place) (code : ℕ) (bytes : List ℕ) → Valid f p → Valid f q → p ≢ q
      → spell (field_at f q) (put (field_at f p) code bytes) ≡ spell (field_at f q) bytes
  pub bit-put_unplaced : (p : Place) (code : ℕ) (bytes : List ℕ) (q : ℕ) → Valid f p → Unplaced f q
      → bit_at (put (field_at f p) code bytes) q ≡ bit_at bytes q
  -- bytes past the frame size stay
  pub byte-put_past : (p : Place) (code : ℕ) (bytes : List ℕ) (k : ℕ) → Valid f p → frame_bytes (grid f) ≤ k
      → slice_index (put (field_at f p) code bytes) k ≡ slice_index bytes k

abbrev pub PlansKeep : Type 0
PlansKeep = (f : Plan) → PlanFits f → PlanKeeps f
