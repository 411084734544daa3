-- The entries of a cycle.
use Rattle.std.proofs.Common.{ℕ, ◌*◌, ◌<◌, ◌≤◌, ◌≢◌, List, length, get_or, take, arith}
use Rattle.std.proofs.ByRecursion.{All-get_or, All-take, All-weaker}
use Rattle.std.proofs.lemmas.List.{length-take}
use Rattle.choices.specs.declared.choice.Format.{Format}
use Rattle.choices.specs.declared.component_type.ComponentType.TheVariants.{Mono}
use Rattle.plans.specs.Fit.{Small, Fitting, Narrow, Streams, Within, InBlocks}
use Rattle.plans.specs.declared.entry.Entry.{Entry}
use Rattle.plans.specs.declared.packing.Blocks.{Blocks}
use Rattle.plans.specs.declared.packing.Packing.{Packing}

-- what the code reads past the end, which it never does
abbrev pub none : Entry
none =
    record {
      index = 0;
      component_type = Mono;
      format = Format.Integer;
      depth = record { 0 = 0 };
      align = record { 0 = 0 };
      columns = 0;
      rows = 0;
    }

pub narrow_at : (xs : List Entry) (i : ℕ) → i < length xs → Streams xs → Narrow (get_or xs i none)
narrow_at xs i h f = All-get_or Narrow xs i none h f.narrow

pub within_at : (b : Blocks) (xs : List Entry) (i : ℕ) → i < length xs → InBlocks b xs → (get_or xs i none).depth.0 ≤ 8 * b.bytes.0
within_at b xs i h f = All-get_or (Within b) xs i none h f.within

pub streams : (p : Packing) (xs : List Entry) (n : ℕ) → Fitting p xs n → Streams xs
streams p xs n f = record { short = f.short; narrow = All-weaker (Small p) Narrow (λ e s. record { few = s.few; align = s.align }) xs f.small }

pub in_blocks : (p : Packing) (xs : List Entry) (n : ℕ) → p.blocks.bytes.0 ≢ 0 → Fitting p xs n → InBlocks p.blocks xs
in_blocks p xs n z f =
    record { small = f.block; short = f.short; within = All-weaker (Small p) (Within p.blocks) (λ e s. s.in_block z) xs f.small }

pub streams_take : (xs : List Entry) (n : ℕ) → Streams xs → Streams (take n xs)
streams_take xs n f = record { short = simp length-take (omega (arith, f.short)); narrow = All-take Narrow n xs f.narrow }

pub in_blocks-take : (b : Blocks) (xs : List Entry) (n : ℕ) → InBlocks b xs → InBlocks b (take n xs)
in_blocks-take b xs n f = record { small = f.small; short = simp length-take (omega (arith, f.short)); within = All-take (Within b) n xs f.within }
