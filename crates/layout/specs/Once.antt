-- What a line keeps is a fact: two proofs of it are equal.
use Rattle.std.specs.Prelude.{ℕ, List, [], ◌∷◌}
use Rattle.std.specs.Coded.{×_prop, →_prop, Unit-prop, le_prop}
use Rattle.std.specs.List.{AllByRecursion}
use Rattle.plans.specs.Fit.{Small, Fitting, Narrow, Streams, Within, InBlocks}
use Rattle.plans.specs.declared.entry.Entry.{Entry}
use Rattle.plans.specs.declared.packing.Blocks.{Blocks}
use Rattle.plans.specs.declared.packing.Packing.{Packing}

all_once : {X : Type 0} (P : X → Type 0) → ((x : X) → IsProp (P x)) → (xs : List X) → IsProp (AllByRecursion P xs)
all_once P h [] = Unit-prop
all_once P h (x ∷ xs) = ×_prop (h x) (all_once P h xs)

small_once : (p : Packing) (e : Entry) → IsProp (Small p e)
small_once p e a b = λ i. record {
  some = le_prop a.some b.some i;
  few = le_prop a.few b.few i;
  align = le_prop a.align b.align i;
  in_block = →_prop le_prop a.in_block b.in_block i;
}

pub fitting_once : (p : Packing) (es : List Entry) (count : ℕ) → IsProp (Fitting p es count)
fitting_once p es count a b = λ i. record {
  block = le_prop a.block b.block i;
  pixel = le_prop a.pixel b.pixel i;
  row = le_prop a.row b.row i;
  short = le_prop a.short b.short i;
  times = le_prop a.times b.times i;
  small = all_once (Small p) (small_once p) es a.small b.small i;
}

narrow_once : (e : Entry) → IsProp (Narrow e)
narrow_once e a b = λ i. record { few = le_prop a.few b.few i; align = le_prop a.align b.align i }

pub streams_once : (es : List Entry) → IsProp (Streams es)
streams_once es a b = λ i. record { short = le_prop a.short b.short i; narrow = all_once Narrow narrow_once es a.narrow b.narrow i }

pub in_blocks_once : (b : Blocks) (es : List Entry) → IsProp (InBlocks b es)
in_blocks_once b es p q = λ i. record {
  small = le_prop p.small q.small i;
  short = le_prop p.short q.short i;
  within = all_once (Within b) (λ e. le_prop) es p.within q.within i;
}
