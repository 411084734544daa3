-- The strip of a component, by the first entry that lists it.
use Rattle.std.proofs.Common.{◌≡◌, ℕ, zero, suc, ◌+◌, ◌-◌, ◌/◌, ◌<◌, min, ◌≢◌, ◌⊎◌, List, [], ◌∷◌, map, length, get_or, take, drop, Some, sym, ap, ◌∙◌, subst, inl, inr, arith}
use Rattle.std.proofs.lemmas.List.{length-map, length-take, length-drop, get_or-map, get_or-take, get_or-drop}
use Rattle.std.proofs.lemmas.Bool.{cases_eq}
use Rattle.placement.specs.Place.{Slot, Strip, no_slot, no_strip, times, strip_with, home}
use Rattle.plans.specs.Cells.{slot_of}
use Rattle.plans.specs.Entries.{no_entry, position_with}
use Rattle.plans.specs.Views.{View, tile_width, tile_height, alone, together, strips_by, strip_at, plan_of}
use Rattle.plans.specs.declared.entry.Entry.{Entry}
use Rattle.choices.specs.Choices.{across_of}
use Rattle.choices.specs.declared.choice.Interleave.TheVariants.{Component, Pixel, Mixed, Row, TileComponent, MultiY}
use Rattle.choices.specs.declared.choice.Interleave.{Interleave}
use Rattle.layout.proofs.Finding.{First, first}
use Rattle.plans.proofs.Tiled.{times_pos, times_none, home_at}

-- entry n of a list is slot n of its cycle
slot_index : (es : List Entry) (n : ℕ) → n < length es → (get_or (map slot_of es) n no_slot).index ≡ (get_or es n no_entry).index
slot_index es n l = ap (λ (s : Slot). s.index) (get_or-map slot_of es n no_entry no_slot l)

pub some_times : (c : ℕ) (es : List Entry) (n : ℕ) → n < length es → (get_or es n no_entry).index ≡ c → 0 < times c (map slot_of es)
some_times c es n l e = times_pos c (map slot_of es) n (omega (arith, length-map es slot_of)) (slot_index es n l ∙ e)

no_times : (c : ℕ) (es : List Entry) → ((k : ℕ) → k < length es → (get_or es k no_entry).index ≢ c) → times c (map slot_of es) ≡ 0
no_times c es f =
    times_none c (map slot_of es) (λ k l e. f k (omega (arith, length-map es slot_of)) (sym (slot_index es k (omega (arith, length-map es slot_of))) ∙ e))

-- each entry has a strip of its own
pub home-alone : (v : View) (c n : ℕ) → First c v.entries n → strip_with c (map (alone v) v.entries) ≡ n
home-alone v c n f =
    home_at c (map (alone v) v.entries) n (omega (arith, length-map v.entries (alone v), f.below))
    (subst (λ (s : Strip). 0 < times c s.cycle) (sym (at n f.below)) (some_times c (get_or v.entries n no_entry ∷ []) 0 (omega arith) f.is))
    (λ k l. ap (λ (s : Strip). times c s.cycle) (at k (omega (arith, f.below)))
    ∙ no_times c (get_or v.entries k no_entry ∷ []) (λ m h. only (get_or v.entries k no_entry) (f.before k l) m h))
  where
    at : (k : ℕ) → k < length v.entries → get_or (map (alone v) v.entries) k no_strip ≡ alone v (get_or v.entries k no_entry)
    at k l = get_or-map (alone v) v.entries k no_entry no_strip l

    only : (e : Entry) → e.index ≢ c → (m : ℕ) → m < length (e ∷ []) → (get_or (e ∷ []) m no_entry).index ≢ c
    only e g zero h = g
    only e g (suc m) h = absurd (omega arith)

-- all entries share one strip
pub home-together : (c n : ℕ) (es : List Entry) (count rows : ℕ) → First c es n → strip_with c (together es count rows ∷ []) ≡ 0
home-together c n es count rows f = home_at c (together es count rows ∷ []) 0 (omega arith) (some_times c es n f.below f.is) (λ k l. absurd (omega arith))

-- the first entry has a strip of its own, and the others share one
pub home_first : (v : View) (c : ℕ) → First c v.entries 0 → strip_with c (strips_by Mixed v) ≡ 0
home_first v c f =
    home_at c (strips_by Mixed v) 0 (omega arith)
    (some_times c (take 1 v.entries) 0 (simp length-take (omega (arith, f.below))) (ap (λ (e : Entry). e.index) (get_or-take 1 v.entries 0 no_entry (omega arith)) ∙ f.is))
    (λ k l. absurd (omega arith))

pub home_other : (v : View) (c n : ℕ) → 0 < n → First c v.entries n → strip_with c (strips_by Mixed v) ≡ 1
home_other v c n z f =
    let e : 1 + (n - 1) ≡ n = omega arith in
    home_at c (strips_by Mixed v) 1 (omega arith)
    (some_times c (drop 1 v.entries) (n - 1) (simp length-drop (omega (arith, f.below)))
    (ap (λ (x : Entry). x.index) (get_or-drop 1 v.entries (n - 1) no_entry) ∙ ap (λ (k : ℕ). (get_or v.entries k no_entry).index) e ∙ f.is))
    (λ k l. none k l)
  where
    none : (k : ℕ) → k < 1 → times c (get_or (strips_by Mixed v) k no_strip).cycle ≡ 0
    none zero l = no_times c (take 1 v.entries) (λ k h g. f.before 0 z (here k (omega (arith, length-take 1 v.entries)) g))
      where
        here : (k : ℕ) → k < 1 → (get_or (take 1 v.entries) k no_entry).index ≡ c → (get_or v.entries 0 no_entry).index ≡ c
        here zero l g = sym (ap (λ (x : Entry). x.index) (get_or-take 1 v.entries 0 no_entry (omega arith))) ∙ g
        here (suc k) l g = absurd (omega arith)
    none (suc k) l = absurd (omega arith)

pub home_by : (v : View) (i : Interleave) (c n : ℕ) → First c v.entries n → strip_with c (strips_by i v) ≡ strip_at i n
home_by v Component c n f = home-alone v c n f
home_by v Pixel c n f = home-together c n v.entries (tile_width v) (tile_height v) f
home_by v Mixed c n f = go (cases_eq n 0)
  where
    go : (n ≡ 0) ⊎ (n ≡ 0 → ⊥) → strip_with c (strips_by Mixed v) ≡ min n 1
    go (inl e) = home_first v c (subst (First c v.entries) e f) ∙ omega arith
    go (inr z) = home_other v c n (omega arith) f ∙ omega arith
home_by v Row c n f = home-alone v c n f
home_by v TileComponent c n f = home-alone v c n f
home_by v MultiY c n f = home-together c n v.entries (tile_width v / across_of v.sampling) (tile_height v) f

pub home_is : (v : View) (c n : ℕ) → position_with c v.entries ≡ Some n → strip_at v.interleave n ≡ home (plan_of v) c
home_is v c n p = sym (home_by v v.interleave c n (first c v.entries n p))

pub strip_below : (v : View) (i : Interleave) (n : ℕ) → n < length v.entries → strip_at i n < length (strips_by i v)
strip_below v Component n l = omega (arith, length-map v.entries (alone v))
strip_below v Pixel n l = omega arith
strip_below v Mixed n l = omega arith
strip_below v Row n l = omega (arith, length-map v.entries (alone v))
strip_below v TileComponent n l = omega (arith, length-map v.entries (alone v))
strip_below v MultiY n l = omega arith
