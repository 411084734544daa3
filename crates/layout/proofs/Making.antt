-- What a layout is made of keeps the rules.
use Rattle.std.proofs.Common.{◌≡◌, ℕ, ◌<◌, ◌≤◌, Bool, true, false, ◌&&◌, leb, length, is_some, Ok, Err, Result, refl, ap, ◌∙◌}
use Rattle.std.proofs.lemmas.Bool.{le-leb, lt-leb}
use Rattle.fault.specs.declared.fault.Fault.{Fault}
use Rattle.fault.specs.declared.reason.Reason.TheVariants.{Presence, Dimensions, FrameSize}
use Rattle.fields.specs.Field.{then, check}
use Rattle.fields.proofs.Chains.{then_ok, check_ok}
use Rattle.configuration.specs.Configurations.{listing_for}
use Rattle.configuration.specs.Encoded.{listed}
use Rattle.boxes.specs.Pairs.{type_of}
use Rattle.boxes.specs.declared.boxes.Boxes.{Boxes}
use Rattle.rules.specs.Rules.{broken}
use Rattle.rules.specs.Tiles.{side_fits}
use Rattle.rules.specs.Whole.{present_as, kept}
use Rattle.plans.specs.Views.{size_of, view_for, layout_answer, Accepted}

pub accepted_by : (b : Boxes) (w h : ℕ) → length (listed (listing_for b.configuration)) ≤ 16 → kept b w h ≡ Ok tt → Accepted (view_for b w h)
accepted_by b w h few e =
    then_ok (check (present_as b.configuration (is_some b.definition)) (broken Presence)) _ tt e (λ x a r.
    then_ok (check (side_fits w && side_fits h) (broken Dimensions)) _ tt r (λ y c s.
    record {
      types = type_of b;
      listing = listing_for b.configuration;
      few = few;
      sides = check_ok (side_fits w && side_fits h) (broken Dimensions) y c;
      kept = s;
      is = refl;
    }))

-- the answer once the list keeps its rules
answered : (b : Boxes) (w h : ℕ) (small : Bool) → kept b w h ≡ Ok tt → leb (size_of (view_for b w h)) 4294967295 ≡ small
    → layout_answer b w h ≡ then (check small (broken FrameSize)) (λ _. Ok (view_for b w h))
answered b w h small e s =
    ap (λ (r : Result (Unit {0}) Fault). then r (λ _. then (check (leb (size_of (view_for b w h)) 4294967295) (broken FrameSize)) (λ _. Ok (view_for b w h)))) e
    ∙ ap (λ (t : Bool). then (check t (broken FrameSize)) (λ _. Ok (view_for b w h))) s

pub too_large : (b : Boxes) (w h : ℕ) → kept b w h ≡ Ok tt → 4294967295 < size_of (view_for b w h) → layout_answer b w h ≡ Err (broken FrameSize)
too_large b w h e s = answered b w h false e (lt-leb (size_of (view_for b w h)) 4294967295 s)

pub small : (b : Boxes) (w h : ℕ) → kept b w h ≡ Ok tt → size_of (view_for b w h) ≤ 4294967295 → layout_answer b w h ≡ Ok (view_for b w h)
small b w h e s = answered b w h true e (le-leb (size_of (view_for b w h)) 4294967295 s)
