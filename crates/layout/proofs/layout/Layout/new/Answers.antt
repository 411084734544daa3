use Rattle.std.proofs.Common.{◌≡◌, ℕ, ◌≤◌, length, Ok, sym, ap, ◌∙◌, subst}
use Rattle.boxes.specs.Pairs.{type_of}
use Rattle.boxes.specs.declared.boxes.Boxes.{Boxes}
use Rattle.configuration.specs.Configurations.{listing_for}
use Rattle.configuration.specs.Encoded.{listed}
use Rattle.configuration.specs.declared.listing.Listing.{Listing}
use Rattle.rules.specs.Whole.{kept}
use Rattle.layout.specs.Parts.{view_of}
use Rattle.plans.specs.Views.{view_by, view_for, Accepted}
use Rattle.layout.specs.declared.parts.Parts.{Parts}
use Rattle.plans.proofs.Deriving.{facts_of}
use Rattle.layout.proofs.Located.{apart}
use Rattle.layout.proofs.Making.{accepted_by}
use Rattle.layout.proofs.layout.Layout.new.Goals as goal
use Rattle.layout.proofs.layout.Layout.new.Goals.{After-parts_of}

-- the parts show the view of the boxes, which the rules accept
view : (b : Boxes) (w h : ℕ) (l : Listing) (p : Parts) → l ≡ listing_for b.configuration → view_of p ≡ view_by (type_of b) l w h → view_of p ≡ view_for b w h
view b w h l p e f = f ∙ ap (λ (x : Listing). view_by (type_of b) x w h) e

accepted : (b : Boxes) (w h : ℕ) (l : Listing) (p : Parts) → l ≡ listing_for b.configuration → view_of p ≡ view_by (type_of b) l w h
    → length (listed l) ≤ 16 → Ok tt ≡ kept b w h → Accepted (view_of p)
accepted b w h l p e f few k =
    subst Accepted (sym (view b w h l p e f)) (accepted_by b w h (subst (λ (x : Listing). length (listed x) ≤ 16) e few) (sym k))

-- of the parts that were made, where the rules accept the boxes
made : (c : After-parts_of) → Accepted (view_of c.parts_of.result)
made c =
    accepted c.args.boxes.now c.args.width c.args.height c.listing-listing.result c.parts_of.result c.listing-listing.ensures c.parts_of.ensures.view c.parts_of.ensures.few
    c.in_ok-check.ensures

pub invariant_of-frame : goal.invariant_of-frame
invariant_of-frame c =
    record { facts = facts_of (view_of c.parts_of.result) (made (goal.at.invariant_of-frame c).After-parts_of); counted = c.parts_of.ensures.counted }

pub invariant_of-result : goal.invariant_of-result
invariant_of-result c =
    record {
      accepted = ∣ made (goal.at.invariant_of-result c).After-parts_of ∣₁;
      sized = c.frame_bytes-size.ensures;
      short = c.if-size-gt-LARGEST.false;
    }

pub returns-clause-apart : goal.returns-clause-apart
returns-clause-apart c =
    apart (view_of c.parts_of.result) (facts_of (view_of c.parts_of.result) (made (goal.at.returns-clause-apart c).After-parts_of))
