-- A definition box is accepted exactly if it is the writing of well-formed components.
use Rattle.std.proofs.Common.{◌≡◌, ℕ, ◌+◌, ◌^◌, ◌<◌, ◌≤◌, true, leb, List, ◌++◌, map, length, Ok, sym, refl, ap, ◌∙◌, subst, arith, lit<, le-leb, leb-true}
use Rattle.std.proofs.lemmas.List.{length-map}
use Rattle.std.specs.List.{flat_map}
use Rattle.fault.specs.Faults.{fault}
use Rattle.fault.specs.declared.layer.Layer.TheVariants.{DefinitionBox}
use Rattle.fault.specs.declared.reason.Reason.TheVariants.{Extent}
use Rattle.definition.specs.Components.{plain, component_at}
use Rattle.definition.specs.Definitions.{cmpd, read_definition}
use Rattle.definition.specs.Encoded.{Described, described, described_bytes, defined_by, definition_bytes}
use Rattle.fields.specs.Header.{header_of, count_at, end_at}
use Rattle.fields.specs.Items.{items_from, padded, tabled, list_at}
use Rattle.fields.specs.Put.{word_bytes}
use Rattle.definition.specs.RoundTrip.{WellDescribed, WellDefined, DefinitionExact, DefinitionBack}
use Rattle.definition.specs.declared.component.Component.{Component}
use Rattle.fields.specs.declared.table.Table.{Table}
use Rattle.fields.specs.Field.{then}
use Rattle.fields.proofs.Chains.{then_ok, then_go, ok_same, check_ok, check_go}
use Rattle.definition.proofs.Defining.{component-stands, component_read}
use Rattle.fields.proofs.Lists.{Elements, items_stand, items_read}
use Rattle.fields.proofs.Opening.{Head, take-padded, opened, closed, header_read, header-found, count_read, count-found}
use Rattle.fields.proofs.Standing.{Stands, Bytes, octets, join, first, second}

module _ (xs : List ℕ) where
  -- ds is well formed, and xs is its writing
  abbrev pub Written : List Described → Type 0
  Written ds = WellDefined ds × (definition_bytes ds ≡ xs)

  together : (n b : ℕ) (ds : List Described) → Head DefinitionBox xs cmpd → length xs < 2 ^ 32 → 1 ≤ n → n ≤ 16 → Stands xs 8 (word_bytes n) → Elements xs component_at (described xs) described_bytes WellDescribed n 12 b ds → length xs ≤ b → Written ds
  together n b ds head short low high count es end =
      let js = flat_map described_bytes ds in
      let c = es.count in
      let ends = es.ends in
      let fit = es.stands.fits in
      let body = join xs 8 12 (word_bytes (length ds)) js (subst (λ k. Stands xs 8 (word_bytes k)) (sym c) count) es.stands refl in
      let e = closed DefinitionBox xs cmpd (word_bytes (length ds) ++ js) head body (omega arith) in
      let l = ap length e in
      (record { some = omega arith; few = omega arith; each = es.well; short = omega arith }, e)

  pub definition_written : Bytes xs → (cs : Table Component) → read_definition xs ≡ Ok cs → Written (defined_by xs cs)
  definition_written o cs e =
      then_ok (header_of DefinitionBox cmpd xs) _ cs e (λ u g0 e0.
      then_ok (list_at plain component_at DefinitionBox xs 8) _ cs e0 (λ list g1 e1.
      then_ok (end_at DefinitionBox (length xs) list.next) _ cs e1 (λ v g3 e3.
      then_ok (count_at DefinitionBox xs 8) _ list g1 (λ n g2 e2.
      then_ok (items_from component_at n xs 12) _ list e2 (λ vs g4 e4.
      let head = header-found DefinitionBox xs o cmpd u g0 in
      let count = count-found DefinitionBox xs o 8 n g2 in
      let fit = count.2.fits in
      let is = ok_same _ cs e3 in
      let made : tabled plain n vs ≡ list = ok_same _ list e4 in
      let end = leb-true _ _ (check_ok _ _ v g3) in
      let next = ap (λ t. t.next) made in
      let es = items_stand xs component_at (described xs) described_bytes WellDescribed (component-stands xs o) n 12 vs fit g4 in
      let ds : List Described = map (described xs) vs.value in
      let same : defined_by xs list.value ≡ ds =
      ap (λ t. defined_by xs t.value) (sym made) ∙ ap (map (described xs)) (take-padded plain vs.value n (sym (length-map vs.value (described xs)) ∙ es.count)) in
      subst (λ z. Written (defined_by xs z)) is
      (subst Written (sym same) (together n vs.next ds head.0 head.1 count.0 count.1 count.2 es (omega arith))))))))

  pub definition_read_lem : (ds : List Described) → WellDefined ds → definition_bytes ds ≡ xs → (cs : Table Component) × (read_definition xs ≡ Ok cs) × (defined_by xs cs ≡ ds)
  definition_read_lem ds w e =
      let js = flat_map described_bytes ds in
      let n = length ds in
      let o = opened DefinitionBox xs cmpd (word_bytes n ++ js) e in
      let l = ap length e in
      let small = w.short in
      let r = items_read xs component_at (described xs) described_bytes WellDescribed (component_read xs) ds 12 w.each (second xs 8 12 (word_bytes n) js o.1 refl) in
      let cs : Table Component = record { count = n; slots = padded plain r.0 } in
      let end : leb (length xs) (12 + length js) ≡ true = le-leb _ _ (omega arith) in (
        cs,
        then_go _ (header_read DefinitionBox xs cmpd (lit< tt) (omega arith) o.0)
            (then_go _
            (then_go (λ n. then (items_from component_at n xs 12) (λ vs. Ok (tabled plain n vs))) (count_read DefinitionBox xs 8 n w.some w.few (first xs 8 (word_bytes n) js o.1))
            (then_go (λ vs. Ok (tabled plain n vs)) r.1 refl))
            (then_go (λ _. Ok cs) (check_go (fault Extent DefinitionBox (12 + length js)) end) refl)),
        ap (map (described xs)) (take-padded plain r.0 n (sym (length-map r.0 (described xs)) ∙ ap length r.2)) ∙ r.2,
      )

  pub definition_exact : Bytes xs → DefinitionExact xs (read_definition xs)
  definition_exact o = record { written = definition_written o; accepted = definition_read_lem }

pub definition_back : (text : List ℕ) (cs : Table Component) → DefinitionBack text cs
definition_back text cs =
    record {
      same = λ w e. (definition_written text (octets text w) cs e).1;
      again = λ w. definition_read_lem (definition_bytes (defined_by text cs)) (defined_by text cs) w refl;
    }
