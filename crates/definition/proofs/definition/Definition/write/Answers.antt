use Rattle.std.proofs.Common.{◌≡◌, ℕ, ◌≤◌, List, ◌++◌, map, length, Err, sym, refl, ap, ◌∙◌, arith}
use Rattle.std.proofs.lemmas.List.{length-map}
use Rattle.std.specs.List.{flat_map}
use Rattle.fault.specs.declared.layer.Layer.TheVariants.{DefinitionBox}
use Rattle.definition.specs.Definitions.{cmpd}
use Rattle.definition.specs.Encoded.{Described, described, described_bytes, definition_bytes, defines}
use Rattle.fields.specs.Put.{placed, put_at, word_bytes, boxed}
use Rattle.definition.specs.declared.component.Component.{Component}
use Rattle.definition.proofs.Definable.{definition_back}
use Rattle.fields.proofs.Placing.{put-placed, then-placed, box_placed, writes, no_room}
use Rattle.definition.proofs.definition.Definition.write.Goals as goal

-- the header, the count and the components make the box
whole : (o text : List ℕ) (cs : List Component) (ds : List Described) (size : ℕ) {x y z : List ℕ} → x ≡ put_at o 0 (word_bytes size ++ word_bytes cmpd) → y ≡ put_at x 8 (word_bytes (length cs)) → z ≡ placed y 12 (flat_map described_bytes (map (described text) cs)) → map (described text) cs ≡ ds → size ≡ length (definition_bytes ds) → size ≤ length o → length x ≡ length o → z ≡ placed o 0 (definition_bytes ds)
whole o text cs ds size {x} e f g d n h l =
    let js = flat_map described_bytes (map (described text) cs) in
    let same : length js ≡ length (flat_map described_bytes ds) = ap (λ z. length (flat_map described_bytes z)) d in
    let count : length cs ≡ length ds = sym (length-map cs (described text)) ∙ ap length d in
    let counted = put-placed x (word_bytes (length cs)) 8 f (omega arith) in
    let body = then-placed x (word_bytes (length cs)) js 8 12 counted g refl (omega arith) in
    box_placed o (word_bytes (length cs) ++ js) size cmpd (put-placed o (word_bytes size ++ word_bytes cmpd) 0 e (omega arith)) body (omega arith) h
    ∙ ap (λ k. placed o 0 (boxed cmpd (word_bytes k ++ js))) count
    ∙ ap (λ z. placed o 0 (boxed cmpd (word_bytes (length ds) ++ flat_map described_bytes z))) d

pub returns : goal.returns
returns c =
    let o = c.args.out.now in
    let s = c.args.self.now in
    let ds = defines s in
    let d : map (described s.text.now) c.components-components.result.now ≡ ds = ap (map (described s.text.now)) c.components-components.ensures.value in
    let p = whole o s.text.now c.components-components.result.now ds c.size-size.result c.put_header.ensures c.put_word.ensures c.put_components.ensures d c.size-size.ensures.is (omega arith) (omega arith) in
    let w = writes DefinitionBox (definition_bytes ds) o c.size-size.result c.put_components.new.out c.size-size.ensures.is (omega arith) p in
    record { answer = w.0; bytes = w.1; back = definition_back c.args.self.now.text.now c.args.self.now.components }

pub returns-then-out-size : goal.returns-then-out-size
returns-then-out-size c =
    let w = no_room DefinitionBox (definition_bytes (defines c.args.self.now)) c.args.out.now (omega arith) in
    record { answer = ap Err c.refuses.ensures ∙ w.0; bytes = w.1; back = definition_back c.args.self.now.text.now c.args.self.now.components }
