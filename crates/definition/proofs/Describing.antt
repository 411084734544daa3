-- The bytes of a component, with and without a URI.
use Rattle.std.proofs.Common.{◌≡◌, ℕ, zero, suc, ◌+◌, ◌<◌, ◌≤◌, List, [], ◌∷◌, ◌++◌, map, length, get_or, take, Some, None, sym, ap, ◌∙◌, arith, lit≤}
use Rattle.std.proofs.lemmas.List.{length-append, take_all, map_more, flat_map_more}
use Rattle.std.specs.List.{flat_map}
use Rattle.std.specs.Option.{option_map}
use Rattle.definition.specs.Components.{part, plain}
use Rattle.definition.specs.Encoded.{described, described_bytes, uri_bytes}
use Rattle.fields.specs.Put.{half_bytes}
use Rattle.definition.specs.declared.component.Component.{Component}
use Rattle.definition.specs.declared.component.Span.{Span}

pub with_uri : (text : List ℕ) (c : Component) (s : Span) → c.uri ≡ Some s → described_bytes (described text c) ≡ half_bytes c.number ++ (part text s ++ 0 ∷ [])
with_uri text c s e = ap (λ u. half_bytes c.number ++ uri_bytes (option_map (part text) u)) e

pub without_uri : (text : List ℕ) (c : Component) → c.uri ≡ None → described_bytes (described text c) ≡ half_bytes c.number
without_uri text c e = ap (λ u. half_bytes c.number ++ uri_bytes (option_map (part text) u)) e

pub length_with_uri : (text : List ℕ) (c : Component) (s : Span) → c.uri ≡ Some s → length (described_bytes (described text c)) ≡ 3 + length (part text s)
length_with_uri text c s e = omega (arith, ap length (with_uri text c s e), length-append (part text s) (0 ∷ []))

-- the bytes of the first i components
abbrev pub firsts : List ℕ → List Component → ℕ → List ℕ
firsts text cs i = flat_map described_bytes (map (described text) (take i cs))

pub firsts_more : (text : List ℕ) (cs : List Component) (i : ℕ) → i < length cs → firsts text cs (i + 1) ≡ firsts text cs i ++ described_bytes (described text (get_or cs i plain))
firsts_more text cs i h =
    ap (flat_map described_bytes) (map_more (described text) cs i plain h)
    ∙ sym (flat_map_more described_bytes [] (map (described text) (take i cs)) (described text (get_or cs i plain)))

pub length_firsts_more : (text : List ℕ) (cs : List Component) (i : ℕ) → i < length cs → length (firsts text cs (i + 1)) ≡ length (firsts text cs i) + length (described_bytes (described text (get_or cs i plain)))
length_firsts_more text cs i h = ap length (firsts_more text cs i h) ∙ length-append (firsts text cs i) (described_bytes (described text (get_or cs i plain)))

-- the first ones take no more than all
pub length_firsts_le : (text : List ℕ) (cs : List Component) (i : ℕ) → i ≤ length cs → length (firsts text cs i) ≤ length (firsts text cs (length cs))
length_firsts_le text [] i h = let e : i ≡ 0 = omega arith in rw e (lit≤ tt)
length_firsts_le text (c ∷ cs) zero h = omega arith
length_firsts_le text (c ∷ cs) (suc i) h =
    omega (arith, length_firsts_le text cs i (omega arith), length-append (described_bytes (described text c)) (firsts text cs i), length-append (described_bytes (described text c)) (firsts text cs (length cs)))

pub firsts_all : (text : List ℕ) (cs : List Component) (i : ℕ) → length cs ≤ i → firsts text cs i ≡ flat_map described_bytes (map (described text) cs)
firsts_all text cs i h = ap (λ z. flat_map described_bytes (map (described text) z)) (take_all i cs h)
