use Rattle.std.proofs.Common.{◌≡◌, sym, ◌∙◌, subst, arith, rules}
use Rattle.definition.specs.Definitions.{read_definition, components_read}
use Rattle.definition.specs.RoundTrip.{DefinitionExact}
use Rattle.definition.proofs.Definable.{definition_exact}
use Rattle.definition.proofs.definition.Definition.read.Goals as goal

pub returns : goal.returns
returns c =
    let xs = c.args.bytes.now in
    let e = sym c.read_components.ensures ∙ c.in_ok-components.was in
    record {
      components = search rules;
      text = search rules;
      exact = subst (DefinitionExact xs) e (definition_exact xs (λ i. omega (arith, c.type_inv.bytes i)));
    }

pub returns-in_err-components : goal.returns-in_err-components
returns-in_err-components c =
    let xs = c.args.bytes.now in
    let e : components_read c.from_residual.result ≡ read_definition xs = search rules in
    record {
      components = e;
      text = search rules;
      exact = subst (DefinitionExact xs) (sym e) (definition_exact xs (λ i. omega (arith, c.type_inv.bytes i)));
    }
