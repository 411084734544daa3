use Rattle.std.proofs.Common.{sym, subst, arith}
use Rattle.configuration.specs.RoundTrip.{ConfigurationExact}
use Rattle.configuration.proofs.Configurable.{configuration_exact}
use Rattle.configuration.proofs.configuration.Configuration.read.Goals as goal

pub returns : goal.returns
returns c =
    let xs = c.args.bytes.now in
    let e = c.read_configuration.ensures in
    record { value = e; exact = subst (ConfigurationExact xs) (sym e) (configuration_exact xs (λ i. omega (arith, c.type_inv.bytes i))) }
