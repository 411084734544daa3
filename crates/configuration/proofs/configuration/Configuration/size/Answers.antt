use Rattle.std.proofs.Common.{length, ap, arith}
use Rattle.configuration.specs.Encoded.{configuration_bytes}
use Rattle.configuration.proofs.Entering.{length-listing}
use Rattle.configuration.proofs.configuration.Configuration.size.Goals as goal

pub returns-in-Listed : goal.returns-in-Listed
returns-in-Listed c =
    let n = length-listing c.in-Listed.listing in
    let e = ap (λ z. length (configuration_bytes z)) c.in-Listed.is in
    omega arith
