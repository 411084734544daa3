use Rattle.std.proofs.Common.{length, sym, refl, ap, ◌∙◌, arith}
use Rattle.configuration.specs.Encoded.{configuration_body, configuration_bytes, version_bytes}
use Rattle.configuration.specs.Profiles.{profile_word}
use Rattle.fields.specs.Put.{placed, put_at, word_bytes}
use Rattle.configuration.proofs.Entering.{length-listing}
use Rattle.fields.proofs.Placing.{put-placed, then-put}
use Rattle.configuration.proofs.configuration.put_body.Goals as goal

pub put-requires : goal.put-requires
put-requires c = omega (arith, length-listing c.in-Listed.listing, ap (λ z. length (configuration_bytes z)) c.in-Listed.is)

pub returns-in-Listed : goal.returns-in-Listed
returns-in-Listed c = c.put.ensures ∙ ap (λ z. placed c.args.out.now 8 (configuration_body z)) (sym c.in-Listed.is)

pub returns-in-Brief : goal.returns-in-Brief
returns-in-Brief c =
    let o = c.args.out.now in
    let room = ap (λ z. length (configuration_bytes z)) c.in-Brief.is in
    let w = c.put_word.ensures ∙ ap (λ n. put_at c.put-in-Brief.new.out 12 (word_bytes n)) c.from-in-Brief.ensures in
    let e8 = put-placed o (version_bytes 1) 8 (c.put-in-Brief.ensures ∙ ap (λ n. put_at o 8 (version_bytes n)) c.from.ensures) (omega arith) in
    then-put o (version_bytes 1) (word_bytes (profile_word c.in-Brief.profile)) 8 12 e8 w refl (omega arith)
    ∙ ap (λ z. placed o 8 (configuration_body z)) (sym c.in-Brief.is)
