use Rattle.std.proofs.Common.{◌++◌, Err, ap, ◌∙◌, arith}
use Rattle.fault.specs.declared.layer.Layer.TheVariants.{ConfigurationBox}
use Rattle.configuration.specs.Configurations.{uncc}
use Rattle.configuration.specs.Encoded.{configuration_body, configuration_bytes}
use Rattle.configuration.proofs.Configurable.{configuration_back}
use Rattle.fields.specs.Put.{word_bytes}
use Rattle.fields.proofs.Placing.{put-placed, box_placed, writes, no_room}
use Rattle.configuration.proofs.configuration.Configuration.write.Goals as goal

pub returns : goal.returns
returns c =
    let o = c.args.out.now in
    let s = c.args.self.now in
    let n = c.size-size.ensures in
    let p = box_placed o (configuration_body s) c.size-size.result uncc (put-placed o (word_bytes c.size-size.result ++ word_bytes uncc) 0 c.put_header.ensures (omega arith)) c.put_body.ensures (omega arith) (omega arith) in
    let w = writes ConfigurationBox (configuration_bytes s) o c.size-size.result c.put_body.new.out n (omega arith) p in
    record { answer = w.0; bytes = w.1; back = configuration_back s }

pub returns-then-out-size : goal.returns-then-out-size
returns-then-out-size c =
    let s = c.args.self.now in
    let w = no_room ConfigurationBox (configuration_bytes s) c.args.out.now (omega arith) in
    record { answer = ap Err c.refuses.ensures ∙ w.0; bytes = w.1; back = configuration_back s }
