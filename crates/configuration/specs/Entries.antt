-- The entries of the configuration box.
use Rattle.std.specs.Prelude.{ℕ, ◌+◌, List, Ok, Result}
use Rattle.fault.specs.declared.fault.Fault.{Fault}
use Rattle.fault.specs.declared.layer.Layer.{Layer}
use Rattle.fault.specs.declared.layer.Layer.TheVariants.{ConfigurationBox}
use Rattle.choices.specs.Choices.{format_of}
use Rattle.configuration.specs.Chosen.{choice_by}
use Rattle.fields.specs.Field.{then, byte_at, half_at}
use Rattle.choices.specs.declared.choice.Format.TheVariants.{Integer}
use Rattle.configuration.specs.declared.entry.Entry.{Entry}
use Rattle.fields.specs.declared.item.Item.{Item}

-- a 16-bit index, then bytes for depth minus one, format and align size
abbrev pub entry_by : Layer → List ℕ → ℕ → Result (Item Entry) Fault
entry_by who xs at =
    then (half_at who xs at) (λ index.
    then (byte_at who xs (at + 2)) (λ depth.
    then (choice_by format_of who xs (at + 3)) (λ format.
    then (byte_at who xs (at + 4)) (λ align.
    Ok (record {
      value = record { index = index; depth_less_one = depth; format = format; align = align };
      next = at + 5;
    })))))

abbrev pub entry_at : List ℕ → ℕ → Result (Item Entry) Fault
entry_at = entry_by ConfigurationBox

abbrev pub blank : Entry
blank = record { index = 0; depth_less_one = 0; format = Integer; align = 0 }
