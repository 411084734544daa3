-- The word that a value of the code means.
use Rattle.layout.specs.declared.word.Word.{Word}
use Rattle.placement.specs.Word as word

abbrev pub word_in : Word → word.Word
word_in w = record { first = w.first.0; size = w.size.0; little = w.little; low = w.low.0; depth = w.depth.0 }
