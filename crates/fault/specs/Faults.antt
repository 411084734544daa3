-- The number of each reason and the letter of each layer. Promises name a fault by these.
use Rattle.std.specs.Prelude.{ℕ}
use Rattle.fault.specs.declared.fault.Fault.{Fault}
use Rattle.fault.specs.declared.layer.Layer.{Layer}
use Rattle.fault.specs.declared.layer.Layer.TheVariants.{DefinitionBox, ConfigurationBox, Configuration, Frame, Store}
use Rattle.fault.specs.declared.reason.Reason.{Reason}
use Rattle.fault.specs.declared.reason.Reason.TheVariants.{Extent, BoxType, Version, Count, Reserved, Presence, Dimensions, Index, Depth, Interleaving, Blocks, Alignment, Tiles, FrameSize, NoSuchPlace, Code, Kind, Bounds, Room, NotANumber}

abbrev pub number_of : Reason → ℕ
number_of Extent = 1
number_of BoxType = 2
number_of Version = 3
number_of Count = 4
number_of Reserved = 5
number_of Presence = 6
number_of Dimensions = 7
number_of Index = 8
number_of Depth = 9
number_of Interleaving = 10
number_of Blocks = 11
number_of Alignment = 12
number_of Tiles = 13
number_of FrameSize = 14
number_of NoSuchPlace = 21
number_of Code = 22
number_of Kind = 23
number_of Bounds = 26
number_of Room = 27
number_of NotANumber = 28

-- the letters d, u, c, f and s, by their codes
abbrev pub letter_of : Layer → ℕ
letter_of DefinitionBox = 100
letter_of ConfigurationBox = 117
letter_of Configuration = 99
letter_of Frame = 102
letter_of Store = 115

abbrev pub fault : Reason → Layer → ℕ → Fault
fault why who at = record { reason = why; layer = who; place = at }
