-- What the values of the code stand for.
use Rattle.std.specs.Prelude.{List, map, length, reverse}
use Rattle.std.specs.declared.alloc.Global.{Global}
use Rattle.std.specs.declared.vec.Vec.{Vec}
use Rattle.fy_types.specs.Reading.{plain_type}
use Rattle.fy_phrase.specs.Reads.{reads}
use Rattle.fy_link.specs.declared.header.Piece.{Piece}
use Rattle.fy_link.specs.declared.header.Header.{Header}
use Rattle.fy_link.specs.declared.source.Named.{Named}
use Rattle.fy_link.specs.declared.source.Said.{Said}
use Rattle.fy_link.specs.declared.joined.Part.{Part}
use Rattle.fy_link.specs.declared.unit.Unit.{Unit as UnitValue}
use Rattle.fy_link.specs.Joined.{TextPart}
use Rattle.fy_link.specs.Header.{PlainPiece, PlainHeader}
use Rattle.fy_link.specs.Sources as source
use Rattle.fy_link.specs.Sources.{PlainSource, below_abstractions, without_prelude}

abbrev pub plain_piece : Piece → PlainPiece
plain_piece x = record { name = x.name; at = x.at; colon_at = x.colon_at; type = x.ty.now }

abbrev pub plain_pieces : Vec Piece Global → List PlainPiece
plain_pieces xs = map plain_piece xs.items

abbrev pub plain_header : Header → PlainHeader
plain_header h = record { imports = plain_pieces h.imports; own = plain_piece h.own; equals_at = h.equals_at; tail = h.tail.now }

abbrev pub plain_named : Named → source.Named
plain_named x = record { name = x.name; type = plain_type x.ty }

abbrev pub plain_said : Said → PlainSource
plain_said s = record {
  imports = map plain_named s.imports.items;
  own = plain_named s.own;
  phrase = below_abstractions (length s.imports.items) (without_prelude (reads s.whole));
}

-- what the unit's source says
abbrev pub source_in : UnitValue → PlainSource
source_in value = plain_said value.said

-- what the units export, the latest first
abbrev pub owns_before : List UnitValue → List source.Named
owns_before units = reverse (map (λ (value : UnitValue). plain_named value.said.own) units)

abbrev pub plain_part : Part → TextPart
plain_part part = record { name = part.name.now; tail = part.tail.now }
