use Rattle.std.proofs.Common.{◌≡◌, ◌++◌, map, take}
use Rattle.std.specs.List.{flat_map}
use Rattle.fy_link.specs.Header.{abstraction_over}
use Rattle.fy_link.specs.Read.{plain_piece}
use Rattle.fy_link.proofs.written.put_abstractions.Given as goal

abbrev pub invariant-loop-piece : goal.invariant-loop-piece
invariant-loop-piece l = l.made.items ≡ l.initial.made.items ++ flat_map (abstraction_over l.at) (map plain_piece (take l.piece-index l.pieces))
