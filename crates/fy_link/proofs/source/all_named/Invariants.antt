use Rattle.std.proofs.Common.{map, take}
use Rattle.fy_link.specs.Read.{plain_piece, plain_named}
use Rattle.fy_link.specs.Sources.{NameAll}
use Rattle.fy_link.proofs.source.all_named.Given as goal

abbrev pub invariant-loop-piece : goal.invariant-loop-piece
invariant-loop-piece l = NameAll l.at (map plain_piece (take l.piece-index l.pieces)) (map plain_named l.all.items)
