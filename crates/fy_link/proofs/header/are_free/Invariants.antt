use Rattle.std.proofs.Common.{◌≡◌, map, drop}
use Rattle.fy_link.specs.declared.header.Piece.{Piece}
use Rattle.fy_link.specs.Header.{are_free}
use Rattle.fy_link.proofs.header.are_free.Given as goal

abbrev pub invariant-loop-i : goal.invariant-loop-i
invariant-loop-i l = are_free (map (λ (x : Piece). x.name) (drop l.i l.pieces)) ≡ are_free (map (λ (x : Piece). x.name) l.pieces)
