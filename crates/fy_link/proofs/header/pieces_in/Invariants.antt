use Rattle.std.proofs.Common.{◌≡◌, List, map, drop}
use Rattle.std.specs.Borrow.{Bor}
use Rattle.fy_lexer.specs.declared.token.Token.{Token}
use Rattle.fy_link.specs.Header.{pieces_of}
use Rattle.fy_link.specs.Read.{plain_piece}
use Rattle.fy_link.proofs.PieceLemmas.{in_front}
use Rattle.fy_link.proofs.header.pieces_in.Given as goal

abbrev pub invariant-loop-part : goal.invariant-loop-part
invariant-loop-part l =
    in_front (map plain_piece l.pieces.items) (pieces_of (map (λ (part : Bor (List Token)). part.now) (drop l.part-index l.parts)))
    ≡ pieces_of (map (λ (part : Bor (List Token)). part.now) l.parts)
