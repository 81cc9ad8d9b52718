use Rattle.std.proofs.Common.{◌==◌, ◌∙◌, rules, tests}
use Rattle.std.proofs.lemmas.Iterator.{YieldsList-from_slice}
use Rattle.std.proofs.lemmas.Iterator.Search.{any_from_yields_List}
use Rattle.fy_link.specs.declared.header.Piece.{Piece}
use Rattle.fy_link.proofs.PieceLemmas.{among-names}
use Rattle.fy_link.proofs.header.has_name.Goals as goal

pub returns : goal.returns
returns c =
    any_from_yields_List (λ (x : Piece). x.name == c.args.name) _ _ _ c.any.ensures.ran (YieldsList-from_slice c.args.pieces.now cc) (λ x b q k. search (rules, tests))
    ∙ among-names c.args.name c.args.pieces.now
