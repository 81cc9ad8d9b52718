use Rattle.std.proofs.Common.{rules, ◌≡◌, ◌∙◌}
use Rattle.fy_syntax.specs.declared.surface.Surface.{the_lemmas}
use Rattle.fy_syntax.specs.Trees.{Tree}
use Rattle.fy_syntax.specs.Reading.{tree_of, links_of}
use Rattle.fy_syntax.specs.Spells.{chain_of}
use Rattle.fy_grammar.proofs.Made.{chain_of-some}
use Rattle.fy_grammar.proofs.make.chain.Goals as goal

pub returns : goal.returns
returns c =
    let h : Tree.chain (tree_of c.args.first) (links_of c.args.links) c.args.at ≡ chain_of (tree_of c.args.first) (links_of c.args.links) c.args.at = chain_of-some (tree_of c.args.first) c.args.links c.args.at (λ e. c.if-len-eq0.false (c.len.ensures ∙ e)) in
    rw (← h) (search (rules, the_lemmas))
