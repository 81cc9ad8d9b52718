use Rattle.std.proofs.Common.{rules, ◌≡◌, ◌∙◌}
use Rattle.fy_syntax.specs.declared.surface.Surface.{the_lemmas}
use Rattle.fy_syntax.specs.Trees.{Tree}
use Rattle.fy_syntax.specs.Reading.{tree_of, trees_of}
use Rattle.fy_syntax.specs.Spells.{apply_of}
use Rattle.fy_grammar.proofs.Made.{apply_of-some}
use Rattle.fy_grammar.proofs.make.apply.Goals as goal

pub returns : goal.returns
returns c =
    let h : Tree.apply (tree_of c.args.first) (trees_of c.args.arguments) c.args.at ≡ apply_of (tree_of c.args.first) (trees_of c.args.arguments) c.args.at = apply_of-some (tree_of c.args.first) c.args.arguments c.args.at (λ e. c.if-len-eq0.false (c.len.ensures ∙ e)) in
    rw (← h) (search (rules, the_lemmas))
