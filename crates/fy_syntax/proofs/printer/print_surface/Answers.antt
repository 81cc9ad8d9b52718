use Rattle.std.proofs.Common.{◌++◌, ap, sym, ◌∙◌, subst, arith}
use Rattle.fy_syntax.specs.Reading.{tree_of}
use Rattle.fy_syntax.specs.Print.{tree_text}
use Rattle.fy_syntax.specs.Printing.{IsTextOf}
use Rattle.fy_syntax.proofs.PrintLemmas.{text_popped}
use Rattle.fy_syntax.proofs.printer.print_surface.Goals as goal

pub returns : goal.returns
returns c =
    let whole = c.in_ok-put_tree.ensures.text ∙ ap (λ l. l ++ tree_text c.args.names.now (tree_of c.args.tree.now)) c.new-text.ensures.items in
    subst (IsTextOf c.args.names.now (tree_of c.args.tree.now)) (sym c.from_vec.ensures)
    (text_popped c.args.names.now (tree_of c.args.tree.now) c.pop.new.self.items c.put_tree.new.text.items c.pop.result c.requires c.in_ok-put_tree.ensures.ranges whole c.pop.ensures.items (λ h. c.pop.ensures.variant.1 (omega arith)))
