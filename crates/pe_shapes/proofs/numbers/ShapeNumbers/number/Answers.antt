use Rattle.std.proofs.Common.{◌≤◌, sym, ap, ◌∙◌, subst, length}
use Rattle.pe_shapes.specs.Numbering.{shapes_of, numbered_shape}
use Rattle.pe_shapes.proofs.NumberLemmas.{IsNumbering-after, inserted, kept-insert, longer-insert}
use Rattle.pe_shapes.proofs.NodeTests.{same_node, same_node-refl, stored_node}
use Rattle.pe_shapes.proofs.numbers.ShapeNumbers.number.Goals as goal

pub invariant_of-self : goal.invariant_of-self
invariant_of-self c = record {
  sound = IsNumbering-after same_node c.insert_full.result c.args.self.now.nodes.keys c.insert_full.new.self.keys c.args.node
      same_node-refl c.args.self.now.sound c.requires c.insert_full.ensures.keys c.insert_full.ensures.err;
}

pub returns-clause-stands : goal.returns-clause-stands
returns-clause-stands c =
    inserted same_node c.args.self.now.nodes.keys c.insert_full.new.self.keys c.args.node c.in_ok-number.number
    (IsNumbering-after same_node c.insert_full.result c.args.self.now.nodes.keys c.insert_full.new.self.keys c.args.node
    same_node-refl c.args.self.now.sound c.requires c.insert_full.ensures.keys c.insert_full.ensures.err)
    c.requires c.in_ok-number.ensures.keys c.in_ok-number.ensures.within
    (stored_node c.insert_full.new.self.keys c.args.node c.in_ok-number.number c.in_ok-number.ensures.stored)

pub returns-clause-extends : goal.returns-clause-extends
returns-clause-extends c = record {
  more = subst (λ ys. length c.args.self.now.nodes.keys ≤ length ys) (sym c.in_ok-number.ensures.keys) (longer-insert same_node _ _);
  same = λ k h. ap (λ ys. numbered_shape (shapes_of ys) k) c.in_ok-number.ensures.keys ∙ kept-insert same_node _ _ k h;
}
