use Rattle.std.proofs.Common.{◌≤◌, sym, ap, ◌∙◌, subst, length}
use Rattle.fy_derive.specs.Tables.{types_of, type_at}
use Rattle.fy_derive.proofs.TableLemmas.{IsTable-after, inserted, kept-insert, longer-insert}
use Rattle.fy_derive.proofs.NodeLemmas.{same_node, same_node-refl, stored_node}
use Rattle.fy_derive.proofs.table.TypeTable.number.Goals as goal

pub invariant_of-self : goal.invariant_of-self
invariant_of-self c = record {
  sound = IsTable-after same_node c.insert_full.result c.args.self.now.nodes.keys c.insert_full.new.self.keys c.args.node
      same_node-refl c.args.self.now.sound c.requires.parts c.requires.meet c.insert_full.ensures.keys c.insert_full.ensures.err;
}

pub returns-clause-stands : goal.returns-clause-stands
returns-clause-stands c =
    inserted same_node c.args.self.now.nodes.keys c.insert_full.new.self.keys c.args.node c.in_ok-number.number
    (IsTable-after same_node c.insert_full.result c.args.self.now.nodes.keys c.insert_full.new.self.keys c.args.node
    same_node-refl c.args.self.now.sound c.requires.parts c.requires.meet c.insert_full.ensures.keys c.insert_full.ensures.err)
    c.requires.parts c.in_ok-number.ensures.keys c.in_ok-number.ensures.within
    (stored_node c.insert_full.new.self.keys c.args.node c.in_ok-number.number c.in_ok-number.ensures.stored)

pub returns-clause-extends : goal.returns-clause-extends
returns-clause-extends c = record {
  more = subst (λ ys. length c.args.self.now.nodes.keys ≤ length ys) (sym c.in_ok-number.ensures.keys) (longer-insert same_node _ _);
  same = λ k h. ap (λ ys. type_at (types_of ys) k) c.in_ok-number.ensures.keys ∙ kept-insert same_node _ _ k h;
}
