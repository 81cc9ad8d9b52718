use Rattle.std.proofs.Common.{ap, sym, ◌∙◌, subst, IsTrue, ◌≤◌}
use Rattle.fy_derive.specs.Tables.{types_of, node_type, is_meet_behind, reach}
use Rattle.fy_derive.proofs.TableLemmas.{type_at-node}
use Rattle.fy_derive.proofs.NodeLemmas.{read_node}
use Rattle.fy_derive.proofs.table.TypeTable.node.Goals as goal

pub returns-clause-same : goal.returns-clause-same
returns-clause-same c = sym (read_node c.args.self.now.nodes.keys c.index.result.now c.args.number c.index.ensures)

pub returns-clause-stands : goal.returns-clause-stands
returns-clause-stands c =
    let keys = c.args.self.now.nodes.keys in
    type_at-node keys c.args.number c.args.self.now.sound c.requires
    ∙ ap (node_type (types_of keys)) (read_node keys c.index.result.now c.args.number c.index.ensures)

pub returns-clause-meet : goal.returns-clause-meet
returns-clause-meet c =
    let keys = c.args.self.now.nodes.keys in
    subst (λ n. IsTrue (is_meet_behind (types_of keys) n)) (read_node keys c.index.result.now c.args.number c.index.ensures)
    (c.args.self.now.sound.meets c.args.number c.requires)

pub returns-clause-parts : goal.returns-clause-parts
returns-clause-parts c =
    let keys = c.args.self.now.nodes.keys in
    subst (λ n. reach n ≤ c.args.number) (read_node keys c.index.result.now c.args.number c.index.ensures)
    (c.args.self.now.sound.parts c.args.number c.requires)
