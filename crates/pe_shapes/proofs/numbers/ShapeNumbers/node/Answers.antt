use Rattle.std.proofs.Common.{ap, ◌∙◌, subst, ◌≤◌}
use Rattle.pe_shapes.specs.Numbering.{shapes_of, node_shape, reach}
use Rattle.pe_shapes.proofs.NumberLemmas.{numbered_shape-node}
use Rattle.pe_shapes.proofs.NodeTests.{read_node}
use Rattle.pe_shapes.proofs.numbers.ShapeNumbers.node.Goals as goal

pub returns-clause-stands : goal.returns-clause-stands
returns-clause-stands c =
    let keys = c.args.self.now.nodes.keys in
    numbered_shape-node keys c.args.number c.args.self.now.sound c.requires
    ∙ ap (node_shape (shapes_of keys)) (read_node keys c.index.result.now c.args.number c.index.ensures)

pub returns-clause-parts : goal.returns-clause-parts
returns-clause-parts c =
    let keys = c.args.self.now.nodes.keys in
    subst (λ n. reach n ≤ c.args.number) (read_node keys c.index.result.now c.args.number c.index.ensures)
    (c.args.self.now.sound.parts c.args.number c.requires)
