use Rattle.std.proofs.Common.{ap, ◌∙◌}
use Rattle.fy_types.specs.Names.{texts_of, with_name}
use Rattle.fy_types.proofs.NameLemmas.{texts-insert}
use Rattle.fy_types.proofs.names.add.Goals as goal

pub returns-clause-ok : goal.returns-clause-ok
returns-clause-ok c =
    ap texts_of c.in_ok-insert.ensures.keys
    ∙ texts-insert c.args.texts.now.keys c.in_ok-to_vec.field-0
    ∙ ap (with_name (texts_of c.args.texts.now.keys)) (c.in_ok-to_vec.ensures.items_if_clones_equal (λ x y e. e))
