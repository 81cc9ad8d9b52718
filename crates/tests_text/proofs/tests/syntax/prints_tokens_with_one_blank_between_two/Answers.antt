use Rattle.fy_base.specs.Places.{first_place}
use Rattle.fy_syntax.specs.Reading.{tree_of}
use Rattle.tests_text.proofs.PrintedSum.{putint_of_a_sum}
use Rattle.tests_text.proofs.tests.syntax.prints_tokens_with_one_blank_between_two.Goals as goal

pub print_surface-requires : goal.print_surface-requires
print_surface-requires g c =
    putint_of_a_sum c.in_ok-names.names (tree_of c.in_ok-tree.tree) first_place c.in_ok-names.ensures c.in_ok-tree.ensures
