use Rattle.std.proofs.Common.{◌≤◌, ◌+◌, ◌*◌, ap, ◌∙◌, subst, sym}
use Rattle.fy_types.specs.Fields.{fields_in_form}
use Rattle.fy_types.specs.Limits.{all_nesting}
use Rattle.fy_types.specs.Nested.{type_nesting}
use Rattle.fy_types.specs.Paths.{paths}
use Rattle.fy_types.specs.Reading.{plain_paths, plain_type}
use Rattle.fy_memo.proofs.EachLemmas.{same-lists}
use Rattle.fy_memo.proofs.types.Types.find.Goals as goal

pub returns-then-are_same_paths : goal.returns-then-are_same_paths
returns-then-are_same_paths c =
    let typed = c.index-typed.result.now in
    let ty = plain_type typed.ty.value in
    let same = sym (ap plain_paths c.deref.ensures) ∙ c.are_same_paths.ensures.0 c.if-are_same_paths.true in (
      same-lists (paths ty) (plain_paths typed.domain.value) typed.made ∙ same,
      subst (λ P. type_nesting ty ≤ 2 * all_nesting P + 1) same typed.shallow,
      typed.full,
      typed.named ∙ ap fields_in_form same,
    )
