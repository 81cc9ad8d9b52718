use Rattle.std.proofs.Common.{◌≡◌, length, sym, ap, ◌∙◌, rules}
use Rattle.fy_syntax.specs.declared.types.SurfaceTy.{the_lemmas}
use Rattle.fy_syntax.specs.Reading.{type_tree}
use Rattle.fy_expand.specs.Types.{fields, type_of}
use Rattle.fy_expand.specs.Measures.{type_measure, under_nodes}
use Rattle.fy_expand.specs.Frames.{scope_of}
use Rattle.fy_expand.proofs.TypeLemmas.{type_measure-fields}
use Rattle.fy_expand.proofs.types.+type_size.Goals as goal

pub type_size-returns-in-Field : goal.type_size-returns-in-Field
type_size-returns-in-Field t c =
    let types = (scope_of c.args.frame.now).types in
    let A = type_of types (type_tree c.in-Field.part.value) in
    let whole : type_of types (type_tree c.args.ty.now) ≡ fields c.in-Field.names A = search (rules, the_lemmas) in
    let inner : c.type_size-in-Field.result ≡ type_measure A = search rules in
    let many : c.len.result ≡ length c.in-Field.names = search rules in
    c.under-in-Field.ensures
    ∙ ap (under_nodes c.len.result) inner
    ∙ ap (λ n. under_nodes n (type_measure A)) many
    ∙ sym (type_measure-fields c.in-Field.names A)
    ∙ sym (ap type_measure whole)
