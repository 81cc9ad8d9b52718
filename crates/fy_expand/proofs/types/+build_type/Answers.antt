use Rattle.std.proofs.Common.{◌≡◌, inl, inr, sym, ap, ◌∙◌, subst, arith}
use Rattle.std.specs.Result.{IfOk}
use Rattle.fy_types.specs.Reading.{plain_type}
use Rattle.fy_expand.specs.Types.{named_type, types_of}
use Rattle.fy_expand.specs.Scope.{Scope}
use Rattle.fy_expand.specs.Frames.{scope_of}
use Rattle.fy_expand.proofs.ScopeLemmas.{scope_of-Name, scope_of-Defs, scope_of-Members, scope_of-Hidden, behind_all-types}
use Rattle.fy_expand.proofs.TypeLemmas.{types_of-built}
use Rattle.fy_expand.proofs.types.+build_type.Goals as goal

pub build_types-returns : goal.build_types-returns
build_types-returns t c =
    let types = (scope_of c.args.frame.now).types in
    types_of-built types c.loop-ty.made c.as_slice-ty-items.result.now c.loop-ty.ty-index (omega arith) c.loop-ty.invariant
    ∙ ap (types_of types) (sym c.as_slice-ty-items.ensures.reading)

pub build_named-returns-in-Name : goal.build_named-returns-in-Name
build_named-returns-in-Name t c =
    let outer = c.in-Name.outer in
    let same : (scope_of c.args.frame.now).types ≡ (scope_of outer.now).types = elim c.in-Name.is [
      | inl is ↦ ap (λ f. (scope_of f).types) is.1 ∙ ap (λ (s : Scope). s.types) (scope_of-Name is.0 outer)
      | inr (inl is) ↦ ap (λ f. (scope_of f).types) is.1 ∙ ap (λ (s : Scope). s.types) (scope_of-Defs is.0 outer)
      | inr (inr (inl is)) ↦ ap (λ f. (scope_of f).types) is.1 ∙ ap (λ (s : Scope). s.types) (scope_of-Members is.0 outer)
      | inr (inr (inr is)) ↦ ap (λ f. (scope_of f).types) is.1 ∙ ap (λ (s : Scope). s.types) (scope_of-Hidden is.0 outer) ∙ behind_all-types is.0 (scope_of outer.now)
    ] in
    subst (λ types. IfOk c.build_named-in-Name.result (λ made. plain_type made ≡ named_type (types c.args.name))) (sym same) c.build_named-in-Name.ensures
