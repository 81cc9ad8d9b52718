-- The sizes that are kept around a program.
use Rattle.std.proofs.Common.{◌≡◌, ℕ, Bor, rules, sym, ap, ◌∙◌}
use Rattle.std.specs.Option.{option_map}
use Rattle.fy_expand.specs.declared.frame.Frame as frame
use Rattle.fy_expand.specs.declared.frame.Frame.{Frame, the_lemmas}
use Rattle.fy_expand.specs.declared.frame.Frame.TheViews as view
use Rattle.fy_expand.specs.Scope.{Scope}
use Rattle.fy_expand.specs.Frames.{AreSized, sizes_of}
use Rattle.fy_expand.specs.Measures.{type_measure}
use Rattle.fy_expand.proofs.ScopeLemmas.{scope_of-Name}

pub AreSized-Outermost : AreSized frame.Outermost
AreSized-Outermost = λ n. search (rules, the_lemmas)

-- a name of phrases changes nothing
pub AreSized-Name : (x : ℕ) (outer : Bor Frame) → AreSized outer.now → AreSized (view.Name x outer)
AreSized-Name x outer are = λ name.
    let kept : sizes_of (view.Name x outer) ≡ sizes_of outer.now = search (rules, the_lemmas) in
    let types = ap (λ (s : Scope). s.types) (scope_of-Name x outer) in
    ap (λ (f : _). f name) kept ∙ are name ∙ ap (λ (f : _). option_map type_measure (f name)) (sym types)
