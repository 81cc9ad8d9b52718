use Rattle.std.proofs.Common.{◌≡◌, List, [], None, sym, ap, ◌∙◌, subst, arith}
use Rattle.fy_phrase.specs.Copy.{content_of}
use Rattle.fy_copy.specs.Shown.{rows_onto}
use Rattle.fy_copy.specs.Store.{IsNewest}
use Rattle.fy_copy.specs.declared.context.Row.{Row}
use Rattle.fy_copy.proofs.StoreLemmas.{lost_at, not_lost}
use Rattle.fy_copy.proofs.store.drop_row.Goals as goal

pub remove-requires : goal.remove-requires
remove-requires c = omega (arith, c.in-Some.ensures.found.within, c.as_slice.ensures.len)

pub returns : goal.returns
returns c =
    let N : List Row → Type 0 = λ rows. IsNewest c.args.n rows c.in-Some.i in
    let newest = subst N c.as_slice.ensures.value c.in-Some.ensures.found in
    ap (rows_onto []) c.remove.ensures.items ∙ lost_at c.args.n c.in-Some.i c.args.store.now.items c.remove.result newest c.remove.ensures.value

pub returns-in_default : goal.returns-in_default
returns-in_default c =
    let N : List Row → Type 0 = λ rows. content_of c.args.n (rows_onto [] rows) ≡ None in
    let none = subst N c.as_slice.ensures.value c.in_default.ensures.none in
    sym (not_lost c.args.n (rows_onto [] c.args.store.now.items) none)
