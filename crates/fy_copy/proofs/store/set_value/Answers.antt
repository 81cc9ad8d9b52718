use Rattle.std.proofs.Common.{◌≡◌, List, [], None, sym, subst, arith}
use Rattle.fy_phrase.specs.Copy.{content_of, with_value_in}
use Rattle.fy_copy.specs.Shown.{rows_onto, which_of}
use Rattle.fy_copy.specs.Store.{IsNewest}
use Rattle.fy_copy.specs.declared.context.Row.{Row}
use Rattle.fy_copy.proofs.StoreLemmas.{changed_at, unchanged}
use Rattle.fy_copy.proofs.store.set_value.Goals as goal

pub index_mut-requires : goal.index_mut-requires
index_mut-requires c = omega (arith, c.in-Some.ensures.found.within, c.as_slice.ensures.len)

pub returns : goal.returns
returns c =
    let N : List Row → Type 0 = λ rows. IsNewest c.args.n rows c.in-Some.i in
    let newest = subst N c.as_slice.ensures.value c.in-Some.ensures.found in
    changed_at c.args.n c.in-Some.i c.args.store.now.items c.index_mut.result.now c.write_row.new.row (with_value_in (which_of c.args.which) c.args.value) newest c.index_mut.ensures.value c.write_row.ensures

pub returns-in_default : goal.returns-in_default
returns-in_default c =
    let N : List Row → Type 0 = λ rows. content_of c.args.n (rows_onto [] rows) ≡ None in
    let none = subst N c.as_slice.ensures.value c.in_default.ensures.none in
    sym (unchanged c.args.n (with_value_in (which_of c.args.which) c.args.value) (rows_onto [] c.args.store.now.items) none)
