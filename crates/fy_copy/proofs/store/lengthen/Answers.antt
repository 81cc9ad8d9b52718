use Rattle.std.proofs.Common.{◌≡◌, List, [], None, sym, subst, arith}
use Rattle.std.specs.Prelude.{set}
use Rattle.fy_phrase.specs.Copy.{content_of, lengthened, with_content}
use Rattle.fy_copy.specs.Shown.{rows_onto, row_of, content_shown}
use Rattle.fy_copy.specs.Store.{IsNewest}
use Rattle.fy_copy.specs.declared.context.Row.{Row}
use Rattle.fy_copy.proofs.StoreLemmas.{changed_at, same_at, unchanged, on_ok, on_err}
use Rattle.fy_copy.proofs.store.lengthen.Goals as goal

pub index_mut-requires : goal.index_mut-requires
index_mut-requires c = omega (arith, c.in-Some.ensures.found.within, c.as_slice.ensures.len)

pub returns-clause-ok : goal.returns-clause-ok
returns-clause-ok c =
    let N : List Row → Type 0 = λ rows. IsNewest c.args.n rows c.in-Some.i in
    let newest = subst N c.as_slice.ensures.value c.in-Some.ensures.found in
    let rows = c.args.store.now.items in
    let x = c.index_mut.result.now in
    let y = c.grow_row.new.row in
    on_ok c.grow_row.result (row_of y ≡ record (row_of x) { content = lengthened (content_shown x.content) })
    (rows_onto [] (set rows c.in-Some.i y) ≡ with_content c.args.n lengthened (rows_onto [] rows)) c.grow_row.ensures.ok
    (λ e. changed_at c.args.n c.in-Some.i rows x y lengthened newest c.index_mut.ensures.value e)

pub returns-clause-err : goal.returns-clause-err
returns-clause-err c =
    let N : List Row → Type 0 = λ rows. IsNewest c.args.n rows c.in-Some.i in
    let newest = subst N c.as_slice.ensures.value c.in-Some.ensures.found in
    let rows = c.args.store.now.items in
    let x = c.index_mut.result.now in
    let y = c.grow_row.new.row in
    on_err c.grow_row.result (row_of y ≡ row_of x) (rows_onto [] (set rows c.in-Some.i y) ≡ rows_onto [] rows) c.grow_row.ensures.err
    (λ e. same_at c.args.n c.in-Some.i rows x y newest c.index_mut.ensures.value e)

pub returns-in_default-clause-ok : goal.returns-in_default-clause-ok
returns-in_default-clause-ok c =
    let N : List Row → Type 0 = λ rows. content_of c.args.n (rows_onto [] rows) ≡ None in
    let none = subst N c.as_slice.ensures.value c.in_default.ensures.none in
    sym (unchanged c.args.n lengthened (rows_onto [] c.args.store.now.items) none)
