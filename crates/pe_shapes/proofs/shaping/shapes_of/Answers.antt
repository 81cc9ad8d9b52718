use Rattle.std.proofs.Common.{◌≡◌, ◌+◌, ◌*◌, ◌≤◌, [], refl, length, sym, ap, ◌∙◌, subst, arith}
use Rattle.std.proofs.lemmas.Result.{err_from_is_err_and}
use Rattle.fy_phrase.specs.Reads.{reads}
use Rattle.fy_derive.specs.Judging.{conclusion_of}
use Rattle.fy_derive.specs.Reading.{plain_derivation}
use Rattle.fy_derive.specs.Shapes.{shape_table, table_words}
use Rattle.pe_shapes.specs.Standing.{AreFit}
use Rattle.pe_shapes.proofs.ClosedLemmas.{tables-closed}
use Rattle.pe_shapes.proofs.ContextLemmas.{bounds-empty}
use Rattle.pe_shapes.proofs.ShapingLemmas.{accepted, walk-stop, words-exact, entries-stop, words-stop, limits-kept}
use Rattle.pe_shapes.proofs.Standings.{AreFit-none}
use Rattle.pe_shapes.proofs.TableMade.{whole, table-made, closed-table}
use Rattle.pe_shapes.proofs.shaping.shapes_of.Goals as goal

pub returns-in_err-walk-clause-shaping : goal.returns-in_err-walk-clause-shaping
returns-in_err-walk-clause-shaping c =
    let q = err_from_is_err_and c.from_residual-in_err-walk.result c.from_residual-in_err-walk.ensures.1 in
    let p = reads c.args.p.now in
    let d = plain_derivation c.args.d.now in
    let a = accepted (conclusion_of p d) c.requires.accepted in
    rw (q.1, q.2)
    (walk-stop c.in_err-walk.field-0.0 p d c.new-found.result c.new-found.ensures
    (c.in_err-walk.ensures.walked [] a.0 (subst (λ bs. AreFit c.new-found.result.numbers bs []) (sym (bounds-empty _ refl)) (AreFit-none c.new-found.result.numbers)) a.1))

pub returns-then-pair_count-gt-MOST_PAIRS-clause-shaping : goal.returns-then-pair_count-gt-MOST_PAIRS-clause-shaping
returns-then-pair_count-gt-MOST_PAIRS-clause-shaping c =
    let p = reads c.args.p.now in
    let d = plain_derivation c.args.d.now in
    let a = accepted (conclusion_of p d) c.requires.accepted in
    let w = whole p d c.new-found.result c.walk.new.found c.new-found.ensures c.in_ok-walk.ensures.stays.sound
    (c.in_ok-walk.ensures.walked [] a.0 (subst (λ bs. AreFit c.new-found.result.numbers bs []) (sym (bounds-empty _ refl)) (AreFit-none c.new-found.result.numbers)) a.1).1 in
    entries-stop p d c.walk.new.found w (omega (arith, c.pair_count.ensures, c.if-pair_count-gt-MOST_PAIRS.true))

pub returns-then-words-gt-MOST_WORDS-clause-shaping : goal.returns-then-words-gt-MOST_WORDS-clause-shaping
returns-then-words-gt-MOST_WORDS-clause-shaping c =
    let p = reads c.args.p.now in
    let d = plain_derivation c.args.d.now in
    let f = c.walk.new.found in
    let a = accepted (conclusion_of p d) c.requires.accepted in
    let w = whole p d c.new-found.result f c.new-found.ensures c.in_ok-walk.ensures.stays.sound
    (c.in_ok-walk.ensures.walked [] a.0 (subst (λ bs. AreFit c.new-found.result.numbers bs []) (sym (bounds-empty _ refl)) (AreFit-none c.new-found.result.numbers)) a.1).1 in
    let words : c.shape_count.result * (4 + c.from.result) ≡ table_words p (length f.used.keys) =
    words-exact p (length f.used.keys) _ c.requires.nodes
    (ap (λ n. n * (4 + c.from.result)) c.shape_count.ensures ∙ ap (λ n. length f.used.keys * (4 + n)) (c.from.ensures ∙ c.thunks_of.ensures)) in
    words-stop p d f (c.shape_count.result * (4 + c.from.result)) w (omega (arith, c.pair_count.ensures, c.if-pair_count-gt-MOST_PAIRS.false)) words c.if-words-gt-MOST_WORDS.true

pub returns-clause-shaping : goal.returns-clause-shaping
returns-clause-shaping c =
    let p = reads c.args.p.now in
    let d = plain_derivation c.args.d.now in
    let f = c.walk.new.found in
    let t = c.in_ok-table.table in
    let a = accepted (conclusion_of p d) c.requires.accepted in
    let w = whole p d c.new-found.result f c.new-found.ensures c.in_ok-walk.ensures.stays.sound
    (c.in_ok-walk.ensures.walked [] a.0 (subst (λ bs. AreFit c.new-found.result.numbers bs []) (sym (bounds-empty _ refl)) (AreFit-none c.new-found.result.numbers)) a.1).1 in
    let words : c.shape_count.result * (4 + c.from.result) ≡ table_words p (length f.used.keys) =
    words-exact p (length f.used.keys) _ c.requires.nodes
    (ap (λ n. n * (4 + c.from.result)) c.shape_count.ensures ∙ ap (λ n. length f.used.keys * (4 + n)) (c.from.ensures ∙ c.thunks_of.ensures)) in
    let few : length f.pairs.keys ≤ 65536 = omega (arith, c.pair_count.ensures, c.if-pair_count-gt-MOST_PAIRS.false) in (
      table-made p d f t w few c.in_ok-table.ensures,
      limits-kept p d f (c.shape_count.result * (4 + c.from.result)) t w few words c.if-words-gt-MOST_WORDS.false c.in_ok-table.ensures,
    )

pub returns-clause-closed : goal.returns-clause-closed
returns-clause-closed c =
    let p = reads c.args.p.now in
    let d = plain_derivation c.args.d.now in
    let f = c.walk.new.found in
    let a = accepted (conclusion_of p d) c.requires.accepted in
    let w = whole p d c.new-found.result f c.new-found.ensures c.in_ok-walk.ensures.stays.sound
    (c.in_ok-walk.ensures.walked [] a.0 (subst (λ bs. AreFit c.new-found.result.numbers bs []) (sym (bounds-empty _ refl)) (AreFit-none c.new-found.result.numbers)) a.1).1 in
    closed-table p (shape_table p d) c.in_ok-table.table
    (table-made p d f c.in_ok-table.table w (omega (arith, c.pair_count.ensures, c.if-pair_count-gt-MOST_PAIRS.false)) c.in_ok-table.ensures)
    (tables-closed p d c.requires.accepted)

pub returns-clause-ordered : goal.returns-clause-ordered
returns-clause-ordered c = c.in_ok-table.ensures.ordered
