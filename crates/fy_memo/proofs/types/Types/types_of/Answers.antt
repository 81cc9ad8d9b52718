use Rattle.std.proofs.Common.{◌++◌, [], ◌∷◌, length, map, take, sym, ap, ◌∙◌, subst, arith}
use Rattle.std.proofs.lemmas.List.{length-append, map-append, take_more, take_all}
use Rattle.fy_types.specs.Limits.{all_nesting}
use Rattle.fy_types.specs.Nested.{types_nesting}
use Rattle.fy_types.specs.Paths.{and_path, no_paths, append, paths, all_paths}
use Rattle.fy_types.specs.Reading.{plain_type, types_in, types_from, plain_path, paths_from}
use Rattle.fy_types.proofs.Laws.{append-none}
use Rattle.fy_types.proofs.ReadLemmas.{plain_types-at}
use Rattle.fy_types.proofs.Making.{all_paths-append, made-push}
use Rattle.fy_types.proofs.NestLemmas.{types-more, paths-more}
use Rattle.fy_types.specs.Fields.{AreSome, fields_in, HaveFullMeets, fields_in_all, fields_in_form}
use Rattle.fy_types.proofs.FieldLemmas.{full-more, fields-more, form-more, some-types}
use Rattle.fy_memo.proofs.types.Types.types_of.Goals as goal

pub loop-path-preserved : goal.loop-path-preserved
loop-path-preserved c =
    let old = types_in c.loop-path.all in
    let item = c.in_ok-ty_of_path.field-0 in
    record {
      made =
          ap (λ ys. all_paths (types_from (map plain_type ys))) c.in_ok-push.ensures.ok
          ∙ (ap (λ ys. all_paths (types_from ys)) (map-append plain_type old (item ∷ []))
          ∙ (all_paths-append (map plain_type old) (plain_type item ∷ [])
          ∙ (ap (append (all_paths (types_from (map plain_type old))))
          (append-none (paths (plain_type item)) ∙ c.in_ok-ty_of_path.ensures.made)
          ∙ (ap (λ X. append X (and_path (plain_path c.path-item.result) no_paths)) c.loop-path.invariant.made
          ∙ (sym (made-push (take c.loop-path.path-index c.args.list.now) c.path-item.result)
          ∙ ap (λ ys. paths_from (map plain_path ys))
          (ap (λ x. take c.loop-path.path-index c.args.list.now ++ (x ∷ [])) c.path-item.is
          ∙ sym (take_more c.args.list.now c.loop-path.path-index c.path-item.result c.loop-path-test.true)))))));
      nesting = omega (
        arith,
        types-more old (types_in c.push.new.self) item c.in_ok-push.ensures.ok,
        paths-more c.args.list.now c.loop-path.path-index c.path-item.result c.loop-path-test.true c.path-item.is,
        c.in_ok-ty_of_path.ensures.nesting,
        c.loop-path.invariant.nesting,
      );
      full = full-more old (types_in c.push.new.self) item c.in_ok-push.ensures.ok c.loop-path.invariant.full c.in_ok-ty_of_path.ensures.full;
      count = omega (arith, ap length c.in_ok-push.ensures.ok, length-append old (item ∷ []), c.loop-path.invariant.count);
      fields =
          fields-more old (types_in c.push.new.self) item c.in_ok-push.ensures.ok
          ∙ (ap (λ l. l ++ fields_in (plain_type item)) c.loop-path.invariant.fields
          ∙ (ap (λ l. fields_in_form (paths_from (map plain_path (take c.loop-path.path-index c.args.list.now))) ++ l) c.in_ok-ty_of_path.ensures.fields
          ∙ sym (form-more c.args.list.now c.loop-path.path-index c.path-item.result c.loop-path-test.true c.path-item.is)));
    }

pub returns-clause-made : goal.returns-clause-made
returns-clause-made c =
    ap all_paths (plain_types-at c.loop-path.all)
    ∙ (c.loop-path.invariant.made
    ∙ ap (λ ys. paths_from (map plain_path ys)) (take_all c.loop-path.path-index c.args.list.now c.loop-path-test.false))

pub returns-clause-nesting : goal.returns-clause-nesting
returns-clause-nesting c = omega (
  arith,
  ap types_nesting (plain_types-at c.loop-path.all),
  c.loop-path.invariant.nesting,
  ap (λ ys. all_nesting (paths_from (map plain_path ys))) (take_all c.loop-path.path-index c.args.list.now c.loop-path-test.false),
)

pub returns-clause-full : goal.returns-clause-full
returns-clause-full c = subst HaveFullMeets (sym (plain_types-at c.loop-path.all)) c.loop-path.invariant.full

pub returns-clause-some : goal.returns-clause-some
returns-clause-some c = λ many.
    subst AreSome (sym (plain_types-at c.loop-path.all))
    (some-types (types_in c.loop-path.all) (omega (arith, c.loop-path.invariant.count, c.loop-path-test.false)))

pub returns-clause-fields : goal.returns-clause-fields
returns-clause-fields c =
    ap fields_in_all (plain_types-at c.loop-path.all)
    ∙ (c.loop-path.invariant.fields
    ∙ ap (λ ys. fields_in_form (paths_from (map plain_path ys))) (take_all c.loop-path.path-index c.args.list.now c.loop-path-test.false))
