use Rattle.std.proofs.Common.{◌≡◌, ◌++◌, false, length, map, sym, ap, ◌∙◌}
use Rattle.std.proofs.lemmas.List.{length-map}
use Rattle.std.proofs.lemmas.Result.{on_ok_weaker}
use Rattle.fy_types.specs.Reading.{paths_from, plain_path, plain_paths, plain_type}
use Rattle.fy_derive.specs.Clear.{has_none}
use Rattle.fy_short.specs.Cut.{cut}
use Rattle.fy_short.specs.ShortTypes.{short_type}
use Rattle.fy_causes.proofs.PathLemmas.{hollow_some}
use Rattle.fy_why.specs.Types.{count, first_paths, more_text, type_with}
use Rattle.fy_why.proofs.LineLemmas.{two-put}
use Rattle.fy_why.proofs.TypeLemmas.{count-each, paths-some, told-four}
use Rattle.fy_why.proofs.types.put_paths.Goals as goal

pub returns : goal.returns
returns c =
    let T = c.args.text.now.items in
    let names = c.args.view.now.known.now.names.now in
    let all = c.as_slice-all.result.now in
    let P = plain_paths c.args.paths.now in
    let read : P ≡ paths_from (map plain_path all) = c.as_slice-all.ensures.reading in
    let some : has_none P ≡ false = hollow_some c.args.paths.now (λ e. c.if-all-eq0.false (ap length c.as_slice-all.ensures.members ∙ e)) in
    let ty : plain_type c.in_ok-ty.ty ≡ type_with (first_paths 4 P) = c.in_ok-ty.ensures ∙ ap type_with (told-four all c.min.result c.min.ensures ∙ ap (first_paths 4) (sym read)) in
    let counted : length all ≡ count P = sym (ap count read ∙ (count-each (map plain_path all) ∙ length-map all plain_path)) in
    let A = cut 60 (short_type names (type_with (first_paths 4 P))) in
    on_ok_weaker c.put_more.result
    (λ e. two-put T A (more_text (count P)) c.put_cut.new.text.items c.put_more.new.text.items
    (c.in_ok-put_cut.ensures ∙ ap (λ t. T ++ cut 60 t) ((c.as_slice.ensures ∙ c.in_ok-written.ensures) ∙ ap (short_type names) ty))
    (e ∙ ap (λ n. c.put_cut.new.text.items ++ more_text n) counted)
    ∙ ap (λ t. T ++ t) (sym (paths-some names P some)))
    c.put_more.ensures
