use denote.Enum.Bare.{same_true, true_same}
use Rattle.std.proofs.Common.{rules, ◌≡◌, ap, sym, ◌∙◌, arith}
use Rattle.std.proofs.lemmas.List.{length-map}
use Rattle.fy_types.specs.contracts.types.Atom.{the_type}
use Rattle.fy_types.specs.Paths.{end}
use Rattle.fy_types.specs.Reading.{plain_elem, plain_path}
use Rattle.fy_types.proofs.Steps.{drop_end}
use Rattle.fy_types.proofs.ReadLemmas.{plain_path-at}
use Rattle.fy_types.proofs.OnceLemmas.{paths_from-length, fronted-same_length}
use Rattle.fy_forms.proofs.same.+same.Goals as goal

pub are_same_paths-returns-then-ps-qs : goal.are_same_paths-returns-then-ps-qs
are_same_paths-returns-then-ps-qs t c = (
  λ r. cc,
  λ same. absurd (c.if-ps-qs.true (sym (length-map c.as_slice-ps.result.now plain_path)
      ∙ (paths_from-length _ _ (rw (c.as_slice-ps.ensures.reading, c.as_slice-qs.ensures.reading) at same)
      ∙ length-map c.as_slice-qs.result.now plain_path))),
)

pub is_same_path-returns-then-xs-ys : goal.is_same_path-returns-then-xs-ys
is_same_path-returns-then-xs-ys t c = (
  λ r. cc,
  λ same. absurd (c.if-xs-ys.true (sym (length-map c.as_slice-xs.result.now plain_elem)
      ∙ (fronted-same_length _ _ _ _ (rw (plain_path-at c.args.p.now, plain_path-at c.args.q.now, c.as_slice-xs.ensures.reading, c.as_slice-ys.ensures.reading) at same)
      ∙ length-map c.as_slice-ys.result.now plain_elem))),
)

pub is_same_path-returns : goal.is_same_path-returns
is_same_path-returns t c =
    let xs = drop_end plain_elem c.as_slice-xs.result.now c.loop-i.i c.loop-i-test.false in
    let ys = drop_end plain_elem c.as_slice-ys.result.now c.loop-i.i (omega arith) in
    let now = rw (xs, ys) at c.loop-i.invariant in (
      λ r. now.0 (ap end (same_true the_type (search rules) c.args.p.now.end c.args.q.now.end (sym c.eq.ensures ∙ r))),
      λ same. let ends : end c.args.p.now.end ≡ end c.args.q.now.end = now.1 same in
          c.eq.ensures ∙ true_same the_type c.args.p.now.end c.args.q.now.end (cc),
    )
