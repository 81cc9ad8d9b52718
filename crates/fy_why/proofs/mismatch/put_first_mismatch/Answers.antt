use Rattle.std.proofs.Common.{◌≡◌, ◌≤◌, ◌+◌, ◌++◌, None, length, min, sym, ap, ◌∙◌, arith}
use Rattle.std.proofs.lemmas.List.{append-nil}
use Rattle.fy_types.specs.Reading.{plain_path}
use Rattle.fy_why.specs.Types.{mismatch, mismatch_text}
use Rattle.fy_why.proofs.MismatchLemmas.{mismatch-end}
use Rattle.fy_why.proofs.mismatch.put_first_mismatch.Goals as goal

pub returns : goal.returns
returns c =
    let names = c.args.view.now.known.now.names.now in
    let T = c.args.text.now.items in
    let xs = c.as_slice-xs.result.now in
    let ys = c.as_slice-ys.result.now in
    let past : min (length xs) (length ys) ≤ c.loop-i.i = omega (arith, c.min-i-end.ensures, c.loop-i-test.false) in
    let none : mismatch 1 (plain_path c.args.path.now) (plain_path c.args.wanted.now) ≡ None =
    sym c.loop-i.invariant.same ∙ mismatch-end (c.loop-i.number + 1) xs ys c.loop-i.i c.args.path.now.end c.args.wanted.now.end past in
    c.loop-i.invariant.unput ∙ (sym (append-nil T) ∙ ap (λ m. T ++ mismatch_text names m) (sym none))
