use Rattle.std.proofs.Common.{◌++◌, codes}
use Rattle.std.proofs.lemmas.Result.{on_ok_weaker}
use Rattle.fy_types.specs.Reading.{plain_path, plain_paths}
use Rattle.fy_show.specs.Reading.{known_in}
use Rattle.fy_causes.specs.Readings.{explained_read}
use Rattle.fy_why.specs.Sentences.{part_text, type_at}
use Rattle.fy_why.specs.Types.{first_alike, mismatch_of, mismatch_text, path_text, paths_text}
use Rattle.fy_why.proofs.LineLemmas.{two-put}
use Rattle.fy_why.proofs.sentences.put_missed.Goals as goal

pub returns : goal.returns
returns c =
    let T = c.args.text.now.items in
    let k = known_in c.args.view.now in
    let E = explained_read c.args.e.now in
    let x = plain_path c.args.missed.now.path in
    let P = part_text k E 0 in
    let D = paths_text k.names (plain_paths c.args.missed.now.domain.value) in
    let Y = path_text k.names x in
    let M = mismatch_text k.names (mismatch_of (first_alike (type_at E 1) x) x) in
    on_ok_weaker c.put-3.result
    (λ e. two-put T (((((P ++ (codes " takes ")) ++ D) ++ (codes ": the argument has no ")) ++ Y) ++ M) (codes ".") c.put_argument.new.text.items c.put-3.new.text.items (two-put T ((((P ++ (codes " takes ")) ++ D) ++ (codes ": the argument has no ")) ++ Y) M c.put_path.new.text.items c.put_argument.new.text.items (two-put T (((P ++ (codes " takes ")) ++ D) ++ (codes ": the argument has no ")) Y c.put-2.new.text.items c.put_path.new.text.items (two-put T ((P ++ (codes " takes ")) ++ D) (codes ": the argument has no ") c.put_paths.new.text.items c.put-2.new.text.items (two-put T (P ++ (codes " takes ")) D c.put.new.text.items c.put_paths.new.text.items (two-put T P (codes " takes ") c.put_part_phrase.new.text.items c.put.new.text.items (c.in_ok-put_part_phrase.ensures) c.in_ok-put.ensures) (rw c.deref.ensures at c.in_ok-put_paths.ensures)) c.in_ok-put-2.ensures) c.in_ok-put_path.ensures) c.in_ok-put_argument.ensures) e)
    c.put-3.ensures
