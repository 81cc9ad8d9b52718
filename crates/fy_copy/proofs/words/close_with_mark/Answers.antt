use Rattle.std.proofs.Common.{ℕ, subst}
use Rattle.std.specs.Prelude.{IfOk}
use Rattle.fy_phrase.specs.Tree.{Tree}
use Rattle.fy_phrase.specs.Reads.{reads}
use Rattle.fy_phrase.specs.Copy.{CopyState, bound}
use Rattle.fy_copy.specs.Moves.{Binds}
use Rattle.fy_copy.proofs.Forms.{reads_mark}
use Rattle.fy_copy.proofs.words.close_with_mark.Goals as goal

pub returns : goal.returns
returns c =
    let P : Tree → Type 0 = λ a. IfOk c.close.result (λ made. (d : ℕ) (s : CopyState) → Binds made d (bound d a (reads c.args.body.now) s) s) in
    subst P (reads_mark c.args.kind c.args.at) c.close.ensures
