use Rattle.std.proofs.Common.{ℕ, sym, subst}
use Rattle.std.specs.Prelude.{IfOk}
use Rattle.std.specs.declared.result.Result.{Result}
use Rattle.fy_base.specs.declared.error.OutOfMemory.{OutOfMemory}
use Rattle.fy_phrase.specs.Reads.{reads}
use Rattle.fy_phrase.specs.Copy.{CopyState, accept_meets}
use Rattle.fy_copy.specs.Shown.{context_of}
use Rattle.fy_copy.specs.Moves.{Binds}
use Rattle.fy_copy.specs.declared.progress.Body.{Body}
use Rattle.fy_copy.proofs.Forms.{accept_stores, accept_sticks}
use Rattle.fy_copy.proofs.demand.accept_in.Goals as goal
use Rattle.fy_copy.proofs.demand.accept_in.Goals.{in-Store+in-Ok, in-Store+in-Err, in_default}

pub returns-clause-ok : goal.returns-clause-ok
returns-clause-ok c =
    let P : Result Body OutOfMemory → Type 0 = λ r. IfOk r (λ made. (d : ℕ) (s : CopyState) → Binds made d (accept_meets d (reads c.args.body.now) c.args.here (context_of c.args.frame.context) s) s) in
    elim c.match-context.branch [
      | in-Store+in-Ok w ↦ subst P (sym w.result-is) (λ d s. accept_stores w.in-Ok.made d (reads c.args.body.now) c.args.here c.args.frame.context w.in-Store.v s w.in-Store.is (w.in-Ok.ensures d s))
      | in-Store+in-Err w ↦ subst P (sym w.result-is) tt
      | in_default w ↦ subst P (sym w.result-is) (λ d s. accept_sticks d (reads c.args.body.now) c.args.here c.args.frame.context s w.in_default.not-Store)
    ]
