use Rattle.std.proofs.Common.{Bool, sym, subst, arith, eq-eqb, ne_eqb}
use Rattle.std.specs.Prelude.{nat_eq, if◌then◌else◌}
use Rattle.fy_phrase.specs.Copy.{CopyMove, content_of, measured, sticks}
use Rattle.fy_copy.specs.Moves.{Moved}
use Rattle.fy_copy.specs.Shown.{state_of}
use Rattle.fy_copy.proofs.StoreLemmas.{other_if}
use Rattle.fy_copy.proofs.demand.select_length.Goals as goal

pub returns-then-i-eq-LENGTH : goal.returns-then-i-eq-LENGTH
returns-then-i-eq-LENGTH c =
    let s = state_of c.args.core.now in
    let m : CopyMove = measured (content_of c.args.n s.store) c.args.here s in
    let P : Bool → Type 0 = λ b. Moved c.measure.result (if b then m else sticks) (state_of c.measure.new.core) in
    subst P (sym (eq-eqb c.args.i 0 (omega (arith, c.if-i-eq-LENGTH.true)))) c.measure.ensures

pub returns : goal.returns
returns c =
    let s = state_of c.args.core.now in
    other_if (nat_eq c.args.i 0) (measured (content_of c.args.n s.store) c.args.here s) sticks (ne_eqb c.args.i 0 (λ same. c.if-i-eq-LENGTH.false same))
