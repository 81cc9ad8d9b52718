use Rattle.std.proofs.Common.{refl, sym, subst, [], ◌∙◌}
use Rattle.std.proofs.lemmas.Result.{err_from_is_err_and}
use Rattle.fy_lexer.proofs.ReadingLemmas.{Took, cut-escape, takes-short, misfit-short, takes-code, fault-high, fault-low, IfOk-ok_or, IfErr-ok_or, IfErr-handed}
use Rattle.fy_lexer.proofs.reader.Reader.escape.Goals as goal

pub returns-in_default-clause-err : goal.returns-in_default-clause-err
returns-in_default-clause-err c quote = (cut-escape quote c.args.self.now c.in_default.ensures.0, refl)

pub returns-in_err-high-clause-err : goal.returns-in_err-high-clause-err
returns-in_err-high-clause-err c =
    let p = err_from_is_err_and c.from_residual.result c.from_residual.ensures.1 in
    IfErr-handed _ c.from_residual.result p.0 _ p.1 p.2
    (λ quote. fault-high quote c.args.self.now c.next.new.self c.args.start c.in_err-high.field-0.0 (subst (λ b. Took c.args.self.now b c.next.new.self) c.if-byte-eq120.true c.in-Some.ensures) c.in_err-high.ensures.err)

pub returns-in_err-low-clause-err : goal.returns-in_err-low-clause-err
returns-in_err-low-clause-err c =
    let p = err_from_is_err_and c.from_residual-in_err-low.result c.from_residual-in_err-low.ensures.1 in
    IfErr-handed _ c.from_residual-in_err-low.result p.0 _ p.1 p.2
    (λ quote. fault-low quote c.in_ok-high.high c.args.self.now c.next.new.self c.digit.new.self c.args.start c.in_err-low.field-0.0 (subst (λ b. Took c.args.self.now b c.next.new.self) c.if-byte-eq120.true c.in-Some.ensures) c.in_ok-high.ensures.ok c.in_err-low.ensures.err)

pub returns-then-byte-eq120-clause-ok : goal.returns-then-byte-eq120-clause-ok
returns-then-byte-eq120-clause-ok c quote =
    takes-code quote c.in_ok-high.high c.in_ok-low.low c.args.self.now c.next.new.self c.digit.new.self c.digit-then-byte-eq120.new.self
    (subst (λ b. Took c.args.self.now b c.next.new.self) c.if-byte-eq120.true c.in-Some.ensures) c.in_ok-high.ensures.ok c.in_ok-low.ensures.ok

pub returns-clause-ok : goal.returns-clause-ok
returns-clause-ok c =
    IfOk-ok_or _ c.escaped.result _ c.ok_or.result c.ok_or.ensures.value
    (λ value h quote. takes-short quote c.in-Some.byte value c.args.self.now c.next.new.self c.in-Some.ensures (sym c.escaped.ensures ∙ h))

pub returns-clause-err : goal.returns-clause-err
returns-clause-err c =
    IfErr-ok_or _ c.escaped.result _ c.ok_or.result c.ok_or.ensures.value
    (λ h quote. ([], misfit-short quote c.in-Some.byte c.args.self.now c.next.new.self c.in-Some.ensures (sym c.escaped.ensures ∙ h) c.if-byte-eq120.false, c.place-place.ensures))
