use Rattle.std.proofs.Common.{sym, subst, ◌∙◌}
use Rattle.std.proofs.lemmas.Result.{err_from_is_err_and}
use Rattle.fy_lexer.specs.Tokens.{IsWithin}
use Rattle.fy_lexer.proofs.ReadingLemmas.{Took-next, IfErr-handed}
use Rattle.fy_lexer.proofs.StepLemmas.{Step-blank, Step-token, IsWithin-push, IsFull-here, FaultAt-piece, not_full-few, Step-shorter}
use Rattle.fy_lexer.proofs.lexer.step.Goals as goal

pub returns-then-is_blank-clause-ok : goal.returns-then-is_blank-clause-ok
returns-then-is_blank-clause-ok c =
    Step-blank c.args.reader.now c.next.new.self c.args.names.now c.args.tokens.now.items c.args.byte
    (Took-next c.args.reader.now c.next.new.self c.next.result c.args.byte c.requires.next c.next.ensures) (sym c.if-is_blank.ensures)

pub returns-then-len-eq-MAX_TOKENS-clause-err : goal.returns-then-len-eq-MAX_TOKENS-clause-err
returns-then-len-eq-MAX_TOKENS-clause-err c =
    IsFull-here c.args.reader.now c.args.names.now c.args.tokens.now.items c.args.byte c.requires.next (sym c.if-is_blank.ensures) c.if-byte-eq123.false
    (sym c.args.tokens.now.ok.0 ∙ sym c.len.ensures ∙ c.if-len-eq-MAX_TOKENS.true)

pub returns-in_err-kind-clause-err : goal.returns-in_err-kind-clause-err
returns-in_err-kind-clause-err c =
    let p = err_from_is_err_and c.from_residual.result c.from_residual.ensures.1 in
    IfErr-handed _ c.from_residual.result p.0 _ p.1 p.2
    (FaultAt-piece c.args.reader.now c.args.names.now c.args.tokens.now.items c.in_err-kind.field-0.0 c.in_err-kind.ensures.err
    (not_full-few c.args.reader.now c.args.names.now c.args.tokens.now.items (λ e. c.if-len-eq-MAX_TOKENS.false (c.len.ensures ∙ c.args.tokens.now.ok.0 ∙ e))))

pub returns-clause-within : goal.returns-clause-within
returns-clause-within c =
    subst IsWithin (sym c.in_ok-push.ensures.items) (IsWithin-push c.args.tokens.now.items _ c.requires.within (λ e. c.if-len-eq-MAX_TOKENS.false (c.len.ensures ∙ c.args.tokens.now.ok.0 ∙ e)) c.in_ok-kind.ensures.fit)

pub returns-clause-shorter : goal.returns-clause-shorter
returns-clause-shorter c =
    Step-shorter _ _ (Step-token c.args.reader.now c.token.new.self c.args.names.now c.token.new.names c.args.tokens.now.items c.in_ok-kind.kind c.in_ok-kind.ensures.ok)
