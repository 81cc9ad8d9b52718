use Rattle.std.proofs.Common.{refl, sym, subst, []}
use Rattle.std.proofs.lemmas.Result.{MatchResult-weaker, IfOk-weaker}
use Rattle.fy_lexer.proofs.ReadingLemmas.{Took, cut-here, takes-plain, misfit-plain, takes-escape, fault-escape}
use Rattle.fy_lexer.proofs.reader.Reader.element.Goals as goal

pub returns-in_default-clause-err : goal.returns-in_default-clause-err
returns-in_default-clause-err c = (cut-here c.args.quote c.args.self.now c.in_default.ensures.0, refl)

took : (c : goal.After-escape) → Took c.args.self.now 92 c.next.new.self
took c = subst (λ b. Took c.args.self.now b c.next.new.self) c.if-byte-eq92.true c.in-Some.ensures

pub returns-then-byte-eq92-clause-ok : goal.returns-then-byte-eq92-clause-ok
returns-then-byte-eq92-clause-ok c =
    IfOk-weaker c.escape.result _ _ (λ value h. takes-escape c.args.quote value c.args.self.now c.next.new.self c.escape.new.self (took c) (h c.args.quote)) c.escape.ensures.ok

pub returns-then-byte-eq92-clause-err : goal.returns-then-byte-eq92-clause-err
returns-then-byte-eq92-clause-err c =
    MatchResult-weaker c.escape.result c.escape.ensures.err (λ _ h. h) (λ e h. fault-escape c.args.quote c.args.self.now c.next.new.self c.args.start e (took c) (h c.args.quote))

pub returns-then-is_plain-clause-ok : goal.returns-then-is_plain-clause-ok
returns-then-is_plain-clause-ok c = takes-plain c.args.quote c.in-Some.byte c.args.self.now c.next.new.self c.in-Some.ensures (sym c.if-is_plain.ensures)

pub returns-else-is_plain-clause-err : goal.returns-else-is_plain-clause-err
returns-else-is_plain-clause-err c =
    ([], misfit-plain c.args.quote c.in-Some.byte c.args.self.now c.next.new.self c.in-Some.ensures (sym c.if-is_plain.ensures) c.if-byte-eq92.false, c.place-place.ensures)
