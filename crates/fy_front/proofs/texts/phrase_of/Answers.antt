use Rattle.std.proofs.Common.{sym, subst}
use Rattle.fy_grammar.specs.Program.{IsEnded}
use Rattle.fy_grammar.proofs.Lexed.{lexed_ended}
use Rattle.fy_phrase.specs.Reads.{reads}
use Rattle.fy_front.specs.Checked.{lex_refusal, failure_of, IfRefused, IsUnjudgedFrom}
use Rattle.fy_front.proofs.Checking.{handed, has_tokens, not_lexed, not_meant, judged_so}
use Rattle.fy_front.proofs.texts.phrase_of.Goals as goal

pub returns-in_err-tokens-clause-refused : goal.returns-in_err-tokens-clause-refused
returns-in_err-tokens-clause-refused c =
    let e = c.in_err-tokens.field-0.0 in
    handed c.from_residual.result (failure_of (lex_refusal e)) (IfRefused (IsUnjudgedFrom c.args.names.now c.args.text.now)) c.from_residual.ensures.1
    (not_lexed c.args.names.now c.args.text.now e c.requires.text c.in_err-tokens.ensures.err)

pub phrase_of_tokens-requires : goal.phrase_of_tokens-requires
phrase_of_tokens-requires c = subst IsEnded (sym c.as_slice.ensures.value) (lexed_ended _ _ c.in_ok-tokens.tokens.items _ c.in_ok-tokens.ensures.ok)

pub returns-in_err-phrase-clause-refused : goal.returns-in_err-phrase-clause-refused
returns-in_err-phrase-clause-refused c =
    let e = c.in_err-phrase.field-0.0 in
    handed c.from_residual-in_err-phrase.result e (IfRefused (IsUnjudgedFrom c.args.names.now c.args.text.now)) c.from_residual-in_err-phrase.ensures.1
    (not_meant c.args.names.now c.args.text.now c.as_slice.result.now e
    (rw c.as_slice.ensures.value (has_tokens _ _ c.args.text.now c.in_ok-tokens.tokens.items c.requires.text c.in_ok-tokens.ensures.ok c.in_ok-tokens.ensures.within))
    c.in_err-phrase.ensures.refused)

pub returns-clause-phrase : goal.returns-clause-phrase
returns-clause-phrase c = record {
  is_judged = judged_so c.args.names.now c.args.text.now c.as_slice.result.now (reads c.in_ok-phrase.phrase)
      (rw c.as_slice.ensures.value (has_tokens _ _ c.args.text.now c.in_ok-tokens.tokens.items c.requires.text c.in_ok-tokens.ensures.ok c.in_ok-tokens.ensures.within)) c.in_ok-phrase.ensures.means;
  shallow = c.in_ok-phrase.ensures.shallow;
  named = record { tokens = c.in_ok-tokens.tokens.items; read = c.in_ok-tokens.ensures.ok };
}
