use Rattle.std.proofs.Common.{List, sym, subst}
use Rattle.fy_base.specs.Outside.{Bytes}
use Rattle.fy_syntax.specs.Reading.{tree_of}
use Rattle.fy_grammar.specs.Program.{IsEnded}
use Rattle.fy_grammar.proofs.Lexed.{lexed_ended}
use Rattle.fy_expand.specs.Judged.{HasTokensFrom}
use Rattle.fy_front.specs.Checked.{lex_refusal, parse_refusal, failure_of, IfRefused, IsUnjudged}
use Rattle.fy_front.specs.declared.error.FrontError.TheVariants.{OutOfMemory}
use Rattle.fy_front.proofs.Checking.{few_first, handed, has_tokens, not_lexed, not_meant, not_parsed, unjudged_first}
use Rattle.fy_tool.proofs.judge.binders_of.Goals as goal

pub returns-in_err-names-clause-refused : goal.returns-in_err-names-clause-refused
returns-in_err-names-clause-refused c =
    handed c.from_residual.result OutOfMemory (IfRefused (IsUnjudged c.args.text.now)) c.from_residual.ensures.1 tt

pub lex-requires-clause-names : goal.lex-requires-clause-names
lex-requires-clause-names c = few_first _ c.in_ok-names.ensures

pub returns-in_err-tokens-clause-refused : goal.returns-in_err-tokens-clause-refused
returns-in_err-tokens-clause-refused c =
    let e = c.in_err-tokens.field-0.0 in
    handed c.from_residual-in_err-tokens.result (failure_of (lex_refusal e)) (IfRefused (IsUnjudged c.args.text.now)) c.from_residual-in_err-tokens.ensures.1
    (unjudged_first _ c.args.text.now _ c.in_ok-names.ensures (not_lexed _ c.args.text.now e c.requires c.in_err-tokens.ensures.err))

pub parse-requires : goal.parse-requires
parse-requires c = subst IsEnded (sym c.as_slice.ensures.value) (lexed_ended _ _ c.in_ok-tokens.tokens.items _ c.in_ok-tokens.ensures.ok)

pub returns-in_err-tree-clause-refused : goal.returns-in_err-tree-clause-refused
returns-in_err-tree-clause-refused c =
    let e = c.in_err-tree.field-0.0 in
    handed c.from_residual-in_err-tree.result (failure_of (parse_refusal e)) (IfRefused (IsUnjudged c.args.text.now)) c.from_residual-in_err-tree.ensures.1
    (unjudged_first _ c.args.text.now _ c.in_ok-names.ensures
    (not_meant _ c.args.text.now c.as_slice.result.now _
    (rw c.as_slice.ensures.value (has_tokens _ _ c.args.text.now c.in_ok-tokens.tokens.items c.requires c.in_ok-tokens.ensures.ok c.in_ok-tokens.ensures.within))
    (not_parsed c.as_slice.result.now e c.in_err-tree.ensures.err)))

pub returns-in_err-binders-clause-refused : goal.returns-in_err-binders-clause-refused
returns-in_err-binders-clause-refused c =
    handed c.from_residual-in_err-binders.result OutOfMemory (IfRefused (IsUnjudged c.args.text.now)) c.from_residual-in_err-binders.ensures.1 tt

pub returns-clause-binders : goal.returns-clause-binders
returns-clause-binders c = record {
  tokens = c.as_slice.result.now;
  has = subst (λ (names : List Bytes). HasTokensFrom names c.args.text.now c.as_slice.result.now) c.in_ok-names.ensures
      (rw c.as_slice.ensures.value (has_tokens _ _ c.args.text.now c.in_ok-tokens.tokens.items c.requires c.in_ok-tokens.ensures.ok c.in_ok-tokens.ensures.within));
  tree = tree_of c.in_ok-tree.tree;
  allowed = record { spelled = c.in_ok-tree.ensures.ok.spelled; nests = c.in_ok-tree.ensures.ok.within };
  are = c.in_ok-binders.ensures;
}
