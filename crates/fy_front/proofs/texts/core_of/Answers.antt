use Rattle.fy_front.specs.Checked.{IfRefused, IsUnjudged}
use Rattle.fy_front.specs.declared.error.FrontError.TheVariants.{OutOfMemory}
use Rattle.fy_front.proofs.Checking.{handed, few_first, few_names, phrase_first, unjudged_first}
use Rattle.fy_front.proofs.texts.core_of.Goals as goal

pub returns-in_err-names-clause-refused : goal.returns-in_err-names-clause-refused
returns-in_err-names-clause-refused c =
    handed c.from_residual.result OutOfMemory (IfRefused (IsUnjudged c.args.text.now)) c.from_residual.ensures.1 tt

pub phrase_of-requires-clause-names : goal.phrase_of-requires-clause-names
phrase_of-requires-clause-names c = few_first _ c.in_ok-names.ensures

pub returns-in_err-phrase-clause-refused : goal.returns-in_err-phrase-clause-refused
returns-in_err-phrase-clause-refused c =
    let e = c.in_err-phrase.field-0.0 in
    handed c.from_residual-in_err-phrase.result e (IfRefused (IsUnjudged c.args.text.now)) c.from_residual-in_err-phrase.ensures.1
    (unjudged_first _ c.args.text.now e c.in_ok-names.ensures c.in_err-phrase.ensures.refused)

pub returns-clause-core : goal.returns-clause-core
returns-clause-core c =
    let is = phrase_first _ _ c.args.text.now c.in_ok-phrase.phrase c.in_ok-names.ensures c.in_ok-phrase.ensures.phrase in
    record { is_judged = is.is_judged; shallow = is.shallow; named = is.named; few_names = few_names _ _ c.args.text.now c.in_ok-names.ensures c.requires c.in_ok-phrase.ensures.few }
