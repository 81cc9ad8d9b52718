use Rattle.fy_phrase.specs.Reads.{reads}
use Rattle.fy_syntax.specs.Reading.{tree_of}
use Rattle.fy_front.specs.Checked.{parse_refusal, expand_refusal, failure_of, IfRefused, IsMeaningless}
use Rattle.fy_front.proofs.Checking.{handed, not_parsed, not_expanded, depth_within}
use Rattle.fy_front.proofs.texts.phrase_of_tokens.Goals as goal

pub returns-in_err-tree-clause-refused : goal.returns-in_err-tree-clause-refused
returns-in_err-tree-clause-refused c =
    let e = c.in_err-tree.field-0.0 in
    handed c.from_residual.result (failure_of (parse_refusal e)) (IfRefused (IsMeaningless c.args.tokens.now)) c.from_residual.ensures.1 (not_parsed c.args.tokens.now e c.in_err-tree.ensures.err)

pub returns-in_err-phrase-clause-refused : goal.returns-in_err-phrase-clause-refused
returns-in_err-phrase-clause-refused c =
    let e = c.in_err-phrase.field-0.0 in
    handed c.from_residual-in_err-phrase.result (failure_of (expand_refusal e)) (IfRefused (IsMeaningless c.args.tokens.now)) c.from_residual-in_err-phrase.ensures.1
    (not_expanded c.args.tokens.now (tree_of c.in_ok-tree.tree) e c.in_ok-tree.ensures.ok c.in_err-phrase.ensures.err)

pub returns-clause-means : goal.returns-clause-means
returns-clause-means c = record { tree = tree_of c.in_ok-tree.tree; program = c.in_ok-tree.ensures.ok; core = c.in_ok-phrase.ensures.ok }

pub returns-clause-shallow : goal.returns-clause-shallow
returns-clause-shallow c = depth_within (reads c.in_ok-phrase.phrase) c.in_ok-phrase.ensures.depths c.in_ok-phrase.ensures.limits
