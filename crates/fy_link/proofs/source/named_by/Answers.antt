use Rattle.std.proofs.Common.{refl, sym, ap, ◌∙◌, subst}
use Rattle.fy_phrase.specs.Reads.{reads}
use Rattle.fy_grammar.specs.Program.{IsEnded}
use Rattle.fy_front.specs.Checked.{IfRefused, IsMeaningless, Means}
use Rattle.fy_front.specs.declared.error.FrontError.TheVariants.{OutOfMemory}
use Rattle.fy_front.proofs.Checking.{handed}
use Rattle.fy_link.specs.Header.{type_program}
use Rattle.fy_link.specs.Read.{plain_piece}
use Rattle.fy_link.specs.Sources.{domain_of}
use Rattle.fy_link.proofs.Ends.{type_program-ended}
use Rattle.fy_link.proofs.source.named_by.Goals as goal

pub returns-in_err-tokens-clause-err : goal.returns-in_err-tokens-clause-err
returns-in_err-tokens-clause-err c =
    handed c.from_residual.result OutOfMemory (IfRefused (IsMeaningless (type_program c.args.at (plain_piece c.args.piece.now)))) c.from_residual.ensures.1 tt

pub phrase_of_tokens-requires : goal.phrase_of_tokens-requires
phrase_of_tokens-requires c =
    subst IsEnded (sym (c.deref.ensures.value ∙ c.in_ok-tokens.ensures)) (type_program-ended c.args.at (plain_piece c.args.piece.now) c.requires)

pub returns-in_err-phrase-clause-err : goal.returns-in_err-phrase-clause-err
returns-in_err-phrase-clause-err c =
    let e = c.in_err-phrase.field-0.0 in
    handed c.from_residual-in_err-phrase.result e (IfRefused (IsMeaningless (type_program c.args.at (plain_piece c.args.piece.now)))) c.from_residual-in_err-phrase.ensures.1
    (subst (λ tokens. IfRefused (IsMeaningless tokens) e) (c.deref.ensures.value ∙ c.in_ok-tokens.ensures) c.in_err-phrase.ensures.refused)

pub returns-in_err-ty-clause-err : goal.returns-in_err-ty-clause-err
returns-in_err-ty-clause-err c =
    handed c.from_residual-in_err-ty.result OutOfMemory (IfRefused (IsMeaningless (type_program c.args.at (plain_piece c.args.piece.now)))) c.from_residual-in_err-ty.ensures.1 tt

pub returns-clause-ok : goal.returns-clause-ok
returns-clause-ok c =
    record {
      name = refl;
      phrase = reads c.in_ok-phrase.phrase;
      means = subst (λ tokens. Means tokens (reads c.in_ok-phrase.phrase)) (c.deref.ensures.value ∙ c.in_ok-tokens.ensures) c.in_ok-phrase.ensures.means;
      type = c.in_ok-ty.ensures ∙ ap domain_of c.behind_definitions.ensures;
    }
