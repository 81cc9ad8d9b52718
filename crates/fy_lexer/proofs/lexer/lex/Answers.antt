use Rattle.std.proofs.Common.{◌≡◌, length, refl, sym, ap, subst, ◌∙◌, arith, [], ◌∷◌, ◌++◌}
use Rattle.std.proofs.lemmas.Result.{err_from_is_err_and}
use Rattle.fy_lexer.specs.declared.error.LexError.TheVariants.{OutOfMemory}
use Rattle.fy_lexer.specs.declared.token.TokenKind.TheVariants.{End}
use Rattle.fy_lexer.specs.Reading.{reading_of}
use Rattle.fy_lexer.specs.Tokens.{AreWithin, IsFaultOf, IsWithin, Steps, none, start_of}
use Rattle.fy_lexer.proofs.ReadingLemmas.{IfErr-handed}
use Rattle.fy_lexer.proofs.NamesLemmas.{HasAdded-none, HasAdded-then}
use Rattle.fy_lexer.proofs.StepLemmas.{Steps-push, AreWithin-end, none_left}
use Rattle.fy_lexer.proofs.lexer.lex.Goals as goal

pub loop-byte-init : goal.loop-byte-init
loop-byte-init c =
    let start = start_of c.args.names.now c.args.text.now in
    let e = c.new-tokens.ensures.items in (
      subst (λ r. Steps start (reading_of r c.args.names.now c.new-tokens.result.items)) (sym c.new-reader.ensures)
          (subst (λ tokens. Steps start (reading_of start.spot c.args.names.now tokens)) (sym e) (none start)),
      subst IsWithin (sym e) (record { few = omega arith; fit = tt }),
      HasAdded-none c.args.names.now,
      (let r : length c.new-reader.result.rest ≡ length c.args.text.now = ap (λ s. length s.rest) c.new-reader.ensures in omega (arith, r)),
    )

pub loop-byte-preserved : goal.loop-byte-preserved
loop-byte-preserved c =
    let i = c.loop-byte.invariant in
    let few = c.in_ok-step.ensures.few in
    let shorter = c.in_ok-step.ensures.shorter in
    (Steps-push _ _ _ i.0 c.in_ok-step.ensures.ok, c.in_ok-step.ensures.within, HasAdded-then _ _ _ i.2 c.in_ok-step.ensures.names, omega (arith, few, shorter, i.3))

pub returns-clause-ok : goal.returns-clause-ok
returns-clause-ok c =
    record {
      last = reading_of c.loop-byte.reader c.loop-byte.names c.loop-byte.tokens.items;
      steps = c.loop-byte.invariant.0;
      ended = none_left c.loop-byte.reader.rest (sym c.in_default.ensures);
      named = refl;
      read = c.in_ok-push.ensures.items ∙ ap (λ p. c.loop-byte.tokens.items ++ record { kind = End; place = p } ∷ []) c.place-place.ensures;
    }

pub returns-clause-within : goal.returns-clause-within
returns-clause-within c = subst AreWithin (sym c.in_ok-push.ensures.items) (AreWithin-end c.loop-byte.tokens.items _ c.loop-byte.invariant.1 refl)

pub returns-in_err-step-clause-err : goal.returns-in_err-step-clause-err
returns-in_err-step-clause-err c =
    let p = err_from_is_err_and c.from_residual.result c.from_residual.ensures.1 in
    let l = c.loop-byte in
    IfErr-handed _ c.from_residual.result p.0 _ p.1 p.2
    (record { here = reading_of l.reader l.names l.tokens.items; steps = l.invariant.0; within = l.invariant.1; fault = c.in_err-step.ensures.err })

pub returns-in_err-push-clause-err : goal.returns-in_err-push-clause-err
returns-in_err-push-clause-err c =
    let p = err_from_is_err_and c.from_residual-in_err-push.result c.from_residual-in_err-push.ensures.1 in
    let l = c.loop-byte in
    IfErr-handed (IsFaultOf c.args.names.now c.args.text.now) c.from_residual-in_err-push.result p.0 OutOfMemory p.1 p.2
    (record { here = reading_of l.reader l.names l.tokens.items; steps = l.invariant.0; within = l.invariant.1; fault = tt })
