use Rattle.std.proofs.Common.{refl, sym, subst}
use Rattle.fy_lexer.specs.declared.token.TokenKind.TheVariants.{Number, Letter, Str, Sym}
use Rattle.fy_lexer.specs.Reading.{TakesNamed}
use Rattle.fy_lexer.proofs.StepLemmas.{TakesNamed-same, small_back}
use Rattle.fy_lexer.proofs.reader.Reader.token.Goals as goal

pub returns-then-is_digit-clause-ok : goal.returns-then-is_digit-clause-ok
returns-then-is_digit-clause-ok c =
    subst (λ n. TakesNamed c.args.names.now c.args.self.now (Number n) c.number.new.self c.args.names.now) (sym (small_back c.in_ok-number.field-0 c.in_ok-number.ensures.small))
    (TakesNamed-same c.args.names.now c.args.self.now (Number c.in_ok-number.field-0) c.number.new.self (c.in_ok-number.ensures.ok c.args.names.now) (λ piece. refl))

pub returns-in_ok-character-in-39-clause-ok : goal.returns-in_ok-character-in-39-clause-ok
returns-in_ok-character-in-39-clause-ok c =
    TakesNamed-same c.args.names.now c.args.self.now (Letter c.in_ok-character-in-39.field-0) c.character.new.self (c.in_ok-character-in-39.ensures.ok c.args.names.now) (λ piece. refl)

pub returns-in_ok-string-in-34-clause-ok : goal.returns-in_ok-string-in-34-clause-ok
returns-in_ok-string-in-34-clause-ok c =
    TakesNamed-same c.args.names.now c.args.self.now (Str c.in_ok-string-in-34.field-0) c.string.new.self (c.in_ok-string-in-34.ensures.ok c.args.names.now) (λ piece. refl)

pub returns-in_ok-symbol-in_default-clause-ok : goal.returns-in_ok-symbol-in_default-clause-ok
returns-in_ok-symbol-in_default-clause-ok c =
    TakesNamed-same c.args.names.now c.args.self.now (Sym c.in_ok-symbol-in_default.field-0) c.symbol.new.self (c.in_ok-symbol-in_default.ensures.ok c.args.names.now) (λ piece. refl)
