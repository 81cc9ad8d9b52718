use Rattle.std.proofs.Common.{◌+◌, ◌≤◌, length, refl, sym, subst}
use Rattle.fy_lexer.specs.Tokens.{HasAdded}
use Rattle.fy_lexer.proofs.NamesLemmas.{HasAdded-with_name, length-with_name}
use Rattle.fy_lexer.proofs.WordLemmas.{name-run, takes-word, takes-ident}
use Rattle.fy_lexer.proofs.reader.Reader.name.Goals as goal

pub returns-in-Some-clause-ok : goal.returns-in-Some-clause-ok
returns-in-Some-clause-ok c =
    takes-word c.args.names.now c.args.names.now c.args.self.now c.run-text.new.self c.run-text.result.now c.in-Some.keyword
    (name-run c.args.self.now c.run-text.new.self c.run-text.result.now c.requires.next c.run-text.ensures.moved c.run-text.ensures.passing c.run-text.ensures.stopped)
    c.run-text.ensures.moved (sym c.in-Some.ensures) refl

pub returns-in_ok-number-in-None-clause-ok : goal.returns-in_ok-number-in-None-clause-ok
returns-in_ok-number-in-None-clause-ok c =
    takes-ident c.args.names.now c.number.new.self c.args.self.now c.run-text.new.self c.run-text.result.now c.in_ok-number-in-None.field-0
    (name-run c.args.self.now c.run-text.new.self c.run-text.result.now c.requires.next c.run-text.ensures.moved c.run-text.ensures.passing c.run-text.ensures.stopped)
    c.run-text.ensures.moved (sym c.in-None.ensures) c.in_ok-number-in-None.ensures.number c.in_ok-number-in-None.ensures.names

pub returns-in_ok-number-in-None-clause-names : goal.returns-in_ok-number-in-None-clause-names
returns-in_ok-number-in-None-clause-names c =
    subst (HasAdded c.args.names.now) (sym c.in_ok-number-in-None.ensures.names) (HasAdded-with_name c.args.names.now c.run-text.result.now)

pub returns-in_ok-number-in-None-clause-few : goal.returns-in_ok-number-in-None-clause-few
returns-in_ok-number-in-None-clause-few c =
    subst (λ l. length l ≤ length c.args.names.now + 1) (sym c.in_ok-number-in-None.ensures.names) (length-with_name c.args.names.now c.run-text.result.now)
