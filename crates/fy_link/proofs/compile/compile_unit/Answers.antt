use Rattle.std.proofs.Common.{◌∙◌, ap, map}
use Rattle.fy_lexer.proofs.NamesLemmas.{HasAdded-none}
use Rattle.fy_derive.specs.Reading.{plain_derivation}
use Rattle.fy_front.specs.Checked.{find_refusal, failure_of, IfRefused}
use Rattle.fy_front.specs.declared.error.FrontError.TheVariants.{OutOfMemory}
use Rattle.fy_front.proofs.Checking.{handed}
use Rattle.fy_link.specs.Read.{plain_named}
use Rattle.fy_link.specs.Units.{context_of, IsUnitFault}
use Rattle.fy_link.proofs.Made.{Stands, stands-concludes, found-limits, found-within, found-printable, unit-made, said-fault, find-fault}
use Rattle.fy_link.proofs.NamedSources.{tokens-names}
use Rattle.fy_link.proofs.ReadBack.{read-back}
use Rattle.fy_link.proofs.compile.compile_unit.Goals as goal

pub returns-clause-unit : goal.returns-clause-unit
returns-clause-unit c =
    let said = c.in_ok-said.said in
    let context = c.in_ok-context.context in
    let d = plain_derivation c.in_ok-derivation.derivation in
    let p = c.phrase.result.now in
    let after = c.said_in.new.names in
    let stands : Stands said context p = record { context_is = c.in_ok-context.ensures ∙ ap (λ xs. context_of (map plain_named xs)) c.deref.ensures.value; phrase_is = c.phrase.ensures } in
    unit-made c.args.names.now after after c.args.source.now _ c.requires.text c.in_ok-source.ensures c.in_ok-said.ensures.ok c.in_ok-said.ensures.equals_at (HasAdded-none after)
    (record {
      limits = found-limits c.args.names.now after c.args.source.now said context p d c.in_ok-said.ensures.ok stands c.in_ok-derivation.ensures.limits;
      concluded = stands-concludes said context p d stands c.in_ok-derivation.ensures.found.1;
    })

pub returns-clause-within : goal.returns-clause-within
returns-clause-within c =
    let said = c.in_ok-said.said in
    let context = c.in_ok-context.context in
    let p = c.phrase.result.now in
    let stands : Stands said context p = record { context_is = c.in_ok-context.ensures ∙ ap (λ xs. context_of (map plain_named xs)) c.deref.ensures.value; phrase_is = c.phrase.ensures } in
    found-within said context p stands c.in_ok-derivation.ensures.found.0

pub returns-clause-printable : goal.returns-clause-printable
returns-clause-printable c = λ valid identifiers.
    let said = c.in_ok-said.said in
    let context = c.in_ok-context.context in
    let d = plain_derivation c.in_ok-derivation.derivation in
    let p = c.phrase.result.now in
    let stands : Stands said context p = record { context_is = c.in_ok-context.ensures ∙ ap (λ xs. context_of (map plain_named xs)) c.deref.ensures.value; phrase_is = c.phrase.ensures } in
    found-printable c.args.names.now c.said_in.new.names c.args.source.now said context p d c.in_ok-said.ensures.ok stands
    (tokens-names _ _ _ _ valid c.in_ok-said.ensures.ok.headed.lexed.read) identifiers c.in_ok-derivation.ensures.printable

pub returns-clause-read_back : goal.returns-clause-read_back
returns-clause-read_back c = λ valid identifiers.
    let said = c.in_ok-said.said in
    let context = c.in_ok-context.context in
    let d = plain_derivation c.in_ok-derivation.derivation in
    let p = c.phrase.result.now in
    let after = c.said_in.new.names in
    let stands : Stands said context p = record { context_is = c.in_ok-context.ensures ∙ ap (λ xs. context_of (map plain_named xs)) c.deref.ensures.value; phrase_is = c.phrase.ensures } in
    let names = tokens-names _ _ _ _ valid c.in_ok-said.ensures.ok.headed.lexed.read in
    read-back c.args.names.now after c.args.source.now _ names c.requires.text c.in_ok-source.ensures c.in_ok-said.ensures.ok c.in_ok-said.ensures.equals_at
    (record {
      limits = found-limits c.args.names.now after c.args.source.now said context p d c.in_ok-said.ensures.ok stands c.in_ok-derivation.ensures.limits;
      concluded = stands-concludes said context p d stands c.in_ok-derivation.ensures.found.1;
    })
    (found-printable c.args.names.now after c.args.source.now said context p d c.in_ok-said.ensures.ok stands names identifiers c.in_ok-derivation.ensures.printable)

pub returns-in_err-said-clause-refused : goal.returns-in_err-said-clause-refused
returns-in_err-said-clause-refused c =
    handed c.from_residual.result c.in_err-said.field-0.0 (IfRefused (IsUnitFault c.args.names.now c.args.source.now)) c.from_residual.ensures.1
    (said-fault c.args.names.now c.args.source.now c.in_err-said.field-0.0 c.in_err-said.ensures.err)

pub returns-in_err-derivation-clause-refused : goal.returns-in_err-derivation-clause-refused
returns-in_err-derivation-clause-refused c =
    let said = c.in_ok-said.said in
    let context = c.in_ok-context.context in
    let p = c.phrase.result.now in
    let e = c.in_err-derivation.field-0.0 in
    let after = c.said_in.new.names in
    let stands : Stands said context p = record { context_is = c.in_ok-context.ensures ∙ ap (λ xs. context_of (map plain_named xs)) c.deref.ensures.value; phrase_is = c.phrase.ensures } in
    handed c.from_residual-in_err-derivation.result (failure_of (find_refusal e)) (IfRefused (IsUnitFault c.args.names.now c.args.source.now)) c.from_residual-in_err-derivation.ensures.1
    (find-fault c.args.names.now after c.args.source.now said context p e c.in_ok-said.ensures.ok stands c.in_err-derivation.ensures.found)

pub returns-in_err-context-clause-refused : goal.returns-in_err-context-clause-refused
returns-in_err-context-clause-refused c =
    handed c.from_residual-in_err-context.result OutOfMemory (IfRefused (IsUnitFault c.args.names.now c.args.source.now)) c.from_residual-in_err-context.ensures.1 tt

pub returns-in_err-source-clause-refused : goal.returns-in_err-source-clause-refused
returns-in_err-source-clause-refused c =
    handed c.from_residual-in_err-source.result OutOfMemory (IfRefused (IsUnitFault c.args.names.now c.args.source.now)) c.from_residual-in_err-source.ensures.1 tt
