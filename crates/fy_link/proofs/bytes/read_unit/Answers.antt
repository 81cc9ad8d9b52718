use Rattle.std.proofs.Common.{inr, ◌∙◌, ap, map, arith}
use Rattle.fy_lexer.proofs.NamesLemmas.{HasAdded-then}
use Rattle.fy_derive.specs.Reading.{plain_derivation}
use Rattle.fy_link.specs.Read.{plain_named, plain_said}
use Rattle.fy_link.specs.Units.{context_of}
use Rattle.fy_link.specs.UnitBytes.{bad_form, bad_type, IsBadFor}
use Rattle.fy_link.proofs.Made.{Stands, stands-concludes, stands-refused, unit-made}
use Rattle.fy_link.proofs.ReadUnits.{read-of, unit-read, no-source, no-text, parts-shorter}
use Rattle.fy_link.proofs.bytes.read_unit.Goals as goal

pub returns-in_default-clause-err : goal.returns-in_default-clause-err
returns-in_default-clause-err c = inr (bad_form, IsBadFor.no_form c.in_default.ensures.none)

pub returns-in-Err : goal.returns-in-Err
returns-in-Err c =
    let shorter = parts-shorter c.args.bytes.now c.in-Some.source.now c.in-Some.text.now c.in-Some.ensures.some in
    record {
      read = tt;
      unit = tt;
      err = no-source c.args.names.now c.args.bytes.now c.in-Some.source.now c.in-Some.text.now c.in-Err.error c.source_refused.result c.source_refused.ensures c.in-Some.ensures.some c.in-Err.ensures.err;
      names = c.in-Err.ensures.names;
      few = omega (arith, c.in-Err.ensures.few, shorter);
    }

pub returns-in-Err-read_derivation : goal.returns-in-Err-read_derivation
returns-in-Err-read_derivation c =
    let shorter = parts-shorter c.args.bytes.now c.in-Some.source.now c.in-Some.text.now c.in-Some.ensures.some in
    record {
      read = tt;
      unit = tt;
      err = no-text c.args.names.now c.said_in.new.names c.args.bytes.now c.in-Some.source.now c.in-Some.text.now (plain_said c.in-Ok.said) c.in-Err-read_derivation.error c.text_refused.result c.text_refused.ensures c.in-Some.ensures.some c.in-Ok.ensures.ok c.in-Err-read_derivation.ensures.err;
      names = HasAdded-then c.args.names.now c.said_in.new.names c.read_derivation.new.names c.in-Ok.ensures.names c.in-Err-read_derivation.ensures.names.added;
      few = omega (arith, c.in-Ok.ensures.few, c.in-Err-read_derivation.ensures.few, shorter);
    }

pub returns-in-Err-Wrong-clause-err : goal.returns-in-Err-Wrong-clause-err
returns-in-Err-Wrong-clause-err c =
    let said = c.in-Ok.said in
    let context = c.in_ok-context.context in
    let d = c.in-Ok-read_derivation.derivation in
    let p = c.phrase.result.now in
    let stands : Stands said context p = record { context_is = c.in_ok-context.ensures ∙ ap (λ xs. context_of (map plain_named xs)) c.deref.ensures.value; phrase_is = c.phrase.ensures } in
    let read = read-of c.args.names.now c.said_in.new.names c.read_derivation.new.names c.in-Some.source.now c.in-Some.text.now said d c.in-Ok.ensures.ok
    c.in-Ok-read_derivation.ensures.named c.in-Ok-read_derivation.ensures.within c.in-Ok-read_derivation.ensures.keeps in
    inr (
      bad_type,
      IsBadFor.not_typed c.in-Some.ensures.some read
          (stands-refused said context p (plain_derivation d) c.in-Err-Wrong.field-0-0 stands (rw c.in-Err-Wrong.field-0-is at c.in-Err-Wrong.ensures)),
    )

pub returns-clause-read : goal.returns-clause-read
returns-clause-read c =
    let said = c.in-Ok.said in
    let context = c.in_ok-context.context in
    let d = c.in-Ok-read_derivation.derivation in
    let p = c.phrase.result.now in
    let stands : Stands said context p = record { context_is = c.in_ok-context.ensures ∙ ap (λ xs. context_of (map plain_named xs)) c.deref.ensures.value; phrase_is = c.phrase.ensures } in
    unit-read c.args.names.now c.said_in.new.names c.read_derivation.new.names c.args.bytes.now c.in-Some.source.now c.in-Some.text.now _ c.in-Some.ensures.some c.in_ok-source.ensures c.in-Ok.ensures.ok
    c.in-Ok.ensures.equals_at c.in-Ok-read_derivation.ensures.named c.in-Ok-read_derivation.ensures.keeps
    (record { limits = c.in-Ok-read_derivation.ensures.within; concluded = stands-concludes said context p (plain_derivation d) stands c.in-Ok-check_as.ensures })

pub returns-clause-unit : goal.returns-clause-unit
returns-clause-unit c =
    let said = c.in-Ok.said in
    let context = c.in_ok-context.context in
    let d = c.in-Ok-read_derivation.derivation in
    let p = c.phrase.result.now in
    let stands : Stands said context p = record { context_is = c.in_ok-context.ensures ∙ ap (λ xs. context_of (map plain_named xs)) c.deref.ensures.value; phrase_is = c.phrase.ensures } in
    unit-made c.args.names.now c.said_in.new.names c.read_derivation.new.names c.in-Some.source.now _ c.in-Some.ensures.some.short c.in_ok-source.ensures c.in-Ok.ensures.ok c.in-Ok.ensures.equals_at
    c.in-Ok-read_derivation.ensures.names.added
    (record { limits = c.in-Ok-read_derivation.ensures.within; concluded = stands-concludes said context p (plain_derivation d) stands c.in-Ok-check_as.ensures })
