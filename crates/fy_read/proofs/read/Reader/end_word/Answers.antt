use Rattle.std.proofs.Common.{inl, inr, length, refl, sym, ap, ◌∙◌}
use Rattle.std.proofs.lemmas.Result.{on_ok_weaker}
use Rattle.fy_lexer.proofs.NamesLemmas.{HasAdded-none}
use Rattle.fy_types.specs.Words.{is_word}
use Rattle.fy_read.specs.Opened.{nodes_of}
use Rattle.fy_read.specs.OpenLevels.{levels_of}
use Rattle.fy_read.specs.Readers.{spot_of}
use Rattle.fy_read.specs.ReadSoFar.{at_piece}
use Rattle.fy_types.specs.Nested.{type_nesting}
use Rattle.fy_read.specs.Steps.{ended, type_word}
use Rattle.fy_read.proofs.EndLemmas.{nesting_word}
use Rattle.fy_read.proofs.GainLemmas.{ended-name, ended-type}
use Rattle.fy_read.proofs.GrammarLemmas.{type_word-one}
use Rattle.fy_read.proofs.MadeLemmas.{memory_after}
use Rattle.fy_read.proofs.PieceAnswers.{like_of, word_of, word_misfit, type_misfit, name_ended, type_ended, name_read, type_read, added_as, named_as, number_as}
use Rattle.fy_read.proofs.ReaderAnswers.{paren_fit, read_word}
use Rattle.fy_read.proofs.PassLemmas.{memory_plain}
use Rattle.fy_read.proofs.read.Reader.end_word.Goals as goal

pub returns-in_default-clause-misfit : goal.returns-in_default-clause-misfit
returns-in_default-clause-misfit c =
    let s = c.args.self.now in λ is. word_misfit (length (levels_of s.levels).outer) c.requires.sound c.requires.begun c.in_default.not-Part

pub returns-in_default-clause-names : goal.returns-in_default-clause-names
returns-in_default-clause-names c = inl refl

pub word-requires : goal.word-requires
word-requires c = record {
  levels = paren_fit c.in-Part.is c.requires.sound;
  single = ap type_nesting c.to_type.ensures ∙ nesting_word c.in-Some.part;
}

pub returns-in-Some-clause-ended : goal.returns-in-Some-clause-ended
returns-in-Some-clause-ended c =
    let s = c.args.self.now in
    let known = ap type_word (sym c.deref.ensures.value) ∙ sym c.in-Some.ensures in
    let one = type_word-one s.letters.items c.in-Some.part known in
    on_ok_weaker c.word.result
    (λ e. type_ended c.in-Some.part c.requires.sound c.requires.begun c.in-Part.is one known c.to_type.ensures e) c.word.ensures.ok

pub returns-in-Some-clause-misfit : goal.returns-in-Some-clause-misfit
returns-in-Some-clause-misfit c = memory_after (ended (spot_of c.args.self.now)) c.word.result c.word.ensures.err

pub returns-in-Some-clause-read : goal.returns-in-Some-clause-read
returns-in-Some-clause-read c =
    let s = c.args.self.now in
    let known = ap type_word (sym c.deref.ensures.value) ∙ sym c.in-Some.ensures in
    let one = type_word-one s.letters.items c.in-Some.part known in
    on_ok_weaker c.word.result
    (λ e text h. let b = read_word c.requires.begun h in
    at_piece refl (type_read s.letters.items b.done c.in-Some.part (HasAdded-none c.args.names.now)
    (like_of (nodes_of s.nodes) s.letters.items s.is_loose c.in-Part.is
    (word_of c.requires.begun c.requires.sound)) one c.in-Part.is known c.to_type.ensures e b.is b.holds))
    c.word.ensures.ok

pub returns-in-Some-clause-plain : goal.returns-in-Some-clause-plain
returns-in-Some-clause-plain c = memory_plain c.word.result c.word.ensures.err

pub returns-in-Some-clause-named : goal.returns-in-Some-clause-named
returns-in-Some-clause-named c =
    let s = c.args.self.now in
    let one = type_word-one s.letters.items c.in-Some.part (ap type_word (sym c.deref.ensures.value) ∙ sym c.in-Some.ensures) in
    on_ok_weaker c.word.result
    (λ e. sym (ended-type s.letters.items s.is_loose (nodes_of s.nodes)
    (length (levels_of s.levels).outer) c.args.names.now c.in-Part.is c.requires.begun one)) c.word.ensures.ok

pub returns-in-Some-clause-names : goal.returns-in-Some-clause-names
returns-in-Some-clause-names c = inl refl

pub returns-then-is_word-clause-misfit : goal.returns-then-is_word-clause-misfit
returns-then-is_word-clause-misfit c =
    let s = c.args.self.now in
    let one = ap is_word (sym c.deref-2.ensures.value) ∙ (sym c.is_word.ensures ∙ c.if-is_word.true) in
    λ is. type_misfit (length (levels_of s.levels).outer) c.requires.sound c.requires.begun c.in-Part.is one
    (ap type_word (sym c.deref.ensures.value) ∙ (sym c.type_word.ensures ∙ c.in_default-type_word.is))

pub returns-then-is_word-clause-names : goal.returns-then-is_word-clause-names
returns-then-is_word-clause-names c = inl refl

pub returns-in_err-number-clause-names : goal.returns-in_err-number-clause-names
returns-in_err-number-clause-names c = inl c.in_err-number.ensures.err

pub returns-clause-ended : goal.returns-clause-ended
returns-clause-ended c =
    let s = c.args.self.now in
    let other = ap is_word (sym c.deref-2.ensures.value) ∙ (sym c.is_word.ensures ∙ c.if-is_word.false) in
    on_ok_weaker c.field.result
    (λ e. name_ended c.in_ok-number.field-0 c.requires.sound c.requires.begun c.in-Part.is other
    (λ deep. c.requires.shallow (record { begun = c.requires.begun; awaited = c.in-Part.is; other = other; deep = deep })) e)
    c.field.ensures.ok

pub returns-clause-misfit : goal.returns-clause-misfit
returns-clause-misfit c = memory_after (ended (spot_of c.args.self.now)) c.field.result c.field.ensures.err

pub returns-clause-read : goal.returns-clause-read
returns-clause-read c =
    let s = c.args.self.now in
    let names = c.args.names.now in
    let other = ap is_word (sym c.deref-2.ensures.value) ∙ (sym c.is_word.ensures ∙ c.if-is_word.false) in
    let added = added_as names c.deref-3.result.now c.number.new.self c.in_ok-number.ensures.names in
    let grown = c.in_ok-number.ensures.names ∙ named_as names c.deref-3.ensures.value in
    on_ok_weaker c.field.result
    (λ e text h. let b = read_word c.requires.begun h in
    at_piece refl (name_read b.done c.requires.sound c.requires.begun c.in-Part.is other grown added (c.in_ok-number.ensures.number
    ∙ number_as names c.deref-3.ensures.value) e b.is b.holds))
    c.field.ensures.ok

pub returns-clause-plain : goal.returns-clause-plain
returns-clause-plain c = memory_plain c.field.result c.field.ensures.err

pub returns-clause-named : goal.returns-clause-named
returns-clause-named c =
    let s = c.args.self.now in
    let names = c.args.names.now in
    let other = ap is_word (sym c.deref-2.ensures.value) ∙ (sym c.is_word.ensures ∙ c.if-is_word.false) in
    let grown = c.in_ok-number.ensures.names ∙ named_as names c.deref-3.ensures.value in
    on_ok_weaker c.field.result
    (λ e. grown ∙ sym (ended-name s.letters.items s.is_loose (nodes_of s.nodes)
    (length (levels_of s.levels).outer) names c.in-Part.is c.requires.begun other)) c.field.ensures.ok

pub returns-clause-names : goal.returns-clause-names
returns-clause-names c =
    let s = c.args.self.now in
    let names = c.args.names.now in
    let other = ap is_word (sym c.deref-2.ensures.value) ∙ (sym c.is_word.ensures ∙ c.if-is_word.false) in
    let grown = c.in_ok-number.ensures.names ∙ named_as names c.deref-3.ensures.value in
    inr (grown ∙ sym (ended-name s.letters.items s.is_loose (nodes_of s.nodes)
    (length (levels_of s.levels).outer) names c.in-Part.is c.requires.begun other))
