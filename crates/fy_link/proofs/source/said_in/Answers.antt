use Rattle.std.proofs.Common.{◌≡◌, sym, ap, ◌∙◌, subst}
use Rattle.std.specs.Prelude.{Some, None}
use Rattle.std.specs.Option.{option_map}
use Rattle.fy_base.specs.declared.data.Place.{Place}
use Rattle.fy_syntax.specs.Signs.{front}
use Rattle.fy_grammar.proofs.Lexed.{lexed_ended}
use Rattle.fy_front.specs.Checked.{lex_refusal, failure_of, IfRefused}
use Rattle.fy_front.specs.declared.error.FrontError.TheVariants.{OutOfMemory}
use Rattle.fy_front.proofs.Checking.{handed}
use Rattle.fy_link.specs.declared.source.Said.{Said}
use Rattle.fy_link.specs.Header.{header_of}
use Rattle.fy_link.specs.Read.{plain_header, plain_said}
use Rattle.fy_link.specs.Sources.{HasHeader, IsSaid, IsSaidFault, IsSource, IsSourceFault, HasEquals}
use Rattle.fy_link.proofs.Ends.{header-inside}
use Rattle.fy_link.proofs.SourceLemmas.{lex-fault, header-fault, behind-fault, ok-weaker, err-weaker}
use Rattle.fy_link.proofs.source.said_in.Goals as goal

pub returns-in_err-tokens-clause-err : goal.returns-in_err-tokens-clause-err
returns-in_err-tokens-clause-err c =
    let e = c.in_err-tokens.field-0.0 in
    handed c.from_residual.result (failure_of (lex_refusal e)) (IfRefused (IsSourceFault c.args.names.now c.args.source.now)) c.from_residual.ensures.1
    (lex-fault c.args.names.now c.args.source.now e c.in_err-tokens.ensures.err)

pub returns-in_err-header-clause-err : goal.returns-in_err-header-clause-err
returns-in_err-header-clause-err c =
    handed c.from_residual-in_err-header.result OutOfMemory (IfRefused (IsSourceFault c.args.names.now c.args.source.now)) c.from_residual-in_err-header.ensures.1 tt

pub said_behind-requires : goal.said_behind-requires
said_behind-requires c =
    let h = plain_header c.in-Some.header in
    let ts = c.in_ok-tokens.tokens.items in
    let found : c.in_ok-header.field-0 ≡ Some c.in-Some.header = cc in
    let is : header_of ts ≡ Some h = sym (ap (option_map plain_header) (sym found) ∙ (c.in_ok-header.ensures ∙ ap header_of c.deref-2.ensures.value)) in
    header-inside ts h (lexed_ended c.args.names.now c.args.source.now ts c.lex.new.names c.in_ok-tokens.ensures.ok) is

pub returns-in-Some-clause-ok : goal.returns-in-Some-clause-ok
returns-in-Some-clause-ok c =
    let h = plain_header c.in-Some.header in
    let ts = c.in_ok-tokens.tokens.items in
    let found : c.in_ok-header.field-0 ≡ Some c.in-Some.header = cc in
    let is : header_of ts ≡ Some h = sym (ap (option_map plain_header) (sym found) ∙ (c.in_ok-header.ensures ∙ ap header_of c.deref-2.ensures.value)) in
    let headed : HasHeader c.args.names.now c.args.source.now c.lex.new.names ts h =
    record { lexed = record { read = c.in_ok-tokens.ensures.ok; within = c.in_ok-tokens.ensures.within }; is = is } in
    let at : c.front-at.result ≡ front ts = c.front-at.ensures ∙ ap front c.deref.ensures.value in
    ok-weaker (λ (said : Said). IsSaid c.front-at.result h (plain_said said)) (λ (said : Said). IsSource c.args.names.now c.args.source.now c.lex.new.names (plain_said said)) c.said_behind.result
    (λ said k. record { tokens = ts; header = h; headed = headed; said = subst (λ (p : Place). IsSaid p h (plain_said said)) at k }) c.said_behind.ensures.ok

pub returns-in-Some-clause-equals_at : goal.returns-in-Some-clause-equals_at
returns-in-Some-clause-equals_at c =
    let h = plain_header c.in-Some.header in
    let ts = c.in_ok-tokens.tokens.items in
    let found : c.in_ok-header.field-0 ≡ Some c.in-Some.header = cc in
    let is : header_of ts ≡ Some h = sym (ap (option_map plain_header) (sym found) ∙ (c.in_ok-header.ensures ∙ ap header_of c.deref-2.ensures.value)) in
    let headed : HasHeader c.args.names.now c.args.source.now c.lex.new.names ts h =
    record { lexed = record { read = c.in_ok-tokens.ensures.ok; within = c.in_ok-tokens.ensures.within }; is = is } in
    ok-weaker (λ (said : Said). said.equals_at ≡ h.equals_at) (λ (said : Said). HasEquals c.args.names.now c.args.source.now c.lex.new.names said.equals_at) c.said_behind.result
    (λ said k. record { tokens = ts; header = h; headed = headed; is = sym k }) c.said_behind.ensures.equals_at

pub returns-in-Some-clause-err : goal.returns-in-Some-clause-err
returns-in-Some-clause-err c =
    let h = plain_header c.in-Some.header in
    let ts = c.in_ok-tokens.tokens.items in
    let found : c.in_ok-header.field-0 ≡ Some c.in-Some.header = cc in
    let is : header_of ts ≡ Some h = sym (ap (option_map plain_header) (sym found) ∙ (c.in_ok-header.ensures ∙ ap header_of c.deref-2.ensures.value)) in
    let headed : HasHeader c.args.names.now c.args.source.now c.lex.new.names ts h =
    record { lexed = record { read = c.in_ok-tokens.ensures.ok; within = c.in_ok-tokens.ensures.within }; is = is } in
    let at : c.front-at.result ≡ front ts = c.front-at.ensures ∙ ap front c.deref.ensures.value in
    err-weaker (IfRefused (IsSaidFault c.front-at.result h)) (IfRefused (IsSourceFault c.args.names.now c.args.source.now)) c.said_behind.result
    (λ e k. behind-fault c.args.names.now c.lex.new.names c.args.source.now ts h e headed (subst (λ (p : Place). IfRefused (IsSaidFault p h) e) at k)) c.said_behind.ensures.err

pub returns-clause-err : goal.returns-clause-err
returns-clause-err c =
    let ts = c.in_ok-tokens.tokens.items in
    let lost : c.in_ok-header.field-0 ≡ None = cc in
    let none : None ≡ header_of ts = ap (option_map plain_header) (sym lost) ∙ (c.in_ok-header.ensures ∙ ap header_of c.deref-2.ensures.value) in
    let at : c.front-at.result ≡ front ts = c.front-at.ensures ∙ ap front c.deref.ensures.value in
    header-fault c.args.names.now c.lex.new.names c.args.source.now ts c.front-at.result (record { read = c.in_ok-tokens.ensures.ok; within = c.in_ok-tokens.ensures.within }) none at
