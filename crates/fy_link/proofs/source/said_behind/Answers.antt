use Rattle.std.proofs.Common.{List, [], ◌∷◌, map, sym, ap, ◌∙◌, subst}
use Rattle.std.proofs.lemmas.List.{length-map}
use Rattle.fy_phrase.specs.Reads.{reads}
use Rattle.fy_syntax.specs.Reading.{tree_of}
use Rattle.fy_grammar.specs.Program.{IsEnded}
use Rattle.fy_front.specs.Checked.{parse_refusal, failure_of, IfRefused, IsMeaningless, Means}
use Rattle.fy_front.specs.declared.error.FrontError.TheVariants.{OutOfMemory}
use Rattle.fy_front.proofs.Checking.{handed}
use Rattle.fy_link.specs.declared.header.Piece.{Piece}
use Rattle.fy_link.specs.Read.{plain_header, plain_piece, plain_named}
use Rattle.fy_link.specs.Sources.{AreInside, NameAll, IsTypeFault, IsSaidFault, below_abstractions, without_prelude}
use Rattle.fy_link.proofs.Ends.{clear-front, clear-last, unit_program-ended}
use Rattle.fy_link.proofs.SourceLemmas.{imports-fault, own-fault, tail-fault, phrase-fault}
use Rattle.fy_link.proofs.source.said_behind.Goals as goal

pub all_named-requires : goal.all_named-requires
all_named-requires c =
    let h = plain_header c.args.header.now in
    subst (λ (xs : List Piece). AreInside (map plain_piece xs)) (sym c.deref.ensures.value) (clear-front h.imports (h.own ∷ []) c.requires.pieces)

pub named_by-requires : goal.named_by-requires
named_by-requires c = let h = plain_header c.args.header.now in clear-last h.imports h.own c.requires.pieces

pub parse-requires : goal.parse-requires
parse-requires c = c.requires.tail

pub phrase_of_tokens-requires : goal.phrase_of_tokens-requires
phrase_of_tokens-requires c =
    subst IsEnded (sym (c.deref-2.ensures.value ∙ c.in_ok-tokens.ensures)) (unit_program-ended c.args.at (plain_header c.args.header.now) c.requires.tail c.requires.pieces)

pub returns-in_err-imports-clause-err : goal.returns-in_err-imports-clause-err
returns-in_err-imports-clause-err c =
    let h = plain_header c.args.header.now in
    handed c.from_residual.result c.in_err-imports.field-0.0 (IfRefused (IsSaidFault c.args.at h)) c.from_residual.ensures.1
    (imports-fault c.args.at h c.in_err-imports.field-0.0 (subst (λ (xs : List Piece). IfRefused (IsTypeFault c.args.at (map plain_piece xs)) c.in_err-imports.field-0.0) c.deref.ensures.value c.in_err-imports.ensures.err))

pub returns-in_err-own-clause-err : goal.returns-in_err-own-clause-err
returns-in_err-own-clause-err c =
    let h = plain_header c.args.header.now in
    let known : NameAll c.args.at h.imports (map plain_named c.in_ok-imports.imports.items) =
    subst (λ (xs : List Piece). NameAll c.args.at (map plain_piece xs) (map plain_named c.in_ok-imports.imports.items)) c.deref.ensures.value c.in_ok-imports.ensures.ok in
    handed c.from_residual-in_err-own.result c.in_err-own.field-0.0 (IfRefused (IsSaidFault c.args.at h)) c.from_residual-in_err-own.ensures.1
    (own-fault c.args.at h (map plain_named c.in_ok-imports.imports.items) c.in_err-own.field-0.0 known c.in_err-own.ensures.err)

pub returns-in_err-parse-clause-err : goal.returns-in_err-parse-clause-err
returns-in_err-parse-clause-err c =
    let h = plain_header c.args.header.now in
    let known : NameAll c.args.at h.imports (map plain_named c.in_ok-imports.imports.items) =
    subst (λ (xs : List Piece). NameAll c.args.at (map plain_piece xs) (map plain_named c.in_ok-imports.imports.items)) c.deref.ensures.value c.in_ok-imports.ensures.ok in
    handed c.from_residual-in_err-parse.result (failure_of (parse_refusal c.in_err-parse.field-0.0)) (IfRefused (IsSaidFault c.args.at h)) c.from_residual-in_err-parse.ensures.1
    (tail-fault c.args.at h (map plain_named c.in_ok-imports.imports.items) (plain_named c.in_ok-own.own) c.in_err-parse.field-0.0 known c.in_ok-own.ensures.ok c.in_err-parse.ensures.err)

pub returns-in_err-tokens-clause-err : goal.returns-in_err-tokens-clause-err
returns-in_err-tokens-clause-err c =
    handed c.from_residual-in_err-tokens.result OutOfMemory (IfRefused (IsSaidFault c.args.at (plain_header c.args.header.now))) c.from_residual-in_err-tokens.ensures.1 tt

pub returns-in_err-whole-clause-err : goal.returns-in_err-whole-clause-err
returns-in_err-whole-clause-err c =
    let h = plain_header c.args.header.now in
    let known : NameAll c.args.at h.imports (map plain_named c.in_ok-imports.imports.items) =
    subst (λ (xs : List Piece). NameAll c.args.at (map plain_piece xs) (map plain_named c.in_ok-imports.imports.items)) c.deref.ensures.value c.in_ok-imports.ensures.ok in
    handed c.from_residual-in_err-whole.result c.in_err-whole.field-0.0 (IfRefused (IsSaidFault c.args.at h)) c.from_residual-in_err-whole.ensures.1
    (phrase-fault c.args.at h (map plain_named c.in_ok-imports.imports.items) (plain_named c.in_ok-own.own) (tree_of c.in_ok-parse.field-0) c.in_err-whole.field-0.0
    known c.in_ok-own.ensures.ok c.in_ok-parse.ensures.ok
    (subst (λ tokens. IfRefused (IsMeaningless tokens) c.in_err-whole.field-0.0) (c.deref-2.ensures.value ∙ c.in_ok-tokens.ensures) c.in_err-whole.ensures.refused))

pub returns-clause-ok : goal.returns-clause-ok
returns-clause-ok c =
    let h = plain_header c.args.header.now in
    record {
      imports = subst (λ (xs : List Piece). NameAll c.args.at (map plain_piece xs) (map plain_named c.in_ok-imports.imports.items)) c.deref.ensures.value c.in_ok-imports.ensures.ok;
      own = c.in_ok-own.ensures.ok;
      alone = tree_of c.in_ok-parse.field-0;
      program = c.in_ok-parse.ensures.ok;
      whole = reads c.in_ok-whole.whole;
      means = subst (λ tokens. Means tokens (reads c.in_ok-whole.whole)) (c.deref-2.ensures.value ∙ c.in_ok-tokens.ensures) c.in_ok-whole.ensures.means;
      phrase = ap (λ n. below_abstractions n (without_prelude (reads c.in_ok-whole.whole))) (sym (length-map c.in_ok-imports.imports.items plain_named));
    }
