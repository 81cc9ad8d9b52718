use Rattle.std.proofs.Common.{◌≡◌, true, false, Some, List, take, map, sym, ap, ◌∙◌}
use Rattle.std.specs.Borrow.{Bor}
use Rattle.std.specs.List.{list_any}
use Rattle.std.specs.Option.{option_map}
use Rattle.std.proofs.lemmas.List.{map_push}
use Rattle.fy_lexer.specs.declared.token.Token.{Token}
use Rattle.fy_link.specs.declared.header.Piece.{Piece}
use Rattle.fy_link.specs.Header.{ends_type, pieces_of, are_free}
use Rattle.fy_link.specs.Read.{plain_piece, plain_pieces}
use Rattle.fy_link.proofs.HeadLemmas.{pieces_before, names_in, plain-names, header-taken, header-whole}
use Rattle.fy_link.proofs.header.header_in.Goals as goal

pub returns-then-not-are_free : goal.returns-then-not-are_free
returns-then-not-are_free c =
    let ts = c.args.tokens.now in
    let k = c.in-Some.end in
    let clear : false ≡ list_any ends_type (take k ts) = c.if-ends_a_type.ensures in
    let is : c.in_ok-imports.field-0 ≡ Some c.in-Some-2.imports = cc in
    let made : Some (plain_pieces c.in-Some-2.imports) ≡ pieces_before k ts =
    ap (option_map plain_pieces) (sym is)
    ∙ (c.in_ok-imports.ensures
    ∙ ap pieces_of (ap (map (λ (part : Bor (List Token)). part.now)) c.deref.ensures.value ∙ c.in_ok-parts.ensures)) in
    let free : false ≡ are_free (names_in (plain_pieces c.in-Some-2.imports)) =
    c.if-not-are_free.ensures ∙ (ap (λ (xs : List Piece). are_free (map (λ (x : Piece). x.name) xs)) c.deref-2.ensures.value ∙ ap are_free (sym (plain-names c.in-Some-2.imports.items))) in
    header-taken ts k (plain_pieces c.in-Some-2.imports) c.in-Some.ensures clear made free

pub returns : goal.returns
returns c =
    let ts = c.args.tokens.now in
    let k = c.in-Some.end in
    let clear : false ≡ list_any ends_type (take k ts) = c.if-ends_a_type.ensures in
    let is : c.in_ok-imports.field-0 ≡ Some c.in-Some-2.imports = cc in
    let made : Some (plain_pieces c.in-Some-2.imports) ≡ pieces_before k ts =
    ap (option_map plain_pieces) (sym is)
    ∙ (c.in_ok-imports.ensures
    ∙ ap pieces_of (ap (map (λ (part : Bor (List Token)). part.now)) c.deref.ensures.value ∙ c.in_ok-parts.ensures)) in
    let free : true ≡ are_free (names_in (plain_pieces c.in-Some-2.imports)) =
    c.if-not-are_free.ensures ∙ (ap (λ (xs : List Piece). are_free (map (λ (x : Piece). x.name) xs)) c.deref-2.ensures.value ∙ ap are_free (sym (plain-names c.in-Some-2.imports.items))) in
    header-whole ts k (plain_pieces c.in-Some-2.imports) (plain_pieces c.pop.new.self) (plain_piece c.in-Some-pop.own) c.index-tokens-end.result c.in-Some.ensures clear made free
    (ap (map plain_piece) c.in-Some-pop.ensures.items ∙ map_push plain_piece c.pop.new.self.items c.in-Some-pop.own)
