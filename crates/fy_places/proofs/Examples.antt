-- Lists of tokens whose first bad token is known.
use Rattle.std.proofs.Common.{[], refl, ◌∷◌}
use Rattle.fy_base.specs.declared.data.Place.{Place}
use Rattle.fy_base.specs.Places.{columns_on, first_place}
use Rattle.fy_lexer.specs.declared.token.Keyword.TheVariants as word
use Rattle.fy_lexer.specs.declared.token.Symbol.TheVariants as symbol
use Rattle.fy_lexer.specs.declared.token.TokenKind.TheVariants as kind
use Rattle.fy_syntax.specs.Reader.{inner, type_inner}
use Rattle.fy_syntax.specs.Signs.{ident_at, symbol_at, token, word_at}
use Rattle.fy_places.specs.Begins.{IsDepthFault, IsSyntaxFault}
use Rattle.fy_places.proofs.Exact.{deep_exact, left_exact, wrong_exact}

here : Place
here = columns_on 6 first_place

elsewhere : Place
elsewhere = first_place

-- `if a else`: the bad token is `else`
else_for_then : IsSyntaxFault 3 (word_at word.If elsewhere ∷ ident_at 5 elsewhere ∷ word_at word.Else here ∷ token kind.End elsewhere ∷ []) here
unfolding inner type_inner
else_for_then = wrong_exact 2 _ _ (word_at word.Else here) refl

-- `a )`: the bad token is `)`
paren_behind_phrase : IsSyntaxFault 3 (ident_at 5 elsewhere ∷ symbol_at symbol.CloseParen here ∷ token kind.End elsewhere ∷ []) here
unfolding inner type_inner
paren_behind_phrase = left_exact 2 _ _ (symbol_at symbol.CloseParen here) _ refl (λ e. cc)

-- `( a`: the bad token is the end
end_in_parens : IsSyntaxFault 3 (symbol_at symbol.OpenParen elsewhere ∷ ident_at 5 elsewhere ∷ token kind.End here ∷ []) here
unfolding inner type_inner
end_in_parens = wrong_exact 2 _ _ (token kind.End here) refl

-- `( a == b`, where two nodes are allowed: the bad token is `==`
definition_too_deep : IsDepthFault 2 (symbol_at symbol.OpenParen elsewhere ∷ ident_at 5 elsewhere ∷ symbol_at symbol.EqualsEquals here ∷ ident_at 5 elsewhere ∷ token kind.End elsewhere ∷ []) here
unfolding inner type_inner
definition_too_deep = deep_exact 1 _ _ (symbol_at symbol.EqualsEquals here) refl
