-- Beginnings of lists of tokens.
use Rattle.std.proofs.Common.{List, [], ap, refl, subst, sym, ◌++◌, ◌∷◌, ◌≡◌}
use Rattle.std.proofs.lemmas.List.{map-append}
use Rattle.fy_base.specs.declared.data.Place.{Place}
use Rattle.fy_lexer.specs.declared.token.Token.{Token}
use Rattle.fy_lexer.specs.declared.token.TokenKind.{TokenKind}
use Rattle.fy_syntax.specs.Signs.{token}
use Rattle.fy_places.specs.Begins.{kinds}
use Rattle.fy_places.proofs.Alike.{SameKinds}
use Rattle.fy_places.proofs.Completing.{SameBefore}

-- lists that are the same up to where each stops have a beginning in common
pub record CommonBeginning (stop other_stop tokens others : List Token) : Type 0 where
  pub part : List Token
  pub left : tokens ≡ part ++ stop
  pub right : others ≡ part ++ other_stop

pub common_beginning : {stop other_stop tokens others : List Token} → SameBefore stop other_stop tokens others → CommonBeginning stop other_stop tokens others
common_beginning SameBefore.here = record { part = []; left = refl; right = refl }
common_beginning (SameBefore.next {t = t} x) = let h = common_beginning x in record { part = t ∷ h.part; left = ap (λ l. t ∷ l) h.left; right = ap (λ l. t ∷ l) h.right }

pub kinds-append : (tokens more : List Token) → kinds (tokens ++ more) ≡ kinds tokens ++ kinds more
kinds-append tokens more = map-append (λ (t : Token). t.kind) tokens more

-- two lists have the same kinds up to a token, behind which the one has this rest
pub record AgreesTo (rest tokens whole : List Token) : Type 0 where
  pub other_rest : List Token
  pub at : SameKinds rest other_rest tokens whole

agrees_next : (k : TokenKind) (at other_at : Place) (rest tokens whole : List Token) → AgreesTo rest tokens whole → AgreesTo rest (token k at ∷ tokens) (token k other_at ∷ whole)
agrees_next k at other_at rest tokens whole h = record { other_rest = h.other_rest; at = SameKinds.next h.at }

-- so has a list that begins with the kinds of the tokens up to t
pub agrees_to : (before : List Token) (t : Token) (rest whole : List Token) (more : List TokenKind) → kinds whole ≡ kinds (before ++ t ∷ []) ++ more → AgreesTo rest (before ++ t ∷ rest) whole
agrees_to [] t rest [] more e = absurd cc
agrees_to [] t rest (w ∷ whole) more e =
    let h : w.kind ≡ t.kind = cc in
    subst (λ (k : TokenKind). AgreesTo rest (t ∷ rest) (token k w.place ∷ whole)) (sym h) (record { other_rest = whole; at = SameKinds.last {k = t.kind} {p = t.place} {o = w.place} })
agrees_to (b ∷ before) t rest [] more e = absurd cc
agrees_to (b ∷ before) t rest (w ∷ whole) more e =
    let h : w.kind ≡ b.kind = cc in
    let k : kinds whole ≡ kinds (before ++ t ∷ []) ++ more = cc in
    subst (λ (k : TokenKind). AgreesTo rest (b ∷ before ++ t ∷ rest) (token k w.place ∷ whole)) (sym h) (agrees_next b.kind b.place w.place rest (before ++ t ∷ rest) whole (agrees_to before t rest whole more k))
