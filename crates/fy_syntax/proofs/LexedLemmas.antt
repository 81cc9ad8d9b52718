-- Pieces that spell tokens, with one blank between two, are read as these tokens.
use Rattle.std.proofs.Common.{◌≡◌, ◌≢◌, List, [], ◌∷◌, ◌++◌, refl, sym, ap, subst, append_assoc, append-nil, inl, inr}
use Rattle.fy_base.specs.Outside.{Bytes}
use Rattle.fy_base.specs.declared.data.Place.{Place}
use Rattle.fy_base.specs.Places.{first_place}
use Rattle.fy_lexer.specs.declared.token.Token.{Token}
use Rattle.fy_lexer.specs.declared.token.TokenKind.{TokenKind}
use Rattle.fy_lexer.specs.declared.token.TokenKind.TheVariants as kind
use Rattle.fy_lexer.specs.Spellings.{Spells}
use Rattle.fy_lexer.specs.Pieces.{IsLongest}
use Rattle.fy_lexer.specs.Spot.{Spot, past}
use Rattle.fy_lexer.specs.Tokens.{Reading, Step, Steps, start_of, names_past}
use Rattle.fy_lexer.specs.Reading.{reading_of}
use Rattle.fy_lexer.specs.Again.{kinds, HaveNoEnd}
use Rattle.fy_lexer.proofs.OverLemmas.{blank-ends, longest_alone, longest_before}
use Rattle.fy_lexer.proofs.AgainLemmas.{spelled-inside}
use Rattle.fy_syntax.specs.Printing.{led, joined, ArePieces, AreKnown}
use Rattle.fy_syntax.proofs.RangeLemmas.{AreKindsInRange}
use Rattle.fy_syntax.proofs.KindTexts.{kind_text, spelled, names_stay}

-- a token before a blank, or at the end, is the longest
longest_here : (names : List Bytes) (k : TokenKind) (piece : Bytes) (pieces : List Bytes) → Spells names k piece → IsLongest (piece ++ led pieces) piece
longest_here names k piece [] h = longest_alone piece
longest_here names k piece (p ∷ pieces) h = longest_before 32 blank-ends names k piece (p ++ led pieces) h

-- what is read of pieces
pub record Lexed (names : List Bytes) (here : Reading) (ts : List Token) : Type 0 where
  pub place : Place
  pub us : List Token
  pub steps : Steps here (reading_of (record { rest = []; place = place }) names (here.tokens ++ us))
  pub same : kinds ts ≡ kinds us

abbrev pub texts : List Bytes → List Token → List Bytes
texts names [] = []
texts names (t ∷ ts) = kind_text names t.kind ∷ texts names ts

abbrev at : Bytes → Place → Spot
at rest place = record { rest = rest; place = place }

abbrev AreSpelled : List Bytes → List Token → Type 0
AreSpelled names [] = Unit {0}
AreSpelled names (t ∷ ts) = Spells names t.kind (kind_text names t.kind) × AreSpelled names ts

-- one token is taken
token_step : (names : List Bytes) (k : TokenKind) (piece : Bytes) (pieces : List Bytes) (place : Place) (done : List Token) → Spells names k piece → names_past k piece names ≡ names →
    Step (reading_of (at (piece ++ led pieces) place) names done) (reading_of (at (led pieces) (past place piece)) names (done ++ record { kind = k; place = place } ∷ []))
token_step names k piece pieces place done h e =
    inr (record {
      piece = piece;
      kind = k;
      spelled = h;
      longest = longest_here names k piece pieces h;
      moved = record { text = refl; place = refl };
      names = sym e;
      tokens = refl;
    })

-- a blank is dropped
blank_step : (names : List Bytes) (rest : Bytes) (place : Place) (done : List Token) → Step (reading_of (at (32 ∷ rest) place) names done) (reading_of (at rest (past place (32 ∷ []))) names done)
blank_step names rest place done =
    inl (record { piece = 32 ∷ []; gap = inl (32, refl, refl); moved = record { text = refl; place = refl }; names = refl; tokens = refl })

pushed : (done us : List Token) (t : Token) → (done ++ t ∷ []) ++ us ≡ done ++ t ∷ us
pushed done us t = append_assoc done (t ∷ []) us

lexed_led : (names : List Bytes) (ts : List Token) (place : Place) (done : List Token) → AreSpelled names ts → AreKnown names ts → Lexed names (reading_of (at (led (texts names ts)) place) names done) ts
lexed_led names [] place done s k =
    record { place = place; us = []; steps = subst (λ l. Steps (reading_of (at [] place) names done) (reading_of (at [] place) names l)) (sym (append-nil done)) (Steps.none (reading_of (at [] place) names done)); same = refl }
lexed_led names (t ∷ ts) place done s k =
    let text = kind_text names t.kind in
    let here = past place (32 ∷ []) in
    let u : Token = record { kind = t.kind; place = here } in
    let r = lexed_led names ts (past here text) (done ++ u ∷ []) s.1 k.1 in
    record {
      place = r.place;
      us = u ∷ r.us;
      steps =
          Steps.more _ _ _ (blank_step names (text ++ led (texts names ts)) place done)
          (Steps.more _ _ _ (token_step names t.kind text (texts names ts) here done s.0 (names_stay names t.kind k.0))
          (subst (λ l. Steps (reading_of (at (led (texts names ts)) (past here text)) names (done ++ u ∷ [])) (reading_of (at [] r.place) names l)) (pushed done r.us u) r.steps));
      same = ap (λ l. t.kind ∷ l) r.same;
    }

-- the tokens of pieces
pub lexed : (names : List Bytes) (t : Token) (ts : List Token) → AreSpelled names (t ∷ ts) → AreKnown names (t ∷ ts) → Lexed names (start_of names (joined (texts names (t ∷ ts)))) (t ∷ ts)
lexed names t ts s k =
    let text = kind_text names t.kind in
    let here : Place = first_place in
    let u : Token = record { kind = t.kind; place = here } in
    let r = lexed_led names ts (past here text) (u ∷ []) s.1 k.1 in
    record {
      place = r.place;
      us = u ∷ r.us;
      steps = Steps.more _ _ _ (token_step names t.kind text (texts names ts) here [] s.0 (names_stay names t.kind k.0)) r.steps;
      same = ap (λ l. t.kind ∷ l) r.same;
    }

pub all_spelled : (names : List Bytes) (ts : List Token) → AreKnown names ts → AreKindsInRange ts → AreSpelled names ts
all_spelled names [] k r = tt
all_spelled names (t ∷ ts) k r = (spelled names t.kind k.0 r.0, all_spelled names ts k.1 r.1)

-- the pieces of tokens that have the same kinds
pub pieces_of : (names : List Bytes) (place : Place) (ts us : List Token) → kinds ts ≡ kinds us → AreSpelled names ts →
    ArePieces names (us ++ record { kind = kind.End; place = place } ∷ []) (texts names ts)
pieces_of names place [] [] e s = (refl, refl)
pieces_of names place [] (u ∷ us) e s = absurd cc
pieces_of names place (t ∷ ts) [] e s = absurd cc
pieces_of names place (t ∷ ts) (u ∷ us) e s =
    let f : kinds ts ≡ kinds us = cc in
    let k : t.kind ≡ u.kind = cc in
    (subst (λ n. Spells names n (kind_text names t.kind)) k s.0, pieces_of names place ts us f s.1)

pub spelled_inside : (names : List Bytes) (ts : List Token) → AreSpelled names ts → HaveNoEnd ts
spelled_inside names [] s = tt
spelled_inside names (t ∷ ts) s = (spelled-inside names t.kind (kind_text names t.kind) s.0, spelled_inside names ts s.1)
