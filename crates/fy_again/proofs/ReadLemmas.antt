-- Tokens that are read one after another, and tokens of known kinds.
use Rattle.std.proofs.Common.{◌≡◌, List, [], ◌∷◌, ◌++◌, refl, sym, ap, subst, append_assoc, append-nil, inl, inr}
use Rattle.fy_base.specs.Outside.{Bytes}
use Rattle.fy_base.specs.declared.data.Place.{Place}
use Rattle.fy_lexer.specs.declared.token.Token.{Token}
use Rattle.fy_lexer.specs.declared.token.TokenKind.{TokenKind}
use Rattle.fy_lexer.specs.Spellings.{Spells}
use Rattle.fy_lexer.specs.Pieces.{IsLongest}
use Rattle.fy_lexer.specs.Spot.{Spot, past}
use Rattle.fy_lexer.specs.Tokens.{Steps, names_past}
use Rattle.fy_lexer.specs.Reading.{reading_of}
use Rattle.fy_lexer.specs.Again.{kinds}
use Rattle.fy_syntax.specs.Signs.{token}

abbrev spot : Bytes → Place → Spot
spot rest place = record { rest = rest; place = place }

-- what is read of a text behind some tokens
pub record ReadsFrom (names : List Bytes) (text : Bytes) (place : Place) (before : List Token) (ks : List TokenKind) : Type 0 where
  pub end : Place
  pub us : List Token
  pub steps : Steps (reading_of (spot text place) names before) (reading_of (spot [] end) names (before ++ us))
  pub same : kinds us ≡ ks

-- the text is read as tokens of these kinds, wherever it stands
abbrev pub Reads : List Bytes → Bytes → List TokenKind → Type 0
Reads names text ks = (place : Place) (before : List Token) → ReadsFrom names text place before ks

pub reads_end : (names : List Bytes) → Reads names [] []
reads_end names place before = record {
  end = place;
  us = [];
  steps = subst (λ l. Steps (reading_of (spot [] place) names before) (reading_of (spot [] place) names l)) (sym (append-nil before)) (Steps.none (reading_of (spot [] place) names before));
  same = refl;
}

-- a blank is dropped
pub reads_blank : (names : List Bytes) (rest : Bytes) (ks : List TokenKind) → Reads names rest ks → Reads names (32 ∷ rest) ks
reads_blank names rest ks r place before =
    let m = r (past place (32 ∷ [])) before in
    record {
      end = m.end;
      us = m.us;
      steps =
          Steps.more _ _ _
          (inl (record { piece = 32 ∷ []; gap = inl (32, refl, refl); moved = record { text = refl; place = refl }; names = refl; tokens = refl }))
          m.steps;
      same = m.same;
    }

-- a token is taken
pub reads_token : (names : List Bytes) (k : TokenKind) (piece rest : Bytes) (ks : List TokenKind) → Spells names k piece → names_past k piece names ≡ names →
    IsLongest (piece ++ rest) piece → Reads names rest ks → Reads names (piece ++ rest) (k ∷ ks)
reads_token names k piece rest ks h e l r place before =
    let u : Token = record { kind = k; place = place } in
    let m = r (past place piece) (before ++ u ∷ []) in
    record {
      end = m.end;
      us = u ∷ m.us;
      steps =
          Steps.more _ _ _
          (inr (record { piece = piece; kind = k; spelled = h; longest = l; moved = record { text = refl; place = refl }; names = sym e; tokens = refl }))
          (subst (λ x. Steps (reading_of (spot rest (past place piece)) names (before ++ u ∷ [])) (reading_of (spot [] m.end) names x)) (append_assoc before (u ∷ []) m.us) m.steps);
      same = ap (λ x. k ∷ x) m.same;
    }

-- the same text and the same kinds, written in another way
pub reads_same : (names : List Bytes) (text other : Bytes) (ks js : List TokenKind) → text ≡ other → ks ≡ js → Reads names text ks → Reads names other js
reads_same names text other ks js e f r = subst (λ t. Reads names t js) e (subst (λ x. Reads names text x) f r)

-- ---- tokens of known kinds

-- a token of that kind in some place, and then tokens of those kinds
pub record Peeled (us : List Token) (k : TokenKind) (ks : List TokenKind) : Type 0 where
  pub place : Place
  pub rest : List Token
  pub is : us ≡ token k place ∷ rest
  pub left : kinds rest ≡ ks

pub peel : (us : List Token) (k : TokenKind) (ks : List TokenKind) → kinds us ≡ k ∷ ks → Peeled us k ks
peel [] k ks e = absurd cc
peel (u ∷ us) k ks e =
    let same : u.kind ≡ k = cc in
    let left : kinds us ≡ ks = cc in
    record { place = u.place; rest = us; is = ap (λ x. token x u.place ∷ us) same; left = left }

pub none_left : (us : List Token) → kinds us ≡ [] → us ≡ []
none_left [] e = refl
none_left (u ∷ us) e = absurd cc
