-- Names that are among a list already, and the rest of a text read again.
use Rattle.std.proofs.Common.{◌≡◌, ◌≢◌, ℕ, ◌+◌, Bool, true, false, cond, List, [], ◌∷◌, ◌++◌, refl, sym, ap, subst, ◌∙◌, append_assoc, append-nil, inl, inr}
use Rattle.std.specs.Str.{bytes_eq}
use Rattle.std.proofs.lemmas.Slice.Eq.{bytes_eq-Decides}
use Rattle.fy_base.specs.Outside.{Bytes}
use Rattle.fy_base.specs.declared.data.Place.{Place}
use Rattle.fy_types.specs.Names.{number_of, with_name}
use Rattle.fy_lexer.specs.declared.token.Token.{Token}
use Rattle.fy_lexer.specs.declared.token.TokenKind.{TokenKind}
use Rattle.fy_lexer.specs.declared.token.TokenKind.TheVariants as kind
use Rattle.fy_lexer.specs.Spellings.{Spells}
use Rattle.fy_lexer.specs.Pieces.{IsLongest}
use Rattle.fy_lexer.specs.Spot.{past}
use Rattle.fy_lexer.specs.Tokens.{Reading, Steps, SkipsGap, TakesToken, names_past, start_of, IsTokensOf, HasAdded}
use Rattle.fy_lexer.specs.Again.{kinds, HaveNoEnd, reading_at, IsReadAgain, RestsAreReadAgain, LaterNamesChangeNothing}
use Rattle.fy_lexer.proofs.NamesLemmas.{HasAdded-with_name, HasAdded-none, HasAdded-then}
use Rattle.fy_lexer.proofs.OverLemmas.{close-ends, still_longest}

-- ---- names

self : (x : Bytes) → bytes_eq x x ≡ true
self x = (bytes_eq-Decides x x).1 refl

-- a name that is among the names keeps its number in longer lists, and is not added again
pub known_number : (names later : List Bytes) (x : Bytes) → number_of names x ≡ number_of (with_name names x ++ later) x
known_number [] later x = sym (ap (λ b. cond b 0 (number_of later x + 1)) (self x))
known_number (n ∷ names) later x = by (bytes_eq x n) refl (known_number names later x)
  where
    by : (b : Bool) → bytes_eq x n ≡ b → number_of names x ≡ number_of (with_name names x ++ later) x →
        cond b 0 (number_of names x + 1) ≡ number_of (cond b (n ∷ names) (n ∷ with_name names x) ++ later) x
    by true e go = sym (ap (λ b. cond b 0 (number_of (names ++ later) x + 1)) e)
    by false e go = ap (λ i. i + 1) go ∙ sym (ap (λ b. cond b 0 (number_of (with_name names x ++ later) x + 1)) e)

pub known_stays : (names later : List Bytes) (x : Bytes) → with_name (with_name names x ++ later) x ≡ with_name names x ++ later
known_stays [] later x = ap (λ b. cond b (x ∷ later) (x ∷ with_name later x)) (self x)
known_stays (n ∷ names) later x = by (bytes_eq x n) refl (known_stays names later x)
  where
    by : (b : Bool) → bytes_eq x n ≡ b → with_name (with_name names x ++ later) x ≡ with_name names x ++ later →
        with_name (cond b (n ∷ names) (n ∷ with_name names x) ++ later) x ≡ cond b (n ∷ names) (n ∷ with_name names x) ++ later
    by true e go = ap (λ b. cond b (n ∷ names ++ later) (n ∷ with_name (names ++ later) x)) e
    by false e go = ap (λ b. cond b (n ∷ with_name names x ++ later) (n ∷ with_name (with_name names x ++ later) x)) e ∙ ap (λ l. n ∷ l) go

past_added : (k : TokenKind) (piece : Bytes) (names : List Bytes) → HasAdded names (names_past k piece names)
past_added (kind.Ident n) piece names = HasAdded-with_name names piece
past_added (kind.Word n) piece names = HasAdded-none names
past_added (kind.Number n) piece names = HasAdded-none names
past_added (kind.Letter n) piece names = HasAdded-none names
past_added (kind.Str n) piece names = HasAdded-none names
past_added (kind.Sym n) piece names = HasAdded-none names
past_added kind.End piece names = HasAdded-none names

pub steps_added : (old last : Reading) → Steps old last → HasAdded old.names last.names
steps_added old last (Steps.none here) = HasAdded-none here.names
steps_added old last (Steps.more first next new (inl s) rest) = subst (λ l. HasAdded l new.names) s.names (steps_added next new rest)
steps_added old last (Steps.more first next new (inr s) rest) =
    HasAdded-then first.names next.names new.names (subst (HasAdded first.names) (sym s.names) (past_added s.kind s.piece first.names)) (steps_added next new rest)

-- a token spells the same with a list that has all later names
pub spelled_later : (k : TokenKind) (piece : Bytes) (old names : List Bytes) → Spells old k piece → HasAdded (names_past k piece old) names →
    Spells names k piece × (names_past k piece names ≡ names)
spelled_later (kind.Ident n) piece old names h a = (
  (h.0, h.1 ∙ known_number old a.later piece ∙ ap (λ l. number_of l piece) (sym a.is)),
  ap (λ l. with_name l piece) a.is ∙ known_stays old a.later piece ∙ sym a.is,
)
spelled_later (kind.Word n) piece old names h a = (h, refl)
spelled_later (kind.Number n) piece old names h a = (h, refl)
spelled_later (kind.Letter n) piece old names h a = (h, refl)
spelled_later (kind.Str n) piece old names h a = (h, refl)
spelled_later (kind.Sym n) piece old names h a = (h, refl)
spelled_later kind.End piece old names h a = absurd h

-- ---- the rest of a text

-- the end of a text is spelled by no bytes
pub spelled-inside : (names : List Bytes) (k : TokenKind) (piece : Bytes) → Spells names k piece → k ≢ kind.End
spelled-inside names (kind.Ident n) piece h e = cc
spelled-inside names (kind.Word n) piece h e = cc
spelled-inside names (kind.Number n) piece h e = cc
spelled-inside names (kind.Letter n) piece h e = cc
spelled-inside names (kind.Str n) piece h e = cc
spelled-inside names (kind.Sym n) piece h e = cc
spelled-inside names kind.End piece h e = h

-- at the end of a text
again-none : (here : Reading) (more : Bytes) (place : Place) (names : List Bytes) (before : List Token) → here.spot.rest ≡ [] →
    IsReadAgain here here more place names before
again-none here more place names before ended = record {
  own = [];
  taken = sym (append-nil here.tokens);
  inside = tt;
  again = [];
  same = refl;
  end = place;
  steps = subst (λ tokens. Steps (reading_at (here.spot.rest ++ 41 ∷ more) place names before) (reading_at (41 ∷ more) place names tokens)) (sym (append-nil before))
      (subst (λ rest. Steps (reading_at (rest ++ 41 ∷ more) place names before) (reading_at (41 ∷ more) place names before)) (sym ended)
      (Steps.none (reading_at (41 ∷ more) place names before)));
}

-- a blank or a comment
again-gap : (old next last : Reading) (more : Bytes) (place : Place) (names : List Bytes) (before : List Token) → (s : SkipsGap old next) →
    IsReadAgain next last more (past place s.piece) names before → IsReadAgain old last more place names before
again-gap old next last more place names before s r = record {
  own = r.own;
  taken = r.taken ∙ ap (λ tokens. tokens ++ r.own) s.tokens;
  inside = r.inside;
  again = r.again;
  same = r.same;
  end = r.end;
  steps = Steps.more (reading_at (old.spot.rest ++ 41 ∷ more) place names before) (reading_at (next.spot.rest ++ 41 ∷ more) (past place s.piece) names before)
      (reading_at (41 ∷ more) r.end names (before ++ r.again))
      (inl (record {
        piece = s.piece;
        gap = s.gap;
        names = refl;
        tokens = refl;
        moved = record { text = ap (λ l. l ++ 41 ∷ more) s.moved.text ∙ append_assoc s.piece next.spot.rest (41 ∷ more); place = refl };
      })) r.steps;
}

abbrev token_at : TokenKind → Place → Token
token_at k place = record { kind = k; place = place }

-- the longest token
again-token : (old next last : Reading) (more : Bytes) (place : Place) (names : List Bytes) (before : List Token) → (s : TakesToken old next) → HasAdded next.names names →
    IsReadAgain next last more (past place s.piece) names (before ++ token_at s.kind place ∷ []) → IsReadAgain old last more place names before
again-token old next last more place names before s added r =
    let t = token_at s.kind place in
    let o = token_at s.kind old.spot.place in
    let known = spelled_later s.kind s.piece old.names names s.spelled (subst (λ l. HasAdded l names) s.names added) in
    let text : old.spot.rest ++ 41 ∷ more ≡ s.piece ++ (next.spot.rest ++ 41 ∷ more) =
    ap (λ l. l ++ 41 ∷ more) s.moved.text ∙ append_assoc s.piece next.spot.rest (41 ∷ more) in
    let longest : IsLongest (old.spot.rest ++ 41 ∷ more) s.piece =
    subst (λ l. IsLongest l s.piece) (sym text)
    (still_longest 41 close-ends old.names s.kind s.piece next.spot.rest more s.spelled (subst (λ l. IsLongest l s.piece) s.moved.text s.longest)) in
    record {
      own = o ∷ r.own;
      taken = r.taken ∙ ap (λ l. l ++ r.own) s.tokens ∙ append_assoc old.tokens (o ∷ []) r.own;
      inside = (spelled-inside old.names s.kind s.piece s.spelled, r.inside);
      again = t ∷ r.again;
      same = ap (λ l. s.kind ∷ l) r.same;
      end = r.end;
      steps = Steps.more (reading_at (old.spot.rest ++ 41 ∷ more) place names before) (reading_at (next.spot.rest ++ 41 ∷ more) (past place s.piece) names (before ++ t ∷ []))
          (reading_at (41 ∷ more) r.end names (before ++ t ∷ r.again))
          (inr (record { piece = s.piece; kind = s.kind; spelled = known.0; longest = longest; moved = record { text = text; place = refl }; names = sym known.1; tokens = refl }))
          (subst (λ tokens. Steps (reading_at (next.spot.rest ++ 41 ∷ more) (past place s.piece) names (before ++ t ∷ [])) (reading_at (41 ∷ more) r.end names tokens))
          (append_assoc before (t ∷ []) r.again) r.steps);
    }

pub rests_read_again : RestsAreReadAgain
rests_read_again old last more place names before (Steps.none here) ended added = again-none here more place names before ended
rests_read_again old last more place names before (Steps.more first next new (inl s) rest) ended added =
    again-gap first next new more place names before s (rests_read_again next new more (past place s.piece) names before rest ended added)
rests_read_again old last more place names before (Steps.more first next new (inr s) rest) ended added =
    again-token first next new more place names before s (HasAdded-then next.names new.names names (steps_added next new rest) added)
    (rests_read_again next new more (past place s.piece) names (before ++ token_at s.kind place ∷ []) rest ended added)

-- ---- later names

abbrev with_names : List Bytes → Reading → Reading
with_names names here = record { spot = here.spot; names = names; tokens = here.tokens }

steps_later : (later : List Bytes) (old last : Reading) → Steps old last → HasAdded last.names later → Steps (with_names later old) (with_names later last)
steps_later later old last (Steps.none here) added = Steps.none (with_names later here)
steps_later later old last (Steps.more first next new (inl s) rest) added =
    Steps.more (with_names later first) (with_names later next) (with_names later new)
    (inl (record { piece = s.piece; gap = s.gap; moved = s.moved; names = refl; tokens = s.tokens })) (steps_later later next new rest added)
steps_later later old last (Steps.more first next new (inr s) rest) added =
    let next_added = HasAdded-then next.names new.names later (steps_added next new rest) added in
    let known = spelled_later s.kind s.piece first.names later s.spelled (subst (λ l. HasAdded l later) s.names next_added) in
    Steps.more (with_names later first) (with_names later next) (with_names later new)
    (inr (record { piece = s.piece; kind = s.kind; spelled = known.0; longest = s.longest; moved = s.moved; names = sym known.1; tokens = s.tokens }))
    (steps_later later next new rest added)

pub later_names_change_nothing : LaterNamesChangeNothing
later_names_change_nothing names after later text tokens h added = record {
  last = with_names later h.last;
  steps = steps_later later (start_of names text) h.last h.steps (subst (λ l. HasAdded l later) h.named added);
  ended = h.ended;
  named = refl;
  read = h.read;
}
