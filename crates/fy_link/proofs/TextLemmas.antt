-- How the joined text is read.
use Rattle.std.proofs.Common.{◌≡◌, ◌≤◌, Bool, true, not, ◌||◌, eqb, nat_le, List, [], ◌∷◌, ◌++◌, length, refl, sym, ap, subst, ◌∙◌, arith, append_assoc, inl, inr}
use Rattle.std.specs.Prelude.{IsTrue}
use Rattle.std.specs.List.{list_all}
use Rattle.std.proofs.lemmas.Bool.Decides.{nat_tests}
use Rattle.std.proofs.lemmas.List.{append_cancel_left}
use Rattle.fy_base.specs.Outside.{Bytes}
use Rattle.fy_base.specs.Places.{first_place}
use Rattle.fy_base.specs.declared.data.Place.{Place}
use Rattle.fy_types.specs.Names.{number_of, with_name}
use Rattle.fy_types.specs.Words.{is_identifier}
use Rattle.fy_lexer.specs.declared.token.Token.{Token}
use Rattle.fy_lexer.specs.declared.token.TokenKind.{TokenKind}
use Rattle.fy_lexer.specs.declared.token.TokenKind.TheVariants as kind
use Rattle.fy_lexer.specs.declared.token.Keyword.TheVariants as word
use Rattle.fy_lexer.specs.declared.token.Symbol.TheVariants as symbol
use Rattle.fy_lexer.specs.Again.{kinds, reading_at, IsReadAgain}
use Rattle.fy_lexer.specs.Spellings.{Spells, symbols, keywords}
use Rattle.fy_lexer.specs.Pieces.{IsLongest}
use Rattle.fy_lexer.specs.Spot.{past}
use Rattle.fy_lexer.specs.Tokens.{Reading, Step, Steps, names_past, IsTokensOf, HasAdded}
use Rattle.fy_lexer.proofs.AgainLemmas.{rests_read_again}
use Rattle.fy_lexer.proofs.ClassLemmas.{kind_class, first-token, symbol-class}
use Rattle.fy_lexer.proofs.OverLemmas.{blank-ends, longest_alone, longest_before}
use Rattle.fy_lexer.proofs.RunLemmas.{lookup-all}
use Rattle.fy_syntax.specs.Signs.{token, word_at, symbol_at, ident_at}
use Rattle.fy_link.specs.Joined.{TextPart, joined_text}
use Rattle.fy_link.proofs.ProgramLemmas.{SourceUnit, IsJoined}

-- a unit with its name and the bytes behind its header, which are read to the end as its tokens; the list has all names
pub record TextUnit (names : List Bytes) : Type 0 where
  pub source : SourceUnit
  pub part : TextPart
  pub identifier : IsTrue (is_identifier part.name)
  pub number : source.unit.source.own.name ≡ number_of names part.name
  pub known : with_name names part.name ≡ names
  pub old : Reading
  pub last : Reading
  pub rest : old.spot.rest ≡ part.tail
  pub steps : Steps old last
  pub ended : last.spot.rest ≡ []
  pub added : HasAdded last.names names
  pub read : last.tokens ≡ old.tokens ++ source.tail

abbrev pub sources_in : {names : List Bytes} → List (TextUnit names) → List SourceUnit
sources_in [] = []
sources_in (u ∷ more) = u.source ∷ sources_in more

abbrev pub parts_in : {names : List Bytes} → List (TextUnit names) → List TextPart
parts_in [] = []
parts_in (u ∷ more) = u.part ∷ parts_in more

-- ---- single steps

steps_then : (a b c : Reading) → Steps a b → Steps b c → Steps a c
steps_then a b c (Steps.none here) s = s
steps_then a b c (Steps.more first next new step rest) s = Steps.more first next c step (steps_then next new c rest s)

take_step : (names : List Bytes) (k : TokenKind) (piece rest : Bytes) (at : Place) (done : List Token) → Spells names k piece → names_past k piece names ≡ names → IsLongest (piece ++ rest) piece →
    Step (reading_at (piece ++ rest) at names done) (reading_at rest (past at piece) names (done ++ token k at ∷ []))
take_step names k piece rest at done h e l =
    inr (record { piece = piece; kind = k; spelled = h; longest = l; moved = record { text = refl; place = refl }; names = sym e; tokens = refl })

blank_step : (names : List Bytes) (rest : Bytes) (at : Place) (done : List Token) → Step (reading_at (32 ∷ rest) at names done) (reading_at rest (past at (32 ∷ [])) names done)
blank_step names rest at done = inl (record { piece = 32 ∷ []; gap = inl (32, refl, refl); moved = record { text = refl; place = refl }; names = refl; tokens = refl })

before_blank : (names : List Bytes) (k : TokenKind) (piece y : Bytes) → Spells names k piece → IsLongest (piece ++ 32 ∷ y) piece
before_blank names k piece y h = longest_before 32 blank-ends names k piece y h

-- an opening parenthesis is a token of its own
abbrev alone : Bytes → Bool
alone [] = true
alone (b ∷ bytes) = not (eqb b 40) || nat_le (length bytes) 0

symbols_alone : list_all (λ e. alone e.0) symbols ≡ true
unfolding symbols
symbols_alone = refl

short_bytes : (bytes : Bytes) → nat_le (length bytes) 0 ≡ true → length bytes ≤ 0
short_bytes [] e = omega arith
short_bytes (b ∷ bytes) e = absurd (grind (arith, nat_tests))

let_word : (names : List Bytes) → Spells names (kind.Word word.Let) (108 ∷ 101 ∷ 116 ∷ [])
unfolding keywords
let_word names = refl

in_word : (names : List Bytes) → Spells names (kind.Word word.In) (105 ∷ 110 ∷ [])
unfolding keywords
in_word names = refl

equals_symbol : (names : List Bytes) → Spells names (kind.Sym symbol.EqualsEquals) (61 ∷ 61 ∷ [])
unfolding symbols
equals_symbol names = refl

open_symbol : (names : List Bytes) → Spells names (kind.Sym symbol.OpenParen) (40 ∷ [])
unfolding symbols
open_symbol names = refl

close_symbol : (names : List Bytes) → Spells names (kind.Sym symbol.CloseParen) (41 ∷ [])
unfolding symbols
close_symbol names = refl

open_class : (names : List Bytes) (k : TokenKind) (bytes : Bytes) → Spells names k (40 ∷ bytes) → 7 ≡ kind_class k
open_class names k bytes h = sym (symbol-class 40 [] symbol.OpenParen (open_symbol [])) ∙ first-token names k 40 bytes h

open_longest : (y : Bytes) → IsLongest (40 ∷ y) (40 ∷ [])
open_longest y [] rest e t = omega arith
open_longest y (c ∷ bytes) rest e t =
    let i : c ≡ 40 = cc in by t.kind (subst (λ x. Spells t.names t.kind (x ∷ bytes)) i t.spelled)
  where
    by : (k : TokenKind) → Spells t.names k (40 ∷ bytes) → length (c ∷ bytes) ≤ 1
    by (kind.Sym s) h = let l = short_bytes bytes (lookup-all alone symbols (40 ∷ bytes) s symbols_alone h) in omega (arith, l)
    by (kind.Ident n) h = absurd (omega (arith, open_class t.names (kind.Ident n) bytes h))
    by (kind.Word n) h = absurd (omega (arith, open_class t.names (kind.Word n) bytes h))
    by (kind.Number n) h = absurd (omega (arith, open_class t.names (kind.Number n) bytes h))
    by (kind.Letter n) h = absurd (omega (arith, open_class t.names (kind.Letter n) bytes h))
    by (kind.Str n) h = absurd (omega (arith, open_class t.names (kind.Str n) bytes h))
    by kind.End h = absurd h

-- ---- a unit's tail, before a closing parenthesis

record Tail (names : List Bytes) (u : TextUnit names) (y : Bytes) (at : Place) (done : List Token) : Type 0 where
  again : List Token
  same : kinds u.source.tail ≡ kinds again
  end_at : Place
  steps : Steps (reading_at (u.part.tail ++ 41 ∷ y) at names done) (reading_at (41 ∷ y) end_at names (done ++ again))

tail_of : (names : List Bytes) (u : TextUnit names) (y : Bytes) (at : Place) (done : List Token) → Tail names u y at done
tail_of names u y at done =
    let r : IsReadAgain u.old u.last y at names done = rests_read_again u.old u.last y at names done u.steps u.ended u.added in
    let e : r.own ≡ u.source.tail = append_cancel_left u.old.tokens r.own u.source.tail (sym r.taken ∙ u.read) in
    record {
      again = r.again;
      same = ap kinds (sym e) ∙ r.same;
      end_at = r.end;
      steps = subst (λ t. Steps (reading_at (t ++ 41 ∷ y) at names done) (reading_at (41 ∷ y) r.end names (done ++ r.again))) u.rest r.steps;
    }

-- ---- the whole text

record Reads (names : List Bytes) (u : TextUnit names) (more : List (TextUnit names)) (at : Place) (done : List Token) : Type 0 where
  tokens : List Token
  end_at : Place
  joined : IsJoined u.source (sources_in more) (tokens ++ token kind.End end_at ∷ [])
  steps : Steps (reading_at (joined_text (u.part ∷ parts_in more)) at names done) (reading_at [] end_at names (done ++ tokens))

gather : (done : List Token) (t1 t2 t3 t4 t6 t7 : Token) (us ts : List Token) →
    ((((((((done ++ t1 ∷ []) ++ t2 ∷ []) ++ t3 ∷ []) ++ t4 ∷ []) ++ us) ++ t6 ∷ []) ++ t7 ∷ []) ++ ts) ≡ done ++ (t1 ∷ t2 ∷ t3 ∷ t4 ∷ (us ++ t6 ∷ t7 ∷ ts))
gather [] t1 t2 t3 t4 t6 t7 us ts = ap (λ l. t1 ∷ t2 ∷ t3 ∷ t4 ∷ l) (append_assoc (us ++ t6 ∷ []) (t7 ∷ []) ts ∙ append_assoc us (t6 ∷ []) (t7 ∷ ts))
gather (d ∷ done) t1 t2 t3 t4 t6 t7 us ts = ap (λ l. d ∷ l) (gather done t1 t2 t3 t4 t6 t7 us ts)

-- `( .. )`
reads-last : (names : List Bytes) (u : TextUnit names) (at : Place) (done : List Token) → Reads names u [] at done
reads-last names u at done =
    let p1 = past at (40 ∷ []) in
    let d1 = done ++ symbol_at symbol.OpenParen at ∷ [] in
    let t = tail_of names u [] p1 d1 in
    let d2 = d1 ++ t.again in
    let p2 = past t.end_at (41 ∷ []) in
    let c = symbol_at symbol.CloseParen t.end_at in
    let d3 = d2 ++ c ∷ [] in
    let all : List Token = symbol_at symbol.OpenParen at ∷ (t.again ++ c ∷ []) in
    let is : d3 ≡ done ++ all = ap (λ l. l ++ c ∷ []) (append_assoc done (symbol_at symbol.OpenParen at ∷ []) t.again) ∙ append_assoc done (symbol_at symbol.OpenParen at ∷ t.again) (c ∷ []) in
    record {
      tokens = all;
      end_at = p2;
      joined = (at, t.end_at, p2, t.again, t.same, ap (λ l. symbol_at symbol.OpenParen at ∷ l) (append_assoc t.again (c ∷ []) (token kind.End p2 ∷ [])));
      steps = subst (λ l. Steps (reading_at (joined_text (u.part ∷ [])) at names done) (reading_at [] p2 names l)) is
          (Steps.more _ _ _ (take_step names (kind.Sym symbol.OpenParen) (40 ∷ []) (u.part.tail ++ 41 ∷ []) at done (open_symbol names) refl (open_longest (u.part.tail ++ 41 ∷ [])))
          (steps_then _ _ _ t.steps
          (Steps.more _ _ _ (take_step names (kind.Sym symbol.CloseParen) (41 ∷ []) [] t.end_at d2 (close_symbol names) refl (longest_alone (41 ∷ []))) (Steps.none (reading_at [] p2 names d3)))));
    }

-- `let NAME == ( .. ) in ` and more
reads-before : (names : List Bytes) (v : TextUnit names) (more : List (TextUnit names)) (u : TextUnit names) (at : Place) (done : List Token) →
    ((at : Place) (done : List Token) → Reads names v more at done) → Reads names u (v ∷ more) at done
reads-before names v more u at done again =
    let name = u.source.unit.source.own.name in
    let rest0 = joined_text (v.part ∷ parts_in more) in
    let rest_in : Bytes = 105 ∷ 110 ∷ 32 ∷ rest0 in
    let rest_close : Bytes = 32 ∷ rest_in in
    let rest_tail : Bytes = u.part.tail ++ 41 ∷ rest_close in
    let rest_open : Bytes = 40 ∷ rest_tail in
    let rest_equals : Bytes = 61 ∷ 61 ∷ 32 ∷ rest_open in
    let rest_name : Bytes = u.part.name ++ 32 ∷ rest_equals in
    let a1 = past at (108 ∷ 101 ∷ 116 ∷ []) in
    let a2 = past a1 (32 ∷ []) in
    let a3 = past a2 u.part.name in
    let a4 = past a3 (32 ∷ []) in
    let a5 = past a4 (61 ∷ 61 ∷ []) in
    let a6 = past a5 (32 ∷ []) in
    let a7 = past a6 (40 ∷ []) in
    let t1 = word_at word.Let at in
    let t2 = ident_at name a2 in
    let t3 = symbol_at symbol.EqualsEquals a4 in
    let t4 = symbol_at symbol.OpenParen a6 in
    let d1 = done ++ t1 ∷ [] in
    let d2 = d1 ++ t2 ∷ [] in
    let d3 = d2 ++ t3 ∷ [] in
    let d4 = d3 ++ t4 ∷ [] in
    let t = tail_of names u rest_close a7 d4 in
    let d5 = d4 ++ t.again in
    let t6 = symbol_at symbol.CloseParen t.end_at in
    let b1 = past t.end_at (41 ∷ []) in
    let b2 = past b1 (32 ∷ []) in
    let t7 = word_at word.In b2 in
    let b3 = past b2 (105 ∷ 110 ∷ []) in
    let b4 = past b3 (32 ∷ []) in
    let d6 = d5 ++ t6 ∷ [] in
    let d7 = d6 ++ t7 ∷ [] in
    let r = again b4 d7 in
    let spelled_name : Spells names (kind.Ident name) u.part.name = (u.identifier, u.number) in
    let all : List Token = t1 ∷ t2 ∷ t3 ∷ t4 ∷ (t.again ++ t6 ∷ t7 ∷ r.tokens) in
    let is : d7 ++ r.tokens ≡ done ++ all = gather done t1 t2 t3 t4 t6 t7 t.again r.tokens in
    record {
      tokens = all;
      end_at = r.end_at;
      joined = (
        at,
        a2,
        a4,
        a6,
        t.end_at,
        b2,
        t.again,
        r.tokens ++ token kind.End r.end_at ∷ [],
        t.same,
        r.joined,
        ap (λ l. t1 ∷ t2 ∷ t3 ∷ t4 ∷ l) (append_assoc t.again (t6 ∷ t7 ∷ r.tokens) (token kind.End r.end_at ∷ [])),
      );
      steps = subst (λ l. Steps (reading_at (joined_text (u.part ∷ v.part ∷ parts_in more)) at names done) (reading_at [] r.end_at names l)) is
          (Steps.more _ _ _ (take_step names (kind.Word word.Let) (108 ∷ 101 ∷ 116 ∷ []) (32 ∷ rest_name) at done (let_word names) refl (before_blank names (kind.Word word.Let) (108 ∷ 101 ∷ 116 ∷ []) rest_name (let_word names)))
          (Steps.more _ _ _ (blank_step names rest_name a1 d1)
          (Steps.more _ _ _ (take_step names (kind.Ident name) u.part.name (32 ∷ rest_equals) a2 d1 spelled_name u.known (before_blank names (kind.Ident name) u.part.name rest_equals spelled_name))
          (Steps.more _ _ _ (blank_step names rest_equals a3 d2)
          (Steps.more _ _ _ (take_step names (kind.Sym symbol.EqualsEquals) (61 ∷ 61 ∷ []) (32 ∷ rest_open) a4 d2 (equals_symbol names) refl (before_blank names (kind.Sym symbol.EqualsEquals) (61 ∷ 61 ∷ []) rest_open (equals_symbol names)))
          (Steps.more _ _ _ (blank_step names rest_open a5 d3)
          (Steps.more _ _ _ (take_step names (kind.Sym symbol.OpenParen) (40 ∷ []) rest_tail a6 d3 (open_symbol names) refl (open_longest rest_tail))
          (steps_then _ _ _ t.steps
          (Steps.more _ _ _ (take_step names (kind.Sym symbol.CloseParen) (41 ∷ []) rest_close t.end_at d5 (close_symbol names) refl (before_blank names (kind.Sym symbol.CloseParen) (41 ∷ []) rest_in (close_symbol names)))
          (Steps.more _ _ _ (blank_step names rest_in b1 d6)
          (Steps.more _ _ _ (take_step names (kind.Word word.In) (105 ∷ 110 ∷ []) (32 ∷ rest0) b2 d6 (in_word names) refl (before_blank names (kind.Word word.In) (105 ∷ 110 ∷ []) rest0 (in_word names)))
          (Steps.more _ _ _ (blank_step names rest0 b3 d7) r.steps))))))))))));
    }

reads : (names : List Bytes) (more : List (TextUnit names)) (u : TextUnit names) (at : Place) (done : List Token) → Reads names u more at done
reads names [] u at done = reads-last names u at done
reads names (v ∷ more) u at done = reads-before names v more u at done (λ p d. reads names more v p d)

-- the joined text has tokens of the joined kinds
pub record IsReadJoined (names : List Bytes) (u : TextUnit names) (more : List (TextUnit names)) : Type 0 where
  pub tokens : List Token
  pub read : IsTokensOf names (joined_text (u.part ∷ parts_in more)) tokens names
  pub joined : IsJoined u.source (sources_in more) tokens

pub joined-read : (names : List Bytes) (u : TextUnit names) (more : List (TextUnit names)) → IsReadJoined names u more
joined-read names u more =
    let r = reads names more u first_place [] in
    record {
      tokens = r.tokens ++ token kind.End r.end_at ∷ [];
      read = record { last = reading_at [] r.end_at names r.tokens; steps = r.steps; ended = refl; named = refl; read = refl };
      joined = r.joined;
    }
