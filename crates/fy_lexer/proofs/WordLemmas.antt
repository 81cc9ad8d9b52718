-- Names, numbers, symbols and comments: the longest, and where there is none.
use Rattle.std.proofs.Common.{◌≡◌, ℕ, ℤ, pos, ◌+◌, ◌≤◌, Bool, true, false, not, ◌||◌, cond, eqb, if◌then◌else◌, List, [], ◌∷◌, ◌++◌, length, refl, sym, ap, subst, ◌∙◌, arith, Option, Some, None, is_some, append_assoc, append-nil, inl, inr, slice_get, IsTrue, IsSomeAnd}
use Rattle.std.specs.List.{list_all, prefix_len}
use Rattle.std.proofs.lemmas.Bool.Decides.{nat_tests}
use Rattle.fy_base.specs.Outside.{Bytes}
use Rattle.fy_types.specs.Names.{number_of, with_name}
use Rattle.fy_types.specs.Words.{is_letter, is_digit, is_name_byte, is_name_like}
use Rattle.fy_lexer.specs.declared.error.LexError.TheVariants.{BadByte}
use Rattle.fy_lexer.specs.declared.token.Keyword.{Keyword}
use Rattle.fy_lexer.specs.declared.token.Symbol.{Symbol}
use Rattle.fy_lexer.specs.declared.token.TokenKind.{TokenKind}
use Rattle.fy_lexer.specs.declared.token.TokenKind.TheVariants.{Ident, Number, Letter, Str, Word, Sym, End}
use Rattle.fy_lexer.specs.Spellings.{Spells, keyword_of, symbol_of, is_numeral, decimal}
use Rattle.fy_lexer.specs.Pieces.{is_blank, IsLongest, HasNoPiece, IsUnclosed, IsLargeNumber}
use Rattle.fy_lexer.specs.Reading.{PieceFault, TakesGap, TakesLongest, TakesNamed, begins_other}
use Rattle.fy_lexer.specs.Spot.{Spot, Moved}
use Rattle.fy_lexer.proofs.ClassLemmas.{class_of, kind_class, class-letter, class-digit, class-brace, class-other, keyword-like, no_keyword-word, like-bytes, symbol-class, symbol-short}
use Rattle.fy_lexer.proofs.LiteralLemmas.{same-class, no-gap, bad-behind, cut-behind}
use Rattle.fy_lexer.proofs.ReadingLemmas.{Took, Moved-one, Moved-front, Moved-then}
use Rattle.fy_lexer.proofs.RunLemmas.{and-left, and-right, and-both, run-longest}

-- a run that begins with a byte of its class has that byte
pub run-filled : (p : ℕ → Bool) (rest new piece : Bytes) → IsSomeAnd (slice_get rest 0) (λ b. IsTrue (p b)) → rest ≡ piece ++ new → prefix_len p new ≡ 0 → (b : ℕ) × (more : Bytes) × (piece ≡ b ∷ more) × (p b ≡ true)
run-filled p [] new piece h e s = absurd h
run-filled p (x ∷ rest) new [] h e s =
    let w : cond (p x) (1 + prefix_len p rest) 0 ≡ 0 = ap (prefix_len p) e ∙ s in
    let v : 1 + prefix_len p rest ≡ 0 = sym (ap (λ t. cond t (1 + prefix_len p rest) 0) h) ∙ w in
    absurd (omega (arith, v))
run-filled p (x ∷ rest) new (b ∷ more) h e s = let i : x ≡ b = cc in (b, more, refl, ap p (sym i) ∙ h)

-- names
name_bytes : (names : List Bytes) (kind : TokenKind) (piece : Bytes) → Spells names kind piece → kind_class kind ≡ 1 → list_all is_name_byte piece ≡ true
name_bytes names (Ident name) piece h e = like-bytes piece (and-left (is_name_like piece) _ h.0)
name_bytes names (Word keyword) piece h e = like-bytes piece (keyword-like piece keyword h)
name_bytes names (Number n) piece h e = absurd (omega (arith, e))
name_bytes names (Letter value) piece h e = absurd (omega (arith, e))
name_bytes names (Str values) piece h e = absurd (omega (arith, e))
name_bytes names (Sym symbol) piece h e = absurd (omega (arith, e))
name_bytes names End piece h e = absurd h

pub name-longest : (text : Bytes) (b : ℕ) (more r : Bytes) → is_letter b ≡ true → prefix_len is_name_byte r ≡ 0 → text ≡ b ∷ more ++ r → IsLongest text (b ∷ more)
name-longest text b more r h s e longer rest f token =
    let i = sym e ∙ f in
    let c = same-class token.names token.kind b (more ++ r) longer rest token.spelled i ∙ class-letter b h in
    run-longest is_name_byte (b ∷ more) longer r rest (name_bytes token.names token.kind longer token.spelled c) s i

-- what begins with a letter and goes on with bytes of names is like a name
name_like : (b : ℕ) (more : Bytes) → is_letter b ≡ true → list_all is_name_byte (b ∷ more) ≡ true → is_name_like (b ∷ more) ≡ true
name_like b more h k = and-both _ _ h (and-right _ _ k)

-- the first byte is both what the text begins with and what the run begins with
first_letter : (rest new : Bytes) (b : ℕ) (more : Bytes) → IsSomeAnd (slice_get rest 0) (λ c. IsTrue (is_letter c)) → rest ≡ (b ∷ more) ++ new → is_letter b ≡ true
first_letter [] new b more h e = absurd h
first_letter (x ∷ rest) new b more h e = let i : x ≡ b = cc in ap is_letter (sym i) ∙ h

letter_name : (o : Option ℕ) → IsSomeAnd o (λ c. IsTrue (is_letter c)) → IsSomeAnd o (λ c. IsTrue (is_name_byte c))
letter_name None h = h
letter_name (Some c) h = ap (λ t. t || (is_digit c || (eqb c 95))) h

pub record IsNameRun (old : Spot) (piece : Bytes) (new : Spot) : Type 0 where
  pub like : is_name_like piece ≡ true
  pub longest : IsLongest old.rest piece

pub name-run : (old new : Spot) (piece : Bytes) → IsSomeAnd (slice_get old.rest 0) (λ c. IsTrue (is_letter c)) → Moved old piece new → list_all is_name_byte piece ≡ true → prefix_len is_name_byte new.rest ≡ 0 → IsNameRun old piece new
name-run old new piece h m all s =
    let f = run-filled is_name_byte old.rest new.rest piece (letter_name _ h) m.text s in
    let text : old.rest ≡ (f.0 ∷ f.1) ++ new.rest = m.text ∙ ap (λ l. l ++ new.rest) f.2 in
    let letter = first_letter old.rest new.rest f.0 f.1 h text in
    record {
      like = ap is_name_like f.2 ∙ name_like f.0 f.1 letter (sym (ap (list_all is_name_byte) f.2) ∙ all);
      longest = subst (IsLongest old.rest) (sym f.2) (name-longest old.rest f.0 f.1 new.rest letter s text);
    }

pub takes-word : (names after : List Bytes) (old new : Spot) (piece : Bytes) (keyword : Keyword) → IsNameRun old piece new → Moved old piece new → keyword_of piece ≡ Some keyword → after ≡ names → TakesNamed names old (Word keyword) new after
takes-word names after old new piece keyword r m h e = record { piece = piece; spelled = h; longest = r.longest; moved = m; named = e }

pub takes-ident : (names after : List Bytes) (old new : Spot) (piece : Bytes) (name : ℕ) → IsNameRun old piece new → Moved old piece new → keyword_of piece ≡ None → name ≡ number_of names piece → after ≡ with_name names piece → TakesNamed names old (Ident name) new after
takes-ident names after old new piece name r m h n e =
    record {
      piece = piece;
      spelled = (and-both _ _ r.like (ap not (no_keyword-word piece h)), n);
      longest = r.longest;
      moved = m;
      named = e;
    }

-- numbers
digit_bytes : (names : List Bytes) (kind : TokenKind) (piece : Bytes) → Spells names kind piece → kind_class kind ≡ 2 → list_all is_digit piece ≡ true
digit_bytes names (Ident name) piece h e = absurd (omega (arith, e))
digit_bytes names (Word keyword) piece h e = absurd (omega (arith, e))
digit_bytes names (Number n) [] h e = refl
digit_bytes names (Number n) (b ∷ piece) h e = h.0
digit_bytes names (Letter value) piece h e = absurd (omega (arith, e))
digit_bytes names (Str values) piece h e = absurd (omega (arith, e))
digit_bytes names (Sym symbol) piece h e = absurd (omega (arith, e))
digit_bytes names End piece h e = absurd h

pub number-longest : (text : Bytes) (b : ℕ) (more r : Bytes) → is_digit b ≡ true → prefix_len is_digit r ≡ 0 → text ≡ b ∷ more ++ r → IsLongest text (b ∷ more)
number-longest text b more r h s e longer rest f token =
    let i = sym e ∙ f in
    let c = same-class token.names token.kind b (more ++ r) longer rest token.spelled i ∙ class-digit b h in
    run-longest is_digit (b ∷ more) longer r rest (digit_bytes token.names token.kind longer token.spelled c) s i

pub record IsNumberRun (old : Spot) (piece : Bytes) (new : Spot) : Type 0 where
  pub numeral : is_numeral piece ≡ true
  pub longest : IsLongest old.rest piece

pub number-run : (old new : Spot) (piece : Bytes) → IsSomeAnd (slice_get old.rest 0) (λ c. IsTrue (is_digit c)) → Moved old piece new → list_all is_digit piece ≡ true → prefix_len is_digit new.rest ≡ 0 → IsNumberRun old piece new
number-run old new piece h m all s =
    let f = run-filled is_digit old.rest new.rest piece h m.text s in
    let text : old.rest ≡ (f.0 ∷ f.1) ++ new.rest = m.text ∙ ap (λ l. l ++ new.rest) f.2 in
    record {
      numeral = ap is_numeral f.2 ∙ sym (ap (list_all is_digit) f.2) ∙ all;
      longest = subst (IsLongest old.rest) (sym f.2) (number-longest old.rest f.0 f.1 new.rest f.3 s text);
    }

pub takes-number : (old new : Spot) (piece : Bytes) (n : ℤ) → IsNumberRun old piece new → Moved old piece new → n ≡ pos (decimal piece) → (names : List Bytes) → TakesLongest names old (Number n) new
takes-number old new piece n r m h names = record { piece = piece; spelled = (r.numeral, h); longest = r.longest; moved = m }

pub large-number : (old new : Spot) (piece : Bytes) → IsNumberRun old piece new → Moved old piece new → 9223372036854775808 ≤ decimal piece → IsLargeNumber old.rest
large-number old new piece r m h = record { piece = piece; rest = new.rest; is = m.text; numeral = r.numeral; longest = r.longest; large = h }

-- symbols
symbol_kind : (names : List Bytes) (kind : TokenKind) (piece : Bytes) → Spells names kind piece → kind_class kind ≡ 7 → (symbol : Symbol) × (symbol_of piece ≡ Some symbol)
symbol_kind names (Ident name) piece h e = absurd (omega (arith, e))
symbol_kind names (Word keyword) piece h e = absurd (omega (arith, e))
symbol_kind names (Number n) piece h e = absurd (omega (arith, e))
symbol_kind names (Letter value) piece h e = absurd (omega (arith, e))
symbol_kind names (Str values) piece h e = absurd (omega (arith, e))
symbol_kind names (Sym symbol) piece h e = (symbol, h)
symbol_kind names End piece h e = absurd h

pub takes-long-symbol : (old mid new : Spot) (b c : ℕ) (symbol : Symbol) → Took old b mid → Took mid c new → symbol_of (b ∷ c ∷ []) ≡ Some symbol → (names : List Bytes) → TakesLongest names old (Sym symbol) new
takes-long-symbol old mid new b c symbol t u h names =
    record {
      piece = b ∷ c ∷ [];
      spelled = h;
      longest = λ longer rest f token.
          let text : old.rest ≡ b ∷ mid.rest = t.0 in
          let k = same-class token.names token.kind b mid.rest longer rest token.spelled (sym text ∙ f) ∙ symbol-class b (c ∷ []) symbol h in
          let s = symbol_kind token.names token.kind longer token.spelled k in
          symbol-short longer s.0 s.1;
      moved = Moved-then old mid new (b ∷ []) (c ∷ []) (Moved-one old mid b t) (Moved-one mid new c u);
    }

-- a symbol of one byte, where the next byte makes none of two
two_bytes : (longer : Bytes) (b : ℕ) (mid rest : Bytes) → ((c : ℕ) → slice_get mid 0 ≡ Some c → symbol_of (b ∷ c ∷ []) ≡ None) → b ∷ mid ≡ longer ++ rest → length longer ≤ 2 → (symbol : Symbol) → symbol_of longer ≡ Some symbol → length longer ≤ 1
two_bytes [] b mid rest n e l s h = omega arith
two_bytes (x ∷ []) b mid rest n e l s h = omega arith
two_bytes (x ∷ y ∷ []) b mid rest n e l s h =
    let i : x ≡ b = cc in
    let j : mid ≡ y ∷ rest = cc in
    let k = n y (ap (λ m. slice_get m 0) j) in
    let w : symbol_of (x ∷ y ∷ []) ≡ None = ap (λ z. symbol_of (z ∷ y ∷ [])) i ∙ k in
    absurd (let u : Some s ≡ None = sym h ∙ w in cc)
two_bytes (x ∷ y ∷ z ∷ longer) b mid rest n e l s h = absurd (omega (arith, l))

pub takes-short-symbol : (old mid : Spot) (b : ℕ) (symbol : Symbol) → Took old b mid → symbol_of (b ∷ []) ≡ Some symbol → ((c : ℕ) → slice_get mid.rest 0 ≡ Some c → symbol_of (b ∷ c ∷ []) ≡ None) → (names : List Bytes) → TakesLongest names old (Sym symbol) mid
takes-short-symbol old mid b symbol t h n names =
    record {
      piece = b ∷ [];
      spelled = h;
      longest = λ longer rest f token.
          let text : old.rest ≡ b ∷ mid.rest = t.0 in
          let k = same-class token.names token.kind b mid.rest longer rest token.spelled (sym text ∙ f) ∙ symbol-class b [] symbol h in
          let s = symbol_kind token.names token.kind longer token.spelled k in
          two_bytes longer b mid.rest rest n (sym text ∙ f) (symbol-short longer s.0 s.1) s.0 s.1;
      moved = Moved-one old mid b t;
    }

no_class_0 : (names : List Bytes) (kind : TokenKind) → kind_class kind ≡ 0 → ⊥
no_class_0 names (Ident name) e = omega (arith, e)
no_class_0 names (Word keyword) e = omega (arith, e)
no_class_0 names (Number n) e = omega (arith, e)
no_class_0 names (Letter value) e = omega (arith, e)
no_class_0 names (Str values) e = omega (arith, e)
no_class_0 names (Sym symbol) e = omega (arith, e)
no_class_0 names End e = omega (arith, e)

no_piece_at : (b : ℕ) → class_of b ≡ 0 → (y : Bytes) → HasNoPiece (b ∷ y)
no_piece_at b h y piece rest e (inl gap) = no-gap b y piece rest (λ k. let c = sym k ∙ h in omega (arith, c)) (λ k. let c = sym k ∙ h in omega (arith, c)) gap e
no_piece_at b h y piece rest e (inr token) = no_class_0 token.names token.kind (same-class token.names token.kind b y piece rest token.spelled e ∙ h)

pub bad-symbol : (old mid : Spot) (b : ℕ) → Took old b mid → begins_other b ≡ true → symbol_of (b ∷ []) ≡ None → PieceFault old (BadByte old.place)
bad-symbol old mid b t h n =
    let k : class_of b ≡ 0 = class-other b h ∙ ap (λ s. if is_some s then 7 else 0) n in (
      [],
      bad-behind old.rest [] [] b mid.rest t.0 (no_piece_at b k) (32 ∷ [], inl (inl (32, refl, refl))),
      refl,
    )

-- comments
pub takes-comment : (old mid last new : Spot) (inside : Bytes) (b : ℕ) → Took old 123 mid → Moved mid inside last → list_all (λ c. not (eqb c 125)) inside ≡ true → prefix_len (λ c. not (eqb c 125)) last.rest ≡ 0 → Took last b new → TakesGap old new
takes-comment old mid last new inside b t m all s u =
    let w : cond (not (eqb b 125)) (1 + prefix_len (λ c. not (eqb c 125)) new.rest) 0 ≡ 0 = sym (ap (prefix_len (λ c. not (eqb c 125))) u.0) ∙ s in
    let i : b ≡ 125 = closing b (prefix_len (λ c. not (eqb c 125)) new.rest) w in
    record {
      piece = 123 ∷ inside ++ 125 ∷ [];
      gap = inr (record { inside = inside; is = refl; open_inside = all });
      moved = Moved-front old mid new 123 (inside ++ 125 ∷ []) t (Moved-then mid last new inside (125 ∷ []) m (Moved-one last new 125 (subst (λ x. Took last x new) i u)));
    }
  where
    closing : (c n : ℕ) → cond (not (eqb c 125)) (1 + n) 0 ≡ 0 → c ≡ 125
    closing c n w = grind (arith, nat_tests)

comment_kind : (names : List Bytes) (kind : TokenKind) → kind_class kind ≡ 6 → ⊥
comment_kind names (Ident name) e = omega (arith, e)
comment_kind names (Word keyword) e = omega (arith, e)
comment_kind names (Number n) e = omega (arith, e)
comment_kind names (Letter value) e = omega (arith, e)
comment_kind names (Str values) e = omega (arith, e)
comment_kind names (Sym symbol) e = omega (arith, e)
comment_kind names End e = omega (arith, e)

open_front : (a b : Bytes) → list_all (λ c. not (eqb c 125)) (a ++ 125 ∷ b) ≡ true → ⊥
open_front [] b h = let e : false ≡ true = h in cc
open_front (x ∷ a) b h = open_front a b (and-right _ _ h)

no-comment : (inside : Bytes) → list_all (λ c. not (eqb c 125)) inside ≡ true → HasNoPiece (123 ∷ inside)
no-comment inside all piece rest e (inl (inl h)) =
    let i : h.0 ≡ 123 = let p = h.1 in let q : 123 ∷ inside ≡ h.0 ∷ rest = e ∙ ap (λ l. l ++ rest) p in cc in
    let f : is_blank 123 ≡ true = ap is_blank (sym i) ∙ h.2 in let g : false ≡ true = f in cc
no-comment inside all piece rest e (inl (inr h)) =
    let q : 123 ∷ inside ≡ 123 ∷ ((h.inside ++ 125 ∷ []) ++ rest) = e ∙ ap (λ l. l ++ rest) h.is in
    let r : inside ≡ (h.inside ++ 125 ∷ []) ++ rest = cc in
    open_front h.inside rest (sym (ap (list_all (λ c. not (eqb c 125))) (r ∙ append_assoc h.inside (125 ∷ []) rest)) ∙ all)
no-comment inside all piece rest e (inr token) =
    comment_kind token.names token.kind (same-class token.names token.kind 123 inside piece rest token.spelled e ∙ class-brace 123 refl)

pub cut-comment : (old mid last : Spot) (inside : Bytes) → Took old 123 mid → Moved mid inside last → list_all (λ c. not (eqb c 125)) inside ≡ true → last.rest ≡ [] → IsUnclosed old.rest
cut-comment old mid last inside t m all e =
    let text : old.rest ≡ 123 ∷ inside = t.0 ∙ ap (λ l. 123 ∷ l) (m.text ∙ ap (λ l. inside ++ l) e ∙ append-nil inside) in
    cut-behind old.rest (123 ∷ inside) text (omega arith) (no-comment inside all)
    (125 ∷ [], inl (inr (record { inside = inside; is = refl; open_inside = all })))
