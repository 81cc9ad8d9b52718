-- Strings and characters: the longest, and where there is none.
use Rattle.std.proofs.Common.{◌≡◌, ℕ, ◌≤◌, List, [], ◌∷◌, ◌++◌, length, refl, sym, ap, subst, ◌∙◌, arith, Some, append_assoc, append-nil, length-append, ◌⊎◌, inl, inr, slice_get}
use Rattle.fy_base.specs.Outside.{Bytes}
use Rattle.fy_base.specs.declared.data.Place.{Place}
use Rattle.fy_lexer.specs.declared.error.LexError.{LexError}
use Rattle.fy_lexer.specs.declared.error.LexError.TheVariants.{BadByte, Unclosed, NumberTooLarge, TooManyTokens, OutOfMemory}
use Rattle.fy_lexer.specs.declared.token.TokenKind.{TokenKind}
use Rattle.fy_lexer.specs.declared.token.TokenKind.TheVariants.{Ident, Number, Letter, Str, Word, Sym, End}
use Rattle.fy_lexer.specs.Spellings.{Element, Elements, Spells}
use Rattle.fy_lexer.specs.Pieces.{IsGap, IsLongest, BeginsPiece, HasNoPiece, IsBadAt, IsUnclosed}
use Rattle.fy_lexer.specs.Reading.{BeginsElement, IsCut, IsMisfitBehind, ElementFault, ElementsFault, PieceFault, TakesElement, TakesElements, TakesLongest}
use Rattle.fy_lexer.specs.Spot.{Spot, past}
use Rattle.fy_lexer.proofs.ClassLemmas.{class_of, kind_class, first-token, first-gap, filled-token, filled-gap, class-quote, class-double}
use Rattle.fy_lexer.proofs.ElementLemmas.{Peeled, peel, element-head, Elements-push}
use Rattle.fy_lexer.proofs.ReadingLemmas.{Took, Moved-front, Moved-then, Moved-one, past-then}

-- a token at a byte of a class is of that class
pub same-class : (names : List Bytes) (kind : TokenKind) (b : ℕ) (y piece rest : Bytes) → Spells names kind piece → b ∷ y ≡ piece ++ rest → kind_class kind ≡ class_of b
same-class names kind b y [] rest h e = absurd (filled-token names kind h)
same-class names kind b y (x ∷ piece) rest h e = let i : x ≡ b = cc in sym (first-token names kind x piece h) ∙ ap class_of i

pub no-gap : (b : ℕ) (y piece rest : Bytes) → (class_of b ≡ 5 → ⊥) → (class_of b ≡ 6 → ⊥) → IsGap piece → b ∷ y ≡ piece ++ rest → ⊥
no-gap b y [] rest f g h e = filled-gap h
no-gap b y (x ∷ piece) rest f g h e = by (first-gap x piece h)
  where
    by : (class_of x ≡ 5) ⊎ (class_of x ≡ 6) → ⊥
    by (inl k) = let i : x ≡ b = cc in f (sym (ap class_of i) ∙ k)
    by (inr k) = let i : x ≡ b = cc in g (sym (ap class_of i) ∙ k)

-- the text can't become a piece behind these first bytes
pub bad-behind : (text front part : Bytes) (bad : ℕ) (rest : Bytes) → text ≡ front ++ (part ++ bad ∷ rest) → ((x : Bytes) → HasNoPiece (front ++ (part ++ bad ∷ x))) → BeginsPiece (front ++ part) → IsBadAt text (front ++ part)
bad-behind text front part bad rest e none begins =
    record {
      bad = bad;
      rest = rest;
      is = e ∙ sym (append_assoc front part (bad ∷ rest));
      none = subst HasNoPiece (sym e) (none rest);
      begins = begins;
      stops = λ b. none b.0 (((front ++ part) ++ bad ∷ []) ++ b.0) []
          (sym (append_assoc front part (bad ∷ b.0)) ∙ sym (append_assoc (front ++ part) (bad ∷ []) b.0) ∙ sym (append-nil _)) b.1;
    }

pub cut-behind : (text front : Bytes) → text ≡ front → 1 ≤ length front → HasNoPiece front → BeginsPiece front → IsUnclosed text
cut-behind text front e f none begins =
    record { filled = let s = ap length e in omega (arith, s, f); none = subst HasNoPiece (sym e) none; begins = subst BeginsPiece (sym e) begins }

-- neither the quote nor an element begins what follows
pub record IsStuck (quote : ℕ) (y : Bytes) : Type 0 where
  pub no_quote : (rest : Bytes) → y ≡ quote ∷ rest → ⊥
  pub no_element : (piece more : Bytes) (value : ℕ) → Element quote piece value → piece ++ more ≡ y → ⊥

pub double_no_backslash : ◌≡◌ {A = ℕ} 34 92 → ⊥
double_no_backslash e = omega (arith, e)

quote_no_backslash : ◌≡◌ {A = ℕ} 39 92 → ⊥
quote_no_backslash e = omega (arith, e)

-- the string or the character that a token of its class is
string_of : (names : List Bytes) (kind : TokenKind) (piece : Bytes) → Spells names kind piece → kind_class kind ≡ 4 → (values : Bytes) × Spells [] (Str values) piece
string_of names (Ident name) piece h e = absurd (omega (arith, e))
string_of names (Word keyword) piece h e = absurd (omega (arith, e))
string_of names (Number n) piece h e = absurd (omega (arith, e))
string_of names (Letter value) piece h e = absurd (omega (arith, e))
string_of names (Str values) piece h e = (values, h)
string_of names (Sym symbol) piece h e = absurd (omega (arith, e))
string_of names End piece h e = absurd h

character_of : (names : List Bytes) (kind : TokenKind) (piece : Bytes) → Spells names kind piece → kind_class kind ≡ 3 → (value : ℕ) × Spells [] (Letter value) piece
character_of names (Ident name) piece h e = absurd (omega (arith, e))
character_of names (Word keyword) piece h e = absurd (omega (arith, e))
character_of names (Number n) piece h e = absurd (omega (arith, e))
character_of names (Letter value) piece h e = (value, h)
character_of names (Str values) piece h e = absurd (omega (arith, e))
character_of names (Sym symbol) piece h e = absurd (omega (arith, e))
character_of names End piece h e = absurd h

-- what stands behind the opening quotes of two readings of one text
behind_quote : (quote : ℕ) (y inside piece rest : Bytes) → piece ≡ quote ∷ inside ++ quote ∷ [] → quote ∷ y ≡ piece ++ rest → y ≡ inside ++ quote ∷ rest
behind_quote quote y inside piece rest p e =
    let s : quote ∷ y ≡ quote ∷ ((inside ++ quote ∷ []) ++ rest) = e ∙ ap (λ l. l ++ rest) p in
    let t : y ≡ (inside ++ quote ∷ []) ++ rest = cc in
    t ∙ append_assoc inside (quote ∷ []) rest

-- strings
stuck_string : (y inside rest others : Bytes) → IsStuck 34 y → Elements 34 inside others → y ≡ inside ++ 34 ∷ rest → ⊥
stuck_string y inside rest [] s h e = s.no_quote rest (e ∙ ap (λ l. l ++ 34 ∷ rest) h)
stuck_string y inside rest (v ∷ others) s h e =
    s.no_element h.0 (h.1 ++ 34 ∷ rest) v h.3 (sym (append_assoc h.0 h.1 (34 ∷ rest)) ∙ sym (ap (λ l. l ++ 34 ∷ rest) h.2) ∙ sym e)

pub no-string : (inside values y : Bytes) → Elements 34 inside values → IsStuck 34 y → HasNoPiece (34 ∷ inside ++ y)
no-string inside values y h s piece rest e (inl gap) =
    no-gap 34 (inside ++ y) piece rest (λ k. let c = sym k ∙ class-double 34 refl in omega (arith, c)) (λ k. let c = sym k ∙ class-double 34 refl in omega (arith, c)) gap e
no-string inside values y h s piece rest e (inr token) =
    let c = same-class token.names token.kind 34 (inside ++ y) piece rest token.spelled e ∙ class-double 34 refl in
    let t = string_of token.names token.kind piece token.spelled c in
    let p = peel 34 double_no_backslash values t.0 inside t.1.0 y rest h t.1.2 (behind_quote 34 (inside ++ y) t.1.0 piece rest t.1.1 e) in
    stuck_string y p.inside rest p.others s p.elements p.text

closed_string : (r inside rest others : Bytes) → Elements 34 inside others → 34 ∷ r ≡ inside ++ 34 ∷ rest → r ≡ rest
closed_string r inside rest [] h e = let s : 34 ∷ r ≡ 34 ∷ rest = e ∙ ap (λ l. l ++ 34 ∷ rest) h in cc
closed_string r inside rest (v ∷ others) h e =
    absurd (element-head 34 h.0 (h.1 ++ 34 ∷ rest) r v 34 h.3 (sym (append_assoc h.0 h.1 (34 ∷ rest)) ∙ sym (ap (λ l. l ++ 34 ∷ rest) h.2) ∙ sym e) double_no_backslash refl)

-- two beginnings with equal rests are equally long
pub same-length : (text a b r s : Bytes) → text ≡ a ++ r → text ≡ b ++ s → r ≡ s → length b ≤ length a
same-length text a b r s e f g =
    let x = ap length e ∙ length-append a r in
    let y = ap length f ∙ length-append b s in
    let z = ap length g in omega (arith, x, y, z)

pub string-longest : (text inside values r : Bytes) → Elements 34 inside values → text ≡ 34 ∷ inside ++ 34 ∷ r → IsLongest text (34 ∷ inside ++ 34 ∷ [])
string-longest text inside values r h e longer rest f token =
    let i = sym e ∙ f in
    let c = same-class token.names token.kind 34 (inside ++ 34 ∷ r) longer rest token.spelled i ∙ class-double 34 refl in
    let t = string_of token.names token.kind longer token.spelled c in
    let p = peel 34 double_no_backslash values t.0 inside t.1.0 (34 ∷ r) rest h t.1.2 (behind_quote 34 (inside ++ 34 ∷ r) t.1.0 longer rest t.1.1 i) in
    let g = closed_string r p.inside rest p.others p.elements p.text in
    same-length text (34 ∷ inside ++ 34 ∷ []) longer r rest (e ∙ sym (append_assoc (34 ∷ inside) (34 ∷ []) r)) f g

-- characters
one : (quote : ℕ) (inside : Bytes) (value : ℕ) → Element quote inside value → Elements quote inside (value ∷ [])
one quote inside value h = (inside, [], sym (append-nil inside), h, refl)

pub no-character : (y : Bytes) → ((piece more : Bytes) (value : ℕ) → Element 39 piece value → piece ++ more ≡ y → ⊥) → HasNoPiece (39 ∷ y)
no-character y none piece rest e (inl gap) =
    no-gap 39 y piece rest (λ k. let c = sym k ∙ class-quote 39 refl in omega (arith, c)) (λ k. let c = sym k ∙ class-quote 39 refl in omega (arith, c)) gap e
no-character y none piece rest e (inr token) =
    let c = same-class token.names token.kind 39 y piece rest token.spelled e ∙ class-quote 39 refl in
    let t = character_of token.names token.kind piece token.spelled c in
    none t.1.0 (39 ∷ rest) t.0 t.1.2 (sym (behind_quote 39 y t.1.0 piece rest t.1.1 e))

after_one : (quote : ℕ) (y rest inside e : Bytes) (v w : ℕ) → (quote ≡ 92 → ⊥) → Element quote e v → Element quote inside w → e ++ y ≡ inside ++ quote ∷ rest → y ≡ quote ∷ rest
after_one quote y rest inside e v w q h k i = closed (peel quote q (v ∷ []) (w ∷ []) e inside y rest (one quote e v h) (one quote inside w k) i)
  where
    closed : Peeled quote (v ∷ []) (w ∷ []) y rest → y ≡ quote ∷ rest
    closed p = by p.others p.all_are p.elements
      where
        by : (others : Bytes) → w ∷ [] ≡ (v ∷ []) ++ others → Elements quote p.inside others → y ≡ quote ∷ rest
        by [] a h = p.text ∙ ap (λ l. l ++ quote ∷ rest) h
        by (x ∷ others) a h = cc

pub no-character-end : (y e : Bytes) (v : ℕ) → Element 39 e v → ((rest : Bytes) → y ≡ 39 ∷ rest → ⊥) → HasNoPiece (39 ∷ e ++ y)
no-character-end y e v h none piece rest i (inl gap) =
    no-gap 39 (e ++ y) piece rest (λ k. let c = sym k ∙ class-quote 39 refl in omega (arith, c)) (λ k. let c = sym k ∙ class-quote 39 refl in omega (arith, c)) gap i
no-character-end y e v h none piece rest i (inr token) =
    let c = same-class token.names token.kind 39 (e ++ y) piece rest token.spelled i ∙ class-quote 39 refl in
    let t = character_of token.names token.kind piece token.spelled c in
    none rest (after_one 39 y rest t.1.0 e v t.0 quote_no_backslash h t.1.2 (behind_quote 39 (e ++ y) t.1.0 piece rest t.1.1 i))

pub character-longest : (text e : Bytes) (v : ℕ) (r : Bytes) → Element 39 e v → text ≡ 39 ∷ e ++ 39 ∷ r → IsLongest text (39 ∷ e ++ 39 ∷ [])
character-longest text e v r h i longer rest f token =
    let j = sym i ∙ f in
    let c = same-class token.names token.kind 39 (e ++ 39 ∷ r) longer rest token.spelled j ∙ class-quote 39 refl in
    let t = character_of token.names token.kind longer token.spelled c in
    let g : 39 ∷ r ≡ 39 ∷ rest = after_one 39 (39 ∷ r) rest t.1.0 e v t.0 quote_no_backslash h t.1.2 (behind_quote 39 (e ++ 39 ∷ r) t.1.0 longer rest t.1.1 j) in
    same-length text (39 ∷ e ++ 39 ∷ []) longer r rest (i ∙ sym (append_assoc (39 ∷ e) (39 ∷ []) r)) f cc

-- what the code takes, and why it stops
pub takes-string : (old mid last new : Spot) (values : Bytes) → Took old 34 mid → TakesElements 34 mid values last → Took last 34 new → (names : List Bytes) → TakesLongest names old (Str values) new
takes-string old mid last new values t s u names =
    let text : old.rest ≡ 34 ∷ s.inside ++ 34 ∷ new.rest = t.0 ∙ ap (λ l. 34 ∷ l) (s.moved.text ∙ ap (λ l. s.inside ++ l) u.0) in
    record {
      piece = 34 ∷ s.inside ++ 34 ∷ [];
      spelled = (s.inside, refl, s.elements);
      longest = string-longest old.rest s.inside values new.rest s.elements text;
      moved = Moved-front old mid new 34 (s.inside ++ 34 ∷ []) t (Moved-then mid last new s.inside (34 ∷ []) s.moved (Moved-one last new 34 u));
    }

pub takes-character : (old mid last new : Spot) (value : ℕ) → Took old 39 mid → TakesElement 39 mid value last → Took last 39 new → (names : List Bytes) → TakesLongest names old (Letter value) new
takes-character old mid last new value t s u names =
    let text : old.rest ≡ 39 ∷ s.piece ++ 39 ∷ new.rest = t.0 ∙ ap (λ l. 39 ∷ l) (s.moved.text ∙ ap (λ l. s.piece ++ l) u.0) in
    record {
      piece = 39 ∷ s.piece ++ 39 ∷ [];
      spelled = (s.piece, refl, s.element);
      longest = character-longest old.rest s.piece value new.rest s.element text;
      moved = Moved-front old mid new 39 (s.piece ++ 39 ∷ []) t (Moved-then mid last new s.piece (39 ∷ []) s.moved (Moved-one last new 39 u));
    }

-- a misfit isn't the quote, and no element stands there
misfit_stuck : (quote : ℕ) (text part : Bytes) → (quote ≡ 92 → ⊥) → (m : IsMisfitBehind quote text part) → ¬ (slice_get text 0 ≡ Some quote) → (x : Bytes) → IsStuck quote (part ++ m.bad ∷ x)
misfit_stuck quote text [] q m n x =
    record {
      no_quote = λ rest e. let i : m.bad ≡ quote = cc in n (ap (λ l. slice_get l 0) m.is ∙ ap (λ b. Some b) i);
      no_element = λ piece more value h e. m.none x piece more value h e;
    }
misfit_stuck quote text (c ∷ part) q m n x =
    record {
      no_quote = λ rest e. let i : c ≡ quote = cc in element-head quote (c ∷ part ++ m.begins.more) [] (part ++ m.begins.more) m.begins.value c m.begins.element (append-nil _) q i;
      no_element = λ piece more value h e. m.none x piece more value h e;
    }

cut_stuck : (quote : ℕ) (text : Bytes) → (quote ≡ 92 → ⊥) → IsCut quote text → IsStuck quote text
cut_stuck quote text q m =
    record {
      no_quote = λ rest e. element-head quote (text ++ m.begins.more) [] (rest ++ m.begins.more) m.begins.value quote m.begins.element (append-nil _ ∙ ap (λ l. l ++ m.begins.more) e) q refl;
      no_element = m.none;
    }

-- elements and the beginning of one begin a string
begins-string : (inside values part : Bytes) → Elements 34 inside values → BeginsElement 34 part → BeginsPiece (34 ∷ inside ++ part)
begins-string inside values part h b = (
  b.more ++ 34 ∷ [],
  inr (record {
    names = [];
    kind = Str (values ++ b.value ∷ []);
    spelled = (inside ++ (part ++ b.more), simp append_assoc, Elements-push 34 inside values (part ++ b.more) b.value h b.element);
  }),
)

begins-character : (part : Bytes) → BeginsElement 39 part → BeginsPiece (39 ∷ part)
begins-character part b =
    (b.more ++ 39 ∷ [], inr (record { names = []; kind = Letter b.value; spelled = (part ++ b.more, simp append_assoc, b.element) }))

begins-character-end : (e : Bytes) (v : ℕ) → Element 39 e v → BeginsPiece (39 ∷ e)
begins-character-end e v h = (39 ∷ [], inr (record { names = []; kind = Letter v; spelled = (e, refl, h) }))

pub fault-string : (old mid : Spot) (start : Place) (e : LexError) → Took old 34 mid → start ≡ old.place → ElementsFault 34 mid start e → PieceFault old e
fault-string old mid start (BadByte place) t i f =
    let now = f.0 in let values = f.1 in let s = f.2 in let part = f.3.0 in let m = f.3.1 in (
      34 ∷ s.inside ++ part,
      bad-behind old.rest (34 ∷ s.inside) part m.bad m.rest (t.0 ∙ ap (λ l. 34 ∷ l) (s.moved.text ∙ ap (λ l. s.inside ++ l) m.is))
          (λ x. no-string s.inside values (part ++ m.bad ∷ x) s.elements (misfit_stuck 34 now.rest part double_no_backslash m f.4 x))
          (begins-string s.inside values part s.elements m.begins),
      f.3.2 ∙ past-then mid.place now.place s.inside part s.moved.place ∙ ap (λ p. past p (s.inside ++ part)) t.1,
    )
fault-string old mid start (Unclosed place) t i f =
    let now = f.0 in let values = f.1 in let s = f.2 in (
      cut-behind old.rest (34 ∷ s.inside ++ now.rest) (t.0 ∙ ap (λ l. 34 ∷ l) s.moved.text) (omega arith)
          (no-string s.inside values now.rest s.elements (cut_stuck 34 now.rest double_no_backslash f.3.0))
          (begins-string s.inside values now.rest s.elements f.3.0.begins),
      f.3.1 ∙ i,
    )
fault-string old mid start (NumberTooLarge place) t i f = absurd f
fault-string old mid start TooManyTokens t i f = f
fault-string old mid start OutOfMemory t i f = tt

pub fault-character : (old mid : Spot) (start : Place) (e : LexError) → Took old 39 mid → start ≡ old.place → ElementFault 39 mid start e → PieceFault old e
fault-character old mid start (BadByte place) t i f =
    let part = f.0 in let m = f.1 in (
      39 ∷ part,
      bad-behind old.rest (39 ∷ []) part m.bad m.rest (t.0 ∙ ap (λ l. 39 ∷ l) m.is) (λ x. no-character (part ++ m.bad ∷ x) (λ piece more value h e. m.none x piece more value h e)) (begins-character part m.begins),
      f.2 ∙ ap (λ p. past p part) t.1,
    )
fault-character old mid start (Unclosed place) t i f =
    (cut-behind old.rest (39 ∷ mid.rest) t.0 (omega arith) (no-character mid.rest f.0.none) (begins-character mid.rest f.0.begins), f.1 ∙ i)
fault-character old mid start (NumberTooLarge place) t i f = absurd f
fault-character old mid start TooManyTokens t i f = f
fault-character old mid start OutOfMemory t i f = tt

-- a byte that isn't the closing quote of a character, and none
pub bad-character-end : (old mid last new : Spot) (value b : ℕ) → Took old 39 mid → TakesElement 39 mid value last → Took last b new → (b ≡ 39 → ⊥) → PieceFault old (BadByte last.place)
bad-character-end old mid last new value b t s u n = (
  39 ∷ s.piece ++ [],
  bad-behind old.rest (39 ∷ s.piece) [] b new.rest (t.0 ∙ ap (λ l. 39 ∷ l) (s.moved.text ∙ ap (λ l. s.piece ++ l) u.0))
      (λ x. no-character-end (b ∷ x) s.piece value s.element (λ rest e. let i : b ≡ 39 = cc in n i))
      (subst BeginsPiece (sym (append-nil (39 ∷ s.piece))) (begins-character-end s.piece value s.element)),
  past-then mid.place last.place s.piece [] s.moved.place ∙ ap (λ p. past p (s.piece ++ [])) t.1,
)

pub cut-character-end : (old mid last : Spot) (value : ℕ) → Took old 39 mid → TakesElement 39 mid value last → last.rest ≡ [] → PieceFault old (Unclosed old.place)
cut-character-end old mid last value t s e =
    let text : old.rest ≡ 39 ∷ s.piece = t.0 ∙ ap (λ l. 39 ∷ l) (s.moved.text ∙ ap (λ l. s.piece ++ l) e ∙ append-nil s.piece) in (
      cut-behind old.rest (39 ∷ s.piece) text (omega arith)
          (subst HasNoPiece (append-nil (39 ∷ s.piece)) (no-character-end [] s.piece value s.element (λ rest i. cc)))
          (begins-character-end s.piece value s.element),
      refl,
    )
