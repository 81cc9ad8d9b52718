-- At most one step leads on from a state, and at most one fault stands there.
use Rattle.std.proofs.Common.{◌≡◌, ℕ, pos, Bool, true, false, not, eqb, List, [], ◌∷◌, ◌++◌, length, refl, sym, ap, subst, ◌∙◌, arith, Some, append_assoc, append-nil, length-append, ◌⊎◌, inl, inr}
use Rattle.std.specs.List.{list_all}
use Rattle.std.proofs.lemmas.List.{append_cancel_left}
use Rattle.fy_base.specs.Outside.{Bytes}
use Rattle.fy_types.specs.Words.{is_name_like, is_word}
use Rattle.fy_lexer.specs.declared.error.LexError.{LexError}
use Rattle.fy_lexer.specs.declared.error.LexError.TheVariants.{BadByte, Unclosed, NumberTooLarge, TooManyTokens, OutOfMemory}
use Rattle.fy_lexer.specs.declared.token.TokenKind.{TokenKind}
use Rattle.fy_lexer.specs.declared.token.TokenKind.TheVariants.{Ident, Number, Letter, Str, Word, Sym, End}
use Rattle.fy_lexer.specs.Spellings.{Element, Elements, Spells, decimal}
use Rattle.fy_lexer.specs.Pieces.{is_blank, IsGap, IsToken, IsPiece, IsLongest, BeginsPiece, HasNoPiece, IsBadAt, IsUnclosed, IsLargeNumber}
use Rattle.fy_lexer.specs.Spot.{Spot, Moved, past}
use Rattle.fy_lexer.specs.Tokens.{Reading, Step, names_past, FaultAt}
use Rattle.fy_lexer.proofs.ClassLemmas.{class_of, kind_class, first-token, first-gap, filled-token, filled-gap, keyword-word}
use Rattle.fy_lexer.proofs.ElementLemmas.{peel, element-front, element-filled}
use Rattle.fy_lexer.proofs.LiteralLemmas.{same-class, double_no_backslash}
use Rattle.fy_lexer.proofs.RunLemmas.{and-left, and-right}

-- beginnings of one text that are equally long are the same
pub same-front : (a b r s : Bytes) → a ++ r ≡ b ++ s → length a ≡ length b → a ≡ b
same-front [] [] r s e h = refl
same-front [] (y ∷ b) r s e h = absurd (omega (arith, h))
same-front (x ∷ a) [] r s e h = absurd (omega (arith, h))
same-front (x ∷ a) (y ∷ b) r s e h =
    let t : a ++ r ≡ b ++ s = cc in
    let i : x ≡ y = cc in
    let l : length a ≡ length b = omega (arith, h) in
    let j = same-front a b r s t l in λ k. i k ∷ j k

-- kinds that one piece spells
inside_same : (quote : ℕ) (a b : Bytes) → quote ∷ a ++ quote ∷ [] ≡ quote ∷ b ++ quote ∷ [] → a ++ quote ∷ [] ≡ b ++ quote ∷ []
inside_same quote a b e = cc

closed_all : (values all inside others : Bytes) → all ≡ values ++ others → Elements 34 inside others → 34 ∷ [] ≡ inside ++ 34 ∷ [] → values ≡ all
closed_all values all inside [] e h t = sym (e ∙ append-nil values)
closed_all values all inside (v ∷ others) e h t = absurd (filled_inside h.0 h.1 v h.3 (t ∙ ap (λ l. l ++ 34 ∷ []) h.2))
  where
    filled_inside : (a b : Bytes) (w : ℕ) → Element 34 a w → 34 ∷ [] ≡ (a ++ b) ++ 34 ∷ [] → ⊥
    filled_inside a b w k i =
        let f = element-filled 34 a w k in
        let l = ap length i in
        let m = length-append (a ++ b) (34 ∷ []) in
        let n = length-append a b in omega (arith, f, l, m, n)

same_kind : (names : List Bytes) (kind kind' : TokenKind) (piece : Bytes) → Spells names kind piece → Spells names kind' piece → kind_class kind ≡ kind_class kind' → kind ≡ kind'
same_kind names (Ident name) (Ident name') piece h k e = ap Ident (h.1 ∙ sym k.1)
same_kind names (Ident name) (Word keyword) piece h k e =
    let w : not (is_word piece) ≡ true = and-right (is_name_like piece) _ h.0 in
    let v : false ≡ true = sym (ap not (keyword-word piece keyword k)) ∙ w in cc
same_kind names (Word keyword) (Ident name) piece h k e =
    let w : not (is_word piece) ≡ true = and-right (is_name_like piece) _ k.0 in
    let v : false ≡ true = sym (ap not (keyword-word piece keyword h)) ∙ w in cc
same_kind names (Word keyword) (Word keyword') piece h k e = let s : Some keyword ≡ Some keyword' = sym h ∙ k in let i : keyword ≡ keyword' = cc in ap Word i
same_kind names (Number n) (Number n') piece h k e = ap Number (h.1 ∙ sym k.1)
same_kind names (Letter value) (Letter value') piece h k e =
    ap Letter (element-front 39 h.0 k.0 (39 ∷ []) (39 ∷ []) value value' h.2 k.2 (inside_same 39 h.0 k.0 (sym h.1 ∙ k.1))).1
same_kind names (Str values) (Str values') piece h k e =
    let p = peel 34 double_no_backslash values values' h.0 k.0 (34 ∷ []) [] h.2 k.2 (inside_same 34 h.0 k.0 (sym h.1 ∙ k.1)) in
    ap Str (closed_all values values' p.inside p.others p.all_are p.elements p.text)
same_kind names (Sym symbol) (Sym symbol') piece h k e = let s : Some symbol ≡ Some symbol' = sym h ∙ k in let i : symbol ≡ symbol' = cc in ap Sym i
same_kind names End kind' piece h k e = absurd h
same_kind names kind End piece h k e = absurd k
same_kind names kind kind' piece h k e = absurd (omega (arith, e))

same_class : (names : List Bytes) (kind kind' : TokenKind) (piece : Bytes) → Spells names kind piece → Spells names kind' piece → kind_class kind ≡ kind_class kind'
same_class names kind kind' [] h k = absurd (filled-token names kind h)
same_class names kind kind' (b ∷ piece) h k = sym (first-token names kind b piece h) ∙ first-token names kind' b piece k

pub Spells-same : (names : List Bytes) (kind kind' : TokenKind) (piece : Bytes) → Spells names kind piece → Spells names kind' piece → kind ≡ kind'
Spells-same names kind kind' piece h k = same_kind names kind kind' piece h k (same_class names kind kind' piece h k)

-- gaps that one text begins with
abbrev open_byte : ℕ → Bool
open_byte b = not (eqb b 125)

first_close : (a b r s : Bytes) → list_all open_byte a ≡ true → list_all open_byte b ≡ true → a ++ 125 ∷ r ≡ b ++ 125 ∷ s → a ≡ b
first_close [] [] r s h k e = refl
first_close [] (y ∷ b) r s h k e = let i : y ≡ 125 = cc in let f : false ≡ true = sym (ap open_byte i) ∙ and-left (open_byte y) _ k in cc
first_close (x ∷ a) [] r s h k e = let i : x ≡ 125 = cc in let f : false ≡ true = sym (ap open_byte i) ∙ and-left (open_byte x) _ h in cc
first_close (x ∷ a) (y ∷ b) r s h k e =
    let t : a ++ 125 ∷ r ≡ b ++ 125 ∷ s = cc in
    let i : x ≡ y = cc in
    let j = first_close a b r s (and-right (open_byte x) _ h) (and-right (open_byte y) _ k) t in λ l. i l ∷ j l

blank_no_brace : (b : ℕ) → is_blank b ≡ true → b ≡ 123 → ⊥
blank_no_brace b h e = let f : false ≡ true = sym (ap is_blank e) ∙ h in cc

pub gap-same : (a b r s : Bytes) → IsGap a → IsGap b → a ++ r ≡ b ++ s → a ≡ b
gap-same a b r s (inl h) (inl k) e =
    let t : h.0 ∷ r ≡ k.0 ∷ s = ap (λ l. l ++ r) (sym h.1) ∙ e ∙ ap (λ l. l ++ s) k.1 in
    let i : h.0 ≡ k.0 = cc in h.1 ∙ ap (λ x. x ∷ []) i ∙ sym k.1
gap-same a b r s (inl h) (inr k) e =
    let t : h.0 ∷ r ≡ 123 ∷ ((k.inside ++ 125 ∷ []) ++ s) = ap (λ l. l ++ r) (sym h.1) ∙ e ∙ ap (λ l. l ++ s) k.is in
    absurd (blank_no_brace h.0 h.2 cc)
gap-same a b r s (inr h) (inl k) e =
    let t : 123 ∷ ((h.inside ++ 125 ∷ []) ++ r) ≡ k.0 ∷ s = ap (λ l. l ++ r) (sym h.is) ∙ e ∙ ap (λ l. l ++ s) k.1 in
    absurd (blank_no_brace k.0 k.2 cc)
gap-same a b r s (inr h) (inr k) e =
    let t : 123 ∷ ((h.inside ++ 125 ∷ []) ++ r) ≡ 123 ∷ ((k.inside ++ 125 ∷ []) ++ s) = ap (λ l. l ++ r) (sym h.is) ∙ e ∙ ap (λ l. l ++ s) k.is in
    let u : (h.inside ++ 125 ∷ []) ++ r ≡ (k.inside ++ 125 ∷ []) ++ s = cc in
    let v = first_close h.inside k.inside r s h.open_inside k.open_inside (sym (append_assoc h.inside (125 ∷ []) r) ∙ u ∙ append_assoc k.inside (125 ∷ []) s) in
    h.is ∙ ap (λ l. 123 ∷ l ++ 125 ∷ []) v ∙ sym k.is

no_gap_class : (names : List Bytes) (kind : TokenKind) (piece : Bytes) → Spells names kind piece → (kind_class kind ≡ 5) ⊎ (kind_class kind ≡ 6) → ⊥
no_gap_class names (Ident name) piece h (inl e) = omega (arith, e)
no_gap_class names (Ident name) piece h (inr e) = omega (arith, e)
no_gap_class names (Word keyword) piece h (inl e) = omega (arith, e)
no_gap_class names (Word keyword) piece h (inr e) = omega (arith, e)
no_gap_class names (Number n) piece h (inl e) = omega (arith, e)
no_gap_class names (Number n) piece h (inr e) = omega (arith, e)
no_gap_class names (Letter value) piece h (inl e) = omega (arith, e)
no_gap_class names (Letter value) piece h (inr e) = omega (arith, e)
no_gap_class names (Str values) piece h (inl e) = omega (arith, e)
no_gap_class names (Str values) piece h (inr e) = omega (arith, e)
no_gap_class names (Sym symbol) piece h (inl e) = omega (arith, e)
no_gap_class names (Sym symbol) piece h (inr e) = omega (arith, e)
no_gap_class names End piece h e = h

-- a token and a gap don't begin one text
pub gap-or_token : (names : List Bytes) (kind : TokenKind) (a b r s : Bytes) → IsGap a → Spells names kind b → a ++ r ≡ b ++ s → ⊥
gap-or_token names kind [] b r s h k e = filled-gap h
gap-or_token names kind (x ∷ a) b r s h k e =
    let c = same-class names kind x (a ++ r) b s k e in
    no_gap_class names kind b k (by (first-gap x a h) c)
  where
    by : (class_of x ≡ 5) ⊎ (class_of x ≡ 6) → kind_class kind ≡ class_of x → (kind_class kind ≡ 5) ⊎ (kind_class kind ≡ 6)
    by (inl f) c = inl (c ∙ f)
    by (inr f) c = inr (c ∙ f)

-- the longest tokens of one text
pub longest-same : (text a b r s : Bytes) → text ≡ a ++ r → text ≡ b ++ s → IsLongest text a → IsLongest text b → IsToken a → IsToken b → a ≡ b
longest-same text a b r s e f h k i j =
    let x = h b s f j in
    let y = k a r e i in
    same-front a b r s (sym e ∙ f) (omega (arith, x, y))

-- readings with equal parts are the same
same_reading : (a b : Reading) → a.spot.rest ≡ b.spot.rest → a.spot.place ≡ b.spot.place → a.names ≡ b.names → a.tokens ≡ b.tokens → a ≡ b
same_reading a b r p n t = λ i. record { spot = record { rest = r i; place = p i }; names = n i; tokens = t i }

same_rest : (old : Spot) (a b : Bytes) (new other : Spot) → Moved old a new → Moved old b other → a ≡ b → new.rest ≡ other.rest
same_rest old a b new other m n e = append_cancel_left a new.rest other.rest (sym m.text ∙ n.text ∙ ap (λ l. l ++ other.rest) (sym e))

same_place : (old : Spot) (a b : Bytes) (new other : Spot) → Moved old a new → Moved old b other → a ≡ b → new.place ≡ other.place
same_place old a b new other m n e = m.place ∙ ap (past old.place) e ∙ sym n.place

pub Step-same : (old a b : Reading) → Step old a → Step old b → a ≡ b
Step-same old a b (inl s) (inl t) =
    let e = gap-same s.piece t.piece a.spot.rest b.spot.rest s.gap t.gap (sym s.moved.text ∙ t.moved.text) in
    same_reading a b (same_rest old.spot s.piece t.piece a.spot b.spot s.moved t.moved e) (same_place old.spot s.piece t.piece a.spot b.spot s.moved t.moved e) (s.names ∙ sym t.names) (s.tokens ∙ sym t.tokens)
Step-same old a b (inl s) (inr t) = absurd (gap-or_token old.names t.kind s.piece t.piece a.spot.rest b.spot.rest s.gap t.spelled (sym s.moved.text ∙ t.moved.text))
Step-same old a b (inr s) (inl t) = absurd (gap-or_token old.names s.kind t.piece s.piece b.spot.rest a.spot.rest t.gap s.spelled (sym t.moved.text ∙ s.moved.text))
Step-same old a b (inr s) (inr t) =
    let e =
    longest-same old.spot.rest s.piece t.piece a.spot.rest b.spot.rest s.moved.text t.moved.text s.longest t.longest
    (record { names = old.names; kind = s.kind; spelled = s.spelled }) (record { names = old.names; kind = t.kind; spelled = t.spelled }) in
    let k = Spells-same old.names s.kind t.kind s.piece s.spelled (subst (Spells old.names t.kind) (sym e) t.spelled) in
    same_reading a b (same_rest old.spot s.piece t.piece a.spot b.spot s.moved t.moved e) (same_place old.spot s.piece t.piece a.spot b.spot s.moved t.moved e)
    (s.names ∙ (λ i. names_past (k i) (e i) old.names) ∙ sym t.names)
    (s.tokens ∙ ap (λ kind. old.tokens ++ record { kind = kind; place = old.spot.place } ∷ []) k ∙ sym t.tokens)

-- where two beginnings of one text part
pub data Parts (a : Bytes) (x : ℕ) (b : Bytes) (y : ℕ) : Type 0 where
  equal : a ≡ b → Parts a x b y
  longer : (m : Bytes) → b ≡ a ++ x ∷ m → Parts a x b y
  shorter : (m : Bytes) → a ≡ b ++ y ∷ m → Parts a x b y

grown_parts : (z w : ℕ) (a : Bytes) (x : ℕ) (b : Bytes) (y : ℕ) → z ≡ w → Parts a x b y → Parts (z ∷ a) x (w ∷ b) y
grown_parts z w a x b y i (equal e) = equal (λ k. i k ∷ e k)
grown_parts z w a x b y i (longer m e) = longer m (λ k. sym i k ∷ e k)
grown_parts z w a x b y i (shorter m e) = shorter m (λ k. i k ∷ e k)

parts_of : (a b : Bytes) (x y : ℕ) (r s : Bytes) → a ++ x ∷ r ≡ b ++ y ∷ s → Parts a x b y
parts_of [] [] x y r s e = equal refl
parts_of [] (w ∷ b) x y r s e = let i : w ≡ x = cc in longer b (ap (λ z. z ∷ b) i)
parts_of (z ∷ a) [] x y r s e = let i : z ≡ y = cc in shorter a (ap (λ w. w ∷ a) i)
parts_of (z ∷ a) (w ∷ b) x y r s e =
    let t : a ++ x ∷ r ≡ b ++ y ∷ s = cc in
    let i : z ≡ w = cc in grown_parts z w a x b y i (parts_of a b x y r s t)

-- what begins with the beginning of a piece's beginning
shorter_begins : (a m : Bytes) (x : ℕ) → BeginsPiece (a ++ x ∷ m) → BeginsPiece (a ++ x ∷ [])
shorter_begins a m x b =
    (m ++ b.0, subst IsPiece (append_assoc a (x ∷ m) b.0 ∙ sym (append_assoc a (x ∷ []) (m ++ b.0))) b.1)

bad_same : (text a b : Bytes) → IsBadAt text a → IsBadAt text b → a ≡ b
bad_same text a b h k = by (parts_of a b h.bad k.bad h.rest k.rest (sym h.is ∙ k.is))
  where
    by : Parts a h.bad b k.bad → a ≡ b
    by (equal e) = e
    by (longer m e) = absurd (h.stops (shorter_begins a m h.bad (subst BeginsPiece e k.begins)))
    by (shorter m e) = absurd (k.stops (shorter_begins b m k.bad (subst BeginsPiece e h.begins)))

bad_or_cut : (text a : Bytes) → IsBadAt text a → IsUnclosed text → ⊥
bad_or_cut text a h k = h.stops (shorter_begins a h.rest h.bad (subst BeginsPiece h.is k.begins))

large_piece : (text : Bytes) → HasNoPiece text → IsLargeNumber text → ⊥
large_piece text h k = h k.piece k.rest k.is (inr (record { names = []; kind = Number (pos (decimal k.piece)); spelled = (k.numeral, refl) }))

-- at most one fault stands at a state
pub FaultAt-same : (here : Reading) (e f : LexError) → (e ≡ OutOfMemory → ⊥) → (f ≡ OutOfMemory → ⊥) → FaultAt here e → FaultAt here f → e ≡ f
FaultAt-same here (BadByte p) (BadByte q) m n h k = ap BadByte (h.2 ∙ ap (past here.spot.place) (bad_same here.spot.rest h.0 k.0 h.1 k.1) ∙ sym k.2)
FaultAt-same here (BadByte p) (Unclosed q) m n h k = absurd (bad_or_cut here.spot.rest h.0 h.1 k.0)
FaultAt-same here (BadByte p) (NumberTooLarge q) m n h k = absurd (large_piece here.spot.rest h.1.none k.0)
FaultAt-same here (BadByte p) TooManyTokens m n h k = absurd (h.3 k)
FaultAt-same here (BadByte p) OutOfMemory m n h k = absurd (n refl)
FaultAt-same here (Unclosed p) (BadByte q) m n h k = absurd (bad_or_cut here.spot.rest k.0 k.1 h.0)
FaultAt-same here (Unclosed p) (Unclosed q) m n h k = ap Unclosed (h.1 ∙ sym k.1)
FaultAt-same here (Unclosed p) (NumberTooLarge q) m n h k = absurd (large_piece here.spot.rest h.0.none k.0)
FaultAt-same here (Unclosed p) TooManyTokens m n h k = absurd (h.2 k)
FaultAt-same here (Unclosed p) OutOfMemory m n h k = absurd (n refl)
FaultAt-same here (NumberTooLarge p) (BadByte q) m n h k = absurd (large_piece here.spot.rest k.1.none h.0)
FaultAt-same here (NumberTooLarge p) (Unclosed q) m n h k = absurd (large_piece here.spot.rest k.0.none h.0)
FaultAt-same here (NumberTooLarge p) (NumberTooLarge q) m n h k = ap NumberTooLarge (h.1 ∙ sym k.1)
FaultAt-same here (NumberTooLarge p) TooManyTokens m n h k = absurd (h.2 k)
FaultAt-same here (NumberTooLarge p) OutOfMemory m n h k = absurd (n refl)
FaultAt-same here TooManyTokens (BadByte q) m n h k = absurd (k.3 h)
FaultAt-same here TooManyTokens (Unclosed q) m n h k = absurd (k.2 h)
FaultAt-same here TooManyTokens (NumberTooLarge q) m n h k = absurd (k.2 h)
FaultAt-same here TooManyTokens TooManyTokens m n h k = refl
FaultAt-same here TooManyTokens OutOfMemory m n h k = absurd (n refl)
FaultAt-same here OutOfMemory f m n h k = absurd (m refl)
