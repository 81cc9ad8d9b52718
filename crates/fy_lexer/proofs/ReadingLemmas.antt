-- Steps of reading, put together.
use Rattle.std.proofs.Common.{◌≡◌, ℕ, ◌+◌, ◌*◌, true, false, [], ◌∷◌, ◌++◌, length, refl, sym, ap, subst, ◌∙◌, arith, Option, Some, None, append_assoc, Result, Err, IfOk, IfErr, slice_get, MatchOption, IsSomeAnd, ◌<◌, ◌≤◌, length-append}
use Rattle.std.specs.Option.{ok_or}
use Rattle.fy_base.specs.Outside.{Bytes}
use Rattle.fy_base.specs.declared.data.Place.{Place}
use Rattle.fy_lexer.specs.declared.error.LexError.{LexError}
use Rattle.fy_lexer.specs.declared.error.LexError.TheVariants.{BadByte, Unclosed, NumberTooLarge, TooManyTokens, OutOfMemory}
use Rattle.fy_lexer.specs.Spellings.{plain, escape, code, is_plain, escaped}
use Rattle.fy_lexer.specs.Spot.{Spot, Moved, past, past_byte}
use Rattle.fy_lexer.specs.Reading.{IsCut, IsMisfitBehind, ElementFault, EscapeFault, DigitFault, TakesElement, TakesEscape, TakesDigit, TakesElements, ElementsFault}
use Rattle.fy_lexer.proofs.ElementLemmas.{cut-nothing, cut-backslash, cut-x, cut-digit, misfit-nothing, misfit-backslash, misfit-x, misfit-digit, Elements-push, element-filled}

-- one byte was taken
abbrev pub Took : Spot → ℕ → Spot → Type 0
Took old b new = (old.rest ≡ b ∷ new.rest) × (new.place ≡ past_byte old.place b)

pub Moved-one : (old new : Spot) (b : ℕ) → Took old b new → Moved old (b ∷ []) new
Moved-one old new b t = record { text = t.0; place = t.1 }

pub Moved-front : (old mid new : Spot) (b : ℕ) (piece : Bytes) → Took old b mid → Moved mid piece new → Moved old (b ∷ piece) new
Moved-front old mid new b piece t m =
    record { text = t.0 ∙ ap (λ l. b ∷ l) m.text; place = m.place ∙ ap (λ p. past p piece) t.1 }

past-append : (at : Place) (a b : Bytes) → past at (a ++ b) ≡ past (past at a) b
past-append at [] b = refl
past-append at (x ∷ a) b = past-append (past_byte at x) a b

pub Moved-then : (old mid new : Spot) (a b : Bytes) → Moved old a mid → Moved mid b new → Moved old (a ++ b) new
Moved-then old mid new a b m n =
    record {
      text = m.text ∙ ap (λ l. a ++ l) n.text ∙ sym (append_assoc a b new.rest);
      place = n.place ∙ ap (λ p. past p b) m.place ∙ sym (past-append old.place a b);
    }

pub Moved-none : (old : Spot) → Moved old [] old
Moved-none old = record { text = refl; place = refl }

pub past-then : (at : Place) (mid : Place) (a b : Bytes) → mid ≡ past at a → past mid b ≡ past at (a ++ b)
past-then at mid a b e = ap (λ p. past p b) e ∙ sym (past-append at a b)

-- an element
pub cut-here : (quote : ℕ) (here : Spot) → here.rest ≡ [] → IsCut quote here.rest
cut-here quote here e = subst (IsCut quote) (sym e) (cut-nothing quote)

pub takes-plain : (quote b : ℕ) (old new : Spot) → Took old b new → is_plain quote b ≡ true → TakesElement quote old b new
takes-plain quote b old new t h = record { piece = b ∷ []; element = plain refl h; moved = Moved-one old new b t }

pub misfit-plain : (quote b : ℕ) (old new : Spot) → Took old b new → is_plain quote b ≡ false → (b ≡ 92 → ⊥) → IsMisfitBehind quote old.rest []
misfit-plain quote b old new t h n = subst (λ l. IsMisfitBehind quote l []) (sym t.0) (misfit-nothing quote b new.rest h n)

pub takes-escape : (quote value : ℕ) (old mid new : Spot) → Took old 92 mid → TakesEscape quote mid value new → TakesElement quote old value new
takes-escape quote value old mid new t e = record { piece = 92 ∷ e.piece; element = e.element; moved = Moved-front old mid new 92 e.piece t e.moved }

pub fault-escape : (quote : ℕ) (old mid : Spot) (start : Place) (e : LexError) → Took old 92 mid → EscapeFault quote mid start e → ElementFault quote old start e
fault-escape quote old mid start (BadByte place) t f =
    (92 ∷ f.0, subst (λ l. IsMisfitBehind quote l (92 ∷ f.0)) (sym t.0) f.1, f.2 ∙ ap (λ p. past p f.0) t.1)
fault-escape quote old mid start (Unclosed place) t f = (subst (IsCut quote) (sym t.0) f.0, f.1)
fault-escape quote old mid start (NumberTooLarge place) t f = f
fault-escape quote old mid start TooManyTokens t f = f
fault-escape quote old mid start OutOfMemory t f = f

-- what follows \
pub cut-escape : (quote : ℕ) (here : Spot) → here.rest ≡ [] → IsCut quote (92 ∷ here.rest)
cut-escape quote here e = subst (λ l. IsCut quote (92 ∷ l)) (sym e) (cut-backslash quote)

pub takes-short : (quote c value : ℕ) (old new : Spot) → Took old c new → escaped c ≡ Some value → TakesEscape quote old value new
takes-short quote c value old new t h = record { piece = c ∷ []; element = escape c refl h; moved = Moved-one old new c t }

pub misfit-short : (quote c : ℕ) (old new : Spot) → Took old c new → escaped c ≡ None → (c ≡ 120 → ⊥) → IsMisfitBehind quote (92 ∷ old.rest) (92 ∷ [])
misfit-short quote c old new t h n = subst (λ l. IsMisfitBehind quote (92 ∷ l) (92 ∷ [])) (sym t.0) (misfit-backslash quote c new.rest h n)

pub takes-code : (quote m n : ℕ) (old mid last new : Spot) → Took old 120 mid → TakesDigit mid m last → TakesDigit last n new → TakesEscape quote old (16 * m + n) new
takes-code quote m n old mid last new t h l =
    record {
      piece = 120 ∷ h.digit ∷ l.digit ∷ [];
      element = code h.digit l.digit m n refl h.is l.is refl;
      moved = Moved-front old mid new 120 (h.digit ∷ l.digit ∷ []) t (Moved-then mid last new (h.digit ∷ []) (l.digit ∷ []) h.moved l.moved);
    }

pub fault-high : (quote : ℕ) (old mid : Spot) (start : Place) (e : LexError) → Took old 120 mid → DigitFault mid start e → EscapeFault quote old start e
fault-high quote old mid start (BadByte place) t f = (
  120 ∷ [],
  subst (λ l. IsMisfitBehind quote (92 ∷ l) (92 ∷ 120 ∷ [])) (sym (t.0 ∙ ap (λ l. 120 ∷ l) f.2)) (misfit-x quote f.0 f.1 f.3),
  f.4 ∙ t.1,
)
fault-high quote old mid start (Unclosed place) t f = (subst (λ l. IsCut quote (92 ∷ l)) (sym (t.0 ∙ ap (λ l. 120 ∷ l) f.0)) (cut-x quote), f.1)
fault-high quote old mid start (NumberTooLarge place) t f = f
fault-high quote old mid start TooManyTokens t f = f
fault-high quote old mid start OutOfMemory t f = f

pub fault-low : (quote m : ℕ) (old mid last : Spot) (start : Place) (e : LexError) → Took old 120 mid → TakesDigit mid m last → DigitFault last start e → EscapeFault quote old start e
fault-low quote m old mid last start (BadByte place) t h f = (
  120 ∷ h.digit ∷ [],
  subst (λ l. IsMisfitBehind quote (92 ∷ l) (92 ∷ 120 ∷ h.digit ∷ [])) (sym (t.0 ∙ ap (λ l. 120 ∷ l) (h.moved.text ∙ ap (λ l. h.digit ∷ l) f.2)))
      (misfit-digit quote h.digit m f.0 f.1 h.is f.3),
  f.4 ∙ h.moved.place ∙ ap (λ p. past_byte p h.digit) t.1,
)
fault-low quote m old mid last start (Unclosed place) t h f =
    (subst (λ l. IsCut quote (92 ∷ l)) (sym (t.0 ∙ ap (λ l. 120 ∷ l) (h.moved.text ∙ ap (λ l. h.digit ∷ l) f.0))) (cut-digit quote h.digit m h.is), f.1)
fault-low quote m old mid last start (NumberTooLarge place) t h f = f
fault-low quote m old mid last start TooManyTokens t h f = f
fault-low quote m old mid last start OutOfMemory t h f = f

-- elements
pub TakesElements-none : (quote : ℕ) (old : Spot) → TakesElements quote old [] old
TakesElements-none quote old = record { inside = []; elements = refl; moved = Moved-none old }

pub TakesElements-push : (quote : ℕ) (old mid new : Spot) (values : Bytes) (v : ℕ) → TakesElements quote old values mid → TakesElement quote mid v new → TakesElements quote old (values ++ v ∷ []) new
TakesElements-push quote old mid new values v s e =
    record {
      inside = s.inside ++ e.piece;
      elements = Elements-push quote s.inside values e.piece v s.elements e.element;
      moved = Moved-then old mid new s.inside e.piece s.moved e.moved;
    }

-- what `ok_or` gives
pub IfOk-ok_or : {X : Type 0} (P : X → Type 0) (o : Option X) (e : LexError) (r : Result X LexError) → r ≡ ok_or o e → ((v : X) → o ≡ Some v → P v) → IfOk r P
IfOk-ok_or P (Some v) e r h f = subst (λ x. IfOk x P) (sym h) (f v refl)
IfOk-ok_or P None e r h f = subst (λ x. IfOk x P) (sym h) (tt)

pub IfErr-ok_or : {X : Type 0} (P : LexError → Type 0) (o : Option X) (e : LexError) (r : Result X LexError) → r ≡ ok_or o e → (o ≡ None → P e) → IfErr r P
IfErr-ok_or P (Some v) e r h f = subst (λ x. IfErr x P) (sym h) (tt)
IfErr-ok_or P None e r h f = subst (λ x. IfErr x P) (sym h) (f refl)

pub IfErr-handed : {X : Type 0} (P : LexError → Type 0) (r : Result X LexError) (x e : LexError) → r ≡ Err x → x ≡ e → P e → IfErr r P
IfErr-handed P r x e h k p = subst (λ s. IfErr s P) (sym h) (subst P (sym k) p)

-- why elements end
pub ElementsFault-here : (quote : ℕ) (old now : Spot) (values : Bytes) (start : Place) (e : LexError) → TakesElements quote old values now → ¬ (slice_get now.rest 0 ≡ Some quote) → ElementFault quote now start e → ElementsFault quote old start e
ElementsFault-here quote old now values start (BadByte place) t n f = (now, values, t, f, n)
ElementsFault-here quote old now values start (Unclosed place) t n f = (now, values, t, f)
ElementsFault-here quote old now values start (NumberTooLarge place) t n f = f
ElementsFault-here quote old now values start TooManyTokens t n f = f
ElementsFault-here quote old now values start OutOfMemory t n f = tt

pub TakesElement-shorter : (quote v : ℕ) (old new : Spot) → TakesElement quote old v new → length new.rest < length old.rest
TakesElement-shorter quote v old new t =
    let k : 1 ≤ length t.piece = element-filled quote t.piece v t.element in
    let s : length old.rest ≡ length t.piece + length new.rest = ap length t.moved.text ∙ length-append t.piece new.rest in
    omega (arith, k, s)

-- a byte that was seen is taken
pub Took-next : (old new : Spot) (r : Option ℕ) (b : ℕ) → slice_get old.rest 0 ≡ Some b → MatchOption r ((old.rest ≡ []) × (new ≡ old)) (λ c. Took old c new) → Took old b new
Took-next old new None b h m = let e : slice_get [] 0 ≡ Some b = sym (ap (λ l. slice_get l 0) m.0) ∙ h in cc
Took-next old new (Some c) b h m =
    let e : Some c ≡ Some b = sym (ap (λ l. slice_get l 0) m.0) ∙ h in
    let i : c ≡ b = cc in subst (λ x. Took old x new) i m

pub match-some : {X : Type 0} (P : Type 0) (Q : X → Type 0) (o : Option X) (v : X) → o ≡ Some v → MatchOption o P Q → Q v
match-some P Q o v e m = let h = subst (λ x. MatchOption x P Q) e m in h

pub match-none : {X : Type 0} (P : Type 0) (Q : X → Type 0) (o : Option X) → o ≡ None → MatchOption o P Q → P
match-none P Q o e m = let h = subst (λ x. MatchOption x P Q) e m in h

-- what is known of the first byte of a text
pub first-byte : (P : ℕ → Type 0) (rest new : Bytes) (b : ℕ) → IsSomeAnd (slice_get rest 0) P → rest ≡ b ∷ new → P b
first-byte P rest new b h e = let k = subst (λ l. IsSomeAnd (slice_get l 0) P) e h in k

pub seen-byte : (P : ℕ → Type 0) (rest : Bytes) (b : ℕ) → slice_get rest 0 ≡ Some b → P b → IsSomeAnd (slice_get rest 0) P
seen-byte P rest b e h = subst (λ o. IsSomeAnd o P) (sym e) h
