-- Steps of reading, and that at most one way leads on.
use Rattle.std.proofs.Common.{◌≡◌, ℕ, ℤ, pos, w64, to_z, of_z, FitsSigned, ◌≤◌, ◌<◌, true, false, not, eqb, List, [], ◌∷◌, ◌++◌, length, refl, sym, ap, subst, ◌∙◌, arith, Some, None, length-append, inl, inr, slice_get}
use Rattle.std.proofs.lemmas.Int.{to_z-of_z, fits_signed_from_abs}
use Rattle.fy_base.specs.Outside.{Bytes}
use Rattle.fy_lexer.specs.declared.token.Token.{Token}
use Rattle.fy_lexer.specs.declared.token.TokenKind.{TokenKind}
use Rattle.fy_lexer.specs.declared.token.TokenKind.TheVariants.{End}
use Rattle.fy_lexer.specs.Tokens.{AreWithin, Reading, Step, Steps, none, more, AllFit, IsFit, IsWithin, IsFull, FaultAt, names_past}
use Rattle.fy_lexer.specs.Reading.{IsSmall, PieceFault, TakesGap, TakesLongest, TakesNamed, reading_of}
use Rattle.fy_lexer.specs.Spot.{Spot, Moved}
use Rattle.fy_lexer.specs.declared.error.LexError.{LexError}
use Rattle.fy_lexer.specs.declared.error.LexError.TheVariants.{BadByte, Unclosed, NumberTooLarge, TooManyTokens, OutOfMemory}
use Rattle.fy_lexer.specs.Pieces.{is_blank, IsPiece}
use Rattle.fy_lexer.proofs.ClassLemmas.{filled-piece}
use Rattle.fy_lexer.proofs.ReadingLemmas.{Took, Moved-one}
use Rattle.std.proofs.lemmas.Bool.Decides.{nat_tests}

pub Steps-push : (a b c : Reading) → Steps a b → Step b c → Steps a c
Steps-push a b c (none here) s = more b c c s (none c)
Steps-push a b c (more old next new h t) s = more old next c h (Steps-push next new c t s)

-- a token that was taken, whose kind leaves the names
pub TakesNamed-same : (names : List Bytes) (old : Spot) (kind : TokenKind) (new : Spot) → TakesLongest names old kind new → ((piece : Bytes) → names_past kind piece names ≡ names) → TakesNamed names old kind new names
TakesNamed-same names old kind new t e = record { piece = t.piece; spelled = t.spelled; longest = t.longest; moved = t.moved; named = sym (e t.piece) }

pub Step-gap : (old new : Spot) (names : List Bytes) (tokens : List Token) → TakesGap old new → Step (reading_of old names tokens) (reading_of new names tokens)
Step-gap old new names tokens t = inl (record { piece = t.piece; gap = t.gap; moved = t.moved; names = refl; tokens = refl })

pub Step-blank : (old new : Spot) (names : List Bytes) (tokens : List Token) (b : ℕ) → Took old b new → is_blank b ≡ true → Step (reading_of old names tokens) (reading_of new names tokens)
Step-blank old new names tokens b t h = Step-gap old new names tokens (record { piece = b ∷ []; gap = inl (b, refl, h); moved = Moved-one old new b t })

pub Step-token : (old new : Spot) (names after : List Bytes) (tokens : List Token) (kind : TokenKind) → TakesNamed names old kind new after → Step (reading_of old names tokens) (reading_of new after (tokens ++ record { kind = kind; place = old.place } ∷ []))
Step-token old new names after tokens kind t =
    inr (record { piece = t.piece; kind = kind; spelled = t.spelled; longest = t.longest; moved = t.moved; names = t.named; tokens = refl })

filled : (piece : Bytes) → IsPiece piece → 1 ≤ length piece
filled [] h = absurd (filled-piece h)
filled (b ∷ piece) h = omega arith

shorter : (old new : Spot) (piece : Bytes) → Moved old piece new → 1 ≤ length piece → length new.rest < length old.rest
shorter old new piece m h = let s = ap length m.text ∙ length-append piece new.rest in omega (arith, s, h)

pub Step-shorter : (old new : Reading) → Step old new → length new.spot.rest < length old.spot.rest
Step-shorter old new (inl s) = shorter old.spot new.spot s.piece s.moved (filled s.piece (inl s.gap))
Step-shorter old new (inr s) = shorter old.spot new.spot s.piece s.moved (filled s.piece (inr (record { names = old.names; kind = s.kind; spelled = s.spelled })))

pub AllFit-push : (tokens : List Token) (t : Token) → AllFit tokens → IsFit t.kind → AllFit (tokens ++ t ∷ [])
AllFit-push [] t h k = (k, tt)
AllFit-push (x ∷ tokens) t h k = (h.0, AllFit-push tokens t h.1 k)

pub IsWithin-push : (tokens : List Token) (t : Token) → IsWithin tokens → (length tokens ≡ 262144 → ⊥) → IsFit t.kind → IsWithin (tokens ++ t ∷ [])
IsWithin-push tokens t w n k =
    let s = w.few in
    let l = length-append tokens (t ∷ []) in
    record { few = omega (arith, s, n, l); fit = AllFit-push tokens t w.fit k }

pub IsFull-here : (spot : Spot) (names : List Bytes) (tokens : List Token) (b : ℕ) → slice_get spot.rest 0 ≡ Some b → is_blank b ≡ false → (b ≡ 123 → ⊥) → length tokens ≡ 262144 → IsFull (reading_of spot names tokens)
IsFull-here spot names tokens b s h n m = by spot.rest s refl
  where
    by : (rest : Bytes) → slice_get rest 0 ≡ Some b → spot.rest ≡ rest → IsFull (reading_of spot names tokens)
    by [] e i = cc
    by (x ∷ rest) e i =
        let j : x ≡ b = cc in
        record { byte = b; rest = rest; is = i ∙ ap (λ y. y ∷ rest) j; visible = ap not h; no_comment = unequal b n; many = m }
      where
        unequal : (y : ℕ) → (y ≡ 123 → ⊥) → not (eqb y 123) ≡ true
        unequal y k = grind (arith, nat_tests)

pub FaultAt-piece : (spot : Spot) (names : List Bytes) (tokens : List Token) (e : LexError) → PieceFault spot e → ¬ IsFull (reading_of spot names tokens) → FaultAt (reading_of spot names tokens) e
FaultAt-piece spot names tokens (BadByte place) f n = (f.0, f.1, f.2, n)
FaultAt-piece spot names tokens (Unclosed place) f n = (f.0, f.1, n)
FaultAt-piece spot names tokens (NumberTooLarge place) f n = (f.0, f.1, n)
FaultAt-piece spot names tokens TooManyTokens f n = absurd f
FaultAt-piece spot names tokens OutOfMemory f n = tt

pub not_full-few : (spot : Spot) (names : List Bytes) (tokens : List Token) → (length tokens ≡ 262144 → ⊥) → ¬ IsFull (reading_of spot names tokens)
not_full-few spot names tokens n f = n f.many

pub not_full-brace : (spot : Spot) (names : List Bytes) (tokens : List Token) → slice_get spot.rest 0 ≡ Some 123 → ¬ IsFull (reading_of spot names tokens)
not_full-brace spot names tokens s f =
    let e : Some f.byte ≡ Some 123 = sym (ap (λ l. slice_get l 0) f.is) ∙ s in
    let i : f.byte ≡ 123 = cc in
    let g : false ≡ true = sym (ap (λ b. not (eqb b 123)) i) ∙ f.no_comment in cc

-- a small integer is read back
pub small_back : (n : ℤ) → IsSmall n → to_z w64 (of_z w64 n) ≡ n
small_back n s = to_z-of_z w64 n (subst (λ z. FitsSigned w64 z) (sym s.is) (fits_signed_from_abs w64 (pos s.value) s.small))

-- the end comes last
pub AreWithin-end : (tokens : List Token) (t : Token) → IsWithin tokens → t.kind ≡ End → AreWithin (tokens ++ t ∷ [])
AreWithin-end tokens t w e =
    let s = w.few in
    let l = length-append tokens (t ∷ []) in
    record { few = omega (arith, s, l); fit = AllFit-push tokens t w.fit (subst IsFit (sym e) tt) }

pub none_left : (rest : Bytes) → slice_get rest 0 ≡ None → rest ≡ []
none_left [] h = refl
none_left (b ∷ rest) h = cc
