-- A text has at most one list of tokens or first fault.
use Rattle.std.proofs.Common.{◌≡◌, ℕ, pos, ◌≤◌, true, false, not, eqb, List, [], ◌∷◌, ◌++◌, length, refl, sym, ap, subst, ◌∙◌, arith, length-append, ◌⊎◌, inl, inr}
use Rattle.std.proofs.lemmas.Int.{ints}
use Rattle.fy_base.specs.Outside.{Bytes}
use Rattle.fy_lexer.specs.declared.error.LexError.{LexError}
use Rattle.fy_lexer.specs.declared.error.LexError.TheVariants.{BadByte, Unclosed, NumberTooLarge, TooManyTokens, OutOfMemory}
use Rattle.fy_lexer.specs.declared.token.Token.{Token}
use Rattle.fy_lexer.specs.declared.token.TokenKind.TheVariants.{Number, End}
use Rattle.fy_lexer.specs.Spellings.{Spells, decimal, is_numeral}
use Rattle.fy_lexer.specs.Pieces.{is_blank, IsGap, IsPiece, HasNoPiece, IsLargeNumber}
use Rattle.fy_lexer.specs.Tokens.{Reading, SkipsGap, Step, Steps, none, more, AllFit, IsFit, IsWithin, AreWithin, IsFull, FaultAt, IsFaultOf, IsTokensOf, start_of}
use Rattle.fy_lexer.proofs.ClassLemmas.{filled-piece}
use Rattle.fy_lexer.proofs.SameLemmas.{Step-same, FaultAt-same, Spells-same, gap-or_token, longest-same}

-- no step leads on from here to a state with the property
pub record HaltsIn (P : Reading → Type 0) (here : Reading) : Type 0 where
  pub stays : (next : Reading) → Step here next → P next → ⊥

abbrev pub Within : Reading → Type 0
Within here = IsWithin here.tokens

abbrev pub Halts : Reading → Type 0
Halts = HaltsIn Within

step_piece : (here next : Reading) → Step here next → (piece : Bytes) × (here.spot.rest ≡ piece ++ next.spot.rest) × IsPiece piece
step_piece here next (inl s) = (s.piece, s.moved.text, inl s.gap)
step_piece here next (inr s) = (s.piece, s.moved.text, inr (record { names = here.names; kind = s.kind; spelled = s.spelled }))

empty_front : (a b : Bytes) → [] ≡ a ++ b → a ≡ []
empty_front [] b e = refl
empty_front (x ∷ a) b e = cc

pub Halts-end : (P : Reading → Type 0) (here : Reading) → here.spot.rest ≡ [] → HaltsIn P here
Halts-end P here e =
    record { stays = λ next s w. let p = step_piece here next s in filled-piece (subst IsPiece (empty_front p.0 next.spot.rest (sym e ∙ p.1)) p.2) }

Halts-none : (here : Reading) → HasNoPiece here.spot.rest → Halts here
Halts-none here h = record { stays = λ next s w. let p = step_piece here next s in h p.0 next.spot.rest p.1 p.2 }

full_gap : (here next : Reading) → IsFull here → SkipsGap here next → ⊥
full_gap here next f s = by s.gap
  where
    by : IsGap s.piece → ⊥
    by (inl g) =
        let e : f.byte ∷ f.rest ≡ g.0 ∷ next.spot.rest = sym f.is ∙ s.moved.text ∙ ap (λ l. l ++ next.spot.rest) g.1 in
        let i : g.0 ≡ f.byte = cc in
        let v : is_blank f.byte ≡ true = sym (ap is_blank i) ∙ g.2 in
        let u : false ≡ true = sym (ap not v) ∙ f.visible in cc
    by (inr g) =
        let e : f.byte ∷ f.rest ≡ 123 ∷ ((g.inside ++ 125 ∷ []) ++ next.spot.rest) = sym f.is ∙ s.moved.text ∙ ap (λ l. l ++ next.spot.rest) g.is in
        let i : f.byte ≡ 123 = cc in
        let u : false ≡ true = sym (ap (λ b. not (eqb b 123)) i) ∙ f.no_comment in cc

Halts-full : (here : Reading) → IsFull here → Halts here
Halts-full here f = record { stays = by }
  where
    by : (next : Reading) → Step here next → IsWithin next.tokens → ⊥
    by next (inl s) w = full_gap here next f s
    by next (inr s) w =
        let l = ap length s.tokens in
        let m = length-append here.tokens (record { kind = s.kind; place = here.spot.place } ∷ []) in
        let n = f.many in
        let k = w.few in omega (arith, l, m, n, k)

AllFit-last : (tokens : List Token) (t : Token) → AllFit (tokens ++ t ∷ []) → IsFit t.kind
AllFit-last [] t h = h.0
AllFit-last (x ∷ tokens) t h = AllFit-last tokens t h.1

AllFit-front : (tokens later : List Token) → AllFit (tokens ++ later) → AllFit tokens
AllFit-front [] later h = tt
AllFit-front (x ∷ tokens) later h = (h.0, AllFit-front tokens later h.1)

unfit : (n : ℕ) → 9223372036854775808 ≤ n → IsFit (Number (pos n)) → ⊥
unfit n h k = omega (arith, ints, k, h)

Halts-large : (here : Reading) → IsLargeNumber here.spot.rest → Halts here
Halts-large here f = record { stays = by }
  where
    by : (next : Reading) → Step here next → IsWithin next.tokens → ⊥
    by next (inl s) w = gap-or_token [] (Number (pos (decimal f.piece))) s.piece f.piece next.spot.rest f.rest s.gap (f.numeral, refl) (sym s.moved.text ∙ f.is)
    by next (inr s) w =
        let e =
        longest-same here.spot.rest f.piece s.piece f.rest next.spot.rest f.is s.moved.text f.longest s.longest
        (record { names = []; kind = Number (pos (decimal f.piece)); spelled = (f.numeral, refl) }) (record { names = here.names; kind = s.kind; spelled = s.spelled }) in
        let k = Spells-same here.names s.kind (Number (pos (decimal s.piece))) s.piece s.spelled (subst (λ p. Spells here.names (Number (pos (decimal p))) p) e (f.numeral, refl)) in
        let fit = AllFit-last here.tokens (record { kind = s.kind; place = here.spot.place }) (subst AllFit s.tokens w.fit) in
        unfit (decimal s.piece) (subst (λ p. 9223372036854775808 ≤ decimal p) e f.large) (subst IsFit k fit)

pub Halts-fault : (here : Reading) (e : LexError) → (e ≡ OutOfMemory → ⊥) → FaultAt here e → Halts here
Halts-fault here (BadByte p) m f = Halts-none here f.1.none
Halts-fault here (Unclosed p) m f = Halts-none here f.0.none
Halts-fault here (NumberTooLarge p) m f = Halts-large here f.0
Halts-fault here TooManyTokens m f = Halts-full here f
Halts-fault here OutOfMemory m f = absurd (m refl)

-- earlier states are within the limits
front_within : (tokens later : List Token) → IsWithin (tokens ++ later) → IsWithin tokens
front_within tokens later w =
    let f = w.few in
    let l = length-append tokens later in
    record { few = omega (arith, f, l); fit = AllFit-front tokens later w.fit }

step_within : (a b : Reading) → Step a b → IsWithin b.tokens → IsWithin a.tokens
step_within a b (inl s) w = subst IsWithin s.tokens w
step_within a b (inr s) w = front_within a.tokens (record { kind = s.kind; place = a.spot.place } ∷ []) (subst IsWithin s.tokens w)

-- two readings that halt are the same
uncons : (a b : Reading) → Steps a b → (a ≡ b) ⊎ ((next : Reading) × Step a next × Steps next b)
uncons a b (none here) = inl refl
uncons a b (more old next new s t) = inr (next, s, t)

module _ (P : Reading → Type 0) (earlier : (a b : Reading) → Step a b → P b → P a) where
  steps_earlier : (a b : Reading) → Steps a b → P b → P a
  steps_earlier a b (none here) w = w
  steps_earlier a b (more old next new s t) w = earlier old next s (steps_earlier next new t w)

  same_none : (a b : Reading) → P b → HaltsIn P a → (a ≡ b) ⊎ ((next : Reading) × Step a next × Steps next b) → a ≡ b
  same_none a b w h (inl e) = e
  same_none a b w h (inr s) = absurd (h.stays s.0 s.1 (steps_earlier s.0 b s.2 w))

  same_more : (a next last b : Reading) → Step a next → P next → HaltsIn P b → (Steps next b → last ≡ b) → (a ≡ b) ⊎ ((other : Reading) × Step a other × Steps other b) → last ≡ b
  same_more a next last b s w h f (inl e) = absurd ((subst (HaltsIn P) (sym e) h).stays next s w)
  same_more a next last b s w h f (inr t) = f (subst (λ z. Steps z b) (sym (Step-same a next t.0 s t.1)) t.2)

  pub Steps-same : (old a b : Reading) → Steps old a → Steps old b → P a → P b → HaltsIn P a → HaltsIn P b → a ≡ b
  Steps-same old a b (none here) u w v h k = same_none here b v h (uncons here b u)
  Steps-same old a b (more p q r s t) u w v h k = same_more p q r b s (steps_earlier q r t w) k (λ z. Steps-same q r b t z w v h k) (uncons p b u)

-- a text has at most one list of tokens
pub tokens_same : (names : List Bytes) (text : Bytes) (tokens others : List Token) (after after' : List Bytes) → IsTokensOf names text tokens after → IsTokensOf names text others after' → (tokens ≡ others) × (after ≡ after')
tokens_same names text tokens others after after' h k =
    let e =
    Steps-same (λ here. Unit {0}) (λ a b s w. tt) (start_of names text) h.last k.last h.steps k.steps tt tt
    (Halts-end (λ here. Unit {0}) h.last h.ended) (Halts-end (λ here. Unit {0}) k.last k.ended) in
    (h.read ∙ ap (λ r. r.tokens ++ record { kind = End; place = r.spot.place } ∷ []) e ∙ sym k.read, h.named ∙ ap (λ r. r.names) e ∙ sym k.named)

-- and at most one first fault
pub faults_same : (names : List Bytes) (text : Bytes) (e f : LexError) → (e ≡ OutOfMemory → ⊥) → (f ≡ OutOfMemory → ⊥) → IsFaultOf names text e → IsFaultOf names text f → e ≡ f
faults_same names text e f m n h k =
    let i = Steps-same Within step_within (start_of names text) h.here k.here h.steps k.steps h.within k.within (Halts-fault h.here e m h.fault) (Halts-fault k.here f n k.fault) in
    FaultAt-same h.here e f m n h.fault (subst (λ r. FaultAt r f) (sym i) k.fault)

-- at the end of a text no fault stands
no_fault_end : (here : Reading) (e : LexError) → here.spot.rest ≡ [] → (e ≡ OutOfMemory → ⊥) → FaultAt here e → ⊥
no_fault_end here (BadByte p) h m f = unfilled f.0 f.1.bad f.1.rest (sym h ∙ f.1.is)
  where
    unfilled : (a : Bytes) (x : ℕ) (r : Bytes) → [] ≡ a ++ x ∷ r → ⊥
    unfilled [] x r e = cc
    unfilled (y ∷ a) x r e = cc
no_fault_end here (Unclosed p) h m f = let k = f.0.filled in let l = ap length h in omega (arith, k, l)
no_fault_end here (NumberTooLarge p) h m f =
    let l = f.0 in
    let e = empty_front l.piece l.rest (sym h ∙ l.is) in
    let n : false ≡ true = sym (ap is_numeral e) ∙ l.numeral in cc
no_fault_end here TooManyTokens h m f = let e : [] ≡ f.byte ∷ f.rest = sym h ∙ f.is in cc
no_fault_end here OutOfMemory h m f = m refl

-- a text within the limits that has tokens has no fault
pub tokens_or_fault : (names : List Bytes) (text : Bytes) (tokens : List Token) (after : List Bytes) (e : LexError) → (e ≡ OutOfMemory → ⊥) → IsTokensOf names text tokens after → AreWithin tokens → IsFaultOf names text e → ⊥
tokens_or_fault names text tokens after e m h w k =
    let v = subst AreWithin h.read w in
    let f = v.few in
    let l = length-append h.last.tokens (record { kind = End; place = h.last.spot.place } ∷ []) in
    let within : IsWithin h.last.tokens = record { few = omega (arith, f, l); fit = AllFit-front h.last.tokens _ v.fit } in
    let i = Steps-same Within step_within (start_of names text) h.last k.here h.steps k.steps within k.within (Halts-end Within h.last h.ended) (Halts-fault k.here e m k.fault) in
    no_fault_end k.here e (ap (λ r. r.spot.rest) (sym i) ∙ h.ended) m k.fault
