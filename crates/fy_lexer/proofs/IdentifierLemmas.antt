-- The identifiers among tokens have numbers among the names behind their text.
use Rattle.std.proofs.Common.{◌≡◌, inl, inr, ℕ, Bool, true, false, if◌then◌else◌, IsTrue, List, [], ◌∷◌, ◌++◌, refl, sym, subst}
use Rattle.std.specs.Prelude.{All}
use Rattle.std.specs.List.{list_all}
use Rattle.std.specs.Str.{bytes_eq}
use Rattle.std.proofs.lemmas.Bool.{and_parts}
use Rattle.std.proofs.lemmas.List.Elements.{All-nil, All-cons, All-head, All-tail}
use Rattle.fy_base.specs.Outside.{Bytes}
use Rattle.fy_base.specs.declared.data.Place.{Place}
use Rattle.fy_types.specs.Fields.{IsNamed}
use Rattle.fy_types.specs.Names.{first_names, number_of, with_name}
use Rattle.fy_types.specs.Words.{is_identifier}
use Rattle.fy_lexer.specs.declared.token.Token.{Token}
use Rattle.fy_lexer.specs.declared.token.TokenKind.{TokenKind}
use Rattle.fy_lexer.specs.declared.token.TokenKind.TheVariants.{Ident, Number, Letter, Str, Word, Sym, End}
use Rattle.fy_lexer.specs.Identifiers.{AreIdentifiers, OfIdentifier, AllIdentifiers, IdentifiersAreNamed}
use Rattle.fy_lexer.specs.Spellings.{Spells}
use Rattle.fy_lexer.specs.Tokens.{Reading, names_past, Step, Steps, none, more, IsTokensOf, HasAdded}
use Rattle.fy_lexer.proofs.NamesLemmas.{HasAdded-none, HasAdded-with_name, get-later, numbered_later}

-- ---- names
all_pass : (p : Bytes → Bool) (names : List Bytes) → list_all p names ≡ true → All (λ name. IsTrue (p name)) names
all_pass p [] h = All-nil (λ name. IsTrue (p name))
all_pass p (name ∷ names) h =
    let t = and_parts (p name) (list_all p names) h in All-cons (λ name. IsTrue (p name)) name names t.0 (all_pass p names t.1)

abbrev IsIdentifier : Bytes → Type 0
IsIdentifier name = IsTrue (is_identifier name)

identifiers_step : (b : Bool) (name : Bytes) (names longer : List Bytes) → AreIdentifiers (name ∷ names) → AreIdentifiers longer →
    AreIdentifiers (if b then name ∷ names else name ∷ longer)
identifiers_step true name names longer h k = h
identifiers_step false name names longer h k = All-cons IsIdentifier name longer (All-head IsIdentifier name names h) k

identifiers-with_name : (names : List Bytes) (w : Bytes) → IsTrue (is_identifier w) → AreIdentifiers names → AreIdentifiers (with_name names w)
identifiers-with_name [] w one h = All-cons IsIdentifier w [] one (All-nil IsIdentifier)
identifiers-with_name (name ∷ names) w one h =
    identifiers_step (bytes_eq w name) name names (with_name names w) h (identifiers-with_name names w one (All-tail IsIdentifier name names h))

pub named_later : {names later : List Bytes} (i : ℕ) → HasAdded names later → IsNamed names i → IsNamed later i
named_later i added h = record { name = h.name; numbered = get-later i h.name added h.numbered; identifier = h.identifier }

-- ---- tokens
of_weaker : {P Q : ℕ → Type 0} → ((i : ℕ) → P i → Q i) → (kind : TokenKind) → OfIdentifier P kind → OfIdentifier Q kind
of_weaker turn (Ident n) h = turn n h
of_weaker turn (Word keyword) h = tt
of_weaker turn (Number n) h = tt
of_weaker turn (Letter value) h = tt
of_weaker turn (Str values) h = tt
of_weaker turn (Sym symbol) h = tt
of_weaker turn End h = tt

pub identifiers_weaker : {P Q : ℕ → Type 0} → ((i : ℕ) → P i → Q i) → (tokens : List Token) → AllIdentifiers P tokens → AllIdentifiers Q tokens
identifiers_weaker turn [] h = tt
identifiers_weaker turn (token ∷ tokens) h = (of_weaker turn token.kind h.0, identifiers_weaker turn tokens h.1)

identifiers_push : (P : ℕ → Type 0) (tokens : List Token) (kind : TokenKind) (place : Place) → AllIdentifiers P tokens → OfIdentifier P kind →
    AllIdentifiers P (tokens ++ record { kind = kind; place = place } ∷ [])
identifiers_push P [] kind place h one = (one, tt)
identifiers_push P (token ∷ tokens) kind place h one = (h.0, identifiers_push P tokens kind place h.1 one)

-- ---- readings
record AreNamed (names : List Bytes) (tokens : List Token) : Type 0 where
  identifiers : AreIdentifiers names
  named : AllIdentifiers (IsNamed names) tokens

same_named : {names later : List Bytes} {tokens others : List Token} → later ≡ names → others ≡ tokens → AreNamed names tokens → AreNamed later others
same_named {names = names} {others = others} en et h =
    subst (λ ns. AreNamed ns others) (sym en) (subst (AreNamed names) (sym et) h)

pushed : {names : List Bytes} {tokens : List Token} (kind : TokenKind) (place : Place) → OfIdentifier (IsNamed names) kind → AreNamed names tokens →
    AreNamed names (tokens ++ record { kind = kind; place = place } ∷ [])
pushed {names = names} {tokens = tokens} kind place one h =
    record { identifiers = h.identifiers; named = identifiers_push (IsNamed names) tokens kind place h.named one }

-- with a token that is spelled
taken : (names : List Bytes) (tokens : List Token) (kind : TokenKind) (place : Place) (piece : Bytes) → Spells names kind piece →
    AreNamed names tokens → AreNamed (names_past kind piece names) (tokens ++ record { kind = kind; place = place } ∷ [])
taken names tokens (Word keyword) place piece s h = pushed (Word keyword) place tt h
taken names tokens (Number n) place piece s h = pushed (Number n) place tt h
taken names tokens (Letter value) place piece s h = pushed (Letter value) place tt h
taken names tokens (Str values) place piece s h = pushed (Str values) place tt h
taken names tokens (Sym symbol) place piece s h = pushed (Sym symbol) place tt h
taken names tokens End place piece s h = absurd s
taken names tokens (Ident n) place piece s h =
    let later = with_name names piece in
    let one : IsNamed later (number_of names piece) =
    record { name = piece; numbered = numbered_later names later piece (HasAdded-none later); identifier = s.0 } in
    pushed (Ident n) place (subst (IsNamed later) (sym s.1) one)
    (record {
      identifiers = identifiers-with_name names piece s.0 h.identifiers;
      named = identifiers_weaker (λ i. named_later i (HasAdded-with_name names piece)) tokens h.named;
    })

step_named : (old new : Reading) → Step old new → AreNamed old.names old.tokens → AreNamed new.names new.tokens
step_named old new (inl s) h = same_named s.names s.tokens h
step_named old new (inr s) h = same_named s.names s.tokens (taken old.names old.tokens s.kind old.spot.place s.piece s.spelled h)

steps_named : (old new : Reading) → Steps old new → AreNamed old.names old.tokens → AreNamed new.names new.tokens
steps_named old new (none _) h = h
steps_named old new (more _ next _ s ss) h = steps_named next new ss (step_named old next s h)

tokens_named : (names : List Bytes) (text : Bytes) (tokens : List Token) (after : List Bytes) → IsTokensOf names text tokens after →
    AreIdentifiers names → AreNamed after tokens
tokens_named names text tokens after h identifiers =
    same_named h.named h.read (pushed End h.last.spot.place tt (steps_named _ h.last h.steps (record { identifiers = identifiers; named = tt })))

pub identifiers_named : IdentifiersAreNamed
identifiers_named = record {
  first = all_pass is_identifier first_names refl;
  kept = λ names text tokens after h identifiers. (tokens_named names text tokens after h identifiers).identifiers;
  named = λ names text tokens after h identifiers. (tokens_named names text tokens after h identifiers).named;
}
