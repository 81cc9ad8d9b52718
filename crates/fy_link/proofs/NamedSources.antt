-- The names in what a source says are those of identifiers, and the meets in its types are full.
use Rattle.std.proofs.Common.{◌≡◌, inl, inr, ℕ, zero, suc, ◌-◌, List, [], ◌∷◌, ◌++◌, codes, length, map, take, drop, reverse, Bool, true, false, refl, sym, subst}
use Rattle.std.specs.Prelude.{Option, Some, None, All}
use Rattle.std.specs.List.{flat_map, slice_split}
use Rattle.std.proofs.lemmas.List.{reverse-append}
use Rattle.std.proofs.lemmas.List.Elements.{All-nil, All-cons, All-head, All-tail, All-append}
use Rattle.fy_base.specs.Outside.{Bytes}
use Rattle.fy_base.specs.declared.data.Place.{Place}
use Rattle.fy_types.specs.declared.types.Atom.{Atom}
use Rattle.fy_types.specs.declared.types.Atom.TheVariants.{Int, Bool as Truth, Char, Comm, IntAcc}
use Rattle.fy_types.specs.Types.{PlainType, atom, arrow, and_type}
use Rattle.fy_types.specs.Names.{AreNames}
use Rattle.fy_types.proofs.NameLemmas.{AreNames-with_name}
use Rattle.fy_types.specs.Fields.{IsNamed, AllFields, HasFullMeets}
use Rattle.fy_lexer.specs.declared.token.Token.{Token}
use Rattle.fy_lexer.specs.declared.token.TokenKind.{TokenKind}
use Rattle.fy_lexer.specs.declared.token.TokenKind.TheVariants as kind
use Rattle.fy_lexer.specs.declared.token.Symbol.TheVariants as symbol
use Rattle.fy_lexer.specs.Tokens.{Reading, names_past, Step, Steps, IsTokensOf, start_of}
use Rattle.fy_lexer.specs.Identifiers.{AreIdentifiers, OfIdentifier, AllIdentifiers}
use Rattle.fy_lexer.proofs.IdentifierLemmas.{identifiers_named}
use Rattle.fy_syntax.specs.Signs.{front}
use Rattle.fy_syntax.proofs.NameLemmas.{names_are_of_tokens}
use Rattle.fy_phrase.specs.Tree.{Tree, let_in, lam}
use Rattle.fy_phrase.specs.PhraseNames.{AllNames, HasFullTypes}
use Rattle.fy_expand.specs.Scope.{program_scope}
use Rattle.fy_expand.proofs.ExpansionLemmas.{core_of-names, core_of-full}
use Rattle.fy_link.specs.Header.{PlainPiece, PlainHeader, is_sign, piece_from, piece_of, before_others, pieces_of, header_of, inside, pieces_in, abstraction_over, type_program, unit_program}
use Rattle.fy_front.specs.Checked.{Means}
use Rattle.fy_link.specs.Sources.{Named, PlainSource, Names, NameAll, IsSource, behind_definitions, below_abstractions, without_prelude, domain_of}
use Rattle.fy_link.specs.Units.{context_of, maker_type, prelude_types}
use Rattle.fy_link.proofs.Cuts.{header-cut}
use Rattle.fy_link.proofs.KnownNames.{AllParts, parts-identifiers, take-identifiers}

-- ---- lists of names

names-past : (k : TokenKind) (piece : Bytes) (names : List Bytes) → AreNames names → AreNames (names_past k piece names)
names-past (kind.Ident name) piece names h = AreNames-with_name names piece h
names-past (kind.Word keyword) piece names h = h
names-past (kind.Number n) piece names h = h
names-past (kind.Letter value) piece names h = h
names-past (kind.Str values) piece names h = h
names-past (kind.Sym symbol) piece names h = h
names-past kind.End piece names h = h

names-step : (old new : Reading) → Step old new → AreNames old.names → AreNames new.names
names-step old new (inl gap) h = subst AreNames (sym gap.names) h
names-step old new (inr taken) h = subst AreNames (sym taken.names) (names-past taken.kind taken.piece old.names h)

names-steps : (old new : Reading) → Steps old new → AreNames old.names → AreNames new.names
names-steps old new (Steps.none here) h = h
names-steps old new (Steps.more a next b step steps) h = names-steps next new steps (names-step old next step h)

pub tokens-names : (names after : List Bytes) (text : Bytes) (tokens : List Token) → AreNames names → IsTokensOf names text tokens after → AreNames after
tokens-names names after text tokens h k = subst AreNames (sym k.named) (names-steps (start_of names text) k.last k.steps h)

-- ---- tokens

drop-identifiers : (P : ℕ → Type 0) (k : ℕ) (ts : List Token) → AllIdentifiers P ts → AllIdentifiers P (drop k ts)
drop-identifiers P zero ts h = h
drop-identifiers P (suc k) [] h = tt
drop-identifiers P (suc k) (t ∷ ts) h = drop-identifiers P k ts h.1

both-identifiers : (P : ℕ → Type 0) (ts us : List Token) → AllIdentifiers P ts → AllIdentifiers P us → AllIdentifiers P (ts ++ us)
both-identifiers P [] us h k = k
both-identifiers P (t ∷ ts) us h k = (h.0, both-identifiers P ts us h.1 k)

-- the name and the type of each piece
abbrev AllPieces : (ℕ → Type 0) → List PlainPiece → Type 0
AllPieces P [] = Unit {0}
AllPieces P (x ∷ xs) = (P x.name × AllIdentifiers P x.type) × AllPieces P xs

piece-from : (P : ℕ → Type 0) (k : TokenKind) (b : Bool) (p q : Place) (type : List Token) (x : PlainPiece) → piece_from k b p q type ≡ Some x → OfIdentifier P k →
    AllIdentifiers P type → P x.name × AllIdentifiers P x.type
piece-from P (kind.Ident n) true p q type x e h k =
    let made : PlainPiece = record { name = n; at = p; colon_at = q; type = type } in
    let same : made ≡ x = cc in
    subst (λ (y : PlainPiece). P y.name × AllIdentifiers P y.type) same (h, k)
piece-from P (kind.Ident n) false p q type x e h k = absurd (cc)
piece-from P (kind.Number n) b p q type x e h k = absurd (cc)
piece-from P (kind.Letter c) b p q type x e h k = absurd (cc)
piece-from P (kind.Str bytes) b p q type x e h k = absurd (cc)
piece-from P (kind.Word w) b p q type x e h k = absurd (cc)
piece-from P (kind.Sym s) b p q type x e h k = absurd (cc)
piece-from P kind.End b p q type x e h k = absurd (cc)

piece-of : (P : ℕ → Type 0) (part : List Token) (x : PlainPiece) → AllIdentifiers P part → piece_of part ≡ Some x → P x.name × AllIdentifiers P x.type
piece-of P [] x h e = absurd (cc)
piece-of P (t ∷ []) x h e = absurd (cc)
piece-of P (t ∷ u ∷ type) x h e = piece-from P t.kind (is_sign symbol.Colon u) t.place u.place type x e h.0 h.1.1

both-pieces : (P : ℕ → Type 0) (o : Option PlainPiece) (r : Option (List PlainPiece)) (xs : List PlainPiece) → before_others o r ≡ Some xs →
    ((x : PlainPiece) → o ≡ Some x → P x.name × AllIdentifiers P x.type) → ((ys : List PlainPiece) → r ≡ Some ys → AllPieces P ys) → AllPieces P xs
both-pieces P None r xs e f g = absurd (cc)
both-pieces P (Some x) None xs e f g = absurd (cc)
both-pieces P (Some x) (Some ys) xs e f g = let k : x ∷ ys ≡ xs = cc in subst (AllPieces P) k (f x refl, g ys refl)

pieces-of : (P : ℕ → Type 0) (parts : List (List Token)) (xs : List PlainPiece) → AllParts P parts → pieces_of parts ≡ Some xs → AllPieces P xs
pieces-of P [] xs h e = let k : [] ≡ xs = cc in subst (AllPieces P) k tt
pieces-of P (part ∷ parts) xs h e =
    both-pieces P (piece_of part) (pieces_of parts) xs e (λ x k. piece-of P part x h.0 k) (λ ys k. pieces-of P parts ys h.1 k)

front-pieces : (P : ℕ → Type 0) (xs ys : List PlainPiece) → AllPieces P (xs ++ ys) → AllPieces P xs
front-pieces P [] ys h = tt
front-pieces P (x ∷ xs) ys h = (h.0, front-pieces P xs ys h.1)

last-piece : (P : ℕ → Type 0) (xs : List PlainPiece) (x : PlainPiece) → AllPieces P (xs ++ x ∷ []) → P x.name × AllIdentifiers P x.type
last-piece P [] x h = h.0
last-piece P (y ∷ xs) x h = last-piece P xs x h.1

-- the pieces of a header, and what stands behind it
record HasIdentifiers (P : ℕ → Type 0) (header : PlainHeader) : Type 0 where
  pieces : AllPieces P (pieces_in header)
  tail : AllIdentifiers P header.tail

header-identifiers : (P : ℕ → Type 0) (tokens : List Token) (header : PlainHeader) → AllIdentifiers P tokens → header_of tokens ≡ Some header → HasIdentifiers P header
header-identifiers P tokens header h e =
    let cut = header-cut tokens header e in
    record {
      pieces = pieces-of P (slice_split (is_sign symbol.Comma) (take cut.k tokens)) (pieces_in header)
          (parts-identifiers P (is_sign symbol.Comma) (take cut.k tokens) (take-identifiers P cut.k tokens h)) cut.pieces;
      tail = subst (AllIdentifiers P) (sym cut.tail) (drop-identifiers P _ tokens h);
    }

abstraction-identifiers : (P : ℕ → Type 0) (at : Place) (x : PlainPiece) → P x.name × AllIdentifiers P x.type → AllIdentifiers P (abstraction_over at x)
abstraction-identifiers P at x h = (tt, (h.0, (tt, both-identifiers P x.type _ h.1 (tt, tt))))

abstractions-identifiers : (P : ℕ → Type 0) (at : Place) (xs : List PlainPiece) → AllPieces P xs → AllIdentifiers P (flat_map (abstraction_over at) xs)
abstractions-identifiers P at [] h = tt
abstractions-identifiers P at (x ∷ xs) h =
    both-identifiers P (abstraction_over at x) (flat_map (abstraction_over at) xs) (abstraction-identifiers P at x h.0) (abstractions-identifiers P at xs h.1)

type-identifiers : (P : ℕ → Type 0) (at : Place) (x : PlainPiece) → P x.name × AllIdentifiers P x.type → AllIdentifiers P (type_program at x)
type-identifiers P at x h = both-identifiers P (abstraction_over at x) _ (abstraction-identifiers P at x h) (tt, (tt, tt))

unit-identifiers : (P : ℕ → Type 0) (at : Place) (header : PlainHeader) → HasIdentifiers P header → AllIdentifiers P (unit_program at header)
unit-identifiers P at header h =
    both-identifiers P (flat_map (abstraction_over at) header.imports) _
    (abstractions-identifiers P at header.imports (front-pieces P header.imports (header.own ∷ []) h.pieces))
    (tt, both-identifiers P (inside header) _ (take-identifiers P (length header.tail - 1) header.tail h.tail) (tt, (tt, tt)))

-- ---- phrases

-- the names of a phrase have the property, and the meets in its types are full
record IsNice (names : List Bytes) (p : Tree) : Type 0 where
  named : AllNames (IsNamed names) p
  full : HasFullTypes p

record IsNiceType (names : List Bytes) (A : PlainType) : Type 0 where
  named : AllFields (IsNamed names) A
  full : HasFullMeets A

means-nice : (names : List Bytes) (tokens : List Token) (p : Tree) → IsNamed names 0 → AllIdentifiers (IsNamed names) tokens → Means tokens p → IsNice names p
means-nice names tokens p first h m = record {
  named = core_of-names m.tree p m.core (IsNamed names) first (names_are_of_tokens.named names m.tree tokens m.program.spelled h);
  full = core_of-full m.tree p tokens m.core m.program.spelled;
}

nice-behind : (names : List Bytes) (n : ℕ) (p : Tree) → IsNice names p → IsNice names (behind_definitions n p)
nice-behind names zero p h = h
nice-behind names (suc n) (let_in d p b at) h = nice-behind names n b (record { named = h.named.1; full = h.full.1 })
nice-behind names (suc n) p h = h

nice-below : (names : List Bytes) (n : ℕ) (p : Tree) → IsNice names p → IsNice names (below_abstractions n p)
nice-below names zero p h = h
nice-below names (suc n) (lam d As b at) h = nice-below names n b (record { named = h.named.1; full = h.full.1 })
nice-below names (suc n) p h = h

nice-domain : (names : List Bytes) (p : Tree) → IsNice names p → IsNiceType names (domain_of p)
nice-domain names (lam d (and_type A As) b at) h = record { named = h.named.0.0; full = h.full.0.0 }
nice-domain names p h = record { named = tt; full = tt }

nice-without : (names : List Bytes) (p : Tree) → IsNice names p → IsNice names (without_prelude p)
nice-without names p h = nice-behind names program_scope.depth p h

nice-type : (names : List Bytes) (at : Place) (x : PlainPiece) (n : Named) → IsNamed names 0 → IsNamed names x.name × AllIdentifiers (IsNamed names) x.type → Names at x n → IsNiceType names n.type
nice-type names at x n first h k =
    subst (IsNiceType names) (sym k.type)
    (nice-domain names (without_prelude k.phrase)
    (nice-without names k.phrase (means-nice names (type_program at x) k.phrase first (type-identifiers (IsNamed names) at x h) k.means)))

nice-types : (names : List Bytes) (at : Place) (xs : List PlainPiece) (ns : List Named) → IsNamed names 0 → AllPieces (IsNamed names) xs → NameAll at xs ns →
    All (AllFields (IsNamed names)) (map (λ (x : Named). x.type) ns)
nice-types names at [] [] first h k = All-nil (AllFields (IsNamed names))
nice-types names at [] (n ∷ ns) first h k = absurd k
nice-types names at (x ∷ xs) [] first h k = absurd k
nice-types names at (x ∷ xs) (n ∷ ns) first h k =
    All-cons (AllFields (IsNamed names)) n.type (map (λ (y : Named). y.type) ns) (nice-type names at x n first h.0 k.0).named (nice-types names at xs ns first h.1 k.1)

all-reverse : (P : PlainType → Type 0) (As : List PlainType) → All P As → All P (reverse As)
all-reverse P [] h = All-nil P
all-reverse P (A ∷ As) h =
    subst (All P) (sym (reverse-append (A ∷ []) As))
    (All-append P (reverse As) (A ∷ []) (all-reverse P As (All-tail P A As h)) (All-cons P A [] (All-head P A As h) (All-nil P)))

abbrev procedure : Atom → PlainType
procedure a = arrow (atom a) (atom Comm)

prelude-nice : (names : List Bytes) → IsNamed names 0 → All (AllFields (IsNamed names)) prelude_types
prelude-nice names len =
    let P : PlainType → Type 0 = AllFields (IsNamed names) in
    All-cons P (procedure Int) (procedure Char ∷ procedure Truth ∷ procedure IntAcc ∷ maker_type ∷ []) (tt, tt)
    (All-cons P (procedure Char) (procedure Truth ∷ procedure IntAcc ∷ maker_type ∷ []) (tt, tt)
    (All-cons P (procedure Truth) (procedure IntAcc ∷ maker_type ∷ []) (tt, tt)
    (All-cons P (procedure IntAcc) (maker_type ∷ []) (tt, tt)
    (All-cons P maker_type [] (tt, ((((tt, (tt, (tt, tt))), ((len, tt), tt)), tt), tt)) (All-nil P)))))

-- `len` is one of the names
pub len-named : (names : List Bytes) → AreNames names → IsNamed names 0
len-named names h = subst (λ (ns : List Bytes). IsNamed ns 0) (sym h.begins) (record { name = codes "len"; numbered = refl; identifier = refl })

-- the names in what a source says, in its own type and in its context
pub record IsNamedSource (names : List Bytes) (u : PlainSource) : Type 0 where
  pub named : AllNames (IsNamed names) u.phrase
  pub full : HasFullTypes u.phrase
  pub own_named : AllFields (IsNamed names) u.own.type
  pub own_full : HasFullMeets u.own.type
  pub context : All (AllFields (IsNamed names)) (reverse (context_of u.imports))

pub source-named : (names after : List Bytes) (source : Bytes) (u : PlainSource) → AreIdentifiers names → IsNamed after 0 → IsSource names source after u → IsNamedSource after u
source-named names after source u identifiers first h =
    let at = front h.tokens in
    let idents : AllIdentifiers (IsNamed after) h.tokens = identifiers_named.named names source h.tokens after h.headed.lexed.read identifiers in
    let all = header-identifiers (IsNamed after) h.tokens h.header idents h.headed.is in
    let whole = means-nice after (unit_program at h.header) h.said.whole first (unit-identifiers (IsNamed after) at h.header all) h.said.means in
    let phrase = subst (IsNice after) (sym h.said.phrase) (nice-below after (length u.imports) (without_prelude h.said.whole) (nice-without after h.said.whole whole)) in
    let own = nice-type after at h.header.own u.own first (last-piece (IsNamed after) h.header.imports h.header.own all.pieces) h.said.own in
    let imports = nice-types after at h.header.imports u.imports first (front-pieces (IsNamed after) h.header.imports (h.header.own ∷ []) all.pieces) h.said.imports in
    record {
      named = phrase.named;
      full = phrase.full;
      own_named = own.named;
      own_full = own.full;
      context = all-reverse (AllFields (IsNamed after)) (context_of u.imports)
          (All-append (AllFields (IsNamed after)) prelude_types (map (λ (x : Named). x.type) u.imports) (prelude-nice after first) imports);
    }
