-- What the source of a unit says, and why a source is refused before it is typed.
use Rattle.std.specs.Prelude.{◌≡◌, ℕ, zero, suc, List, [], ◌∷◌, ◌++◌, length, Some, None}
use Rattle.fy_base.specs.Outside.{Bytes}
use Rattle.fy_base.specs.declared.data.Place.{Place}
use Rattle.fy_types.specs.Types.{PlainType, PlainTypes}
use Rattle.fy_lexer.specs.declared.error.LexError.{LexError}
use Rattle.fy_lexer.specs.declared.token.Token.{Token}
use Rattle.fy_lexer.specs.Again.{HaveNoEnd}
use Rattle.fy_lexer.specs.Tokens.{IsTokensOf, AreWithin, IsFaultOf}
use Rattle.fy_syntax.specs.Trees as written
use Rattle.fy_syntax.specs.Signs.{front}
use Rattle.fy_grammar.specs.declared.error.ParseError.{ParseError}
use Rattle.fy_grammar.specs.Program.{IsEnded, IsTheProgram, IsRefusal}
use Rattle.fy_phrase.specs.Tree.{Tree, let_in, lam}
use Rattle.fy_expand.specs.Scope.{program_scope}
use Rattle.fy_front.specs.Checked.{lex_refusal, parse_refusal, Means, IsMeaningless}
use Rattle.fy_front.specs.declared.refusal.Refusal.{Refusal}
use Rattle.fy_front.specs.declared.refusal.Refusal.TheVariants as refusal
use Rattle.fy_link.specs.Header.{PlainPiece, PlainHeader, header_of, pieces_in, type_program, unit_program}

-- a name with its type: an import, or what a unit exports
pub record Named : Type 0 where
  pub name : ℕ
  pub type : PlainType

-- what a source says: the imports in order, the unit's own name and type, and its phrase, which stands in the context of the prelude and the imports
pub record PlainSource : Type 0 where
  pub imports : List Named
  pub own : Named
  pub phrase : Tree

-- what stands behind so many definitions
abbrev pub behind_definitions : ℕ → Tree → Tree
behind_definitions zero p = p
behind_definitions (suc n) (let_in d p b at) = behind_definitions n b
behind_definitions (suc n) p = p

-- what stands below so many abstractions
abbrev pub below_abstractions : ℕ → Tree → Tree
below_abstractions zero p = p
below_abstractions (suc n) (lam d As b at) = below_abstractions n b
below_abstractions (suc n) p = p

-- a program's phrase without the prelude's definitions around it
abbrev pub without_prelude : Tree → Tree
without_prelude p = behind_definitions program_scope.depth p

-- the first type of an abstraction's parameter; `ns` stands in for other phrases
abbrev pub domain_of : Tree → PlainType
domain_of (lam d (PlainTypes.and_type A As) b at) = A
domain_of p = PlainType.ns

-- the source is read as these tokens, from a list of names to another
pub record IsLexed (names : List Bytes) (source : Bytes) (tokens : List Token) (after : List Bytes) : Type 0 where
  pub read : IsTokensOf names source tokens after
  pub within : AreWithin tokens

-- a piece of the header names this, with the type that is written
pub record Names (at : Place) (x : PlainPiece) (named : Named) : Type 0 where
  pub name : named.name ≡ x.name
  pub phrase : Tree
  pub means : Means (type_program at x) phrase
  pub type : named.type ≡ domain_of (without_prelude phrase)

-- the pieces name these, in order
abbrev pub NameAll : Place → List PlainPiece → List Named → Type 0
NameAll at [] [] = Unit {0}
NameAll at [] (named ∷ more) = ⊥
NameAll at (x ∷ xs) [] = ⊥
NameAll at (x ∷ xs) (named ∷ more) = Names at x named × NameAll at xs more

-- the source is read as these tokens and has this header
pub record HasHeader (names : List Bytes) (source : Bytes) (after : List Bytes) (tokens : List Token) (header : PlainHeader) : Type 0 where
  pub lexed : IsLexed names source tokens after
  pub is : header_of tokens ≡ Some header

-- the end of the text is in no type of the pieces
abbrev pub AreInside : List PlainPiece → Type 0
AreInside [] = Unit {0}
AreInside (x ∷ xs) = HaveNoEnd x.type × AreInside xs

-- nor in a piece of the header, behind whose `==` it is the last
pub record IsInside (header : PlainHeader) : Type 0 where
  pub tail : IsEnded header.tail
  pub pieces : AreInside (pieces_in header)

-- behind the header, in a source whose first token has that place: its pieces name this, and what stands behind the `==` is the phrase
pub record IsSaid (at : Place) (header : PlainHeader) (u : PlainSource) : Type 0 where
  pub imports : NameAll at header.imports u.imports
  pub own : Names at header.own u.own
  pub alone : written.Tree
  pub program : IsTheProgram header.tail alone
  pub whole : Tree
  pub means : Means (unit_program at header) whole
  pub phrase : u.phrase ≡ below_abstractions (length u.imports) (without_prelude whole)

-- the source says this, where its names are numbered by the list, which becomes the other one
pub record IsSource (names : List Bytes) (source : Bytes) (after : List Bytes) (u : PlainSource) : Type 0 where
  pub tokens : List Token
  pub header : PlainHeader
  pub headed : HasHeader names source after tokens header
  pub said : IsSaid (front tokens) header u

-- the types of the pieces before one are known, and that one's is refused
pub record IsTypeFault (at : Place) (pieces : List PlainPiece) (e : Refusal) : Type 0 where
  pub before : List PlainPiece
  pub x : PlainPiece
  pub behind : List PlainPiece
  pub is : pieces ≡ before ++ x ∷ behind
  pub known : List Named
  pub named : NameAll at before known
  pub why : IsMeaningless (type_program at x) e

-- why a source with this header is refused: by a type of a piece, else by what stands behind the `==` alone, else by the whole
pub data IsSaidFault (at : Place) (header : PlainHeader) : Refusal → Type 0 where
  of_type : {e : Refusal} → IsTypeFault at (pieces_in header) e → IsSaidFault at header e
  of_tail : (known : List Named) {e : Refusal} (cause : ParseError) → NameAll at (pieces_in header) known →
      IsRefusal header.tail cause → parse_refusal cause ≡ Some e → IsSaidFault at header e
  of_phrase : (known : List Named) {alone : written.Tree} {e : Refusal} → NameAll at (pieces_in header) known →
      IsTheProgram header.tail alone → IsMeaningless (unit_program at header) e → IsSaidFault at header e

-- why a source is refused before typing: by the first stage that refuses
pub data IsSourceFault (names : List Bytes) (source : Bytes) : Refusal → Type 0 where
  of_tokens : {e : Refusal} (cause : LexError) → IsFaultOf names source cause → lex_refusal cause ≡ Some e → IsSourceFault names source e
  of_header : {tokens : List Token} {after : List Bytes} →
      IsLexed names source tokens after → header_of tokens ≡ None → IsSourceFault names source (refusal.Header (front tokens))
  behind_header : {tokens : List Token} {after : List Bytes} {header : PlainHeader} {e : Refusal} →
      HasHeader names source after tokens header → IsSaidFault (front tokens) header e → IsSourceFault names source e

-- the source is read so, and the `==` of its header has that place
pub record HasEquals (names : List Bytes) (source : Bytes) (after : List Bytes) (at : Place) : Type 0 where
  pub tokens : List Token
  pub header : PlainHeader
  pub headed : HasHeader names source after tokens header
  pub is : header.equals_at ≡ at
