-- Phrases whose texts are read again.
use Rattle.std.specs.Prelude.{◌≡◌, ◌≢◌, ℕ, ◌+◌, ◌-◌, ◌^◌, ◌≤◌, Bool, true, false, IsTrue, Option, Some, None, is_some, List, [], ◌∷◌, ◌++◌, map, length, codes, ◌⊎◌}
use Rattle.fy_base.specs.Outside.{Bytes}
use Rattle.fy_base.specs.declared.data.Place.{Place}
use Rattle.fy_types.specs.Fields.{AllFields, AllFieldsOf, HasFullMeets, HaveFullMeets}
use Rattle.fy_types.specs.Names.{AreNames, has, number_of}
use Rattle.fy_types.specs.Types.{PlainType, PlainTypes, no_types, and_type}
use Rattle.fy_lexer.specs.Identifiers.{AreIdentifiers}
use Rattle.fy_lexer.specs.declared.token.Token.{Token}
use Rattle.fy_lexer.specs.declared.token.TokenKind.TheVariants as kind
use Rattle.fy_lexer.specs.Tokens.{IsTokensOf}
use Rattle.fy_syntax.specs.Printing.{IsIdentifierNumber}
use Rattle.fy_syntax.specs.Signs.{Level, token}
use Rattle.fy_syntax.specs.Spells.{SpellsBefore}
use Rattle.fy_syntax.specs.Trees as written
use Rattle.fy_phrase.specs.Alike.{Alike}
use Rattle.fy_phrase.specs.Tree.{Tree, Trees, var, lit, unary, binary, cond, case, lam, app, field, sel, merge, let_in, rec, skip, seq, assign, while_do, forever, new, cells, escape, accept, put, read, mark, no_trees, and_tree}
use Rattle.fy_phrase.specs.CoreLimits.{types_count}
use Rattle.fy_phrase.specs.WellMade.{IsOperand}
use Rattle.fy_expand.specs.Core.{core, meet_of}
use Rattle.fy_expand.specs.Faults.{fault, is_among}
use Rattle.fy_expand.specs.Types.{is_large_type}
use Rattle.fy_expand.specs.Scope.{program_scope}
use Rattle.fy_show.specs.declared.binders.Binder.{Binder}
use Rattle.fy_show.specs.Entries.{Fields, Entry, unnamed, one, all, Scope, Known, entry_at, field_name}
use Rattle.fy_show.specs.Fresh.{record_at, fields_of, most_names, any_uses, bound}
use Rattle.fy_show.specs.Names.{bodies, declared_by, names_of_all}
use Rattle.fy_show.specs.Texts.{is_sequence, is_empty_string, item_count, text_of}
use Rattle.fy_again.specs.Again.{IsLiteral}

-- what is known of names where no phrase is folded and no cell stands
abbrev pub plainly : List Bytes → List Binder → Known
plainly names binders = record { names = names; binders = binders; folded = λ p. None; marks = λ m. [] }

-- the names of the prelude, the innermost first
abbrev pub prelude : Scope
prelude = one (codes "newintseq") ∷ one (codes "read") ∷ one (codes "putbool") ∷ one (codes "putchar") ∷ one (codes "putint") ∷ []

-- each field of a `letrec` is shown by its own name
abbrev pub AreKept : List Bytes → Fields → Type 0
AreKept names [] = Unit {0}
AreKept names (f ∷ fs) = (has names f.1 ≡ true) × (number_of names f.1 ≡ f.0) × AreKept names fs

-- a binder is shown by a name of the list, or by those of its fields
abbrev pub IsNamedEntry : List Bytes → Entry → Type 0
IsNamedEntry names unnamed = ⊥
IsNamedEntry names (one x) = has names x ≡ true
IsNamedEntry names (all fs) = AreKept names fs

-- so is the form's own binder, and fewer names are used and declared there than are tried
abbrev pub IsBound : Known → Scope → Tree → Type 0
IsBound k s p = IsNamedEntry k.names (bound k s p) × (length (names_of_all k (unnamed ∷ s) (bodies p)) + length (declared_by p) ≤ most_names)

-- a type that a text shows: each meet has two members or more, each field is an identifier, and it is within the limits on types
abbrev pub IsShownType : List Bytes → PlainType → Type 0
IsShownType names A = HasFullMeets A × AllFields (IsIdentifierNumber names) A × (is_large_type A ≡ false)

-- types within the limits on types
abbrev pub AreSmall : PlainTypes → Type 0
AreSmall no_types = Unit {0}
AreSmall (and_type A As) = (is_large_type A ≡ false) × AreSmall As

-- one such type or more, and at most 16
abbrev pub AreAlternatives : List Bytes → PlainTypes → Type 0
AreAlternatives names As = (As ≢ no_types) × HaveFullMeets As × AllFieldsOf (IsIdentifierNumber names) As × AreSmall As × (types_count As ≤ 16)

-- fields of such types
abbrev pub AreDeclared : List Bytes → List (ℕ × PlainType) → Type 0
AreDeclared names [] = Unit {0}
AreDeclared names (f ∷ fs) = IsShownType names f.1 × AreDeclared names fs

-- the fields as types
abbrev pub types_declared : List (ℕ × PlainType) → PlainTypes
types_declared [] = no_types
types_declared (f ∷ fs) = and_type (PlainType.field f.0 f.1) (types_declared fs)

-- each field is none of those before it
abbrev pub AreFresh : List ℕ → List (ℕ × PlainType) → Type 0
AreFresh seen [] = Unit {0}
AreFresh seen (f ∷ fs) = (is_among seen f.0 ≡ false) × AreFresh (seen ++ f.0 ∷ []) fs

-- the type of a `letrec`: a field, or a meet of fields
abbrev pub IsRecordType : List Bytes → PlainType → Type 0
IsRecordType names T = (fields_of T ≢ []) × (meet_of (types_declared (fields_of T)) ≡ T) × AreDeclared names (fields_of T) × AreFresh [] (fields_of T)

-- the fields in the order in which they are declared
abbrev pub fields_declared : List (ℕ × PlainType) → List ℕ
fields_declared fs = map (λ f. f.0) fs

-- and in which they are defined
abbrev pub fields_defined : Tree → List ℕ
fields_defined (merge p (field i q at) here) = fields_defined p ++ i ∷ []
fields_defined (field i q at) = i ∷ []
fields_defined p = []

-- one of the fields
abbrev pub IsAmong : ℕ → List (ℕ × PlainType) → Type 0
IsAmong i [] = ⊥
IsAmong i (f ∷ fs) = (i ≡ f.0) ⊎ IsAmong i fs

-- a variable of one name
abbrev pub IsOne : Entry → Type 0
IsOne (one x) = Unit {0}
IsOne e = ⊥

-- a field of a record in scope, or of another phrase
abbrev pub IsSelected : List Bytes → ℕ → Option Fields → Type 0 → Type 0
IsSelected names i None P = IsIdentifierNumber names i × P
IsSelected names i (Some fs) P = IsTrue (is_some (field_name fs i))

-- the first where the test holds, else the second
abbrev pub Chosen : Bool → Type 0 → Type 0 → Type 0
Chosen true P Q = P
Chosen false P Q = Q

abbrev mutual
  -- the grammar has a text for the phrase, and its names are among those of the list
  pub IsReadable : Known → Scope → Tree → Type 0
  IsReadable k s (var n at) = IsOne (entry_at s n)
  IsReadable k s (lit v at) = IsLiteral v
  IsReadable k s (unary op p at) = IsReadable k s p
  IsReadable k s (binary op p q at) = IsReadable k s p × IsReadable k s q
  IsReadable k s (cond b p q at) = IsReadable k s b × IsReadable k s p × IsReadable k s q
  IsReadable k s (case e parts at) = ⊥
  IsReadable k s (lam d As b at) = IsBound k s (lam d As b at) × AreAlternatives k.names As × IsReadable k (bound k s (lam d As b at) ∷ s) b
  IsReadable k s (app p q at) = IsReadable k s p × IsReadable k s q
  IsReadable k s (field i p at) = IsIdentifierNumber k.names i × IsReadable k s p
  IsReadable k s (sel p i at) = IsSelected k.names i (record_at k s p) (IsReadable k s p)
  IsReadable k s (merge p q at) = Chosen (is_sequence p q) (IsCall k s p) (IsReadable k s p × IsReadable k s q × IsOperand q)
  IsReadable k s (let_in d (rec c T p here) b at) =
      let e = bound k s (let_in d (rec c T p here) b at) in
      IsBound k s (let_in d (rec c T p here) b at) × IsRecordType k.names T × (fields_defined p ≡ fields_declared (fields_of T)) × AreDefinitions k (e ∷ s) (fields_of T) p
      × IsReadable k (e ∷ s) b
  IsReadable k s (let_in d p b at) = IsBound k s (let_in d p b at) × IsReadable k s p × IsReadable k (bound k s (let_in d p b at) ∷ s) b
  IsReadable k s (rec d T b at) = ⊥
  IsReadable k s (skip at) = Unit {0}
  IsReadable k s (seq p q at) = (item_count (seq p q at) ≤ 2 ^ 64 - 1) × IsReadable k s p × IsReadable k s q
  IsReadable k s (assign p q at) = IsReadable k s p × IsReadable k s q
  IsReadable k s (while_do b c at) = IsReadable k s b × IsReadable k s c
  IsReadable k s (forever c at) = IsReadable k s c
  IsReadable k s (new d D e b at) = IsBound k s (new d D e b at) × IsReadable k s e × IsReadable k (bound k s (new d D e b at) ∷ s) b
  IsReadable k s (cells d e b at) = ⊥
  IsReadable k s (escape d b at) = IsBound k s (escape d b at) × IsReadable k (bound k s (escape d b at) ∷ s) b
  IsReadable k s (accept d D b at) = IsBound k s (accept d D b at) × IsReadable k (bound k s (accept d D b at) ∷ s) b
  IsReadable k s (put kind p at) = ⊥
  IsReadable k s (read p at) = ⊥
  IsReadable k s (mark m at) = ⊥

  -- the abstraction of `seq(..)` or of a string: no part uses its index
  pub IsCall : Known → Scope → Tree → Type 0
  IsCall k s (lam d As (case e parts at) here) =
      (is_empty_string parts ≡ true)
      ⊎ ((parts ≢ no_trees) × (any_uses k (codes "n") (one (codes "n") ∷ []) parts ≡ false) × AreReadable k (one (codes "n") ∷ s) parts)
  IsCall k s p = ⊥

  pub AreReadable : Known → Scope → Trees → Type 0
  AreReadable k s no_trees = Unit {0}
  AreReadable k s (and_tree p more) = IsReadable k s p × AreReadable k s more

  -- definitions of declared fields
  pub AreDefinitions : Known → Scope → List (ℕ × PlainType) → Tree → Type 0
  AreDefinitions k s fs (merge p (field i q at) here) = AreDefinitions k s fs p × IsAmong i fs × IsReadable k s q
  AreDefinitions k s fs (field i q at) = IsAmong i fs × IsReadable k s q
  AreDefinitions k s fs p = ⊥

-- the text is tokens of the list of names, which spell a phrase, and then comes the end; inside the prelude it has no fault, and means
-- that phrase but for places and the depths of binders
pub record IsReadAsPhrase (names : List Bytes) (text : Bytes) (p : Tree) : Type 0 where
  pub tokens : List Token
  pub read : IsTokensOf names text tokens names
  pub tree : written.Tree
  pub at : Place
  pub spelled : SpellsBefore Level.phrase tree tokens (token kind.End at ∷ [])
  pub expanded : None ≡ fault program_scope tree
  pub means : Alike (λ n. n) p (core program_scope tree)

-- the whole text of a phrase inside the prelude is read again as that phrase
abbrev pub PhrasesAreReadAgain : Type 0
PhrasesAreReadAgain =
    (names : List Bytes) (binders : List Binder) (p : Tree) → AreNames names → AreIdentifiers names → IsReadable (plainly names binders) prelude p →
    IsReadAsPhrase names (text_of (plainly names binders) prelude p) p
