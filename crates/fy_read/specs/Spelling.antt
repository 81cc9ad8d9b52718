-- Which bytes spell which derivation, with fields numbered by a list of names: the grammar in extended Backus-Naur form, one case for each production. The last argument of a relation is the rest of the pieces, which follow what is spelled.
use Rattle.std.specs.Prelude.{◌≡◌, ℕ, ◌^◌, ◌<◌, ◌≤◌, Bool, true, false, ◌&&◌, ◌||◌, ◌==◌, IsTrue, List, [], ◌∷◌, ◌++◌, codes, decimal, slice_get, Some}
use Rattle.fy_base.specs.Outside.{Bytes}
use Rattle.fy_types.specs.declared.types.Atom.{Atom}
use Rattle.fy_types.specs.Types.{PlainType, PlainTypes}
use Rattle.fy_types.specs.Types as types
use Rattle.fy_types.specs.Print.{atom_text}
use Rattle.fy_types.specs.Words.{is_identifier}
use Rattle.fy_derive.specs.Derivations.{PlainDerivation, PlainDerivations, by_ns, sub, meets, alt, left, right, rule, no_derivations, and_derivation, count}

pub data Sign : Type 0 where
  open_bracket : Sign
  close_bracket : Sign
  open_paren : Sign
  close_paren : Sign
  colon : Sign
  arrow : Sign
  ampersand : Sign

-- a piece of a text: a word or a field's name, a number, or a sign
pub data Piece : Type 0 where
  word : Bytes → Piece
  number : ℕ → Piece
  sign : Sign → Piece

-- the grammar of types, from what binds least:
-- type = inter [ "->" type ], inter = tfield { "&" tfield }, tfield = { ident ":" } tprim
pub data TypeLevel : Type 0 where
  type : TypeLevel
  inter : TypeLevel
  field : TypeLevel
  primary : TypeLevel

-- a meet of one member is that member
abbrev pub meet_of : PlainType → PlainTypes → PlainType
meet_of A types.no_types = A
meet_of A (types.and_type B As) = types.meet (types.and_type A (types.and_type B As))

mutual
  pub data SpellsType (names : List Bytes) : TypeLevel → PlainType → List Piece → List Piece → Type 0 where
    -- type = inter "->" type
    an_arrow : {A B : PlainType} {ts m r : List Piece} →
        SpellsType names TypeLevel.inter A ts (sign arrow ∷ m) → SpellsType names TypeLevel.type B m r →
        SpellsType names TypeLevel.type (types.arrow A B) ts r
    -- type = inter
    no_arrow : {A : PlainType} {ts r : List Piece} → SpellsType names TypeLevel.inter A ts r → SpellsType names TypeLevel.type A ts r
    -- inter = tfield { "&" tfield }
    members : {A : PlainType} {As : PlainTypes} {ts m r : List Piece} →
        SpellsType names TypeLevel.field A ts m → MoreTypes names As m r → SpellsType names TypeLevel.inter (meet_of A As) ts r
    -- tfield = ident ":" tfield
    a_field : {i : ℕ} {name : Bytes} {A : PlainType} {ts r : List Piece} →
        slice_get names i ≡ Some name → IsTrue (is_identifier name) → SpellsType names TypeLevel.field A ts r →
        SpellsType names TypeLevel.field (types.field i A) (word name ∷ sign colon ∷ ts) r
    -- tfield = tprim
    no_field : {A : PlainType} {ts r : List Piece} → SpellsType names TypeLevel.primary A ts r → SpellsType names TypeLevel.field A ts r
    -- tprim = "ns" | "int" | "bool" | "char" | "comm" | "compl" | "intacc" | "boolacc" | "characc" | "(" type ")"
    ns : {r : List Piece} → SpellsType names TypeLevel.primary types.ns (word (codes "ns") ∷ r) r
    atom : {a : Atom} {r : List Piece} → SpellsType names TypeLevel.primary (types.atom a) (word (atom_text a) ∷ r) r
    group : {A : PlainType} {ts r : List Piece} →
        SpellsType names TypeLevel.type A ts (sign close_paren ∷ r) → SpellsType names TypeLevel.primary A (sign open_paren ∷ ts) r

  -- { "&" tfield }
  pub data MoreTypes (names : List Bytes) : PlainTypes → List Piece → List Piece → Type 0 where
    no_more : {r : List Piece} → MoreTypes names types.no_types r r
    one_more : {A : PlainType} {As : PlainTypes} {ts m r : List Piece} →
        SpellsType names TypeLevel.field A ts m → MoreTypes names As m r → MoreTypes names (types.and_type A As) (sign ampersand ∷ ts) r

mutual
  pub data SpellsDerivation (names : List Bytes) : PlainDerivation → List Piece → List Piece → Type 0 where
    -- "ns"
    a_ns : {r : List Piece} → SpellsDerivation names by_ns (word (codes "ns") ∷ r) r
    -- "sub" "[" type "]" derivation
    a_sub : {T : PlainType} {d : PlainDerivation} {ts m r : List Piece} →
        SpellsType names TypeLevel.type T ts (sign close_bracket ∷ m) → SpellsDerivation names d m r →
        SpellsDerivation names (sub T d) (word (codes "sub") ∷ sign open_bracket ∷ ts) r
    -- "meet" and a number, and so many derivations, 2 to 65,536
    a_meet : {ds : PlainDerivations} {ts r : List Piece} → 2 ≤ count ds → count ds ≤ 65536 → SpellsDerivations names ds ts r →
        SpellsDerivation names (meets ds) (word (codes "meet") ∷ number (count ds) ∷ ts) r
    -- "alt" and the index of the alternative, below 2^32, and a derivation
    an_alt : {i : ℕ} {d : PlainDerivation} {ts r : List Piece} → i < 2 ^ 32 → SpellsDerivation names d ts r →
        SpellsDerivation names (alt i d) (word (codes "alt") ∷ number i ∷ ts) r
    -- "left" derivation
    a_left : {d : PlainDerivation} {ts r : List Piece} → SpellsDerivation names d ts r →
        SpellsDerivation names (left d) (word (codes "left") ∷ ts) r
    -- "right" derivation
    a_right : {d : PlainDerivation} {ts r : List Piece} → SpellsDerivation names d ts r →
        SpellsDerivation names (right d) (word (codes "right") ∷ ts) r
    -- "rule" and a number, and so many derivations, up to 65,536
    a_rule : {ds : PlainDerivations} {ts r : List Piece} → count ds ≤ 65536 → SpellsDerivations names ds ts r →
        SpellsDerivation names (rule ds) (word (codes "rule") ∷ number (count ds) ∷ ts) r

  -- derivations one behind the other
  pub data SpellsDerivations (names : List Bytes) : PlainDerivations → List Piece → List Piece → Type 0 where
    none : {r : List Piece} → SpellsDerivations names no_derivations r r
    and_one : {d : PlainDerivation} {ds : PlainDerivations} {ts m r : List Piece} →
        SpellsDerivation names d ts m → SpellsDerivations names ds m r → SpellsDerivations names (and_derivation d ds) ts r

-- the bytes of a piece; a number is written without leading zeros
abbrev pub spelling : Piece → Bytes
spelling (word w) = w
spelling (number n) = decimal n
spelling (sign open_bracket) = codes "["
spelling (sign close_bracket) = codes "]"
spelling (sign open_paren) = codes "("
spelling (sign close_paren) = codes ")"
spelling (sign colon) = codes ":"
spelling (sign arrow) = codes "->"
spelling (sign ampersand) = codes "&"

-- a piece that a blank has to separate from another such piece: a word or a number
abbrev pub is_loose : Piece → Bool
is_loose (word w) = true
is_loose (number n) = true
is_loose (sign s) = false

-- a blank: line feed or space
abbrev pub is_blank : ℕ → Bool
is_blank b = (b == 10) || (b == 32)

-- the pieces stand in the text in order, right behind a word or a number or not, with blanks between them and around them
pub data AreSpelled : Bool → List Piece → Bytes → Type 0 where
  at_end : {loose : Bool} → AreSpelled loose [] []
  a_blank : {loose : Bool} {b : ℕ} {ps : List Piece} {text : Bytes} →
      IsTrue (is_blank b) → AreSpelled false ps text → AreSpelled loose ps (b ∷ text)
  a_piece : {loose : Bool} {p : Piece} {ps : List Piece} {text : Bytes} →
      (loose && is_loose p) ≡ false → AreSpelled (is_loose p) ps text → AreSpelled loose (p ∷ ps) (spelling p ++ text)

-- the text is one of the derivation's, with its fields numbered by the names
pub record IsTextOf (names : List Bytes) (d : PlainDerivation) (text : Bytes) : Type 0 where
  pub pieces : List Piece
  pub derivation : SpellsDerivation names d pieces []
  pub spelled : AreSpelled false pieces text
