-- What the pieces of a text spell as far as they are read.
use Rattle.std.specs.Prelude.{◌≡◌, ℕ, Bool, false, IsTrue, List, [], ◌∷◌, ◌++◌, codes, slice_get, Some}
use Rattle.fy_base.specs.Outside.{Bytes}
use Rattle.fy_lexer.specs.Tokens.{HasAdded}
use Rattle.fy_types.specs.Types.{PlainType}
use Rattle.fy_types.specs.Reading.{types_from}
use Rattle.fy_types.specs.Words.{is_identifier}
use Rattle.fy_read.specs.declared.counts.Counted.{Counted}
use Rattle.fy_read.specs.declared.counts.Counted.TheVariants as counted
use Rattle.fy_read.specs.declared.read.Awaited.{Awaited}
use Rattle.fy_read.specs.declared.read.Awaited.TheVariants as awaited
use Rattle.fy_derive.specs.Derivations.{PlainDerivation, PlainDerivations}
use Rattle.fy_read.specs.Measures.{IsMeasured}
use Rattle.fy_read.specs.Opened.{PlainNodes, Becomes}
use Rattle.fy_read.specs.OpenTypes.{PlainLevel, in_fields, with_field, PlainLevels, with_inner}
use Rattle.fy_read.specs.Spelling.{Piece, word, sign, Sign, TypeLevel, SpellsType, MoreTypes, SpellsDerivation, SpellsDerivations, AreSpelled}

-- the pieces from `us` on spell the domains and the members before `ts`
pub data InType (names : List Bytes) : List PlainType → List PlainType → List Piece → List Piece → Type 0 where
  in_meet : {A : PlainType} {As : List PlainType} {us m ts : List Piece} →
      SpellsType names TypeLevel.field A us m → MoreTypes names (types_from As) m ts → InType names [] (A ∷ As) us ts
  in_arrow : {D : PlainType} {Ds As : List PlainType} {us m ts : List Piece} →
      SpellsType names TypeLevel.inter D us (sign Sign.arrow ∷ m) → InType names Ds As m ts → InType names (D ∷ Ds) As us ts

-- a part stands behind the pieces, whatever it is
pub record BeforePart (names : List Bytes) (L : PlainLevel) (us : List Piece) : Type 0 where
  pub goes_on : (A : PlainType) (ts m : List Piece) → SpellsType names TypeLevel.field A ts m →
      InType names L.domains (L.members ++ in_fields L.fields A ∷ []) (us ++ ts) m

-- the pieces end with a part, whatever stands behind them
pub record BehindPart (names : List Bytes) (L : PlainLevel) (us : List Piece) : Type 0 where
  pub goes_on : (ts : List Piece) → InType names L.domains L.members (us ++ ts) ts

-- a part comes next at this level, or one has just come, under these names or more
pub record Awaits (names : List Bytes) (L : PlainLevel) (us : List Piece) : Type 0 where
  pub before : (later : List Bytes) → HasAdded names later → BeforePart later L us

pub record Has (names : List Bytes) (L : PlainLevel) (us : List Piece) : Type 0 where
  pub behind : (later : List Bytes) → HasAdded names later → BehindPart later L us

-- the levels around, the innermost first, up to the parenthesis behind each
pub data Around (names : List Bytes) : List PlainLevel → List Piece → Type 0 where
  no_level_around : Around names [] []
  a_level : {L : PlainLevel} {Ls : List PlainLevel} {vs us : List Piece} →
      Around names Ls vs → Awaits names L us → Around names (L ∷ Ls) (vs ++ (us ++ sign Sign.open_paren ∷ []))

-- the pieces of all levels, where a part comes next at the innermost, or has just come
pub record PartNext (names : List Bytes) (Ls : PlainLevels) (ps : List Piece) : Type 0 where
  pub around : List Piece
  pub inside : List Piece
  pub is : ps ≡ around ++ inside
  pub levels : Around names Ls.outer around
  pub awaits : Awaits names Ls.inner inside

pub record PartLast (names : List Bytes) (Ls : PlainLevels) (ps : List Piece) : Type 0 where
  pub around : List Piece
  pub inside : List Piece
  pub is : ps ≡ around ++ inside
  pub levels : Around names Ls.outer around
  pub has : Has names Ls.inner inside

-- the pieces of all levels, where the name of a field was the last, which is one of theirs
pub record NameLast (names : List Bytes) (Ls : PlainLevels) (ps : List Piece) : Type 0 where
  pub before : List Piece
  pub name : Bytes
  pub i : ℕ
  pub L : PlainLevel
  pub is : ps ≡ before ++ word name ∷ []
  pub awaits : PartNext names (with_inner Ls L) before
  pub field : Ls.inner ≡ with_field L i
  pub numbered : (later : List Bytes) → HasAdded names later → slice_get later i ≡ Some name
  pub identifier : IsTrue (is_identifier name)

-- with the derivations that are still to come, under these names or more, the pieces spell what the nodes become
pub record NodesRead (names : List Bytes) (n : PlainNodes) (ps : List Piece) : Type 0 where
  pub goes_on : (later : List Bytes) → HasAdded names later → (ds : PlainDerivations) (d : PlainDerivation) (ts : List Piece) →
      Becomes n ds d → SpellsDerivations later ds ts [] → SpellsDerivation later d (ps ++ ts) []

-- a node's word was the last
pub record WordLast (names : List Bytes) (w : Bytes) (n : PlainNodes) (ps : List Piece) : Type 0 where
  pub before : List Piece
  pub is : ps ≡ before ++ word w ∷ []
  pub nodes : NodesRead names n before

-- a type in brackets has begun, whose pieces are said
pub record InBrackets (names : List Bytes) (n : PlainNodes) (P : List Piece → Type 0) (ps : List Piece) : Type 0 where
  pub before : List Piece
  pub inside : List Piece
  pub is : ps ≡ before ++ word (codes "sub") ∷ sign Sign.open_bracket ∷ inside
  pub nodes : NodesRead names n before
  pub type : P inside

-- the word of a node with a number
abbrev pub count_word : Counted → Bytes
count_word counted.Members = codes "meet"
count_word counted.Alternatives = codes "alt"
count_word counted.Premises = codes "rule"

-- what the pieces spell, where this piece comes next
abbrev pub Stands : List Bytes → Awaited → PlainNodes → PlainLevels → List Piece → Type 0
Stands names awaited.Node n Ls ps = NodesRead names n ps
Stands names awaited.Bracket n Ls ps = WordLast names (codes "sub") n ps
Stands names (awaited.Count c) n Ls ps = WordLast names (count_word c) n ps
Stands names awaited.Part n Ls ps = InBrackets names n (PartNext names Ls) ps
Stands names awaited.Colon n Ls ps = InBrackets names n (NameLast names Ls) ps
Stands names awaited.Joint n Ls ps = InBrackets names n (PartLast names Ls) ps

-- the text is that of pieces that stand so, q of them words of nodes, of which the last is a word or a number, or isn't
pub record Holds (q : ℕ) (names : List Bytes) (text : Bytes) (loose : Bool) (a : Awaited) (n : PlainNodes) (Ls : PlainLevels) : Type 0 where
  pub pieces : List Piece
  pub spelled : (qs : List Piece) (more : Bytes) → AreSpelled loose qs more → AreSpelled false (pieces ++ qs) (text ++ more)
  pub stands : Stands names a n Ls pieces
  pub measured : IsMeasured q a n Ls pieces
