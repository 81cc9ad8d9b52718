-- Where a text first can't become a derivation's text, or passes a limit.
use Rattle.std.specs.Prelude.{◌≡◌, ℕ, zero, suc, ◌+◌, ◌-◌, ◌<◌, Bool, true, false, IsTrue, max, List, [], ◌∷◌, ◌++◌, length}
use Rattle.fy_base.specs.Outside.{Bytes}
use Rattle.fy_types.specs.Words.{is_name_byte}
use Rattle.fy_derive.specs.Derivations.{PlainDerivation, PlainDerivations, by_ns, sub, meets, alt, left, right, rule, no_derivations, and_derivation, nodes, most_nodes, most_nesting}
use Rattle.fy_derive.specs.Limits.{deepest_type, most_type_nesting}
use Rattle.fy_read.specs.declared.error.ReadError.{ReadError}
use Rattle.fy_read.specs.declared.error.ReadError.TheVariants.{BadText, TooLarge, TooDeep, OutOfMemory}
use Rattle.fy_read.specs.Spelling.{Piece, word, sign, open_bracket, close_bracket, open_paren, close_paren, is_loose, SpellsDerivation, AreSpelled, IsTextOf}

-- some text of a derivation begins with these bytes, under some names
pub record Begins (part : Bytes) : Type 0 where
  pub names : List Bytes
  pub d : PlainDerivation
  pub more : Bytes
  pub text : IsTextOf names d (part ++ more)

-- the bytes are the text of some derivation, under some names
pub record IsText (text : Bytes) : Type 0 where
  pub names : List Bytes
  pub d : PlainDerivation
  pub text_of : IsTextOf names d text

-- no text goes on from these bytes with what follows: its first byte fits none, or it ends too early
abbrev pub Stops : Bytes → Bytes → Type 0
Stops part [] = ¬ IsText part
Stops part (b ∷ rest) = ¬ Begins (part ++ b ∷ [])

-- a text begins with the first k bytes, and none goes on with what follows
pub record IsStopOf (text : Bytes) (k : ℕ) : Type 0 where
  pub part : Bytes
  pub rest : Bytes
  pub is : text ≡ part ++ rest
  pub at : k ≡ length part
  pub begins : Begins part
  pub stops : Stops part rest

-- the greatest number of nodes on one path among the first n nodes in preorder
abbrev mutual
  pub first_nesting : ℕ → PlainDerivation → ℕ
  first_nesting zero d = 0
  first_nesting (suc n) by_ns = 1
  first_nesting (suc n) (sub T d) = 1 + first_nesting n d
  first_nesting (suc n) (meets ds) = 1 + all_first_nesting n ds
  first_nesting (suc n) (alt i d) = 1 + first_nesting n d
  first_nesting (suc n) (left d) = 1 + first_nesting n d
  first_nesting (suc n) (right d) = 1 + first_nesting n d
  first_nesting (suc n) (rule ds) = 1 + all_first_nesting n ds

  pub all_first_nesting : ℕ → PlainDerivations → ℕ
  all_first_nesting n no_derivations = 0
  all_first_nesting n (and_derivation d ds) = max (first_nesting n d) (all_first_nesting (n - nodes d) ds)

-- the words of nodes, which stand outside of brackets
abbrev pub words_from : Bool → List Piece → ℕ
words_from inside [] = 0
words_from inside (sign open_bracket ∷ ps) = words_from true ps
words_from inside (sign close_bracket ∷ ps) = words_from false ps
words_from false (word w ∷ ps) = 1 + words_from false ps
words_from inside (p ∷ ps) = words_from inside ps

abbrev pub node_words : List Piece → ℕ
node_words = words_from false

-- the parentheses that are open behind the pieces, where some were open before
abbrev pub opened_from : ℕ → List Piece → ℕ
opened_from n [] = n
opened_from n (sign open_paren ∷ ps) = opened_from (n + 1) ps
opened_from n (sign close_paren ∷ ps) = opened_from (n - 1) ps
opened_from n (p ∷ ps) = opened_from n ps

abbrev pub open_parens : List Piece → ℕ
open_parens = opened_from 0

abbrev pub most_open_parens : ℕ
most_open_parens = 1024

-- the pieces begin those of the derivation
pub record BeginsPieces (d : PlainDerivation) (ps : List Piece) : Type 0 where
  pub names : List Bytes
  pub more : List Piece
  pub spelled : SpellsDerivation names d (ps ++ more) []

-- whether the last piece is a word or a number
abbrev pub ends_loose : List Piece → Bool
ends_loose [] = false
ends_loose (p ∷ []) = is_loose p
ends_loose (p ∷ q ∷ ps) = ends_loose (q ∷ ps)

-- what follows the last piece doesn't go on with it
abbrev pub EndsPiece : List Piece → Bytes → Type 0
EndsPiece ps [] = Unit {0}
EndsPiece ps (b ∷ rest) = IsTrue (ends_loose ps) → is_name_byte b ≡ false

-- the pieces that end here pass the limit on nodes: at the word of a node
pub record PassesSize (part : Bytes) : Type 0 where
  pub pieces : List Piece
  pub spelled : AreSpelled false pieces part
  pub d : PlainDerivation
  pub begun : BeginsPieces d pieces
  pub many : most_nodes < node_words pieces

-- the pieces that end here pass a limit on nesting: at the word of a node, at a parenthesis, or where each derivation that begins so holds too deep a type
pub data PassesDepth (part rest : Bytes) : Type 0 where
  of_nodes : (pieces : List Piece) (d : PlainDerivation) → AreSpelled false pieces part → BeginsPieces d pieces →
      most_nesting < first_nesting (node_words pieces) d → PassesDepth part rest
  of_parens : (pieces : List Piece) (d : PlainDerivation) → AreSpelled false pieces part → BeginsPieces d pieces →
      most_open_parens < open_parens pieces → PassesDepth part rest
  of_type : (pieces : List Piece) (d : PlainDerivation) → AreSpelled false pieces part → BeginsPieces d pieces → EndsPiece pieces rest →
      ((e : PlainDerivation) → BeginsPieces e pieces → most_type_nesting < deepest_type e) → PassesDepth part rest

-- no limit is passed where fewer than k bytes are taken
pub record KeepsBefore (text : Bytes) (k : ℕ) : Type 0 where
  pub size : (part rest : Bytes) → text ≡ part ++ rest → length part < k → ¬ PassesSize part
  pub depth : (part rest : Bytes) → text ≡ part ++ rest → length part < k → ¬ PassesDepth part rest

-- no limit is passed in the text, wherever it is cut in two
pub record KeepsThroughout (text : Bytes) : Type 0 where
  pub size : (part rest : Bytes) → text ≡ part ++ rest → ¬ PassesSize part
  pub depth : (part rest : Bytes) → text ≡ part ++ rest → ¬ PassesDepth part rest

-- the first fault of the text is at its first k bytes: no text goes on
pub record IsBadText (text : Bytes) (k : ℕ) : Type 0 where
  pub part : Bytes
  pub rest : Bytes
  pub is : text ≡ part ++ rest
  pub at : k ≡ length part
  pub begins : Begins part
  pub stops : Stops part rest
  pub before : KeepsBefore text (k + 1)

-- the first fault of the text is its number of nodes
pub record IsTooLargeText (text : Bytes) : Type 0 where
  pub part : Bytes
  pub rest : Bytes
  pub is : text ≡ part ++ rest
  pub passes : PassesSize part
  pub before : KeepsBefore text (length part)

-- the first fault of the text is the depth of a node or of a type
pub record IsTooDeepText (text : Bytes) : Type 0 where
  pub part : Bytes
  pub rest : Bytes
  pub is : text ≡ part ++ rest
  pub passes : PassesDepth part rest
  pub small : ¬ PassesSize part
  pub before : KeepsBefore text (length part)

-- the first fault of the text is this one
abbrev pub IsReadFault : Bytes → ReadError → Type 0
IsReadFault text (BadText k) = IsBadText text k
IsReadFault text TooLarge = IsTooLargeText text
IsReadFault text TooDeep = IsTooDeepText text
IsReadFault text OutOfMemory = Unit {0}
