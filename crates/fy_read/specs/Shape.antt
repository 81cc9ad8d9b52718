-- How deep the nodes of a derivation stand in its text.
use Rattle.std.specs.Prelude.{ℕ, zero, suc, Bool, true, false, max, List, [], ◌∷◌, ◌++◌, length, Option, Some, None}
use Rattle.fy_read.specs.declared.words.NodeWord.{NodeWord}
use Rattle.fy_read.specs.declared.words.NodeWord.TheVariants as node
use Rattle.fy_read.specs.Spelling.{Piece, word, number, sign, open_bracket, close_bracket, open_paren, close_paren, colon, arrow, ampersand}
use Rattle.fy_read.specs.Steps.{node_word}

-- what the next number is for
pub data Want : Type 0 where
  no_number : Want
  a_list : Want
  an_index : Want

-- the derivations that each open node misses, the innermost first, whether a type is open, and what the next number is for
pub data Shape : Type 0 where
  shape : List ℕ → Bool → Want → Shape

abbrev pub first_shape : Shape
first_shape = shape [] false no_number

-- a derivation goes to the innermost node
abbrev pub less_one : ℕ → List ℕ → List ℕ → List ℕ
less_one zero S given = given
less_one (suc zero) S given = given
less_one (suc (suc m)) S given = suc m ∷ S

abbrev pub give : List ℕ → List ℕ
give [] = []
give (m ∷ S) = less_one m S (give S)

-- a node of so many
abbrev pub push : ℕ → List ℕ → List ℕ
push zero S = give S
push (suc m) S = suc m ∷ S

abbrev pub shape_of_word : List ℕ → Option NodeWord → Shape
shape_of_word S None = shape S false no_number
shape_of_word S (Some node.Ns) = shape (give S) false no_number
shape_of_word S (Some node.Sub) = shape S false no_number
shape_of_word S (Some node.Meet) = shape S false a_list
shape_of_word S (Some node.Alt) = shape S false an_index
shape_of_word S (Some node.Left) = shape (1 ∷ S) false no_number
shape_of_word S (Some node.Right) = shape (1 ∷ S) false no_number
shape_of_word S (Some node.Rule) = shape S false a_list

abbrev pub shape_of_number : List ℕ → Want → ℕ → Shape
shape_of_number S no_number m = shape S false no_number
shape_of_number S a_list m = shape (push m S) false no_number
shape_of_number S an_index m = shape (1 ∷ S) false no_number

-- with one piece more
abbrev pub shape_with : Shape → Piece → Shape
shape_with (shape S true n) (word w) = shape S true n
shape_with (shape S false n) (word w) = shape_of_word S (node_word w)
shape_with (shape S true n) (number m) = shape S true n
shape_with (shape S false n) (number m) = shape_of_number S n m
shape_with (shape S i n) (sign open_bracket) = shape S true n
shape_with (shape S i n) (sign close_bracket) = shape (1 ∷ S) false n
shape_with s (sign open_paren) = s
shape_with s (sign close_paren) = s
shape_with s (sign colon) = s
shape_with s (sign arrow) = s
shape_with s (sign ampersand) = s

abbrev pub shape_after : Shape → List Piece → Shape
shape_after s [] = s
shape_after s (p ∷ ps) = shape_after (shape_with s p) ps

-- the depth of a node whose word this piece is
abbrev pub out : Shape → Piece → List ℕ
out (shape S false n) (word w) = suc (length S) ∷ []
out (shape S true n) (word w) = []
out s (number m) = []
out s (sign x) = []

-- the depths of the nodes whose words the pieces are
abbrev pub outs : Shape → List Piece → List ℕ
outs s [] = []
outs s (p ∷ ps) = out s p ++ outs (shape_with s p) ps

abbrev pub greatest : List ℕ → ℕ
greatest [] = 0
greatest (x ∷ xs) = max x (greatest xs)
