-- How deep the types of a derivation are in its text.
use Rattle.std.specs.Prelude.{ℕ, zero, suc, ◌+◌, max, if◌then◌else◌, List, [], ◌∷◌, ◌++◌}
use Rattle.fy_types.specs.Words.{is_word}
use Rattle.fy_read.specs.declared.read.Awaited.{Awaited}
use Rattle.fy_read.specs.declared.read.Awaited.TheVariants as awaited
use Rattle.fy_read.specs.Spelling.{Piece, word, number, sign, open_bracket, close_bracket, open_paren, close_paren, colon, arrow, ampersand}

-- a type as far as its pieces are there: how many domains, the nesting that they make, how many members, the greatest nesting of one, and how many fields before the next part
pub data Deep : Type 0 where
  deep : ℕ → ℕ → ℕ → ℕ → ℕ → Deep

abbrev pub no_depth : Deep
no_depth = deep 0 0 0 0 0

-- the node of a meet that has a member, and the nesting of a meet of so many
abbrev pub one : ℕ → ℕ
one zero = 0
one (suc m) = 1

abbrev pub many : ℕ → ℕ → ℕ
many zero g = g
many (suc zero) g = g
many (suc (suc m)) g = g + 1

abbrev pub deep_part : Deep → ℕ → Deep
deep_part (deep d a m g f) x = deep d a (suc m) (max g (f + x)) 0

abbrev pub deep_field : Deep → Deep
deep_field (deep d a m g f) = deep d a m g (suc f)

abbrev pub deep_arrow : Deep → Deep
deep_arrow (deep d a m g f) = deep (suc d) (max a (d + 1 + many m g)) 0 0 0

abbrev pub deep_whole : Deep → ℕ
deep_whole (deep d a m g f) = max a (d + many m g)

-- outside of brackets, or inside at a level with those around it from within
pub data Nest : Type 0 where
  outside : Nest
  within : Deep → List Deep → Nest

abbrev pub deep_close : Deep → List Deep → Nest
deep_close N [] = within N []
deep_close N (M ∷ O) = within (deep_part M (deep_whole N)) O

-- with one piece more
abbrev pub nest_with : Nest → Piece → Nest
nest_with outside (word w) = outside
nest_with outside (number m) = outside
nest_with outside (sign open_bracket) = within no_depth []
nest_with outside (sign close_bracket) = outside
nest_with outside (sign open_paren) = outside
nest_with outside (sign close_paren) = outside
nest_with outside (sign colon) = outside
nest_with outside (sign arrow) = outside
nest_with outside (sign ampersand) = outside
nest_with (within N O) (word w) = if is_word w then within (deep_part N 1) O else within (deep_field N) O
nest_with (within N O) (number m) = within N O
nest_with (within N O) (sign open_bracket) = within N O
nest_with (within N O) (sign close_bracket) = outside
nest_with (within N O) (sign open_paren) = within no_depth (N ∷ O)
nest_with (within N O) (sign close_paren) = deep_close N O
nest_with (within N O) (sign colon) = within N O
nest_with (within N O) (sign arrow) = within (deep_arrow N) O
nest_with (within N O) (sign ampersand) = within N O

abbrev pub nest_after : Nest → List Piece → Nest
nest_after s [] = s
nest_after s (p ∷ ps) = nest_after (nest_with s p) ps

-- the nesting of a type that ends with this piece, and of those that end among the pieces
abbrev pub typed : Nest → Piece → List ℕ
typed outside p = []
typed (within N O) (word w) = []
typed (within N O) (number m) = []
typed (within N O) (sign open_bracket) = []
typed (within N O) (sign close_bracket) = deep_whole N ∷ []
typed (within N O) (sign open_paren) = []
typed (within N O) (sign close_paren) = []
typed (within N O) (sign colon) = []
typed (within N O) (sign arrow) = []
typed (within N O) (sign ampersand) = []

abbrev pub typeds : Nest → List Piece → List ℕ
typeds s [] = []
typeds s (p ∷ ps) = typed s p ++ typeds (nest_with s p) ps

-- the nodes around the part that comes next
abbrev pub nodes_around : List Deep → ℕ
nodes_around [] = 0
nodes_around (deep d a m g f ∷ O) = d + one m + f + nodes_around O

-- the least nesting of a type with this level below so many nodes, where a part comes next, and where one has come
abbrev pub low_next : ℕ → Deep → ℕ
low_next k (deep d a m g f) = max (k + a) (max (k + d + one m + f + 1) (k + d + one m + g))

abbrev pub low_last : ℕ → Deep → ℕ
low_last k (deep d a m g f) = max (k + a) (k + d + many m g)

abbrev pub low_around : List Deep → ℕ
low_around [] = 0
low_around (N ∷ O) = max (low_next (nodes_around O) N) (low_around O)

abbrev pub low : Awaited → Deep → List Deep → ℕ
low awaited.Node N O = 0
low awaited.Bracket N O = 0
low (awaited.Count c) N O = 0
low awaited.Part N O = max (low_next (nodes_around O) N) (low_around O)
low awaited.Colon N O = max (low_next (nodes_around O) N) (low_around O)
low awaited.Joint N O = max (low_last (nodes_around O) N) (low_around O)

-- outside of brackets where a node comes next, or its bracket or number, and inside elsewhere
abbrev pub nest_of : Awaited → Deep → List Deep → Nest
nest_of awaited.Node N O = outside
nest_of awaited.Bracket N O = outside
nest_of (awaited.Count c) N O = outside
nest_of awaited.Part N O = within N O
nest_of awaited.Colon N O = within N O
nest_of awaited.Joint N O = within N O
