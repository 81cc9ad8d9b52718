-- What may follow in a text: after whole pieces, and byte by byte.
use Rattle.std.specs.Prelude.{ℕ, zero, suc, ◌+◌, ◌-◌, ◌*◌, Bool, true, false, not, ◌&&◌, ◌||◌, ◌==◌, nat_le, nat_eq, if◌then◌else◌, List, [], ◌∷◌, ◌++◌, codes, Option, Some, None}
use Rattle.std.specs.Option.{is_some}
use Rattle.std.specs.List.{list_any, starts_with}
use Rattle.std.specs.Map.{lookup}
use Rattle.std.specs.Str.{bytes_eq}
use Rattle.fy_base.specs.Outside.{Bytes}
use Rattle.fy_types.specs.Words.{is_letter, is_digit, is_name_byte, is_name_like, is_word}
use Rattle.fy_types.specs.Types.{PlainType}
use Rattle.fy_types.specs.Types as types
use Rattle.fy_read.specs.declared.counts.Counted.{Counted}
use Rattle.fy_read.specs.declared.counts.Counted.TheVariants as counted
use Rattle.fy_read.specs.declared.read.Awaited.{Awaited}
use Rattle.fy_read.specs.declared.read.Awaited.TheVariants as awaited
use Rattle.fy_read.specs.declared.words.TypeWord.{TypeWord}
use Rattle.fy_read.specs.declared.words.TypeWord.TheVariants as part
use Rattle.fy_types.specs.declared.types.Atom.TheVariants as atoms
use Rattle.fy_read.specs.declared.words.NodeWord.{NodeWord}
use Rattle.fy_read.specs.declared.words.NodeWord.TheVariants as node
use Rattle.fy_read.specs.Spelling.{Piece, word, number, sign, Sign, open_bracket, close_bracket, open_paren, close_paren, colon, arrow, ampersand, is_blank}

-- the words of nodes
unfoldable pub node_words : List (Bytes × NodeWord)
node_words =
    (codes "ns", node.Ns) ∷ (codes "sub", node.Sub) ∷ (codes "meet", node.Meet) ∷ (codes "alt", node.Alt)
    ∷ (codes "left", node.Left) ∷ (codes "right", node.Right) ∷ (codes "rule", node.Rule) ∷ []

abbrev pub node_word : Bytes → Option NodeWord
node_word w = lookup (bytes_eq w) node_words

-- the word of a node
abbrev pub node_text : NodeWord → Bytes
node_text node.Ns = codes "ns"
node_text node.Sub = codes "sub"
node_text node.Meet = codes "meet"
node_text node.Alt = codes "alt"
node_text node.Left = codes "left"
node_text node.Right = codes "right"
node_text node.Rule = codes "rule"

abbrev pub begins_node_word : Bytes → Bool
begins_node_word w = list_any (λ e. starts_with nat_eq e.0 w) node_words

-- the words of types
unfoldable pub type_words : List (Bytes × TypeWord)
type_words =
    (codes "ns", part.Ns) ∷ (codes "int", part.Atom atoms.Int) ∷ (codes "bool", part.Atom atoms.Bool) ∷ (codes "char", part.Atom atoms.Char)
    ∷ (codes "comm", part.Atom atoms.Comm) ∷ (codes "compl", part.Atom atoms.Compl) ∷ (codes "intacc", part.Atom atoms.IntAcc)
    ∷ (codes "boolacc", part.Atom atoms.BoolAcc) ∷ (codes "characc", part.Atom atoms.CharAcc) ∷ []

abbrev pub type_word : Bytes → Option TypeWord
type_word w = lookup (bytes_eq w) type_words

abbrev pub part_type : TypeWord → PlainType
part_type part.Ns = types.ns
part_type (part.Atom a) = types.atom a

abbrev pub is_type_word : Bytes → Bool
is_type_word w = is_some (type_word w)

-- the least and the greatest number
abbrev pub least : Counted → ℕ
least counted.Members = 2
least counted.Alternatives = 0
least counted.Premises = 0

abbrev pub greatest : Counted → ℕ
greatest counted.Members = 65536
greatest counted.Alternatives = 4294967295
greatest counted.Premises = 65536

-- the derivations that a node with the number needs
abbrev pub wanted : Counted → ℕ → ℕ
wanted counted.Members n = n
wanted counted.Alternatives n = 1
wanted counted.Premises n = n

-- how far whole pieces have come: the derivations that are needed, the parentheses that are open, and what comes next
pub data Reached : Type 0 where
  at : ℕ → ℕ → Awaited → Reached

abbrev pub begin : Reached
begin = at 1 0 awaited.Node

abbrev pub finish : Reached
finish = at 0 0 awaited.Node

-- after the word of a node, of which one was needed
abbrev pub after_node : ℕ → NodeWord → Reached
after_node m node.Ns = at m 0 awaited.Node
after_node m node.Sub = at m 0 awaited.Bracket
after_node m node.Meet = at m 0 (awaited.Count counted.Members)
after_node m node.Alt = at m 0 (awaited.Count counted.Alternatives)
after_node m node.Left = at (suc m) 0 awaited.Node
after_node m node.Right = at (suc m) 0 awaited.Node
after_node m node.Rule = at m 0 (awaited.Count counted.Premises)

abbrev pub after_known : ℕ → Option NodeWord → Option Reached
after_known m None = None
after_known m (Some w) = Some (after_node m w)

-- after a word, where so many derivations are needed
abbrev pub after_node_word : ℕ → Bytes → Option Reached
after_node_word zero w = None
after_node_word (suc m) w = after_known m (node_word w)

-- after a word of a type: of a field, or a type
abbrev pub after_type_word : ℕ → ℕ → Bytes → Option Reached
after_type_word n k w =
    if is_name_like w
    then (if is_word w then (if is_type_word w then Some (at n k awaited.Joint) else None) else Some (at n k awaited.Colon))
    else None

abbrev pub after_count : ℕ → Counted → ℕ → Option Reached
after_count n c m = if nat_le (least c) m && nat_le m (greatest c) then Some (at (wanted c m + n) 0 awaited.Node) else None

-- after the end of a type, or of a part in parentheses, where so many parentheses are open
abbrev pub after_bracket : ℕ → ℕ → Option Reached
after_bracket n zero = Some (at (suc n) 0 awaited.Node)
after_bracket n (suc k) = None

abbrev pub after_paren : ℕ → ℕ → Option Reached
after_paren n zero = None
after_paren n (suc k) = Some (at n k awaited.Joint)

-- after a sign behind a part of a type
abbrev pub after_joint : ℕ → ℕ → Sign → Option Reached
after_joint n k ampersand = Some (at n k awaited.Part)
after_joint n k arrow = Some (at n k awaited.Part)
after_joint n k close_bracket = after_bracket n k
after_joint n k close_paren = after_paren n k
after_joint n k open_bracket = None
after_joint n k open_paren = None
after_joint n k colon = None

-- after a sign before a part of a type
abbrev pub after_opening : ℕ → ℕ → Sign → Option Reached
after_opening n k open_paren = Some (at n (suc k) awaited.Part)
after_opening n k _ = None

abbrev pub after_name : ℕ → ℕ → Sign → Option Reached
after_name n k colon = Some (at n k awaited.Part)
after_name n k _ = None

-- after a sign before a type
abbrev pub after_sub : ℕ → Sign → Option Reached
after_sub n open_bracket = Some (at n 0 awaited.Part)
after_sub n _ = None

-- what one more piece leads to, where it fits
abbrev pub after_by : Awaited → ℕ → ℕ → Piece → Option Reached
after_by awaited.Node n k (word w) = after_node_word n w
after_by awaited.Bracket n k (sign s) = after_sub n s
after_by (awaited.Count c) n k (number m) = after_count n c m
after_by awaited.Part n k (word w) = after_type_word n k w
after_by awaited.Part n k (sign s) = after_opening n k s
after_by awaited.Colon n k (sign s) = after_name n k s
after_by awaited.Joint n k (sign s) = after_joint n k s
after_by a n k p = None

abbrev pub after : Reached → Piece → Option Reached
after (at n k a) p = after_by a n k p

-- the same behind what fits, and of a list of pieces
abbrev pub after_fit : Option Reached → Piece → Option Reached
after_fit None p = None
after_fit (Some c) p = after c p

abbrev pub after_all : Option Reached → List Piece → Option Reached
after_all o [] = o
after_all o (p ∷ ps) = after_all (after_fit o p) ps

-- the piece that has begun: none, right behind a word or a number or not; a word, or a number, as far as it is there; or the - of ->
pub data Begun : Type 0 where
  nothing : Bool → Begun
  letters : Bytes → Begun
  digits : ℕ → Begun
  dash : Begun

-- how far bytes have come
pub data Spot : Type 0 where
  spot : Reached → Begun → Spot

abbrev pub start : Spot
start = spot begin (nothing false)

-- where whole pieces have come, and the last is a word or a number, or isn't
abbrev pub behind : Bool → Option Reached → Option Spot
behind loose None = None
behind loose (Some c) = Some (spot c (nothing loose))

-- the letters of a word so far; the word of a node ends at its last letter, since no other goes on with it
abbrev pub lettered_node : ℕ → ℕ → Bytes → Option Spot
lettered_node zero k w = None
lettered_node (suc m) k w =
    if is_some (node_word w) then behind true (after_known m (node_word w))
    else (if begins_node_word w then Some (spot (at (suc m) k awaited.Node) (letters w)) else None)

abbrev pub lettered_by : Awaited → ℕ → ℕ → Bytes → Option Spot
lettered_by awaited.Node n k w = lettered_node n k w
lettered_by awaited.Part n k w = Some (spot (at n k awaited.Part) (letters w))
lettered_by _ n k w = None

abbrev pub lettered : Reached → Bytes → Option Spot
lettered (at n k a) w = lettered_by a n k w

-- the first digit of a number
abbrev pub first_digit_by : Awaited → ℕ → ℕ → ℕ → Option Spot
first_digit_by (awaited.Count c) n k d = if (d == 0) && not (least c == 0) then None else Some (spot (at n k (awaited.Count c)) (digits d))
first_digit_by _ n k d = None

abbrev pub first_digit : Reached → ℕ → Option Spot
first_digit (at n k a) d = first_digit_by a n k d

-- one more digit: a leading zero has none
abbrev pub next_digit_by : Awaited → ℕ → ℕ → ℕ → ℕ → Option Spot
next_digit_by (awaited.Count c) n k value d =
    if (value == 0) || not (nat_le (10 * value + d) (greatest c)) then None else Some (spot (at n k (awaited.Count c)) (digits (10 * value + d)))
next_digit_by _ n k value d = None

abbrev pub next_digit : Reached → ℕ → ℕ → Option Spot
next_digit (at n k a) value d = next_digit_by a n k value d

-- the first byte of `->`
abbrev pub dashed_by : Awaited → ℕ → ℕ → Option Spot
dashed_by awaited.Joint n k = Some (spot (at n k awaited.Joint) dash)
dashed_by _ n k = None

abbrev pub dashed : Reached → Option Spot
dashed (at n k a) = dashed_by a n k

-- the sign of one byte
abbrev pub sign_of : ℕ → Option Piece
sign_of b =
    if b == 91 then Some (sign open_bracket) else
    if b == 93 then Some (sign close_bracket) else
    if b == 40 then Some (sign open_paren) else
    if b == 41 then Some (sign close_paren) else
    if b == 58 then Some (sign colon) else
    if b == 38 then Some (sign ampersand) else None

abbrev pub after_sign : Reached → Option Piece → Option Reached
after_sign c None = None
after_sign c (Some p) = after c p

-- a byte that is neither a blank nor a letter nor a digit
abbrev pub signed : Reached → ℕ → Option Spot
signed c b = if b == 45 then dashed c else behind false (after_sign c (sign_of b))

-- a byte with which a piece begins, or a blank
abbrev pub begun_by : Reached → Bool → ℕ → Option Spot
begun_by c loose b =
    if is_blank b then Some (spot c (nothing false)) else
    if is_letter b then (if loose then None else lettered c (b ∷ [])) else
    if is_digit b then (if loose then None else first_digit c (b - 48)) else
    signed c b

abbrev pub begun_behind : Option Reached → ℕ → Option Spot
begun_behind None b = None
begun_behind (Some c) b = begun_by c true b

-- what one more byte leads to, where it fits
abbrev pub step : Spot → ℕ → Option Spot
step (spot c (nothing loose)) b = begun_by c loose b
step (spot c (letters w)) b = if is_name_byte b then lettered c (w ++ b ∷ []) else begun_behind (after c (word w)) b
step (spot c (digits n)) b = if is_digit b then next_digit c n (b - 48) else begun_behind (after c (number n)) b
step (spot c dash) b = if b == 62 then behind false (after c (sign arrow)) else None

abbrev pub step_fit : Option Spot → ℕ → Option Spot
step_fit None b = None
step_fit (Some s) b = step s b

-- what bytes lead to
abbrev pub steps : Option Spot → Bytes → Option Spot
steps o [] = o
steps o (b ∷ text) = steps (step_fit o b) text

-- where the pieces have come, if the text ends here
abbrev pub ended : Spot → Option Reached
ended (spot c (nothing loose)) = Some c
ended (spot c (letters w)) = after c (word w)
ended (spot c (digits n)) = after c (number n)
ended (spot c dash) = None

abbrev pub ended_fit : Option Spot → Option Reached
ended_fit None = None
ended_fit (Some s) = ended s
