-- The parentheses that are open at once somewhere among pieces.
use Rattle.std.proofs.Common.{ℕ, ◌+◌, ◌-◌, ◌≤◌, max, List, [], ◌∷◌, arith}
use Rattle.fy_read.specs.Spelling.{Piece, word, number, sign, open_bracket, close_bracket, open_paren, close_paren, colon, arrow, ampersand}

-- the most that are open behind some of the pieces, where so many were open before
abbrev pub most_open : ℕ → List Piece → ℕ
most_open n [] = n
most_open n (sign open_paren ∷ ps) = most_open (n + 1) ps
most_open n (sign close_paren ∷ ps) = max n (most_open (n - 1) ps)
most_open n (p ∷ ps) = most_open n ps

pub open_before : (n : ℕ) (ps : List Piece) → n ≤ most_open n ps
open_before n [] = omega arith
open_before n (word w ∷ ps) = open_before n ps
open_before n (number m ∷ ps) = open_before n ps
open_before n (sign open_bracket ∷ ps) = open_before n ps
open_before n (sign close_bracket ∷ ps) = open_before n ps
open_before n (sign open_paren ∷ ps) = omega (arith, open_before (n + 1) ps)
open_before n (sign close_paren ∷ ps) = omega arith
open_before n (sign colon ∷ ps) = open_before n ps
open_before n (sign arrow ∷ ps) = open_before n ps
open_before n (sign ampersand ∷ ps) = open_before n ps
