-- Pieces of a header, read one after another.
use Rattle.std.proofs.Common.{◌≡◌, ℕ, ◌+◌, ◌<◌, ◌≤◌, Bool, true, false, List, [], ◌∷◌, ◌++◌, length, map, drop, get_or, refl, sym, ap, ◌∙◌}
use Rattle.std.specs.Prelude.{Option, Some, None, is_none, not, ◌&&◌, ◌||◌, ◌==◌, if◌then◌else◌}
use Rattle.std.specs.List.{list_any}
use Rattle.std.specs.Borrow.{Bor}
use Rattle.std.proofs.lemmas.List.{append_assoc, append-nil, at_drop_more, at_drop_all}
use Rattle.fy_lexer.specs.declared.token.Token.{Token}
use Rattle.fy_expand.specs.Faults.{is_among}
use Rattle.fy_link.specs.declared.header.Piece.{Piece}
use Rattle.fy_link.specs.Header.{PlainPiece, piece_of, before_others, pieces_of, last_apart, is_provided, are_free}

-- pieces that are known, in front of those that are still to come
abbrev pub in_front : List PlainPiece → Option (List PlainPiece) → Option (List PlainPiece)
in_front xs None = None
in_front xs (Some ys) = Some (xs ++ ys)

pub in_front-one : (xs : List PlainPiece) (x : PlainPiece) (o : Option (List PlainPiece)) → in_front xs (before_others (Some x) o) ≡ in_front (xs ++ x ∷ []) o
in_front-one xs x None = refl
in_front-one xs x (Some ys) = ap Some (sym (append_assoc xs (x ∷ []) ys))

pub in_front-none : (xs : List PlainPiece) (o : Option (List PlainPiece)) → in_front xs (before_others None o) ≡ None
in_front-none xs None = refl
in_front-none xs (Some ys) = refl

pub last_apart-push : (xs : List PlainPiece) (x : PlainPiece) → last_apart (xs ++ x ∷ []) ≡ Some (xs, x)
last_apart-push [] x = refl
last_apart-push (y ∷ []) x = refl
last_apart-push (y ∷ z ∷ xs) x = rw (last_apart-push (z ∷ xs) x) refl

pub in_front-nil : (o : Option (List PlainPiece)) → in_front [] o ≡ o
in_front-nil None = refl
in_front-nil (Some ys) = refl

-- the pieces that references to parts are
abbrev pub pieces_at : List (Bor (List Token)) → Option (List PlainPiece)
pieces_at parts = pieces_of (map (λ (part : Bor (List Token)). part.now) parts)

pub pieces-step : (parts : List (Bor (List Token))) (i : ℕ) (part : Bor (List Token)) → i < length parts → part ≡ get_or parts i part →
    pieces_at (drop i parts) ≡ before_others (piece_of part.now) (pieces_at (drop (i + 1) parts))
pieces-step parts i part h e =
    at_drop_more pieces_at parts i part h ∙ ap (λ (p : Bor (List Token)). before_others (piece_of p.now) (pieces_at (drop (i + 1) parts))) (sym e)

pub pieces-end : (parts : List (Bor (List Token))) (i : ℕ) (xs : List PlainPiece) → length parts ≤ i → in_front xs (pieces_at (drop i parts)) ≡ Some xs
pieces-end parts i xs h = ap (in_front xs) (at_drop_all pieces_at parts i h) ∙ ap Some (append-nil xs)

-- the prelude's names, tested one after another
provided-by : {S : Type 0} (a b c d e : Bool) (s t u v w : S) →
    ((((a || b) || c) || d) || e)
    ≡ not (is_none (if a then Some s else (if b then Some t else (if c then Some u else (if d then Some v else (if e then Some w else None))))))
provided-by true b c d e s t u v w = refl
provided-by false true c d e s t u v w = refl
provided-by false false true d e s t u v w = refl
provided-by false false false true e s t u v w = refl
provided-by false false false false true s t u v w = refl
provided-by false false false false false s t u v w = refl

pub provided-tests : (n : ℕ) → (((((n == 11) || (n == 4)) || (n == 3)) || (n == 2)) || (n == 1)) ≡ is_provided n
provided-tests n = provided-by (n == 11) (n == 4) (n == 3) (n == 2) (n == 1) _ _ _ _ _

abbrev pub names_of : List Piece → List ℕ
names_of xs = map (λ (x : Piece). x.name) xs

pub among-names : (name : ℕ) (xs : List Piece) → list_any (λ (x : Piece). x.name == name) xs ≡ is_among (names_of xs) name
among-names name [] = refl
among-names name (x ∷ xs) = ap (λ b. (x.name == name) || b) (among-names name xs)

-- whether a name is neither the prelude's nor among these
abbrev pub is_new : ℕ → List ℕ → Bool
is_new name names = not (is_provided name) && not (is_among names name)

and-three : (a b c r : Bool) → r ≡ (a && b) → (a && (b && c)) ≡ (r && c)
and-three true b c r e = ap (λ x. x && c) (sym e)
and-three false b c r e = ap (λ x. x && c) (sym e)

pub free-step : (xs : List Piece) (i : ℕ) (x : Piece) (r : Bool) → i < length xs → x ≡ get_or xs i x → r ≡ is_new x.name (names_of (drop (i + 1) xs)) →
    are_free (names_of (drop i xs)) ≡ (r && are_free (names_of (drop (i + 1) xs)))
free-step xs i x r h e k =
    at_drop_more (λ ys. are_free (names_of ys)) xs i x h
    ∙ (ap (λ (y : Piece). are_free (y.name ∷ names_of (drop (i + 1) xs))) (sym e)
    ∙ and-three (not (is_provided x.name)) (not (is_among (names_of (drop (i + 1) xs)) x.name)) (are_free (names_of (drop (i + 1) xs))) r k)

pub free-end : (xs : List Piece) (i : ℕ) → length xs ≤ i → are_free (names_of (drop i xs)) ≡ true
free-end xs i h = at_drop_all (λ ys. are_free (names_of ys)) xs i h
