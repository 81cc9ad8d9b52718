-- How tokens are cut into a header and what stands behind it.
use Rattle.std.proofs.Common.{◌≡◌, ℕ, ◌+◌, List, [], ◌∷◌, ◌++◌, ◌∙◌, take, drop, map, Bool, true, false, refl, sym, ap, subst}
use Rattle.std.specs.Prelude.{Option, Some, None, option_map, if◌then◌else◌}
use Rattle.std.specs.List.{slice_split, position, list_any}
use Rattle.fy_base.specs.declared.data.Place.{Place}
use Rattle.fy_lexer.specs.declared.token.Token.{Token}
use Rattle.fy_lexer.specs.declared.token.Symbol.TheVariants as symbol
use Rattle.fy_syntax.specs.Signs.{front}
use Rattle.fy_link.specs.Header.{PlainPiece, PlainHeader, is_sign, pieces_of, are_free, ends_type, last_apart, header_from, header_at, header_of, pieces_in}

abbrev Apart : Type 0
Apart = List PlainPiece × PlainPiece

later-last : (y z : PlainPiece) (more : List PlainPiece) (o : Option Apart) (ys : List PlainPiece) (x : PlainPiece) →
    last_apart (z ∷ more) ≡ o → option_map {U = Apart} (λ (found : Apart). (y ∷ found.0, found.1)) o ≡ Some (ys, x) →
    ((us : List PlainPiece) (u : PlainPiece) → last_apart (z ∷ more) ≡ Some (us, u) → z ∷ more ≡ us ++ u ∷ []) → y ∷ z ∷ more ≡ ys ++ x ∷ []
later-last y z more None ys x q e again = absurd (cc)
later-last y z more (Some p) ys x q e again =
    let k : (y ∷ p.0, p.1) ≡ (ys, x) = cc in
    subst (λ (r : Apart). y ∷ z ∷ more ≡ r.0 ++ r.1 ∷ []) k (ap (λ (zs : List PlainPiece). y ∷ zs) (again p.0 p.1 q))

pub last-is : (xs ys : List PlainPiece) (x : PlainPiece) → last_apart xs ≡ Some (ys, x) → xs ≡ ys ++ x ∷ []
last-is [] ys x e = absurd (cc)
last-is (y ∷ []) ys x e = let k : ([], y) ≡ (ys, x) = cc in subst (λ (r : Apart). y ∷ [] ≡ r.0 ++ r.1 ∷ []) k refl
last-is (y ∷ z ∷ more) ys x e = later-last y z more (last_apart (z ∷ more)) ys x refl e (λ us u q. last-is (z ∷ more) us u q)

-- the index of the first `==`, the pieces before it, its place, and the tokens behind it
pub record IsCut (tokens : List Token) (h : PlainHeader) : Type 0 where
  pub k : ℕ
  pub found : position (is_sign symbol.EqualsEquals) tokens ≡ Some k
  pub pieces : pieces_of (slice_split (is_sign symbol.Comma) (take k tokens)) ≡ Some (pieces_in h)
  pub at : h.equals_at ≡ front (drop k tokens)
  pub tail : h.tail ≡ drop (k + 1) tokens
  pub free : are_free (map (λ (x : PlainPiece). x.name) (pieces_in h)) ≡ true

-- the same of a header that is made of pieces
record IsMade (o : Option (List PlainPiece)) (at : Place) (tail : List Token) (h : PlainHeader) : Type 0 where
  pub pieces : o ≡ Some (pieces_in h)
  pub at_is : h.equals_at ≡ at
  pub tail_is : h.tail ≡ tail

-- and of pieces whose names are free
record IsMadeFree (o : Option (List PlainPiece)) (at : Place) (tail : List Token) (h : PlainHeader) : Type 0 where
  pub made : IsMade o at tail h
  pub free : are_free (map (λ (x : PlainPiece). x.name) (pieces_in h)) ≡ true

made-apart : (o : Option Apart) (xs : List PlainPiece) (at : Place) (tail : List Token) (h : PlainHeader) → last_apart xs ≡ o →
    option_map (λ (found : Apart). record { imports = found.0; own = found.1; equals_at = at; tail = tail }) o ≡ Some h → IsMade (Some xs) at tail h
made-apart None xs at tail h q e = absurd (cc)
made-apart (Some p) xs at tail h q e =
    let made : PlainHeader = record { imports = p.0; own = p.1; equals_at = at; tail = tail } in
    let k : made ≡ h = cc in
    subst (IsMade (Some xs) at tail) k (record { pieces = ap Some (last-is xs p.0 p.1 q); at_is = refl; tail_is = refl })

made-free : (b : Bool) (xs : List PlainPiece) (at : Place) (tail : List Token) (h : PlainHeader) → are_free (map (λ (x : PlainPiece). x.name) xs) ≡ b →
    (if b then option_map (λ (found : Apart). record { imports = found.0; own = found.1; equals_at = at; tail = tail }) (last_apart xs) else None) ≡ Some h →
    IsMadeFree (Some xs) at tail h
made-free true xs at tail h f e =
    let m : IsMade (Some xs) at tail h = made-apart (last_apart xs) xs at tail h refl e in
    let k : xs ≡ pieces_in h = let p = m.pieces in cc in
    record { made = m; free = ap (λ (ys : List PlainPiece). are_free (map (λ (x : PlainPiece). x.name) ys)) (sym k) ∙ f }
made-free false xs at tail h f e = absurd (cc)

made-from : (o : Option (List PlainPiece)) (at : Place) (tail : List Token) (h : PlainHeader) → header_from o at tail ≡ Some h → IsMadeFree o at tail h
made-from None at tail h e = absurd (cc)
made-from (Some xs) at tail h e = made-free (are_free (map (λ (x : PlainPiece). x.name) xs)) xs at tail h refl e

cut-plain : (b : Bool) (o : Option (List PlainPiece)) (at : Place) (tail : List Token) (h : PlainHeader) →
    (if b then None else header_from o at tail) ≡ Some h → IsMadeFree o at tail h
cut-plain true o at tail h e = absurd (cc)
cut-plain false o at tail h e = made-from o at tail h e

cut-at : (o : Option ℕ) (tokens : List Token) (h : PlainHeader) → position (is_sign symbol.EqualsEquals) tokens ≡ o → header_at o tokens ≡ Some h → IsCut tokens h
cut-at None tokens h q e = absurd (cc)
cut-at (Some k) tokens h q e =
    let m : IsMadeFree (pieces_of (slice_split (is_sign symbol.Comma) (take k tokens))) (front (drop k tokens)) (drop (k + 1) tokens) h =
    cut-plain (list_any ends_type (take k tokens)) (pieces_of (slice_split (is_sign symbol.Comma) (take k tokens))) (front (drop k tokens)) (drop (k + 1) tokens) h e in
    record { k = k; found = q; pieces = m.made.pieces; at = m.made.at_is; tail = m.made.tail_is; free = m.free }

pub header-cut : (tokens : List Token) (h : PlainHeader) → header_of tokens ≡ Some h → IsCut tokens h
header-cut tokens h e = cut-at (position (is_sign symbol.EqualsEquals) tokens) tokens h refl e
