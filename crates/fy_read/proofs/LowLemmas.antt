-- A type is at least as deep as its pieces so far make it, and may be no deeper.
use Rattle.std.proofs.Common.{◌≡◌, ℕ, zero, suc, ◌+◌, ◌≤◌, Bool, true, false, max, if◌then◌else◌, List, [], ◌∷◌, ◌++◌, length, refl, ap, sym, ◌∙◌, arith}
use Rattle.std.specs.Prelude.{Option, Some, None}
use Rattle.fy_base.specs.Outside.{Bytes}
use Rattle.fy_types.specs.Words.{is_name_like, is_word}
use Rattle.fy_read.specs.declared.counts.Counted.TheVariants as counted
use Rattle.fy_read.specs.declared.read.Awaited.{Awaited}
use Rattle.fy_read.specs.declared.read.Awaited.TheVariants as awaited
use Rattle.fy_read.specs.Depth.{Deep, deep, no_depth, many, deep_part, deep_field, deep_arrow, deep_whole, outside, within, nest_after, typeds, nodes_around, low_next, low_last, low, nest_of}
use Rattle.fy_derive.specs.Derivations.{PlainDerivation}
use Rattle.fy_derive.specs.Limits.{deepest_type}
use Rattle.fy_read.specs.Refusals.{BeginsPieces}
use Rattle.fy_read.specs.Shape.{greatest}
use Rattle.fy_read.specs.Spelling.{Piece, word, number, sign, open_bracket, close_bracket, open_paren, close_paren, colon, arrow, ampersand, SpellsDerivation}
use Rattle.fy_read.specs.Steps.{Reached, at, after_fit, after_all, is_type_word, begin, finish, least, wanted}
use Rattle.fy_read.proofs.CompletionLemmas.{ns_rest, joint_rest, part_rest, rest_of, rest_leads, IsClear}
use Rattle.fy_read.proofs.GrammarLemmas.{lost, some_derivation}
use Rattle.fy_read.proofs.PieceLemmas.{after_whole}
use Rattle.fy_read.proofs.TypeDepth.{deepest-typed, typeds-append}
use Rattle.fy_read.proofs.DepthLemmas.{greatest-append}

-- behind a part there is one
abbrev pub IsDeep : Awaited → Deep → Type 0
IsDeep awaited.Joint (deep d a m g f) = 1 ≤ g
IsDeep awaited.Node N = Unit {0}
IsDeep awaited.Bracket N = Unit {0}
IsDeep (awaited.Count c) N = Unit {0}
IsDeep awaited.Part N = Unit {0}
IsDeep awaited.Colon N = Unit {0}

-- the nesting with a part more
part_low : (k x : ℕ) (N : Deep) → 1 ≤ x → low_next k N ≤ low_last k (deep_part N x)
part_low k x (deep d a zero g f) some = omega (arith, some)
part_low k x (deep d a (suc m) g f) some = omega (arith, some)

inside_low : (k x : ℕ) (N : Deep) → nodes_around (N ∷ []) + k + x ≤ low_last k (deep_part N x)
inside_low k x (deep d a zero g f) = omega arith
inside_low k x (deep d a (suc m) g f) = omega arith

part_high : (k x : ℕ) (N : Deep) → low_last k (deep_part N x) ≤ max (nodes_around (N ∷ []) + k + x) (low_next k N)
part_high k x (deep d a zero g f) = omega arith
part_high k x (deep d a (suc m) g f) = omega arith

field_low : (k : ℕ) (N : Deep) → low_next k N ≤ low_next k (deep_field N)
field_low k (deep d a m g f) = omega arith

member_low : (k : ℕ) (N : Deep) → low_last k N ≤ low_next k N
member_low k (deep d a zero g f) = omega arith
member_low k (deep d a (suc zero) g f) = omega arith
member_low k (deep d a (suc (suc m)) g f) = omega arith

arrow_low : (k : ℕ) (N : Deep) → low_last k N ≤ low_next k (deep_arrow N)
arrow_low k (deep d a m g f) = omega arith

low_whole : (k : ℕ) (N : Deep) → low_last k N ≡ k + deep_whole N
low_whole k (deep d a m g f) = omega arith

around-one : (M : Deep) (O : List Deep) → nodes_around (M ∷ O) ≡ nodes_around (M ∷ []) + nodes_around O
around-one (deep d a m g f) O = omega arith

many_least : (m g : ℕ) → g ≤ many m g
many_least zero g = omega arith
many_least (suc zero) g = omega arith
many_least (suc (suc m)) g = omega arith

pub whole_some : (N : Deep) → IsDeep awaited.Joint N → 1 ≤ deep_whole N
whole_some (deep d a m g f) some = omega (arith, some, many_least m g)

pub part_deep : (N : Deep) (x : ℕ) → 1 ≤ x → IsDeep awaited.Joint (deep_part N x)
part_deep (deep d a m g f) x some = omega (arith, some)

-- a parenthesis that closes
close_low : (N M : Deep) (O : List Deep) → IsDeep awaited.Joint N → low awaited.Joint N (M ∷ O) ≤ low awaited.Joint (deep_part M (deep_whole N)) O
close_low N M O some =
    omega (
      arith,
      low_whole (nodes_around (M ∷ O)) N,
      around-one M O,
      inside_low (nodes_around O) (deep_whole N) M,
      part_low (nodes_around O)
          (deep_whole N) M (whole_some N some),
    )

close_high : (N M : Deep) (O : List Deep) → low awaited.Joint (deep_part M (deep_whole N)) O ≤ low awaited.Joint N (M ∷ O)
close_high N M O = omega (arith, low_whole (nodes_around (M ∷ O)) N, around-one M O, part_high (nodes_around O) (deep_whole N) M)

word_grows : (ps : List Piece) (n k : ℕ) (N : Deep) (O : List Deep) (a b t : Bool) →
    ((a : Awaited) (N : Deep) → IsDeep a N → after_all (Some (at n k a)) ps ≡ Some finish → low a N O ≤ greatest (typeds (within N O) ps)) →
    after_all (if a then (if b then (if t then Some (at n k awaited.Joint) else None) else Some (at n k awaited.Colon)) else None) ps ≡ Some finish →
    low awaited.Part N O ≤ greatest (typeds (if b then within (deep_part N 1) O else within (deep_field N) O) ps)
word_grows ps n k N O true true true ih h =
    let t = ih awaited.Joint (deep_part N 1) (part_deep N 1 (omega arith)) h in omega (arith, t, part_low (nodes_around O) 1 N (omega arith))
word_grows ps n k N O true true false ih h = lost ps finish h
word_grows ps n k N O true false t ih h =
    let u = ih awaited.Colon (deep_field N) tt h in omega (arith, u, field_low (nodes_around O) N)
word_grows ps n k N O false b t ih h = lost ps finish h

-- what is behind the pieces makes it no less deep
pub grows : (ps : List Piece) (n k : ℕ) (a : Awaited) (N : Deep) (O : List Deep) → length O ≡ k → IsDeep a N →
    after_all (Some (at n k a)) ps ≡ Some finish →
    low a N O ≤ greatest (typeds (within N O) ps)
grows ps n k awaited.Node N O e some h = omega arith
grows ps n k awaited.Bracket N O e some h = omega arith
grows ps n k (awaited.Count c) N O e some h = omega arith
grows [] n k awaited.Part N O e some h = absurd cc
grows [] n k awaited.Colon N O e some h = absurd cc
grows [] n k awaited.Joint N O e some h = absurd cc
grows (word w ∷ ps) n k awaited.Part N O e some h =
    word_grows ps n k N O (is_name_like w) (is_word w) (is_type_word w) (λ a N some h. grows ps n k a N O e some h) h
grows (number m ∷ ps) n k awaited.Part N O e some h = lost ps finish h
grows (sign open_paren ∷ ps) n k awaited.Part N O e some h =
    let t = grows ps n (suc k) awaited.Part no_depth (N ∷ O) (ap suc e) tt h in omega (arith, t)
grows (sign open_bracket ∷ ps) n k awaited.Part N O e some h = lost ps finish h
grows (sign close_bracket ∷ ps) n k awaited.Part N O e some h = lost ps finish h
grows (sign close_paren ∷ ps) n k awaited.Part N O e some h = lost ps finish h
grows (sign colon ∷ ps) n k awaited.Part N O e some h = lost ps finish h
grows (sign arrow ∷ ps) n k awaited.Part N O e some h = lost ps finish h
grows (sign ampersand ∷ ps) n k awaited.Part N O e some h = lost ps finish h
grows (word w ∷ ps) n k awaited.Colon N O e some h = lost ps finish h
grows (number m ∷ ps) n k awaited.Colon N O e some h = lost ps finish h
grows (sign colon ∷ ps) n k awaited.Colon N O e some h = grows ps n k awaited.Part N O e tt h
grows (sign open_paren ∷ ps) n k awaited.Colon N O e some h = lost ps finish h
grows (sign open_bracket ∷ ps) n k awaited.Colon N O e some h = lost ps finish h
grows (sign close_bracket ∷ ps) n k awaited.Colon N O e some h = lost ps finish h
grows (sign close_paren ∷ ps) n k awaited.Colon N O e some h = lost ps finish h
grows (sign arrow ∷ ps) n k awaited.Colon N O e some h = lost ps finish h
grows (sign ampersand ∷ ps) n k awaited.Colon N O e some h = lost ps finish h
grows (word w ∷ ps) n k awaited.Joint N O e some h = lost ps finish h
grows (number m ∷ ps) n k awaited.Joint N O e some h = lost ps finish h
grows (sign open_bracket ∷ ps) n k awaited.Joint N O e some h = lost ps finish h
grows (sign open_paren ∷ ps) n k awaited.Joint N O e some h = lost ps finish h
grows (sign colon ∷ ps) n k awaited.Joint N O e some h = lost ps finish h
grows (sign ampersand ∷ ps) n k awaited.Joint N O e some h =
    let t = grows ps n k awaited.Part N O e tt h in omega (arith, t, member_low (nodes_around O) N)
grows (sign arrow ∷ ps) n k awaited.Joint N O e some h =
    let t = grows ps n k awaited.Part (deep_arrow N) O e tt h in omega (arith, t, arrow_low (nodes_around O) N)
grows (sign close_paren ∷ ps) n zero awaited.Joint N O e some h = lost ps finish h
grows (sign close_paren ∷ ps) n (suc k) awaited.Joint N [] e some h = absurd cc
grows (sign close_paren ∷ ps) n (suc k) awaited.Joint N (M ∷ O) e some h =
    let t = grows ps n k awaited.Joint (deep_part M (deep_whole N)) O (omega (arith, e)) (part_deep M (deep_whole N) (whole_some N some)) h in
    omega (arith, t, close_low N M O some)
grows (sign close_bracket ∷ ps) n (suc k) awaited.Joint N O e some h = lost ps finish h
grows (sign close_bracket ∷ ps) n zero awaited.Joint N (M ∷ O) e some h = absurd cc
grows (sign close_bracket ∷ ps) n zero awaited.Joint N [] e some h = omega (arith, low_whole 0 N)

-- ---- the pieces that lead to the end
ns_typed : (n : ℕ) → typeds outside (ns_rest n) ≡ []
unfolding ns_rest
ns_typed zero = refl
ns_typed (suc n) = ns_typed n

joint_typed : (n k : ℕ) (N : Deep) (O : List Deep) → length O ≡ k → greatest (typeds (within N O) (joint_rest n k)) ≤ low awaited.Joint N O
unfolding joint_rest
joint_typed n zero N [] e = omega (arith, ap greatest (ns_typed (suc n)), low_whole 0 N)
joint_typed n zero N (M ∷ O) e = absurd cc
joint_typed n (suc k) N [] e = absurd cc
joint_typed n (suc k) N (M ∷ O) e = let t = joint_typed n k (deep_part M (deep_whole N)) O (omega (arith, e)) in omega (arith, t, close_high N M O)

part_typed : (n k : ℕ) (N : Deep) (O : List Deep) → length O ≡ k → greatest (typeds (within N O) (part_rest n k)) ≤ low awaited.Part N O
unfolding part_rest
part_typed n k (deep d a zero g f) O e = let t = joint_typed n k (deep_part (deep d a zero g f) 1) O e in omega (arith, t)
part_typed n k (deep d a (suc m) g f) O e = let t = joint_typed n k (deep_part (deep d a (suc m) g f) 1) O e in omega (arith, t)

rest_typed : (n k : ℕ) (a : Awaited) (N : Deep) (O : List Deep) → length O ≡ k → greatest (typeds (nest_of a N O) (rest_of n k a)) ≤ max 1 (low a N O)
rest_typed n k awaited.Node N O e = omega (arith, ap greatest (ns_typed n))
rest_typed n k awaited.Bracket N O e = let t = part_typed n 0 no_depth [] refl in omega (arith, t)
rest_typed n k (awaited.Count counted.Members) N O e = omega (arith, ap greatest (ns_typed (wanted counted.Members (least counted.Members) + n)))
rest_typed n k (awaited.Count counted.Alternatives) N O e =
    omega (arith, ap greatest (ns_typed (wanted counted.Alternatives (least counted.Alternatives) + n)))
rest_typed n k (awaited.Count counted.Premises) N O e = omega (arith, ap greatest (ns_typed (wanted counted.Premises (least counted.Premises) + n)))
rest_typed n k awaited.Part N O e = let t = part_typed n k N O e in omega (arith, t)
rest_typed n k awaited.Colon N O e = let t = part_typed n k N O e in omega (arith, t)
rest_typed n k awaited.Joint N O e = let t = joint_typed n k N O e in omega (arith, t)

pub after_all-append : (o : Option Reached) (ps qs : List Piece) → after_all o (ps ++ qs) ≡ after_all (after_all o ps) qs
after_all-append o [] qs = refl
after_all-append o (p ∷ ps) qs = after_all-append (after_fit o p) ps qs

-- pieces that lead somewhere begin a derivation's
pub begins_pieces : (ps : List Piece) (n k : ℕ) (a : Awaited) → after_all (Some begin) ps ≡ Some (at n k a) → IsClear (at n k a) →
    (e : PlainDerivation) × (names : List Bytes) × SpellsDerivation names e (ps ++ rest_of n k a) []
begins_pieces ps n k a leads clear =
    let t = some_derivation (ps ++ rest_of n k a) (after_all-append (Some begin) ps (rest_of n k a)
    ∙ (ap (λ o. after_all o (rest_of n k a)) leads ∙ rest_leads n k a clear)) in
    (t.1, t.0, t.2)

-- and one that has no deeper type than they make necessary
pub begins_shallow : (ps : List Piece) (n k : ℕ) (a : Awaited) (N : Deep) (O : List Deep) → after_all (Some begin) ps ≡ Some (at n k a) →
    IsClear (at n k a) → nest_after outside ps ≡ nest_of a N O → length O ≡ k →
    (e : PlainDerivation) × BeginsPieces e ps × (deepest_type e ≤ max (greatest (typeds outside ps)) (max 1 (low a N O)))
begins_shallow ps n k a N O leads clear stands e =
    let t = begins_pieces ps n k a leads clear in
    let rest = rest_of n k a in
    let deepest : deepest_type t.0 ≡ greatest (typeds outside ps ++ typeds (nest_of a N O) (rest_of n k a)) =
    deepest-typed t.2 ∙ ap greatest (typeds-append outside ps rest ∙ ap (λ s. typeds outside ps ++ typeds s rest) stands) in (
      t.0,
      record { names = t.1; more = rest; spelled = t.2 },
      omega
          (arith, deepest, greatest-append (typeds outside ps) (typeds (nest_of a N O) rest), rest_typed n k a N O e),
    )

-- each has a type as deep as they make necessary
grows_on : (ps : List Piece) (n k : ℕ) (a : Awaited) (N : Deep) (O : List Deep) → length O ≡ k → IsDeep a N →
    after_all (Some (at n k a)) ps ≡ Some finish →
    low a N O ≤ greatest (typeds (nest_of a N O) ps)
grows_on ps n k awaited.Node N O e some h = omega arith
grows_on ps n k awaited.Bracket N O e some h = omega arith
grows_on ps n k (awaited.Count c) N O e some h = omega arith
grows_on ps n k awaited.Part N O e some h = grows ps n k awaited.Part N O e some h
grows_on ps n k awaited.Colon N O e some h = grows ps n k awaited.Colon N O e some h
grows_on ps n k awaited.Joint N O e some h = grows ps n k awaited.Joint N O e some h

pub all_deep : (ps : List Piece) (n k : ℕ) (a : Awaited) (N : Deep) (O : List Deep) → after_all (Some begin) ps ≡ Some (at n k a) →
    nest_after outside ps ≡ nest_of a N O → length O ≡ k → IsDeep a N →
    (e : PlainDerivation) → BeginsPieces e ps → max (greatest (typeds outside ps)) (low a N O) ≤ deepest_type e
all_deep ps n k a N O leads stands length_is some e begun =
    let whole = begun.spelled in
    let on : after_all (Some (at n k a)) begun.more ≡ Some finish =
    ap (λ o. after_all o begun.more) (sym leads) ∙ (sym (after_all-append (Some begin) ps begun.more) ∙ after_whole whole) in
    let deepest : deepest_type e ≡ greatest (typeds outside ps ++ typeds (nest_of a N O) begun.more) =
    deepest-typed whole ∙ ap greatest (typeds-append outside ps begun.more ∙ ap (λ s. typeds outside ps ++ typeds s begun.more) stands) in
    omega (arith, deepest, greatest-append (typeds outside ps) (typeds (nest_of a N O) begun.more), grows_on begun.more n k a N O length_is some on)
