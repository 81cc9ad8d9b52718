-- How far the limits are used up with one piece more.
use Rattle.std.proofs.Common.{◌≡◌, ℕ, zero, suc, ◌+◌, ◌-◌, ◌<◌, ◌≤◌, Bool, true, false, max, List, [], ◌∷◌, ◌++◌, map, length, refl, ap, sym, ◌∙◌, arith, length-append}
use Rattle.std.specs.Prelude.{Some, nat_lt, if◌then◌else◌}
use Rattle.std.proofs.lemmas.Bool.{ltb-true, ltb-false}
use Rattle.std.proofs.lemmas.List.{append-nil}
use Rattle.fy_types.specs.Types.{PlainType}
use Rattle.fy_read.specs.declared.read.Awaited.{Awaited}
use Rattle.fy_read.specs.declared.read.Awaited.TheVariants as awaited
use Rattle.fy_read.specs.Depth.{deep, one, many, deep_part, deep_field, deep_arrow, deep_whole, deep_close, Nest, outside, within, nest_with, nest_after, typed, typeds, nodes_around, low_next, low_last, low_around, low}
use Rattle.fy_derive.specs.Derivations.{PlainDerivation, PlainDerivations, sub, meets, alt, left, right, rule, count, most_nodes, most_nesting}
use Rattle.fy_read.specs.Measures.{shape_of, deep_of, nest_at, open_at, IsMeasured}
use Rattle.fy_read.specs.Opened.{PlainOpen, in_sub, in_alt, in_left, in_right, in_meet, in_rule, is_whole, is_waiting, PlainNodes, given, given_on, added, missing, AreWaiting}
use Rattle.fy_read.specs.OpenTypes.{PlainLevel, PlainLevels, in_fields, meet_all, whole_type, with_field, with_part, with_domain, closed_by, one_if_any, around, greatest_nesting, meet_nesting, arrows_nesting, HasRoom, HasMember, AllHaveRoom, TakesPart, TakesJoint}
use Rattle.fy_read.specs.Readers.{reached_by, AreFit}
use Rattle.fy_types.specs.Nested.{type_nesting}
use Rattle.fy_read.specs.Refusals.{opened_from, open_parens, most_open_parens}
use Rattle.fy_derive.specs.Limits.{most_type_nesting}
use Rattle.fy_read.specs.Shape.{first_shape, less_one, give, push, shape_with, out, outs, greatest}
use Rattle.fy_read.specs.Spelling.{Piece, word, number, sign, open_bracket, close_bracket, open_paren, close_paren, colon, arrow, ampersand}
use Rattle.fy_read.specs.Steps.{after, after_fit, after_all, begin}
use Rattle.fy_read.proofs.DepthLemmas.{outs-append, shape-append, node_words-outs}
use Rattle.fy_read.proofs.FineLemmas.{low_of, IsFine}
use Rattle.fy_read.proofs.LevelLemmas.{greatest_nesting-push, arrows_nesting-push, nesting-in_fields, nesting-meet_all, nesting-whole}
use Rattle.fy_read.proofs.OpenLemmas.{count-added}
use Rattle.fy_read.proofs.TypeDepth.{typeds-append}
use Rattle.fy_read.proofs.LexLemmas.{after_all-snoc}
pub use Rattle.fy_read.proofs.DepthLemmas.{greatest-append}

-- ---- one piece more
nest-snoc : (s : Nest) (ps : List Piece) (p : Piece) → nest_after s (ps ++ p ∷ []) ≡ nest_with (nest_after s ps) p
nest-snoc s [] p = refl
nest-snoc s (q ∷ ps) p = nest-snoc (nest_with s q) ps p

opened-snoc : (n : ℕ) (ps : List Piece) (p : Piece) → opened_from n (ps ++ p ∷ []) ≡ opened_from (opened_from n ps) (p ∷ [])
opened-snoc n [] p = refl
opened-snoc n (word w ∷ ps) p = opened-snoc n ps p
opened-snoc n (number m ∷ ps) p = opened-snoc n ps p
opened-snoc n (sign open_bracket ∷ ps) p = opened-snoc n ps p
opened-snoc n (sign close_bracket ∷ ps) p = opened-snoc n ps p
opened-snoc n (sign open_paren ∷ ps) p = opened-snoc (n + 1) ps p
opened-snoc n (sign close_paren ∷ ps) p = opened-snoc (n - 1) ps p
opened-snoc n (sign colon ∷ ps) p = opened-snoc n ps p
opened-snoc n (sign arrow ∷ ps) p = opened-snoc n ps p
opened-snoc n (sign ampersand ∷ ps) p = opened-snoc n ps p

-- a piece leads from where the reader is to where it is next, and passes no limit
pub record Moves (q j : ℕ) (a : Awaited) (n : PlainNodes) (Ls : PlainLevels) (p : Piece) (b : Awaited) (m : PlainNodes)
    (Ks : PlainLevels) : Type 0 where
  pub leads : after (reached_by a n (length Ls.outer)) p ≡ Some (reached_by b m (length Ks.outer))
  pub shape : shape_with (shape_of a n) p ≡ shape_of b m
  pub nest : nest_with (nest_at a Ls) p ≡ nest_at b Ks
  pub parens : opened_from (open_at a Ls) (p ∷ []) ≡ open_at b Ks
  pub words : j ≡ q + length (out (shape_of a n) p)
  pub few : q ≤ most_nodes → j ≤ most_nodes
  pub shallow : greatest (out (shape_of a n) p) ≤ most_nesting
  pub few_open : open_at a Ls ≤ most_open_parens → open_at b Ks ≤ most_open_parens
  pub types : greatest (typed (nest_at a Ls) p) ≤ most_type_nesting

pub outs-piece : {q : ℕ} {a : Awaited} {n : PlainNodes} {Ls : PlainLevels} (ps : List Piece) (p : Piece) → IsMeasured q a n Ls ps →
    outs first_shape (ps ++ p ∷ []) ≡ outs first_shape ps ++ out (shape_of a n) p
outs-piece {a = a} {n = n} ps p h =
    outs-append first_shape ps (p ∷ [])
    ∙ (ap (λ s. outs first_shape ps ++ (out s p ++ [])) h.shape ∙ ap (λ xs. outs first_shape ps ++ xs) (append-nil (out (shape_of a n) p)))

pub typeds-piece : {q : ℕ} {a : Awaited} {n : PlainNodes} {Ls : PlainLevels} (ps : List Piece) (p : Piece) → IsMeasured q a n Ls ps →
    typeds outside (ps ++ p ∷ []) ≡ typeds outside ps ++ typed (nest_at a Ls) p
typeds-piece {a = a} {Ls = Ls} ps p h =
    typeds-append outside ps (p ∷ [])
    ∙ (ap (λ s. typeds outside ps ++ (typed s p ++ [])) h.nest ∙ ap (λ xs. typeds outside ps ++ xs) (append-nil (typed (nest_at a Ls) p)))

pub leads-piece : {q : ℕ} {a : Awaited} {n : PlainNodes} {Ls : PlainLevels} (ps : List Piece) (p : Piece) → IsMeasured q a n Ls ps →
    after_all (Some begin) (ps ++ p ∷ []) ≡ after (reached_by a n (length Ls.outer)) p
leads-piece ps p h = after_all-snoc (Some begin) ps p ∙ ap (λ o. after_fit o p) h.leads

pub nest-piece : {q : ℕ} {a : Awaited} {n : PlainNodes} {Ls : PlainLevels} (ps : List Piece) (p : Piece) → IsMeasured q a n Ls ps →
    nest_after outside (ps ++ p ∷ []) ≡ nest_with (nest_at a Ls) p
nest-piece ps p h = nest-snoc outside ps p ∙ ap (λ s. nest_with s p) h.nest

pub parens-piece : {q : ℕ} {a : Awaited} {n : PlainNodes} {Ls : PlainLevels} (ps : List Piece) (p : Piece) → IsMeasured q a n Ls ps →
    open_parens (ps ++ p ∷ []) ≡ opened_from (open_at a Ls) (p ∷ [])
parens-piece ps p h = opened-snoc 0 ps p ∙ ap (λ k. opened_from k (p ∷ [])) h.parens

pub words-piece : {q : ℕ} {a : Awaited} {n : PlainNodes} {Ls : PlainLevels} (ps : List Piece) (p : Piece) → IsMeasured q a n Ls ps →
    length (outs first_shape (ps ++ p ∷ [])) ≡ q + length (out (shape_of a n) p)
words-piece {a = a} {n = n} ps p h =
    ap length (outs-piece ps p h) ∙ omega (arith, length-append (outs first_shape ps) (out (shape_of a n) p), h.words)

pub measured_piece : {q j : ℕ} {a b : Awaited} {n m : PlainNodes} {Ls Ks : PlainLevels} (ps : List Piece) (p : Piece) → Moves q j a n Ls p b m Ks →
    IsMeasured q a n Ls ps → IsMeasured j b m Ks (ps ++ p ∷ [])
measured_piece {a = a} {n = n} {Ls = Ls} ps p t h = record {
  leads = leads-piece ps p h ∙ t.leads;
  shape = shape-append first_shape ps (p ∷ []) ∙ (ap (λ s. shape_with s p) h.shape ∙ t.shape);
  nest = nest-piece ps p h ∙ t.nest;
  parens = parens-piece ps p h ∙ t.parens;
  words = words-piece ps p h ∙ sym t.words;
  few = t.few h.few;
  shallow = omega (arith, ap greatest (outs-piece ps p h), greatest-append (outs first_shape ps) (out (shape_of a n) p), h.shallow, t.shallow);
  few_open = t.few_open h.few_open;
  types = omega (arith, ap greatest (typeds-piece ps p h), greatest-append (typeds outside ps) (typed (nest_at a Ls) p), h.types, t.types);
}

-- ---- nodes that wait
less_more : (k : ℕ) (S G : List ℕ) → 1 < k → less_one k S G ≡ (k - 1) ∷ S
less_more zero S G h = absurd (omega (arith, h))
less_more (suc zero) S G h = absurd (omega (arith, h))
less_more (suc (suc k)) S G h = ap (λ j. j ∷ S) (omega arith)

less_last : (k : ℕ) (S G : List ℕ) → k ≡ 1 → less_one k S G ≡ G
less_last k S G e = ap (λ k. less_one k S G) e

pub push_some : (x : ℕ) (S : List ℕ) → 0 < x → push x S ≡ x ∷ S
push_some zero S h = absurd (omega (arith, h))
push_some (suc x) S h = refl

list_shape : (n : ℕ) (ds : PlainDerivations) (o : PlainOpen) (w e : PlainDerivation) (os : List PlainOpen) (b : Bool) →
    ((d : PlainDerivation) → give (map missing os) ≡ map missing (given os d).waiting) → missing o ≡ n - count (added ds e) → 0 < n - count ds →
    nat_lt (count (added ds e)) n ≡ b →
    less_one (n - count ds) (map missing os) (give (map missing os)) ≡ map missing (given_on (if b then is_waiting o else is_whole w) os
    (given os)).waiting
list_shape n ds o w e os true ih many waits is =
    less_more (n - count ds) (map missing os) (give (map missing os)) (omega (arith, count-added ds e, ltb-true _ _ is))
    ∙ ap (λ k. k ∷ map missing os) (omega (arith, many, count-added ds e, ltb-true _ _ is))
list_shape n ds o w e os false ih many waits is =
    less_last (n - count ds) (map missing os) (give (map missing os)) (omega (arith, count-added ds e, ltb-false _ _ is, waits)) ∙ ih w

pub given_shape : (os : List PlainOpen) → AreWaiting os → (e : PlainDerivation) → give (map missing os) ≡ map missing (given os e).waiting
given_shape [] waits e = refl
given_shape (in_sub T ∷ os) waits e = given_shape os waits.1 (sub T e)
given_shape (in_alt i ∷ os) waits e = given_shape os waits.1 (alt i e)
given_shape (in_left ∷ os) waits e = given_shape os waits.1 (left e)
given_shape (in_right ∷ os) waits e = given_shape os waits.1 (right e)
given_shape (in_meet n ms ∷ os) waits e =
    list_shape n ms (in_meet n (added ms e)) (meets (added ms e)) e os _ (given_shape os waits.1) refl waits.0 refl
given_shape (in_rule n ms ∷ os) waits e =
    list_shape n ms (in_rule n (added ms e)) (rule (added ms e)) e os _ (given_shape os waits.1) refl waits.0 refl

-- ---- the levels of a type
length-push : {T : Type 0} (xs : List T) (x : T) → length (xs ++ x ∷ []) ≡ suc (length xs)
length-push [] x = refl
length-push (y ∷ xs) x = ap suc (length-push xs x)

pub many-nesting : (As : List PlainType) → many (length As) (greatest_nesting As) ≡ meet_nesting As
many-nesting [] = refl
many-nesting (A ∷ []) = omega arith
many-nesting (A ∷ B ∷ As) = refl

pub one-any : (As : List PlainType) → one (length As) ≡ one_if_any As
one-any [] = refl
one-any (A ∷ As) = refl

pub deep-field : (L : PlainLevel) (i : ℕ) → deep_field (deep_of L) ≡ deep_of (with_field L i)
deep-field L i =
    ap (deep (length L.domains) (arrows_nesting 0 L.domains) (length L.members) (greatest_nesting L.members)) (sym (length-push L.fields i))

pub deep-part : (L : PlainLevel) (A : PlainType) → deep_part (deep_of L) (type_nesting A) ≡ deep_of (with_part L A)
deep-part L A =
    let X = in_fields L.fields A in
    let d = length L.domains in
    let a = arrows_nesting 0 L.domains in
    ap (λ m. deep d a m (max (greatest_nesting L.members) (length L.fields + type_nesting A)) 0) (sym (length-push L.members X))
    ∙ ap (λ g. deep d a (length (L.members ++ X ∷ [])) g 0)
    (sym (greatest_nesting-push L.members X ∙ ap (max (greatest_nesting L.members)) (nesting-in_fields L.fields A)))

pub deep-domain : (L : PlainLevel) → 0 < length L.members → deep_arrow (deep_of L) ≡ deep_of (with_domain L)
deep-domain L some =
    let D = meet_all L.members in
    let d = length L.domains in
    let m = many (length L.members) (greatest_nesting L.members) in
    let nests : m ≡ type_nesting D = many-nesting L.members ∙ sym (nesting-meet_all L.members some) in
    ap (λ k. deep k (max (arrows_nesting 0 L.domains) (d + 1 + m)) 0 0 0) (sym (length-push L.domains D))
    ∙ ap (λ a. deep (length (L.domains ++ D ∷ [])) a 0 0 0) (omega (arith, arrows_nesting-push 0 L.domains D, nests))

pub deep-whole : (L : PlainLevel) → 0 < length L.members → deep_whole (deep_of L) ≡ type_nesting (whole_type L)
deep-whole L some = omega (arith, many-nesting L.members, nesting-whole L some)

pub deep-closed : (outer : List PlainLevel) (M : PlainLevel) → 0 < length outer → 0 < length M.members →
    deep_close (deep_of M) (map deep_of outer) ≡ nest_at awaited.Joint (closed_by outer M)
deep-closed [] M opens some = absurd (omega (arith, opens))
deep-closed (L ∷ outer) M opens some =
    ap (λ x. within (deep_part (deep_of L) x) (map deep_of outer)) (deep-whole M some)
    ∙ ap (λ N. within N (map deep_of outer)) (deep-part L (whole_type M))

-- ---- what keeps the limits
pub around-deep : (outer : List PlainLevel) → nodes_around (map deep_of outer) ≡ around outer
around-deep [] = refl
around-deep (L ∷ outer) = omega (arith, around-deep outer, one-any L.members)

next-room : (k : ℕ) (L : PlainLevel) → HasRoom k L → low_next k (deep_of L) ≤ most_type_nesting
next-room k L h = omega (arith, one-any L.members, h.part, h.arrows, h.members)

last-room : (k : ℕ) (L : PlainLevel) → HasMember k L → low_last k (deep_of L) ≤ most_type_nesting
last-room k L h = omega (arith, many-nesting L.members, h.arrows, h.members)

around-room : (outer : List PlainLevel) → AllHaveRoom outer → low_around (map deep_of outer) ≤ most_type_nesting
around-room [] h = omega arith
around-room (L ∷ outer) h =
    omega (arith, around-room outer h.1, next-room (around outer) L h.0, ap (λ k. low_next k (deep_of L)) (around-deep outer))

part_low : (Ls : PlainLevels) → TakesPart Ls → low awaited.Part (deep_of Ls.inner) (map deep_of Ls.outer) ≤ most_type_nesting
part_low Ls h =
    omega (
      arith,
      around-room Ls.outer h.outer,
      next-room (around Ls.outer) Ls.inner h.inner,
      ap (λ k. low_next k (deep_of Ls.inner)) (around-deep Ls.outer),
    )

joint_low : (Ls : PlainLevels) → TakesJoint Ls → low awaited.Joint (deep_of Ls.inner) (map deep_of Ls.outer) ≤ most_type_nesting
joint_low Ls h =
    omega (
      arith,
      around-room Ls.outer h.outer,
      last-room (around Ls.outer) Ls.inner h.inner,
      ap (λ k. low_last k (deep_of Ls.inner)) (around-deep Ls.outer),
    )

fit_low : (a : Awaited) (n : PlainNodes) (Ls : PlainLevels) → AreFit a Ls →
    low_of (reached_by a n (length Ls.outer)) (nest_at a Ls) ≤ most_type_nesting
fit_low awaited.Node n Ls h = omega arith
fit_low awaited.Bracket n Ls h = omega arith
fit_low (awaited.Count c) n Ls h = omega arith
fit_low awaited.Part n Ls h = part_low Ls h
fit_low awaited.Colon n Ls h = part_low Ls h
fit_low awaited.Joint n Ls h = joint_low Ls h

pub fine_of : {q : ℕ} {a : Awaited} {n : PlainNodes} {Ls : PlainLevels} (ps : List Piece) → AreFit a Ls → IsMeasured q a n Ls ps →
    IsFine ps (reached_by a n (length Ls.outer))
fine_of {a = a} {n = n} {Ls = Ls} ps fit h = record {
  few = omega (arith, node_words-outs ps, h.words, h.few);
  shallow = h.shallow;
  parens = omega (arith, h.parens, h.few_open);
  types = omega (arith, h.types, ap (low_of (reached_by a n (length Ls.outer))) h.nest, fit_low a n Ls fit);
}
