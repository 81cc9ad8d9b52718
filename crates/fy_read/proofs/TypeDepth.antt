-- The nestings of the types of a derivation are those that its text gives.
use Rattle.std.proofs.Common.{◌≡◌, ℕ, zero, suc, ◌+◌, ◌<◌, Bool, true, false, not, ◌&&◌, max, if◌then◌else◌, List, [], ◌∷◌, ◌++◌, refl, ap, sym, ◌∙◌, append_assoc, arith}
use Rattle.std.proofs.lemmas.List.{append-nil}
use Rattle.fy_base.specs.Outside.{Bytes}
use Rattle.fy_types.specs.declared.types.Atom.{Atom}
use Rattle.fy_types.specs.declared.types.Atom.TheVariants as atoms
use Rattle.fy_types.specs.Print.{atom_text}
use Rattle.fy_types.specs.Types.{PlainType, PlainTypes, no_types, and_type}
use Rattle.fy_types.specs.Words.{is_name_like, is_word}
use Rattle.fy_read.specs.Depth.{Deep, deep, one, many, deep_part, deep_field, deep_whole, Nest, outside, within, nest_with, nest_after, typed, typeds, low}
use Rattle.fy_derive.specs.Derivations.{PlainDerivation, PlainDerivations, by_ns, sub, meets, alt, left, right, rule, no_derivations, and_derivation}
use Rattle.fy_types.specs.Nested.{type_nesting, types_nesting}
use Rattle.fy_derive.specs.Limits.{deepest_type, deepest_of_all}
use Rattle.fy_read.specs.Shape.{greatest}
use Rattle.fy_read.specs.Spelling.{Piece, sign, colon, TypeLevel, type, inter, field, primary, meet_of, SpellsType, an_arrow, no_arrow, members, a_field, no_field, ns, atom, group, MoreTypes, no_more, one_more, SpellsDerivation, a_ns, a_sub, a_meet, an_alt, a_left, a_right, a_rule, SpellsDerivations, none, and_one}
use Rattle.fy_read.proofs.DepthLemmas.{greatest-append}

field_part : (N : Deep) (x : ℕ) → deep_part (deep_field N) x ≡ deep_part N (1 + x)
field_part (deep d a m g f) x = ap (λ k. deep d a (suc m) (max g k) 0) (omega arith)

-- the meet, and the type, that ends before the rest
record Meets (A : PlainType) (d a : ℕ) (O : List Deep) (ts r : List Piece) : Type 0 where
  m : ℕ
  g : ℕ
  nests : many m g ≡ type_nesting A
  same : typeds (within (deep d a 0 0 0) O) ts ≡ typeds (within (deep d a m g 0) O) r

record Ends (A : PlainType) (d a : ℕ) (O : List Deep) (ts r : List Piece) : Type 0 where
  N : Deep
  nests : deep_whole N ≡ max a (d + type_nesting A)
  same : typeds (within (deep d a 0 0 0) O) ts ≡ typeds (within N O) r

-- so many types
abbrev number_of : PlainTypes → ℕ
number_of no_types = 0
number_of (and_type A As) = suc (number_of As)

record More (As : PlainTypes) (d a k g : ℕ) (O : List Deep) (ts r : List Piece) : Type 0 where
  j : ℕ
  h : ℕ
  longer : j ≡ k + number_of As
  nests : h ≡ max g (types_nesting As)
  same : typeds (within (deep d a (suc k) g 0) O) ts ≡ typeds (within (deep d a (suc j) h 0) O) r

abbrev Turns : TypeLevel → PlainType → List Piece → List Piece → Type 0
Turns type A ts r = (d a : ℕ) (O : List Deep) → Ends A d a O ts r
Turns inter A ts r = (d a : ℕ) (O : List Deep) → Meets A d a O ts r
Turns field A ts r = (N : Deep) (O : List Deep) → typeds (within N O) ts ≡ typeds (within (deep_part N (type_nesting A)) O) r
Turns primary A ts r = (N : Deep) (O : List Deep) → typeds (within N O) ts ≡ typeds (within (deep_part N (type_nesting A)) O) r

atom_word : (a : Atom) → is_word (atom_text a) ≡ true
atom_word atoms.Int = refl
atom_word a = refl

pub no_word : (a b : Bool) → (a && not b) ≡ true → b ≡ false
no_word true true h = absurd cc
no_word true false h = refl
no_word false b h = absurd cc

many_more : (k g : ℕ) → 0 < k → many (suc k) g ≡ g + 1
many_more zero g h = absurd (omega (arith, h))
many_more (suc k) g h = refl

meet_nests : (A : PlainType) (As : PlainTypes) (j h : ℕ) → j ≡ number_of As → h ≡ max (type_nesting A) (types_nesting As) →
    many (suc j) h ≡ type_nesting (meet_of A As)
meet_nests A no_types j h e nests = ap (λ k. many (suc k) h) e ∙ omega (arith, nests)
meet_nests A (and_type B Bs) j h e nests = many_more j h (omega (arith, e)) ∙ omega (arith, nests)

mutual
  turns : {names : List Bytes} {l : TypeLevel} {A : PlainType} {ts r : List Piece} → SpellsType names l A ts r → Turns l A ts r
  turns (an_arrow D B) = λ d a O.
      let s = turns D d a O in
      let t = turns B (suc d) (max a (d + 1 + many s.m s.g)) O in
      record { N = t.N; nests = omega (arith, t.nests, s.nests); same = s.same ∙ t.same }
  turns (no_arrow A) = λ d a O. let s = turns A d a O in record { N = deep d a s.m s.g 0; nests = omega (arith, s.nests); same = s.same }
  turns (members {A = A} {As = As} one all) = λ d a O.
      let t = more_turns all d a 0 (max 0 (0 + type_nesting A)) O in
      record {
        m = suc t.j;
        g = t.h;
        nests = meet_nests A As t.j t.h (omega (arith, t.longer)) (omega (arith, t.nests));
        same = turns one
            (deep d a 0 0 0) O ∙ t.same;
      }
  turns (a_field {name = w} {A = A} {ts = ts} {r = r} numbered identifier one) = λ N O.
      ap (λ b. typeds (if b then within (deep_part N 1) O else within (deep_field N) O) (sign colon ∷ ts))
      (no_word (is_name_like w) (is_word w) identifier)
      ∙ (turns one (deep_field N) O ∙ ap (λ M. typeds (within M O) r) (field_part N (type_nesting A)))
  turns (no_field A) = turns A
  turns (ns {r = r}) = λ N O. refl
  turns (atom {a = a} {r = r}) = λ N O. ap (λ b. typeds (if b then within (deep_part N 1) O else within (deep_field N) O) r) (atom_word a)
  turns (group {A = A} {r = r} one) = λ N O.
      let t = turns one 0 0 (N ∷ O) in t.same ∙ ap (λ x. typeds (within (deep_part N x) O) r) (t.nests ∙ omega arith)

  more_turns : {names : List Bytes} {As : PlainTypes} {ts r : List Piece} → MoreTypes names As ts r → (d a k g : ℕ) (O : List Deep) →
      More As d a k g O ts r
  more_turns no_more = λ d a k g O. record { j = k; h = g; longer = omega arith; nests = omega arith; same = refl }
  more_turns (one_more {A = A} one all) = λ d a k g O.
      let t = more_turns all d a (suc k) (max g (0 + type_nesting A)) O in
      record {
        j = t.j;
        h = t.h;
        longer = omega (arith, t.longer);
        nests = omega (arith, t.nests);
        same = turns one (deep d a (suc k) g 0) O
            ∙ t.same;
      }

-- ---- derivations
abbrev mutual
  -- the nestings of the types of a derivation, in preorder
  pub types_of : PlainDerivation → List ℕ
  types_of by_ns = []
  types_of (sub T d) = type_nesting T ∷ types_of d
  types_of (meets ds) = all_types ds
  types_of (alt i d) = types_of d
  types_of (left d) = types_of d
  types_of (right d) = types_of d
  types_of (rule ds) = all_types ds

  pub all_types : PlainDerivations → List ℕ
  all_types no_derivations = []
  all_types (and_derivation d ds) = types_of d ++ all_types ds

mutual
  deepest-types : (d : PlainDerivation) → deepest_type d ≡ greatest (types_of d)
  deepest-types by_ns = refl
  deepest-types (sub T d) = omega (arith, deepest-types d)
  deepest-types (meets ds) = deepest-all ds
  deepest-types (alt i d) = deepest-types d
  deepest-types (left d) = deepest-types d
  deepest-types (right d) = deepest-types d
  deepest-types (rule ds) = deepest-all ds

  deepest-all : (ds : PlainDerivations) → deepest_of_all ds ≡ greatest (all_types ds)
  deepest-all no_derivations = refl
  deepest-all (and_derivation d ds) = omega (arith, greatest-append (types_of d) (all_types ds), deepest-types d, deepest-all ds)

mutual
  derivation_typed : {names : List Bytes} {d : PlainDerivation} {ts r : List Piece} → SpellsDerivation names d ts r →
      typeds outside ts ≡ types_of d ++ typeds outside r
  derivation_typed a_ns = refl
  derivation_typed (a_sub {T = T} {d = d} {m = m} {r = r} one rest) =
      let t = turns one 0 0 [] in
      t.same ∙ (ap (λ x. x ∷ typeds outside m) (t.nests ∙ omega arith) ∙ ap (λ xs. type_nesting T ∷ xs) (derivation_typed rest))
  derivation_typed (a_meet low high all) = derivations_typed all
  derivation_typed (an_alt small d) = derivation_typed d
  derivation_typed (a_left d) = derivation_typed d
  derivation_typed (a_right d) = derivation_typed d
  derivation_typed (a_rule high all) = derivations_typed all

  derivations_typed : {names : List Bytes} {ds : PlainDerivations} {ts r : List Piece} → SpellsDerivations names ds ts r →
      typeds outside ts ≡ all_types ds ++ typeds outside r
  derivations_typed none = refl
  derivations_typed (and_one {d = d} {ds = ds} {r = r} one all) =
      derivation_typed one ∙ (ap (λ xs. types_of d ++ xs) (derivations_typed all) ∙ sym (append_assoc (types_of d) (all_types ds) (typeds outside r)))

-- the deepest type of a derivation is the deepest that its pieces give
pub deepest-typed : {names : List Bytes} {d : PlainDerivation} {ps : List Piece} → SpellsDerivation names d ps [] →
    deepest_type d ≡ greatest (typeds outside ps)
deepest-typed {d = d} {ps = ps} s =
    deepest-types d ∙ ap greatest (sym (derivation_typed s ∙ append-nil (types_of d)))

pub typeds-append : (s : Nest) (ps qs : List Piece) → typeds s (ps ++ qs) ≡ typeds s ps ++ typeds (nest_after s ps) qs
typeds-append s [] qs = refl
typeds-append s (p ∷ ps) qs =
    ap (λ xs. typed s p ++ xs) (typeds-append (nest_with s p) ps qs)
    ∙ sym (append_assoc (typed s p) (typeds (nest_with s p) ps) (typeds (nest_after (nest_with s p) ps) qs))
