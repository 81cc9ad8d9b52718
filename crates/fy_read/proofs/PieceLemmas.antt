-- The pieces of a derivation lead from its beginning to its end.
use Rattle.std.proofs.Common.{◌≡◌, ℕ, suc, ◌+◌, ◌≤◌, Bool, true, false, not, ◌&&◌, IsTrue, List, [], codes, refl, ap, ◌∙◌, arith, le-leb}
use Rattle.std.specs.Prelude.{Some, if◌then◌else◌}
use Rattle.fy_types.specs.Words.{is_name_like, is_word, is_identifier}
use Rattle.fy_types.specs.Types.{PlainType, PlainTypes}
use Rattle.fy_types.specs.declared.types.Atom.{Atom}
use Rattle.fy_types.specs.declared.types.Atom.TheVariants as atoms
use Rattle.fy_types.specs.Print.{atom_text}
use Rattle.fy_base.specs.Outside.{Bytes}
use Rattle.fy_read.specs.declared.counts.Counted.{Counted}
use Rattle.fy_read.specs.declared.counts.Counted.TheVariants as counted
use Rattle.fy_read.specs.declared.read.Awaited.TheVariants as awaited
use Rattle.fy_derive.specs.Derivations.{PlainDerivation, PlainDerivations, count}
use Rattle.fy_read.specs.Spelling.{Piece, word, number, sign, Sign, TypeLevel, SpellsType, an_arrow, no_arrow, members, a_field, no_field, ns, atom, group, MoreTypes, no_more, one_more, SpellsDerivation, a_ns, a_sub, a_meet, an_alt, a_left, a_right, a_rule, SpellsDerivations, none, and_one}
use Rattle.fy_read.specs.Steps.{at, after, after_fit, after_all, after_type_word, after_count, type_words, node_words, least, greatest, wanted, begin, finish}

chosen : {X : Type 0} (a b : Bool) (x y z : X) → IsTrue (a && not b) → (if a then (if b then x else y) else z) ≡ y
chosen true true x y z h = cc
chosen true false x y z h = refl
chosen false b x y z h = cc

-- a name leads to its colon
pub named : (n k : ℕ) (w : Bytes) → IsTrue (is_identifier w) → after_type_word n k w ≡ Some (at n k awaited.Colon)
named n k w h = chosen (is_name_like w) (is_word w) _ _ _ h

-- a word of a type
atomic : (n k : ℕ) (a : Atom) → after_type_word n k (atom_text a) ≡ Some (at n k awaited.Joint)
unfolding type_words
atomic n k atoms.Int = refl
atomic n k a = refl

pub greatest_word : (n k : ℕ) → after_type_word n k (codes "ns") ≡ Some (at n k awaited.Joint)
unfolding type_words
greatest_word n k = refl

mutual
  -- a type leads from its first part to what joins on
  pub after_type : {names : List Bytes} {l : TypeLevel} {A : PlainType} {ts r : List Piece} (n k : ℕ) →
      SpellsType names l A ts r → after_all (Some (at n k awaited.Part)) ts ≡ after_all (Some (at n k awaited.Joint)) r
  after_type n k (an_arrow D B) = after_type n k D ∙ after_type n k B
  after_type n k (no_arrow A) = after_type n k A
  after_type n k (members A As) = after_type n k A ∙ after_more n k As
  after_type n k (a_field {name = w} {ts = ts} numbered identifier A) =
      ap (λ o. after_all (after_fit o (sign Sign.colon)) ts) (named n k w identifier) ∙ after_type n k A
  after_type n k (no_field A) = after_type n k A
  after_type n k (ns {r = r}) = ap (λ o. after_all o r) (greatest_word n k)
  after_type n k (atom {a = a} {r = r}) = ap (λ o. after_all o r) (atomic n k a)
  after_type n k (group A) = after_type n (suc k) A

  after_more : {names : List Bytes} {As : PlainTypes} {ts r : List Piece} (n k : ℕ) →
      MoreTypes names As ts r → after_all (Some (at n k awaited.Joint)) ts ≡ after_all (Some (at n k awaited.Joint)) r
  after_more n k no_more = refl
  after_more n k (one_more A As) = after_type n k A ∙ after_more n k As

pub node_of : (m k : ℕ) → (after (at (suc m) k awaited.Node) (word (codes "ns")) ≡ Some (at m 0 awaited.Node))
    × (after (at (suc m) k awaited.Node) (word (codes "sub")) ≡ Some (at m 0 awaited.Bracket))
    × (after (at (suc m) k awaited.Node) (word (codes "meet")) ≡ Some (at m 0 (awaited.Count counted.Members)))
    × (after (at (suc m) k awaited.Node) (word (codes "alt")) ≡ Some (at m 0 (awaited.Count counted.Alternatives)))
    × (after (at (suc m) k awaited.Node) (word (codes "left")) ≡ Some (at (suc m) 0 awaited.Node))
    × (after (at (suc m) k awaited.Node) (word (codes "right")) ≡ Some (at (suc m) 0 awaited.Node))
    × (after (at (suc m) k awaited.Node) (word (codes "rule")) ≡ Some (at m 0 (awaited.Count counted.Premises)))
unfolding node_words
node_of m k = (refl, refl, refl, refl, refl, refl, refl)

-- a count within its bounds
both : {X : Type 0} (a b : Bool) (x y : X) → a ≡ true → b ≡ true → (if a && b then x else y) ≡ x
both true true x y h i = refl
both true false x y h i = cc
both false b x y h i = cc

pub counting : (n m : ℕ) (c : Counted) → least c ≤ m → m ≤ greatest c → after_count n c m ≡ Some (at (wanted c m + n) 0 awaited.Node)
counting n m c low high = both _ _ _ _ (le-leb _ _ low) (le-leb _ _ high)

mutual
  -- a derivation leads from where one more is needed to where it isn't
  after_derivation : {names : List Bytes} {d : PlainDerivation} {ts r : List Piece} (n : ℕ) →
      SpellsDerivation names d ts r → after_all (Some (at (suc n) 0 awaited.Node)) ts ≡ after_all (Some (at n 0 awaited.Node)) r
  after_derivation n (a_ns {r = r}) = ap (λ o. after_all o r) (node_of n 0).0
  after_derivation n (a_sub {ts = ts} T d) =
      ap (λ o. after_all (after_fit o (sign Sign.open_bracket)) ts) (node_of n 0).1 ∙ (after_type n 0 T ∙ after_derivation n d)
  after_derivation n (a_meet {ds = ds} {ts = ts} low high all) =
      ap (λ o. after_all (after_fit o (number (count ds))) ts) (node_of n 0).2
      ∙ (ap (λ o. after_all o ts) (counting n (count ds) counted.Members low high) ∙ after_derivations n all)
  after_derivation n (an_alt {i = i} {ts = ts} small d) =
      ap (λ o. after_all (after_fit o (number i)) ts) (node_of n 0).3
      ∙ (ap (λ o. after_all o ts) (counting n i counted.Alternatives (omega arith) (omega (arith, small))
      ∙ ap (λ m. Some (at m 0 awaited.Node)) (omega arith))
      ∙ after_derivation n d)
  after_derivation n (a_left {ts = ts} d) = ap (λ o. after_all o ts) (node_of n 0).4 ∙ after_derivation n d
  after_derivation n (a_right {ts = ts} d) = ap (λ o. after_all o ts) (node_of n 0).5 ∙ after_derivation n d
  after_derivation n (a_rule {ds = ds} {ts = ts} high all) =
      ap (λ o. after_all (after_fit o (number (count ds))) ts) (node_of n 0).6
      ∙ (ap (λ o. after_all o ts) (counting n (count ds) counted.Premises (omega arith) high) ∙ after_derivations n all)

  after_derivations : {names : List Bytes} {ds : PlainDerivations} {ts r : List Piece} (n : ℕ) →
      SpellsDerivations names ds ts r → after_all (Some (at (count ds + n) 0 awaited.Node)) ts ≡ after_all (Some (at n 0 awaited.Node)) r
  after_derivations n (none {r = r}) = ap (λ m. after_all (Some (at m 0 awaited.Node)) r) (omega arith)
  after_derivations n (and_one {ds = ds} {ts = ts} d all) =
      ap (λ m. after_all (Some (at m 0 awaited.Node)) ts) (omega arith) ∙ (after_derivation (count ds + n) d ∙ after_derivations n all)

-- the pieces of a derivation lead from the beginning to the end
pub after_whole : {names : List Bytes} {d : PlainDerivation} {ts : List Piece} →
    SpellsDerivation names d ts [] → after_all (Some begin) ts ≡ Some finish
after_whole d = after_derivation 0 d
