-- What `seq(..)` and strings mean, and their texts.
use Rattle.std.proofs.Common.{◌≡◌, ◌≢◌, ℕ, suc, ◌==◌, Bool, true, false, if◌then◌else◌, pos, negsuc, Option, Some, None, unwrap_or, List, [], ◌∷◌, ◌++◌, length, codes, refl, sym, ap, ap₂, subst, ◌∙◌}
use Rattle.std.specs.Option.{option_map}
use Rattle.std.proofs.lemmas.Bool.{false≢true, and_parts, eqb-true}
use Rattle.std.proofs.lemmas.Bool.Decides.{Decides-int_eq}
use Rattle.fy_base.specs.Outside.{Bytes}
use Rattle.fy_base.specs.declared.data.Place.{Place}
use Rattle.fy_base.specs.declared.data.Datum.TheVariants as datum
use Rattle.fy_base.specs.declared.data.UnOp.TheVariants as unary_op
use Rattle.fy_types.specs.declared.types.Atom.TheVariants as atom
use Rattle.fy_types.specs.Types.{PlainType, PlainTypes}
use Rattle.fy_lexer.specs.declared.token.Symbol.TheVariants as symbol
use Rattle.fy_syntax.specs.Ranges.{AreBytes}
use Rattle.fy_syntax.specs.Signs.{Level}
use Rattle.fy_phrase.specs.Tree as plain
use Rattle.fy_phrase.specs.Alike.{Alike, AllAlike, lifted}
use Rattle.fy_expand.specs.Core.{one_type, text_parts}
use Rattle.fy_expand.specs.Core as expanded
use Rattle.fy_expand.specs.Scope.{Scope, behind}
use Rattle.fy_short.specs.DataTexts.{string_text}
use Rattle.fy_show.specs.Entries.{Entry, Known}
use Rattle.fy_show.specs.Texts.{is_index, is_int_alone, parts_by_index, parts_count, is_minus_one, is_no_letter, is_empty_string, sequence_length, is_length, is_sequence, in_front, letters, sequence_text}
use Rattle.fy_again.specs.Phrases.{AreReadable}
use Rattle.fy_again.proofs.NamedLemmas.{int-is}
use Rattle.fy_again.proofs.PhraseLemmas.{ShowsPhrase}
use Rattle.fy_again.proofs.SequenceLemmas.{ShowsMany, shows_parts, shows_string, indexed_in}

-- ---- a merge that is a sequence

int_alone : (As : PlainTypes) → is_int_alone As ≡ true → As ≡ one_type atom.Int
int_alone PlainTypes.no_types h = absurd (false≢true h)
int_alone (PlainTypes.and_type A PlainTypes.no_types) h = ap (λ (X : PlainType). PlainTypes.and_type X PlainTypes.no_types) (int-is A h)
int_alone (PlainTypes.and_type A (PlainTypes.and_type B As)) h = absurd (false≢true h)

record IsIndex (e : plain.Tree) : Type 0 where
  at : Place
  is : e ≡ plain.Tree.var 0 at

index_is : (e : plain.Tree) → is_index e ≡ true → IsIndex e
index_is (plain.Tree.var n at) h = record { at = at; is = ap (λ k. plain.Tree.var k at) (eqb-true n 0 h) }
index_is e h = absurd (false≢true h)

record IsLengthOf (n : ℕ) (q : plain.Tree) : Type 0 where
  at : Place
  is : q ≡ plain.Tree.lit (datum.Int (pos n)) at

pub no_length : (q : plain.Tree) → is_length q None ≡ false
no_length (plain.Tree.lit (datum.Int z) at) = refl
no_length q = refl

length_is : (q : plain.Tree) (parts : plain.Trees) → is_length q (Some parts) ≡ true → IsLengthOf (sequence_length parts) q
length_is (plain.Tree.lit (datum.Int z) at) parts h =
    record { at = at; is = ap (λ k. plain.Tree.lit (datum.Int k) at) ((Decides-int_eq z (pos (sequence_length parts))).0 h) }
length_is q parts h = absurd (false≢true h)

-- the parts of such a merge
pub record IsIndexed (As : PlainTypes) (e : plain.Tree) (parts : plain.Trees) (q : plain.Tree) : Type 0 where
  pub types : As ≡ one_type atom.Int
  pub index_at : Place
  pub index : e ≡ plain.Tree.var 0 index_at
  pub length_at : Place
  pub field_at : Place
  pub length : q ≡ plain.Tree.field 0 (plain.Tree.lit (datum.Int (pos (sequence_length parts))) length_at) field_at

pub indexed_is : (d : ℕ) (As : PlainTypes) (e : plain.Tree) (parts : plain.Trees) (a c : Place) (q : plain.Tree) → is_sequence (plain.Tree.lam d As (plain.Tree.case e parts a) c) q ≡ true → IsIndexed As e parts q
indexed_is d As e parts a c (plain.Tree.field i r at) h =
    let two = and_parts (i == 0) (is_length r (parts_by_index (plain.Tree.lam d As (plain.Tree.case e parts a) c))) h in
    by (is_int_alone As) (is_index e) refl refl two.1 (eqb-true i 0 two.0)
  where
    by : (b k : Bool) → is_int_alone As ≡ b → is_index e ≡ k → is_length r (if b then (if k then Some parts else None) else None) ≡ true → i ≡ 0 → IsIndexed As e parts (plain.Tree.field i r at)
    by true true f g h zeroth =
        let x = index_is e g in
        let y = length_is r parts h in
        record {
          types = int_alone As f;
          index_at = x.at;
          index = x.is;
          length_at = y.at;
          field_at = at;
          length = ap₂ (λ (k : ℕ) (l : plain.Tree). plain.Tree.field k l at) zeroth y.is;
        }
    by true false f g h zeroth = absurd (false≢true (sym (no_length r) ∙ h))
    by false k f g h zeroth = absurd (false≢true (sym (no_length r) ∙ h))
indexed_is d As e parts a c q h = absurd (false≢true h)

-- ---- the parts of a string

some_same : {A : Type 0} (a b : A) → Some a ≡ Some b → a ≡ b
some_same a b e = cc

record InFront (o : Option Bytes) (c : ℕ) (bytes : Bytes) : Type 0 where
  rest : Bytes
  later : o ≡ Some rest
  is : bytes ≡ c ∷ rest

in_front_is : (o : Option Bytes) (c : ℕ) (bytes : Bytes) → in_front o c ≡ Some bytes → InFront o c bytes
in_front_is None c bytes h = absurd cc
in_front_is (Some rest) c bytes h = record { rest = rest; later = refl; is = sym (some_same (c ∷ rest) bytes h) }

record AreLetters (f : ℕ → ℕ) (parts : plain.Trees) (bytes : Bytes) : Type 0 where
  bytes_are : AreBytes bytes
  count : parts_count parts ≡ length bytes
  alike : (at : Place) → AllAlike f parts (expanded.letters at bytes)

letters_are : (f : ℕ → ℕ) (k : Known) (s : List Entry) (parts : plain.Trees) (bytes : Bytes) → AreReadable k s parts → letters parts ≡ Some bytes → AreLetters f parts bytes
letters_are f k s plain.Trees.no_trees bytes r h =
    subst (λ l. AreLetters f plain.Trees.no_trees l) (some_same [] bytes h) (record { bytes_are = tt; count = refl; alike = λ at. AllAlike.no_parts })
letters_are f k s (plain.Trees.and_tree (plain.Tree.lit (datum.Char c) here) more) bytes r h =
    let x = in_front_is (letters more) c bytes h in
    let y = letters_are f k s more x.rest r.1 x.later in
    subst (λ l. AreLetters f (plain.Trees.and_tree (plain.Tree.lit (datum.Char c) here) more) l) (sym x.is)
    (record { bytes_are = (r.0, y.bytes_are); count = ap suc y.count; alike = λ at. AllAlike.and_part Alike.lit (y.alike at) })
letters_are f k s (plain.Trees.and_tree p more) bytes r h = absurd cc

text_parts_are : (at : Place) (f : ℕ → ℕ) (parts : plain.Trees) (bytes : Bytes) → parts ≢ plain.Trees.no_trees → parts_count parts ≡ length bytes → AllAlike f parts (expanded.letters at bytes) →
    AllAlike f parts (text_parts at bytes)
text_parts_are at f plain.Trees.no_trees bytes some e h = absurd (some refl)
text_parts_are at f (plain.Trees.and_tree p more) [] some e h = elim h [ ]
text_parts_are at f (plain.Trees.and_tree p more) (b ∷ bytes) some e h = h

minus_one : (f : ℕ → ℕ) (at : Place) (p : plain.Tree) → is_minus_one p ≡ true → Alike f p (plain.Tree.lit (datum.Int (negsuc 0)) at)
minus_one f at (plain.Tree.lit (datum.Int z) here) h =
    subst (λ k. Alike f (plain.Tree.lit (datum.Int k) here) (plain.Tree.lit (datum.Int (negsuc 0)) at)) (sym ((Decides-int_eq z (negsuc 0)).0 h)) Alike.lit
minus_one f at p h = absurd (false≢true h)

no_letter : (f : ℕ → ℕ) (at : Place) (p : plain.Tree) → is_no_letter p ≡ true → Alike f p (plain.Tree.unary unary_op.Chr (plain.Tree.lit (datum.Int (negsuc 0)) at) at)
no_letter f at (plain.Tree.unary unary_op.Chr p here) h = Alike.unary (minus_one f at p h)
no_letter f at p h = absurd (false≢true h)

empty_parts : (f : ℕ → ℕ) (at : Place) (parts : plain.Trees) → is_empty_string parts ≡ true → AllAlike f parts (text_parts at [])
empty_parts f at plain.Trees.no_trees h = absurd (false≢true h)
empty_parts f at (plain.Trees.and_tree p plain.Trees.no_trees) h = AllAlike.and_part (no_letter f at p h) AllAlike.no_parts
empty_parts f at (plain.Trees.and_tree p (plain.Trees.and_tree q more)) h = absurd (false≢true h)

-- ---- the text

length_at : (parts : plain.Trees) (b : Bool) → is_empty_string parts ≡ b → sequence_length parts ≡ (if b then 0 else parts_count parts)
length_at parts b e = ap (λ c. if c then 0 else parts_count parts) e

-- a merge of an abstraction by an index and a field of its length
called_in : (d : ℕ) (As : PlainTypes) (e : plain.Tree) (parts : plain.Trees) (a c : Place) (q : plain.Tree) (at : Place) (x : IsIndexed As e parts q) →
    plain.Tree.merge (plain.Tree.lam d As (plain.Tree.case e parts a) c) q at ≡ indexed_in d parts (sequence_length parts) x.index_at a c x.length_at x.field_at at
called_in d As e parts a c q at x =
    ap (λ (Bs : PlainTypes). plain.Tree.merge (plain.Tree.lam d Bs (plain.Tree.case e parts a) c) q at) x.types
    ∙ (ap (λ (i : plain.Tree). plain.Tree.merge (plain.Tree.lam d (one_type atom.Int) (plain.Tree.case i parts a) c) q at) x.index
    ∙ ap (λ (l : plain.Tree). plain.Tree.merge (plain.Tree.lam d (one_type atom.Int) (plain.Tree.case (plain.Tree.var 0 x.index_at) parts a) c) l at) x.length)

-- the empty string
pub shows_empty : (names : List Bytes) (s : Scope) (v : ℕ → ℕ) (d : ℕ) (As : PlainTypes) (e : plain.Tree) (parts : plain.Trees) (a c : Place) (q : plain.Tree) (at : Place) (inside : Bytes) → IsIndexed As e parts q →
    is_empty_string parts ≡ true → ShowsPhrase names s v Level.primary (plain.Tree.merge (plain.Tree.lam d As (plain.Tree.case e parts a) c) q at) (sequence_text parts inside)
shows_empty names s v d As e parts a c q at inside x h =
    subst (λ (p : plain.Tree). ShowsPhrase names s v Level.primary p (sequence_text parts inside)) (sym (called_in d As e parts a c q at x))
    (subst (λ b. ShowsPhrase names s v Level.primary (indexed_in d parts (sequence_length parts) x.index_at a c x.length_at x.field_at at)
    (if b then string_text [] else unwrap_or (option_map string_text (letters parts)) (codes "seq(" ++ inside ++ codes ")"))) (sym h)
    (shows_string names s v parts [] d (sequence_length parts) x.index_at a c x.length_at x.field_at at tt (length_at parts true h) (λ here. empty_parts (lifted v) here parts h)))

-- another string, or `seq(..)`
pub shows_call : (names : List Bytes) (s : Scope) (v : ℕ → ℕ) (k : Known) (t : List Entry) (d : ℕ) (As : PlainTypes) (e : plain.Tree) (parts : plain.Trees) (a c : Place) (q : plain.Tree) (at : Place) (inside : Bytes) →
    IsIndexed As e parts q → is_empty_string parts ≡ false → parts ≢ plain.Trees.no_trees → AreReadable k t parts → ShowsMany symbol.Comma names (behind s) (lifted v) parts inside →
    ShowsPhrase names s v Level.primary (plain.Tree.merge (plain.Tree.lam d As (plain.Tree.case e parts a) c) q at) (sequence_text parts inside)
shows_call names s v k t d As e parts a c q at inside x h some r shown =
    subst (λ (p : plain.Tree). ShowsPhrase names s v Level.primary p (sequence_text parts inside)) (sym (called_in d As e parts a c q at x))
    (subst (λ b. ShowsPhrase names s v Level.primary whole
    (if b then string_text [] else unwrap_or (option_map string_text (letters parts)) (codes "seq(" ++ inside ++ codes ")"))) (sym h) (by (letters parts) refl))
  where
    whole : plain.Tree
    whole = indexed_in d parts (sequence_length parts) x.index_at a c x.length_at x.field_at at

    by : (o : Option Bytes) → letters parts ≡ o → ShowsPhrase names s v Level.primary whole (unwrap_or (option_map string_text o) (codes "seq(" ++ inside ++ codes ")"))
    by None e = shows_parts names s v parts d (sequence_length parts) x.index_at a c x.length_at x.field_at at inside (length_at parts false h) shown
    by (Some bytes) e =
        let y = letters_are (lifted v) k t parts bytes r e in
        shows_string names s v parts bytes d (sequence_length parts) x.index_at a c x.length_at x.field_at at y.bytes_are (length_at parts false h ∙ y.count)
        (λ here. text_parts_are here (lifted v) parts bytes some y.count (y.alike here))
