-- The names that are predefined for types.
use Rattle.std.proofs.Common.{◌≡◌, ℕ, Bool, true, false, ◌&&◌, ◌==◌, if◌then◌else◌, List, ◌++◌, codes, refl, sym, ap, ap₂, subst, ◌∙◌, Option, Some, None}
use Rattle.std.proofs.lemmas.Bool.{false≢true, and_parts, eqb-true}
use Rattle.fy_base.specs.Outside.{Bytes}
use Rattle.fy_types.specs.declared.types.Atom.{Atom}
use Rattle.fy_types.specs.declared.types.Atom.TheVariants as atoms
use Rattle.fy_types.specs.Names.{AreNames, first_names, has, number_of}
use Rattle.fy_types.specs.Types.{PlainType, PlainTypes}
use Rattle.fy_types.specs.Words.{is_identifier}
use Rattle.fy_types.proofs.NameLemmas.{with_name-old}
use Rattle.fy_lexer.specs.declared.token.TokenKind.TheVariants as kind
use Rattle.fy_lexer.specs.Spellings.{Spells}
use Rattle.fy_lexer.specs.Tokens.{names_past}
use Rattle.fy_expand.specs.Types.{predefined, sequence_of}
use Rattle.fy_short.specs.ShortTypes.{variable_name, sequence_name, is_int, is_length, meet_name, predefined_name}

-- the text is a predefined name of the type
pub record IsNameOf (names : List Bytes) (text : Bytes) (A : PlainType) : Type 0 where
  pub number : ℕ
  pub spelled : Spells names (kind.Ident number) text
  pub stays : names_past (kind.Ident number) text names ≡ names
  pub means : predefined number ≡ Some A

named : (names : List Bytes) → AreNames names → (text : Bytes) (n : ℕ) (A : PlainType) → is_identifier text ≡ true → ((later : List Bytes) → n ≡ number_of (first_names ++ later) text) →
    ((later : List Bytes) → has (first_names ++ later) text ≡ true) → predefined n ≡ Some A → IsNameOf names text A
named names are text n A word number there means = record {
  number = n;
  spelled = (word, number are.later ∙ sym (ap (λ l. number_of l text) are.begins));
  stays = with_name-old names text (ap (λ l. has l text) are.begins ∙ there are.later);
  means = means;
}

variable_named : (names : List Bytes) → AreNames names → (a b : Atom) (x : Bytes) → variable_name a b ≡ Some x →
    IsNameOf names x (PlainType.meet (PlainTypes.and_type (PlainType.atom a) (PlainTypes.and_type (PlainType.atom b) PlainTypes.no_types)))
variable_named names are atoms.Int atoms.IntAcc x e =
    let same : codes "intvar" ≡ x = cc in
    subst (λ y. IsNameOf names y (PlainType.meet (PlainTypes.and_type (PlainType.atom atoms.Int) (PlainTypes.and_type (PlainType.atom atoms.IntAcc) PlainTypes.no_types)))) same
    (named names are (codes "intvar") 5 _ refl (λ l. refl) (λ l. refl) refl)
variable_named names are atoms.Bool atoms.BoolAcc x e =
    let same : codes "boolvar" ≡ x = cc in
    subst (λ y. IsNameOf names y (PlainType.meet (PlainTypes.and_type (PlainType.atom atoms.Bool) (PlainTypes.and_type (PlainType.atom atoms.BoolAcc) PlainTypes.no_types)))) same
    (named names are (codes "boolvar") 6 _ refl (λ l. refl) (λ l. refl) refl)
variable_named names are atoms.Char atoms.CharAcc x e =
    let same : codes "charvar" ≡ x = cc in
    subst (λ y. IsNameOf names y (PlainType.meet (PlainTypes.and_type (PlainType.atom atoms.Char) (PlainTypes.and_type (PlainType.atom atoms.CharAcc) PlainTypes.no_types)))) same
    (named names are (codes "charvar") 7 _ refl (λ l. refl) (λ l. refl) refl)
variable_named names are a b x e = absurd cc

sequence_named : (names : List Bytes) → AreNames names → (B : PlainType) (x : Bytes) → sequence_name B ≡ Some x → IsNameOf names x (sequence_of B)
sequence_named names are (PlainType.atom atoms.Int) x e =
    let same : codes "intseq" ≡ x = cc in
    subst (λ y. IsNameOf names y (sequence_of (PlainType.atom atoms.Int))) same (named names are (codes "intseq") 8 _ refl (λ l. refl) (λ l. refl) refl)
sequence_named names are (PlainType.atom atoms.Bool) x e =
    let same : codes "boolseq" ≡ x = cc in
    subst (λ y. IsNameOf names y (sequence_of (PlainType.atom atoms.Bool))) same (named names are (codes "boolseq") 9 _ refl (λ l. refl) (λ l. refl) refl)
sequence_named names are (PlainType.atom atoms.Char) x e =
    let same : codes "charseq" ≡ x = cc in
    subst (λ y. IsNameOf names y (sequence_of (PlainType.atom atoms.Char))) same (named names are (codes "charseq") 10 _ refl (λ l. refl) (λ l. refl) refl)
sequence_named names are B x e = absurd cc

pub int-is : (A : PlainType) → is_int A ≡ true → A ≡ PlainType.atom atoms.Int
int-is (PlainType.atom atoms.Int) h = refl
int-is A h = absurd (false≢true h)

length-is : (C : PlainType) → is_length C ≡ true → C ≡ PlainType.field 0 (PlainType.atom atoms.Int)
length-is (PlainType.field i D) h =
    let p = and_parts (i == 0) (is_int D) h in ap₂ (λ (j : ℕ) (E : PlainType). PlainType.field j E) (eqb-true i 0 p.0) (int-is D p.1)
length-is C h = absurd (false≢true h)

chosen : (b : Bool) (o : Option Bytes) (x : Bytes) → (if b then o else None) ≡ Some x → (b ≡ true) × (o ≡ Some x)
chosen true o x e = (refl, e)
chosen false o x e = absurd cc

meet_named : (names : List Bytes) → AreNames names → (A C : PlainType) (x : Bytes) → meet_name A C ≡ Some x →
    IsNameOf names x (PlainType.meet (PlainTypes.and_type A (PlainTypes.and_type C PlainTypes.no_types)))
meet_named names are (PlainType.atom a) (PlainType.atom b) x e = variable_named names are a b x e
meet_named names are (PlainType.arrow A B) C x e =
    let c = chosen (is_int A && is_length C) (sequence_name B) x e in
    let p = and_parts (is_int A) (is_length C) c.0 in
    subst (λ (X : PlainType). IsNameOf names x (PlainType.meet (PlainTypes.and_type (PlainType.arrow X B) (PlainTypes.and_type C PlainTypes.no_types)))) (sym (int-is A p.0))
    (subst (λ (Y : PlainType). IsNameOf names x (PlainType.meet (PlainTypes.and_type (PlainType.arrow (PlainType.atom atoms.Int) B) (PlainTypes.and_type Y PlainTypes.no_types)))) (sym (length-is C p.1))
    (sequence_named names are B x c.1))
meet_named names are A C x e = absurd cc

pub predefined_named : (names : List Bytes) → AreNames names → (As : PlainTypes) (x : Bytes) → predefined_name As ≡ Some x → IsNameOf names x (PlainType.meet As)
predefined_named names are (PlainTypes.and_type A (PlainTypes.and_type B PlainTypes.no_types)) x e = meet_named names are A B x e
predefined_named names are As x e = absurd cc
