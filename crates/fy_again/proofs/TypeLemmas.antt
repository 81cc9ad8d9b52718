-- Texts of types by their parts: how they are read, and what their tokens spell.
use Rattle.std.proofs.Common.{◌≡◌, ℕ, Option, None, is_none, List, [], ◌∷◌, ◌++◌, codes, refl, sym, ap, ap₂, subst, ◌∙◌, append_assoc, Some}
use Rattle.fy_base.specs.Outside.{Bytes}
use Rattle.fy_base.specs.declared.data.Place.{Place}
use Rattle.fy_types.specs.declared.types.Atom.{Atom}
use Rattle.fy_types.specs.declared.types.Atom.TheVariants as atoms
use Rattle.fy_types.specs.Print.{atom_text, name_text}
use Rattle.fy_types.specs.Types.{PlainType, PlainTypes}
use Rattle.fy_lexer.specs.declared.token.Token.{Token}
use Rattle.fy_lexer.specs.declared.token.TokenKind.{TokenKind}
use Rattle.fy_lexer.specs.declared.token.TokenKind.TheVariants as kind
use Rattle.fy_lexer.specs.declared.token.Keyword.TheVariants as word
use Rattle.fy_lexer.specs.declared.token.Symbol.TheVariants as symbol
use Rattle.fy_lexer.specs.Spellings.{Spells}
use Rattle.fy_lexer.specs.Tokens.{names_past}
use Rattle.fy_lexer.specs.Again.{kinds}
use Rattle.fy_lexer.proofs.OverLemmas.{blank-ends, close-ends}
use Rattle.fy_syntax.specs.Trees.{TypeTree, TypeTrees}
use Rattle.fy_syntax.specs.Signs.{TypeLevel, token, front, atom_word}
use Rattle.fy_syntax.specs.Spells.{SpellsType, MoreTypes, Fields, meet_of}
use Rattle.fy_syntax.specs.Printing.{IsIdentifierNumber}
use Rattle.fy_syntax.proofs.KindTexts.{word_text, spelled, names_stay}
use Rattle.fy_expand.specs.declared.error.ExpandError.TheVariants.{UnknownType}
use Rattle.fy_expand.specs.Faults.{unknown, all_unknown}
use Rattle.fy_expand.specs.Types.{type_of, types_of, named_type, predefined}
use Rattle.fy_again.proofs.FaultLemmas.{both_fine, test_fine}
use Rattle.fy_again.proofs.EndLemmas.{Follows, longest, open-longest, colon-longest}
use Rattle.fy_again.proofs.ReadLemmas.{Reads, reads_blank, reads_token, reads_same, peel}

-- tokens spell a type that means this one, and tokens of those kinds are left
pub record SpelledAs (l : TypeLevel) (A : PlainType) (us : List Token) (ks : List TokenKind) : Type 0 where
  pub tree : TypeTree
  pub rest : List Token
  pub spells : SpellsType l tree us rest
  pub left : kinds rest ≡ ks
  pub means : type_of predefined tree ≡ A
  pub known : None ≡ unknown predefined tree

-- the text shows the type at that level: it is read as tokens of some kinds, and such tokens spell the type
pub record Shows (names : List Bytes) (l : TypeLevel) (A : PlainType) (text : Bytes) : Type 0 where
  pub own : List TokenKind
  pub reads : (rest : Bytes) (ks : List TokenKind) → Follows rest → Reads names rest ks → Reads names (text ++ rest) (own ++ ks)
  pub taken : (us : List Token) (ks : List TokenKind) → kinds us ≡ own ++ ks → SpelledAs l A us ks

-- ---- levels

pub at_field : {names : List Bytes} {A : PlainType} {text : Bytes} → Shows names TypeLevel.primary A text → Shows names TypeLevel.field A text
at_field s = record {
  own = s.own;
  reads = s.reads;
  taken = λ us ks e. let x = s.taken us ks e in record { tree = x.tree; rest = x.rest; spells = SpellsType.field {names = []} {a = x.tree} {ts = us} {m = us} {r = x.rest} Fields.no_fields x.spells; left = x.left; means = x.means; known = x.known };
}

pub at_inter : {names : List Bytes} {A : PlainType} {text : Bytes} → Shows names TypeLevel.field A text → Shows names TypeLevel.inter A text
at_inter s = record {
  own = s.own;
  reads = s.reads;
  taken = λ us ks e. let x = s.taken us ks e in record { tree = x.tree; rest = x.rest; spells = SpellsType.inter {a = x.tree} {more = TypeTrees.no_types} {ts = us} {m = x.rest} {r = x.rest} x.spells MoreTypes.no_types; left = x.left; means = x.means; known = x.known };
}

pub at_type : {names : List Bytes} {A : PlainType} {text : Bytes} → Shows names TypeLevel.inter A text → Shows names TypeLevel.type A text
at_type s = record {
  own = s.own;
  reads = s.reads;
  taken = λ us ks e. let x = s.taken us ks e in record { tree = x.tree; rest = x.rest; spells = SpellsType.no_arrow x.spells; left = x.left; means = x.means; known = x.known };
}

-- ---- one token

open_spelled : (names : List Bytes) → Spells names (kind.Sym symbol.OpenParen) (40 ∷ [])
open_spelled names = spelled names (kind.Sym symbol.OpenParen) tt tt

close_spelled : (names : List Bytes) → Spells names (kind.Sym symbol.CloseParen) (41 ∷ [])
close_spelled names = spelled names (kind.Sym symbol.CloseParen) tt tt

arrow_spelled : (names : List Bytes) → Spells names (kind.Sym symbol.Arrow) (45 ∷ 62 ∷ [])
arrow_spelled names = spelled names (kind.Sym symbol.Arrow) tt tt

colon_spelled : (names : List Bytes) → Spells names (kind.Sym symbol.Colon) (58 ∷ [])
colon_spelled names = spelled names (kind.Sym symbol.Colon) tt tt

ampersand_spelled : (names : List Bytes) → Spells names (kind.Sym symbol.Ampersand) (38 ∷ [])
ampersand_spelled names = spelled names (kind.Sym symbol.Ampersand) tt tt

pub shows_ns : (names : List Bytes) → Shows names TypeLevel.primary PlainType.ns (codes "ns")
shows_ns names =
    let sp = spelled names (kind.Word word.Ns) tt tt in
    record {
      own = kind.Word word.Ns ∷ [];
      reads = λ rest ks f r. reads_token names (kind.Word word.Ns) (codes "ns") rest ks sp refl (longest names (kind.Word word.Ns) (codes "ns") rest sp f) r;
      taken = λ us ks e.
          let p = peel us (kind.Word word.Ns) ks e in
          record {
            tree = TypeTree.ns p.place;
            rest = p.rest;
            spells = subst (λ l. SpellsType TypeLevel.primary (TypeTree.ns p.place) l p.rest) (sym p.is) SpellsType.ns;
            left = p.left;
            means = refl;
            known = refl;
          };
    }

word_of_atom : (a : Atom) → word_text (atom_word a) ≡ atom_text a
word_of_atom = elim [
  | atoms.Int ↦ refl
  | atoms.Bool ↦ refl
  | atoms.Char ↦ refl
  | atoms.Comm ↦ refl
  | atoms.Compl ↦ refl
  | atoms.IntAcc ↦ refl
  | atoms.BoolAcc ↦ refl
  | atoms.CharAcc ↦ refl
]

pub shows_atom : (names : List Bytes) (a : Atom) → Shows names TypeLevel.primary (PlainType.atom a) (atom_text a)
shows_atom names a =
    let sp : Spells names (kind.Word (atom_word a)) (atom_text a) = subst (λ t. Spells names (kind.Word (atom_word a)) t) (word_of_atom a) (spelled names (kind.Word (atom_word a)) tt tt) in
    record {
      own = kind.Word (atom_word a) ∷ [];
      reads = λ rest ks f r. reads_token names (kind.Word (atom_word a)) (atom_text a) rest ks sp refl (longest names (kind.Word (atom_word a)) (atom_text a) rest sp f) r;
      taken = λ us ks e.
          let p = peel us (kind.Word (atom_word a)) ks e in
          record {
            tree = TypeTree.atom a p.place;
            rest = p.rest;
            spells = subst (λ l. SpellsType TypeLevel.primary (TypeTree.atom a p.place) l p.rest) (sym p.is) SpellsType.atom;
            left = p.left;
            means = refl;
            known = refl;
          };
    }

-- a name that is predefined
pub shows_named : (names : List Bytes) (A : PlainType) (text : Bytes) (n : ℕ) → Spells names (kind.Ident n) text → names_past (kind.Ident n) text names ≡ names → predefined n ≡ Some A →
    Shows names TypeLevel.primary A text
shows_named names A text n sp stays is = record {
  own = kind.Ident n ∷ [];
  reads = λ rest ks f r. reads_token names (kind.Ident n) text rest ks sp stays (longest names (kind.Ident n) text rest sp f) r;
  taken = λ us ks e.
      let p = peel us (kind.Ident n) ks e in
      record {
        tree = TypeTree.ident n p.place;
        rest = p.rest;
        spells = subst (λ l. SpellsType TypeLevel.primary (TypeTree.ident n p.place) l p.rest) (sym p.is) SpellsType.ident;
        left = p.left;
        means = ap named_type is;
        known = test_fine (is_none (predefined n)) (UnknownType p.place) (ap (λ (o : Option PlainType). is_none o) is);
      };
}

-- ---- parts

pub shows_group : (names : List Bytes) (A : PlainType) (text : Bytes) → Shows names TypeLevel.type A text → Shows names TypeLevel.primary A (codes "(" ++ text ++ codes ")")
shows_group names A text s =
    record {
      own = kind.Sym symbol.OpenParen ∷ (s.own ++ kind.Sym symbol.CloseParen ∷ []);
      reads = λ rest ks f r.
          let closed = reads_token names (kind.Sym symbol.CloseParen) (41 ∷ []) rest ks (close_spelled names) refl (longest names (kind.Sym symbol.CloseParen) (41 ∷ []) rest (close_spelled names) f) r in
          let inside = s.reads (41 ∷ rest) (kind.Sym symbol.CloseParen ∷ ks) (Follows.ending close-ends) closed in
          let opened = reads_token names (kind.Sym symbol.OpenParen) (40 ∷ []) (text ++ 41 ∷ rest) (s.own ++ kind.Sym symbol.CloseParen ∷ ks) (open_spelled names) refl (open-longest (text ++ 41 ∷ rest)) inside in
          reads_same names (40 ∷ (text ++ 41 ∷ rest)) (40 ∷ ((text ++ 41 ∷ []) ++ rest)) _ _
          (ap (λ l. 40 ∷ l) (sym (append_assoc text (41 ∷ []) rest)))
          (ap (λ l. kind.Sym symbol.OpenParen ∷ l) (sym (append_assoc s.own (kind.Sym symbol.CloseParen ∷ []) ks)))
          opened;
      taken = λ us ks e.
          let p = peel us (kind.Sym symbol.OpenParen) ((s.own ++ kind.Sym symbol.CloseParen ∷ []) ++ ks) e in
          let x = s.taken p.rest (kind.Sym symbol.CloseParen ∷ ks) (p.left ∙ append_assoc s.own (kind.Sym symbol.CloseParen ∷ []) ks) in
          let q = peel x.rest (kind.Sym symbol.CloseParen) ks x.left in
          record {
            tree = TypeTree.group x.tree p.place;
            rest = q.rest;
            spells =
                subst (λ l. SpellsType TypeLevel.primary (TypeTree.group x.tree p.place) l q.rest) (sym p.is)
                (SpellsType.group (subst (λ l. SpellsType TypeLevel.type x.tree p.rest l) q.is x.spells));
            left = q.left;
            means = x.means;
            known = x.known;
          };
    }

pub shows_arrow : (names : List Bytes) (A B : PlainType) (a b : Bytes) → Shows names TypeLevel.primary A a → Shows names TypeLevel.type B b →
    Shows names TypeLevel.type (PlainType.arrow A B) (a ++ codes " -> " ++ b)
unfolding at_inter at_field
shows_arrow names A B a b s t =
    let domain = at_inter (at_field s) in
    record {
      own = s.own ++ kind.Sym symbol.Arrow ∷ t.own;
      reads = λ rest ks f r.
          let behind = reads_blank names (b ++ rest) (t.own ++ ks) (t.reads rest ks f r) in
          let arrow =
          reads_token names (kind.Sym symbol.Arrow) (45 ∷ 62 ∷ []) (32 ∷ (b ++ rest)) (t.own ++ ks) (arrow_spelled names) refl
          (longest names (kind.Sym symbol.Arrow) (45 ∷ 62 ∷ []) (32 ∷ (b ++ rest)) (arrow_spelled names) (Follows.ending blank-ends)) behind in
          let earlier = reads_blank names (45 ∷ 62 ∷ 32 ∷ (b ++ rest)) (kind.Sym symbol.Arrow ∷ (t.own ++ ks)) arrow in
          reads_same names (a ++ 32 ∷ 45 ∷ 62 ∷ 32 ∷ (b ++ rest)) ((a ++ codes " -> " ++ b) ++ rest) _ _
          (sym (append_assoc (a ++ codes " -> ") b rest ∙ append_assoc a (codes " -> ") (b ++ rest))) (sym (append_assoc s.own (kind.Sym symbol.Arrow ∷ t.own) ks))
          (s.reads (32 ∷ 45 ∷ 62 ∷ 32 ∷ (b ++ rest)) (kind.Sym symbol.Arrow ∷ (t.own ++ ks)) (Follows.ending blank-ends) earlier);
      taken = λ us ks e.
          let x = domain.taken us (kind.Sym symbol.Arrow ∷ (t.own ++ ks)) (e ∙ append_assoc s.own (kind.Sym symbol.Arrow ∷ t.own) ks) in
          let p = peel x.rest (kind.Sym symbol.Arrow) (t.own ++ ks) x.left in
          let y = t.taken p.rest ks p.left in
          record {
            tree = TypeTree.arrow x.tree y.tree (front us);
            rest = y.rest;
            spells = SpellsType.arrow (subst (λ l. SpellsType TypeLevel.inter x.tree us l) p.is x.spells) y.spells;
            left = y.left;
            means = ap₂ (λ (X Y : PlainType). PlainType.arrow X Y) x.means y.means;
            known = both_fine _ _ x.known y.known;
          };
    }

pub shows_field : (names : List Bytes) (i : ℕ) (A : PlainType) (a : Bytes) → IsIdentifierNumber names i → Shows names TypeLevel.primary A a →
    Shows names TypeLevel.field (PlainType.field i A) (name_text names i ++ codes ": " ++ a)
shows_field names i A a known s =
    let sp = spelled names (kind.Ident i) known tt in
    record {
      own = kind.Ident i ∷ kind.Sym symbol.Colon ∷ s.own;
      reads = λ rest ks f r.
          let behind = reads_blank names (a ++ rest) (s.own ++ ks) (s.reads rest ks f r) in
          let colon =
          reads_token names (kind.Sym symbol.Colon) (58 ∷ []) (32 ∷ (a ++ rest)) (s.own ++ ks) (colon_spelled names) refl
          (longest names (kind.Sym symbol.Colon) (58 ∷ []) (32 ∷ (a ++ rest)) (colon_spelled names) (Follows.ending blank-ends)) behind in
          let name =
          reads_token names (kind.Ident i) (name_text names i) (58 ∷ 32 ∷ (a ++ rest)) (kind.Sym symbol.Colon ∷ (s.own ++ ks)) sp (names_stay names (kind.Ident i) known)
          (colon-longest names i (name_text names i) (32 ∷ (a ++ rest)) sp) colon in
          reads_same names (name_text names i ++ 58 ∷ 32 ∷ (a ++ rest)) ((name_text names i ++ codes ": " ++ a) ++ rest) _ _
          (sym (append_assoc (name_text names i ++ codes ": ") a rest ∙ append_assoc (name_text names i) (codes ": ") (a ++ rest))) refl name;
      taken = λ us ks e.
          let p = peel us (kind.Ident i) (kind.Sym symbol.Colon ∷ (s.own ++ ks)) e in
          let q = peel p.rest (kind.Sym symbol.Colon) (s.own ++ ks) p.left in
          let x = s.taken q.rest ks q.left in
          let is : us ≡ token (kind.Ident i) p.place ∷ token (kind.Sym symbol.Colon) q.place ∷ q.rest = p.is ∙ ap (λ l. token (kind.Ident i) p.place ∷ l) q.is in
          record {
            tree = TypeTree.field (i ∷ []) x.tree p.place;
            rest = x.rest;
            spells =
                subst (λ l. SpellsType TypeLevel.field (TypeTree.field (i ∷ []) x.tree p.place) l x.rest) (sym is)
                (SpellsType.field {names = i ∷ []} {a = x.tree} {ts = token (kind.Ident i) p.place ∷ token (kind.Sym symbol.Colon) q.place ∷ q.rest} {m = q.rest} {r = x.rest}
                (Fields.and_field {n = i} {names = []} {ts = q.rest} {r = q.rest} {p = p.place} {q = q.place} Fields.no_fields) x.spells);
            left = x.left;
            means = ap (λ (X : PlainType). PlainType.field i X) x.means;
            known = x.known;
          };
    }

-- ---- members of a meet

pub record MoreSpelledAs (As : PlainTypes) (us : List Token) (ks : List TokenKind) : Type 0 where
  pub types : TypeTrees
  pub rest : List Token
  pub spells : MoreTypes symbol.Ampersand TypeLevel.field types us rest
  pub left : kinds rest ≡ ks
  pub means : types_of predefined types ≡ As
  pub known : None ≡ all_unknown predefined types

-- the text shows further members, each behind ` & `
pub record ShowsMore (names : List Bytes) (As : PlainTypes) (text : Bytes) : Type 0 where
  pub own : List TokenKind
  pub follows : (rest : Bytes) → Follows rest → Follows (text ++ rest)
  pub reads : (rest : Bytes) (ks : List TokenKind) → Follows rest → Reads names rest ks → Reads names (text ++ rest) (own ++ ks)
  pub taken : (us : List Token) (ks : List TokenKind) → kinds us ≡ own ++ ks → MoreSpelledAs As us ks

pub shows_none : (names : List Bytes) → ShowsMore names PlainTypes.no_types []
shows_none names = record {
  own = [];
  follows = λ rest f. f;
  reads = λ rest ks f r. r;
  taken = λ us ks e. record { types = TypeTrees.no_types; rest = us; spells = MoreTypes.no_types; left = e; means = refl; known = refl };
}

pub shows_more : (names : List Bytes) (A : PlainType) (As : PlainTypes) (a more : Bytes) → Shows names TypeLevel.primary A a → ShowsMore names As more →
    ShowsMore names (PlainTypes.and_type A As) (codes " & " ++ a ++ more)
unfolding at_field
shows_more names A As a more s t =
    let part = at_field s in
    record {
      own = kind.Sym symbol.Ampersand ∷ (s.own ++ t.own);
      follows = λ rest f. Follows.ending blank-ends;
      reads = λ rest ks f r.
          let later = t.reads rest ks f r in
          let here = s.reads (more ++ rest) (t.own ++ ks) (t.follows rest f) later in
          let behind = reads_blank names (a ++ (more ++ rest)) (s.own ++ (t.own ++ ks)) here in
          let sign =
          reads_token names (kind.Sym symbol.Ampersand) (38 ∷ []) (32 ∷ (a ++ (more ++ rest))) (s.own ++ (t.own ++ ks)) (ampersand_spelled names) refl
          (longest names (kind.Sym symbol.Ampersand) (38 ∷ []) (32 ∷ (a ++ (more ++ rest))) (ampersand_spelled names) (Follows.ending blank-ends)) behind in
          reads_same names (32 ∷ 38 ∷ 32 ∷ (a ++ (more ++ rest))) (32 ∷ 38 ∷ 32 ∷ ((a ++ more) ++ rest)) _ _
          (ap (λ l. 32 ∷ 38 ∷ 32 ∷ l) (sym (append_assoc a more rest))) (ap (λ l. kind.Sym symbol.Ampersand ∷ l) (sym (append_assoc s.own t.own ks)))
          (reads_blank names (38 ∷ 32 ∷ (a ++ (more ++ rest))) (kind.Sym symbol.Ampersand ∷ (s.own ++ (t.own ++ ks))) sign);
      taken = λ us ks e.
          let p = peel us (kind.Sym symbol.Ampersand) ((s.own ++ t.own) ++ ks) e in
          let x = part.taken p.rest (t.own ++ ks) (p.left ∙ append_assoc s.own t.own ks) in
          let y = t.taken x.rest ks x.left in
          record {
            types = TypeTrees.and_type x.tree y.types;
            rest = y.rest;
            spells =
                subst (λ l. MoreTypes symbol.Ampersand TypeLevel.field (TypeTrees.and_type x.tree y.types) l y.rest) (sym p.is)
                (MoreTypes.and_type x.spells y.spells);
            left = y.left;
            means = ap₂ (λ (X : PlainType) (Y : PlainTypes). PlainTypes.and_type X Y) x.means y.means;
            known = both_fine _ _ x.known y.known;
          };
    }

meet-means : (a : TypeTree) (more : TypeTrees) (at : Place) (A B : PlainType) (As : PlainTypes) → type_of predefined a ≡ A → types_of predefined more ≡ PlainTypes.and_type B As →
    type_of predefined (meet_of a more at) ≡ PlainType.meet (PlainTypes.and_type A (PlainTypes.and_type B As))
meet-means a TypeTrees.no_types at A B As e f = absurd cc
meet-means a (TypeTrees.and_type b more) at A B As e f = ap₂ (λ (X : PlainType) (Y : PlainTypes). PlainType.meet (PlainTypes.and_type X Y)) e f

meet-known : (a : TypeTree) (more : TypeTrees) (at : Place) → None ≡ unknown predefined a → None ≡ all_unknown predefined more → None ≡ unknown predefined (meet_of a more at)
meet-known a TypeTrees.no_types at h g = h
meet-known a (TypeTrees.and_type b more) at h g = both_fine _ _ h g

pub shows_meet : (names : List Bytes) (A B : PlainType) (As : PlainTypes) (a more : Bytes) → Shows names TypeLevel.primary A a → ShowsMore names (PlainTypes.and_type B As) more →
    Shows names TypeLevel.inter (PlainType.meet (PlainTypes.and_type A (PlainTypes.and_type B As))) (a ++ more)
unfolding at_field
shows_meet names A B As a more s t =
    let part = at_field s in
    record {
      own = s.own ++ t.own;
      reads = λ rest ks f r.
          reads_same names (a ++ (more ++ rest)) ((a ++ more) ++ rest) _ _ (sym (append_assoc a more rest)) (sym (append_assoc s.own t.own ks))
          (s.reads (more ++ rest) (t.own ++ ks) (t.follows rest f) (t.reads rest ks f r));
      taken = λ us ks e.
          let x = part.taken us (t.own ++ ks) (e ∙ append_assoc s.own t.own ks) in
          let y = t.taken x.rest ks x.left in
          record {
            tree = meet_of x.tree y.types (front us);
            rest = y.rest;
            spells = SpellsType.inter {a = x.tree} {more = y.types} {ts = us} {m = x.rest} {r = y.rest} x.spells y.spells;
            left = y.left;
            means = meet-means x.tree y.types (front us) A B As x.means y.means;
            known = meet-known x.tree y.types (front us) x.known y.known;
          };
    }
