-- Texts of forms that bind one name.
use Rattle.std.proofs.Common.{◌≡◌, ℕ, suc, ◌≤◌, nat_lt, false, None, IsTrue, List, [], ◌∷◌, ◌++◌, codes, refl, sym, ap, ap₂, subst, ◌∙◌, append_assoc}
use Rattle.std.proofs.lemmas.Bool.{le-ltb}
use Rattle.fy_base.specs.Outside.{Bytes}
use Rattle.fy_base.specs.declared.data.Place.{Place}
use Rattle.fy_types.specs.declared.types.Atom.{Atom}
use Rattle.fy_types.specs.declared.types.Atom.TheVariants as atom
use Rattle.fy_types.specs.Names.{number_of}
use Rattle.fy_types.specs.Types.{PlainType, PlainTypes}
use Rattle.fy_types.proofs.NameLemmas.{with_name-old}
use Rattle.fy_lexer.specs.declared.token.Token.{Token}
use Rattle.fy_lexer.specs.declared.token.TokenKind.{TokenKind}
use Rattle.fy_lexer.specs.declared.token.TokenKind.TheVariants as kind
use Rattle.fy_lexer.specs.declared.token.Keyword.TheVariants as word
use Rattle.fy_lexer.specs.declared.token.Symbol.TheVariants as symbol
use Rattle.fy_lexer.specs.Again.{kinds}
use Rattle.fy_lexer.specs.Spellings.{Spells}
use Rattle.fy_lexer.proofs.OverLemmas.{blank-ends}
use Rattle.fy_syntax.specs.Trees.{Tree, TypeTree, TypeTrees, Defs}
use Rattle.fy_syntax.specs.Signs.{Level, TypeLevel, token, word_at, symbol_at, ident_at, atom_word, is_data}
use Rattle.fy_syntax.specs.Spells.{SpellsBefore, SpellsType, MoreTypes, MoreDefs}
use Rattle.fy_syntax.proofs.KindTexts.{spelled, word_text}
use Rattle.fy_phrase.specs.declared.phrase.DataTy.{DataTy}
use Rattle.fy_phrase.specs.declared.phrase.DataTy.TheVariants as data_type
use Rattle.fy_phrase.specs.Tree as plain
use Rattle.fy_phrase.specs.Alike.{Alike, lifted}
use Rattle.fy_phrase.specs.CoreLimits.{types_count as plain_count}
use Rattle.fy_expand.specs.declared.error.ExpandError.TheVariants.{TooManyAlternatives, TypeTooLarge}
use Rattle.fy_expand.specs.Core.{core, data_of}
use Rattle.fy_expand.specs.Faults.{unknown, type_fault, types_fault, types_count}
use Rattle.fy_expand.specs.Scope.{Scope, under}
use Rattle.fy_expand.specs.Types.{predefined, type_of, types_of, type_front, is_large_type}
use Rattle.fy_short.specs.DataTexts.{data_word}
use Rattle.fy_again.proofs.FaultLemmas.{both_fine, test_fine, same_under}
use Rattle.fy_again.proofs.EndLemmas.{Follows, dot-longest, backslash-longest, colon-longest}
use Rattle.fy_again.proofs.FormLemmas.{reads_symbol}
use Rattle.fy_again.proofs.PhraseLemmas.{IsShown, ShowsPhrase, dot-ends, grouped_three, grouped_five, reads_name, reads_word}
use Rattle.fy_again.proofs.ReadLemmas.{Reads, reads_blank, reads_token, reads_same, peel}
use Rattle.fy_again.proofs.TypeLemmas.{Shows}

-- ---- the alternatives of an abstraction

-- tokens spell alternatives that mean these types
pub record SpelledAlternatives (As : PlainTypes) (us : List Token) (ks : List TokenKind) : Type 0 where
  pub type : TypeTree
  pub more : TypeTrees
  pub middle : List Token
  pub rest : List Token
  pub first : SpellsType TypeLevel.type type us middle
  pub others : MoreTypes symbol.Bar TypeLevel.type more middle rest
  pub left : kinds rest ≡ ks
  pub means : types_of predefined (TypeTrees.and_type type more) ≡ As
  pub fine : None ≡ types_fault predefined (TypeTrees.and_type type more)
  pub count : types_count (TypeTrees.and_type type more) ≡ plain_count As

pub record ShowsAlternatives (names : List Bytes) (As : PlainTypes) (text : Bytes) : Type 0 where
  pub own : List TokenKind
  pub reads : (rest : Bytes) (ks : List TokenKind) → Follows rest → Reads names rest ks → Reads names (text ++ rest) (own ++ ks)
  pub taken : (us : List Token) (ks : List TokenKind) → kinds us ≡ own ++ ks → SpelledAlternatives As us ks

-- a type that isn't too large
pub small_type : (A : PlainType) (tree : TypeTree) → is_large_type A ≡ false → type_of predefined tree ≡ A → None ≡ unknown predefined tree → None ≡ type_fault predefined tree
small_type A tree small same known =
    both_fine _ _ known (test_fine (is_large_type (type_of predefined tree)) (TypeTooLarge (type_front tree)) (ap (λ (X : PlainType). is_large_type X) same ∙ small))

pub shows_alternative : (names : List Bytes) (A : PlainType) (text : Bytes) → is_large_type A ≡ false → Shows names TypeLevel.type A text → ShowsAlternatives names (PlainTypes.and_type A PlainTypes.no_types) text
shows_alternative names A text small h = record {
  own = h.own;
  reads = h.reads;
  taken = λ us ks e.
      let x = h.taken us ks e in
      record {
        type = x.tree;
        more = TypeTrees.no_types;
        middle = x.rest;
        rest = x.rest;
        first = x.spells;
        others = MoreTypes.no_types;
        left = x.left;
        means = ap (λ (X : PlainType). PlainTypes.and_type X PlainTypes.no_types) x.means;
        fine = both_fine _ _ (small_type A x.tree small x.means x.known) refl;
        count = refl;
      };
}

-- `A | ..`
pub shows_alternatives : (names : List Bytes) (A : PlainType) (As : PlainTypes) (one two : Bytes) → is_large_type A ≡ false → Shows names TypeLevel.type A one → ShowsAlternatives names As two →
    ShowsAlternatives names (PlainTypes.and_type A As) ((one ++ codes " | ") ++ two)
shows_alternatives names A As one two small h g = record {
  own = h.own ++ kind.Sym symbol.Bar ∷ g.own;
  reads = λ rest ks f r.
      let sign = reads_symbol names symbol.Bar (two ++ rest) (g.own ++ ks) (g.reads rest ks f r) in
      reads_same names (one ++ (codes " | " ++ (two ++ rest))) (((one ++ codes " | ") ++ two) ++ rest) _ _ (sym (grouped_three one (codes " | ") two rest))
      (sym (append_assoc h.own (kind.Sym symbol.Bar ∷ g.own) ks))
      (h.reads (codes " | " ++ (two ++ rest)) (kind.Sym symbol.Bar ∷ (g.own ++ ks)) (Follows.ending blank-ends)
      (reads_blank names (codes "| " ++ (two ++ rest)) (kind.Sym symbol.Bar ∷ (g.own ++ ks)) sign));
  taken = λ us ks e.
      let x = h.taken us (kind.Sym symbol.Bar ∷ (g.own ++ ks)) (e ∙ append_assoc h.own (kind.Sym symbol.Bar ∷ g.own) ks) in
      let o = peel x.rest (kind.Sym symbol.Bar) (g.own ++ ks) x.left in
      let y = g.taken o.rest ks o.left in
      record {
        type = x.tree;
        more = TypeTrees.and_type y.type y.more;
        middle = symbol_at symbol.Bar o.place ∷ o.rest;
        rest = y.rest;
        first = subst (λ l. SpellsType TypeLevel.type x.tree us l) o.is x.spells;
        others = MoreTypes.and_type y.first y.others;
        left = y.left;
        means = ap₂ (λ (X : PlainType) (Y : PlainTypes). PlainTypes.and_type X Y) x.means y.means;
        fine = both_fine _ _ (small_type A x.tree small x.means x.known) y.fine;
        count = ap suc y.count;
      };
}

-- ---- names before a colon

name_spelled : (names : List Bytes) (x : Bytes) → IsShown names x → Spells names (kind.Ident (number_of names x)) x
name_spelled names x is = (is.identifier, refl)

-- a name with a colon and a blank behind it
pub reads_declared : (names : List Bytes) (x rest : Bytes) (ks : List TokenKind) → IsShown names x → Reads names rest ks →
    Reads names (x ++ (codes ": " ++ rest)) (kind.Ident (number_of names x) ∷ kind.Sym symbol.Colon ∷ ks)
reads_declared names x rest ks is r =
    reads_token names (kind.Ident (number_of names x)) x (codes ": " ++ rest) (kind.Sym symbol.Colon ∷ ks) (name_spelled names x is) (with_name-old names x is.known)
    (colon-longest names (number_of names x) x (32 ∷ rest) (name_spelled names x is)) (reads_symbol names symbol.Colon rest ks r)

-- `\x: A | B. p`
pub shows_lam : (names : List Bytes) (s : Scope) (v : ℕ → ℕ) (d : ℕ) (As : PlainTypes) (p : plain.Tree) (at : Place) (x one two : Bytes) → IsShown names x → s.types ≡ predefined → plain_count As ≤ 16 →
    ShowsAlternatives names As one → ShowsPhrase names (under (number_of names x) s) (lifted v) Level.term p two →
    ShowsPhrase names s v Level.term (plain.Tree.lam d As p at) (((((codes "\\" ++ x) ++ codes ": ") ++ one) ++ codes ". ") ++ two)
shows_lam names s v d As p at x one two is plainly few h g =
    let n = number_of names x in
    let backslash = spelled names (kind.Sym symbol.Backslash) tt tt in
    let dot = spelled names (kind.Sym symbol.Dot) tt tt in
    record {
      own = kind.Sym symbol.Backslash ∷ kind.Ident n ∷ kind.Sym symbol.Colon ∷ (h.own ++ kind.Sym symbol.Dot ∷ g.own);
      reads = λ rest ks f r.
          let inside = reads_blank names (two ++ rest) (g.own ++ ks) (g.reads rest ks f r) in
          let behind = reads_token names (kind.Sym symbol.Dot) (46 ∷ []) (32 ∷ (two ++ rest)) (g.own ++ ks) dot refl (dot-longest (32 ∷ (two ++ rest))) inside in
          let types = h.reads (codes ". " ++ (two ++ rest)) (kind.Sym symbol.Dot ∷ (g.own ++ ks)) (Follows.ending dot-ends) behind in
          let name = reads_declared names x (one ++ (codes ". " ++ (two ++ rest))) (h.own ++ kind.Sym symbol.Dot ∷ (g.own ++ ks)) is types in
          reads_same names (92 ∷ (x ++ (codes ": " ++ (one ++ (codes ". " ++ (two ++ rest)))))) (92 ∷ (((((x ++ codes ": ") ++ one) ++ codes ". ") ++ two) ++ rest)) _ _
          (ap (λ l. 92 ∷ l) (sym (grouped_five x (codes ": ") one (codes ". ") two rest)))
          (ap (λ l. kind.Sym symbol.Backslash ∷ kind.Ident n ∷ kind.Sym symbol.Colon ∷ l) (sym (append_assoc h.own (kind.Sym symbol.Dot ∷ g.own) ks)))
          (reads_token names (kind.Sym symbol.Backslash) (92 ∷ []) (x ++ (codes ": " ++ (one ++ (codes ". " ++ (two ++ rest)))))
          (kind.Ident n ∷ kind.Sym symbol.Colon ∷ (h.own ++ kind.Sym symbol.Dot ∷ (g.own ++ ks))) backslash refl
          (backslash-longest (x ++ (codes ": " ++ (one ++ (codes ". " ++ (two ++ rest)))))) name);
      taken = λ us ks e.
          let o = peel us (kind.Sym symbol.Backslash) (kind.Ident n ∷ kind.Sym symbol.Colon ∷ ((h.own ++ kind.Sym symbol.Dot ∷ g.own) ++ ks)) e in
          let i = peel o.rest (kind.Ident n) (kind.Sym symbol.Colon ∷ ((h.own ++ kind.Sym symbol.Dot ∷ g.own) ++ ks)) o.left in
          let c = peel i.rest (kind.Sym symbol.Colon) ((h.own ++ kind.Sym symbol.Dot ∷ g.own) ++ ks) i.left in
          let y = h.taken c.rest (kind.Sym symbol.Dot ∷ (g.own ++ ks)) (c.left ∙ append_assoc h.own (kind.Sym symbol.Dot ∷ g.own) ks) in
          let w = peel y.rest (kind.Sym symbol.Dot) (g.own ++ ks) y.left in
          let z = g.taken w.rest ks w.left in
          let alternatives = TypeTrees.and_type y.type y.more in
          let tree = Tree.lam n alternatives z.tree o.place in
          let all : us ≡ symbol_at symbol.Backslash o.place ∷ ident_at n i.place ∷ symbol_at symbol.Colon c.place ∷ c.rest =
          o.is ∙ ap (λ l. symbol_at symbol.Backslash o.place ∷ l) (i.is ∙ ap (λ l. ident_at n i.place ∷ l) c.is) in
          let same : types_of s.types alternatives ≡ As = ap (λ t. types_of t alternatives) plainly ∙ y.means in
          record {
            tree = tree;
            rest = z.rest;
            spells =
                subst (λ l. SpellsBefore Level.term tree l z.rest) (sym all)
                (SpellsBefore.lam y.first (subst (λ l. MoreTypes symbol.Bar TypeLevel.type y.more y.middle l) w.is y.others) z.spells);
            left = z.left;
            means = (
              subst (λ (Bs : PlainTypes). Alike v (plain.Tree.lam d As p at) (plain.Tree.lam s.depth Bs (core (under n s) z.tree) o.place)) (sym same) (Alike.lam z.means.0),
              λ r agree.
                  let types : r.types ≡ predefined = agree.types ∙ plainly in
                  let counted : nat_lt 16 (types_count alternatives) ≡ false = ap (λ k. nat_lt 16 k) y.count ∙ le-ltb 16 (plain_count As) few in
                  both_fine _ _ (test_fine (nat_lt 16 (types_count alternatives)) (TooManyAlternatives o.place) counted)
                  (both_fine _ _ (subst (λ t. None ≡ types_fault t alternatives) (sym types) y.fine) (z.means.1 (under n r) (same_under n s r agree))),
              λ k. refl,
            );
          };
    }

-- `let x == p in q`
pub shows_let : (names : List Bytes) (s : Scope) (v : ℕ → ℕ) (d : ℕ) (p q : plain.Tree) (at : Place) (x one two : Bytes) → IsShown names x →
    ShowsPhrase names s v Level.term p one → ShowsPhrase names (under (number_of names x) s) (lifted v) Level.term q two →
    ShowsPhrase names s v Level.term (plain.Tree.let_in d p q at) (((((codes "let " ++ x) ++ codes " == ") ++ one) ++ codes " in ") ++ two)
shows_let names s v d p q at x one two is h g =
    let n = number_of names x in
    record {
      own = kind.Word word.Let ∷ kind.Ident n ∷ kind.Sym symbol.EqualsEquals ∷ (h.own ++ kind.Word word.In ∷ g.own);
      reads = λ rest ks f r.
          let inside = reads_blank names (codes "in " ++ (two ++ rest)) (kind.Word word.In ∷ (g.own ++ ks)) (reads_word names word.In (two ++ rest) (g.own ++ ks) (g.reads rest ks f r)) in
          let part = h.reads (codes " in " ++ (two ++ rest)) (kind.Word word.In ∷ (g.own ++ ks)) (Follows.ending blank-ends) inside in
          let later = one ++ (codes " in " ++ (two ++ rest)) in
          let sign = reads_symbol names symbol.EqualsEquals later (h.own ++ kind.Word word.In ∷ (g.own ++ ks)) part in
          let behind = reads_blank names (codes "== " ++ later) (kind.Sym symbol.EqualsEquals ∷ (h.own ++ kind.Word word.In ∷ (g.own ++ ks))) sign in
          let name = reads_name names x (codes " == " ++ later) (kind.Sym symbol.EqualsEquals ∷ (h.own ++ kind.Word word.In ∷ (g.own ++ ks))) is (Follows.ending blank-ends) behind in
          reads_same names (codes "let " ++ (x ++ (codes " == " ++ later))) (codes "let " ++ (((((x ++ codes " == ") ++ one) ++ codes " in ") ++ two) ++ rest)) _ _
          (ap (λ l. codes "let " ++ l) (sym (grouped_five x (codes " == ") one (codes " in ") two rest)))
          (ap (λ l. kind.Word word.Let ∷ kind.Ident n ∷ kind.Sym symbol.EqualsEquals ∷ l) (sym (append_assoc h.own (kind.Word word.In ∷ g.own) ks)))
          (reads_word names word.Let (x ++ (codes " == " ++ later)) (kind.Ident n ∷ kind.Sym symbol.EqualsEquals ∷ (h.own ++ kind.Word word.In ∷ (g.own ++ ks))) name);
      taken = λ us ks e.
          let o = peel us (kind.Word word.Let) (kind.Ident n ∷ kind.Sym symbol.EqualsEquals ∷ ((h.own ++ kind.Word word.In ∷ g.own) ++ ks)) e in
          let i = peel o.rest (kind.Ident n) (kind.Sym symbol.EqualsEquals ∷ ((h.own ++ kind.Word word.In ∷ g.own) ++ ks)) o.left in
          let c = peel i.rest (kind.Sym symbol.EqualsEquals) ((h.own ++ kind.Word word.In ∷ g.own) ++ ks) i.left in
          let y = h.taken c.rest (kind.Word word.In ∷ (g.own ++ ks)) (c.left ∙ append_assoc h.own (kind.Word word.In ∷ g.own) ks) in
          let w = peel y.rest (kind.Word word.In) (g.own ++ ks) y.left in
          let z = g.taken w.rest ks w.left in
          let tree = Tree.let_in (Defs.and_def n i.place y.tree Defs.no_defs) z.tree o.place in
          let all : us ≡ word_at word.Let o.place ∷ ident_at n i.place ∷ symbol_at symbol.EqualsEquals c.place ∷ c.rest =
          o.is ∙ ap (λ l. word_at word.Let o.place ∷ l) (i.is ∙ ap (λ l. ident_at n i.place ∷ l) c.is) in
          record {
            tree = tree;
            rest = z.rest;
            spells =
                subst (λ l. SpellsBefore Level.term tree l z.rest) (sym all)
                (SpellsBefore.let_in (subst (λ l. SpellsBefore Level.term y.tree c.rest l) w.is y.spells) MoreDefs.no_defs z.spells);
            left = z.left;
            means = (
              Alike.let_in y.means.0 z.means.0,
              λ r same. both_fine _ _ (both_fine _ _ (y.means.1 r same) refl) (z.means.1 (under n r) (same_under n s r same)),
              λ k. absurd k,
            );
          };
    }

-- ---- types of data

-- how a type of data is written
record IsDataWord (D : DataTy) : Type 0 where
  sort : Atom
  is_one : IsTrue (is_data sort)
  means : data_of sort ≡ D
  text : word_text (atom_word sort) ≡ data_word D

data_of_word : (D : DataTy) → IsDataWord D
data_of_word = elim [
  | data_type.Int ↦ record { sort = atom.Int; is_one = refl; means = refl; text = refl }
  | data_type.Bool ↦ record { sort = atom.Bool; is_one = refl; means = refl; text = refl }
  | data_type.Char ↦ record { sort = atom.Char; is_one = refl; means = refl; text = refl }
]

-- a type of data with a blank behind it
reads_data : (names : List Bytes) (D : DataTy) (rest : Bytes) (ks : List TokenKind) → Reads names rest ks → Reads names (data_word D ++ 32 ∷ rest) (kind.Word (atom_word (data_of_word D).sort) ∷ ks)
reads_data names D rest ks r =
    let w = data_of_word D in
    subst (λ t. Reads names (t ++ 32 ∷ rest) (kind.Word (atom_word w.sort) ∷ ks)) w.text (reads_word names (atom_word w.sort) rest ks r)

-- `accept x: D in p`
pub shows_accept : (names : List Bytes) (s : Scope) (v : ℕ → ℕ) (d : ℕ) (D : DataTy) (p : plain.Tree) (at : Place) (x text : Bytes) → IsShown names x →
    ShowsPhrase names (under (number_of names x) s) (lifted v) Level.term p text →
    ShowsPhrase names s v Level.term (plain.Tree.accept d D p at) (((((codes "accept " ++ x) ++ codes ": ") ++ data_word D) ++ codes " in ") ++ text)
shows_accept names s v d D p at x text is g =
    let n = number_of names x in
    let w = data_of_word D in
    let k = kind.Word (atom_word w.sort) in
    record {
      own = kind.Word word.Accept ∷ kind.Ident n ∷ kind.Sym symbol.Colon ∷ k ∷ kind.Word word.In ∷ g.own;
      reads = λ rest ks f r.
          let inside = reads_word names word.In (text ++ rest) (g.own ++ ks) (g.reads rest ks f r) in
          let type = reads_data names D (codes "in " ++ (text ++ rest)) (kind.Word word.In ∷ (g.own ++ ks)) inside in
          let name = reads_declared names x (data_word D ++ (codes " in " ++ (text ++ rest))) (k ∷ kind.Word word.In ∷ (g.own ++ ks)) is type in
          reads_same names (codes "accept " ++ (x ++ (codes ": " ++ (data_word D ++ (codes " in " ++ (text ++ rest))))))
          (codes "accept " ++ (((((x ++ codes ": ") ++ data_word D) ++ codes " in ") ++ text) ++ rest)) _ _
          (ap (λ l. codes "accept " ++ l) (sym (grouped_five x (codes ": ") (data_word D) (codes " in ") text rest))) refl
          (reads_word names word.Accept (x ++ (codes ": " ++ (data_word D ++ (codes " in " ++ (text ++ rest))))) (kind.Ident n ∷ kind.Sym symbol.Colon ∷ k ∷ kind.Word word.In ∷ (g.own ++ ks)) name);
      taken = λ us ks e.
          let o = peel us (kind.Word word.Accept) (kind.Ident n ∷ kind.Sym symbol.Colon ∷ k ∷ kind.Word word.In ∷ (g.own ++ ks)) e in
          let i = peel o.rest (kind.Ident n) (kind.Sym symbol.Colon ∷ k ∷ kind.Word word.In ∷ (g.own ++ ks)) o.left in
          let c = peel i.rest (kind.Sym symbol.Colon) (k ∷ kind.Word word.In ∷ (g.own ++ ks)) i.left in
          let a = peel c.rest k (kind.Word word.In ∷ (g.own ++ ks)) c.left in
          let b = peel a.rest (kind.Word word.In) (g.own ++ ks) a.left in
          let z = g.taken b.rest ks b.left in
          let tree = Tree.accept n w.sort z.tree o.place in
          let all : us ≡ word_at word.Accept o.place ∷ ident_at n i.place ∷ symbol_at symbol.Colon c.place ∷ token k a.place ∷ word_at word.In b.place ∷ b.rest =
          o.is ∙ ap (λ l. word_at word.Accept o.place ∷ l) (i.is ∙ ap (λ l. ident_at n i.place ∷ l) (c.is ∙ ap (λ l. symbol_at symbol.Colon c.place ∷ l) (a.is ∙ ap (λ l. token k a.place ∷ l) b.is))) in
          record {
            tree = tree;
            rest = z.rest;
            spells = subst (λ l. SpellsBefore Level.term tree l z.rest) (sym all) (SpellsBefore.accept w.is_one z.spells);
            left = z.left;
            means = (
              subst (λ (E : DataTy). Alike v (plain.Tree.accept d D p at) (plain.Tree.accept s.depth E (core (under n s) z.tree) o.place)) (sym w.means) (Alike.accept z.means.0),
              λ r same. z.means.1 (under n r) (same_under n s r same),
              λ i. refl,
            );
          };
    }

grouped_seven : (a u b w c j e rest : Bytes) → ((((((a ++ u) ++ b) ++ w) ++ c) ++ j) ++ e) ++ rest ≡ a ++ (u ++ (b ++ (w ++ (c ++ (j ++ (e ++ rest))))))
grouped_seven a u b w c j e rest =
    append_assoc (((((a ++ u) ++ b) ++ w) ++ c) ++ j) e rest ∙ (append_assoc ((((a ++ u) ++ b) ++ w) ++ c) j (e ++ rest) ∙ grouped_five a u b w c (j ++ (e ++ rest)))

-- `new x: D := p in q`
pub shows_new : (names : List Bytes) (s : Scope) (v : ℕ → ℕ) (d : ℕ) (D : DataTy) (p q : plain.Tree) (at : Place) (x one two : Bytes) → IsShown names x →
    ShowsPhrase names s v Level.term p one → ShowsPhrase names (under (number_of names x) s) (lifted v) Level.term q two →
    ShowsPhrase names s v Level.term (plain.Tree.new d D p q at) (((((((codes "new " ++ x) ++ codes ": ") ++ data_word D) ++ codes " := ") ++ one) ++ codes " in ") ++ two)
shows_new names s v d D p q at x one two is h g =
    let n = number_of names x in
    let w = data_of_word D in
    let k = kind.Word (atom_word w.sort) in
    record {
      own = kind.Word word.New ∷ kind.Ident n ∷ kind.Sym symbol.Colon ∷ k ∷ kind.Sym symbol.ColonEquals ∷ (h.own ++ kind.Word word.In ∷ g.own);
      reads = λ rest ks f r.
          let inside = reads_blank names (codes "in " ++ (two ++ rest)) (kind.Word word.In ∷ (g.own ++ ks)) (reads_word names word.In (two ++ rest) (g.own ++ ks) (g.reads rest ks f r)) in
          let part = h.reads (codes " in " ++ (two ++ rest)) (kind.Word word.In ∷ (g.own ++ ks)) (Follows.ending blank-ends) inside in
          let later = one ++ (codes " in " ++ (two ++ rest)) in
          let sign = reads_symbol names symbol.ColonEquals later (h.own ++ kind.Word word.In ∷ (g.own ++ ks)) part in
          let type = reads_data names D (codes ":= " ++ later) (kind.Sym symbol.ColonEquals ∷ (h.own ++ kind.Word word.In ∷ (g.own ++ ks))) sign in
          let name = reads_declared names x (data_word D ++ (codes " := " ++ later)) (k ∷ kind.Sym symbol.ColonEquals ∷ (h.own ++ kind.Word word.In ∷ (g.own ++ ks))) is type in
          reads_same names (codes "new " ++ (x ++ (codes ": " ++ (data_word D ++ (codes " := " ++ later)))))
          (codes "new " ++ (((((((x ++ codes ": ") ++ data_word D) ++ codes " := ") ++ one) ++ codes " in ") ++ two) ++ rest)) _ _
          (ap (λ l. codes "new " ++ l) (sym (grouped_seven x (codes ": ") (data_word D) (codes " := ") one (codes " in ") two rest)))
          (ap (λ l. kind.Word word.New ∷ kind.Ident n ∷ kind.Sym symbol.Colon ∷ k ∷ kind.Sym symbol.ColonEquals ∷ l) (sym (append_assoc h.own (kind.Word word.In ∷ g.own) ks)))
          (reads_word names word.New (x ++ (codes ": " ++ (data_word D ++ (codes " := " ++ later))))
          (kind.Ident n ∷ kind.Sym symbol.Colon ∷ k ∷ kind.Sym symbol.ColonEquals ∷ (h.own ++ kind.Word word.In ∷ (g.own ++ ks))) name);
      taken = λ us ks e.
          let own = (h.own ++ kind.Word word.In ∷ g.own) ++ ks in
          let o = peel us (kind.Word word.New) (kind.Ident n ∷ kind.Sym symbol.Colon ∷ k ∷ kind.Sym symbol.ColonEquals ∷ own) e in
          let i = peel o.rest (kind.Ident n) (kind.Sym symbol.Colon ∷ k ∷ kind.Sym symbol.ColonEquals ∷ own) o.left in
          let c = peel i.rest (kind.Sym symbol.Colon) (k ∷ kind.Sym symbol.ColonEquals ∷ own) i.left in
          let a = peel c.rest k (kind.Sym symbol.ColonEquals ∷ own) c.left in
          let b = peel a.rest (kind.Sym symbol.ColonEquals) own a.left in
          let y = h.taken b.rest (kind.Word word.In ∷ (g.own ++ ks)) (b.left ∙ append_assoc h.own (kind.Word word.In ∷ g.own) ks) in
          let j = peel y.rest (kind.Word word.In) (g.own ++ ks) y.left in
          let z = g.taken j.rest ks j.left in
          let tree = Tree.new n w.sort y.tree z.tree o.place in
          let all : us ≡ word_at word.New o.place ∷ ident_at n i.place ∷ symbol_at symbol.Colon c.place ∷ token k a.place ∷ symbol_at symbol.ColonEquals b.place ∷ b.rest =
          o.is ∙ ap (λ l. word_at word.New o.place ∷ l) (i.is ∙ ap (λ l. ident_at n i.place ∷ l) (c.is ∙ ap (λ l. symbol_at symbol.Colon c.place ∷ l) (a.is ∙ ap (λ l. token k a.place ∷ l) b.is))) in
          record {
            tree = tree;
            rest = z.rest;
            spells =
                subst (λ l. SpellsBefore Level.term tree l z.rest) (sym all)
                (SpellsBefore.new w.is_one (subst (λ l. SpellsBefore Level.term y.tree b.rest l) j.is y.spells) z.spells);
            left = z.left;
            means = (
              subst (λ (E : DataTy). Alike v (plain.Tree.new d D p q at) (plain.Tree.new s.depth E (core s y.tree) (core (under n s) z.tree) o.place)) (sym w.means) (Alike.new y.means.0 z.means.0),
              λ r same. both_fine _ _ (y.means.1 r same) (z.means.1 (under n r) (same_under n s r same)),
              λ i. absurd i,
            );
          };
    }
