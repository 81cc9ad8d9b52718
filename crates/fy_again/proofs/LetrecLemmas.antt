-- Texts of `letrec`.
use Rattle.std.proofs.Common.{◌≡◌, ℕ, suc, ◌==◌, not, false, None, Option, List, [], ◌∷◌, ◌++◌, map, codes, refl, sym, ap, ap₂, subst, ◌∙◌, append_assoc}
use Rattle.std.proofs.lemmas.Bool.{eq-eqb}
use Rattle.fy_base.specs.Outside.{Bytes}
use Rattle.fy_base.specs.Places.{first_place}
use Rattle.fy_base.specs.declared.data.Place.{Place}
use Rattle.fy_types.specs.Names.{number_of}
use Rattle.fy_types.specs.Types.{PlainType, PlainTypes}
use Rattle.fy_lexer.specs.declared.token.Token.{Token}
use Rattle.fy_lexer.specs.declared.token.TokenKind.{TokenKind}
use Rattle.fy_lexer.specs.declared.token.TokenKind.TheVariants as kind
use Rattle.fy_lexer.specs.declared.token.Keyword.TheVariants as word
use Rattle.fy_lexer.specs.declared.token.Symbol.TheVariants as symbol
use Rattle.fy_lexer.specs.Again.{kinds}
use Rattle.fy_lexer.proofs.OverLemmas.{blank-ends}
use Rattle.fy_syntax.specs.Trees.{Tree, TypeTree, DeclTree, Defs}
use Rattle.fy_syntax.specs.Signs.{Level, TypeLevel, word_at, symbol_at, ident_at}
use Rattle.fy_syntax.specs.Spells.{SpellsBefore, SpellsType, MoreDecls, MoreDefs}
use Rattle.fy_phrase.specs.Tree as plain
use Rattle.fy_phrase.specs.Alike.{Alike, lifted}
use Rattle.fy_expand.specs.declared.error.ExpandError.TheVariants.{DoubleName, LetrecName}
use Rattle.fy_expand.specs.Faults.{fault_if, is_among, decls_fault, fields_fault}
use Rattle.fy_expand.specs.Core.{core, all_fields, with_fields, declared, meet_of}
use Rattle.fy_expand.specs.Scope.{Scope, under_members, with_members}
use Rattle.fy_expand.specs.Types.{predefined, with, is_large_type}
use Rattle.fy_again.specs.Phrases.{types_declared, fields_declared, fields_defined, AreFresh}
use Rattle.fy_again.proofs.FaultLemmas.{SameNames, same_names, same_then, same_members, IsClear, both_fine, test_fine}
use Rattle.fy_again.proofs.EndLemmas.{Follows}
use Rattle.fy_again.proofs.BinderLemmas.{small_type, reads_declared}
use Rattle.fy_again.proofs.FormLemmas.{reads_symbol}
use Rattle.fy_again.proofs.PhraseLemmas.{IsShown, ShowsPhrase, comma-ends, grouped_three, grouped_five, reads_name, reads_word}
use Rattle.fy_again.proofs.ReadLemmas.{Reads, reads_blank, reads_same, peel}
use Rattle.fy_again.proofs.TypeLemmas.{Shows}

-- ---- declarations

abbrev pub names_declared : List DeclTree → List ℕ
names_declared decls = map (λ (d : DeclTree). d.name) decls

-- tokens spell declarations of these fields
pub record SpelledDecls (fs : List (ℕ × PlainType)) (us : List Token) (ks : List TokenKind) : Type 0 where
  pub name : ℕ
  pub at : Place
  pub type : TypeTree
  pub more : List DeclTree
  pub colon : Place
  pub behind : List Token
  pub middle : List Token
  pub rest : List Token
  pub is : us ≡ ident_at name at ∷ symbol_at symbol.Colon colon ∷ behind
  pub first : SpellsType TypeLevel.type type behind middle
  pub others : MoreDecls more middle rest
  pub left : kinds rest ≡ ks
  pub means : declared predefined (record { name = name; at = at; type = type } ∷ more) ≡ types_declared fs
  pub named : names_declared (record { name = name; at = at; type = type } ∷ more) ≡ fields_declared fs
  pub fine : (seen : List ℕ) → AreFresh seen fs → None ≡ decls_fault predefined seen (record { name = name; at = at; type = type } ∷ more)

pub record ShowsDecls (names : List Bytes) (fs : List (ℕ × PlainType)) (text : Bytes) : Type 0 where
  pub own : List TokenKind
  pub reads : (rest : Bytes) (ks : List TokenKind) → Follows rest → Reads names rest ks → Reads names (text ++ rest) (own ++ ks)
  pub taken : (us : List Token) (ks : List TokenKind) → kinds us ≡ own ++ ks → SpelledDecls fs us ks

-- `f: A`
fresh_name : (i n : ℕ) (at : Place) (seen : List ℕ) → n ≡ i → is_among seen i ≡ false → None ≡ fault_if (is_among seen n) (DoubleName at)
fresh_name i n at seen e h = test_fine (is_among seen n) (DoubleName at) (ap (λ k. is_among seen k) e ∙ h)

pub shows_decl : (names : List Bytes) (i : ℕ) (A : PlainType) (x one : Bytes) → is_large_type A ≡ false → IsShown names x → number_of names x ≡ i → Shows names TypeLevel.type A one →
    ShowsDecls names ((i, A) ∷ []) ((x ++ codes ": ") ++ one)
shows_decl names i A x one small is numbered h =
    let n = number_of names x in
    record {
      own = kind.Ident n ∷ kind.Sym symbol.Colon ∷ h.own;
      reads = λ rest ks f r.
          reads_same names (x ++ (codes ": " ++ (one ++ rest))) (((x ++ codes ": ") ++ one) ++ rest) _ _ (sym (grouped_three x (codes ": ") one rest)) refl
          (reads_declared names x (one ++ rest) (h.own ++ ks) is (h.reads rest ks f r));
      taken = λ us ks e.
          let o = peel us (kind.Ident n) (kind.Sym symbol.Colon ∷ (h.own ++ ks)) e in
          let c = peel o.rest (kind.Sym symbol.Colon) (h.own ++ ks) o.left in
          let y = h.taken c.rest ks c.left in
          record {
            name = n;
            at = o.place;
            type = y.tree;
            more = [];
            colon = c.place;
            behind = c.rest;
            middle = y.rest;
            rest = y.rest;
            is = o.is ∙ ap (λ l. ident_at n o.place ∷ l) c.is;
            first = y.spells;
            others = MoreDecls.no_decls;
            left = y.left;
            means = ap₂ (λ (j : ℕ) (B : PlainType). PlainTypes.and_type (PlainType.field j B) PlainTypes.no_types) numbered y.means;
            named = ap (λ (j : ℕ). j ∷ []) numbered;
            fine = λ seen fresh. both_fine _ _ (fresh_name i n o.place seen numbered fresh.0) (both_fine _ _ (small_type A y.tree small y.means y.known) refl);
          };
    }

-- `f: A, ..`
pub shows_decls : (names : List Bytes) (i : ℕ) (A : PlainType) (fs : List (ℕ × PlainType)) (x one two : Bytes) → is_large_type A ≡ false → IsShown names x → number_of names x ≡ i → Shows names TypeLevel.type A one →
    ShowsDecls names fs two → ShowsDecls names ((i, A) ∷ fs) (((x ++ codes ": ") ++ one) ++ (codes ", " ++ two))
shows_decls names i A fs x one two small is numbered h g =
    let n = number_of names x in
    record {
      own = kind.Ident n ∷ kind.Sym symbol.Colon ∷ (h.own ++ kind.Sym symbol.Comma ∷ g.own);
      reads = λ rest ks f r.
          let sign = reads_symbol names symbol.Comma (two ++ rest) (g.own ++ ks) (g.reads rest ks f r) in
          let type = h.reads (codes ", " ++ (two ++ rest)) (kind.Sym symbol.Comma ∷ (g.own ++ ks)) (Follows.ending comma-ends) sign in
          reads_same names (x ++ (codes ": " ++ (one ++ (codes ", " ++ (two ++ rest))))) ((((x ++ codes ": ") ++ one) ++ (codes ", " ++ two)) ++ rest) _ _
          (sym (append_assoc ((x ++ codes ": ") ++ one) (codes ", " ++ two) rest ∙ grouped_three x (codes ": ") one (codes ", " ++ (two ++ rest))))
          (ap (λ l. kind.Ident n ∷ kind.Sym symbol.Colon ∷ l) (sym (append_assoc h.own (kind.Sym symbol.Comma ∷ g.own) ks)))
          (reads_declared names x (one ++ (codes ", " ++ (two ++ rest))) (h.own ++ kind.Sym symbol.Comma ∷ (g.own ++ ks)) is type);
      taken = λ us ks e.
          let o = peel us (kind.Ident n) (kind.Sym symbol.Colon ∷ ((h.own ++ kind.Sym symbol.Comma ∷ g.own) ++ ks)) e in
          let c = peel o.rest (kind.Sym symbol.Colon) ((h.own ++ kind.Sym symbol.Comma ∷ g.own) ++ ks) o.left in
          let y = h.taken c.rest (kind.Sym symbol.Comma ∷ (g.own ++ ks)) (c.left ∙ append_assoc h.own (kind.Sym symbol.Comma ∷ g.own) ks) in
          let w = peel y.rest (kind.Sym symbol.Comma) (g.own ++ ks) y.left in
          let z = g.taken w.rest ks w.left in
          record {
            name = n;
            at = o.place;
            type = y.tree;
            more = record { name = z.name; at = z.at; type = z.type } ∷ z.more;
            colon = c.place;
            behind = c.rest;
            middle = symbol_at symbol.Comma w.place ∷ ident_at z.name z.at ∷ symbol_at symbol.Colon z.colon ∷ z.behind;
            rest = z.rest;
            is = o.is ∙ ap (λ l. ident_at n o.place ∷ l) c.is;
            first = subst (λ l. SpellsType TypeLevel.type y.tree c.rest l) (w.is ∙ ap (λ l. symbol_at symbol.Comma w.place ∷ l) z.is) y.spells;
            others = MoreDecls.and_decl z.first z.others;
            left = z.left;
            means =
                ap₂ (λ (j : ℕ) (B : PlainType). PlainTypes.and_type (PlainType.field j B) (declared predefined (record { name = z.name; at = z.at; type = z.type } ∷ z.more))) numbered y.means
                ∙ ap (λ (Bs : PlainTypes). PlainTypes.and_type (PlainType.field i A) Bs) z.means;
            named = ap₂ (λ (j : ℕ) (js : List ℕ). j ∷ js) numbered z.named;
            fine =
                λ seen fresh.
                both_fine _ _ (fresh_name i n o.place seen numbered fresh.0)
                (both_fine _ _ (small_type A y.tree small y.means y.known)
                (subst (λ j. None ≡ decls_fault predefined (seen ++ j ∷ []) (record { name = z.name; at = z.at; type = z.type } ∷ z.more)) (sym numbered) (z.fine (seen ++ i ∷ []) fresh.1)));
          };
    }

-- ---- the scope of the declared names

-- declarations of these names
abbrev pub plain_decls : List (ℕ × PlainType) → List DeclTree
plain_decls fs = map (λ (f : ℕ × PlainType). record { name = f.0; at = first_place; type = TypeTree.ns first_place }) fs

same_map : {A : Type 0} (i j : ℕ) (w : A) (a b : ℕ → Option A) → i ≡ j → a ≡ b → with i w a ≡ with j w b
same_map i j w a b e f = ap (λ k. with k w a) e ∙ ap (λ o. with j w o) f

pub members_same : (s : Scope) (decls : List DeclTree) (fs : List (ℕ × PlainType)) → names_declared decls ≡ fields_declared fs →
    with_members s.depth decls s.phrases ≡ with_members s.depth (plain_decls fs) s.phrases
members_same s [] [] e = refl
members_same s [] (f ∷ fs) e = absurd cc
members_same s (d ∷ decls) [] e = absurd cc
members_same s (d ∷ decls) (f ∷ fs) e =
    let here : d.name ≡ f.0 = cc in
    let later : names_declared decls ≡ fields_declared fs = cc in
    same_map d.name f.0 _ (with_members s.depth decls s.phrases) (with_members s.depth (plain_decls fs) s.phrases) here (members_same s decls fs later)

pub under_same : (s : Scope) (decls : List DeclTree) (fs : List (ℕ × PlainType)) → names_declared decls ≡ fields_declared fs → under_members decls s ≡ under_members (plain_decls fs) s
under_same s decls fs e = ap (λ o. record { depth = suc s.depth; phrases = o; types = s.types }) (members_same s decls fs e)

-- ---- definitions

abbrev pub names_defined : Defs → List ℕ
names_defined Defs.no_defs = []
names_defined (Defs.and_def x at p more) = x ∷ names_defined more

abbrev pub AreClear : Scope → Defs → Type 0
AreClear s Defs.no_defs = Unit {0}
AreClear s (Defs.and_def x at p more) = IsClear s p × AreClear s more

-- tokens spell definitions whose merge is this one but for places
pub record SpelledDefs (s : Scope) (v : ℕ → ℕ) (b : plain.Tree) (us : List Token) (ks : List TokenKind) : Type 0 where
  pub name : ℕ
  pub at : Place
  pub tree : Tree
  pub more : Defs
  pub equals : Place
  pub behind : List Token
  pub middle : List Token
  pub rest : List Token
  pub is : us ≡ ident_at name at ∷ symbol_at symbol.EqualsEquals equals ∷ behind
  pub first : SpellsBefore Level.term tree behind middle
  pub others : MoreDefs more middle rest
  pub left : kinds rest ≡ ks
  pub means : Alike v b (with_fields s at (plain.Tree.field name (core s tree) at) more)
  pub named : names_defined (Defs.and_def name at tree more) ≡ fields_defined b
  pub clear : AreClear s (Defs.and_def name at tree more)

pub record ShowsDefs (names : List Bytes) (s : Scope) (v : ℕ → ℕ) (b : plain.Tree) (text : Bytes) : Type 0 where
  pub own : List TokenKind
  pub reads : (rest : Bytes) (ks : List TokenKind) → Follows rest → Reads names rest ks → Reads names (text ++ rest) (own ++ ks)
  pub taken : (us : List Token) (ks : List TokenKind) → kinds us ≡ own ++ ks → SpelledDefs s v b us ks

-- a name with ` == ` behind it
reads_defined : (names : List Bytes) (x rest : Bytes) (ks : List TokenKind) → IsShown names x → Reads names rest ks →
    Reads names (x ++ (codes " == " ++ rest)) (kind.Ident (number_of names x) ∷ kind.Sym symbol.EqualsEquals ∷ ks)
reads_defined names x rest ks is r =
    reads_name names x (codes " == " ++ rest) (kind.Sym symbol.EqualsEquals ∷ ks) is (Follows.ending blank-ends)
    (reads_blank names (codes "== " ++ rest) (kind.Sym symbol.EqualsEquals ∷ ks) (reads_symbol names symbol.EqualsEquals rest ks r))

-- `f == p`
pub shows_def : (names : List Bytes) (s : Scope) (v : ℕ → ℕ) (i : ℕ) (p : plain.Tree) (at : Place) (x one : Bytes) → IsShown names x → number_of names x ≡ i → ShowsPhrase names s v Level.term p one →
    ShowsDefs names s v (plain.Tree.field i p at) ((x ++ codes " == ") ++ one)
shows_def names s v i p at x one is numbered h =
    let n = number_of names x in
    record {
      own = kind.Ident n ∷ kind.Sym symbol.EqualsEquals ∷ h.own;
      reads = λ rest ks f r.
          reads_same names (x ++ (codes " == " ++ (one ++ rest))) (((x ++ codes " == ") ++ one) ++ rest) _ _ (sym (grouped_three x (codes " == ") one rest)) refl
          (reads_defined names x (one ++ rest) (h.own ++ ks) is (h.reads rest ks f r));
      taken = λ us ks e.
          let o = peel us (kind.Ident n) (kind.Sym symbol.EqualsEquals ∷ (h.own ++ ks)) e in
          let c = peel o.rest (kind.Sym symbol.EqualsEquals) (h.own ++ ks) o.left in
          let y = h.taken c.rest ks c.left in
          record {
            name = n;
            at = o.place;
            tree = y.tree;
            more = Defs.no_defs;
            equals = c.place;
            behind = c.rest;
            middle = y.rest;
            rest = y.rest;
            is = o.is ∙ ap (λ l. ident_at n o.place ∷ l) c.is;
            first = y.spells;
            others = MoreDefs.no_defs;
            left = y.left;
            means = subst (λ (j : ℕ). Alike v (plain.Tree.field i p at) (plain.Tree.field j (core s y.tree) o.place)) (sym numbered) (Alike.field y.means.0);
            named = ap (λ (j : ℕ). j ∷ []) numbered;
            clear = (y.means.1, tt);
          };
    }

abbrev one_def : Defs → ℕ → Place → Tree → Defs
one_def Defs.no_defs n q t = Defs.and_def n q t Defs.no_defs
one_def (Defs.and_def f here u more) n q t = Defs.and_def f here u (one_def more n q t)

defs_more : (c q e : Place) (n : ℕ) (t : Tree) (ts r : List Token) {more : Defs} {us k : List Token} → MoreDefs more us k →
    k ≡ symbol_at symbol.Comma c ∷ ident_at n q ∷ symbol_at symbol.EqualsEquals e ∷ ts → SpellsBefore Level.term t ts r → MoreDefs (one_def more n q t) us r
defs_more c q e n t ts r MoreDefs.no_defs i z = subst (λ j. MoreDefs (Defs.and_def n q t Defs.no_defs) j r) (sym i) (MoreDefs.and_def z MoreDefs.no_defs)
defs_more c q e n t ts r (MoreDefs.and_def x y) i z = MoreDefs.and_def x (defs_more c q e n t ts r y i z)

fields_more : (s : Scope) (at : Place) (left : plain.Tree) (more : Defs) (n : ℕ) (q : Place) (t : Tree) →
    with_fields s at left (one_def more n q t) ≡ plain.Tree.merge (with_fields s at left more) (plain.Tree.field n (core s t) q) at
fields_more s at left Defs.no_defs n q t = refl
fields_more s at left (Defs.and_def f here u more) n q t = fields_more s at (plain.Tree.merge left (plain.Tree.field f (core s u) here) at) more n q t

names_more : (f : ℕ) (here : Place) (u : Tree) (more : Defs) (n : ℕ) (q : Place) (t : Tree) → names_defined (Defs.and_def f here u (one_def more n q t)) ≡ names_defined (Defs.and_def f here u more) ++ n ∷ []
names_more f here u Defs.no_defs n q t = refl
names_more f here u (Defs.and_def g at w more) n q t = ap (λ l. f ∷ l) (names_more g at w more n q t)

clear_more : (s : Scope) (more : Defs) (n : ℕ) (q : Place) (t : Tree) → AreClear s more → IsClear s t → AreClear s (one_def more n q t)
clear_more s Defs.no_defs n q t h g = (g, tt)
clear_more s (Defs.and_def f here u more) n q t h g = (h.0, clear_more s more n q t h.1 g)

-- `.., f == p`
pub shows_defs : (names : List Bytes) (s : Scope) (v : ℕ → ℕ) (b : plain.Tree) (i : ℕ) (p : plain.Tree) (at here : Place) (one x two : Bytes) → IsShown names x → number_of names x ≡ i →
    ShowsDefs names s v b one → ShowsPhrase names s v Level.term p two → ShowsDefs names s v (plain.Tree.merge b (plain.Tree.field i p at) here) ((one ++ codes ", ") ++ ((x ++ codes " == ") ++ two))
shows_defs names s v b i p at here one x two is numbered h g =
    let n = number_of names x in
    record {
      own = h.own ++ kind.Sym symbol.Comma ∷ kind.Ident n ∷ kind.Sym symbol.EqualsEquals ∷ g.own;
      reads = λ rest ks f r.
          let part = reads_defined names x (two ++ rest) (g.own ++ ks) is (g.reads rest ks f r) in
          let later = x ++ (codes " == " ++ (two ++ rest)) in
          let sign = reads_symbol names symbol.Comma later (kind.Ident n ∷ kind.Sym symbol.EqualsEquals ∷ (g.own ++ ks)) part in
          reads_same names (one ++ (codes ", " ++ later)) (((one ++ codes ", ") ++ ((x ++ codes " == ") ++ two)) ++ rest) _ _
          (sym (grouped_three one (codes ", ") ((x ++ codes " == ") ++ two) rest ∙ ap (λ l. one ++ (codes ", " ++ l)) (grouped_three x (codes " == ") two rest)))
          (sym (append_assoc h.own (kind.Sym symbol.Comma ∷ kind.Ident n ∷ kind.Sym symbol.EqualsEquals ∷ g.own) ks))
          (h.reads (codes ", " ++ later) (kind.Sym symbol.Comma ∷ kind.Ident n ∷ kind.Sym symbol.EqualsEquals ∷ (g.own ++ ks)) (Follows.ending comma-ends) sign);
      taken = λ us ks e.
          let y =
          h.taken us (kind.Sym symbol.Comma ∷ kind.Ident n ∷ kind.Sym symbol.EqualsEquals ∷ (g.own ++ ks))
          (e ∙ append_assoc h.own (kind.Sym symbol.Comma ∷ kind.Ident n ∷ kind.Sym symbol.EqualsEquals ∷ g.own) ks) in
          let w = peel y.rest (kind.Sym symbol.Comma) (kind.Ident n ∷ kind.Sym symbol.EqualsEquals ∷ (g.own ++ ks)) y.left in
          let o = peel w.rest (kind.Ident n) (kind.Sym symbol.EqualsEquals ∷ (g.own ++ ks)) w.left in
          let c = peel o.rest (kind.Sym symbol.EqualsEquals) (g.own ++ ks) o.left in
          let z = g.taken c.rest ks c.left in
          record {
            name = y.name;
            at = y.at;
            tree = y.tree;
            more = one_def y.more n o.place z.tree;
            equals = y.equals;
            behind = y.behind;
            middle = y.middle;
            rest = z.rest;
            is = y.is;
            first = y.first;
            others =
                defs_more w.place o.place c.place n z.tree c.rest z.rest y.others
                (w.is ∙ ap (λ l. symbol_at symbol.Comma w.place ∷ l) (o.is ∙ ap (λ l. ident_at n o.place ∷ l) c.is)) z.spells;
            left = z.left;
            means =
                subst (λ (q : plain.Tree). Alike v (plain.Tree.merge b (plain.Tree.field i p at) here) q) (sym (fields_more s y.at (plain.Tree.field y.name (core s y.tree) y.at) y.more n o.place z.tree))
                (Alike.merge y.means (subst (λ (j : ℕ). Alike v (plain.Tree.field i p at) (plain.Tree.field j (core s z.tree) o.place)) (sym numbered) (Alike.field z.means.0)));
            named = names_more y.name y.at y.tree y.more n o.place z.tree ∙ ap₂ (λ (l : List ℕ) (j : ℕ). l ++ j ∷ []) y.named numbered;
            clear = (y.clear.0, clear_more s y.more n o.place z.tree y.clear.1 z.means.1);
          };
    }

-- ---- the whole

defined_fine : (r : Scope) (in_at : Place) (decls : List DeclTree) (defs : Defs) → names_declared decls ≡ names_defined defs → AreClear r defs → None ≡ fields_fault r in_at decls defs
defined_fine r in_at [] Defs.no_defs e h = refl
defined_fine r in_at [] (Defs.and_def f at p more) e h = absurd cc
defined_fine r in_at (d ∷ decls) Defs.no_defs e h = absurd cc
defined_fine r in_at (d ∷ decls) (Defs.and_def f at p more) e h =
    let here : d.name ≡ f = cc in
    let later : names_declared decls ≡ names_defined more = cc in
    let same : not (f == d.name) ≡ false = ap not (eq-eqb f d.name (sym here)) in
    both_fine _ _ (test_fine (not (f == d.name)) (LetrecName at) same) (both_fine _ _ (h.0 r (same_names r)) (defined_fine r in_at decls more later h.1))

clear_in : (s r : Scope) (defs : Defs) → SameNames s r → AreClear s defs → AreClear r defs
clear_in s r Defs.no_defs same h = tt
clear_in s r (Defs.and_def f at p more) same h = (λ k agree. h.0 k (same_then s r k same agree), clear_in s r more same h.1)

-- `letrec f: A, .. where f == p, .. in q`
pub shows_letrec : (names : List Bytes) (s : Scope) (v : ℕ → ℕ) (d c : ℕ) (fs : List (ℕ × PlainType)) (T : PlainType) (b q : plain.Tree) (at here : Place) (one two three : Bytes) → s.types ≡ predefined →
    meet_of (types_declared fs) ≡ T → AreFresh [] fs → fields_defined b ≡ fields_declared fs → ShowsDecls names fs one → ShowsDefs names (under_members (plain_decls fs) s) (lifted v) b two →
    ShowsPhrase names (under_members (plain_decls fs) s) (lifted v) Level.term q three →
    ShowsPhrase names s v Level.term (plain.Tree.let_in d (plain.Tree.rec c T b here) q at) (((((codes "letrec " ++ one) ++ codes " where ") ++ two) ++ codes " in ") ++ three)
shows_letrec names s v d c fs T b q at here one two three plainly whole fresh order h g j = record {
  own = kind.Word word.Letrec ∷ (h.own ++ kind.Word word.Where ∷ (g.own ++ kind.Word word.In ∷ j.own));
  reads = λ rest ks f r.
      let last = reads_blank names (codes "in " ++ (three ++ rest)) (kind.Word word.In ∷ (j.own ++ ks)) (reads_word names word.In (three ++ rest) (j.own ++ ks) (j.reads rest ks f r)) in
      let middle = g.reads (codes " in " ++ (three ++ rest)) (kind.Word word.In ∷ (j.own ++ ks)) (Follows.ending blank-ends) last in
      let between =
      reads_blank names (codes "where " ++ (two ++ (codes " in " ++ (three ++ rest)))) (kind.Word word.Where ∷ (g.own ++ kind.Word word.In ∷ (j.own ++ ks)))
      (reads_word names word.Where (two ++ (codes " in " ++ (three ++ rest))) (g.own ++ kind.Word word.In ∷ (j.own ++ ks)) middle) in
      let first =
      h.reads (codes " where " ++ (two ++ (codes " in " ++ (three ++ rest)))) (kind.Word word.Where ∷ (g.own ++ kind.Word word.In ∷ (j.own ++ ks))) (Follows.ending blank-ends) between in
      reads_same names (codes "letrec " ++ (one ++ (codes " where " ++ (two ++ (codes " in " ++ (three ++ rest))))))
      (codes "letrec " ++ (((((one ++ codes " where ") ++ two) ++ codes " in ") ++ three) ++ rest)) _ _
      (ap (λ l. codes "letrec " ++ l) (sym (grouped_five one (codes " where ") two (codes " in ") three rest)))
      (ap (λ l. kind.Word word.Letrec ∷ l)
      (sym (append_assoc h.own (kind.Word word.Where ∷ (g.own ++ kind.Word word.In ∷ j.own)) ks
      ∙ ap (λ l. h.own ++ kind.Word word.Where ∷ l) (append_assoc g.own (kind.Word word.In ∷ j.own) ks))))
      (reads_word names word.Letrec (one ++ (codes " where " ++ (two ++ (codes " in " ++ (three ++ rest))))) (h.own ++ kind.Word word.Where ∷ (g.own ++ kind.Word word.In ∷ (j.own ++ ks))) first);
  taken = λ us ks e.
      let o = peel us (kind.Word word.Letrec) ((h.own ++ kind.Word word.Where ∷ (g.own ++ kind.Word word.In ∷ j.own)) ++ ks) e in
      let x = h.taken o.rest (kind.Word word.Where ∷ ((g.own ++ kind.Word word.In ∷ j.own) ++ ks)) (o.left ∙ append_assoc h.own (kind.Word word.Where ∷ (g.own ++ kind.Word word.In ∷ j.own)) ks) in
      let w = peel x.rest (kind.Word word.Where) ((g.own ++ kind.Word word.In ∷ j.own) ++ ks) x.left in
      let y = g.taken w.rest (kind.Word word.In ∷ (j.own ++ ks)) (w.left ∙ append_assoc g.own (kind.Word word.In ∷ j.own) ks) in
      let i = peel y.rest (kind.Word word.In) (j.own ++ ks) y.left in
      let z = j.taken i.rest ks i.left in
      let decls : List DeclTree = record { name = x.name; at = x.at; type = x.type } ∷ x.more in
      let defs = Defs.and_def y.name y.at y.tree y.more in
      let tree = Tree.letrec decls defs i.place z.tree o.place in
      let all : us ≡ word_at word.Letrec o.place ∷ ident_at x.name x.at ∷ symbol_at symbol.Colon x.colon ∷ x.behind = o.is ∙ ap (λ l. word_at word.Letrec o.place ∷ l) x.is in
      let scope : under_members decls s ≡ under_members (plain_decls fs) s = under_same s decls fs x.named in
      let type : meet_of (declared s.types decls) ≡ T = ap (λ t. meet_of (declared t decls)) plainly ∙ (ap meet_of x.means ∙ whole) in
      record {
        tree = tree;
        rest = z.rest;
        spells =
            subst (λ l. SpellsBefore Level.term tree l z.rest) (sym all)
            (SpellsBefore.letrec x.first (subst (λ l. MoreDecls x.more x.middle l) (w.is ∙ ap (λ l. word_at word.Where w.place ∷ l) y.is) x.others) y.first
            (subst (λ l. MoreDefs y.more y.middle l) i.is y.others) z.spells);
        left = z.left;
        means = (
          subst (λ (S : PlainType). Alike v (plain.Tree.let_in d (plain.Tree.rec c T b here) q at)
              (plain.Tree.let_in s.depth (plain.Tree.rec s.depth S (all_fields (under_members decls s) o.place defs) o.place) (core (under_members decls s) z.tree) o.place)) (sym type)
              (Alike.let_in (Alike.rec (subst (λ t. Alike (lifted v) b (all_fields t o.place defs)) (sym scope) y.means)) (subst (λ t. Alike (lifted v) q (core t z.tree)) (sym scope) z.means.0)),
          λ r same.
              let inner : SameNames (under_members (plain_decls fs) s) (under_members decls r) = subst (λ t. SameNames t (under_members decls r)) scope (same_members decls s r same) in
              let types : r.types ≡ predefined = same.types ∙ plainly in
              both_fine _ _ (subst (λ t. None ≡ decls_fault t [] decls) (sym types) (x.fine [] fresh))
              (both_fine _ _
              (defined_fine (under_members decls r) i.place decls defs (x.named ∙ sym (y.named ∙ order)) (clear_in (under_members (plain_decls fs) s) (under_members decls r) defs inner y.clear))
              (z.means.1 (under_members decls r) inner)),
          λ k. absurd k,
        );
      };
}
