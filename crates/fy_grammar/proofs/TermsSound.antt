-- What is read is spelled so, within the nesting.
use Rattle.std.proofs.Common.{◌≡◌, ◌≤◌, ℕ, zero, suc, true, false, List, [], ◌∷◌, length, refl, sym, ap, subst, ◌∙◌, arith}
use Rattle.std.specs.Prelude.{Option, Some, Ok}
use Rattle.fy_base.specs.declared.data.Place.{Place}
use Rattle.fy_lexer.specs.declared.token.Token.{Token}
use Rattle.fy_lexer.specs.declared.token.TokenKind.{TokenKind}
use Rattle.fy_lexer.specs.declared.token.TokenKind.TheVariants as kind
use Rattle.fy_lexer.specs.declared.token.Keyword.TheVariants as word
use Rattle.fy_lexer.specs.declared.token.Symbol.{Symbol}
use Rattle.fy_lexer.specs.declared.token.Symbol.TheVariants as symbol
use Rattle.fy_syntax.specs.Trees.{TypeTrees, Tree, Trees, Defs, Links}
use Rattle.fy_syntax.specs.Nesting.{below, trees_nesting, trees_below, defs_nesting, links_below}
use Rattle.fy_syntax.specs.Signs.{front, token, symbol_at, word_at, ident_at, atom_word, Level, TypeLevel}
use Rattle.fy_syntax.specs.Spells.{SpellsType, MoreTypes, MoreDecls, Dots, SpellsBefore, MoreTrees, MoreDefs, MoreLinks, MoreArguments, merge_of, sequence_of, chain_of, prefixed_of, apply_of, select_of}
use Rattle.fy_syntax.specs.Reader.{Read, nested, behind, begins_with, starts, expect, expect_word, name_at, data_at, types_at, decl_at, decls_at, dots_at, prefixes_at, OneDef, Inner, trees_at, sequence_at, phrase_at, group_at, seq_at, primary_by_kind, primary_at, select_at, arguments_at, apply_at, prefixed_at, operator_at, links_at, product_at, sum_at, relation_at, both_at, either_at, assign_at, def_at, defs_at, lam_at, let_at, letrec_at, let_type_at, new_at, escape_at, accept_at, cond_at, while_at, loop_at, ident_term, term_by_kind, term_at, inner, read_type, read_term, read_at}
use Rattle.fy_syntax.proofs.Fronts.{merge_nested, sequence_nested, chain_below, prefixed_below, apply_below, select_below}
use Rattle.fy_syntax.proofs.TypesComplete.{types_deeper}
use Rattle.fy_syntax.proofs.TokenLemmas.{begins_is, operator_is}
use Rattle.fy_syntax.proofs.Complete.{depth_at, nested_depth}
use Rattle.fy_grammar.specs.Program.{is_end}
use Rattle.fy_grammar.proofs.Holding.{Holds, holds_bind, holds_mapped, holds_if, holds_nested, holds_link}
use Rattle.fy_grammar.proofs.SignsSound.{Lasts, Fails, IsBehind, IsNamed, IsDatum, lasts_symbol, expect_sound, expect_word_sound, name_sound, data_sound, prefixes_sound, lasts_operator}
use Rattle.fy_grammar.proofs.TypesSound.{SpelledType, SpelledTypes, SpelledDecl, SpelledDecls, TypeSound, types_sound, read_type_sound, decl_sound, decls_sound}

-- what was read at a level is spelled before what is left
abbrev pub Spelled : (List Token → Type 0) → Level → ℕ → List Token → Tree × List Token → Type 0
Spelled E l d ts x = SpellsBefore l x.0 ts x.1 × (depth_at l x.0 ≤ suc d) × E x.1

pub record TreeSound (E : List Token → Type 0) (l : Level) (d : ℕ) (item : List Token → Read Tree) : Type 0 where
  pub sound : (ts : List Token) → E ts → Holds (Spelled E l d ts) (Fails E) (item ts)

pub record InnerSound (E : List Token → Type 0) (d : ℕ) (i : Option Inner) : Type 0 where
  pub sound : (g : Inner) → i ≡ Some g → (e : ℕ) × (suc e ≤ d) × TypeSound E TypeLevel.type e g.type × TreeSound E Level.term e g.term

-- phrases behind a symbol each
abbrev pub SpelledTrees : (List Token → Type 0) → Symbol → Level → ℕ → List Token → Trees × List Token → Type 0
SpelledTrees E s l d ts x = MoreTrees s l x.0 ts x.1 × (trees_nesting x.0 ≤ suc d) × E x.1

pub trees_sound : (E : List Token → Type 0) → Lasts E → (s : Symbol) (l : Level) (d : ℕ) (item : List Token → Read Tree) → TreeSound E l d item →
    (g : ℕ) (ts : List Token) → E ts → Holds (SpelledTrees E s l d ts) (Fails E) (trees_at g s item ts)
trees_sound E a s l d item i zero ts h = (MoreTrees.no_trees, omega arith, h)
trees_sound E a s l d item i (suc g) ts h =
    holds_if (SpelledTrees E s l d ts) (Fails E) (begins_with s ts) _ (Ok (Trees.no_trees, ts))
    (λ e. holds_bind (Spelled E l d (behind ts)) (Fails E) (SpelledTrees E s l d ts) (item (behind ts)) _ (i.sound (behind ts) (lasts_symbol E a s ts e h))
    (λ x m. holds_mapped (SpelledTrees E s l d x.1) (Fails E) (SpelledTrees E s l d ts) (Trees.and_tree x.0) (trees_at g s item x.1) (trees_sound E a s l d item i g x.1 m.2)
    (λ y n. (subst (λ us. MoreTrees s l (Trees.and_tree x.0 y.0) us y.1) (sym (begins_is s ts e)) (MoreTrees.and_tree m.0 n.0), omega (arith, nested_depth (suc d) l x.0 m.0 m.1, n.1), n.2))))
    (λ e. (MoreTrees.no_trees, omega arith, h))

pub sequence_sound : (E : List Token → Type 0) → Lasts E → (d : ℕ) (term : List Token → Read Tree) → TreeSound E Level.term d term → TreeSound E Level.sequence d (sequence_at term)
sequence_sound E a d term s = record {
  sound = λ ts h.
      holds_bind (Spelled E Level.term d ts) (Fails E) (Spelled E Level.sequence d ts) (term ts) _ (s.sound ts h)
      (λ x m. holds_mapped (SpelledTrees E symbol.Semicolon Level.term d x.1) (Fails E) (Spelled E Level.sequence d ts) (λ more. sequence_of x.0 more (front ts)) (trees_at (length x.1) symbol.Semicolon term x.1)
      (trees_sound E a symbol.Semicolon Level.term d term s (length x.1) x.1 m.2)
      (λ y n. (SpellsBefore.sequence m.0 n.0, omega (arith, sequence_nested x.0 y.0 (front ts), nested_depth (suc d) Level.term x.0 m.0 m.1, n.1), n.2)));
}

pub phrase_sound : (E : List Token → Type 0) → Lasts E → (d : ℕ) (term : List Token → Read Tree) → TreeSound E Level.term d term → TreeSound E Level.phrase d (phrase_at term)
phrase_sound E a d term s = record {
  sound = λ ts h.
      holds_bind (Spelled E Level.sequence d ts) (Fails E) (Spelled E Level.phrase d ts) (sequence_at term ts) _ ((sequence_sound E a d term s).sound ts h)
      (λ x m. holds_mapped (SpelledTrees E symbol.Comma Level.sequence d x.1) (Fails E) (Spelled E Level.phrase d ts) (λ more. merge_of x.0 more (front ts)) (trees_at (length x.1) symbol.Comma (sequence_at term) x.1)
      (trees_sound E a symbol.Comma Level.sequence d (sequence_at term) (sequence_sound E a d term s) (length x.1) x.1 m.2)
      (λ y n. (SpellsBefore.phrase m.0 n.0, omega (arith, merge_nested x.0 y.0 (front ts), m.1, n.1), n.2)));
}

abbrev pub AreDots : (List Token → Type 0) → List Token → List ℕ × List Token → Type 0
AreDots E ts x = Dots x.0 ts x.1 × E x.1

pub dots_sound : (E : List Token → Type 0) → Lasts E → (g : ℕ) (ts : List Token) → E ts → Holds (AreDots E ts) (Fails E) (dots_at g ts)
dots_sound E a zero ts h = (Dots.no_dots, h)
dots_sound E a (suc g) ts h =
    holds_if (AreDots E ts) (Fails E) (begins_with symbol.Dot ts) _ (Ok ([], ts))
    (λ e. holds_bind (IsNamed E (behind ts)) (Fails E) (AreDots E ts) (name_at (behind ts)) _ (name_sound E a (behind ts) (lasts_symbol E a symbol.Dot ts e h))
    (λ x m. holds_mapped (AreDots E x.1) (Fails E) (AreDots E ts) (λ names. x.0 ∷ names) (dots_at g x.1) (dots_sound E a g x.1 m.1)
    (λ y n. (subst (λ us. Dots (x.0 ∷ y.0) us y.1) (sym (begins_is symbol.Dot ts e ∙ ap (λ us. symbol_at symbol.Dot (front ts) ∷ us) m.0)) (Dots.and_dot n.0), n.1))))
    (λ e. (Dots.no_dots, h))

-- phrases in parentheses
group_sound : (E : List Token → Type 0) → Lasts E → (d : ℕ) (i : Option Inner) → InnerSound E d i → (p : Place) (ts : List Token) → E (symbol_at symbol.OpenParen p ∷ ts) →
    (g : Inner) → i ≡ Some g → Holds (Spelled E Level.primary d (symbol_at symbol.OpenParen p ∷ ts)) (Fails E) (group_at g (symbol_at symbol.OpenParen p ∷ ts))
group_sound E a d i s p ts h g e =
    let (n, le, types, terms) = s.sound g e in
    let P : Tree × List Token → Type 0 = Spelled E Level.primary d (symbol_at symbol.OpenParen p ∷ ts) in
    holds_bind (Spelled E Level.phrase n ts) (Fails E) P (phrase_at g.term ts) _ ((phrase_sound E a n g.term terms).sound ts (a.behind (symbol_at symbol.OpenParen p) ts refl h))
    (λ x m. holds_bind (IsBehind E (symbol_at symbol.CloseParen (front x.1)) x.1) (Fails E) P (expect symbol.CloseParen x.1) _ (expect_sound E a symbol.CloseParen x.1 m.2)
    (λ r o. (SpellsBefore.group (subst (λ us. SpellsBefore Level.phrase x.0 ts us) o.0 m.0), omega (arith, m.1), o.1)))

seq_sound : (E : List Token → Type 0) → Lasts E → (d : ℕ) (i : Option Inner) → InnerSound E d i → (p : Place) (ts : List Token) → E (word_at word.Seq p ∷ ts) →
    (g : Inner) → i ≡ Some g → Holds (Spelled E Level.primary d (word_at word.Seq p ∷ ts)) (Fails E) (seq_at g (word_at word.Seq p ∷ ts))
seq_sound E a d i s p ts h g e =
    let (n, le, types, terms) = s.sound g e in
    let P : Tree × List Token → Type 0 = Spelled E Level.primary d (word_at word.Seq p ∷ ts) in
    holds_bind (IsBehind E (symbol_at symbol.OpenParen (front ts)) ts) (Fails E) P (expect symbol.OpenParen ts) _ (expect_sound E a symbol.OpenParen ts (a.behind (word_at word.Seq p) ts refl h))
    (λ k hk. holds_bind (Spelled E Level.term n k) (Fails E) P (g.term k) _ (terms.sound k hk.1)
    (λ x m. holds_bind (SpelledTrees E symbol.Comma Level.term n x.1) (Fails E) P (trees_at (length x.1) symbol.Comma g.term x.1) _ (trees_sound E a symbol.Comma Level.term n g.term terms (length x.1) x.1 m.2)
    (λ y o. holds_bind (IsBehind E (symbol_at symbol.CloseParen (front y.1)) y.1) (Fails E) P (expect symbol.CloseParen y.1) _ (expect_sound E a symbol.CloseParen y.1 o.2)
    (λ r q. (
      subst (λ us. SpellsBefore Level.primary (Tree.seq_of (Trees.and_tree x.0 y.0) p) (word_at word.Seq p ∷ us) r) (sym hk.0)
          (SpellsBefore.seq_of m.0 (subst (λ us. MoreTrees symbol.Comma Level.term y.0 x.1 us) q.0 o.0)),
      omega (arith, nested_depth (suc n) Level.term x.0 m.0 m.1, o.1),
      q.1,
    )))))

primary_sound : (E : List Token → Type 0) → Lasts E → (d : ℕ) (i : Option Inner) → InnerSound E d i → TreeSound E Level.primary d (primary_at i)
primary_sound E a d i s = record { sound = go }
  where
    by_kind : (p : Place) (ts : List Token) (k : TokenKind) → E (token k p ∷ ts) → Holds (Spelled E Level.primary d (token k p ∷ ts)) (Fails E) (primary_by_kind k i (token k p ∷ ts))
    by_kind p ts (kind.Ident n) h = (SpellsBefore.ident, omega arith, a.behind (ident_at n p) ts refl h)
    by_kind p ts (kind.Number v) h = (SpellsBefore.number, omega arith, a.behind (token (kind.Number v) p) ts refl h)
    by_kind p ts (kind.Letter c) h = (SpellsBefore.letter, omega arith, a.behind (token (kind.Letter c) p) ts refl h)
    by_kind p ts (kind.Str bytes) h = (SpellsBefore.string, omega arith, a.behind (token (kind.Str bytes) p) ts refl h)
    by_kind p ts (kind.Word word.True) h = (SpellsBefore.truth {b = true}, omega arith, a.behind (word_at word.True p) ts refl h)
    by_kind p ts (kind.Word word.False) h = (SpellsBefore.truth {b = false}, omega arith, a.behind (word_at word.False p) ts refl h)
    by_kind p ts (kind.Word word.Skip) h = (SpellsBefore.skip, omega arith, a.behind (word_at word.Skip p) ts refl h)
    by_kind p ts (kind.Sym symbol.OpenParen) h =
        holds_nested (Spelled E Level.primary d (symbol_at symbol.OpenParen p ∷ ts)) (Fails E) i (symbol_at symbol.OpenParen p ∷ ts) (λ g. group_at g (symbol_at symbol.OpenParen p ∷ ts)) h (group_sound E a d i s p ts h)
    by_kind p ts (kind.Word word.Seq) h =
        holds_nested (Spelled E Level.primary d (word_at word.Seq p ∷ ts)) (Fails E) i (word_at word.Seq p ∷ ts) (λ g. seq_at g (word_at word.Seq p ∷ ts)) h (seq_sound E a d i s p ts h)
    by_kind p ts _ h = h

    go : (ts : List Token) → E ts → Holds (Spelled E Level.primary d ts) (Fails E) (primary_at i ts)
    go [] h = h
    go (t ∷ ts) h = by_kind t.place ts t.kind h

select_sound : (E : List Token → Type 0) → Lasts E → (d : ℕ) (i : Option Inner) → InnerSound E d i → TreeSound E Level.select d (select_at i)
select_sound E a d i s = record {
  sound = λ ts h.
      holds_bind (Spelled E Level.primary d ts) (Fails E) (Spelled E Level.select d ts) (primary_at i ts) _ ((primary_sound E a d i s).sound ts h)
      (λ x m. holds_mapped (AreDots E x.1) (Fails E) (Spelled E Level.select d ts) (λ names. select_of x.0 names (front ts)) (dots_at (length x.1) x.1) (dots_sound E a (length x.1) x.1 m.2)
      (λ y n. (SpellsBefore.select m.0 n.0, omega (arith, select_below x.0 y.0 (front ts), m.1), n.1)));
}

-- arguments
abbrev pub SpelledArguments : (List Token → Type 0) → ℕ → List Token → Trees × List Token → Type 0
SpelledArguments E d ts x = MoreArguments x.0 ts x.1 × (trees_below x.0 ≤ d) × E x.1

pub arguments_sound : (E : List Token → Type 0) → Lasts E → (d : ℕ) (item : List Token → Read Tree) → TreeSound E Level.select d item →
    (g : ℕ) (ts : List Token) → E ts → Holds (SpelledArguments E d ts) (Fails E) (arguments_at g item ts)
arguments_sound E a d item i zero ts h = (MoreArguments.no_arguments, omega arith, h)
arguments_sound E a d item i (suc g) ts h =
    holds_if (SpelledArguments E d ts) (Fails E) (starts ts) _ (Ok (Trees.no_trees, ts))
    (λ e. holds_bind (Spelled E Level.select d ts) (Fails E) (SpelledArguments E d ts) (item ts) _ (i.sound ts h)
    (λ x m. holds_mapped (SpelledArguments E d x.1) (Fails E) (SpelledArguments E d ts) (Trees.and_tree x.0) (arguments_at g item x.1) (arguments_sound E a d item i g x.1 m.2)
    (λ y n. (MoreArguments.and_argument m.0 n.0, omega (arith, m.1, n.1), n.2))))
    (λ e. (MoreArguments.no_arguments, omega arith, h))

apply_sound : (E : List Token → Type 0) → Lasts E → (d : ℕ) (i : Option Inner) → InnerSound E d i → TreeSound E Level.apply d (apply_at i)
apply_sound E a d i s = record {
  sound = λ ts h.
      holds_bind (Spelled E Level.select d ts) (Fails E) (Spelled E Level.apply d ts) (select_at i ts) _ ((select_sound E a d i s).sound ts h)
      (λ x m. holds_mapped (SpelledArguments E d x.1) (Fails E) (Spelled E Level.apply d ts) (λ more. apply_of x.0 more (front ts)) (arguments_at (length x.1) (select_at i) x.1)
      (arguments_sound E a d (select_at i) (select_sound E a d i s) (length x.1) x.1 m.2)
      (λ y n. (SpellsBefore.apply m.0 n.0, omega (arith, apply_below x.0 y.0 (front ts), m.1, n.1), n.2)));
}

prefixed_sound : (E : List Token → Type 0) → Lasts E → (d : ℕ) (i : Option Inner) → InnerSound E d i → TreeSound E Level.prefixed d (prefixed_at i)
prefixed_sound E a d i s = record {
  sound = λ ts h.
      let f = prefixes_sound E a ts h in
      holds_mapped (Spelled E Level.apply d (prefixes_at ts).1) (Fails E) (Spelled E Level.prefixed d ts) (λ p. prefixed_of (prefixes_at ts).0 p (front ts)) (apply_at i (prefixes_at ts).1)
      ((apply_sound E a d i s).sound (prefixes_at ts).1 f.1)
      (λ x m. (SpellsBefore.prefixed f.0 m.0, omega (arith, prefixed_below (prefixes_at ts).0 x.0 (front ts), m.1), m.2));
}

-- operands behind an operator each
abbrev pub SpelledLinks : (List Token → Type 0) → Level → Level → ℕ → List Token → Links × List Token → Type 0
SpelledLinks E c l d ts x = MoreLinks c l x.0 ts x.1 × (links_below x.0 ≤ d) × E x.1

pub links_sound : (E : List Token → Type 0) → Lasts E → (c l : Level) (d : ℕ) (item : List Token → Read Tree) → depth_at l ≡ (λ t. suc (below t)) → TreeSound E l d item →
    (g : ℕ) (ts : List Token) → E ts → Holds (SpelledLinks E c l d ts) (Fails E) (links_at g c item ts)
links_sound E a c l d item o i zero ts h = (MoreLinks.no_links, omega arith, h)
links_sound E a c l d item o i (suc g) ts h =
    holds_link (SpelledLinks E c l d ts) (Fails E) (operator_at c ts) _ (Ok (Links.no_links, ts))
    (λ op e. holds_bind (Spelled E l d (behind ts)) (Fails E) (SpelledLinks E c l d ts) (item (behind ts)) _ (i.sound (behind ts) (lasts_operator E a c op ts e h))
    (λ x m. holds_mapped (SpelledLinks E c l d x.1) (Fails E) (SpelledLinks E c l d ts) (Links.and_link op (front ts) x.0) (links_at g c item x.1) (links_sound E a c l d item o i g x.1 m.2)
    (λ y n. (
      subst (λ us. MoreLinks c l (Links.and_link op (front ts) x.0 y.0) us y.1) (sym (operator_is c op ts e).1) (MoreLinks.and_link (operator_is c op ts e).0 m.0 n.0),
      (let k : suc (below x.0) ≤ suc d = rw o at m.1 in omega (arith, n.1)),
      n.2,
    ))))
    (MoreLinks.no_links, omega arith, h)

product_sound : (E : List Token → Type 0) → Lasts E → (d : ℕ) (i : Option Inner) → InnerSound E d i → TreeSound E Level.product d (product_at i)
product_sound E a d i s = record {
  sound = λ ts h.
      holds_bind (Spelled E Level.prefixed d ts) (Fails E) (Spelled E Level.product d ts) (prefixed_at i ts) _ ((prefixed_sound E a d i s).sound ts h)
      (λ x m. holds_mapped (SpelledLinks E Level.product Level.prefixed d x.1) (Fails E) (Spelled E Level.product d ts) (λ more. chain_of x.0 more (front ts)) (links_at (length x.1) Level.product (prefixed_at i) x.1)
      (links_sound E a Level.product Level.prefixed d (prefixed_at i) refl (prefixed_sound E a d i s) (length x.1) x.1 m.2)
      (λ y n. (SpellsBefore.product m.0 n.0, omega (arith, chain_below x.0 y.0 (front ts), m.1, n.1), n.2)));
}

sum_sound : (E : List Token → Type 0) → Lasts E → (d : ℕ) (i : Option Inner) → InnerSound E d i → TreeSound E Level.sum d (sum_at i)
sum_sound E a d i s = record {
  sound = λ ts h.
      holds_bind (Spelled E Level.product d ts) (Fails E) (Spelled E Level.sum d ts) (product_at i ts) _ ((product_sound E a d i s).sound ts h)
      (λ x m. holds_mapped (SpelledLinks E Level.sum Level.product d x.1) (Fails E) (Spelled E Level.sum d ts) (λ more. chain_of x.0 more (front ts)) (links_at (length x.1) Level.sum (product_at i) x.1)
      (links_sound E a Level.sum Level.product d (product_at i) refl (product_sound E a d i s) (length x.1) x.1 m.2)
      (λ y n. (SpellsBefore.sum m.0 n.0, omega (arith, chain_below x.0 y.0 (front ts), m.1, n.1), n.2)));
}

relation_sound : (E : List Token → Type 0) → Lasts E → (d : ℕ) (i : Option Inner) → InnerSound E d i → TreeSound E Level.relation d (relation_at i)
relation_sound E a d i s = record {
  sound = λ ts h.
      holds_bind (Spelled E Level.sum d ts) (Fails E) (Spelled E Level.relation d ts) (sum_at i ts) _ ((sum_sound E a d i s).sound ts h)
      (λ x m. holds_link (Spelled E Level.relation d ts) (Fails E) (operator_at Level.relation x.1) _ (Ok x)
      (λ op e. holds_mapped (Spelled E Level.sum d (behind x.1)) (Fails E) (Spelled E Level.relation d ts) (λ u. Tree.chain x.0 (Links.and_link op (front x.1) u Links.no_links) (front ts)) (sum_at i (behind x.1))
      ((sum_sound E a d i s).sound (behind x.1) (lasts_operator E a Level.relation op x.1 e m.2))
      (λ y n. (SpellsBefore.related (operator_is Level.relation op x.1 e).0 (subst (λ us. SpellsBefore Level.sum x.0 ts us) (operator_is Level.relation op x.1 e).1 m.0) n.0, omega (arith, m.1, n.1), n.2)))
      (SpellsBefore.no_relation m.0, m.1, m.2));
}

both_sound : (E : List Token → Type 0) → Lasts E → (d : ℕ) (i : Option Inner) → InnerSound E d i → TreeSound E Level.both d (both_at i)
both_sound E a d i s = record {
  sound = λ ts h.
      holds_bind (Spelled E Level.relation d ts) (Fails E) (Spelled E Level.both d ts) (relation_at i ts) _ ((relation_sound E a d i s).sound ts h)
      (λ x m. holds_mapped (SpelledLinks E Level.both Level.relation d x.1) (Fails E) (Spelled E Level.both d ts) (λ more. chain_of x.0 more (front ts)) (links_at (length x.1) Level.both (relation_at i) x.1)
      (links_sound E a Level.both Level.relation d (relation_at i) refl (relation_sound E a d i s) (length x.1) x.1 m.2)
      (λ y n. (SpellsBefore.both m.0 n.0, omega (arith, chain_below x.0 y.0 (front ts), m.1, n.1), n.2)));
}

either_sound : (E : List Token → Type 0) → Lasts E → (d : ℕ) (i : Option Inner) → InnerSound E d i → TreeSound E Level.either d (either_at i)
either_sound E a d i s = record {
  sound = λ ts h.
      holds_bind (Spelled E Level.both d ts) (Fails E) (Spelled E Level.either d ts) (both_at i ts) _ ((both_sound E a d i s).sound ts h)
      (λ x m. holds_mapped (SpelledLinks E Level.either Level.both d x.1) (Fails E) (Spelled E Level.either d ts) (λ more. chain_of x.0 more (front ts)) (links_at (length x.1) Level.either (both_at i) x.1)
      (links_sound E a Level.either Level.both d (both_at i) refl (both_sound E a d i s) (length x.1) x.1 m.2)
      (λ y n. (SpellsBefore.either m.0 n.0, omega (arith, chain_below x.0 y.0 (front ts), m.1, n.1), n.2)));
}

assign_sound : (E : List Token → Type 0) → Lasts E → (d : ℕ) (i : Option Inner) → InnerSound E d i → TreeSound E Level.term d (assign_at i)
assign_sound E a d i s = record {
  sound = λ ts h.
      holds_bind (Spelled E Level.either d ts) (Fails E) (Spelled E Level.term d ts) (either_at i ts) _ ((either_sound E a d i s).sound ts h)
      (λ x m. holds_if (Spelled E Level.term d ts) (Fails E) (begins_with symbol.ColonEquals x.1) _ (Ok x)
      (λ e. holds_nested (Spelled E Level.term d ts) (Fails E) i x.1 _ m.2
      (λ g f. let (n, le, types, terms) = s.sound g f in
      holds_mapped (Spelled E Level.term n (behind x.1)) (Fails E) (Spelled E Level.term d ts) (λ u. Tree.assign x.0 (front x.1) u (front ts)) (g.term (behind x.1))
      (terms.sound (behind x.1) (lasts_symbol E a symbol.ColonEquals x.1 e m.2))
      (λ y o. (
        SpellsBefore.assign (subst (λ us. SpellsBefore Level.either x.0 ts us) (begins_is symbol.ColonEquals x.1 e) m.0) o.0,
        omega (arith, m.1, nested_depth (suc n) Level.term y.0 o.0 o.1),
        o.2,
      ))))
      (λ e. (SpellsBefore.no_assign m.0, m.1, m.2)));
}

-- definitions
pub record SpelledDef (E : List Token → Type 0) (d : ℕ) (ts : List Token) (x : OneDef × List Token) : Type 0 where
  pub rest : List Token
  pub equals : Place
  pub is : ts ≡ ident_at x.0.name x.0.at ∷ symbol_at symbol.EqualsEquals equals ∷ rest
  pub spelled : Spelled E Level.term d rest (x.0.body, x.1)

pub def_sound : (E : List Token → Type 0) → Lasts E → (d : ℕ) (term : List Token → Read Tree) → TreeSound E Level.term d term → (ts : List Token) → E ts →
    Holds (SpelledDef E d ts) (Fails E) (def_at term ts)
def_sound E a d term s ts h =
    holds_bind (IsNamed E ts) (Fails E) (SpelledDef E d ts) (name_at ts) _ (name_sound E a ts h)
    (λ n hn. holds_bind (IsBehind E (symbol_at symbol.EqualsEquals (front n.1)) n.1) (Fails E) (SpelledDef E d ts) (expect symbol.EqualsEquals n.1) _ (expect_sound E a symbol.EqualsEquals n.1 hn.1)
    (λ m hm. holds_mapped (Spelled E Level.term d m) (Fails E) (SpelledDef E d ts) (λ t. record { name = n.0; at = front ts; body = t }) (term m) (s.sound m hm.1)
    (λ x hx. record { rest = m; equals = front n.1; is = hn.0 ∙ ap (λ us. ident_at n.0 (front ts) ∷ us) hm.0; spelled = hx })))

abbrev pub SpelledDefs : (List Token → Type 0) → ℕ → List Token → Defs × List Token → Type 0
SpelledDefs E d ts x = MoreDefs x.0 ts x.1 × (defs_nesting x.0 ≤ suc d) × E x.1

def_more : (E : List Token → Type 0) (d : ℕ) (ts : List Token) (x : OneDef × List Token) (y : Defs × List Token) → begins_with symbol.Comma ts ≡ true →
    SpelledDef E d (behind ts) x → SpelledDefs E d x.1 y → SpelledDefs E d ts (Defs.and_def x.0.name x.0.at x.0.body y.0, y.1)
def_more E d ts x y e m n = (
  subst (λ us. MoreDefs (Defs.and_def x.0.name x.0.at x.0.body y.0) us y.1) (sym (begins_is symbol.Comma ts e ∙ ap (λ us. symbol_at symbol.Comma (front ts) ∷ us) m.is)) (MoreDefs.and_def m.spelled.0 n.0),
  omega (arith, nested_depth (suc d) Level.term x.0.body m.spelled.0 m.spelled.1, n.1),
  n.2,
)

pub defs_sound : (E : List Token → Type 0) → Lasts E → (d : ℕ) (term : List Token → Read Tree) → TreeSound E Level.term d term → (g : ℕ) (ts : List Token) → E ts →
    Holds (SpelledDefs E d ts) (Fails E) (defs_at g term ts)
defs_sound E a d term s zero ts h = (MoreDefs.no_defs, omega arith, h)
defs_sound E a d term s (suc g) ts h =
    holds_if (SpelledDefs E d ts) (Fails E) (begins_with symbol.Comma ts) _ (Ok (Defs.no_defs, ts))
    (λ e. holds_bind (SpelledDef E d (behind ts)) (Fails E) (SpelledDefs E d ts) (def_at term (behind ts)) _ (def_sound E a d term s (behind ts) (lasts_symbol E a symbol.Comma ts e h))
    (λ x m. holds_mapped (SpelledDefs E d x.1) (Fails E) (SpelledDefs E d ts) (Defs.and_def x.0.name x.0.at x.0.body) (defs_at g term x.1) (defs_sound E a d term s g x.1 m.spelled.2)
    (λ y n. def_more E d ts x y e m n)))
    (λ e. (MoreDefs.no_defs, omega arith, h))

escape_sound : (E : List Token → Type 0) → Lasts E → (d e : ℕ) → suc e ≤ d → (g : Inner) → TypeSound E TypeLevel.type e g.type → TreeSound E Level.term e g.term →
    (p : Place) (ts : List Token) → E ts → Holds (Spelled E Level.term d (word_at word.Escape p ∷ ts)) (Fails E) (escape_at g p ts)
escape_sound E a d e le g types terms p ts h =
    let P : Tree × List Token → Type 0 = Spelled E Level.term d (word_at word.Escape p ∷ ts) in
    holds_bind (IsNamed E ts) (Fails E) P (name_at ts) _ (name_sound E a ts h)
    (λ n hn. holds_bind (IsBehind E (word_at word.In (front n.1)) n.1) (Fails E) P (expect_word word.In n.1) _ (expect_word_sound E a word.In n.1 hn.1)
    (λ k hk. holds_mapped (Spelled E Level.term e k) (Fails E) P (λ z. Tree.escape n.0 z p) (g.term k) (terms.sound k hk.1)
    (λ t ht. (subst (λ us. SpellsBefore Level.term (Tree.escape n.0 t.0 p) (word_at word.Escape p ∷ us) t.1) (sym (hn.0 ∙ ap (λ us. ident_at n.0 (front ts) ∷ us) (hk.0))) (SpellsBefore.escape ht.0), omega (arith, nested_depth (suc e) Level.term t.0 ht.0 ht.1), ht.2))))

accept_sound : (E : List Token → Type 0) → Lasts E → (d e : ℕ) → suc e ≤ d → (g : Inner) → TypeSound E TypeLevel.type e g.type → TreeSound E Level.term e g.term →
    (p : Place) (ts : List Token) → E ts → Holds (Spelled E Level.term d (word_at word.Accept p ∷ ts)) (Fails E) (accept_at g p ts)
accept_sound E a d e le g types terms p ts h =
    let P : Tree × List Token → Type 0 = Spelled E Level.term d (word_at word.Accept p ∷ ts) in
    holds_bind (IsNamed E ts) (Fails E) P (name_at ts) _ (name_sound E a ts h)
    (λ n hn. holds_bind (IsBehind E (symbol_at symbol.Colon (front n.1)) n.1) (Fails E) P (expect symbol.Colon n.1) _ (expect_sound E a symbol.Colon n.1 hn.1)
    (λ m hm. holds_bind (IsDatum E m) (Fails E) P (data_at m) _ (data_sound E a m hm.1)
    (λ b hb. holds_bind (IsBehind E (word_at word.In (front b.1)) b.1) (Fails E) P (expect_word word.In b.1) _ (expect_word_sound E a word.In b.1 hb.2)
    (λ k hk. holds_mapped (Spelled E Level.term e k) (Fails E) P (λ z. Tree.accept n.0 b.0 z p) (g.term k) (terms.sound k hk.1)
    (λ t ht. (subst (λ us. SpellsBefore Level.term (Tree.accept n.0 b.0 t.0 p) (word_at word.Accept p ∷ us) t.1) (sym (hn.0 ∙ ap (λ us. ident_at n.0 (front ts) ∷ us) (hm.0 ∙ ap (λ us. symbol_at symbol.Colon (front n.1) ∷ us) (hb.1 ∙ ap (λ us. word_at (atom_word b.0) (front m) ∷ us) (hk.0))))) (SpellsBefore.accept hb.0 ht.0), omega (arith, nested_depth (suc e) Level.term t.0 ht.0 ht.1), ht.2))))))

new_sound : (E : List Token → Type 0) → Lasts E → (d e : ℕ) → suc e ≤ d → (g : Inner) → TypeSound E TypeLevel.type e g.type → TreeSound E Level.term e g.term →
    (p : Place) (ts : List Token) → E ts → Holds (Spelled E Level.term d (word_at word.New p ∷ ts)) (Fails E) (new_at g p ts)
new_sound E a d e le g types terms p ts h =
    let P : Tree × List Token → Type 0 = Spelled E Level.term d (word_at word.New p ∷ ts) in
    holds_bind (IsNamed E ts) (Fails E) P (name_at ts) _ (name_sound E a ts h)
    (λ n hn. holds_bind (IsBehind E (symbol_at symbol.Colon (front n.1)) n.1) (Fails E) P (expect symbol.Colon n.1) _ (expect_sound E a symbol.Colon n.1 hn.1)
    (λ m hm. holds_bind (IsDatum E m) (Fails E) P (data_at m) _ (data_sound E a m hm.1)
    (λ b hb. holds_bind (IsBehind E (symbol_at symbol.ColonEquals (front b.1)) b.1) (Fails E) P (expect symbol.ColonEquals b.1) _ (expect_sound E a symbol.ColonEquals b.1 hb.2)
    (λ k hk. holds_bind (Spelled E Level.term e k) (Fails E) P (g.term k) _ (terms.sound k hk.1)
    (λ t ht. holds_bind (IsBehind E (word_at word.In (front t.1)) t.1) (Fails E) P (expect_word word.In t.1) _ (expect_word_sound E a word.In t.1 ht.2)
    (λ j hj. holds_mapped (Spelled E Level.term e j) (Fails E) P (λ z. Tree.new n.0 b.0 t.0 z p) (g.term j) (terms.sound j hj.1)
    (λ u hu. (subst (λ us. SpellsBefore Level.term (Tree.new n.0 b.0 t.0 u.0 p) (word_at word.New p ∷ us) u.1) (sym (hn.0 ∙ ap (λ us. ident_at n.0 (front ts) ∷ us) (hm.0 ∙ ap (λ us. symbol_at symbol.Colon (front n.1) ∷ us) (hb.1 ∙ ap (λ us. word_at (atom_word b.0) (front m) ∷ us) (hk.0))))) (SpellsBefore.new hb.0 (subst (λ us. SpellsBefore Level.term t.0 k us) hj.0 ht.0) hu.0), omega (arith, nested_depth (suc e) Level.term t.0 ht.0 ht.1, nested_depth (suc e) Level.term u.0 hu.0 hu.1), hu.2))))))))

let_type_sound : (E : List Token → Type 0) → Lasts E → (d e : ℕ) → suc e ≤ d → (g : Inner) → TypeSound E TypeLevel.type e g.type → TreeSound E Level.term e g.term →
    (p : Place) (ts : List Token) → E ts → Holds (Spelled E Level.term d (word_at word.Lettype p ∷ ts)) (Fails E) (let_type_at g p ts)
let_type_sound E a d e le g types terms p ts h =
    let P : Tree × List Token → Type 0 = Spelled E Level.term d (word_at word.Lettype p ∷ ts) in
    holds_bind (IsNamed E ts) (Fails E) P (name_at ts) _ (name_sound E a ts h)
    (λ n hn. holds_bind (IsBehind E (symbol_at symbol.EqualsEquals (front n.1)) n.1) (Fails E) P (expect symbol.EqualsEquals n.1) _ (expect_sound E a symbol.EqualsEquals n.1 hn.1)
    (λ m hm. holds_bind (SpelledType E TypeLevel.type e m) (Fails E) P (g.type m) _ (types.sound m hm.1)
    (λ b hb. holds_bind (IsBehind E (word_at word.In (front b.1)) b.1) (Fails E) P (expect_word word.In b.1) _ (expect_word_sound E a word.In b.1 hb.2)
    (λ k hk. holds_mapped (Spelled E Level.term e k) (Fails E) P (λ z. Tree.let_type n.0 b.0 z p) (g.term k) (terms.sound k hk.1)
    (λ t ht. (subst (λ us. SpellsBefore Level.term (Tree.let_type n.0 b.0 t.0 p) (word_at word.Lettype p ∷ us) t.1) (sym (hn.0 ∙ ap (λ us. ident_at n.0 (front ts) ∷ us) (hm.0))) (SpellsBefore.let_type (subst (λ us. SpellsType TypeLevel.type b.0 m us) hk.0 hb.0) ht.0), omega (arith, hb.1, nested_depth (suc e) Level.term t.0 ht.0 ht.1), ht.2))))))

lam_sound : (E : List Token → Type 0) → Lasts E → (d e : ℕ) → suc e ≤ d → (g : Inner) → TypeSound E TypeLevel.type e g.type → TreeSound E Level.term e g.term →
    (p : Place) (ts : List Token) → E ts → Holds (Spelled E Level.term d (symbol_at symbol.Backslash p ∷ ts)) (Fails E) (lam_at g p ts)
lam_sound E a d e le g types terms p ts h =
    let P : Tree × List Token → Type 0 = Spelled E Level.term d (symbol_at symbol.Backslash p ∷ ts) in
    holds_bind (IsNamed E ts) (Fails E) P (name_at ts) _ (name_sound E a ts h)
    (λ n hn. holds_bind (IsBehind E (symbol_at symbol.Colon (front n.1)) n.1) (Fails E) P (expect symbol.Colon n.1) _ (expect_sound E a symbol.Colon n.1 hn.1)
    (λ m hm. holds_bind (SpelledType E TypeLevel.type e m) (Fails E) P (g.type m) _ (types.sound m hm.1)
    (λ b hb. holds_bind (SpelledTypes E symbol.Bar TypeLevel.type e b.1) (Fails E) P (types_at (length b.1) symbol.Bar g.type b.1) _ (types_sound E a symbol.Bar TypeLevel.type e g.type types (length b.1) b.1 hb.2)
    (λ c hc. holds_bind (IsBehind E (symbol_at symbol.Dot (front c.1)) c.1) (Fails E) P (expect symbol.Dot c.1) _ (expect_sound E a symbol.Dot c.1 hc.2)
    (λ k hk. holds_mapped (Spelled E Level.term e k) (Fails E) P (λ z. Tree.lam n.0 (TypeTrees.and_type b.0 c.0) z p) (g.term k) (terms.sound k hk.1)
    (λ t ht. (subst (λ us. SpellsBefore Level.term (Tree.lam n.0 (TypeTrees.and_type b.0 c.0) t.0 p) (symbol_at symbol.Backslash p ∷ us) t.1) (sym (hn.0 ∙ ap (λ us. ident_at n.0 (front ts) ∷ us) (hm.0))) (SpellsBefore.lam hb.0 (subst (λ us. MoreTypes symbol.Bar TypeLevel.type c.0 b.1 us) hk.0 hc.0) ht.0), omega (arith, hb.1, types_deeper c.0 e hc.1, nested_depth (suc e) Level.term t.0 ht.0 ht.1), ht.2)))))))

let_sound : (E : List Token → Type 0) → Lasts E → (d e : ℕ) → suc e ≤ d → (g : Inner) → TypeSound E TypeLevel.type e g.type → TreeSound E Level.term e g.term →
    (p : Place) (ts : List Token) → E ts → Holds (Spelled E Level.term d (word_at word.Let p ∷ ts)) (Fails E) (let_at g p ts)
let_sound E a d e le g types terms p ts h =
    let P : Tree × List Token → Type 0 = Spelled E Level.term d (word_at word.Let p ∷ ts) in
    holds_bind (SpelledDef E e ts) (Fails E) P (def_at g.term ts) _ (def_sound E a e g.term terms ts h)
    (λ q hq. holds_bind (SpelledDefs E e q.1) (Fails E) P (defs_at (length q.1) g.term q.1) _ (defs_sound E a e g.term terms (length q.1) q.1 hq.spelled.2)
    (λ c hc. holds_bind (IsBehind E (word_at word.In (front c.1)) c.1) (Fails E) P (expect_word word.In c.1) _ (expect_word_sound E a word.In c.1 hc.2)
    (λ k hk. holds_mapped (Spelled E Level.term e k) (Fails E) P (λ z. Tree.let_in (Defs.and_def q.0.name q.0.at q.0.body c.0) z p) (g.term k) (terms.sound k hk.1)
    (λ t ht. (subst (λ us. SpellsBefore Level.term (Tree.let_in (Defs.and_def q.0.name q.0.at q.0.body c.0) t.0 p) (word_at word.Let p ∷ us) t.1) (sym hq.is) (SpellsBefore.let_in hq.spelled.0 (subst (λ us. MoreDefs c.0 q.1 us) hk.0 hc.0) ht.0), omega (arith, nested_depth (suc e) Level.term q.0.body hq.spelled.0 hq.spelled.1, hc.1, nested_depth (suc e) Level.term t.0 ht.0 ht.1), ht.2)))))

letrec_sound : (E : List Token → Type 0) → Lasts E → (d e : ℕ) → suc e ≤ d → (g : Inner) → TypeSound E TypeLevel.type e g.type → TreeSound E Level.term e g.term →
    (p : Place) (ts : List Token) → E ts → Holds (Spelled E Level.term d (word_at word.Letrec p ∷ ts)) (Fails E) (letrec_at g p ts)
letrec_sound E a d e le g types terms p ts h =
    let P : Tree × List Token → Type 0 = Spelled E Level.term d (word_at word.Letrec p ∷ ts) in
    holds_bind (SpelledDecl E e ts) (Fails E) P (decl_at g.type ts) _ (decl_sound E a e g.type types ts h)
    (λ b hb. holds_bind (SpelledDecls E e b.1) (Fails E) P (decls_at (length b.1) g.type b.1) _ (decls_sound E a e g.type types (length b.1) b.1 hb.spelled.2)
    (λ c hc. holds_bind (IsBehind E (word_at word.Where (front c.1)) c.1) (Fails E) P (expect_word word.Where c.1) _ (expect_word_sound E a word.Where c.1 hc.2)
    (λ m hm. holds_bind (SpelledDef E e m) (Fails E) P (def_at g.term m) _ (def_sound E a e g.term terms m hm.1)
    (λ q hq. holds_bind (SpelledDefs E e q.1) (Fails E) P (defs_at (length q.1) g.term q.1) _ (defs_sound E a e g.term terms (length q.1) q.1 hq.spelled.2)
    (λ o ho. holds_bind (IsBehind E (word_at word.In (front o.1)) o.1) (Fails E) P (expect_word word.In o.1) _ (expect_word_sound E a word.In o.1 ho.2)
    (λ k hk. holds_mapped (Spelled E Level.term e k) (Fails E) P (λ z. Tree.letrec (b.0 ∷ c.0) (Defs.and_def q.0.name q.0.at q.0.body o.0) (front o.1) z p) (g.term k) (terms.sound k hk.1)
    (λ t ht. (
      subst (λ us. SpellsBefore Level.term (Tree.letrec (b.0 ∷ c.0) (Defs.and_def q.0.name q.0.at q.0.body o.0) (front o.1) t.0 p) (word_at word.Letrec p ∷ us) t.1) (sym hb.is)
          (SpellsBefore.letrec hb.spelled.0 (subst (λ us. MoreDecls c.0 b.1 us) (hm.0 ∙ ap (λ us. word_at word.Where (front c.1) ∷ us) hq.is) hc.0) hq.spelled.0 (subst (λ us. MoreDefs o.0 q.1 us) hk.0 ho.0) ht.0),
      omega (arith, hb.spelled.1, hc.1, nested_depth (suc e) Level.term q.0.body hq.spelled.0 hq.spelled.1, ho.1, nested_depth (suc e) Level.term t.0 ht.0 ht.1),
      ht.2,
    ))))))))

cond_sound : (E : List Token → Type 0) → Lasts E → (d e : ℕ) → suc e ≤ d → (g : Inner) → TypeSound E TypeLevel.type e g.type → TreeSound E Level.term e g.term →
    (p : Place) (ts : List Token) → E ts → Holds (Spelled E Level.term d (word_at word.If p ∷ ts)) (Fails E) (cond_at g p ts)
cond_sound E a d e le g types terms p ts h =
    let P : Tree × List Token → Type 0 = Spelled E Level.term d (word_at word.If p ∷ ts) in
    holds_bind (Spelled E Level.term e ts) (Fails E) P (g.term ts) _ (terms.sound ts h)
    (λ b hb. holds_bind (IsBehind E (word_at word.Then (front b.1)) b.1) (Fails E) P (expect_word word.Then b.1) _ (expect_word_sound E a word.Then b.1 hb.2)
    (λ m hm. holds_bind (Spelled E Level.term e m) (Fails E) P (g.term m) _ (terms.sound m hm.1)
    (λ t ht. holds_bind (IsBehind E (word_at word.Else (front t.1)) t.1) (Fails E) P (expect_word word.Else t.1) _ (expect_word_sound E a word.Else t.1 ht.2)
    (λ k hk. holds_mapped (Spelled E Level.term e k) (Fails E) P (λ z. Tree.cond b.0 t.0 z p) (g.term k) (terms.sound k hk.1)
    (λ u hu. (SpellsBefore.cond (subst (λ us. SpellsBefore Level.term b.0 ts us) hm.0 hb.0) (subst (λ us. SpellsBefore Level.term t.0 m us) hk.0 ht.0) hu.0, omega (arith, nested_depth (suc e) Level.term b.0 hb.0 hb.1, nested_depth (suc e) Level.term t.0 ht.0 ht.1, nested_depth (suc e) Level.term u.0 hu.0 hu.1), hu.2))))))

while_sound : (E : List Token → Type 0) → Lasts E → (d e : ℕ) → suc e ≤ d → (g : Inner) → TypeSound E TypeLevel.type e g.type → TreeSound E Level.term e g.term →
    (p : Place) (ts : List Token) → E ts → Holds (Spelled E Level.term d (word_at word.While p ∷ ts)) (Fails E) (while_at g p ts)
while_sound E a d e le g types terms p ts h =
    let P : Tree × List Token → Type 0 = Spelled E Level.term d (word_at word.While p ∷ ts) in
    holds_bind (Spelled E Level.term e ts) (Fails E) P (g.term ts) _ (terms.sound ts h)
    (λ b hb. holds_bind (IsBehind E (word_at word.Do (front b.1)) b.1) (Fails E) P (expect_word word.Do b.1) _ (expect_word_sound E a word.Do b.1 hb.2)
    (λ m hm. holds_mapped (Spelled E Level.term e m) (Fails E) P (λ z. Tree.while_do b.0 z p) (g.term m) (terms.sound m hm.1)
    (λ t ht. (SpellsBefore.while_do (subst (λ us. SpellsBefore Level.term b.0 ts us) hm.0 hb.0) ht.0, omega (arith, nested_depth (suc e) Level.term b.0 hb.0 hb.1, nested_depth (suc e) Level.term t.0 ht.0 ht.1), ht.2))))

loop_sound : (E : List Token → Type 0) → Lasts E → (d e : ℕ) → suc e ≤ d → (g : Inner) → TypeSound E TypeLevel.type e g.type → TreeSound E Level.term e g.term →
    (p : Place) (ts : List Token) → E ts → Holds (Spelled E Level.term d (word_at word.Loop p ∷ ts)) (Fails E) (loop_at g p ts)
loop_sound E a d e le g types terms p ts h =
    let P : Tree × List Token → Type 0 = Spelled E Level.term d (word_at word.Loop p ∷ ts) in
    holds_mapped (Spelled E Level.term e ts) (Fails E) P (λ z. Tree.loop z p) (g.term ts) (terms.sound ts h)
    (λ t ht. (SpellsBefore.loop ht.0, omega (arith, nested_depth (suc e) Level.term t.0 ht.0 ht.1), ht.2))

ident_sound : (E : List Token → Type 0) → Lasts E → (d : ℕ) (i : Option Inner) → InnerSound E d i → (n : ℕ) (p : Place) (ts : List Token) → E (ident_at n p ∷ ts) →
    Holds (Spelled E Level.term d (ident_at n p ∷ ts)) (Fails E) (ident_term n i (ident_at n p ∷ ts))
ident_sound E a d i s n p ts h =
    let k : E ts = a.behind (ident_at n p) ts refl h in
    holds_if (Spelled E Level.term d (ident_at n p ∷ ts)) (Fails E) (begins_with symbol.EqualsEquals ts) _ (assign_at i (ident_at n p ∷ ts))
    (λ e. holds_nested (Spelled E Level.term d (ident_at n p ∷ ts)) (Fails E) i ts _ k
    (λ g f. let (m, le, types, terms) = s.sound g f in
    holds_mapped (Spelled E Level.term m (behind ts)) (Fails E) (Spelled E Level.term d (ident_at n p ∷ ts)) (λ u. Tree.field n u p) (g.term (behind ts)) (terms.sound (behind ts) (lasts_symbol E a symbol.EqualsEquals ts e k))
    (λ x o. (
      subst (λ us. SpellsBefore Level.term (Tree.field n x.0 p) (ident_at n p ∷ us) x.1) (sym (begins_is symbol.EqualsEquals ts e)) (SpellsBefore.field o.0),
      omega (arith, nested_depth (suc m) Level.term x.0 o.0 o.1),
      o.2,
    ))))
    (λ e. (assign_sound E a d i s).sound (ident_at n p ∷ ts) h)

-- a form that a token begins, one node further in
form_sound : (E : List Token → Type 0) → Lasts E → (d : ℕ) (i : Option Inner) → InnerSound E d i → (t : Token) (ts : List Token) → is_end t.kind ≡ false → E (t ∷ ts) →
    (form : Inner → Place → List Token → Read Tree) →
    ((e : ℕ) → suc e ≤ d → (g : Inner) → TypeSound E TypeLevel.type e g.type → TreeSound E Level.term e g.term → E ts → Holds (Spelled E Level.term d (t ∷ ts)) (Fails E) (form g t.place ts)) →
    Holds (Spelled E Level.term d (t ∷ ts)) (Fails E) (nested i (t ∷ ts) (λ g. form g t.place ts))
form_sound E a d i s t ts e h form go =
    holds_nested (Spelled E Level.term d (t ∷ ts)) (Fails E) i (t ∷ ts) (λ g. form g t.place ts) h
    (λ g f. let (n, le, types, terms) = s.sound g f in go n le g types terms (a.behind t ts e h))

term_sound : (E : List Token → Type 0) → Lasts E → (d : ℕ) (i : Option Inner) → InnerSound E d i → TreeSound E Level.term d (term_at i)
term_sound E a d i s = record { sound = go }
  where
    by_kind : (p : Place) (ts : List Token) (k : TokenKind) → E (token k p ∷ ts) → Holds (Spelled E Level.term d (token k p ∷ ts)) (Fails E) (term_by_kind k i (token k p ∷ ts))
    by_kind p ts (kind.Sym symbol.Backslash) h = form_sound E a d i s (symbol_at symbol.Backslash p) ts refl h lam_at (λ e le g types terms k. lam_sound E a d e le g types terms p ts k)
    by_kind p ts (kind.Word word.Let) h = form_sound E a d i s (word_at word.Let p) ts refl h let_at (λ e le g types terms k. let_sound E a d e le g types terms p ts k)
    by_kind p ts (kind.Word word.Letrec) h = form_sound E a d i s (word_at word.Letrec p) ts refl h letrec_at (λ e le g types terms k. letrec_sound E a d e le g types terms p ts k)
    by_kind p ts (kind.Word word.Lettype) h = form_sound E a d i s (word_at word.Lettype p) ts refl h let_type_at (λ e le g types terms k. let_type_sound E a d e le g types terms p ts k)
    by_kind p ts (kind.Word word.New) h = form_sound E a d i s (word_at word.New p) ts refl h new_at (λ e le g types terms k. new_sound E a d e le g types terms p ts k)
    by_kind p ts (kind.Word word.Escape) h = form_sound E a d i s (word_at word.Escape p) ts refl h escape_at (λ e le g types terms k. escape_sound E a d e le g types terms p ts k)
    by_kind p ts (kind.Word word.Accept) h = form_sound E a d i s (word_at word.Accept p) ts refl h accept_at (λ e le g types terms k. accept_sound E a d e le g types terms p ts k)
    by_kind p ts (kind.Word word.If) h = form_sound E a d i s (word_at word.If p) ts refl h cond_at (λ e le g types terms k. cond_sound E a d e le g types terms p ts k)
    by_kind p ts (kind.Word word.While) h = form_sound E a d i s (word_at word.While p) ts refl h while_at (λ e le g types terms k. while_sound E a d e le g types terms p ts k)
    by_kind p ts (kind.Word word.Loop) h = form_sound E a d i s (word_at word.Loop p) ts refl h loop_at (λ e le g types terms k. loop_sound E a d e le g types terms p ts k)
    by_kind p ts (kind.Ident n) h = ident_sound E a d i s n p ts h
    by_kind p ts k h = (assign_sound E a d i s).sound (token k p ∷ ts) h

    go : (ts : List Token) → E ts → Holds (Spelled E Level.term d ts) (Fails E) (term_at i ts)
    go [] h = (assign_sound E a d i s).sound [] h
    go (t ∷ ts) h = by_kind t.place ts t.kind h

inner_sound : (E : List Token → Type 0) → Lasts E → (d : ℕ) → InnerSound E d (inner d)
unfolding inner
inner_sound E a zero = record { sound = λ g e. absurd cc }
inner_sound E a (suc d) = record {
  sound = λ g e. (
    d,
    omega arith,
    subst (λ (g : Inner). TypeSound E TypeLevel.type d g.type) (let s : (record { type = read_type d; term = read_term d }) ≡ g = cc in s) (read_type_sound E a d),
    subst (λ (g : Inner). TreeSound E Level.term d g.term) (let s : (record { type = read_type d; term = read_term d }) ≡ g = cc in s) (term_sound E a d (inner d) (inner_sound E a d)),
  );
}

pub read_term_sound : (E : List Token → Type 0) → Lasts E → (d : ℕ) → TreeSound E Level.term d (read_term d)
read_term_sound E a d = term_sound E a d (inner d) (inner_sound E a d)

-- what is read at a level is spelled so
pub read_sound : (E : List Token → Type 0) → Lasts E → (d : ℕ) (l : Level) → TreeSound E l d (read_at d l)
read_sound E a d Level.phrase = phrase_sound E a d (read_term d) (read_term_sound E a d)
read_sound E a d Level.sequence = sequence_sound E a d (read_term d) (read_term_sound E a d)
read_sound E a d Level.term = read_term_sound E a d
read_sound E a d Level.either = either_sound E a d (inner d) (inner_sound E a d)
read_sound E a d Level.both = both_sound E a d (inner d) (inner_sound E a d)
read_sound E a d Level.relation = relation_sound E a d (inner d) (inner_sound E a d)
read_sound E a d Level.sum = sum_sound E a d (inner d) (inner_sound E a d)
read_sound E a d Level.product = product_sound E a d (inner d) (inner_sound E a d)
read_sound E a d Level.prefixed = prefixed_sound E a d (inner d) (inner_sound E a d)
read_sound E a d Level.apply = apply_sound E a d (inner d) (inner_sound E a d)
read_sound E a d Level.select = select_sound E a d (inner d) (inner_sound E a d)
read_sound E a d Level.primary = primary_sound E a d (inner d) (inner_sound E a d)
