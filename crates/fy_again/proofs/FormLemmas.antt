-- Texts of literals, prefix operators, selections, merges and fields.
use Rattle.std.proofs.Common.{◌≡◌, ℕ, Bool, if◌then◌else◌, Option, None, is_none, true, false, List, [], ◌∷◌, ◌++◌, codes, refl, sym, ap, subst, ◌∙◌, append_assoc}
use Rattle.std.proofs.lemmas.Bool.{false≢true}
use Rattle.fy_base.specs.Outside.{Bytes}
use Rattle.fy_base.specs.declared.data.Datum.{Datum}
use Rattle.fy_base.specs.declared.data.Datum.TheVariants as datum
use Rattle.fy_base.specs.declared.data.UnOp.{UnOp}
use Rattle.fy_base.specs.declared.data.UnOp.TheVariants as unary_op
use Rattle.fy_base.specs.declared.data.Place.{Place}
use Rattle.fy_types.specs.Names.{number_of}
use Rattle.fy_types.specs.Print.{name_text}
use Rattle.fy_types.proofs.NameLemmas.{with_name-old}
use Rattle.fy_lexer.specs.declared.token.Token.{Token}
use Rattle.fy_lexer.specs.declared.token.TokenKind.{TokenKind}
use Rattle.fy_lexer.specs.declared.token.TokenKind.TheVariants as kind
use Rattle.fy_lexer.specs.declared.token.Keyword.TheVariants as word
use Rattle.fy_lexer.specs.declared.token.Symbol.{Symbol}
use Rattle.fy_lexer.specs.declared.token.Symbol.TheVariants as symbol
use Rattle.fy_lexer.specs.Spellings.{Spells}
use Rattle.fy_lexer.specs.Tokens.{names_past}
use Rattle.fy_lexer.proofs.OverLemmas.{blank-ends}
use Rattle.fy_syntax.specs.declared.surface.Prefixed.{Prefixed}
use Rattle.fy_syntax.specs.Print.{prefix_text}
use Rattle.fy_syntax.specs.Printing.{IsIdentifierNumber}
use Rattle.fy_syntax.specs.Trees.{Tree, Trees}
use Rattle.fy_syntax.specs.Signs.{Level, token, symbol_at, ident_at, front, prefix_sign}
use Rattle.fy_syntax.specs.Spells.{merge_of, prefixed_of, select_of, SpellsBefore, Dots, Prefixes, MoreTrees}
use Rattle.fy_syntax.proofs.KindTexts.{kind_text, symbol_text, spelled, names_stay}
use Rattle.fy_phrase.specs.Tree as plain
use Rattle.fy_phrase.specs.Alike.{Alike}
use Rattle.fy_phrase.specs.WellMade.{IsOperand}
use Rattle.fy_expand.specs.Core.{core, merged, prefixed, selected, used}
use Rattle.fy_expand.specs.declared.error.ExpandError.{ExpandError}
use Rattle.fy_expand.specs.declared.error.ExpandError.TheVariants.{UnknownName}
use Rattle.fy_expand.specs.Faults.{fault, is_operand, operand_fault, operands_fault}
use Rattle.fy_expand.specs.Front.{front as place_front}
use Rattle.fy_expand.specs.Scope.{Scope}
use Rattle.fy_short.specs.DataTexts.{datum_text, element_text, int_text}
use Rattle.fy_again.specs.Again.{IsLiteral}
use Rattle.fy_again.proofs.FaultLemmas.{IsClear, Means, both_fine, first_part, second_part, test_fine}
use Rattle.fy_again.proofs.EndLemmas.{Follows, longest, dot-longest}
use Rattle.fy_again.proofs.LiteralLemmas.{element_read, plain_int}
use Rattle.fy_again.proofs.OperatorLemmas.{IsSign}
use Rattle.fy_again.proofs.PhraseLemmas.{IsShown, ShowsPhrase, comma-ends, dot-ends, grouped_three, one_more}
use Rattle.fy_again.proofs.ReadLemmas.{Reads, reads_blank, reads_token, reads_same, peel}

-- ---- one token

-- a text that is one token, which spells the phrase by itself
pub shows_token : (names : List Bytes) (s : Scope) (v : ℕ → ℕ) (q : plain.Tree) (k : TokenKind) (text : Bytes) (tree : Place → Tree) → Spells names k text → names_past k text names ≡ names →
    ((at : Place) (r : List Token) → SpellsBefore Level.primary (tree at) (token k at ∷ r) r) → ((at : Place) → Means s v q (tree at)) → ShowsPhrase names s v Level.primary q text
shows_token names s v q k text tree sp stays spells means = record {
  own = k ∷ [];
  reads = λ rest ks f r. reads_token names k text rest ks sp stays (longest names k text rest sp f) r;
  taken = λ us ks e.
      let o = peel us k ks e in
      record {
        tree = tree o.place;
        rest = o.rest;
        spells = subst (λ l. SpellsBefore Level.primary (tree o.place) l o.rest) (sym o.is) (spells o.place o.rest);
        left = o.left;
        means = means o.place;
      };
}

-- a literal
pub shows_lit : (names : List Bytes) (s : Scope) (v : ℕ → ℕ) (d : Datum) (at : Place) → IsLiteral d → ShowsPhrase names s v Level.primary (plain.Tree.lit d at) (datum_text d)
shows_lit names s v (datum.Int z) at h =
    let sp : Spells names (kind.Number z) (int_text z) = subst (λ t. Spells names (kind.Number z) t) (plain_int z h.0) (spelled names (kind.Number z) h.0 h.1) in
    shows_token names s v (plain.Tree.lit (datum.Int z) at) (kind.Number z) (int_text z) (λ here. Tree.number z here) sp refl (λ here r. SpellsBefore.number) (λ here. (Alike.lit, λ r same. refl, λ i. absurd i))
shows_lit names s v (datum.Bool true) at h =
    shows_token names s v (plain.Tree.lit (datum.Bool true) at) (kind.Word word.True) (codes "true") (λ here. Tree.truth true here) (spelled names (kind.Word word.True) tt tt) refl
    (λ here r. SpellsBefore.truth {b = true}) (λ here. (Alike.lit, λ r same. refl, λ i. absurd i))
shows_lit names s v (datum.Bool false) at h =
    shows_token names s v (plain.Tree.lit (datum.Bool false) at) (kind.Word word.False) (codes "false") (λ here. Tree.truth false here) (spelled names (kind.Word word.False) tt tt) refl
    (λ here r. SpellsBefore.truth {b = false}) (λ here. (Alike.lit, λ r same. refl, λ i. absurd i))
shows_lit names s v (datum.Char c) at h =
    shows_token names s v (plain.Tree.lit (datum.Char c) at) (kind.Letter c) (39 ∷ (element_text 39 c ++ 39 ∷ [])) (λ here. Tree.letter c here)
    (element_text 39 c, refl, element_read 39 c h refl) refl (λ here r. SpellsBefore.letter) (λ here. (Alike.lit, λ r same. refl, λ i. absurd i))

-- a name, by what it stands for
pub shows_name : (names : List Bytes) (s : Scope) (v : ℕ → ℕ) (q : plain.Tree) (x : Bytes) → IsShown names x → is_none (s.phrases (number_of names x)) ≡ false → (IsOperand q → ⊥) →
    ((here : Place) → Alike v q (used s.depth (number_of names x) here (s.phrases (number_of names x)))) → ShowsPhrase names s v Level.primary q x
shows_name names s v q x is known other means =
    let n = number_of names x in
    shows_token names s v q (kind.Ident n) x (λ here. Tree.ident n here) (is.identifier, refl) (with_name-old names x is.known) (λ here r. SpellsBefore.ident)
    (λ here. (means here, λ r same. test_fine (is_none (r.phrases n)) (UnknownName here) (same.known n ∙ known), λ i. absurd (other i)))

-- ---- operators in front of a part

prefix_is : (names : List Bytes) (o : UnOp) → IsSign names (prefix_sign o) (kind_text names (prefix_sign o))
prefix_is names = elim [
  | unary_op.Neg ↦ record { spelled_so = spelled names (prefix_sign unary_op.Neg) tt tt; stays = refl }
  | unary_op.Not ↦ record { spelled_so = spelled names (prefix_sign unary_op.Not) tt tt; stays = refl }
  | unary_op.Ord ↦ record { spelled_so = spelled names (prefix_sign unary_op.Ord) tt tt; stays = refl }
  | unary_op.Chr ↦ record { spelled_so = spelled names (prefix_sign unary_op.Chr) tt tt; stays = refl }
]

prefix_with_blank : (names : List Bytes) (o : UnOp) → kind_text names (prefix_sign o) ++ codes " " ≡ prefix_text o
prefix_with_blank names = elim [
  | unary_op.Neg ↦ refl
  | unary_op.Not ↦ refl
  | unary_op.Ord ↦ refl
  | unary_op.Chr ↦ refl
]

prefixed_means : (s : Scope) (os : List Prefixed) (t : Tree) (at : Place) → prefixed os (core s t) ≡ core s (prefixed_of os t at)
prefixed_means s [] t at = refl
prefixed_means s (o ∷ os) t at = refl

prefixed_clear : (r : Scope) (os : List Prefixed) (t : Tree) (at : Place) → None ≡ fault r (prefixed_of os t at) → None ≡ fault r t
prefixed_clear r [] t at h = h
prefixed_clear r (o ∷ os) t at h = h

-- one more operator in front
record PrefixedMore (s : Scope) (o : UnOp) (p : Place) (t : Tree) (us r : List Token) : Type 0 where
  tree : Tree
  spells : SpellsBefore Level.prefixed tree (token (prefix_sign o) p ∷ us) r
  means : core s tree ≡ plain.Tree.unary o (core s t) p
  clear : IsClear s t → IsClear s tree

prefixed_more : (s : Scope) (o : UnOp) (p : Place) {t : Tree} {us r : List Token} → SpellsBefore Level.prefixed t us r → PrefixedMore s o p t us r
prefixed_more s o p (SpellsBefore.prefixed {operators = os} {t = t} {ts = ts} x y) = record {
  tree = Tree.prefixed (record { op = o; at = p } ∷ os) t p;
  spells = SpellsBefore.prefixed {operators = record { op = o; at = p } ∷ os} {t = t} {ts = token (prefix_sign o) p ∷ ts} (Prefixes.and_prefix x) y;
  means = ap (λ q. plain.Tree.unary o q p) (prefixed_means s os t (front ts));
  clear = λ i r same. prefixed_clear r os t (front ts) (i r same);
}

-- `op p`
pub shows_unary : (names : List Bytes) (s : Scope) (v : ℕ → ℕ) (o : UnOp) (p : plain.Tree) (at : Place) (text : Bytes) → ShowsPhrase names s v Level.prefixed p text →
    ShowsPhrase names s v Level.prefixed (plain.Tree.unary o p at) (prefix_text o ++ text)
shows_unary names s v o p at text h =
    let sign = prefix_is names o in
    let signed = kind_text names (prefix_sign o) in
    record {
      own = prefix_sign o ∷ h.own;
      reads = λ rest ks f r.
          let behind = reads_blank names (text ++ rest) (h.own ++ ks) (h.reads rest ks f r) in
          let whole =
          reads_token names (prefix_sign o) signed (32 ∷ (text ++ rest)) (h.own ++ ks) sign.spelled_so sign.stays
          (longest names (prefix_sign o) signed (32 ∷ (text ++ rest)) sign.spelled_so (Follows.ending blank-ends)) behind in
          reads_same names (signed ++ (32 ∷ (text ++ rest))) ((prefix_text o ++ text) ++ rest) _ _
          (sym (append_assoc signed (codes " ") (text ++ rest)) ∙ (ap (λ t. t ++ (text ++ rest)) (prefix_with_blank names o) ∙ sym (append_assoc (prefix_text o) text rest))) refl whole;
      taken = λ us ks e.
          let i = peel us (prefix_sign o) (h.own ++ ks) e in
          let x = h.taken i.rest ks i.left in
          let w = prefixed_more s o i.place x.spells in
          record {
            tree = w.tree;
            rest = x.rest;
            spells = subst (λ l. SpellsBefore Level.prefixed w.tree l x.rest) (sym i.is) w.spells;
            left = x.left;
            means = (subst (λ z. Alike v (plain.Tree.unary o p at) z) (sym w.means) (Alike.unary x.means.0), w.clear x.means.1, λ k. absurd k);
          };
    }

-- ---- selections

dots_more : (i : ℕ) (p q : Place) (r : List Token) {ns : List ℕ} {us m : List Token} → Dots ns us m → m ≡ symbol_at symbol.Dot p ∷ ident_at i q ∷ r → Dots (ns ++ i ∷ []) us r
dots_more i p q r Dots.no_dots e = subst (λ j. Dots (i ∷ []) j r) (sym e) (Dots.and_dot Dots.no_dots)
dots_more i p q r (Dots.and_dot x) e = Dots.and_dot (dots_more i p q r x e)

selected_more : (at : Place) (p : plain.Tree) (ns : List ℕ) (i : ℕ) → selected at p (ns ++ i ∷ []) ≡ plain.Tree.sel (selected at p ns) i at
selected_more at p [] i = refl
selected_more at p (n ∷ ns) i = selected_more at (plain.Tree.sel p n at) ns i

select_means : (s : Scope) (t : Tree) (ns : List ℕ) (at : Place) (i : ℕ) → core s (select_of t (ns ++ i ∷ []) at) ≡ plain.Tree.sel (core s (select_of t ns at)) i at
select_means s t [] at i = refl
select_means s t (n ∷ ns) at i = selected_more at (core s t) (n ∷ ns) i

select_clear : (r : Scope) (t : Tree) (ns : List ℕ) (at : Place) (i : ℕ) → None ≡ fault r (select_of t ns at) → None ≡ fault r (select_of t (ns ++ i ∷ []) at)
select_clear r t [] at i h = h
select_clear r t (n ∷ ns) at i h = h

record SelectedMore (s : Scope) (t : Tree) (i : ℕ) (us r : List Token) : Type 0 where
  tree : Tree
  spells : SpellsBefore Level.select tree us r
  at : Place
  means : core s tree ≡ plain.Tree.sel (core s t) i at
  clear : IsClear s t → IsClear s tree

select_more : (s : Scope) (i : ℕ) (p q : Place) (r : List Token) {t : Tree} {us m : List Token} → SpellsBefore Level.select t us m → m ≡ symbol_at symbol.Dot p ∷ ident_at i q ∷ r → SelectedMore s t i us r
select_more s i p q r (SpellsBefore.select {t = t} {names = ns} {ts = ts} x y) e = record {
  tree = select_of t (ns ++ i ∷ []) (front ts);
  spells = SpellsBefore.select {t = t} {names = ns ++ i ∷ []} {ts = ts} x (dots_more i p q r y e);
  at = front ts;
  means = select_means s t ns (front ts) i;
  clear = λ j k same. select_clear k t ns (front ts) i (j k same);
}

-- `p.i`
pub shows_sel : (names : List Bytes) (s : Scope) (v : ℕ → ℕ) (p : plain.Tree) (i : ℕ) (at : Place) (text : Bytes) → IsIdentifierNumber names i → ShowsPhrase names s v Level.select p text →
    ShowsPhrase names s v Level.select (plain.Tree.sel p i at) ((text ++ codes ".") ++ name_text names i)
shows_sel names s v p i at text known h =
    let sp = spelled names (kind.Ident i) known tt in
    let dot = spelled names (kind.Sym symbol.Dot) tt tt in
    let name = name_text names i in
    let two : List TokenKind = kind.Sym symbol.Dot ∷ kind.Ident i ∷ [] in
    record {
      own = h.own ++ two;
      reads = λ rest ks f r.
          let last = reads_token names (kind.Ident i) name rest ks sp (names_stay names (kind.Ident i) known) (longest names (kind.Ident i) name rest sp f) r in
          let behind = reads_token names (kind.Sym symbol.Dot) (46 ∷ []) (name ++ rest) (kind.Ident i ∷ ks) dot refl (dot-longest (name ++ rest)) last in
          reads_same names (text ++ (46 ∷ (name ++ rest))) (((text ++ codes ".") ++ name) ++ rest) _ _ (sym (grouped_three text (codes ".") name rest)) (sym (append_assoc h.own two ks))
          (h.reads (46 ∷ (name ++ rest)) (kind.Sym symbol.Dot ∷ kind.Ident i ∷ ks) (Follows.ending dot-ends) behind);
      taken = λ us ks e.
          let x = h.taken us (kind.Sym symbol.Dot ∷ kind.Ident i ∷ ks) (e ∙ append_assoc h.own two ks) in
          let d = peel x.rest (kind.Sym symbol.Dot) (kind.Ident i ∷ ks) x.left in
          let n = peel d.rest (kind.Ident i) ks d.left in
          let w = select_more s i d.place n.place n.rest x.spells (d.is ∙ ap (λ l. symbol_at symbol.Dot d.place ∷ l) n.is) in
          record { tree = w.tree; rest = n.rest; spells = w.spells; left = n.left; means = (subst (λ z. Alike v (plain.Tree.sel p i at) z) (sym w.means) (Alike.sel x.means.0), w.clear x.means.1, λ k. absurd k) };
    }

-- ---- merges

trees_more : (c : Symbol) (l : Level) (p : Place) (u : Tree) (m r : List Token) {more : Trees} {us k : List Token} → MoreTrees c l more us k → k ≡ symbol_at c p ∷ m → SpellsBefore l u m r →
    MoreTrees c l (one_more more u) us r
unfolding one_more
trees_more c l p u m r MoreTrees.no_trees e z = subst (λ j. MoreTrees c l (Trees.and_tree u Trees.no_trees) j r) (sym e) (MoreTrees.and_tree z MoreTrees.no_trees)
trees_more c l p u m r (MoreTrees.and_tree x y) e z = MoreTrees.and_tree x (trees_more c l p u m r y e z)

merged_more : (s : Scope) (at : Place) (left : plain.Tree) (more : Trees) (u : Tree) → merged s at left (one_more more u) ≡ plain.Tree.merge (merged s at left more) (core s u) at
unfolding one_more
merged_more s at left Trees.no_trees u = refl
merged_more s at left (Trees.and_tree t more) u = merged_more s at (plain.Tree.merge left (core s t) at) more u

merge_means : (s : Scope) (t : Tree) (more : Trees) (at : Place) (u : Tree) → core s (merge_of t (one_more more u) at) ≡ plain.Tree.merge (core s (merge_of t more at)) (core s u) at
unfolding one_more
merge_means s t Trees.no_trees at u = refl
merge_means s t (Trees.and_tree b more) at u = merged_more s at (core s t) (Trees.and_tree b more) u

operand_fine : (at : Place) (o : Option ExpandError) (b : Bool) → b ≡ true → None ≡ o → None ≡ (if b then o else operand_fault at o)
operand_fine at o true h g = g
operand_fine at o false h g = absurd (false≢true h)

operands_more : (r : Scope) (more : Trees) (u : Tree) → None ≡ operands_fault r more → is_operand u ≡ true → None ≡ fault r u → None ≡ operands_fault r (one_more more u)
unfolding one_more
operands_more r Trees.no_trees u h i g = both_fine _ _ (operand_fine (place_front u) (fault r u) (is_operand u) i g) refl
operands_more r (Trees.and_tree t more) u h i g =
    let first = if is_operand t then fault r t else operand_fault (place_front t) (fault r t) in
    both_fine _ _ (first_part first (operands_fault r more) h) (operands_more r more u (second_part first (operands_fault r more) h) i g)

merge_clear : (r : Scope) (t : Tree) (more : Trees) (at : Place) (u : Tree) → None ≡ fault r (merge_of t more at) → is_operand u ≡ true → None ≡ fault r u → None ≡ fault r (merge_of t (one_more more u) at)
unfolding one_more
merge_clear r t Trees.no_trees at u h i g = both_fine _ _ h (both_fine _ _ (operand_fine (place_front u) (fault r u) (is_operand u) i g) refl)
merge_clear r t (Trees.and_tree b more) at u h i g =
    both_fine _ _ (first_part (fault r t) (operands_fault r (Trees.and_tree b more)) h)
    (operands_more r (Trees.and_tree b more) u (second_part (fault r t) (operands_fault r (Trees.and_tree b more)) h) i g)

record MergedMore (s : Scope) (t u : Tree) (us r : List Token) : Type 0 where
  tree : Tree
  spells : SpellsBefore Level.phrase tree us r
  at : Place
  means : core s tree ≡ plain.Tree.merge (core s t) (core s u) at
  clear : IsClear s t → is_operand u ≡ true → IsClear s u → IsClear s tree

merge_more : (s : Scope) (p : Place) (u : Tree) (m r : List Token) {t : Tree} {us k : List Token} → SpellsBefore Level.phrase t us k → k ≡ symbol_at symbol.Comma p ∷ m →
    SpellsBefore Level.sequence u m r → MergedMore s t u us r
merge_more s p u m r (SpellsBefore.phrase {t = t} {more = more} {ts = ts} x y) e z = record {
  tree = merge_of t (one_more more u) (front ts);
  spells = SpellsBefore.phrase {t = t} {more = one_more more u} {ts = ts} x (trees_more symbol.Comma Level.sequence p u m r y e z);
  at = front ts;
  means = merge_means s t more (front ts) u;
  clear = λ i o j k same. merge_clear k t more (front ts) u (i k same) o (j k same);
}

-- `p, q`
pub shows_merge : (names : List Bytes) (s : Scope) (v : ℕ → ℕ) (p q : plain.Tree) (at : Place) (one two : Bytes) → IsOperand q → ShowsPhrase names s v Level.phrase p one → ShowsPhrase names s v Level.sequence q two →
    ShowsPhrase names s v Level.phrase (plain.Tree.merge p q at) ((one ++ codes ", ") ++ two)
shows_merge names s v p q at one two operand h g =
    let sp = spelled names (kind.Sym symbol.Comma) tt tt in
    record {
      own = h.own ++ kind.Sym symbol.Comma ∷ g.own;
      reads = λ rest ks f r.
          let behind = reads_blank names (two ++ rest) (g.own ++ ks) (g.reads rest ks f r) in
          let sign =
          reads_token names (kind.Sym symbol.Comma) (44 ∷ []) (32 ∷ (two ++ rest)) (g.own ++ ks) sp refl
          (longest names (kind.Sym symbol.Comma) (44 ∷ []) (32 ∷ (two ++ rest)) sp (Follows.ending blank-ends)) behind in
          reads_same names (one ++ (codes ", " ++ (two ++ rest))) (((one ++ codes ", ") ++ two) ++ rest) _ _ (sym (grouped_three one (codes ", ") two rest))
          (sym (append_assoc h.own (kind.Sym symbol.Comma ∷ g.own) ks))
          (h.reads (codes ", " ++ (two ++ rest)) (kind.Sym symbol.Comma ∷ (g.own ++ ks)) (Follows.ending comma-ends) sign);
      taken = λ us ks e.
          let x = h.taken us (kind.Sym symbol.Comma ∷ (g.own ++ ks)) (e ∙ append_assoc h.own (kind.Sym symbol.Comma ∷ g.own) ks) in
          let o = peel x.rest (kind.Sym symbol.Comma) (g.own ++ ks) x.left in
          let y = g.taken o.rest ks o.left in
          let w = merge_more s o.place y.tree o.rest y.rest x.spells o.is y.spells in
          record { tree = w.tree; rest = y.rest; spells = w.spells; left = y.left; means = (subst (λ z. Alike v (plain.Tree.merge p q at) z) (sym w.means) (Alike.merge x.means.0 y.means.0), w.clear x.means.1 (y.means.2 operand) y.means.1, λ k. absurd k) };
    }

-- ---- fields

-- a symbol with a blank behind it
pub reads_symbol : (names : List Bytes) (c : Symbol) (rest : Bytes) (ks : List TokenKind) → Reads names rest ks → Reads names (symbol_text c ++ 32 ∷ rest) (kind.Sym c ∷ ks)
reads_symbol names c rest ks r =
    let sp = spelled names (kind.Sym c) tt tt in
    reads_token names (kind.Sym c) (symbol_text c) (32 ∷ rest) ks sp refl (longest names (kind.Sym c) (symbol_text c) (32 ∷ rest) sp (Follows.ending blank-ends)) (reads_blank names rest ks r)

-- `i == p`
pub shows_definition : (names : List Bytes) (s : Scope) (v : ℕ → ℕ) (p : plain.Tree) (i : ℕ) (at : Place) (text : Bytes) → IsIdentifierNumber names i → ShowsPhrase names s v Level.term p text →
    ShowsPhrase names s v Level.term (plain.Tree.field i p at) ((name_text names i ++ codes " == ") ++ text)
shows_definition names s v p i at text known h =
    let sp = spelled names (kind.Ident i) known tt in
    let name = name_text names i in
    record {
      own = kind.Ident i ∷ kind.Sym symbol.EqualsEquals ∷ h.own;
      reads = λ rest ks f r.
          let sign = reads_symbol names symbol.EqualsEquals (text ++ rest) (h.own ++ ks) (h.reads rest ks f r) in
          let behind = reads_blank names (codes "== " ++ (text ++ rest)) (kind.Sym symbol.EqualsEquals ∷ (h.own ++ ks)) sign in
          let first =
          reads_token names (kind.Ident i) name (codes " == " ++ (text ++ rest)) (kind.Sym symbol.EqualsEquals ∷ (h.own ++ ks)) sp (names_stay names (kind.Ident i) known)
          (longest names (kind.Ident i) name (codes " == " ++ (text ++ rest)) sp (Follows.ending blank-ends)) behind in
          reads_same names (name ++ (codes " == " ++ (text ++ rest))) (((name ++ codes " == ") ++ text) ++ rest) _ _ (sym (grouped_three name (codes " == ") text rest)) refl first;
      taken = λ us ks e.
          let n = peel us (kind.Ident i) (kind.Sym symbol.EqualsEquals ∷ (h.own ++ ks)) e in
          let q = peel n.rest (kind.Sym symbol.EqualsEquals) (h.own ++ ks) n.left in
          let x = h.taken q.rest ks q.left in
          let all : us ≡ ident_at i n.place ∷ symbol_at symbol.EqualsEquals q.place ∷ q.rest = n.is ∙ ap (λ l. ident_at i n.place ∷ l) q.is in
          record {
            tree = Tree.field i x.tree n.place;
            rest = x.rest;
            spells = subst (λ l. SpellsBefore Level.term (Tree.field i x.tree n.place) l x.rest) (sym all) (SpellsBefore.field x.spells);
            left = x.left;
            means = (Alike.field x.means.0, x.means.1, λ k. refl);
          };
    }
