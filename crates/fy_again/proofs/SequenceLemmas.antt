-- Texts of phrases with a separator between them: sequences, and the parts of `seq`.
use Rattle.std.proofs.Common.{◌≡◌, ℕ, None, suc, ◌+◌, ◌-◌, ◌/◌, ◌^◌, ◌≤◌, true, ◌&&◌, List, [], ◌∷◌, ◌++◌, length, take, drop, codes, refl, sym, ap, subst, ◌∙◌, arith, append_assoc, length-append, pos}
use Rattle.std.proofs.lemmas.Bool.{and_parts, eqb-true}
use Rattle.std.proofs.lemmas.List.{take_at, drop_at}
use Rattle.fy_base.specs.Outside.{Bytes}
use Rattle.fy_base.specs.declared.data.Place.{Place}
use Rattle.fy_base.specs.declared.data.Datum.TheVariants as datum
use Rattle.fy_types.specs.declared.types.Atom.TheVariants as atom
use Rattle.fy_lexer.specs.declared.token.Token.{Token}
use Rattle.fy_lexer.specs.declared.token.TokenKind.{TokenKind}
use Rattle.fy_lexer.specs.declared.token.TokenKind.TheVariants as kind
use Rattle.fy_lexer.specs.declared.token.Keyword.TheVariants as word
use Rattle.fy_lexer.specs.declared.token.Symbol.{Symbol}
use Rattle.fy_lexer.specs.declared.token.Symbol.TheVariants as symbol
use Rattle.fy_lexer.specs.Spellings.{Spells}
use Rattle.fy_lexer.specs.Again.{kinds}
use Rattle.fy_lexer.proofs.OverLemmas.{EndsTokens, blank-ends, close-ends}
use Rattle.fy_syntax.specs.Ranges.{AreBytes}
use Rattle.fy_syntax.specs.Trees.{Tree, Trees}
use Rattle.fy_syntax.specs.Signs.{Level, symbol_at, word_at, front}
use Rattle.fy_syntax.specs.Spells.{sequence_of, SpellsBefore, MoreTrees}
use Rattle.fy_syntax.proofs.KindTexts.{symbol_text, spelled}
use Rattle.fy_phrase.specs.Tree as plain
use Rattle.fy_phrase.specs.Alike.{Alike, AllAlike, lifted}
use Rattle.fy_phrase.specs.WellMade.{IsOperand}
use Rattle.fy_expand.specs.Core.{core, Item, by_halves, one_after, sequence, items_of, parts_of, trees_count, one_type, text_parts, indexed}
use Rattle.fy_expand.specs.Faults.{fault, all_faults}
use Rattle.fy_expand.specs.Scope.{Scope, behind}
use Rattle.fy_expand.proofs.HalvesLemmas.{by_halves-two}
use Rattle.fy_short.specs.DataTexts.{string_text, elements_text}
use Rattle.fy_show.specs.Texts.{item_count, are_halves, is_halved, parts_count}
use Rattle.fy_again.proofs.FaultLemmas.{SameNames, both_fine, first_part, second_part}
use Rattle.fy_again.proofs.EndLemmas.{Follows, longest, open-longest}
use Rattle.fy_again.proofs.LiteralLemmas.{elements_read}
use Rattle.fy_again.proofs.FormLemmas.{shows_token}
use Rattle.fy_again.proofs.PhraseLemmas.{ShowsPhrase, comma-ends, semicolon-ends, open-ends, grouped_three}
use Rattle.fy_again.proofs.ReadLemmas.{Reads, reads_blank, reads_token, reads_same, peel}

-- ---- phrases one after another

-- a separator is a symbol of one byte, over which no token goes on
pub record IsSeparator (c : Symbol) (z : ℕ) : Type 0 where
  pub is : symbol_text c ≡ z ∷ []
  pub ends : EndsTokens z

pub comma : IsSeparator symbol.Comma 44
comma = record { is = refl; ends = comma-ends }

pub semicolon : IsSeparator symbol.Semicolon 59
semicolon = record { is = refl; ends = semicolon-ends }

abbrev pub parts_both : plain.Trees → plain.Trees → plain.Trees
parts_both plain.Trees.no_trees qs = qs
parts_both (plain.Trees.and_tree p ps) qs = plain.Trees.and_tree p (parts_both ps qs)

abbrev trees_both : Trees → Trees → Trees
trees_both Trees.no_trees us = us
trees_both (Trees.and_tree t ts) us = Trees.and_tree t (trees_both ts us)

parts_of-both : (s : Scope) (ts us : Trees) → parts_of s (trees_both ts us) ≡ parts_both (parts_of s ts) (parts_of s us)
parts_of-both s Trees.no_trees us = refl
parts_of-both s (Trees.and_tree t ts) us = ap (λ (l : plain.Trees). plain.Trees.and_tree (core s t) l) (parts_of-both s ts us)

others_both : (c : Symbol) (l : Level) (p : Place) (u : Tree) (m n r : List Token) (b : Trees) {a : Trees} {us k : List Token} → MoreTrees c l a us k → k ≡ symbol_at c p ∷ m → SpellsBefore l u m n →
    MoreTrees c l b n r → MoreTrees c l (trees_both a (Trees.and_tree u b)) us r
others_both c l p u m n r b MoreTrees.no_trees e z w = subst (λ j. MoreTrees c l (Trees.and_tree u b) j r) (sym e) (MoreTrees.and_tree z w)
others_both c l p u m n r b (MoreTrees.and_tree x y) e z w = MoreTrees.and_tree x (others_both c l p u m n r b y e z w)

alike_both : {v : ℕ → ℕ} {ps qs ps' qs' : plain.Trees} → AllAlike v ps qs → AllAlike v ps' qs' → AllAlike v (parts_both ps ps') (parts_both qs qs')
alike_both AllAlike.no_parts y = y
alike_both (AllAlike.and_part x more) y = AllAlike.and_part x (alike_both more y)

all_both : (r : Scope) (a b : Trees) → None ≡ all_faults r a → None ≡ all_faults r b → None ≡ all_faults r (trees_both a b)
all_both r Trees.no_trees b h g = g
all_both r (Trees.and_tree t a) b h g = both_fine _ _ (first_part (fault r t) (all_faults r a) h) (all_both r a b (second_part (fault r t) (all_faults r a) h) g)

-- tokens spell phrases with the separator between them
pub record SpelledMany (c : Symbol) (s : Scope) (v : ℕ → ℕ) (ps : plain.Trees) (us : List Token) (ks : List TokenKind) : Type 0 where
  pub tree : Tree
  pub more : Trees
  pub middle : List Token
  pub rest : List Token
  pub first : SpellsBefore Level.term tree us middle
  pub others : MoreTrees c Level.term more middle rest
  pub left : kinds rest ≡ ks
  pub means : AllAlike v ps (parts_of s (Trees.and_tree tree more))
  pub clear : (r : Scope) → SameNames s r → None ≡ all_faults r (Trees.and_tree tree more)

-- the text shows phrases with the separator between them
pub record ShowsMany (c : Symbol) (names : List Bytes) (s : Scope) (v : ℕ → ℕ) (ps : plain.Trees) (text : Bytes) : Type 0 where
  pub own : List TokenKind
  pub reads : (rest : Bytes) (ks : List TokenKind) → Follows rest → Reads names rest ks → Reads names (text ++ rest) (own ++ ks)
  pub taken : (us : List Token) (ks : List TokenKind) → kinds us ≡ own ++ ks → SpelledMany c s v ps us ks

pub shows_one : (c : Symbol) (names : List Bytes) (s : Scope) (v : ℕ → ℕ) (p : plain.Tree) (text : Bytes) → ShowsPhrase names s v Level.term p text →
    ShowsMany c names s v (plain.Trees.and_tree p plain.Trees.no_trees) text
shows_one c names s v p text h = record {
  own = h.own;
  reads = h.reads;
  taken = λ us ks e.
      let x = h.taken us ks e in
      record {
        tree = x.tree;
        more = Trees.no_trees;
        middle = x.rest;
        rest = x.rest;
        first = x.spells;
        others = MoreTrees.no_trees;
        left = x.left;
        means = AllAlike.and_part x.means.0 AllAlike.no_parts;
        clear = λ r same. both_fine _ _ (x.means.1 r same) refl;
      };
}

-- `p, ..` or `p; ..`
pub shows_both : (c : Symbol) (z : ℕ) → IsSeparator c z → (names : List Bytes) (s : Scope) (v : ℕ → ℕ) (ps qs : plain.Trees) (one two : Bytes) → ShowsMany c names s v ps one → ShowsMany c names s v qs two →
    ShowsMany c names s v (parts_both ps qs) ((one ++ (z ∷ 32 ∷ [])) ++ two)
shows_both c z sep names s v ps qs one two h g =
    let sp : Spells names (kind.Sym c) (z ∷ []) = subst (λ t. Spells names (kind.Sym c) t) sep.is (spelled names (kind.Sym c) tt tt) in
    record {
      own = h.own ++ kind.Sym c ∷ g.own;
      reads = λ rest ks f r.
          let behind = reads_blank names (two ++ rest) (g.own ++ ks) (g.reads rest ks f r) in
          let sign =
          reads_token names (kind.Sym c) (z ∷ []) (32 ∷ (two ++ rest)) (g.own ++ ks) sp refl (longest names (kind.Sym c) (z ∷ []) (32 ∷ (two ++ rest)) sp (Follows.ending blank-ends)) behind in
          reads_same names (one ++ (z ∷ 32 ∷ (two ++ rest))) (((one ++ (z ∷ 32 ∷ [])) ++ two) ++ rest) _ _ (sym (grouped_three one (z ∷ 32 ∷ []) two rest))
          (sym (append_assoc h.own (kind.Sym c ∷ g.own) ks))
          (h.reads (z ∷ 32 ∷ (two ++ rest)) (kind.Sym c ∷ (g.own ++ ks)) (Follows.ending sep.ends) sign);
      taken = λ us ks e.
          let x = h.taken us (kind.Sym c ∷ (g.own ++ ks)) (e ∙ append_assoc h.own (kind.Sym c ∷ g.own) ks) in
          let o = peel x.rest (kind.Sym c) (g.own ++ ks) x.left in
          let y = g.taken o.rest ks o.left in
          record {
            tree = x.tree;
            more = trees_both x.more (Trees.and_tree y.tree y.more);
            middle = x.middle;
            rest = y.rest;
            first = x.first;
            others = others_both c Level.term o.place y.tree o.rest y.middle y.rest y.more x.others o.is y.first y.others;
            left = y.left;
            means =
                subst (λ l. AllAlike v (parts_both ps qs) l) (sym (parts_of-both s (Trees.and_tree x.tree x.more) (Trees.and_tree y.tree y.more))) (alike_both x.means y.means);
            clear = λ r same. all_both r (Trees.and_tree x.tree x.more) (Trees.and_tree y.tree y.more) (x.clear r same) (y.clear r same);
          };
    }

-- ---- sequences

abbrev pub phrases : List Item → plain.Trees
phrases [] = plain.Trees.no_trees
phrases (i ∷ items) = plain.Trees.and_tree i.phrase (phrases items)

phrases_of : (s : Scope) (ts : Trees) → phrases (items_of s ts) ≡ parts_of s ts
phrases_of s Trees.no_trees = refl
phrases_of s (Trees.and_tree t ts) = ap (λ (l : plain.Trees). plain.Trees.and_tree (core s t) l) (phrases_of s ts)

-- phrases like these parts are items that mean that sequence
abbrev pub Joins : (ℕ → ℕ) → plain.Trees → plain.Tree → Type 0
Joins v ps q = (none : Item) (items : List Item) → AllAlike v ps (phrases items) → Alike v q (by_halves one_after none (length items) items).phrase

sequence_means : (s : Scope) (v : ℕ → ℕ) (q : plain.Tree) (t : Tree) (more : Trees) (at : Place) → Alike v q (sequence at (items_of s (Trees.and_tree t more))) → Alike v q (core s (sequence_of t more at))
sequence_means s v q t Trees.no_trees at h = h
sequence_means s v q t (Trees.and_tree u more) at h = h

sequence_clear : (r : Scope) (t : Tree) (more : Trees) (at : Place) → None ≡ all_faults r (Trees.and_tree t more) → None ≡ fault r (sequence_of t more at)
sequence_clear r t Trees.no_trees at h = first_part (fault r t) None h
sequence_clear r t (Trees.and_tree u more) at h = h

pub shows_sequence : (names : List Bytes) (s : Scope) (v : ℕ → ℕ) (ps : plain.Trees) (q : plain.Tree) (text : Bytes) → (IsOperand q → ⊥) → Joins v ps q → ShowsMany symbol.Semicolon names s v ps text →
    ShowsPhrase names s v Level.sequence q text
shows_sequence names s v ps q text other join h = record {
  own = h.own;
  reads = h.reads;
  taken = λ us ks e.
      let x = h.taken us ks e in
      let items = items_of s (Trees.and_tree x.tree x.more) in
      record {
        tree = sequence_of x.tree x.more (front us);
        rest = x.rest;
        spells = SpellsBefore.sequence {t = x.tree} {more = x.more} {ts = us} {m = x.middle} {r = x.rest} x.first x.others;
        left = x.left;
        means = (
          sequence_means s v q x.tree x.more (front us)
              (join (record { phrase = plain.Tree.skip (front us); front = front us }) items (subst (λ l. AllAlike v ps l) (sym (phrases_of s (Trees.and_tree x.tree x.more))) x.means)),
          λ r same. sequence_clear r x.tree x.more (front us) (x.clear r same),
          λ i. absurd (other i),
        );
      };
}

-- one item, and two
joins_one : (v : ℕ → ℕ) (p : plain.Tree) → Joins v (plain.Trees.and_tree p plain.Trees.no_trees) p
joins_one v p none [] h = elim h [ ]
joins_one v p none (i ∷ []) (AllAlike.and_part x y) = x
joins_one v p none (i ∷ j ∷ items) (AllAlike.and_part x y) = elim y [ ]

pub joins_two : (v : ℕ → ℕ) (p q : plain.Tree) (at : Place) → Joins v (plain.Trees.and_tree p (plain.Trees.and_tree q plain.Trees.no_trees)) (plain.Tree.seq p q at)
joins_two v p q at none [] h = elim h [ ]
joins_two v p q at none (i ∷ []) (AllAlike.and_part x y) = elim y [ ]
joins_two v p q at none (i ∷ j ∷ []) (AllAlike.and_part x (AllAlike.and_part y z)) = Alike.seq x y
joins_two v p q at none (i ∷ j ∷ k ∷ items) (AllAlike.and_part x (AllAlike.and_part y z)) = elim z [ ]

-- the items of a sequence that is parted into halves
abbrev pub leaves : plain.Tree → plain.Trees
leaves (plain.Tree.seq p q at) = parts_both (leaves p) (leaves q)
leaves p = plain.Trees.and_tree p plain.Trees.no_trees

record Parted (v : ℕ → ℕ) (ps qs : plain.Trees) (items : List Item) : Type 0 where
  first : List Item
  last : List Item
  is : items ≡ first ++ last
  one : AllAlike v ps (phrases first)
  two : AllAlike v qs (phrases last)

parted : (v : ℕ → ℕ) (ps qs : plain.Trees) (items : List Item) → AllAlike v (parts_both ps qs) (phrases items) → Parted v ps qs items
parted v plain.Trees.no_trees qs items h = record { first = []; last = items; is = refl; one = AllAlike.no_parts; two = h }
parted v (plain.Trees.and_tree p ps) qs [] h = elim h [ ]
parted v (plain.Trees.and_tree p ps) qs (i ∷ items) (AllAlike.and_part x y) =
    let r = parted v ps qs items y in
    record { first = i ∷ r.first; last = r.last; is = ap (λ l. i ∷ l) r.is; one = AllAlike.and_part x r.one; two = r.two }

counted : (v : ℕ → ℕ) (ps : plain.Trees) (items : List Item) → AllAlike v ps (phrases items) → length items ≡ parts_count ps
counted v plain.Trees.no_trees [] h = refl
counted v plain.Trees.no_trees (i ∷ items) h = elim h [ ]
counted v (plain.Trees.and_tree p ps) [] h = elim h [ ]
counted v (plain.Trees.and_tree p ps) (i ∷ items) (AllAlike.and_part x y) = let e = counted v ps items y in omega (arith, e)

both_count : (ps qs : plain.Trees) → parts_count (parts_both ps qs) ≡ parts_count ps + parts_count qs
both_count plain.Trees.no_trees qs = omega arith
both_count (plain.Trees.and_tree p ps) qs = let e = both_count ps qs in omega (arith, e)

leaves_count : (p : plain.Tree) → parts_count (leaves p) ≡ item_count p
leaves_count (plain.Tree.seq p q at) =
    let e = leaves_count p in
    let f = leaves_count q in
    let g = both_count (leaves p) (leaves q) in omega (arith, e, f, g)
leaves_count p = refl

some_items : (p : plain.Tree) → 1 ≤ item_count p
some_items (plain.Tree.seq p q at) = let e = some_items p in omega (arith, e)
some_items p = omega arith

-- two lists of items, where the first is half of all
halves_of : (none : Item) (a b : List Item) → 1 ≤ length a → 1 ≤ length b → (length a + length b) / 2 ≡ length a →
    by_halves one_after none (length (a ++ b)) (a ++ b) ≡ one_after (by_halves one_after none (length a) a) (by_halves one_after none (length b) b)
halves_of none a b one two half =
    let all = length-append a b in
    let k : length (a ++ b) / 2 ≡ length a = ap (λ n. n / 2) all ∙ half in
    let rest : length (a ++ b) - length a ≡ length b = omega (arith, all) in
    by_halves-two one_after none (a ++ b) (omega (arith, all))
    ∙ (ap (λ n. one_after (by_halves one_after none n (take n (a ++ b))) (by_halves one_after none (length (a ++ b) - n) (drop n (a ++ b)))) k
    ∙ (ap (λ l. one_after (by_halves one_after none (length a) l) (by_halves one_after none (length (a ++ b) - length a) (drop (length a) (a ++ b)))) (take_at a b (length a) refl)
    ∙ (ap (λ l. one_after (by_halves one_after none (length a) a) (by_halves one_after none (length (a ++ b) - length a) l)) (drop_at a b (length a) refl)
    ∙ ap (λ n. one_after (by_halves one_after none (length a) a) (by_halves one_after none n b)) rest)))

pub joins_leaves : (v : ℕ → ℕ) (p : plain.Tree) → is_halved p ≡ true → item_count p ≤ 2 ^ 64 - 1 → Joins v (leaves p) p
joins_leaves v (plain.Tree.seq p q at) h few none items alike =
    let r = parted v (leaves p) (leaves q) items alike in
    let m = counted v (leaves p) r.first r.one ∙ leaves_count p in
    let n = counted v (leaves q) r.last r.two ∙ leaves_count q in
    let split = and_parts (are_halves p q) (is_halved p && is_halved q) h in
    let inner = and_parts (is_halved p) (is_halved q) split.1 in
    let halves = eqb-true _ _ split.0 in
    let some_p = some_items p in
    let some_q = some_items q in
    let half : (length r.first + length r.last) / 2 ≡ length r.first = omega (arith, m, n, halves, few) in
    subst (λ l. Alike v (plain.Tree.seq p q at) (by_halves one_after none (length l) l).phrase) (sym r.is)
    (subst (λ (i : Item). Alike v (plain.Tree.seq p q at) i.phrase) (sym (halves_of none r.first r.last (omega (arith, m, some_p)) (omega (arith, n, some_q)) half))
    (Alike.seq (joins_leaves v p inner.0 (omega (arith, few)) none r.first r.one) (joins_leaves v q inner.1 (omega (arith, few)) none r.last r.two)))
joins_leaves v p h few none items alike = joins_one v p none items alike

-- ---- parts by their index

-- parts by their index and their number, each in some place
abbrev pub indexed_in : ℕ → plain.Trees → ℕ → Place → Place → Place → Place → Place → Place → plain.Tree
indexed_in d parts n a b c here f g =
    plain.Tree.merge (plain.Tree.lam d (one_type atom.Int) (plain.Tree.case (plain.Tree.var 0 a) parts b) c) (plain.Tree.field 0 (plain.Tree.lit (datum.Int (pos n)) here) f) g

indexed_alike : (v : ℕ → ℕ) (d depth : ℕ) (at : Place) (parts qs : plain.Trees) (n m : ℕ) (a b c here f g : Place) → n ≡ m → AllAlike (lifted v) parts qs →
    Alike v (indexed_in d parts n a b c here f g) (indexed depth at m qs)
indexed_alike v d depth at parts qs n m a b c here f g same h =
    subst (λ k. Alike v (indexed_in d parts n a b c here f g) (indexed depth at k qs)) same
    (Alike.merge (Alike.lam (Alike.case (Alike.var refl) h)) (Alike.field Alike.lit))

count_alike : {v : ℕ → ℕ} {ps qs : plain.Trees} → AllAlike v ps qs → parts_count ps ≡ trees_count qs
count_alike AllAlike.no_parts = refl
count_alike (AllAlike.and_part x more) = ap suc (count_alike more)

same_of_behind : (s r : Scope) → SameNames s r → SameNames (behind s) r
same_of_behind s r h = record { known = h.known; types = h.types }

-- `seq(p, ..)`
pub shows_parts : (names : List Bytes) (s : Scope) (v : ℕ → ℕ) (parts : plain.Trees) (d n : ℕ) (a b c here f g : Place) (text : Bytes) → n ≡ parts_count parts →
    ShowsMany symbol.Comma names (behind s) (lifted v) parts text → ShowsPhrase names s v Level.primary (indexed_in d parts n a b c here f g) ((codes "seq(" ++ text) ++ codes ")")
shows_parts names s v parts d n a b c here f g text size h =
    let word_is = spelled names (kind.Word word.Seq) tt tt in
    let opens = spelled names (kind.Sym symbol.OpenParen) tt tt in
    let closes = spelled names (kind.Sym symbol.CloseParen) tt tt in
    record {
      own = kind.Word word.Seq ∷ kind.Sym symbol.OpenParen ∷ (h.own ++ kind.Sym symbol.CloseParen ∷ []);
      reads = λ rest ks follows r.
          let closed = reads_token names (kind.Sym symbol.CloseParen) (41 ∷ []) rest ks closes refl (longest names (kind.Sym symbol.CloseParen) (41 ∷ []) rest closes follows) r in
          let inside = h.reads (41 ∷ rest) (kind.Sym symbol.CloseParen ∷ ks) (Follows.ending close-ends) closed in
          let opened = reads_token names (kind.Sym symbol.OpenParen) (40 ∷ []) (text ++ 41 ∷ rest) (h.own ++ kind.Sym symbol.CloseParen ∷ ks) opens refl (open-longest (text ++ 41 ∷ rest)) inside in
          reads_same names (codes "seq" ++ (40 ∷ (text ++ 41 ∷ rest))) (codes "seq" ++ (40 ∷ ((text ++ 41 ∷ []) ++ rest))) _ _
          (ap (λ l. codes "seq" ++ (40 ∷ l)) (sym (append_assoc text (41 ∷ []) rest)))
          (ap (λ l. kind.Word word.Seq ∷ kind.Sym symbol.OpenParen ∷ l) (sym (append_assoc h.own (kind.Sym symbol.CloseParen ∷ []) ks)))
          (reads_token names (kind.Word word.Seq) (codes "seq") (40 ∷ (text ++ 41 ∷ rest)) (kind.Sym symbol.OpenParen ∷ (h.own ++ kind.Sym symbol.CloseParen ∷ ks)) word_is refl
          (longest names (kind.Word word.Seq) (codes "seq") (40 ∷ (text ++ 41 ∷ rest)) word_is (Follows.ending open-ends)) opened);
      taken = λ us ks e.
          let w = peel us (kind.Word word.Seq) (kind.Sym symbol.OpenParen ∷ ((h.own ++ kind.Sym symbol.CloseParen ∷ []) ++ ks)) e in
          let o = peel w.rest (kind.Sym symbol.OpenParen) ((h.own ++ kind.Sym symbol.CloseParen ∷ []) ++ ks) w.left in
          let x = h.taken o.rest (kind.Sym symbol.CloseParen ∷ ks) (o.left ∙ append_assoc h.own (kind.Sym symbol.CloseParen ∷ []) ks) in
          let q = peel x.rest (kind.Sym symbol.CloseParen) ks x.left in
          let tree = Tree.seq_of (Trees.and_tree x.tree x.more) w.place in
          let all : us ≡ word_at word.Seq w.place ∷ symbol_at symbol.OpenParen o.place ∷ o.rest = w.is ∙ ap (λ l. word_at word.Seq w.place ∷ l) o.is in
          record {
            tree = tree;
            rest = q.rest;
            spells =
                subst (λ l. SpellsBefore Level.primary tree l q.rest) (sym all)
                (SpellsBefore.seq_of x.first (subst (λ l. MoreTrees symbol.Comma Level.term x.more x.middle l) q.is x.others));
            left = q.left;
            means = (
              indexed_alike v d s.depth w.place parts (parts_of (behind s) (Trees.and_tree x.tree x.more)) n (trees_count (parts_of (behind s) (Trees.and_tree x.tree x.more))) a b c here f g
                  (size ∙ count_alike x.means) x.means,
              λ r same. x.clear r (same_of_behind s r same),
              λ i. absurd i,
            );
          };
    }

-- a string
pub shows_string : (names : List Bytes) (s : Scope) (v : ℕ → ℕ) (parts : plain.Trees) (bytes : Bytes) (d n : ℕ) (a b c here f g : Place) → AreBytes bytes → n ≡ length bytes →
    ((at : Place) → AllAlike (lifted v) parts (text_parts at bytes)) → ShowsPhrase names s v Level.primary (indexed_in d parts n a b c here f g) (string_text bytes)
shows_string names s v parts bytes d n a b c here f g are size means =
    shows_token names s v (indexed_in d parts n a b c here f g) (kind.Str bytes) (string_text bytes) (λ at. Tree.string bytes at)
    (elements_text 34 bytes, refl, elements_read 34 bytes are refl) refl (λ at r. SpellsBefore.string)
    (λ at. (indexed_alike v d s.depth at parts (text_parts at bytes) n (length bytes) a b c here f g size (means at), λ r same. refl, λ i. absurd i))
