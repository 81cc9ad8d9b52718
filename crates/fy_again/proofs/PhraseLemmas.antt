-- Texts of phrases by their parts: how they are read, and what their tokens spell. Names are those of a list that has them.
use Rattle.std.proofs.Common.{◌≡◌, ℕ, true, IsTrue, inl, inr, None, List, [], ◌∷◌, ◌++◌, codes, refl, sym, ap, subst, ◌∙◌, append_assoc}
use Rattle.std.specs.Str.{bytes_eq}
use Rattle.std.proofs.lemmas.Bool.{false≢true, or_cases}
use Rattle.std.proofs.lemmas.List.Elements.{All-head, All-tail}
use Rattle.std.proofs.lemmas.Slice.Eq.{bytes_eq-Decides}
use Rattle.fy_base.specs.Outside.{Bytes}
use Rattle.fy_base.specs.declared.data.Place.{Place}
use Rattle.fy_types.specs.Names.{has, number_of}
use Rattle.fy_types.specs.Words.{is_identifier}
use Rattle.fy_types.proofs.NameLemmas.{with_name-old}
use Rattle.fy_lexer.specs.declared.token.Token.{Token}
use Rattle.fy_lexer.specs.declared.token.TokenKind.{TokenKind}
use Rattle.fy_lexer.specs.declared.token.TokenKind.TheVariants as kind
use Rattle.fy_lexer.specs.declared.token.Keyword.{Keyword}
use Rattle.fy_lexer.specs.declared.token.Keyword.TheVariants as word
use Rattle.fy_lexer.specs.declared.token.Symbol.TheVariants as symbol
use Rattle.fy_lexer.specs.Identifiers.{AreIdentifiers}
use Rattle.fy_lexer.specs.Again.{kinds}
use Rattle.fy_lexer.specs.Spellings.{Spells, symbols}
use Rattle.fy_lexer.proofs.OverLemmas.{EndsTokens, blank-ends, close-ends}
use Rattle.fy_syntax.specs.Trees.{Tree, Trees, Links}
use Rattle.fy_syntax.specs.Signs.{Level, token, front}
use Rattle.fy_syntax.specs.Spells.{apply_of, SpellsBefore, MoreTrees, MoreLinks, MoreArguments, Dots, Prefixes}
use Rattle.fy_syntax.proofs.KindTexts.{spelled, word_text}
use Rattle.fy_phrase.specs.Tree as plain
use Rattle.fy_phrase.specs.Alike.{Alike, lifted}
use Rattle.fy_expand.specs.Core.{core, applied}
use Rattle.fy_expand.specs.Faults.{fault, all_faults}
use Rattle.fy_expand.specs.Scope.{Scope, under}
use Rattle.fy_again.proofs.FaultLemmas.{Means, IsClear, both_fine, first_part, second_part, same_under}
use Rattle.fy_again.proofs.EndLemmas.{Follows, longest, open-longest}
use Rattle.fy_again.proofs.ReadLemmas.{Reads, reads_blank, reads_token, reads_same, peel}

-- no token goes on over a comma, a semicolon, a dot or an opening parenthesis
pub comma-ends : EndsTokens 44
unfolding symbols
comma-ends = record { names = refl; digits = refl; symbols_apart = refl }

pub semicolon-ends : EndsTokens 59
unfolding symbols
semicolon-ends = record { names = refl; digits = refl; symbols_apart = refl }

pub dot-ends : EndsTokens 46
unfolding symbols
dot-ends = record { names = refl; digits = refl; symbols_apart = refl }

pub open-ends : EndsTokens 40
unfolding symbols
open-ends = record { names = refl; digits = refl; symbols_apart = refl }

-- tokens spell a phrase that means this one in the scope but for places, with its variables renumbered, and tokens of those kinds are left
pub record SpelledPhrase (s : Scope) (v : ℕ → ℕ) (l : Level) (p : plain.Tree) (us : List Token) (ks : List TokenKind) : Type 0 where
  pub tree : Tree
  pub rest : List Token
  pub spells : SpellsBefore l tree us rest
  pub left : kinds rest ≡ ks
  pub means : Means s v p tree

-- the text shows the phrase at that level: it is read as tokens of some kinds, and such tokens spell the phrase
pub record ShowsPhrase (names : List Bytes) (s : Scope) (v : ℕ → ℕ) (l : Level) (p : plain.Tree) (text : Bytes) : Type 0 where
  pub own : List TokenKind
  pub reads : (rest : Bytes) (ks : List TokenKind) → Follows rest → Reads names rest ks → Reads names (text ++ rest) (own ++ ks)
  pub taken : (us : List Token) (ks : List TokenKind) → kinds us ≡ own ++ ks → SpelledPhrase s v l p us ks

-- ---- levels

pub to_select : {names : List Bytes} {s : Scope} {v : ℕ → ℕ} {p : plain.Tree} {text : Bytes} → ShowsPhrase names s v Level.primary p text → ShowsPhrase names s v Level.select p text
to_select h = record {
  own = h.own;
  reads = h.reads;
  taken = λ us ks e. let x = h.taken us ks e in record { tree = x.tree; rest = x.rest; spells = SpellsBefore.select {t = x.tree} {names = []} {ts = us} {m = x.rest} {r = x.rest} x.spells Dots.no_dots; left = x.left; means = x.means };
}

pub to_apply : {names : List Bytes} {s : Scope} {v : ℕ → ℕ} {p : plain.Tree} {text : Bytes} → ShowsPhrase names s v Level.select p text → ShowsPhrase names s v Level.apply p text
to_apply h = record {
  own = h.own;
  reads = h.reads;
  taken = λ us ks e. let x = h.taken us ks e in record { tree = x.tree; rest = x.rest; spells = SpellsBefore.apply {t = x.tree} {more = Trees.no_trees} {ts = us} {m = x.rest} {r = x.rest} x.spells MoreArguments.no_arguments; left = x.left; means = x.means };
}

pub to_prefixed : {names : List Bytes} {s : Scope} {v : ℕ → ℕ} {p : plain.Tree} {text : Bytes} → ShowsPhrase names s v Level.apply p text → ShowsPhrase names s v Level.prefixed p text
to_prefixed h = record {
  own = h.own;
  reads = h.reads;
  taken = λ us ks e. let x = h.taken us ks e in record { tree = x.tree; rest = x.rest; spells = SpellsBefore.prefixed {operators = []} {t = x.tree} {ts = us} {m = us} {r = x.rest} Prefixes.no_prefixes x.spells; left = x.left; means = x.means };
}

pub to_product : {names : List Bytes} {s : Scope} {v : ℕ → ℕ} {p : plain.Tree} {text : Bytes} → ShowsPhrase names s v Level.prefixed p text → ShowsPhrase names s v Level.product p text
to_product h = record {
  own = h.own;
  reads = h.reads;
  taken = λ us ks e. let x = h.taken us ks e in record { tree = x.tree; rest = x.rest; spells = SpellsBefore.product {t = x.tree} {more = Links.no_links} {ts = us} {m = x.rest} {r = x.rest} x.spells MoreLinks.no_links; left = x.left; means = x.means };
}

pub to_sum : {names : List Bytes} {s : Scope} {v : ℕ → ℕ} {p : plain.Tree} {text : Bytes} → ShowsPhrase names s v Level.product p text → ShowsPhrase names s v Level.sum p text
to_sum h = record {
  own = h.own;
  reads = h.reads;
  taken = λ us ks e. let x = h.taken us ks e in record { tree = x.tree; rest = x.rest; spells = SpellsBefore.sum {t = x.tree} {more = Links.no_links} {ts = us} {m = x.rest} {r = x.rest} x.spells MoreLinks.no_links; left = x.left; means = x.means };
}

pub to_relation : {names : List Bytes} {s : Scope} {v : ℕ → ℕ} {p : plain.Tree} {text : Bytes} → ShowsPhrase names s v Level.sum p text → ShowsPhrase names s v Level.relation p text
to_relation h = record {
  own = h.own;
  reads = h.reads;
  taken = λ us ks e. let x = h.taken us ks e in record { tree = x.tree; rest = x.rest; spells = SpellsBefore.no_relation x.spells; left = x.left; means = x.means };
}

pub to_both : {names : List Bytes} {s : Scope} {v : ℕ → ℕ} {p : plain.Tree} {text : Bytes} → ShowsPhrase names s v Level.relation p text → ShowsPhrase names s v Level.both p text
to_both h = record {
  own = h.own;
  reads = h.reads;
  taken = λ us ks e. let x = h.taken us ks e in record { tree = x.tree; rest = x.rest; spells = SpellsBefore.both {t = x.tree} {more = Links.no_links} {ts = us} {m = x.rest} {r = x.rest} x.spells MoreLinks.no_links; left = x.left; means = x.means };
}

pub to_either : {names : List Bytes} {s : Scope} {v : ℕ → ℕ} {p : plain.Tree} {text : Bytes} → ShowsPhrase names s v Level.both p text → ShowsPhrase names s v Level.either p text
to_either h = record {
  own = h.own;
  reads = h.reads;
  taken = λ us ks e. let x = h.taken us ks e in record { tree = x.tree; rest = x.rest; spells = SpellsBefore.either {t = x.tree} {more = Links.no_links} {ts = us} {m = x.rest} {r = x.rest} x.spells MoreLinks.no_links; left = x.left; means = x.means };
}

pub to_term : {names : List Bytes} {s : Scope} {v : ℕ → ℕ} {p : plain.Tree} {text : Bytes} → ShowsPhrase names s v Level.either p text → ShowsPhrase names s v Level.term p text
to_term h = record {
  own = h.own;
  reads = h.reads;
  taken = λ us ks e. let x = h.taken us ks e in record { tree = x.tree; rest = x.rest; spells = SpellsBefore.no_assign x.spells; left = x.left; means = x.means };
}

pub to_sequence : {names : List Bytes} {s : Scope} {v : ℕ → ℕ} {p : plain.Tree} {text : Bytes} → ShowsPhrase names s v Level.term p text → ShowsPhrase names s v Level.sequence p text
to_sequence h = record {
  own = h.own;
  reads = h.reads;
  taken = λ us ks e. let x = h.taken us ks e in record { tree = x.tree; rest = x.rest; spells = SpellsBefore.sequence {t = x.tree} {more = Trees.no_trees} {ts = us} {m = x.rest} {r = x.rest} x.spells MoreTrees.no_trees; left = x.left; means = x.means };
}

pub to_phrase : {names : List Bytes} {s : Scope} {v : ℕ → ℕ} {p : plain.Tree} {text : Bytes} → ShowsPhrase names s v Level.sequence p text → ShowsPhrase names s v Level.phrase p text
to_phrase h = record {
  own = h.own;
  reads = h.reads;
  taken = λ us ks e. let x = h.taken us ks e in record { tree = x.tree; rest = x.rest; spells = SpellsBefore.phrase {t = x.tree} {more = Trees.no_trees} {ts = us} {m = x.rest} {r = x.rest} x.spells MoreTrees.no_trees; left = x.left; means = x.means };
}

-- ---- parts

pub shows_enclosed : (names : List Bytes) (s : Scope) (v : ℕ → ℕ) (p : plain.Tree) (text : Bytes) → ShowsPhrase names s v Level.phrase p text → ShowsPhrase names s v Level.primary p (codes "(" ++ text ++ codes ")")
shows_enclosed names s v p text h =
    let opens = spelled names (kind.Sym symbol.OpenParen) tt tt in
    let closes = spelled names (kind.Sym symbol.CloseParen) tt tt in
    record {
      own = kind.Sym symbol.OpenParen ∷ (h.own ++ kind.Sym symbol.CloseParen ∷ []);
      reads = λ rest ks f r.
          let closed = reads_token names (kind.Sym symbol.CloseParen) (41 ∷ []) rest ks closes refl (longest names (kind.Sym symbol.CloseParen) (41 ∷ []) rest closes f) r in
          let inside = h.reads (41 ∷ rest) (kind.Sym symbol.CloseParen ∷ ks) (Follows.ending close-ends) closed in
          let opened = reads_token names (kind.Sym symbol.OpenParen) (40 ∷ []) (text ++ 41 ∷ rest) (h.own ++ kind.Sym symbol.CloseParen ∷ ks) opens refl (open-longest (text ++ 41 ∷ rest)) inside in
          reads_same names (40 ∷ (text ++ 41 ∷ rest)) (40 ∷ ((text ++ 41 ∷ []) ++ rest)) _ _
          (ap (λ l. 40 ∷ l) (sym (append_assoc text (41 ∷ []) rest)))
          (ap (λ l. kind.Sym symbol.OpenParen ∷ l) (sym (append_assoc h.own (kind.Sym symbol.CloseParen ∷ []) ks)))
          opened;
      taken = λ us ks e.
          let o = peel us (kind.Sym symbol.OpenParen) ((h.own ++ kind.Sym symbol.CloseParen ∷ []) ++ ks) e in
          let x = h.taken o.rest (kind.Sym symbol.CloseParen ∷ ks) (o.left ∙ append_assoc h.own (kind.Sym symbol.CloseParen ∷ []) ks) in
          let q = peel x.rest (kind.Sym symbol.CloseParen) ks x.left in
          record {
            tree = Tree.group x.tree o.place;
            rest = q.rest;
            spells =
                subst (λ l. SpellsBefore Level.primary (Tree.group x.tree o.place) l q.rest) (sym o.is)
                (SpellsBefore.group (subst (λ l. SpellsBefore Level.phrase x.tree o.rest l) q.is x.spells));
            left = q.left;
            means = x.means;
          };
    }

-- `skip`
pub shows_skip : (names : List Bytes) (s : Scope) (v : ℕ → ℕ) (at : Place) → ShowsPhrase names s v Level.primary (plain.Tree.skip at) (codes "skip")
shows_skip names s v at =
    let sp = spelled names (kind.Word word.Skip) tt tt in
    record {
      own = kind.Word word.Skip ∷ [];
      reads = λ rest ks f r. reads_token names (kind.Word word.Skip) (codes "skip") rest ks sp refl (longest names (kind.Word word.Skip) (codes "skip") rest sp f) r;
      taken = λ us ks e.
          let o = peel us (kind.Word word.Skip) ks e in
          record {
            tree = Tree.skip o.place;
            rest = o.rest;
            spells = subst (λ l. SpellsBefore Level.primary (Tree.skip o.place) l o.rest) (sym o.is) SpellsBefore.skip;
            left = o.left;
            means = (Alike.skip, λ r same. refl, λ h. absurd h);
          };
    }

-- `loop p`
pub shows_loop : (names : List Bytes) (s : Scope) (v : ℕ → ℕ) (p : plain.Tree) (at : Place) (text : Bytes) → ShowsPhrase names s v Level.term p text →
    ShowsPhrase names s v Level.term (plain.Tree.forever p at) (codes "loop " ++ text)
shows_loop names s v p at text h =
    let sp = spelled names (kind.Word word.Loop) tt tt in
    record {
      own = kind.Word word.Loop ∷ h.own;
      reads = λ rest ks f r.
          reads_token names (kind.Word word.Loop) (codes "loop") (32 ∷ (text ++ rest)) (h.own ++ ks) sp refl
          (longest names (kind.Word word.Loop) (codes "loop") (32 ∷ (text ++ rest)) sp (Follows.ending blank-ends))
          (reads_blank names (text ++ rest) (h.own ++ ks) (h.reads rest ks f r));
      taken = λ us ks e.
          let o = peel us (kind.Word word.Loop) (h.own ++ ks) e in
          let x = h.taken o.rest ks o.left in
          record {
            tree = Tree.loop x.tree o.place;
            rest = x.rest;
            spells = subst (λ l. SpellsBefore Level.term (Tree.loop x.tree o.place) l x.rest) (sym o.is) (SpellsBefore.loop x.spells);
            left = x.left;
            means = (Alike.forever x.means.0, x.means.1, λ i. absurd i);
          };
    }

-- ---- words between parts

-- a word with a blank behind it
pub reads_word : (names : List Bytes) (w : Keyword) (rest : Bytes) (ks : List TokenKind) → Reads names rest ks → Reads names (word_text w ++ 32 ∷ rest) (kind.Word w ∷ ks)
reads_word names w rest ks r =
    let sp = spelled names (kind.Word w) tt tt in
    reads_token names (kind.Word w) (word_text w) (32 ∷ rest) ks sp refl (longest names (kind.Word w) (word_text w) (32 ∷ rest) sp (Follows.ending blank-ends)) (reads_blank names rest ks r)

pub grouped_three : (a w b rest : Bytes) → ((a ++ w) ++ b) ++ rest ≡ a ++ (w ++ (b ++ rest))
grouped_three a w b rest = append_assoc (a ++ w) b rest ∙ append_assoc a w (b ++ rest)

pub grouped_five : (a u b w c rest : Bytes) → ((((a ++ u) ++ b) ++ w) ++ c) ++ rest ≡ a ++ (u ++ (b ++ (w ++ (c ++ rest))))
grouped_five a u b w c rest = append_assoc (((a ++ u) ++ b) ++ w) c rest ∙ (append_assoc ((a ++ u) ++ b) w (c ++ rest) ∙ grouped_three a u b (w ++ (c ++ rest)))

-- `while b do p`
pub shows_while : (names : List Bytes) (s : Scope) (v : ℕ → ℕ) (b p : plain.Tree) (at : Place) (one two : Bytes) → ShowsPhrase names s v Level.term b one → ShowsPhrase names s v Level.term p two →
    ShowsPhrase names s v Level.term (plain.Tree.while_do b p at) (((codes "while " ++ one) ++ codes " do ") ++ two)
shows_while names s v b p at one two h g = record {
  own = kind.Word word.While ∷ (h.own ++ kind.Word word.Do ∷ g.own);
  reads = λ rest ks f r.
      let last = reads_word names word.Do (two ++ rest) (g.own ++ ks) (g.reads rest ks f r) in
      let between = reads_blank names (codes "do " ++ (two ++ rest)) (kind.Word word.Do ∷ (g.own ++ ks)) last in
      let first = h.reads (codes " do " ++ (two ++ rest)) (kind.Word word.Do ∷ (g.own ++ ks)) (Follows.ending blank-ends) between in
      reads_same names (codes "while " ++ (one ++ (codes " do " ++ (two ++ rest)))) (codes "while " ++ (((one ++ codes " do ") ++ two) ++ rest)) _ _
      (ap (λ l. codes "while " ++ l) (sym (grouped_three one (codes " do ") two rest)))
      (ap (λ l. kind.Word word.While ∷ l) (sym (append_assoc h.own (kind.Word word.Do ∷ g.own) ks)))
      (reads_word names word.While (one ++ (codes " do " ++ (two ++ rest))) (h.own ++ kind.Word word.Do ∷ (g.own ++ ks)) first);
  taken = λ us ks e.
      let o = peel us (kind.Word word.While) ((h.own ++ kind.Word word.Do ∷ g.own) ++ ks) e in
      let x = h.taken o.rest (kind.Word word.Do ∷ (g.own ++ ks)) (o.left ∙ append_assoc h.own (kind.Word word.Do ∷ g.own) ks) in
      let d = peel x.rest (kind.Word word.Do) (g.own ++ ks) x.left in
      let y = g.taken d.rest ks d.left in
      record {
        tree = Tree.while_do x.tree y.tree o.place;
        rest = y.rest;
        spells =
            subst (λ l. SpellsBefore Level.term (Tree.while_do x.tree y.tree o.place) l y.rest) (sym o.is)
            (SpellsBefore.while_do (subst (λ l. SpellsBefore Level.term x.tree o.rest l) d.is x.spells) y.spells);
        left = y.left;
        means = (Alike.while_do x.means.0 y.means.0, λ r same. both_fine _ _ (x.means.1 r same) (y.means.1 r same), λ i. absurd i);
      };
}

-- `if b then p else q`
pub shows_cond : (names : List Bytes) (s : Scope) (v : ℕ → ℕ) (b p q : plain.Tree) (at : Place) (one two three : Bytes) → ShowsPhrase names s v Level.term b one → ShowsPhrase names s v Level.term p two →
    ShowsPhrase names s v Level.term q three → ShowsPhrase names s v Level.term (plain.Tree.cond b p q at) (((((codes "if " ++ one) ++ codes " then ") ++ two) ++ codes " else ") ++ three)
shows_cond names s v b p q at one two three h g j = record {
  own = kind.Word word.If ∷ (h.own ++ kind.Word word.Then ∷ (g.own ++ kind.Word word.Else ∷ j.own));
  reads = λ rest ks f r.
      let last = reads_blank names (codes "else " ++ (three ++ rest)) (kind.Word word.Else ∷ (j.own ++ ks)) (reads_word names word.Else (three ++ rest) (j.own ++ ks) (j.reads rest ks f r)) in
      let middle = g.reads (codes " else " ++ (three ++ rest)) (kind.Word word.Else ∷ (j.own ++ ks)) (Follows.ending blank-ends) last in
      let between =
      reads_blank names (codes "then " ++ (two ++ (codes " else " ++ (three ++ rest)))) (kind.Word word.Then ∷ (g.own ++ kind.Word word.Else ∷ (j.own ++ ks)))
      (reads_word names word.Then (two ++ (codes " else " ++ (three ++ rest))) (g.own ++ kind.Word word.Else ∷ (j.own ++ ks)) middle) in
      let first =
      h.reads (codes " then " ++ (two ++ (codes " else " ++ (three ++ rest)))) (kind.Word word.Then ∷ (g.own ++ kind.Word word.Else ∷ (j.own ++ ks))) (Follows.ending blank-ends) between in
      reads_same names (codes "if " ++ (one ++ (codes " then " ++ (two ++ (codes " else " ++ (three ++ rest))))))
      (codes "if " ++ (((((one ++ codes " then ") ++ two) ++ codes " else ") ++ three) ++ rest)) _ _
      (ap (λ l. codes "if " ++ l) (sym (grouped_five one (codes " then ") two (codes " else ") three rest)))
      (ap (λ l. kind.Word word.If ∷ l)
      (sym (append_assoc h.own (kind.Word word.Then ∷ (g.own ++ kind.Word word.Else ∷ j.own)) ks
      ∙ ap (λ l. h.own ++ kind.Word word.Then ∷ l) (append_assoc g.own (kind.Word word.Else ∷ j.own) ks))))
      (reads_word names word.If (one ++ (codes " then " ++ (two ++ (codes " else " ++ (three ++ rest))))) (h.own ++ kind.Word word.Then ∷ (g.own ++ kind.Word word.Else ∷ (j.own ++ ks))) first);
  taken = λ us ks e.
      let o = peel us (kind.Word word.If) ((h.own ++ kind.Word word.Then ∷ (g.own ++ kind.Word word.Else ∷ j.own)) ++ ks) e in
      let x = h.taken o.rest (kind.Word word.Then ∷ ((g.own ++ kind.Word word.Else ∷ j.own) ++ ks)) (o.left ∙ append_assoc h.own (kind.Word word.Then ∷ (g.own ++ kind.Word word.Else ∷ j.own)) ks) in
      let d = peel x.rest (kind.Word word.Then) ((g.own ++ kind.Word word.Else ∷ j.own) ++ ks) x.left in
      let y = g.taken d.rest (kind.Word word.Else ∷ (j.own ++ ks)) (d.left ∙ append_assoc g.own (kind.Word word.Else ∷ j.own) ks) in
      let i = peel y.rest (kind.Word word.Else) (j.own ++ ks) y.left in
      let z = j.taken i.rest ks i.left in
      record {
        tree = Tree.cond x.tree y.tree z.tree o.place;
        rest = z.rest;
        spells =
            subst (λ l. SpellsBefore Level.term (Tree.cond x.tree y.tree z.tree o.place) l z.rest) (sym o.is)
            (SpellsBefore.cond (subst (λ l. SpellsBefore Level.term x.tree o.rest l) d.is x.spells) (subst (λ l. SpellsBefore Level.term y.tree d.rest l) i.is y.spells) z.spells);
        left = z.left;
        means = (
          Alike.cond x.means.0 y.means.0 z.means.0,
          λ r same. both_fine _ _ (x.means.1 r same) (both_fine _ _ (y.means.1 r same) (z.means.1 r same)),
          λ i. absurd i,
        );
      };
}

-- ---- names

-- an identifier that is among the names
pub record IsShown (names : List Bytes) (x : Bytes) : Type 0 where
  pub identifier : IsTrue (is_identifier x)
  pub known : has names x ≡ true

identifier_there : (names : List Bytes) (x : Bytes) → AreIdentifiers names → has names x ≡ true → IsTrue (is_identifier x)
identifier_there [] x h g = absurd (false≢true g)
identifier_there (name ∷ names) x h g = elim (or_cases (bytes_eq x name) (has names x) g) [
  | inl e ↦ subst (λ y. IsTrue (is_identifier y)) (sym ((bytes_eq-Decides x name).0 e)) (All-head (λ y. IsTrue (is_identifier y)) name names h)
  | inr e ↦ identifier_there names x (All-tail (λ y. IsTrue (is_identifier y)) name names h) e
]

-- a name of a list of identifiers
pub shown_there : (names : List Bytes) (x : Bytes) → AreIdentifiers names → has names x ≡ true → IsShown names x
shown_there names x h g = record { identifier = identifier_there names x h g; known = g }

-- a name before a blank
pub reads_name : (names : List Bytes) (x : Bytes) (rest : Bytes) (ks : List TokenKind) → IsShown names x → Follows rest → Reads names rest ks → Reads names (x ++ rest) (kind.Ident (number_of names x) ∷ ks)
reads_name names x rest ks is f r =
    let sp : Spells names (kind.Ident (number_of names x)) x = (is.identifier, refl) in
    reads_token names (kind.Ident (number_of names x)) x rest ks sp (with_name-old names x is.known) (longest names (kind.Ident (number_of names x)) x rest sp f) r

-- `escape x in p`
pub shows_escape : (names : List Bytes) (s : Scope) (v : ℕ → ℕ) (d : ℕ) (p : plain.Tree) (at : Place) (x text : Bytes) → IsShown names x →
    ShowsPhrase names (under (number_of names x) s) (lifted v) Level.term p text →
    ShowsPhrase names s v Level.term (plain.Tree.escape d p at) (((codes "escape " ++ x) ++ codes " in ") ++ text)
shows_escape names s v d p at x text is h = record {
  own = kind.Word word.Escape ∷ kind.Ident (number_of names x) ∷ kind.Word word.In ∷ h.own;
  reads = λ rest ks f r.
      let inside = reads_blank names (codes "in " ++ (text ++ rest)) (kind.Word word.In ∷ (h.own ++ ks)) (reads_word names word.In (text ++ rest) (h.own ++ ks) (h.reads rest ks f r)) in
      let name = reads_name names x (codes " in " ++ (text ++ rest)) (kind.Word word.In ∷ (h.own ++ ks)) is (Follows.ending blank-ends) inside in
      reads_same names (codes "escape " ++ (x ++ (codes " in " ++ (text ++ rest)))) (codes "escape " ++ (((x ++ codes " in ") ++ text) ++ rest)) _ _
      (ap (λ l. codes "escape " ++ l) (sym (grouped_three x (codes " in ") text rest))) refl
      (reads_word names word.Escape (x ++ (codes " in " ++ (text ++ rest))) (kind.Ident (number_of names x) ∷ kind.Word word.In ∷ (h.own ++ ks)) name);
  taken = λ us ks e.
      let o = peel us (kind.Word word.Escape) (kind.Ident (number_of names x) ∷ kind.Word word.In ∷ (h.own ++ ks)) e in
      let i = peel o.rest (kind.Ident (number_of names x)) (kind.Word word.In ∷ (h.own ++ ks)) o.left in
      let w = peel i.rest (kind.Word word.In) (h.own ++ ks) i.left in
      let y = h.taken w.rest ks w.left in
      let all : us ≡ token (kind.Word word.Escape) o.place ∷ token (kind.Ident (number_of names x)) i.place ∷ token (kind.Word word.In) w.place ∷ w.rest =
      o.is ∙ ap (λ l. token (kind.Word word.Escape) o.place ∷ l) (i.is ∙ ap (λ l. token (kind.Ident (number_of names x)) i.place ∷ l) w.is) in
      record {
        tree = Tree.escape (number_of names x) y.tree o.place;
        rest = y.rest;
        spells = subst (λ l. SpellsBefore Level.term (Tree.escape (number_of names x) y.tree o.place) l y.rest) (sym all) (SpellsBefore.escape y.spells);
        left = y.left;
        means = (Alike.escape y.means.0, λ r same. y.means.1 (under (number_of names x) r) (same_under (number_of names x) s r same), λ i. absurd i);
      };
}

-- ---- lists of parts that are one node

-- one more argument
unfoldable pub one_more : Trees → Tree → Trees
one_more Trees.no_trees u = Trees.and_tree u Trees.no_trees
one_more (Trees.and_tree t more) u = Trees.and_tree t (one_more more u)

more_spelled : {more : Trees} {u : Tree} {us m r : List Token} → MoreArguments more us m → SpellsBefore Level.select u m r → MoreArguments (one_more more u) us r
unfolding one_more
more_spelled MoreArguments.no_arguments z = MoreArguments.and_argument z MoreArguments.no_arguments
more_spelled (MoreArguments.and_argument x y) z = MoreArguments.and_argument x (more_spelled y z)

applied_more : (s : Scope) (at : Place) (left : plain.Tree) (more : Trees) (u : Tree) → applied s at left (one_more more u) ≡ plain.Tree.app (applied s at left more) (core s u) at
unfolding one_more
applied_more s at left Trees.no_trees u = refl
applied_more s at left (Trees.and_tree t more) u = applied_more s at (plain.Tree.app left (core s t) at) more u

apply_means : (s : Scope) (t : Tree) (more : Trees) (at : Place) (u : Tree) → core s (apply_of t (one_more more u) at) ≡ plain.Tree.app (core s (apply_of t more at)) (core s u) at
unfolding one_more
apply_means s t Trees.no_trees at u = refl
apply_means s t (Trees.and_tree b more) at u = applied_more s at (core s t) (Trees.and_tree b more) u

all_more : (r : Scope) (more : Trees) (u : Tree) → None ≡ all_faults r more → None ≡ fault r u → None ≡ all_faults r (one_more more u)
unfolding one_more
all_more r Trees.no_trees u h g = both_fine _ _ g refl
all_more r (Trees.and_tree t more) u h g = both_fine _ _ (first_part (fault r t) (all_faults r more) h) (all_more r more u (second_part (fault r t) (all_faults r more) h) g)

apply_clear : (r : Scope) (t : Tree) (more : Trees) (at : Place) (u : Tree) → None ≡ fault r (apply_of t more at) → None ≡ fault r u → None ≡ fault r (apply_of t (one_more more u) at)
unfolding one_more
apply_clear r t Trees.no_trees at u h g = both_fine _ _ h (both_fine _ _ g refl)
apply_clear r t (Trees.and_tree b more) at u h g =
    both_fine _ _ (first_part (fault r t) (all_faults r (Trees.and_tree b more)) h) (all_more r (Trees.and_tree b more) u (second_part (fault r t) (all_faults r (Trees.and_tree b more)) h) g)

-- a call with one more argument
pub record Called (s : Scope) (t u : Tree) (us r : List Token) : Type 0 where
  pub tree : Tree
  pub spells : SpellsBefore Level.apply tree us r
  pub at : Place
  pub means : core s tree ≡ plain.Tree.app (core s t) (core s u) at
  pub clear : IsClear s t → IsClear s u → IsClear s tree

called_more : (s : Scope) {t u : Tree} {us m r : List Token} → SpellsBefore Level.apply t us m → SpellsBefore Level.select u m r → Called s t u us r
called_more s {u = u} (SpellsBefore.apply {t = t} {more = more} {ts = ts} x y) z = record {
  tree = apply_of t (one_more more u) (front ts);
  spells = SpellsBefore.apply {t = t} {more = one_more more u} {ts = ts} x (more_spelled y z);
  at = front ts;
  means = apply_means s t more (front ts) u;
  clear = λ i j r same. apply_clear r t more (front ts) u (i r same) (j r same);
}

-- `p q`
pub shows_app : (names : List Bytes) (s : Scope) (v : ℕ → ℕ) (p q : plain.Tree) (at : Place) (one two : Bytes) → ShowsPhrase names s v Level.apply p one → ShowsPhrase names s v Level.select q two →
    ShowsPhrase names s v Level.apply (plain.Tree.app p q at) ((one ++ codes " ") ++ two)
shows_app names s v p q at one two h g = record {
  own = h.own ++ g.own;
  reads = λ rest ks f r.
      reads_same names (one ++ 32 ∷ (two ++ rest)) (((one ++ codes " ") ++ two) ++ rest) _ _ (sym (grouped_three one (codes " ") two rest)) (sym (append_assoc h.own g.own ks))
      (h.reads (32 ∷ (two ++ rest)) (g.own ++ ks) (Follows.ending blank-ends) (reads_blank names (two ++ rest) (g.own ++ ks) (g.reads rest ks f r)));
  taken = λ us ks e.
      let x = h.taken us (g.own ++ ks) (e ∙ append_assoc h.own g.own ks) in
      let y = g.taken x.rest ks x.left in
      let w = called_more s x.spells y.spells in
      record { tree = w.tree; rest = y.rest; spells = w.spells; left = y.left; means = (subst (λ z. Alike v (plain.Tree.app p q at) z) (sym w.means) (Alike.app x.means.0 y.means.0), w.clear x.means.1 y.means.1, λ i. absurd i) };
}

-- `p := q`
pub shows_assign : (names : List Bytes) (s : Scope) (v : ℕ → ℕ) (p q : plain.Tree) (at : Place) (one two : Bytes) → ShowsPhrase names s v Level.either p one → ShowsPhrase names s v Level.term q two →
    ShowsPhrase names s v Level.term (plain.Tree.assign p q at) ((one ++ codes " := ") ++ two)
shows_assign names s v p q at one two h g =
    let sp = spelled names (kind.Sym symbol.ColonEquals) tt tt in
    record {
      own = h.own ++ kind.Sym symbol.ColonEquals ∷ g.own;
      reads = λ rest ks f r.
          let behind = reads_blank names (two ++ rest) (g.own ++ ks) (g.reads rest ks f r) in
          let sign =
          reads_token names (kind.Sym symbol.ColonEquals) (58 ∷ 61 ∷ []) (32 ∷ (two ++ rest)) (g.own ++ ks) sp refl
          (longest names (kind.Sym symbol.ColonEquals) (58 ∷ 61 ∷ []) (32 ∷ (two ++ rest)) sp (Follows.ending blank-ends)) behind in
          reads_same names (one ++ (codes " := " ++ (two ++ rest))) (((one ++ codes " := ") ++ two) ++ rest) _ _ (sym (grouped_three one (codes " := ") two rest))
          (sym (append_assoc h.own (kind.Sym symbol.ColonEquals ∷ g.own) ks))
          (h.reads (codes " := " ++ (two ++ rest)) (kind.Sym symbol.ColonEquals ∷ (g.own ++ ks)) (Follows.ending blank-ends)
          (reads_blank names (58 ∷ 61 ∷ 32 ∷ (two ++ rest)) (kind.Sym symbol.ColonEquals ∷ (g.own ++ ks)) sign));
      taken = λ us ks e.
          let x = h.taken us (kind.Sym symbol.ColonEquals ∷ (g.own ++ ks)) (e ∙ append_assoc h.own (kind.Sym symbol.ColonEquals ∷ g.own) ks) in
          let o = peel x.rest (kind.Sym symbol.ColonEquals) (g.own ++ ks) x.left in
          let y = g.taken o.rest ks o.left in
          record {
            tree = Tree.assign x.tree o.place y.tree (front us);
            rest = y.rest;
            spells = SpellsBefore.assign (subst (λ l. SpellsBefore Level.either x.tree us l) o.is x.spells) y.spells;
            left = y.left;
            means = (Alike.assign x.means.0 y.means.0, λ r same. both_fine _ _ (x.means.1 r same) (y.means.1 r same), λ i. absurd i);
          };
    }
