-- What tokens spell is read, where the next token doesn't go on.
use Rattle.std.proofs.Common.{◌≡◌, ◌<◌, ◌≤◌, ◌+◌, ℕ, zero, suc, Bool, true, false, IsTrue, List, [], ◌∷◌, length, refl, ap, ◌∙◌, arith}
use Rattle.std.specs.Prelude.{Option, Ok}
use Rattle.fy_base.specs.declared.data.BinOp.{BinOp}
use Rattle.fy_base.specs.declared.data.Place.{Place}
use Rattle.fy_types.specs.declared.types.Atom.{Atom}
use Rattle.fy_types.specs.declared.types.Atom.TheVariants as atom
use Rattle.fy_lexer.specs.declared.token.Token.{Token}
use Rattle.fy_lexer.specs.declared.token.TokenKind.{TokenKind}
use Rattle.fy_lexer.specs.declared.token.TokenKind.TheVariants as kind
use Rattle.fy_lexer.specs.declared.token.Keyword.TheVariants as word
use Rattle.fy_lexer.specs.declared.token.Symbol.{Symbol}
use Rattle.fy_lexer.specs.declared.token.Symbol.TheVariants as symbol
use Rattle.fy_syntax.specs.Trees.{Tree, Trees, Defs, Links}
use Rattle.fy_syntax.specs.Nesting.{own, below, trees_nesting, trees_below, defs_nesting, links_below}
use Rattle.fy_syntax.specs.Signs.{front, token, word_at, Level, atom_word, is_data, operator_sign, operator_level, truth_word}
use Rattle.fy_syntax.specs.Spells.{Dots, SpellsBefore, MoreTrees, MoreDefs, MoreLinks, MoreArguments}
use Rattle.fy_syntax.specs.Reader.{begins_with, kind_at, dots_at, trees_at, defs_at, links_at, arguments_at, data_at, operator_at, of_level, primary_at, term_at, assign_at, Inner, inner, read_at, read_term, rank}
use Rattle.fy_syntax.proofs.SignLemmas.{reach, reach_of, stops, operator_read, operator_reach, operator_stops, of_level-same, starts_stops, is_symbol_same}
use Rattle.fy_syntax.proofs.TypesComplete.{type_shorter, type_complete, types_complete, types_front, types_within, decls_complete, decls_front}
use Rattle.fy_syntax.proofs.Fronts.{shorter, trees_front, defs_front, links_front, dots_front, arguments_front, select_starts, apply_starts, opens, either_opens, second, either_second, prefixes_complete, merge_nested, sequence_nested, chain_below, prefixed_below, apply_below, select_below, own_one}

-- the nesting of what stands at a level
abbrev pub depth_at : Level → Tree → ℕ
depth_at Level.phrase t = below t + own t
depth_at Level.sequence t = below t + own t
depth_at _ t = suc (below t)

dots_complete : {names : List ℕ} {ts r : List Token} (g : ℕ) → Dots names ts r → length ts ≤ g → begins_with symbol.Dot r ≡ false → dots_at g ts ≡ Ok (names, r)
dots_complete zero Dots.no_dots h e = refl
dots_complete (suc g) Dots.no_dots h e = rw e refl
dots_complete zero (Dots.and_dot x) h e = absurd (omega arith)
dots_complete (suc g) (Dots.and_dot x) h e = rw (dots_complete g x (omega arith) e) refl

-- a term that begins as an operand is read as an assignment or what stands left of one
term_is_assign : (i : Option Inner) (ts : List Token) → opens (kind_at ts) ≡ true → second ts < 12 → term_at i ts ≡ assign_at i ts
term_is_assign i [] e h = absurd cc
term_is_assign i (t ∷ ts) e h = go t.kind e h
  where
    go : (k : TokenKind) → opens k ≡ true → second (token k t.place ∷ ts) < 12 → term_at i (token k t.place ∷ ts) ≡ assign_at i (token k t.place ∷ ts)
    go (kind.Ident n) e h = rw (stops symbol.EqualsEquals ts h) refl
    go (kind.Sym symbol.Backslash) e h = absurd cc
    go (kind.Word word.Let) e h = absurd cc
    go (kind.Word word.Letrec) e h = absurd cc
    go (kind.Word word.Lettype) e h = absurd cc
    go (kind.Word word.New) e h = absurd cc
    go (kind.Word word.Escape) e h = absurd cc
    go (kind.Word word.Accept) e h = absurd cc
    go (kind.Word word.If) e h = absurd cc
    go (kind.Word word.While) e h = absurd cc
    go (kind.Word word.Loop) e h = absurd cc
    go _ e h = refl

-- members stand at the levels of sequences and terms
depth_nested : (d : ℕ) (l : Level) (t : Tree) {ts r : List Token} → SpellsBefore l t ts r → rank l < 4 → below t + own t ≤ suc d → depth_at l t ≤ suc d
depth_nested d Level.phrase t x h n = n
depth_nested d Level.sequence t x h n = n
depth_nested d Level.term t x h n = omega (arith, own_one x (omega arith))
depth_nested d Level.either t x h n = absurd (omega arith)
depth_nested d Level.both t x h n = absurd (omega arith)
depth_nested d Level.relation t x h n = absurd (omega arith)
depth_nested d Level.sum t x h n = absurd (omega arith)
depth_nested d Level.product t x h n = absurd (omega arith)
depth_nested d Level.prefixed t x h n = absurd (omega arith)
depth_nested d Level.apply t x h n = absurd (omega arith)
depth_nested d Level.select t x h n = absurd (omega arith)
depth_nested d Level.primary t x h n = absurd (omega arith)

-- the nesting of a phrase, with its own node
pub nested_depth : (n : ℕ) (l : Level) (t : Tree) {ts r : List Token} → SpellsBefore l t ts r → depth_at l t ≤ n → below t + own t ≤ n
nested_depth n Level.phrase t x h = h
nested_depth n Level.sequence t x h = h
nested_depth n Level.term t x h = omega (arith, own_one x (omega arith))
nested_depth n Level.either t x h = omega (arith, own_one x (omega arith))
nested_depth n Level.both t x h = omega (arith, own_one x (omega arith))
nested_depth n Level.relation t x h = omega (arith, own_one x (omega arith))
nested_depth n Level.sum t x h = omega (arith, own_one x (omega arith))
nested_depth n Level.product t x h = omega (arith, own_one x (omega arith))
nested_depth n Level.prefixed t x h = omega (arith, own_one x (omega arith))
nested_depth n Level.apply t x h = omega (arith, own_one x (omega arith))
nested_depth n Level.select t x h = omega (arith, own_one x (omega arith))
nested_depth n Level.primary t x h = omega (arith, own_one x (omega arith))

-- a phrase is one node or more
sequence_one : {t : Tree} {ts r : List Token} → SpellsBefore Level.sequence t ts r → 1 ≤ below t + own t
sequence_one (SpellsBefore.sequence {t = t} {more = more} {ts = ts} x y) = omega (arith, sequence_nested t more (front ts), own_one x (omega arith))

phrase_one : {t : Tree} {ts r : List Token} → SpellsBefore Level.phrase t ts r → 1 ≤ below t + own t
phrase_one (SpellsBefore.phrase {t = t} {more = more} {ts = ts} x y) = omega (arith, merge_nested t more (front ts), sequence_one x)

data_complete : (a : Atom) (p : Place) (r : List Token) → IsTrue (is_data a) → data_at (word_at (atom_word a) p ∷ r) ≡ Ok (a, r)
data_complete atom.Int p r d = refl
data_complete atom.Bool p r d = refl
data_complete atom.Char p r d = refl
data_complete atom.Comm p r d = absurd cc
data_complete atom.Compl p r d = absurd cc
data_complete atom.IntAcc p r d = absurd cc
data_complete atom.BoolAcc p r d = absurd cc
data_complete atom.CharAcc p r d = absurd cc

truth_complete : (i : Option Inner) (b : Bool) (p : Place) (r : List Token) → primary_at i (word_at (truth_word b) p ∷ r) ≡ Ok (Tree.truth b p, r)
truth_complete i true p r = refl
truth_complete i false p r = refl

operator_found : (c : Level) (o : BinOp) (p : Place) (ts : List Token) → operator_level o ≡ c → operator_at c (token (operator_sign o) p ∷ ts) ≡ Option.Some o
operator_found c o p ts e = ap (of_level c) (operator_read o) ∙ of_level-same c o e

mutual
  unfolding inner

  pub complete : {l : Level} {t : Tree} {ts r : List Token} (d : ℕ) → SpellsBefore l t ts r → depth_at l t ≤ suc d → reach_of r < rank l → read_at d l ts ≡ Ok (t, r)
  complete d (SpellsBefore.phrase {t = t} {more = more} {ts = ts} {m = m} {r = r} x y) n stop =
      rw (complete d x (omega (arith, merge_nested t more (front ts))) (trees_front 2 y (omega arith) (omega arith)))
      (rw (trees_complete d (length m) y (omega (arith, merge_nested t more (front ts))) (omega (arith, shorter x)) (omega arith) (omega arith) (stops symbol.Comma r stop) (omega arith)) refl)
  complete d (SpellsBefore.sequence {t = t} {more = more} {ts = ts} {m = m} {r = r} x y) n stop =
      rw (complete d x (omega (arith, sequence_nested t more (front ts), own_one x (omega arith))) (trees_front 3 y (omega arith) (omega arith)))
      (rw (trees_complete d (length m) y (omega (arith, sequence_nested t more (front ts))) (omega (arith, shorter x)) (omega arith) (omega arith) (stops symbol.Semicolon r stop) (omega arith)) refl)
  complete zero (SpellsBefore.lam x y z) n stop = absurd (omega arith)
  complete (suc d) (SpellsBefore.lam {more = more} {m = m} x y z) n stop =
      rw (type_complete d x (omega arith) (types_front y (omega arith) (omega arith)))
      (rw (types_complete d (length m) y (types_within more d (omega arith)) (omega (arith, type_shorter x)) (omega arith) (omega arith) refl)
      (rw (complete d z (omega (arith, own_one z (omega arith))) stop) refl))
  complete zero (SpellsBefore.let_in x y z) n stop = absurd (omega (arith, own_one z (omega arith)))
  complete (suc d) (SpellsBefore.let_in {m = m} x y z) n stop =
      rw (complete d x (omega (arith, own_one x (omega arith))) (defs_front 3 y (omega arith) (omega arith)))
      (rw (defs_complete d (length m) y (omega arith) (omega (arith, shorter x)) (omega arith) refl)
      (rw (complete d z (omega (arith, own_one z (omega arith))) stop) refl))
  complete zero (SpellsBefore.letrec a b x y z) n stop = absurd (omega arith)
  complete (suc d) (SpellsBefore.letrec {m = m} {k = k} a b x y z) n stop =
      rw (type_complete d a (omega arith) (decls_front b (omega arith)))
      (rw (decls_complete d (length m) b (omega arith) (omega (arith, type_shorter a)) (omega arith) refl)
      (rw (complete d x (omega (arith, own_one x (omega arith))) (defs_front 3 y (omega arith) (omega arith)))
      (rw (defs_complete d (length k) y (omega arith) (omega (arith, shorter x)) (omega arith) refl)
      (rw (complete d z (omega (arith, own_one z (omega arith))) stop) refl))))
  complete zero (SpellsBefore.let_type a x) n stop = absurd (omega arith)
  complete (suc d) (SpellsBefore.let_type a x) n stop =
      rw (type_complete d a (omega arith) (omega arith))
      (rw (complete d x (omega (arith, own_one x (omega arith))) stop) refl)
  complete zero (SpellsBefore.new e x y) n stop = absurd (omega (arith, own_one y (omega arith)))
  complete (suc d) (SpellsBefore.new {a = a} {ts = ts} {d = p} {e = q} e x y) n stop =
      rw (data_complete a p (token (kind.Sym symbol.ColonEquals) q ∷ ts) e)
      (rw (complete d x (omega (arith, own_one x (omega arith))) (omega arith))
      (rw (complete d y (omega (arith, own_one y (omega arith))) stop) refl))
  complete zero (SpellsBefore.escape x) n stop = absurd (omega (arith, own_one x (omega arith)))
  complete (suc d) (SpellsBefore.escape x) n stop = rw (complete d x (omega (arith, own_one x (omega arith))) stop) refl
  complete zero (SpellsBefore.accept e x) n stop = absurd (omega (arith, own_one x (omega arith)))
  complete (suc d) (SpellsBefore.accept {a = a} {ts = ts} {d = p} {i = i} e x) n stop =
      rw (data_complete a p (word_at word.In i ∷ ts) e) (rw (complete d x (omega (arith, own_one x (omega arith))) stop) refl)
  complete zero (SpellsBefore.cond x y z) n stop = absurd (omega (arith, own_one z (omega arith)))
  complete (suc d) (SpellsBefore.cond x y z) n stop =
      rw (complete d x (omega (arith, own_one x (omega arith))) (omega arith))
      (rw (complete d y (omega (arith, own_one y (omega arith))) (omega arith))
      (rw (complete d z (omega (arith, own_one z (omega arith))) stop) refl))
  complete zero (SpellsBefore.while_do x y) n stop = absurd (omega (arith, own_one y (omega arith)))
  complete (suc d) (SpellsBefore.while_do x y) n stop =
      rw (complete d x (omega (arith, own_one x (omega arith))) (omega arith))
      (rw (complete d y (omega (arith, own_one y (omega arith))) stop) refl)
  complete zero (SpellsBefore.loop x) n stop = absurd (omega (arith, own_one x (omega arith)))
  complete (suc d) (SpellsBefore.loop x) n stop = rw (complete d x (omega (arith, own_one x (omega arith))) stop) refl
  complete zero (SpellsBefore.field x) n stop = absurd (omega (arith, own_one x (omega arith)))
  complete (suc d) (SpellsBefore.field x) n stop = rw (complete d x (omega (arith, own_one x (omega arith))) stop) refl
  complete zero (SpellsBefore.assign x y) n stop = absurd (omega (arith, own_one y (omega arith)))
  complete (suc d) (SpellsBefore.assign {ts = ts} x y) n stop =
      rw (term_is_assign (inner (suc d)) ts (either_opens x) (either_second x (omega arith)))
      (rw (complete (suc d) x (omega arith) (omega arith))
      (rw (complete d y (omega (arith, own_one y (omega arith))) stop) refl))
  complete d (SpellsBefore.no_assign {ts = ts} {r = r} x) n stop =
      rw (term_is_assign (inner d) ts (either_opens x) (either_second x (omega arith)))
      (rw (complete d x n (omega arith)) (rw (stops symbol.ColonEquals r stop) refl))
  complete d (SpellsBefore.either {t = t} {more = more} {ts = ts} {m = m} {r = r} x y) n stop =
      rw (complete d x (omega (arith, chain_below t more (front ts))) (links_front 5 y (omega arith) (omega arith)))
      (rw (links_complete d (length m) y (omega (arith, chain_below t more (front ts))) (omega (arith, shorter x)) (omega arith) stop refl) refl)
  complete d (SpellsBefore.both {t = t} {more = more} {ts = ts} {m = m} {r = r} x y) n stop =
      rw (complete d x (omega (arith, chain_below t more (front ts))) (links_front 6 y (omega arith) (omega arith)))
      (rw (links_complete d (length m) y (omega (arith, chain_below t more (front ts))) (omega (arith, shorter x)) (omega arith) stop refl) refl)
  complete d (SpellsBefore.related {op = op} {m = m} {p = p} o x y) n stop =
      rw (complete d x (omega arith) (omega (arith, operator_reach op, ap rank o)))
      (rw (operator_found Level.relation op p m o)
      (rw (complete d y (omega arith) (omega arith)) refl))
  complete d (SpellsBefore.no_relation {r = r} x) n stop =
      rw (complete d x n (omega arith)) (rw (operator_stops Level.relation r stop) refl)
  complete d (SpellsBefore.sum {t = t} {more = more} {ts = ts} {m = m} {r = r} x y) n stop =
      rw (complete d x (omega (arith, chain_below t more (front ts))) (links_front 8 y (omega arith) (omega arith)))
      (rw (links_complete d (length m) y (omega (arith, chain_below t more (front ts))) (omega (arith, shorter x)) (omega arith) stop refl) refl)
  complete d (SpellsBefore.product {t = t} {more = more} {ts = ts} {m = m} {r = r} x y) n stop =
      rw (complete d x (omega (arith, chain_below t more (front ts))) (links_front 9 y (omega arith) (omega arith)))
      (rw (links_complete d (length m) y (omega (arith, chain_below t more (front ts))) (omega (arith, shorter x)) (omega arith) stop refl) refl)
  complete d (SpellsBefore.prefixed {operators = operators} {t = t} {ts = ts} x y) n stop =
      rw (prefixes_complete x (apply_starts y)) (rw (complete d y (omega (arith, prefixed_below operators t (front ts))) (omega arith)) refl)
  complete d (SpellsBefore.apply {t = t} {more = more} {ts = ts} {m = m} {r = r} x y) n stop =
      rw (complete d x (omega (arith, apply_below t more (front ts))) (arguments_front 11 y (omega arith) (omega arith)))
      (rw (arguments_complete d (length m) y (omega (arith, apply_below t more (front ts))) (omega (arith, shorter x)) stop) refl)
  complete d (SpellsBefore.select {t = t} {names = names} {ts = ts} {m = m} {r = r} x y) n stop =
      rw (complete d x (omega (arith, select_below t names (front ts))) (dots_front y (omega arith)))
      (rw (dots_complete (length m) y (omega (arith, shorter x)) (stops symbol.Dot r stop)) refl)
  complete d SpellsBefore.ident n stop = refl
  complete d SpellsBefore.number n stop = refl
  complete d SpellsBefore.letter n stop = refl
  complete d SpellsBefore.string n stop = refl
  complete d (SpellsBefore.truth {b = b} {r = r} {p = p}) n stop = truth_complete (inner d) b p r
  complete d SpellsBefore.skip n stop = refl
  complete zero (SpellsBefore.group x) n stop = absurd (omega (arith, phrase_one x))
  complete (suc d) (SpellsBefore.group x) n stop = rw (complete d x (omega arith) (omega arith)) refl
  complete zero (SpellsBefore.seq_of x y) n stop = absurd (omega (arith, own_one x (omega arith)))
  complete (suc d) (SpellsBefore.seq_of {m = m} x y) n stop =
      rw (complete d x (omega (arith, own_one x (omega arith))) (trees_front 3 y (omega arith) (omega arith)))
      (rw (trees_complete d (length m) y (omega arith) (omega (arith, shorter x)) (omega arith) (omega arith) refl (omega arith)) refl)

  pub trees_complete : {s : Symbol} {l : Level} {more : Trees} {ts r : List Token} (d g : ℕ) → MoreTrees s l more ts r → trees_nesting more ≤ suc d → length ts ≤ g →
      reach (kind.Sym s) < rank l → reach_of r < rank l → begins_with s r ≡ false → rank l < 4 → trees_at g s (read_at d l) ts ≡ Ok (more, r)
  trees_complete d zero MoreTrees.no_trees n k sep stop e low = refl
  trees_complete d (suc g) MoreTrees.no_trees n k sep stop e low = rw e refl
  trees_complete d zero (MoreTrees.and_tree x y) n k sep stop e low = absurd (omega arith)
  trees_complete {s = s} {l = l} d (suc g) (MoreTrees.and_tree {t = t} x y) n k sep stop e low =
      rw (is_symbol_same s) (rw (complete d x (depth_nested d l t x low (omega arith)) (trees_front (rank l) y sep stop))
      (rw (trees_complete d g y (omega arith) (omega (arith, shorter x)) sep stop e low) refl))

  pub defs_complete : {more : Defs} {ts r : List Token} (d g : ℕ) → MoreDefs more ts r → defs_nesting more ≤ suc d → length ts ≤ g →
      reach_of r < 3 → begins_with symbol.Comma r ≡ false → defs_at g (read_term d) ts ≡ Ok (more, r)
  defs_complete d zero MoreDefs.no_defs n k stop e = refl
  defs_complete d (suc g) MoreDefs.no_defs n k stop e = rw e refl
  defs_complete d zero (MoreDefs.and_def x y) n k stop e = absurd (omega arith)
  defs_complete d (suc g) (MoreDefs.and_def x y) n k stop e =
      rw (complete d x (omega (arith, own_one x (omega arith))) (defs_front 3 y (omega arith) stop))
      (rw (defs_complete d g y (omega arith) (omega (arith, shorter x)) stop e) refl)

  pub links_complete : {c l : Level} {more : Links} {ts r : List Token} (d g : ℕ) → MoreLinks c l more ts r → links_below more ≤ d → length ts ≤ g →
      rank c < rank l → reach_of r < rank c → depth_at l ≡ (λ t. suc (below t)) → links_at g c (read_at d l) ts ≡ Ok (more, r)
  links_complete d zero MoreLinks.no_links n k sep stop e = refl
  links_complete {c = c} {r = r} d (suc g) MoreLinks.no_links n k sep stop e = rw (operator_stops c r stop) refl
  links_complete d zero (MoreLinks.and_link o x y) n k sep stop e = absurd (omega arith)
  links_complete {c = c} {l = l} d (suc g) (MoreLinks.and_link {op = op} {t = t} {ts = ts} {p = p} o x y) n k sep stop e =
      rw (operator_found c op p ts o) (rw (complete d x (rw e (omega arith)) (links_front (rank l) y sep (omega arith)))
      (rw (links_complete d g y (omega arith) (omega (arith, shorter x)) sep stop e) refl))

  pub arguments_complete : {more : Trees} {ts r : List Token} (d g : ℕ) → MoreArguments more ts r → trees_below more ≤ d → length ts ≤ g →
      reach_of r < 10 → arguments_at g (read_at d Level.select) ts ≡ Ok (more, r)
  arguments_complete d zero MoreArguments.no_arguments n k stop = refl
  arguments_complete {r = r} d (suc g) MoreArguments.no_arguments n k stop = rw (starts_stops r stop) refl
  arguments_complete d zero (MoreArguments.and_argument x y) n k stop = absurd (omega (arith, shorter x))
  arguments_complete d (suc g) (MoreArguments.and_argument {ts = ts} x y) n k stop =
      rw (select_starts x) (rw (complete d x (omega arith) (arguments_front 11 y (omega arith) (omega arith)))
      (rw (arguments_complete d g y (omega arith) (omega (arith, shorter x)) stop) refl))
