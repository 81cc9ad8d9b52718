-- Each `seq` of a tree that some tokens spell has a part.
use Rattle.std.proofs.Common.{List, [], ◌∷◌, ℕ}
use Rattle.fy_base.specs.declared.data.Place.{Place}
use Rattle.fy_lexer.specs.declared.token.Token.{Token}
use Rattle.fy_lexer.specs.declared.token.Symbol.{Symbol}
use Rattle.fy_syntax.specs.declared.surface.Prefixed.{Prefixed}
use Rattle.fy_syntax.specs.Trees.{Tree, Trees, Defs, Links}
use Rattle.fy_syntax.specs.Signs.{Level}
use Rattle.fy_syntax.specs.Spells.{SpellsBefore, MoreTrees, MoreDefs, MoreLinks, MoreArguments, IsProgram, merge_of, sequence_of, chain_of, prefixed_of, apply_of, select_of}
use Rattle.fy_expand.proofs.MadeLemmas.{IsFilled, AreFilled, AreFilledDefs, AreFilledLinks}

filled-merge_of : (p : Tree) (more : Trees) (at : Place) → IsFilled p → AreFilled more → IsFilled (merge_of p more at)
filled-merge_of p Trees.no_trees at h k = h
filled-merge_of p (Trees.and_tree q more) at h k = (h, k)

filled-sequence_of : (p : Tree) (more : Trees) (at : Place) → IsFilled p → AreFilled more → IsFilled (sequence_of p more at)
filled-sequence_of p Trees.no_trees at h k = h
filled-sequence_of p (Trees.and_tree q more) at h k = (h, k)

filled-chain_of : (p : Tree) (more : Links) (at : Place) → IsFilled p → AreFilledLinks more → IsFilled (chain_of p more at)
filled-chain_of p Links.no_links at h k = h
filled-chain_of p (Links.and_link op here q more) at h k = (h, k)

filled-prefixed_of : (operators : List Prefixed) (p : Tree) (at : Place) → IsFilled p → IsFilled (prefixed_of operators p at)
filled-prefixed_of [] p at h = h
filled-prefixed_of (o ∷ operators) p at h = h

filled-apply_of : (p : Tree) (more : Trees) (at : Place) → IsFilled p → AreFilled more → IsFilled (apply_of p more at)
filled-apply_of p Trees.no_trees at h k = h
filled-apply_of p (Trees.and_tree q more) at h k = (h, k)

filled-select_of : (p : Tree) (names : List ℕ) (at : Place) → IsFilled p → IsFilled (select_of p names at)
filled-select_of p [] at h = h
filled-select_of p (n ∷ names) at h = h

mutual
  filled-spelled : {l : Level} {p : Tree} {ts r : List Token} → SpellsBefore l p ts r → IsFilled p
  filled-spelled (SpellsBefore.phrase {t = t} {more = more} {ts = ts} h k) = filled-merge_of t more _ (filled-spelled h) (filled-trees k)
  filled-spelled (SpellsBefore.sequence {t = t} {more = more} h k) = filled-sequence_of t more _ (filled-spelled h) (filled-trees k)
  filled-spelled (SpellsBefore.lam a b h) = filled-spelled h
  filled-spelled (SpellsBefore.let_in h k l) = ((filled-spelled h, filled-defs k), filled-spelled l)
  filled-spelled (SpellsBefore.letrec a b h k l) = ((filled-spelled h, filled-defs k), filled-spelled l)
  filled-spelled (SpellsBefore.let_type a h) = filled-spelled h
  filled-spelled (SpellsBefore.new d h k) = (filled-spelled h, filled-spelled k)
  filled-spelled (SpellsBefore.escape h) = filled-spelled h
  filled-spelled (SpellsBefore.accept d h) = filled-spelled h
  filled-spelled (SpellsBefore.cond h k l) = (filled-spelled h, filled-spelled k, filled-spelled l)
  filled-spelled (SpellsBefore.while_do h k) = (filled-spelled h, filled-spelled k)
  filled-spelled (SpellsBefore.loop h) = filled-spelled h
  filled-spelled (SpellsBefore.field h) = filled-spelled h
  filled-spelled (SpellsBefore.assign h k) = (filled-spelled h, filled-spelled k)
  filled-spelled (SpellsBefore.no_assign h) = filled-spelled h
  filled-spelled (SpellsBefore.either {t = t} {more = more} h k) = filled-chain_of t more _ (filled-spelled h) (filled-links k)
  filled-spelled (SpellsBefore.both {t = t} {more = more} h k) = filled-chain_of t more _ (filled-spelled h) (filled-links k)
  filled-spelled (SpellsBefore.related e h k) = (filled-spelled h, (filled-spelled k, tt))
  filled-spelled (SpellsBefore.no_relation h) = filled-spelled h
  filled-spelled (SpellsBefore.sum {t = t} {more = more} h k) = filled-chain_of t more _ (filled-spelled h) (filled-links k)
  filled-spelled (SpellsBefore.product {t = t} {more = more} h k) = filled-chain_of t more _ (filled-spelled h) (filled-links k)
  filled-spelled (SpellsBefore.prefixed {operators = operators} {t = t} o h) = filled-prefixed_of operators t _ (filled-spelled h)
  filled-spelled (SpellsBefore.apply {t = t} {more = more} h k) = filled-apply_of t more _ (filled-spelled h) (filled-arguments k)
  filled-spelled (SpellsBefore.select {t = t} {names = names} h d) = filled-select_of t names _ (filled-spelled h)
  filled-spelled SpellsBefore.ident = tt
  filled-spelled SpellsBefore.number = tt
  filled-spelled SpellsBefore.letter = tt
  filled-spelled SpellsBefore.string = tt
  filled-spelled SpellsBefore.truth = tt
  filled-spelled SpellsBefore.skip = tt
  filled-spelled (SpellsBefore.group h) = filled-spelled h
  filled-spelled (SpellsBefore.seq_of h k) = (tt, (filled-spelled h, filled-trees k))

  filled-trees : {s : Symbol} {l : Level} {ps : Trees} {ts r : List Token} → MoreTrees s l ps ts r → AreFilled ps
  filled-trees MoreTrees.no_trees = tt
  filled-trees (MoreTrees.and_tree h k) = (filled-spelled h, filled-trees k)

  filled-defs : {ps : Defs} {ts r : List Token} → MoreDefs ps ts r → AreFilledDefs ps
  filled-defs MoreDefs.no_defs = tt
  filled-defs (MoreDefs.and_def h k) = (filled-spelled h, filled-defs k)

  filled-links : {c l : Level} {ps : Links} {ts r : List Token} → MoreLinks c l ps ts r → AreFilledLinks ps
  filled-links MoreLinks.no_links = tt
  filled-links (MoreLinks.and_link e h k) = (filled-spelled h, filled-links k)

  filled-arguments : {ps : Trees} {ts r : List Token} → MoreArguments ps ts r → AreFilled ps
  filled-arguments MoreArguments.no_arguments = tt
  filled-arguments (MoreArguments.and_argument h k) = (filled-spelled h, filled-arguments k)

pub filled-program : (tree : Tree) (tokens : List Token) → IsProgram tree tokens → IsFilled tree
filled-program tree tokens h = filled-spelled h.1
