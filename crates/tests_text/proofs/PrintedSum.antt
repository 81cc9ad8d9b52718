-- A program that can be printed.
use Rattle.std.proofs.Common.{◌≡◌, pos, List, [], ◌∷◌, codes, refl, sym, subst, arith}
use Rattle.std.proofs.lemmas.Int.{ints}
use Rattle.fy_base.specs.Outside.{Bytes}
use Rattle.fy_base.specs.declared.data.BinOp.TheVariants as op
use Rattle.fy_base.specs.declared.data.Place.{Place}
use Rattle.fy_types.specs.Names.{first_names}
use Rattle.fy_lexer.specs.declared.token.Token.{Token}
use Rattle.fy_lexer.specs.declared.token.TokenKind.TheVariants as kind
use Rattle.fy_lexer.specs.declared.token.Symbol.TheVariants as symbol
use Rattle.fy_syntax.specs.Trees.{Tree, Trees, Links}
use Rattle.fy_syntax.specs.Signs.{token, ident_at, symbol_at, Level}
use Rattle.fy_syntax.specs.Spells.{SpellsBefore, MoreTrees, MoreLinks, MoreArguments, Prefixes, Dots}
use Rattle.fy_syntax.specs.Printing.{IsPrintable}

-- a primary as a product
factor : {t : Tree} {ts r : List Token} → SpellsBefore Level.primary t ts r → SpellsBefore Level.product t ts r
factor x = SpellsBefore.product (SpellsBefore.prefixed Prefixes.no_prefixes (SpellsBefore.apply (SpellsBefore.select x Dots.no_dots) MoreArguments.no_arguments)) MoreLinks.no_links

-- a sum, and an application, as a phrase
summed : {t : Tree} {ts r : List Token} → SpellsBefore Level.sum t ts r → SpellsBefore Level.phrase t ts r
summed x =
    SpellsBefore.phrase
    (SpellsBefore.sequence
    (SpellsBefore.no_assign (SpellsBefore.either (SpellsBefore.both (SpellsBefore.no_relation x) MoreLinks.no_links) MoreLinks.no_links)) MoreTrees.no_trees) MoreTrees.no_trees

applied : {t : Tree} {ts r : List Token} → SpellsBefore Level.apply t ts r → SpellsBefore Level.phrase t ts r
applied x = summed (SpellsBefore.sum (SpellsBefore.product (SpellsBefore.prefixed Prefixes.no_prefixes x) MoreLinks.no_links) MoreLinks.no_links)

-- `putint ( 1 + 2 )`
pub putint_of_a_sum : (names : List Bytes) (tree : Tree) (at : Place) → names ≡ first_names →
    tree
    ≡ Tree.apply (Tree.ident 1 at)
    (Trees.and_tree (Tree.group (Tree.chain (Tree.number (pos 1) at) (Links.and_link op.Add at (Tree.number (pos 2) at) Links.no_links) at) at) Trees.no_trees) at →
    IsPrintable names tree
putint_of_a_sum names tree at e f =
    subst (λ n. IsPrintable n tree) (sym e) (subst (IsPrintable first_names) (sym f) (record {
      tokens =
          ident_at 1 at ∷ symbol_at symbol.OpenParen at ∷ token (kind.Number (pos 1)) at ∷ symbol_at symbol.Plus at ∷ token (kind.Number (pos 2)) at
          ∷ symbol_at symbol.CloseParen at ∷ [];
      spelled =
          applied
          (SpellsBefore.apply (SpellsBefore.select SpellsBefore.ident Dots.no_dots)
          (MoreArguments.and_argument
          (SpellsBefore.select
          (SpellsBefore.group
          (summed (SpellsBefore.sum (factor SpellsBefore.number) (MoreLinks.and_link {op = op.Add} refl (factor SpellsBefore.number) MoreLinks.no_links)))) Dots.no_dots)
          MoreArguments.no_arguments));
      known = (
        record { text = codes "putint"; identifier = refl; known = refl; number = refl },
        (tt, (omega (arith, ints), (tt, (omega (arith, ints), (tt, tt))))),
      );
    }))
