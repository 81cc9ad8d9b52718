-- At most one tree spells a list of tokens: each is what reading gives, at the greater nesting.
use Rattle.std.proofs.Common.{◌≡◌, max, List, ap, arith, refl}
use Rattle.std.specs.Prelude.{Ok}
use Rattle.fy_lexer.specs.declared.token.Token.{Token}
use Rattle.fy_syntax.specs.Trees.{Tree}
use Rattle.fy_syntax.specs.Nesting.{nesting}
use Rattle.fy_syntax.specs.Signs.{Level}
use Rattle.fy_syntax.specs.Spells.{SpellsBefore, IsUnambiguous}
use Rattle.fy_syntax.specs.Reader.{Read, read_phrase}
use Rattle.fy_syntax.proofs.SignLemmas.{reach_of}
use Rattle.fy_syntax.proofs.Complete.{complete}

same_read : (x : Read Tree) (t u : Tree) (r s : List Token) → x ≡ Ok (t, r) → x ≡ Ok (u, s) → t ≡ u
same_read x t u r s a b = let e : (t, r) ≡ (u, s) = cc in ap (λ (x : Tree × List Token). x.0) e

pub one_tree : (ts r s : List Token) (t u : Tree) → reach_of r ≡ 0 → reach_of s ≡ 0 → SpellsBefore Level.phrase t ts r → SpellsBefore Level.phrase u ts s → t ≡ u
one_tree ts r s t u h k x y =
    same_read (read_phrase (max (nesting t) (nesting u)) ts) t u r s
    (complete (max (nesting t) (nesting u)) x (omega arith) (omega arith))
    (complete (max (nesting t) (nesting u)) y (omega arith) (omega arith))

pub unambiguous : IsUnambiguous
unambiguous = record {
  of_phrases = λ ts t u x y. one_tree ts _ _ t u refl refl x y;
  of_programs = λ ts t u x y. one_tree ts _ _ t u refl refl x.1 y.1;
}
