-- Operands behind operators, one at a time, and lists of which no member was read yet.
use Rattle.std.proofs.Common.{◌≡◌, List, [], length, refl, sym, ap, ◌∙◌}
use Rattle.std.specs.Prelude.{Some, None, Ok}
use Rattle.fy_base.specs.declared.data.BinOp.{BinOp}
use Rattle.fy_lexer.specs.declared.token.Token.{Token}
use Rattle.fy_syntax.specs.Trees.{Tree}
use Rattle.fy_syntax.specs.Reading.{LinkTree}
use Rattle.fy_syntax.specs.Signs.{front, Level}
use Rattle.fy_syntax.specs.Reader.{Read, mapped, behind, operator_at}
use Rattle.fy_grammar.proofs.Many.{Turn, many, ReadsOn, link, mapped_same}

pub reads_on_no : {A : Type 0} (turn : Turn A) (members : List A) (ts : List Token) → members ≡ [] → ReadsOn turn (many (length ts) turn ts) members ts
reads_on_no turn members ts e = rw e (record { gives = mapped_same (many (length ts) turn ts) })

pub link_some : (c : Level) (item : List Token → Read Tree) (ts : List Token) (op : BinOp) (r : Read Tree) → operator_at c ts ≡ Some op → item (behind ts) ≡ r →
    link c item ts ≡ Some (mapped (λ t. record { op = op; at = front ts; item = t }) r)
link_some c item ts op r e f = rw e (rw f refl)

pub link_read : (c : Level) (item : List Token → Read Tree) (ts r : List Token) (op : BinOp) (t : Tree) (l : LinkTree) → operator_at c ts ≡ Some op → item (behind ts) ≡ Ok (t, r) →
    l ≡ record { op = op; at = front ts; item = t } → link c item ts ≡ Some (Ok (l, r))
link_read c item ts r op t l e f h = link_some c item ts op (Ok (t, r)) e f ∙ ap (λ m. Some (Ok (m, r))) (sym h)

pub link_none : (c : Level) (item : List Token → Read Tree) (ts : List Token) → operator_at c ts ≡ None → link c item ts ≡ None
link_none c item ts e = rw e refl
