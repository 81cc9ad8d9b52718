-- Where an item of a list stops, the whole list stops.
use Rattle.std.proofs.Common.{◌≡◌, ℕ, true, List, length, refl, ap, ◌∙◌}
use Rattle.std.specs.Prelude.{Some, Err}
use Rattle.fy_base.specs.declared.data.BinOp.{BinOp}
use Rattle.fy_lexer.specs.declared.token.Token.{Token}
use Rattle.fy_lexer.specs.declared.token.Symbol.{Symbol}
use Rattle.fy_lexer.specs.declared.token.Symbol.TheVariants as symbol
use Rattle.fy_syntax.specs.Trees.{Tree, Trees, Defs}
use Rattle.fy_syntax.specs.Reading.{DefTree, LinkTree, trees_from, defs_from, links_from}
use Rattle.fy_syntax.specs.Signs.{Level}
use Rattle.fy_syntax.specs.Reader.{Fault, mapped, behind, begins_with, starts, operator_at, name_at, dots_at, trees_at, arguments_at, links_at, defs_at, read_at, read_term}
use Rattle.fy_grammar.proofs.Advance.{after_advances, argument_advances, link_advances, trees_take, defs_take, names_take}
use Rattle.fy_grammar.proofs.Many.{ReadsOn, reads_on_fails, many, after, after_some, argument, argument_some, link, def, behind_first, trees_first, defs_first, arguments_many, links_many, dots_many}

pub members_fail : (d : ℕ) (l : Level) (s : Symbol) (a : Tree) (done : List Tree) (ts rest : List Token) (x : Fault) →
    ReadsOn (after s (read_at d l)) (behind_first (after s (read_at d l)) a ts) done rest → begins_with s rest ≡ true → read_at d l (behind rest) ≡ Err x →
    mapped (Trees.and_tree a) (trees_at (length ts) s (read_at d l) ts) ≡ Err x
members_fail d l s a done ts rest x h e f =
    trees_first s (read_at d l) a ts
    ∙ ap (mapped trees_from) (reads_on_fails (after s (read_at d l)) (behind_first (after s (read_at d l)) a ts) done rest x (after_advances s (read_at d l) (trees_take d l)) h (after_some s (read_at d l) rest (Err x) e f))

pub defs_fail : (d : ℕ) (a : DefTree) (done : List DefTree) (ts rest : List Token) (x : Fault) →
    ReadsOn (after symbol.Comma (def (read_term d))) (behind_first (after symbol.Comma (def (read_term d))) a ts) done rest → begins_with symbol.Comma rest ≡ true → def (read_term d) (behind rest) ≡ Err x →
    mapped (Defs.and_def a.name a.at a.body) (defs_at (length ts) (read_term d) ts) ≡ Err x
defs_fail d a done ts rest x h e f =
    defs_first (read_term d) a ts
    ∙ ap (mapped defs_from) (reads_on_fails (after symbol.Comma (def (read_term d))) (behind_first (after symbol.Comma (def (read_term d))) a ts) done rest x
    (after_advances symbol.Comma (def (read_term d)) (defs_take d)) h (after_some symbol.Comma (def (read_term d)) rest (Err x) e f))

pub arguments_fail : (d : ℕ) (done : List Tree) (ts rest : List Token) (x : Fault) →
    ReadsOn (argument (read_at d Level.select)) (many (length ts) (argument (read_at d Level.select)) ts) done rest → starts rest ≡ true → read_at d Level.select rest ≡ Err x →
    arguments_at (length ts) (read_at d Level.select) ts ≡ Err x
arguments_fail d done ts rest x h e f =
    arguments_many (length ts) (read_at d Level.select) ts
    ∙ ap (mapped trees_from) (reads_on_fails (argument (read_at d Level.select)) (many (length ts) (argument (read_at d Level.select)) ts) done rest x
    (argument_advances (read_at d Level.select) (trees_take d Level.select)) h (argument_some (read_at d Level.select) rest (Err x) e f))

link_stops : (c l : Level) (d : ℕ) (rest : List Token) (op : BinOp) (x : Fault) → operator_at c rest ≡ Some op → read_at d l (behind rest) ≡ Err x → link c (read_at d l) rest ≡ Some (Err x)
link_stops c l d rest op x e f = rw e (rw f refl)

pub links_fail : (c l : Level) (d : ℕ) (done : List LinkTree) (ts rest : List Token) (op : BinOp) (x : Fault) →
    ReadsOn (link c (read_at d l)) (many (length ts) (link c (read_at d l)) ts) done rest → operator_at c rest ≡ Some op → read_at d l (behind rest) ≡ Err x →
    links_at (length ts) c (read_at d l) ts ≡ Err x
links_fail c l d done ts rest op x h e f =
    links_many (length ts) c (read_at d l) ts
    ∙ ap (mapped links_from) (reads_on_fails (link c (read_at d l)) (many (length ts) (link c (read_at d l)) ts) done rest x (link_advances c (read_at d l) (trees_take d l)) h (link_stops c l d rest op x e f))

pub dots_fail : (done : List ℕ) (ts rest : List Token) (x : Fault) →
    ReadsOn (after symbol.Dot name_at) (many (length ts) (after symbol.Dot name_at) ts) done rest → begins_with symbol.Dot rest ≡ true → name_at (behind rest) ≡ Err x →
    dots_at (length ts) ts ≡ Err x
dots_fail done ts rest x h e f =
    dots_many (length ts) ts
    ∙ reads_on_fails (after symbol.Dot name_at) (many (length ts) (after symbol.Dot name_at) ts) done rest x (after_advances symbol.Dot name_at names_take) h (after_some symbol.Dot name_at rest (Err x) e f)
