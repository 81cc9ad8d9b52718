-- The phrase that a value of the program stands for.
use Rattle.std.specs.Prelude.{List, [], ◌∷◌}
use Rattle.fy_types.specs.Reading.{plain_type, plain_types}
use Rattle.fy_phrase.specs.Tree.{Tree, Trees, var, lit, unary, binary, cond, case, lam, app, field, sel, merge, let_in, rec, skip, seq, assign, while_do, forever, new, cells, escape, accept, put, read, mark, no_trees, and_tree}
use Rattle.fy_phrase.specs.declared.phrase.Phrase.{Phrase, fold-Phrase}
use Rattle.fy_phrase.specs.declared.phrase.Phrase.TheOpen.{Phrase-F}
use Rattle.fy_phrase.specs.declared.phrase.Parts.{Parts, Parts-F, fold-Parts, out-Parts}

-- the members of a list
abbrev pub phrases_in : Parts → List Phrase
phrases_in l = (out-Parts l).items.items

abbrev pub trees_from : List Tree → Trees
trees_from [] = no_trees
trees_from (p ∷ ps) = and_tree p (trees_from ps)

-- one form, with the phrases in it already read
abbrev pub reads_form : Phrase-F Tree Trees → Tree
reads_form (Phrase-F.Var k at) = var k at
reads_form (Phrase-F.Lit v at) = lit v at
reads_form (Phrase-F.Unary op p at) = unary op p.value at
reads_form (Phrase-F.Binary op p q at) = binary op p.value q.value at
reads_form (Phrase-F.Cond b p q at) = cond b.value p.value q.value at
reads_form (Phrase-F.Case e parts at) = case e.value parts at
reads_form (Phrase-F.Lam d alternatives body at) = lam d (plain_types alternatives) body.value at
reads_form (Phrase-F.App p q at) = app p.value q.value at
reads_form (Phrase-F.Field i p at) = field i p.value at
reads_form (Phrase-F.Sel p i at) = sel p.value i at
reads_form (Phrase-F.Merge p q at) = merge p.value q.value at
reads_form (Phrase-F.LetIn d p body at) = let_in d p.value body.value at
reads_form (Phrase-F.Rec d T body at) = rec d (plain_type T) body.value at
reads_form (Phrase-F.Skip at) = skip at
reads_form (Phrase-F.Seq p q at) = seq p.value q.value at
reads_form (Phrase-F.Assign p q at) = assign p.value q.value at
reads_form (Phrase-F.WhileDo b c at) = while_do b.value c.value at
reads_form (Phrase-F.Forever c at) = forever c.value at
reads_form (Phrase-F.New d D e body at) = new d D e.value body.value at
reads_form (Phrase-F.Cells d e body at) = cells d e.value body.value at
reads_form (Phrase-F.Escape d body at) = escape d body.value at
reads_form (Phrase-F.Accept d D body at) = accept d D body.value at
reads_form (Phrase-F.Put kind p at) = put kind p.value at
reads_form (Phrase-F.Read p at) = read p.value at
reads_form (Phrase-F.Mark m at) = mark m at

abbrev pub reads_list : Parts-F Tree Trees → Trees
reads_list l = trees_from l.items.items

abbrev pub reads : Phrase → Tree
reads = fold-Phrase Tree Trees reads_form reads_list

abbrev pub reads_parts : Parts → Trees
reads_parts = fold-Parts Tree Trees reads_form reads_list
