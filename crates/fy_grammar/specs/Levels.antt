-- The level of the grammar that each level of the parser is.
use Rattle.fy_syntax.specs.Signs as grammar
use Rattle.fy_grammar.specs.declared.level.Level.{Level}
use Rattle.fy_grammar.specs.declared.level.Level.TheVariants.{Sequence, Term, Either, Both, Relation, Sum, Product, Prefixed}

abbrev pub level_of : Level → grammar.Level
level_of Sequence = grammar.Level.sequence
level_of Term = grammar.Level.term
level_of Either = grammar.Level.either
level_of Both = grammar.Level.both
level_of Relation = grammar.Level.relation
level_of Sum = grammar.Level.sum
level_of Product = grammar.Level.product
level_of Prefixed = grammar.Level.prefixed
