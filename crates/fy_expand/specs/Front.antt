-- The first tokens of written phrases.
use Rattle.fy_base.specs.declared.data.Place.{Place}
use Rattle.fy_syntax.specs.Trees.{Tree}

-- the place of a phrase's first token, parentheses around it counted
abbrev pub front : Tree → Place
front (Tree.merge members at) = at
front (Tree.sequence items at) = at
front (Tree.lam x alternatives p at) = at
front (Tree.let_in defs p at) = at
front (Tree.letrec decls defs in_at p at) = at
front (Tree.let_type x a p at) = at
front (Tree.new x kind p q at) = at
front (Tree.escape x p at) = at
front (Tree.accept x kind p at) = at
front (Tree.cond b p q at) = at
front (Tree.while_do b p at) = at
front (Tree.loop p at) = at
front (Tree.field i p at) = at
front (Tree.assign p becomes_at q at) = at
front (Tree.chain p links at) = at
front (Tree.prefixed operators p at) = at
front (Tree.apply p arguments at) = at
front (Tree.select p names at) = at
front (Tree.ident x at) = at
front (Tree.number v at) = at
front (Tree.letter c at) = at
front (Tree.string bytes at) = at
front (Tree.truth b at) = at
front (Tree.skip at) = at
front (Tree.group p at) = at
front (Tree.seq_of parts at) = at
