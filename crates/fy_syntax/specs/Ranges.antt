-- The literals of a tree are within the ranges of the program's types.
use Rattle.std.specs.Prelude.{◌<◌, [], ◌∷◌, FitsSigned}
use Rattle.std.specs.Int.{w64}
use Rattle.fy_base.specs.Outside.{Bytes}
use Rattle.fy_syntax.specs.Trees.{Tree, Trees, Defs, Links}

abbrev pub AreBytes : Bytes → Type 0
AreBytes [] = Unit {0}
AreBytes (byte ∷ bytes) = (byte < 256) × AreBytes bytes

abbrev mutual
  -- integers of 64 bits, and characters and strings of bytes
  pub IsInRanges : Tree → Type 0
  IsInRanges (Tree.merge members at) = AreInRanges members
  IsInRanges (Tree.sequence members at) = AreInRanges members
  IsInRanges (Tree.lam n alternatives p at) = IsInRanges p
  IsInRanges (Tree.let_in defs p at) = AreDefsInRanges defs × IsInRanges p
  IsInRanges (Tree.letrec decls defs in_at p at) = AreDefsInRanges defs × IsInRanges p
  IsInRanges (Tree.let_type n a p at) = IsInRanges p
  IsInRanges (Tree.new n kind p q at) = IsInRanges p × IsInRanges q
  IsInRanges (Tree.escape n p at) = IsInRanges p
  IsInRanges (Tree.accept n kind p at) = IsInRanges p
  IsInRanges (Tree.cond b p q at) = IsInRanges b × IsInRanges p × IsInRanges q
  IsInRanges (Tree.while_do b p at) = IsInRanges b × IsInRanges p
  IsInRanges (Tree.loop p at) = IsInRanges p
  IsInRanges (Tree.field n p at) = IsInRanges p
  IsInRanges (Tree.assign p becomes_at q at) = IsInRanges p × IsInRanges q
  IsInRanges (Tree.chain p links at) = IsInRanges p × AreLinksInRanges links
  IsInRanges (Tree.prefixed operators p at) = IsInRanges p
  IsInRanges (Tree.apply p arguments at) = IsInRanges p × AreInRanges arguments
  IsInRanges (Tree.select p fields at) = IsInRanges p
  IsInRanges (Tree.ident n at) = Unit {0}
  IsInRanges (Tree.number v at) = FitsSigned w64 v
  IsInRanges (Tree.letter c at) = c < 256
  IsInRanges (Tree.string bytes at) = AreBytes bytes
  IsInRanges (Tree.truth b at) = Unit {0}
  IsInRanges (Tree.skip at) = Unit {0}
  IsInRanges (Tree.group p at) = IsInRanges p
  IsInRanges (Tree.seq_of parts at) = AreInRanges parts

  pub AreInRanges : Trees → Type 0
  AreInRanges Trees.no_trees = Unit {0}
  AreInRanges (Trees.and_tree p more) = IsInRanges p × AreInRanges more

  pub AreDefsInRanges : Defs → Type 0
  AreDefsInRanges Defs.no_defs = Unit {0}
  AreDefsInRanges (Defs.and_def n at p more) = IsInRanges p × AreDefsInRanges more

  pub AreLinksInRanges : Links → Type 0
  AreLinksInRanges Links.no_links = Unit {0}
  AreLinksInRanges (Links.and_link op at p more) = IsInRanges p × AreLinksInRanges more
