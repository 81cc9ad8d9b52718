-- What names stand for at a place of a program.
use Rattle.std.specs.Prelude.{ℕ, suc, Option, None, List, [], ◌∷◌}
use Rattle.fy_types.specs.Types.{PlainType}
use Rattle.fy_syntax.specs.Trees.{TypeTree, DeclTree, Defs}
use Rattle.fy_expand.specs.declared.frame.Standing.{Standing}
use Rattle.fy_expand.specs.declared.frame.Standing.TheVariants.{Variable, Member}
use Rattle.fy_expand.specs.Types.{with, type_of, predefined}

-- the number of binders around, and what the names of phrases and of types stand for
pub record Scope : Type 0 where
  pub depth : ℕ
  pub phrases : ℕ → Option Standing
  pub types : ℕ → Option PlainType

-- under a binder without a name
abbrev pub behind : Scope → Scope
behind s = record { depth = suc s.depth; phrases = s.phrases; types = s.types }

-- under a binder of this name, which stands for the variable and hides an outer one
abbrev pub under : ℕ → Scope → Scope
under name s = record { depth = suc s.depth; phrases = with name (Variable s.depth) s.phrases; types = s.types }

-- the names of a `let`: the first definition's binder has that depth, and each further one's a depth more
abbrev pub with_defs : ℕ → Defs → (ℕ → Option Standing) → ℕ → Option Standing
with_defs d Defs.no_defs older = older
with_defs d (Defs.and_def name at p more) older = with name (Variable d) (with_defs (suc d) more older)

abbrev pub depth_under : ℕ → Defs → ℕ
depth_under d Defs.no_defs = d
depth_under d (Defs.and_def name at p more) = depth_under (suc d) more

-- under the binders of a `let`
abbrev pub under_defs : Defs → Scope → Scope
under_defs defs s = record { depth = depth_under s.depth defs; phrases = with_defs s.depth defs s.phrases; types = s.types }

-- the declared names of a `letrec`: each stands for its field of the variable whose binder has that depth
abbrev pub with_members : ℕ → List DeclTree → (ℕ → Option Standing) → ℕ → Option Standing
with_members d [] older = older
with_members d (decl ∷ more) older = with decl.name (Member d) (with_members d more older)

-- under the binder of a `letrec`
abbrev pub under_members : List DeclTree → Scope → Scope
under_members decls s = record { depth = suc s.depth; phrases = with_members s.depth decls s.phrases; types = s.types }

-- in a `lettype`, whose name stands for the type
abbrev pub with_type : ℕ → TypeTree → Scope → Scope
with_type name a s = record { depth = s.depth; phrases = s.phrases; types = with name (type_of s.types a) s.types }

-- where no name of phrases stands for anything, and of the names of types the predefined ones alone
abbrev pub outermost : Scope
outermost = record { depth = 0; phrases = λ n. None; types = predefined }

-- under the prelude's binders of `putint`, `putchar`, `putbool`, `read` and `newintseq`, the first outermost
abbrev pub program_scope : Scope
program_scope = under 11 (under 4 (under 3 (under 2 (under 1 outermost))))
