-- The names that a source gives its binders. A binder is known by its form, its place and its depth, which closing keeps.
use Rattle.std.specs.Prelude.{ℕ, ◌+◌, Bool, ◌&&◌, ◌==◌, if◌then◌else◌, Option, Some, None, List, [], ◌∷◌, ◌++◌, codes}
use Rattle.fy_base.specs.Outside.{Bytes}
use Rattle.fy_base.specs.declared.data.Place.{Place}
use Rattle.fy_types.specs.Print.{name_text}
use Rattle.fy_syntax.specs.Trees.{Tree, Trees, Defs, Links}
use Rattle.fy_phrase.specs.Sizes.{greatest_u32}
use Rattle.fy_show.specs.declared.binders.BinderForm.{BinderForm}
use Rattle.fy_show.specs.declared.binders.BinderForm.TheVariants.{Lam, Let, New, Cells, Escape, Accept}
use Rattle.fy_show.specs.declared.binders.Binder.{Binder}

-- one binder farther in, or the greatest number of 32 bits
abbrev pub inside : ℕ → ℕ
inside d = greatest_u32 (d + 1)

-- a binder and its name, which the index of a sequence or a string has not
abbrev pub binder : BinderForm → Place → ℕ → Option ℕ → Binder
binder form at d name = record { form = form; at = at; depth = d; name = name }

-- the binders of the definitions of a `let`: the first has that depth, and each further one a depth more
abbrev pub defined : Place → ℕ → Defs → List Binder
defined at d Defs.no_defs = []
defined at d (Defs.and_def x here p more) = binder Let at d (Some x) ∷ defined at (inside d) more

-- the depth behind the definitions
abbrev pub depth_behind : ℕ → Defs → ℕ
depth_behind d Defs.no_defs = d
depth_behind d (Defs.and_def x here p more) = depth_behind (inside d) more

abbrev mutual
  -- the binders of a written phrase under d others, as expansion numbers them; the fields of a `letrec` stand in its core phrase
  pub binders : ℕ → Tree → List Binder
  binders d (Tree.merge members at) = all_binders d members
  binders d (Tree.sequence items at) = all_binders d items
  binders d (Tree.lam x alternatives p at) = binder Lam at d (Some x) ∷ binders (inside d) p
  binders d (Tree.let_in defs p at) = defined at d defs ++ binders_in_defs d defs ++ binders (depth_behind d defs) p
  binders d (Tree.letrec decls defs in_at p at) = binders_in_fields (inside d) defs ++ binders (inside d) p
  binders d (Tree.let_type x a p at) = binders d p
  binders d (Tree.new x kind p q at) = binder New at d (Some x) ∷ binders d p ++ binders (inside d) q
  binders d (Tree.escape x p at) = binder Escape at d (Some x) ∷ binders (inside d) p
  binders d (Tree.accept x kind p at) = binder Accept at d (Some x) ∷ binders (inside d) p
  binders d (Tree.cond b p q at) = binders d b ++ binders d p ++ binders d q
  binders d (Tree.while_do b p at) = binders d b ++ binders d p
  binders d (Tree.loop p at) = binders d p
  binders d (Tree.field i p at) = binders d p
  binders d (Tree.assign p becomes_at q at) = binders d p ++ binders d q
  binders d (Tree.chain p links at) = binders d p ++ binders_in_links d links
  binders d (Tree.prefixed operators p at) = binders d p
  binders d (Tree.apply p arguments at) = binders d p ++ all_binders d arguments
  binders d (Tree.select p names at) = binders d p
  binders d (Tree.ident x at) = []
  binders d (Tree.number v at) = []
  binders d (Tree.letter c at) = []
  binders d (Tree.string bytes at) = binder Lam at d None ∷ []
  binders d (Tree.truth b at) = []
  binders d (Tree.skip at) = []
  binders d (Tree.group p at) = binders d p
  binders d (Tree.seq_of parts at) = binder Lam at d None ∷ all_binders (inside d) parts

  pub all_binders : ℕ → Trees → List Binder
  all_binders d Trees.no_trees = []
  all_binders d (Trees.and_tree p more) = binders d p ++ all_binders d more

  -- each definition stands under the binders of those before it
  pub binders_in_defs : ℕ → Defs → List Binder
  binders_in_defs d Defs.no_defs = []
  binders_in_defs d (Defs.and_def x at p more) = binders d p ++ binders_in_defs (inside d) more

  pub binders_in_fields : ℕ → Defs → List Binder
  binders_in_fields d Defs.no_defs = []
  binders_in_fields d (Defs.and_def f at p more) = binders d p ++ binders_in_fields d more

  pub binders_in_links : ℕ → Links → List Binder
  binders_in_links d Links.no_links = []
  binders_in_links d (Links.and_link op at p more) = binders d p ++ binders_in_links d more

-- the names of the prelude, by the numbers that each list of names gives them, and then those of the text
abbrev pub program_binders : Place → Tree → List Binder
program_binders at p =
    binder Let at 0 (Some 1) ∷ binder Let at 1 (Some 2) ∷ binder Let at 2 (Some 3) ∷ binder Let at 3 (Some 4) ∷ binder Let at 4 (Some 11) ∷ binders 5 p

abbrev pub form_number : BinderForm → ℕ
form_number Lam = 0
form_number Let = 1
form_number New = 2
form_number Cells = 3
form_number Escape = 4
form_number Accept = 5

abbrev pub is_place : Place → Place → Bool
is_place a b = (a.line == b.line) && (a.col == b.col)

abbrev pub is_binder : BinderForm → Place → ℕ → Binder → Bool
is_binder form at d b = (form_number b.form == form_number form) && ((b.depth == d) && is_place b.at at)

-- an index of a sequence is called `n`
abbrev pub binder_text : List Bytes → Option ℕ → Bytes
binder_text names (Some x) = name_text names x
binder_text names None = codes "n"

-- the name that the source gives the binder, and `x` where it has none
abbrev pub source_name : List Bytes → List Binder → BinderForm → Place → ℕ → Bytes
source_name names [] form at d = codes "x"
source_name names (b ∷ bs) form at d = if is_binder form at d b then binder_text names b.name else source_name names bs form at d
