-- What is known of the variables in scope.
use Rattle.std.specs.Prelude.{ℕ, List, [], ◌∷◌, Vec}
use Rattle.std.specs.declared.alloc.Global.{Global}
use Rattle.fy_types.specs.Types.{PlainType}
use Rattle.fy_phrase.specs.declared.premise.Binds.{Binds}
use Rattle.fy_phrase.specs.declared.premise.Binds.TheVariants as binds
use Rattle.fy_phrase.specs.Premises.{given_type}
use Rattle.pe_shapes.specs.declared.context.Bound.{Bound}
use Rattle.pe_shapes.specs.declared.context.Bound.TheVariants as bound
use Rattle.pe_shapes.specs.declared.context.Context.{Context, Context-F, fold-Context}

-- what is known of a variable: the numbers of its type's shapes, or the type
pub data PlainBound : Type 0 where
  by_shapes : List ℕ → PlainBound
  by_type : PlainType → PlainBound

abbrev pub plain_bound : Bound → PlainBound
plain_bound (bound.Shapes ks) = by_shapes ks.now
plain_bound (bound.Given g) = by_type (given_type g)

abbrev pub bounds_step : Context-F (List PlainBound) → List PlainBound
bounds_step Context-F.Empty = []
bounds_step (Context-F.Under b G) = plain_bound b ∷ G.now

-- what is known of the variables in scope, the innermost first
abbrev pub bounds : Context → List PlainBound
bounds = fold-Context (List PlainBound) bounds_step

-- the numbers in a list
abbrev pub numbers_of : Vec ℕ Global → List ℕ
numbers_of v = v.items

-- what is known under a binder, from the shapes of the premises before it
abbrev pub bounds_under : Binds → List (List ℕ) → List PlainBound → List PlainBound
bounds_under binds.Nothing sets G = G
bounds_under binds.First [] G = G
bounds_under binds.First (ks ∷ sets) G = by_shapes ks ∷ G
bounds_under (binds.Given g) sets G = by_type (given_type g) ∷ G
