-- The lists in phrases are read alike.
use Rattle.std.proofs.Common.{Bool, List, [], false, length, refl, suc, true, ℕ, ◌∷◌, ◌≡◌}
use Rattle.std.specs.Prelude.{None, Option, Some}
use Rattle.fy_base.specs.declared.data.BinOp.{BinOp}
use Rattle.fy_lexer.specs.declared.token.Symbol.{Symbol}
use Rattle.fy_lexer.specs.declared.token.Symbol.TheVariants as symbol
use Rattle.fy_lexer.specs.declared.token.Token.{Token}
use Rattle.fy_lexer.specs.declared.token.TokenKind.{TokenKind}
use Rattle.fy_syntax.specs.Reader.{Read, arguments_at, behind, decl_at, decls_at, def_at, defs_at, dots_at, is_symbol_kind, links_at, mapped, name_at, of_level, operator_at, operator_kind, phrase_at, sequence_at, starts_kind, trees_at, ◌>>=◌}
use Rattle.fy_syntax.specs.Signs.{Level, front}
use Rattle.fy_syntax.specs.Trees.{Defs, Links, Tree, Trees, TypeTree}
use Rattle.fy_places.proofs.Alike.{Follows}
use Rattle.fy_places.proofs.Following.{behind_follows, expect_follows, mapped_follows, name_follows, then_follows}
use Rattle.fy_places.proofs.LoopsFollow.{IsLoop, behind_takes, behind_takes_too, loop_follows}

abbrev pub Item : Type 0
Item = List Token → Read Tree

abbrev Types : Type 0
Types = List Token → Read TypeTree

-- lists
trees_loop : (s : Symbol) (item : Item) → IsLoop (is_symbol_kind s) (λ tokens. item (behind tokens)) (λ g tokens. trees_at g s item tokens)
trees_loop s item = record {
  empty = Trees.no_trees;
  none = λ tokens. refl;
  stop = λ g tokens e. rw e refl;
  go = λ g tokens e. (Trees.and_tree, rw e refl);
}

pub trees_follow : (excuse : Type 0) (s : Symbol) (f g : Item) → Follows excuse f g → Follows excuse (λ tokens. trees_at (length tokens) s f tokens) (λ tokens. trees_at (length tokens) s g tokens)
trees_follow excuse s f g h =
    loop_follows excuse (is_symbol_kind s) (λ tokens. f (behind tokens)) (λ tokens. g (behind tokens)) (λ fuel tokens. trees_at fuel s f tokens) (λ fuel tokens. trees_at fuel s g tokens) (trees_loop s f) (trees_loop s g)
    (behind_takes excuse (is_symbol_kind s) f g h) (behind_takes_too excuse (is_symbol_kind s) f g h) (behind_follows excuse f g h)

pub def_follows : (excuse : Type 0) (f g : Item) → Follows excuse f g → Follows excuse (def_at f) (def_at g)
def_follows excuse f g h = then_follows excuse name_at name_at _ _ (name_follows excuse) (λ u v a b. expect_follows excuse symbol.EqualsEquals _ _ (mapped_follows excuse f g _ _ h))

defs_loop : (term : Item) → IsLoop (is_symbol_kind symbol.Comma) (λ tokens. def_at term (behind tokens)) (λ g tokens. defs_at g term tokens)
defs_loop term = record {
  empty = Defs.no_defs;
  none = λ tokens. refl;
  stop = λ g tokens e. rw e refl;
  go = λ g tokens e. (λ d more. Defs.and_def d.name d.at d.body more, rw e refl);
}

pub defs_follow : (excuse : Type 0) (f g : Item) → Follows excuse f g → Follows excuse (λ tokens. defs_at (length tokens) f tokens) (λ tokens. defs_at (length tokens) g tokens)
defs_follow excuse f g h =
    loop_follows excuse (is_symbol_kind symbol.Comma) (λ tokens. def_at f (behind tokens)) (λ tokens. def_at g (behind tokens)) (λ fuel tokens. defs_at fuel f tokens) (λ fuel tokens. defs_at fuel g tokens) (defs_loop f) (defs_loop g)
    (behind_takes excuse (is_symbol_kind symbol.Comma) (def_at f) (def_at g) (def_follows excuse f g h)) (behind_takes_too excuse (is_symbol_kind symbol.Comma) (def_at f) (def_at g) (def_follows excuse f g h)) (behind_follows excuse (def_at f) (def_at g) (def_follows excuse f g h))

pub decl_follows : (excuse : Type 0) (f g : Types) → Follows excuse f g → Follows excuse (decl_at f) (decl_at g)
decl_follows excuse f g h = then_follows excuse name_at name_at _ _ (name_follows excuse) (λ u v a b. expect_follows excuse symbol.Colon _ _ (mapped_follows excuse f g _ _ h))

decls_loop : (type : Types) → IsLoop (is_symbol_kind symbol.Comma) (λ tokens. decl_at type (behind tokens)) (λ g tokens. decls_at g type tokens)
decls_loop type = record {
  empty = [];
  none = λ tokens. refl;
  stop = λ g tokens e. rw e refl;
  go = λ g tokens e. (λ x more. x ∷ more, rw e refl);
}

pub decls_follow : (excuse : Type 0) (f g : Types) → Follows excuse f g → Follows excuse (λ tokens. decls_at (length tokens) f tokens) (λ tokens. decls_at (length tokens) g tokens)
decls_follow excuse f g h =
    loop_follows excuse (is_symbol_kind symbol.Comma) (λ tokens. decl_at f (behind tokens)) (λ tokens. decl_at g (behind tokens)) (λ fuel tokens. decls_at fuel f tokens) (λ fuel tokens. decls_at fuel g tokens) (decls_loop f) (decls_loop g)
    (behind_takes excuse (is_symbol_kind symbol.Comma) (decl_at f) (decl_at g) (decl_follows excuse f g h)) (behind_takes_too excuse (is_symbol_kind symbol.Comma) (decl_at f) (decl_at g) (decl_follows excuse f g h)) (behind_follows excuse (decl_at f) (decl_at g) (decl_follows excuse f g h))

dots_loop : IsLoop (is_symbol_kind symbol.Dot) (λ tokens. name_at (behind tokens)) dots_at
dots_loop = record {
  empty = [];
  none = λ tokens. refl;
  stop = λ g tokens e. rw e refl;
  go = λ g tokens e. (λ x more. x ∷ more, rw e refl);
}

pub dots_follow : (excuse : Type 0) → Follows excuse (λ tokens. dots_at (length tokens) tokens) (λ tokens. dots_at (length tokens) tokens)
dots_follow excuse =
    loop_follows excuse (is_symbol_kind symbol.Dot) (λ tokens. name_at (behind tokens)) (λ tokens. name_at (behind tokens)) dots_at dots_at dots_loop dots_loop
    (behind_takes excuse (is_symbol_kind symbol.Dot) name_at name_at (name_follows excuse)) (behind_takes_too excuse (is_symbol_kind symbol.Dot) name_at name_at (name_follows excuse)) (behind_follows excuse name_at name_at (name_follows excuse))

abbrev is_some : Option BinOp → Bool
is_some None = false
is_some (Some op) = true

some_operator : (o : Option BinOp) → is_some o ≡ true → (op : BinOp) × (o ≡ Some op)
some_operator None e = absurd cc
some_operator (Some op) e = (op, refl)

no_operator : (o : Option BinOp) → is_some o ≡ false → o ≡ None
no_operator None e = refl
no_operator (Some op) e = absurd cc

abbrev has_level : Level → TokenKind → Bool
has_level c k = is_some (of_level c (operator_kind k))

links_go : (c : Level) (item : Item) (g : ℕ) (tokens : List Token) (op : BinOp) → operator_at c tokens ≡ Some op →
    links_at (suc g) c item tokens ≡ (item (behind tokens) >>= λ x. mapped (λ more. Links.and_link op (front tokens) x.0 more) (links_at g c item x.1))
links_go c item g tokens op f = rw f refl

links_loop : (c : Level) (item : Item) → IsLoop (has_level c) (λ tokens. item (behind tokens)) (λ g tokens. links_at g c item tokens)
links_loop c item = record {
  empty = Links.no_links;
  none = λ tokens. refl;
  stop = λ g tokens e. rw (no_operator (operator_at c tokens) e) refl;
  go = λ g tokens e. let (op, f) = some_operator (operator_at c tokens) e in (λ t more. Links.and_link op (front tokens) t more, links_go c item g tokens op f);
}

pub links_follow : (excuse : Type 0) (c : Level) (f g : Item) → Follows excuse f g → Follows excuse (λ tokens. links_at (length tokens) c f tokens) (λ tokens. links_at (length tokens) c g tokens)
links_follow excuse c f g h =
    loop_follows excuse (has_level c) (λ tokens. f (behind tokens)) (λ tokens. g (behind tokens)) (λ fuel tokens. links_at fuel c f tokens) (λ fuel tokens. links_at fuel c g tokens) (links_loop c f) (links_loop c g)
    (behind_takes excuse (has_level c) f g h) (behind_takes_too excuse (has_level c) f g h) (behind_follows excuse f g h)

pub arguments_loop : (item : Item) → IsLoop starts_kind item (λ g tokens. arguments_at g item tokens)
arguments_loop item = record {
  empty = Trees.no_trees;
  none = λ tokens. refl;
  stop = λ g tokens e. rw e refl;
  go = λ g tokens e. (Trees.and_tree, rw e refl);
}

-- sequences and merges
sequence_follows : (excuse : Type 0) (f g : Item) → Follows excuse f g → Follows excuse (sequence_at f) (sequence_at g)
sequence_follows excuse f g h = then_follows excuse f g _ _ h (λ u v a b. mapped_follows excuse (λ here. trees_at (length here) symbol.Semicolon f here) (λ here. trees_at (length here) symbol.Semicolon g here) _ _ (trees_follow excuse symbol.Semicolon f g h))

pub phrase_follows : (excuse : Type 0) (f g : Item) → Follows excuse f g → Follows excuse (phrase_at f) (phrase_at g)
phrase_follows excuse f g h =
    then_follows excuse (sequence_at f) (sequence_at g) _ _ (sequence_follows excuse f g h)
    (λ u v a b. mapped_follows excuse (λ here. trees_at (length here) symbol.Comma (sequence_at f) here) (λ here. trees_at (length here) symbol.Comma (sequence_at g) here) _ _ (trees_follow excuse symbol.Comma (sequence_at f) (sequence_at g) (sequence_follows excuse f g h)))
