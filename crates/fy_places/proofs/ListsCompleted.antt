-- Where reading a list stops, the tokens before can be completed.
use Rattle.std.proofs.Common.{List, [], arith, length, refl, subst, suc, sym, zero, ℕ, ◌∷◌, ◌≡◌}
use Rattle.std.specs.Prelude.{None, Ok, Option, Some}
use Rattle.fy_base.specs.declared.data.BinOp.{BinOp}
use Rattle.fy_base.specs.declared.data.Place.{Place}
use Rattle.fy_base.specs.declared.data.UnOp.{UnOp}
use Rattle.fy_lexer.specs.declared.token.Symbol.{Symbol}
use Rattle.fy_lexer.specs.declared.token.Symbol.TheVariants as symbol
use Rattle.fy_lexer.specs.declared.token.Token.{Token}
use Rattle.fy_lexer.specs.declared.token.TokenKind.{TokenKind}
use Rattle.fy_lexer.specs.declared.token.TokenKind.TheVariants as kind
use Rattle.fy_syntax.specs.declared.surface.Prefixed.{Prefixed}
use Rattle.fy_syntax.specs.Nesting.{below}
use Rattle.fy_syntax.specs.Reader.{Read, arguments_at, begins_with, behind, decl_at, decls_at, def_at, defs_at, dots_at, link_step, links_at, mapped, name_at, operator_at, phrase_at, prefix_kind, prefixes_at, prefixes_step, sequence_at, starts, trees_at, ◌>>=◌}
use Rattle.fy_syntax.specs.Signs.{Level, TypeLevel, front, operator_sign, prefix_sign, token}
use Rattle.fy_syntax.specs.Spells.{Dots, MoreArguments, MoreDecls, MoreDefs, MoreLinks, MoreTrees, Prefixes, merge_of, sequence_of}
use Rattle.fy_syntax.specs.Trees.{Defs, Links, Tree, Trees, TypeTree}
use Rattle.fy_syntax.proofs.Complete.{depth_at}
use Rattle.fy_syntax.proofs.TokenLemmas.{begins_is, operator_is, prefix_is}
use Rattle.fy_places.proofs.Completing.{IsCompletable, Language, ReadsPiece, SameBefore, completable_as, completable_behind, completable_if, completable_last, completable_then}
use Rattle.fy_places.proofs.PhrasesSpelled.{arguments_spelled, decl_spelled, decls_spelled, def_spelled, defs_spelled, dots_spelled, links_spelled, more_phrases_spelled, phrase_spelled, prefix_spelled, sequence_spelled}
use Rattle.fy_places.proofs.Pieces.{Piece, SpellsPiece, SpellsPieces}
use Rattle.fy_places.proofs.SignsCompleted.{completable_name, completable_sign, completable_symbol}

pub trees_completable : (s : Symbol) (level : Level) (depth : ℕ) (item : List Token → Read Tree) → ReadsPiece (Piece.phrase level) depth item → (g : ℕ) (tokens : List Token) → IsCompletable (SpellsPiece (Piece.phrases s level)) depth tokens (trees_at g s item tokens)
trees_completable s level depth item i zero tokens = λ later. (later, SameBefore.here, SpellsPiece.more_phrases MoreTrees.no_trees (omega arith))
trees_completable s level depth item i (suc g) tokens =
    completable_if (SpellsPiece (Piece.phrases s level)) depth tokens (begins_with s tokens) _ (Ok (Trees.no_trees, tokens))
    (λ e. subst (λ whole. IsCompletable (SpellsPiece (Piece.phrases s level)) depth whole (item (behind tokens) >>= λ x. mapped (Trees.and_tree x.0) (trees_at g s item x.1))) (sym (begins_is s tokens e))
    (completable_as (SpellsPieces (Piece.sign (kind.Sym s) ∷ Piece.phrase level ∷ Piece.phrases s level ∷ [])) (SpellsPiece (Piece.phrases s level)) depth depth _ _ (more_phrases_spelled s level depth) (more_phrases_spelled s level (suc depth))
    (completable_sign (kind.Sym s) (Piece.phrase level ∷ Piece.phrases s level ∷ []) depth (front tokens) (behind tokens) _
    (completable_then (Piece.phrase level) (Piece.phrases s level ∷ []) depth (behind tokens) (item (behind tokens)) (λ x. mapped (Trees.and_tree x.0) (trees_at g s item x.1)) (i.completable (behind tokens))
    (λ x. completable_last (Piece.phrases s level) depth x.1 (Trees.and_tree x.0) (trees_at g s item x.1) (trees_completable s level depth item i g x.1))))))
    (λ e later. (later, SameBefore.here, SpellsPiece.more_phrases MoreTrees.no_trees (omega arith)))

pub def_completable : (depth : ℕ) (term : List Token → Read Tree) → ReadsPiece (Piece.phrase Level.term) depth term → (tokens : List Token) → IsCompletable (SpellsPiece Piece.def) depth tokens (def_at term tokens)
def_completable depth term i tokens =
    completable_as (SpellsPieces (Piece.name ∷ Piece.sign (kind.Sym symbol.EqualsEquals) ∷ Piece.phrase Level.term ∷ [])) (SpellsPiece Piece.def) depth depth tokens _ (def_spelled depth) (def_spelled (suc depth))
    (completable_then Piece.name (Piece.sign (kind.Sym symbol.EqualsEquals) ∷ Piece.phrase Level.term ∷ []) depth tokens (name_at tokens) _ (completable_name depth tokens)
    (λ n. completable_symbol symbol.EqualsEquals (Piece.phrase Level.term ∷ []) depth n.1 _
    (λ m. completable_last (Piece.phrase Level.term) depth m (λ t. record { name = n.0; at = front tokens; body = t }) (term m) (i.completable m))))

pub defs_completable : (depth : ℕ) (term : List Token → Read Tree) → ReadsPiece (Piece.phrase Level.term) depth term → (g : ℕ) (tokens : List Token) → IsCompletable (SpellsPiece Piece.defs) depth tokens (defs_at g term tokens)
defs_completable depth term i zero tokens = λ later. (later, SameBefore.here, SpellsPiece.more_defs MoreDefs.no_defs (omega arith))
defs_completable depth term i (suc g) tokens =
    completable_if (SpellsPiece Piece.defs) depth tokens (begins_with symbol.Comma tokens) _ (Ok (Defs.no_defs, tokens))
    (λ e. subst (λ whole. IsCompletable (SpellsPiece Piece.defs) depth whole (def_at term (behind tokens) >>= λ x. mapped (Defs.and_def x.0.name x.0.at x.0.body) (defs_at g term x.1))) (sym (begins_is symbol.Comma tokens e))
    (completable_as (SpellsPieces (Piece.sign (kind.Sym symbol.Comma) ∷ Piece.def ∷ Piece.defs ∷ [])) (SpellsPiece Piece.defs) depth depth _ _ (defs_spelled depth) (defs_spelled (suc depth))
    (completable_sign (kind.Sym symbol.Comma) (Piece.def ∷ Piece.defs ∷ []) depth (front tokens) (behind tokens) _
    (completable_then Piece.def (Piece.defs ∷ []) depth (behind tokens) (def_at term (behind tokens)) (λ x. mapped (Defs.and_def x.0.name x.0.at x.0.body) (defs_at g term x.1)) (def_completable depth term i (behind tokens))
    (λ x. completable_last Piece.defs depth x.1 (Defs.and_def x.0.name x.0.at x.0.body) (defs_at g term x.1) (defs_completable depth term i g x.1))))))
    (λ e later. (later, SameBefore.here, SpellsPiece.more_defs MoreDefs.no_defs (omega arith)))

pub decl_completable : (depth : ℕ) (type : List Token → Read TypeTree) → ReadsPiece (Piece.type TypeLevel.type) depth type → (tokens : List Token) → IsCompletable (SpellsPiece Piece.decl) depth tokens (decl_at type tokens)
decl_completable depth type i tokens =
    completable_as (SpellsPieces (Piece.name ∷ Piece.sign (kind.Sym symbol.Colon) ∷ Piece.type TypeLevel.type ∷ [])) (SpellsPiece Piece.decl) depth depth tokens _ (decl_spelled depth) (decl_spelled (suc depth))
    (completable_then Piece.name (Piece.sign (kind.Sym symbol.Colon) ∷ Piece.type TypeLevel.type ∷ []) depth tokens (name_at tokens) _ (completable_name depth tokens)
    (λ n. completable_symbol symbol.Colon (Piece.type TypeLevel.type ∷ []) depth n.1 _
    (λ m. completable_last (Piece.type TypeLevel.type) depth m (λ a. record { name = n.0; at = front tokens; type = a }) (type m) (i.completable m))))

pub decls_completable : (depth : ℕ) (type : List Token → Read TypeTree) → ReadsPiece (Piece.type TypeLevel.type) depth type → (g : ℕ) (tokens : List Token) → IsCompletable (SpellsPiece Piece.decls) depth tokens (decls_at g type tokens)
decls_completable depth type i zero tokens = λ later. (later, SameBefore.here, SpellsPiece.more_decls MoreDecls.no_decls (omega arith))
decls_completable depth type i (suc g) tokens =
    completable_if (SpellsPiece Piece.decls) depth tokens (begins_with symbol.Comma tokens) _ (Ok ([], tokens))
    (λ e. subst (λ whole. IsCompletable (SpellsPiece Piece.decls) depth whole (decl_at type (behind tokens) >>= λ x. mapped (λ more. x.0 ∷ more) (decls_at g type x.1))) (sym (begins_is symbol.Comma tokens e))
    (completable_as (SpellsPieces (Piece.sign (kind.Sym symbol.Comma) ∷ Piece.decl ∷ Piece.decls ∷ [])) (SpellsPiece Piece.decls) depth depth _ _ (decls_spelled depth) (decls_spelled (suc depth))
    (completable_sign (kind.Sym symbol.Comma) (Piece.decl ∷ Piece.decls ∷ []) depth (front tokens) (behind tokens) _
    (completable_then Piece.decl (Piece.decls ∷ []) depth (behind tokens) (decl_at type (behind tokens)) (λ x. mapped (λ more. x.0 ∷ more) (decls_at g type x.1)) (decl_completable depth type i (behind tokens))
    (λ x. completable_last Piece.decls depth x.1 (λ more. x.0 ∷ more) (decls_at g type x.1) (decls_completable depth type i g x.1))))))
    (λ e later. (later, SameBefore.here, SpellsPiece.more_decls MoreDecls.no_decls (omega arith)))

pub dots_completable : (depth g : ℕ) (tokens : List Token) → IsCompletable (SpellsPiece Piece.dots) depth tokens (dots_at g tokens)
dots_completable depth zero tokens = λ later. (later, SameBefore.here, SpellsPiece.some_dots Dots.no_dots)
dots_completable depth (suc g) tokens =
    completable_if (SpellsPiece Piece.dots) depth tokens (begins_with symbol.Dot tokens) _ (Ok ([], tokens))
    (λ e. subst (λ whole. IsCompletable (SpellsPiece Piece.dots) depth whole (name_at (behind tokens) >>= λ x. mapped (λ names. x.0 ∷ names) (dots_at g x.1))) (sym (begins_is symbol.Dot tokens e))
    (completable_as (SpellsPieces (Piece.sign (kind.Sym symbol.Dot) ∷ Piece.name ∷ Piece.dots ∷ [])) (SpellsPiece Piece.dots) depth depth _ _ (dots_spelled depth) (dots_spelled (suc depth))
    (completable_sign (kind.Sym symbol.Dot) (Piece.name ∷ Piece.dots ∷ []) depth (front tokens) (behind tokens) _
    (completable_then Piece.name (Piece.dots ∷ []) depth (behind tokens) (name_at (behind tokens)) (λ x. mapped (λ names. x.0 ∷ names) (dots_at g x.1)) (completable_name depth (behind tokens))
    (λ x. completable_last Piece.dots depth x.1 (λ names. x.0 ∷ names) (dots_at g x.1) (dots_completable depth g x.1))))))
    (λ e later. (later, SameBefore.here, SpellsPiece.some_dots Dots.no_dots))

pub arguments_completable : (depth : ℕ) (item : List Token → Read Tree) → ReadsPiece (Piece.phrase Level.select) depth item → (g : ℕ) (tokens : List Token) → IsCompletable (SpellsPiece Piece.arguments) depth tokens (arguments_at g item tokens)
arguments_completable depth item i zero tokens = λ later. (later, SameBefore.here, SpellsPiece.some_arguments MoreArguments.no_arguments (omega arith))
arguments_completable depth item i (suc g) tokens =
    completable_if (SpellsPiece Piece.arguments) depth tokens (starts tokens) _ (Ok (Trees.no_trees, tokens))
    (λ e. completable_as (SpellsPieces (Piece.phrase Level.select ∷ Piece.arguments ∷ [])) (SpellsPiece Piece.arguments) depth depth tokens _ (arguments_spelled depth) (arguments_spelled (suc depth))
    (completable_then (Piece.phrase Level.select) (Piece.arguments ∷ []) depth tokens (item tokens) (λ x. mapped (Trees.and_tree x.0) (arguments_at g item x.1)) (i.completable tokens)
    (λ x. completable_last Piece.arguments depth x.1 (Trees.and_tree x.0) (arguments_at g item x.1) (arguments_completable depth item i g x.1))))
    (λ e later. (later, SameBefore.here, SpellsPiece.some_arguments MoreArguments.no_arguments (omega arith)))

pub completable_link : {A : Type 0} (language : Language) (depth : ℕ) (tokens : List Token) (o : Option BinOp) (go : BinOp → Read A) (stop : Read A) →
    ((op : BinOp) → o ≡ Some op → IsCompletable language depth tokens (go op)) → IsCompletable language depth tokens stop → IsCompletable language depth tokens (link_step o go stop)
completable_link language depth tokens None go stop h k = k
completable_link language depth tokens (Some op) go stop h k = h op refl

pub links_completable : (operators level : Level) (depth : ℕ) (item : List Token → Read Tree) → depth_at level ≡ (λ t. suc (below t)) → ReadsPiece (Piece.phrase level) depth item → (g : ℕ) (tokens : List Token) → IsCompletable (SpellsPiece (Piece.links operators level)) depth tokens (links_at g operators item tokens)
links_completable operators level depth item o i zero tokens = λ later. (later, SameBefore.here, SpellsPiece.more_links MoreLinks.no_links (omega arith))
links_completable operators level depth item o i (suc g) tokens =
    completable_link (SpellsPiece (Piece.links operators level)) depth tokens (operator_at operators tokens) _ (Ok (Links.no_links, tokens))
    (λ op e. let (f, is) = operator_is operators op tokens e in
    subst (λ whole. IsCompletable (SpellsPiece (Piece.links operators level)) depth whole (item (behind tokens) >>= λ x. mapped (Links.and_link op (front tokens) x.0) (links_at g operators item x.1))) (sym is)
    (completable_behind (SpellsPieces (Piece.phrase level ∷ Piece.links operators level ∷ [])) (SpellsPiece (Piece.links operators level)) depth depth (token (operator_sign op) (front tokens)) (behind tokens) _ (links_spelled operators level op (front tokens) depth f o) (links_spelled operators level op (front tokens) (suc depth) f o)
    (completable_then (Piece.phrase level) (Piece.links operators level ∷ []) depth (behind tokens) (item (behind tokens)) (λ x. mapped (Links.and_link op (front tokens) x.0) (links_at g operators item x.1)) (i.completable (behind tokens))
    (λ x. completable_last (Piece.links operators level) depth x.1 (Links.and_link op (front tokens) x.0) (links_at g operators item x.1) (links_completable operators level depth item o i g x.1)))))
    (λ later. (later, SameBefore.here, SpellsPiece.more_links MoreLinks.no_links (omega arith)))

-- operators in front
abbrev PrefixesRead : ℕ → List Token → List Prefixed × List Token → Type 0
PrefixesRead depth tokens x = (later : List Token) → (whole : List Token) × SameBefore x.1 later tokens whole × SpellsPiece Piece.prefixes depth whole later

prefixes_none : (depth : ℕ) (tokens : List Token) → PrefixesRead depth tokens ([], tokens)
prefixes_none depth tokens = λ later. (later, SameBefore.here, SpellsPiece.some_prefixes Prefixes.no_prefixes)

prefixes_step_read : (depth : ℕ) (k : TokenKind) (at : Place) (tokens : List Token) (more : List Prefixed × List Token) → PrefixesRead depth tokens more → (o : Option UnOp) → prefix_kind k ≡ o →
    PrefixesRead depth (token k at ∷ tokens) (prefixes_step o at more (token k at ∷ tokens))
prefixes_step_read depth k at tokens more m None e = prefixes_none depth (token k at ∷ tokens)
prefixes_step_read depth k at tokens more m (Some o) e =
    subst (λ (k : TokenKind). PrefixesRead depth (token k at ∷ tokens) (record { op = o; at = at } ∷ more.0, more.1)) (sym (prefix_is k o e))
    (λ later. let (whole, a, s) = m later in (token (prefix_sign o) at ∷ whole, SameBefore.next a, prefix_spelled o at depth whole later s))

pub prefixes_read : (depth : ℕ) (tokens : List Token) → PrefixesRead depth tokens (prefixes_at tokens)
prefixes_read depth [] = prefixes_none depth []
prefixes_read depth (t ∷ tokens) = prefixes_step_read depth t.kind t.place tokens (prefixes_at tokens) (prefixes_read depth tokens) (prefix_kind t.kind) refl

-- sequences and merges
sequence_reads : (depth : ℕ) (term : List Token → Read Tree) → ReadsPiece (Piece.phrase Level.term) depth term → ReadsPiece (Piece.phrase Level.sequence) depth (sequence_at term)
sequence_reads depth term i = record {
  completable = λ tokens.
      completable_as (SpellsPieces (Piece.phrase Level.term ∷ Piece.phrases symbol.Semicolon Level.term ∷ [])) (SpellsPiece (Piece.phrase Level.sequence)) depth depth tokens _ (sequence_spelled depth) (sequence_spelled (suc depth))
      (completable_then (Piece.phrase Level.term) (Piece.phrases symbol.Semicolon Level.term ∷ []) depth tokens (term tokens) _ (i.completable tokens)
      (λ x. completable_last (Piece.phrases symbol.Semicolon Level.term) depth x.1 (λ more. sequence_of x.0 more (front tokens)) (trees_at (length x.1) symbol.Semicolon term x.1)
      (trees_completable symbol.Semicolon Level.term depth term i (length x.1) x.1)));
}

pub phrase_reads : (depth : ℕ) (term : List Token → Read Tree) → ReadsPiece (Piece.phrase Level.term) depth term → ReadsPiece (Piece.phrase Level.phrase) depth (phrase_at term)
phrase_reads depth term i = record {
  completable = λ tokens.
      completable_as (SpellsPieces (Piece.phrase Level.sequence ∷ Piece.phrases symbol.Comma Level.sequence ∷ [])) (SpellsPiece (Piece.phrase Level.phrase)) depth depth tokens _ (phrase_spelled depth) (phrase_spelled (suc depth))
      (completable_then (Piece.phrase Level.sequence) (Piece.phrases symbol.Comma Level.sequence ∷ []) depth tokens (sequence_at term tokens) _ ((sequence_reads depth term i).completable tokens)
      (λ x. completable_last (Piece.phrases symbol.Comma Level.sequence) depth x.1 (λ more. merge_of x.0 more (front tokens)) (trees_at (length x.1) symbol.Comma (sequence_at term) x.1)
      (trees_completable symbol.Comma Level.sequence depth (sequence_at term) (sequence_reads depth term i) (length x.1) x.1)));
}
