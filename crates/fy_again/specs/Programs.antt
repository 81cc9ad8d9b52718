-- Programs whose phrases are read again.
use Rattle.std.specs.Prelude.{◌≡◌, Ok, List, ◌∷◌, codes}
use Rattle.fy_base.specs.Outside.{Bytes}
use Rattle.fy_types.specs.Names.{AreNames}
use Rattle.fy_lexer.specs.declared.token.Token.{Token}
use Rattle.fy_lexer.specs.Identifiers.{AreIdentifiers}
use Rattle.fy_lexer.specs.Tokens.{IsTokensOf, HasAdded}
use Rattle.fy_syntax.specs.Trees as written
use Rattle.fy_phrase.specs.Tree.{Tree, Trees, var, lit, unary, binary, cond, case, lam, app, field, sel, merge, let_in, rec, skip, seq, assign, while_do, forever, new, cells, escape, accept, put, read, mark, no_trees, and_tree}
use Rattle.fy_expand.specs.Core.{core}
use Rattle.fy_expand.specs.Expansion.{core_of}
use Rattle.fy_expand.specs.Judged.{HasTokensFrom, IsAllowed}
use Rattle.fy_expand.specs.Scope.{program_scope}
use Rattle.fy_show.specs.declared.binders.Binder.{Binder}
use Rattle.fy_show.specs.Entries.{one, Scope, Known}
use Rattle.fy_show.specs.Fresh.{bound}
use Rattle.fy_show.specs.Texts.{is_sequence, text_of}
use Rattle.fy_again.specs.Phrases.{plainly, prelude, IsNamedEntry, Chosen, IsReadAsPhrase}

abbrev mutual
  -- the names that each binder in the phrase is shown with are in the list, and each field of a `letrec` is shown by its own
  pub AreBound : Known → Scope → Tree → Type 0
  AreBound k s (var n at) = Unit {0}
  AreBound k s (lit v at) = Unit {0}
  AreBound k s (unary op p at) = AreBound k s p
  AreBound k s (binary op p q at) = AreBound k s p × AreBound k s q
  AreBound k s (cond b p q at) = AreBound k s b × AreBound k s p × AreBound k s q
  AreBound k s (case e parts at) = Unit {0}
  AreBound k s (lam d As b at) = IsNamedEntry k.names (bound k s (lam d As b at)) × AreBound k (bound k s (lam d As b at) ∷ s) b
  AreBound k s (app p q at) = AreBound k s p × AreBound k s q
  AreBound k s (field i p at) = AreBound k s p
  AreBound k s (sel p i at) = AreBound k s p
  AreBound k s (merge p q at) = Chosen (is_sequence p q) (IsCallBound k s p) (AreBound k s p × AreBound k s q)
  AreBound k s (let_in d (rec c T p here) b at) =
      let e = bound k s (let_in d (rec c T p here) b at) in IsNamedEntry k.names e × AreDefinitionsBound k (e ∷ s) p × AreBound k (e ∷ s) b
  AreBound k s (let_in d p b at) = IsNamedEntry k.names (bound k s (let_in d p b at)) × AreBound k s p × AreBound k (bound k s (let_in d p b at) ∷ s) b
  AreBound k s (rec d T b at) = Unit {0}
  AreBound k s (skip at) = Unit {0}
  AreBound k s (seq p q at) = AreBound k s p × AreBound k s q
  AreBound k s (assign p q at) = AreBound k s p × AreBound k s q
  AreBound k s (while_do b c at) = AreBound k s b × AreBound k s c
  AreBound k s (forever c at) = AreBound k s c
  AreBound k s (new d D e b at) = IsNamedEntry k.names (bound k s (new d D e b at)) × AreBound k s e × AreBound k (bound k s (new d D e b at) ∷ s) b
  AreBound k s (cells d e b at) = Unit {0}
  AreBound k s (escape d b at) = IsNamedEntry k.names (bound k s (escape d b at)) × AreBound k (bound k s (escape d b at) ∷ s) b
  AreBound k s (accept d D b at) = IsNamedEntry k.names (bound k s (accept d D b at)) × AreBound k (bound k s (accept d D b at) ∷ s) b
  AreBound k s (put kind p at) = Unit {0}
  AreBound k s (read p at) = Unit {0}
  AreBound k s (mark m at) = Unit {0}

  -- those in the parts of a sequence
  pub IsCallBound : Known → Scope → Tree → Type 0
  IsCallBound k s (lam d As (case e parts at) here) = AreAllBound k (one (codes "n") ∷ s) parts
  IsCallBound k s p = Unit {0}

  pub AreAllBound : Known → Scope → Trees → Type 0
  AreAllBound k s no_trees = Unit {0}
  AreAllBound k s (and_tree p more) = AreBound k s p × AreAllBound k s more

  -- those in the definitions of a `letrec`
  pub AreDefinitionsBound : Known → Scope → Tree → Type 0
  AreDefinitionsBound k s (merge p (field i q at) here) = AreDefinitionsBound k s p × AreBound k s q
  AreDefinitionsBound k s (field i q at) = AreBound k s q
  AreDefinitionsBound k s p = Unit {0}

-- the phrase of a text that is judged, inside the prelude, is read again with a list that has its names and those that its binders are
-- shown with
abbrev pub ProgramsAreReadAgain : Type 0
ProgramsAreReadAgain =
    (names after all : List Bytes) (text : Bytes) (tokens : List Token) (tree : written.Tree) (whole : Tree) (binders : List Binder) →
    AreNames all → AreIdentifiers all → HasAdded after all → IsTokensOf names text tokens after → HasTokensFrom names text tokens → IsAllowed tokens tree → core_of tree ≡ Ok whole →
    AreBound (plainly all binders) prelude (core program_scope tree) →
    IsReadAsPhrase all (text_of (plainly all binders) prelude (core program_scope tree)) (core program_scope tree)
