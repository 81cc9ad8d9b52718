-- How a text is judged: its core phrase, or the refusal of the first stage that refuses. The stages are its length, its tokens, its syntax
-- and nesting, its expansion, and the core limits.
use Rattle.std.specs.Prelude.{◌≡◌, ◌≢◌, ℕ, ◌<◌, ◌≤◌, Result, Ok, Err, List, length}
use Rattle.fy_base.specs.Outside.{Bytes}
use Rattle.fy_base.specs.declared.data.Place.{Place}
use Rattle.fy_types.specs.Names.{first_names}
use Rattle.fy_lexer.specs.declared.error.LexError.{LexError}
use Rattle.fy_lexer.specs.declared.error.LexError.TheVariants.{OutOfMemory}
use Rattle.fy_lexer.specs.declared.token.Token.{Token}
use Rattle.fy_lexer.specs.Tokens.{IsTokensOf, AreWithin, IsFaultOf}
use Rattle.fy_syntax.specs.Trees as written
use Rattle.fy_syntax.specs.Spells.{IsProgram}
use Rattle.fy_syntax.specs.Nesting.{nesting}
use Rattle.fy_places.specs.Begins.{IsSyntaxFault, IsDepthFault}
use Rattle.fy_phrase.specs.Tree.{Tree}
use Rattle.fy_expand.specs.declared.error.ExpandError.{ExpandError}
use Rattle.fy_expand.specs.Expansion.{core_of}

-- how many bytes a text has at most
abbrev pub most_text : ℕ
most_text = 1048576

-- why a text has no core phrase
pub data Refusal : Type 0 where
  -- longer than that
  length_refused : Refusal
  tokens_refused : LexError → Refusal
  -- at the first token with which no program of the allowed nesting begins: no program at all, or only deeper ones
  syntax_refused : Place → Refusal
  depth_refused : Place → Refusal
  -- a fault, or a core limit
  expansion_refused : ExpandError → Refusal

-- the tokens of a text of allowed length, within their limits, with names numbered by the list
pub record HasTokensFrom (names : List Bytes) (text : Bytes) (tokens : List Token) : Type 0 where
  pub short : length text ≤ most_text
  pub after : List Bytes
  pub read : IsTokensOf names text tokens after
  pub within : AreWithin tokens

-- the tokens spell the program, which nests at most 256
pub record IsAllowed (tokens : List Token) (tree : written.Tree) : Type 0 where
  pub spelled : IsProgram tree tokens
  pub nests : nesting tree ≤ 256

-- the text is judged so, where names are numbered by the list
pub data IsJudgedFrom : List Bytes → Bytes → Result Tree Refusal → Type 0 where
  too_long : {names : List Bytes} {text : Bytes} → most_text < length text → IsJudgedFrom names text (Err length_refused)
  no_tokens : {names : List Bytes} {text : Bytes} {e : LexError} → length text ≤ most_text → IsFaultOf names text e → e ≢ OutOfMemory →
      IsJudgedFrom names text (Err (tokens_refused e))
  no_program : {names : List Bytes} {text : Bytes} {tokens : List Token} {at : Place} → HasTokensFrom names text tokens →
      IsSyntaxFault 256 tokens at → IsJudgedFrom names text (Err (syntax_refused at))
  too_deep : {names : List Bytes} {text : Bytes} {tokens : List Token} {at : Place} → HasTokensFrom names text tokens →
      IsDepthFault 256 tokens at → IsJudgedFrom names text (Err (depth_refused at))
  not_expanded : {names : List Bytes} {text : Bytes} {tokens : List Token} {tree : written.Tree} {e : ExpandError} → HasTokensFrom names text tokens →
      IsAllowed tokens tree → core_of tree ≡ Err e → IsJudgedFrom names text (Err (expansion_refused e))
  expanded : {names : List Bytes} {text : Bytes} {tokens : List Token} {tree : written.Tree} {p : Tree} → HasTokensFrom names text tokens →
      IsAllowed tokens tree → core_of tree ≡ Ok p → IsJudgedFrom names text (Ok p)

-- from the predefined names on
abbrev pub HasTokens : Bytes → List Token → Type 0
HasTokens = HasTokensFrom first_names

abbrev pub IsJudged : Bytes → Result Tree Refusal → Type 0
IsJudged = IsJudgedFrom first_names

-- with the list a text has at most one core phrase, and then no refusal, and at most one refusal
pub record AreJudgedOneWay (names : List Bytes) : Type 0 where
  pub phrase : (text : Bytes) (phrase other : Tree) → IsJudgedFrom names text (Ok phrase) → IsJudgedFrom names text (Ok other) → phrase ≡ other
  pub apart : (text : Bytes) (phrase : Tree) (why : Refusal) → IsJudgedFrom names text (Ok phrase) → ¬ IsJudgedFrom names text (Err why)
  pub refusal : (text : Bytes) (why other : Refusal) → IsJudgedFrom names text (Err why) → IsJudgedFrom names text (Err other) → why ≡ other
