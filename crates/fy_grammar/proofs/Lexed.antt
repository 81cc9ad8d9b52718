-- The tokens of a text end with their end, and have no other.
use Rattle.std.proofs.Common.{inl, inr, List, [], ◌∷◌, ◌++◌}
use Rattle.std.specs.Prelude.{◌≢◌}
use Rattle.std.specs.List.{All}
use Rattle.std.proofs.lemmas.List.Elements.{All-nil, All-push, All-same}
use Rattle.fy_base.specs.Outside.{Bytes}
use Rattle.fy_lexer.specs.declared.token.Token.{Token}
use Rattle.fy_lexer.specs.declared.token.TokenKind.{TokenKind}
use Rattle.fy_lexer.specs.declared.token.TokenKind.TheVariants as kind
use Rattle.fy_lexer.specs.Spellings.{Spells}
use Rattle.fy_lexer.specs.Tokens.{Reading, Step, Steps, TakesToken, IsTokensOf, start_of}
use Rattle.fy_grammar.specs.Program.{IsEnded}

-- no token is the end
abbrev NoEnd : List Token → Type 0
NoEnd tokens = All (λ t. t.kind ≢ kind.End) tokens

spelled_no_end : (names : List Bytes) (k : TokenKind) (piece : Bytes) → Spells names k piece → k ≢ kind.End
spelled_no_end names (kind.Ident n) piece h e = cc
spelled_no_end names (kind.Word w) piece h e = cc
spelled_no_end names (kind.Number n) piece h e = cc
spelled_no_end names (kind.Letter c) piece h e = cc
spelled_no_end names (kind.Str bytes) piece h e = cc
spelled_no_end names (kind.Sym s) piece h e = cc
spelled_no_end names kind.End piece h e = h

-- a token that was taken is no end
taken : (old new : Reading) → TakesToken old new → NoEnd old.tokens → NoEnd new.tokens
taken old new t h =
    All-same (λ t. t.kind ≢ kind.End) new.tokens (old.tokens ++ record { kind = t.kind; place = old.spot.place } ∷ []) t.tokens
    (All-push (λ t. t.kind ≢ kind.End) old.tokens (record { kind = t.kind; place = old.spot.place }) h (spelled_no_end old.names t.kind t.piece t.spelled))

stepped : (old new : Reading) → Step old new → NoEnd old.tokens → NoEnd new.tokens
stepped old new (inl s) h = All-same (λ t. t.kind ≢ kind.End) new.tokens old.tokens s.tokens h
stepped old new (inr t) h = taken old new t h

all_stepped : (old new : Reading) → Steps old new → NoEnd old.tokens → NoEnd new.tokens
all_stepped old new (Steps.none here) h = h
all_stepped old new (Steps.more first next last s rest) h = all_stepped next last rest (stepped first next s h)

pub lexed_ended : (names : List Bytes) (text : Bytes) (tokens : List Token) (later : List Bytes) → IsTokensOf names text tokens later → IsEnded tokens
lexed_ended names text tokens later h = record {
  before = h.last.tokens;
  at = h.last.spot.place;
  is = h.read;
  no_other = all_stepped (start_of names text) h.last h.steps (All-nil (λ t. t.kind ≢ kind.End));
}
