-- A source has one header, also where more names are known.
use Rattle.std.proofs.Common.{◌≡◌, List, sym, ap, ◌∙◌}
use Rattle.std.specs.Prelude.{Some}
use Rattle.fy_base.specs.Outside.{Bytes}
use Rattle.fy_lexer.specs.declared.token.Token.{Token}
use Rattle.fy_lexer.specs.Tokens.{HasAdded}
use Rattle.fy_lexer.proofs.AgainLemmas.{later_names_change_nothing}
use Rattle.fy_lexer.proofs.UniqueLemmas.{tokens_same}
use Rattle.fy_link.specs.Header.{PlainHeader, header_of}
use Rattle.fy_link.specs.Sources.{HasHeader, IsLexed}

pub lexed-later : (before after names : List Bytes) (source : Bytes) (tokens : List Token) → IsLexed before source tokens after → HasAdded after names →
    IsLexed names source tokens names
lexed-later before after names source tokens h a =
    record { read = later_names_change_nothing before after names source tokens h.read a; within = h.within }

-- the same with all later names
pub headed-later : (before after names : List Bytes) (source : Bytes) (tokens : List Token) (header : PlainHeader) →
    HasHeader before source after tokens header → HasAdded after names → HasHeader names source names tokens header
headed-later before after names source tokens header h a =
    record { lexed = lexed-later before after names source tokens h.lexed a; is = h.is }

-- one list of tokens, one header, one list of names
pub record IsSameHeader (tokens others : List Token) (header other : PlainHeader) (after last : List Bytes) : Type 0 where
  pub one_list : tokens ≡ others
  pub one_header : header ≡ other
  pub one_after : after ≡ last

pub headed-same : (names : List Bytes) (source : Bytes) (after last : List Bytes) (tokens others : List Token) (header other : PlainHeader) →
    HasHeader names source after tokens header → HasHeader names source last others other → IsSameHeader tokens others header other after last
headed-same names source after last tokens others header other h k =
    let same = tokens_same names source tokens others after last h.lexed.read k.lexed.read in
    let both : Some header ≡ Some other = sym h.is ∙ (ap header_of same.0 ∙ k.is) in
    let one : header ≡ other = cc in
    record { one_list = same.0; one_header = one; one_after = same.1 }
