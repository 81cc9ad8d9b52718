-- What holds of the core phrase of a judged text.
use Rattle.std.proofs.Common.{List, Ok, codes, inl, inr, refl, sym, subst}
use Rattle.fy_base.specs.Outside.{Bytes}
use Rattle.fy_types.specs.Fields.{IsNamed}
use Rattle.fy_types.specs.Names.{first_names}
use Rattle.fy_lexer.specs.declared.token.Token.{Token}
use Rattle.fy_lexer.specs.declared.token.TokenKind.{TokenKind}
use Rattle.fy_lexer.specs.declared.token.TokenKind.TheVariants.{Ident, Number, Letter, Str, Word, Sym, End}
use Rattle.fy_lexer.specs.Identifiers.{AreIdentifiers, AllIdentifiers}
use Rattle.fy_lexer.specs.Tokens.{Reading, names_past, Step, Steps, IsTokensOf, start_of}
use Rattle.fy_lexer.proofs.NamesLemmas.{HasAdded-with_name}
use Rattle.fy_lexer.proofs.IdentifierLemmas.{named_later, identifiers_named}
use Rattle.fy_lexer.proofs.UniqueLemmas.{tokens_same}
use Rattle.fy_syntax.proofs.NameLemmas.{names_are_of_tokens}
use Rattle.fy_phrase.specs.Tree.{Tree}
use Rattle.fy_phrase.specs.CoreLimits.{KeepsCoreLimits}
use Rattle.fy_phrase.specs.PhraseNames.{AllNames, HasFullTypes}
use Rattle.fy_expand.specs.Judged.{IsJudgedFrom, IsJudged, expanded}
use Rattle.fy_expand.proofs.ExpansionLemmas.{core_of-limits, core_of-names, core_of-full}

pub judged-limits : {names : List Bytes} (text : Bytes) (p : Tree) → IsJudgedFrom names text (Ok p) → KeepsCoreLimits p
judged-limits text p (expanded {tree = tree} h a is) = core_of-limits tree p is

pub judged-full : {names : List Bytes} (text : Bytes) (p : Tree) → IsJudgedFrom names text (Ok p) → HasFullTypes p
judged-full text p (expanded {tokens = tokens} {tree = tree} h a is) = core_of-full tree p tokens is a.spelled

-- ---- the name `len` stays among the names

len-past : (kind : TokenKind) (piece : Bytes) (names : List Bytes) → IsNamed names 0 → IsNamed (names_past kind piece names) 0
len-past (Ident name) piece names h = named_later 0 (HasAdded-with_name names piece) h
len-past (Word keyword) piece names h = h
len-past (Number n) piece names h = h
len-past (Letter value) piece names h = h
len-past (Str values) piece names h = h
len-past (Sym symbol) piece names h = h
len-past End piece names h = h

len-step : (old new : Reading) → Step old new → IsNamed old.names 0 → IsNamed new.names 0
len-step old new (inl gap) h = subst (λ names. IsNamed names 0) (sym gap.names) h
len-step old new (inr taken) h = subst (λ names. IsNamed names 0) (sym taken.names) (len-past taken.kind taken.piece old.names h)

len-steps : (old new : Reading) → Steps old new → IsNamed old.names 0 → IsNamed new.names 0
len-steps old new (Steps.none here) h = h
len-steps old new (Steps.more a next b step steps) h = len-steps next new steps (len-step old next step h)

len-first : IsNamed first_names 0
len-first = record { name = codes "len"; numbered = refl; identifier = refl }

len-named : (names after : List Bytes) (text : Bytes) (tokens : List Token) → IsNamed names 0 → IsTokensOf names text tokens after → IsNamed after 0
len-named names after text tokens first h = subst (λ ns. IsNamed ns 0) (sym h.named) (len-steps (start_of names text) h.last h.steps first)

-- ---- the names of the phrase

pub judged-names_from : (names after : List Bytes) (text : Bytes) (p : Tree) (tokens : List Token) → AreIdentifiers names → IsNamed names 0 →
    IsJudgedFrom names text (Ok p) → IsTokensOf names text tokens after → AllNames (IsNamed after) p
judged-names_from names after text p tokens identifiers first (expanded {tokens = others} {tree = tree} h a is) k =
    let same = (tokens_same names text others tokens h.after after h.read k).0 in
    let idents = subst (AllIdentifiers (IsNamed after)) (sym same) (identifiers_named.named names text tokens after k identifiers) in
    core_of-names tree p is (IsNamed after) (len-named names after text tokens first k) (names_are_of_tokens.named after tree others a.spelled idents)

pub judged-names : (text : Bytes) (p : Tree) (tokens : List Token) (names : List Bytes) → IsJudged text (Ok p) → IsTokensOf first_names text tokens names → AllNames (IsNamed names) p
judged-names text p tokens names h k = judged-names_from first_names names text p tokens identifiers_named.first len-first h k
