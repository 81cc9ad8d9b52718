-- Texts that are checked.
use Rattle.std.proofs.Common.{◌≡◌, ℕ, ◌+◌, ◌<◌, ◌≤◌, List, [], length, IsErrAnd, refl, sym, ap, ◌∙◌, subst, arith, inl, inr}
use Rattle.std.specs.Prelude.{◌≢◌, ◌⊎◌, IfErr, Some, None, Ok, Err}
use Rattle.std.specs.declared.option.Option.{Option}
use Rattle.std.specs.declared.result.Result.{Result}
use Rattle.fy_base.specs.Outside.{Bytes}
use Rattle.fy_types.specs.Names.{first_names}
use Rattle.fy_lexer.specs.declared.error.LexError.{LexError}
use Rattle.fy_lexer.specs.declared.error.LexError.TheVariants as lexing
use Rattle.fy_lexer.specs.declared.token.Token.{Token}
use Rattle.fy_lexer.specs.Tokens.{IsTokensOf, AreWithin, IsFaultOf}
use Rattle.fy_syntax.specs.Trees as written
use Rattle.fy_grammar.specs.declared.error.ParseError.{ParseError}
use Rattle.fy_grammar.specs.declared.error.ParseError.TheVariants as parsing
use Rattle.fy_grammar.specs.Program.{IsTheProgram, IsRefusal}
use Rattle.fy_types.specs.Types.{atom}
use Rattle.fy_types.specs.declared.types.Atom.TheVariants.{Comm}
use Rattle.fy_phrase.specs.Tree.{Tree}
use Rattle.fy_phrase.specs.Sizes.{depth}
use Rattle.fy_phrase.specs.CoreLimits.{KeepsCoreLimits}
use Rattle.fy_expand.specs.declared.error.ExpandError.{ExpandError}
use Rattle.fy_expand.specs.declared.error.ExpandError.TheVariants as expanding
use Rattle.fy_expand.specs.Expansion.{core_of}
use Rattle.fy_expand.specs.Judged.{HasTokensFrom, IsAllowed, IsJudged, IsJudgedFrom, no_tokens, no_program, too_deep, expanded, length_refused, tokens_refused, syntax_refused, depth_refused, expansion_refused}
use Rattle.fy_expand.specs.Judged as judged
use Rattle.fy_phrase.specs.WellMade.{HasDepths}
use Rattle.fy_expand.proofs.DepthLemmas.{depth-below}
use Rattle.fy_derive.specs.Derivations.{PlainDerivation}
use Rattle.fy_derive.specs.Judging.{conclusion_of, refusal as refusal_of}
use Rattle.fy_derive.specs.Least.{visits}
use Rattle.fy_derive.specs.Typing.{HasType}
use Rattle.fy_derive.proofs.RunSafety.{accepted-typed}
use Rattle.fy_least.specs.Blame.{blame_of}
use Rattle.fy_least.specs.Finding.{IsFinding}
use Rattle.fy_least.specs.Limits.{KeepTypeLimits}
use Rattle.fy_least.proofs.ShapeLemmas.{shapes-least}
use Rattle.fy_least.specs.declared.error.FindError.{FindError}
use Rattle.fy_least.specs.declared.error.FindError.TheVariants as finding
use Rattle.fy_phrase.specs.Reads.{reads}
use Rattle.fy_derive.specs.Reading.{plain_derivation}
use Rattle.pe_shapes.specs.Counts.{HasMany, IsCount}
use Rattle.pe_shapes.specs.Shaping.{most_shapes, most_pairs, IsShapeOf, IsPairOf, IsShaping}
use Rattle.pe_shapes.specs.declared.error.ShapeError.{ShapeError}
use Rattle.pe_shapes.specs.declared.error.ShapeError.TheVariants as shaping
use Rattle.fy_front.specs.Checked.{lex_refusal, parse_refusal, expand_refusal, find_refusal, shapes_refusal, IsProgramText, IsInUse, IsShownBy, IsLeastShape, IsLeastPair, IsAccepted, IsRefusedFor, not_judged, too_large, no_command, many_shapes, many_entries, large_tables, failure_of, IfRefused, IsOfText, Means, IsMeaningless, IsPhraseOf, IsUnjudged, IsUnjudgedFrom}
use Rattle.fy_phrase.specs.declared.phrase.Phrase.{Phrase}
use Rattle.fy_front.specs.declared.texts.Program.{Program as ProgramOfText}
use Rattle.fy_front.specs.declared.error.FrontError.{FrontError}
use Rattle.fy_front.specs.declared.error.FrontError.TheVariants.{Refused, OutOfMemory}
use Rattle.fy_front.specs.declared.refusal.Refusal.{Refusal}
use Rattle.fy_front.specs.declared.refusal.Refusal.TheVariants as refusal

-- the exit of a `?`
pub handed : {T : Type 0} (result : Result T FrontError) (error : FrontError) (P : FrontError → Type 0) → IsErrAnd result (λ (e : FrontError). e ≡ error) → P error → IfErr result P
handed (Ok x) error P is shown = absurd is
handed (Err e) error P is shown = subst P (sym is) shown

-- what is a refusal is one of these
pub failed : (R : Refusal → Type 0) (why : Option Refusal) → ((w : Refusal) → why ≡ Some w → R w) → IfRefused R (failure_of why)
failed R (Some w) is = is w refl
failed R None is = tt

-- what is refused for one reason is refused for another that follows
pub refused_more : (R S : Refusal → Type 0) (error : FrontError) → ((why : Refusal) → R why → S why) → IfRefused R error → IfRefused S error
refused_more R S (Refused why) f is = f why is
refused_more R S OutOfMemory f is = tt

-- the predefined names are few
pub few_first : (names : List Bytes) → names ≡ first_names → length names ≤ 3000000000
few_first names e = let h : length first_names ≡ 13 = refl in omega (arith, h, ap length e)

-- and so are those of a text
pub few_names : (first names : List Bytes) (text : Bytes) → first ≡ first_names → length text ≤ 1048576 → length names ≤ length first + length text → length names ≤ 4000000000
few_names first names text e short few = let h : length first_names ≡ 13 = refl in omega (arith, h, ap length e)

pub has_tokens : (names after : List Bytes) (text : Bytes) (tokens : List Token) → length text ≤ 1048576 → IsTokensOf names text tokens after → AreWithin tokens → HasTokensFrom names text tokens
has_tokens names after text tokens short read within = record { short = short; after = after; read = read; within = within }

is_allowed : (tokens : List Token) (tree : written.Tree) → IsTheProgram tokens tree → IsAllowed tokens tree
is_allowed tokens tree h = record { spelled = h.spelled; nests = h.within }

-- ---- refusals

pub lex_told : (error : LexError) (w : Refusal) → lex_refusal error ≡ Some w → error ≢ lexing.OutOfMemory
lex_told (lexing.BadByte p) w e same = cc
lex_told (lexing.Unclosed p) w e same = cc
lex_told (lexing.NumberTooLarge p) w e same = cc
lex_told lexing.TooManyTokens w e same = cc
lex_told lexing.OutOfMemory w e same = cc

pub not_lexed : (names : List Bytes) (text : Bytes) (error : LexError) → length text ≤ 1048576 → IsFaultOf names text error → IfRefused (IsUnjudgedFrom names text) (failure_of (lex_refusal error))
not_lexed names text error short fault =
    failed (IsUnjudgedFrom names text) (lex_refusal error) (λ w told. record { cause = tokens_refused error; is_judged = no_tokens short fault (lex_told error w told); told = told })

pub not_parsed : (tokens : List Token) (error : ParseError) → IsRefusal tokens error → IfRefused (IsMeaningless tokens) (failure_of (parse_refusal error))
not_parsed tokens error is = failed (IsMeaningless tokens) (parse_refusal error) (λ w told. IsMeaningless.no_program error is told)

expand_told : (error : ExpandError) (w : Refusal) → expand_refusal error ≡ Some w → error ≢ expanding.OutOfMemory
expand_told (expanding.UnknownName p) w e same = cc
expand_told (expanding.UnknownType p) w e same = cc
expand_told (expanding.DoubleName p) w e same = cc
expand_told (expanding.LetrecName p) w e same = cc
expand_told (expanding.MergeRight p) w e same = cc
expand_told (expanding.TooManyAlternatives p) w e same = cc
expand_told (expanding.TypeTooLarge p) w e same = cc
expand_told expanding.TooDeep w e same = cc
expand_told expanding.TooLarge w e same = cc
expand_told expanding.TooManyVisits w e same = cc
expand_told expanding.OutOfMemory w e same = cc

pub not_expanded : (tokens : List Token) (tree : written.Tree) (error : ExpandError) → IsTheProgram tokens tree → (error ≡ expanding.OutOfMemory) ⊎ (core_of tree ≡ Err error)
    → IfRefused (IsMeaningless tokens) (failure_of (expand_refusal error))
not_expanded tokens tree error program refused =
    failed (IsMeaningless tokens) (expand_refusal error)
    (λ w told. elim refused [
      | inl memory ↦ absurd (expand_told error w told memory)
      | inr is ↦ IsMeaningless.no_core error program is told
    ])

-- a text of such tokens has no core phrase
unparsed : (names : List Bytes) (text : Bytes) (tokens : List Token) (error : ParseError) (why : Refusal) → HasTokensFrom names text tokens → IsRefusal tokens error
    → parse_refusal error ≡ Some why → IsUnjudgedFrom names text why
unparsed names text tokens (parsing.Syntax place) why has is told = record { cause = syntax_refused place; is_judged = no_program has is; told = told }
unparsed names text tokens (parsing.TooDeep place) why has is told = record { cause = depth_refused place; is_judged = too_deep has is; told = told }
unparsed names text tokens parsing.OutOfMemory why has is told = absurd cc

unmeant : (names : List Bytes) (text : Bytes) (tokens : List Token) (why : Refusal) → HasTokensFrom names text tokens → IsMeaningless tokens why → IsUnjudgedFrom names text why
unmeant names text tokens why has (IsMeaningless.no_program error is told) = unparsed names text tokens error why has is told
unmeant names text tokens why has (IsMeaningless.no_core {tree = tree} error program is told) =
    record { cause = expansion_refused error; is_judged = judged.not_expanded has (is_allowed tokens tree program) is; told = told }

pub not_meant : (names : List Bytes) (text : Bytes) (tokens : List Token) (error : FrontError) → HasTokensFrom names text tokens → IfRefused (IsMeaningless tokens) error
    → IfRefused (IsUnjudgedFrom names text) error
not_meant names text tokens error has is = refused_more (IsMeaningless tokens) (IsUnjudgedFrom names text) error (λ why f. unmeant names text tokens why has f) is

-- two causes are one, and so is what is told
pub told_one : {E : Type 0} (tells : E → Option Refusal) (cause other : E) (why told : Refusal) → cause ≡ other → tells cause ≡ Some why → tells other ≡ Some told → why ≡ told
told_one tells cause other why told same is is' = let e : Some why ≡ Some told = sym is ∙ ap tells same ∙ is' in cc

-- ---- core phrases, and length

-- binders are less deep than the core limit on nesting
pub depth_within : (p : Tree) → HasDepths p → KeepsCoreLimits p → depth p ≤ 1023
depth_within p depths within = let h = within.shallow in let k = depth-below 0 p depths in omega arith

pub judged_so : (names : List Bytes) (text : Bytes) (tokens : List Token) (phrase : Tree) → HasTokensFrom names text tokens → Means tokens phrase → IsJudgedFrom names text (Ok phrase)
judged_so names text tokens phrase has means = expanded has (is_allowed tokens means.tree means.program) means.core

-- a list that is that of the predefined names
pub phrase_first : (names after : List Bytes) (text : Bytes) (phrase : Phrase) → names ≡ first_names → IsPhraseOf names text after phrase → IsPhraseOf first_names text after phrase
phrase_first names after text phrase e is = subst (λ n. IsPhraseOf n text after phrase) e is

pub unjudged_first : (names : List Bytes) (text : Bytes) (error : FrontError) → names ≡ first_names → IfRefused (IsUnjudgedFrom names text) error → IfRefused (IsUnjudged text) error
unjudged_first names text error e is = subst (λ n. IfRefused (IsUnjudgedFrom n text) error) e is

pub unjudged_long : {names : List Bytes} (text : Bytes) → 1048576 < length text → IsUnjudgedFrom names text refusal.Length
unjudged_long text longer = record { cause = length_refused; is_judged = judged.too_long longer; told = refl }

pub refused_unjudged : (text : Bytes) (why : Refusal) → IsUnjudged text why → IsRefusedFor text why
refused_unjudged text why is = not_judged is.cause is.is_judged is.told

-- so is one that has no core phrase for that, or memory was wanting
pub without_core : (text : Bytes) (error : FrontError) → IfRefused (IsUnjudged text) error → IfRefused (IsRefusedFor text) error
without_core text error is = refused_more (IsUnjudged text) (IsRefusedFor text) error (λ why f. refused_unjudged text why f) is

pub long_text : (text : Bytes) → 1048576 < length text → IsRefusedFor text refusal.Length
long_text text longer = refused_unjudged text refusal.Length (unjudged_long text longer)

-- ---- typing

-- what finding a derivation answers of a text with this core phrase
pub not_found : (text : Bytes) (p : Tree) (error : FindError) → IsJudged text (Ok p) → IsFinding p (Err error) → IfRefused (IsRefusedFor text) (failure_of (find_refusal error))
not_found text p (finding.NoType place) is (within, none, blamed) =
    let same : refusal.NoType (blame_of [] p) ≡ refusal.NoType place = ap refusal.NoType (sym blamed) in
    subst (λ r. IsRefusedFor text r) same (no_command_in p is within none)
  where
    no_command_in : (p : Tree) → IsJudged text (Ok p) → KeepTypeLimits (visits 0 [] p) → ¬ HasType [] p (atom Comm) → IsRefusedFor text (refusal.NoType (blame_of [] p))
    no_command_in p is within none = no_command p is within none
not_found text p finding.TypeTooLarge is passes = too_large p is passes
not_found text p finding.OutOfMemory is memory = tt

-- a phrase that a derivation concludes `comm` for is a command
pub is_program : (text : Bytes) (p : Tree) (d : PlainDerivation) → IsJudged text (Ok p) → KeepTypeLimits (visits 0 [] p) → refusal_of (conclusion_of p d) ≡ None → IsProgramText text p
is_program text p d is within accepted = record { is_judged = is; within = within; is_command = accepted-typed p d accepted }

-- ---- demand shapes

-- what many have, many have that it implies
pub many_more : {X : Type 0} (n : ℕ) (F G : X → Type 0) → ((x : X) → F x → G x) → HasMany n F → HasMany n G
many_more n F G f many = record { members = many.members; number = many.number; distinct = many.distinct; each = λ x here. f x (many.each x here) }

counted_more : {X : Type 0} (n : ℕ) (F G : X → Type 0) → ((x : X) → F x → G x) → IsCount F n → HasMany n G
counted_more n F G f count = record { members = count.members; number = count.number; distinct = count.distinct; each = λ x here. f x (count.each x here) }

-- what finding the demand shapes of a derivation answers of a text with this core phrase
pub not_shaped : (text : Bytes) (p : Tree) (d : PlainDerivation) (error : ShapeError) → IsShownBy text p d → IsShaping (Err error) p d → IfRefused (IsRefusedFor text) (failure_of (shapes_refusal error))
not_shaped text p d shaping.TooManyShapes is many = many_shapes p d is many (many_more (most_shapes + 1) (IsShapeOf p d) (IsLeastShape p) (λ s has. (has.0, shapes-least p d has.0 s has.1)) many)
not_shaped text p d shaping.TooManyEntries is (few, many) = many_entries p d is few many (many_more (most_pairs + 1) (IsPairOf p d) (IsLeastPair p) (λ x has. shapes-least p d x.0 x.1 has) many)
not_shaped text p d shaping.TablesTooLarge is (passes, few) =
    large_tables p d is passes few (counted_more passes.shapes (IsShapeOf p d) (IsLeastShape p) (λ s has. (has.0, shapes-least p d has.0 s has.1)) passes.counted)
not_shaped text p d shaping.OutOfMemory is memory = tt

-- the derivation of a program is in use
abbrev pub in_use : {text : Bytes} {program : ProgramOfText} → IsOfText text program → IsInUse (reads program.phrase) (plain_derivation program.derivation)
in_use {text} {program} is = record { accepted = is.derived; within = is.limits; table = program.table; just = is.table_is; limits = is.table_limits }

pub is_accepted : {text : Bytes} {program : ProgramOfText} → IsOfText text program → IsAccepted text
is_accepted {text} {program} is = record { phrase = reads program.phrase; is_program = is.is_program; derivation = plain_derivation program.derivation; in_use = in_use is; full = is.full }
