-- A text is judged one way.
use Rattle.std.proofs.Common.{◌≡◌, ◌≢◌, ◌<◌, ◌≤◌, List, refl, sym, ap, subst, ◌∙◌, arith, length}
use Rattle.std.specs.Prelude.{Result, Ok, Err}
use Rattle.fy_base.specs.Outside.{Bytes}
use Rattle.fy_base.specs.declared.data.Place.{Place}
use Rattle.fy_lexer.specs.declared.error.LexError.{LexError}
use Rattle.fy_lexer.specs.declared.error.LexError.TheVariants.{OutOfMemory}
use Rattle.fy_lexer.specs.declared.token.Token.{Token}
use Rattle.fy_lexer.specs.Tokens.{IsFaultOf}
use Rattle.fy_lexer.proofs.UniqueLemmas.{tokens_same, faults_same, tokens_or_fault}
use Rattle.fy_syntax.specs.Trees as written
use Rattle.fy_syntax.proofs.Unique.{unambiguous}
use Rattle.fy_places.specs.Begins.{IsFirstBad, IsSyntaxFault, IsDepthFault}
use Rattle.fy_places.proofs.OnePlace.{syntax_unique, depth_unique, syntax_or_depth, program_not_bad}
use Rattle.fy_phrase.specs.Tree.{Tree}
use Rattle.fy_expand.specs.declared.error.ExpandError.{ExpandError}
use Rattle.fy_expand.specs.Expansion.{core_of}
use Rattle.fy_expand.specs.Judged.{Refusal, length_refused, tokens_refused, syntax_refused, depth_refused, expansion_refused, HasTokensFrom, IsAllowed, IsJudgedFrom, AreJudgedOneWay, too_long, no_tokens, no_program, too_deep, not_expanded, expanded}

-- the text has a program of this core
record HasCore (names : List Bytes) (text : Bytes) (result : Result Tree ExpandError) : Type 0 where
  tokens : List Token
  tree : written.Tree
  read : HasTokensFrom names text tokens
  allowed : IsAllowed tokens tree
  is : core_of tree ≡ result

-- the text has tokens, one of which is the first bad one
record HasBad (names : List Bytes) (text : Bytes) : Type 0 where
  tokens : List Token
  before : List Token
  bad : Token
  read : HasTokensFrom names text tokens
  first : IsFirstBad 256 tokens before bad

-- the text has tokens with such a fault at the place
record HasSyntaxFault (names : List Bytes) (text : Bytes) (at : Place) : Type 0 where
  tokens : List Token
  read : HasTokensFrom names text tokens
  fault : IsSyntaxFault 256 tokens at

record HasDepthFault (names : List Bytes) (text : Bytes) (at : Place) : Type 0 where
  tokens : List Token
  read : HasTokensFrom names text tokens
  fault : IsDepthFault 256 tokens at

syntax_bad : {names : List Bytes} (text : Bytes) (at : Place) → HasSyntaxFault names text at → HasBad names text
syntax_bad text at h = record { tokens = h.tokens; before = h.fault.before; bad = h.fault.bad; read = h.read; first = h.fault.first }

depth_bad : {names : List Bytes} (text : Bytes) (at : Place) → HasDepthFault names text at → HasBad names text
depth_bad text at h = record { tokens = h.tokens; before = h.fault.before; bad = h.fault.bad; read = h.read; first = h.fault.first }

record HasFault (names : List Bytes) (text : Bytes) (error : LexError) : Type 0 where
  short : length text ≤ 1048576
  fault : IsFaultOf names text error
  told : error ≢ OutOfMemory

abbrev Meaning : List Bytes → Bytes → Refusal → Type 0
Meaning names text length_refused = 1048576 < length text
Meaning names text (tokens_refused e) = HasFault names text e
Meaning names text (syntax_refused at) = HasSyntaxFault names text at
Meaning names text (depth_refused at) = HasDepthFault names text at
Meaning names text (expansion_refused e) = HasCore names text (Err e)

core : {names : List Bytes} (text : Bytes) (p : Tree) → IsJudgedFrom names text (Ok p) → HasCore names text (Ok p)
core text p (expanded h a e) = record { tokens = _; tree = _; read = h; allowed = a; is = e }

meaning : {names : List Bytes} (text : Bytes) (why : Refusal) → IsJudgedFrom names text (Err why) → Meaning names text why
meaning text why (too_long l) = l
meaning text why (no_tokens l f m) = record { short = l; fault = f; told = m }
meaning text why (no_program h f) = record { tokens = _; read = h; fault = f }
meaning text why (too_deep h f) = record { tokens = _; read = h; fault = f }
meaning text why (not_expanded h a e) = record { tokens = _; tree = _; read = h; allowed = a; is = e }

same_tokens : {names : List Bytes} (text : Bytes) (ts us : List Token) → HasTokensFrom names text ts → HasTokensFrom names text us → ts ≡ us
same_tokens {names = names} text ts us h k = (tokens_same names text ts us h.after k.after h.read k.read).0

same_result : {names : List Bytes} (text : Bytes) (a b : Result Tree ExpandError) → HasCore names text a → HasCore names text b → a ≡ b
same_result text a b h k =
    let e = same_tokens text h.tokens k.tokens h.read k.read in
    let t = unambiguous.of_programs k.tokens h.tree k.tree (subst (λ l. IsAllowed l h.tree) e h.allowed).spelled k.allowed.spelled in
    sym h.is ∙ ap core_of t ∙ k.is

long_core : {names : List Bytes} (text : Bytes) (a : Result Tree ExpandError) → 1048576 < length text → HasCore names text a → ⊥
long_core text a l h = let s = h.read.short in omega (arith, l, s)

long_bad : {names : List Bytes} (text : Bytes) → 1048576 < length text → HasBad names text → ⊥
long_bad text l h = let s = h.read.short in omega (arith, l, s)

long_fault : {names : List Bytes} (text : Bytes) (e : LexError) → 1048576 < length text → HasFault names text e → ⊥
long_fault text e l h = let s = h.short in omega (arith, l, s)

fault_read : {names : List Bytes} (text : Bytes) (e : LexError) (ts : List Token) → HasFault names text e → HasTokensFrom names text ts → ⊥
fault_read {names = names} text e ts f h = tokens_or_fault names text ts h.after e f.told h.read h.within f.fault

core_bad : {names : List Bytes} (text : Bytes) (a : Result Tree ExpandError) → HasCore names text a → HasBad names text → ⊥
core_bad text a h k =
    let allowed = subst (λ l. IsAllowed l h.tree) (same_tokens text h.tokens k.tokens h.read k.read) h.allowed in
    program_not_bad 256 k.tokens k.before k.bad h.tree allowed.spelled allowed.nests k.first

one_syntax_fault : {names : List Bytes} (text : Bytes) (at to : Place) → HasSyntaxFault names text at → HasSyntaxFault names text to → at ≡ to
one_syntax_fault text at to h k = syntax_unique 256 k.tokens at to (subst (λ l. IsSyntaxFault 256 l at) (same_tokens text h.tokens k.tokens h.read k.read) h.fault) k.fault

one_depth_fault : {names : List Bytes} (text : Bytes) (at to : Place) → HasDepthFault names text at → HasDepthFault names text to → at ≡ to
one_depth_fault text at to h k = depth_unique 256 k.tokens at to (subst (λ l. IsDepthFault 256 l at) (same_tokens text h.tokens k.tokens h.read k.read) h.fault) k.fault

syntax_depth : {names : List Bytes} (text : Bytes) (at to : Place) → HasSyntaxFault names text at → HasDepthFault names text to → ⊥
syntax_depth text at to h k = syntax_or_depth 256 k.tokens at to (subst (λ l. IsSyntaxFault 256 l at) (same_tokens text h.tokens k.tokens h.read k.read) h.fault) k.fault

same_phrase : (x : Result Tree ExpandError) (a b : Tree) → x ≡ Ok a → x ≡ Ok b → a ≡ b
same_phrase x a b e f = cc

same_error : (x : Result Tree ExpandError) (a b : ExpandError) → x ≡ Err a → x ≡ Err b → a ≡ b
same_error x a b e f = cc

pub one_phrase : {names : List Bytes} (text : Bytes) (p q : Tree) → IsJudgedFrom names text (Ok p) → IsJudgedFrom names text (Ok q) → p ≡ q
one_phrase text p q h k = same_phrase (Ok p) p q refl (same_result text (Ok p) (Ok q) (core text p h) (core text q k))

core_or : {names : List Bytes} (text : Bytes) (p : Tree) (why : Refusal) → HasCore names text (Ok p) → Meaning names text why → ⊥
core_or text p length_refused h k = long_core text (Ok p) k h
core_or text p (tokens_refused e) h k = fault_read text e h.tokens k h.read
core_or text p (syntax_refused at) h k = core_bad text (Ok p) h (syntax_bad text at k)
core_or text p (depth_refused at) h k = core_bad text (Ok p) h (depth_bad text at k)
core_or text p (expansion_refused e) h k = let s = same_result text (Ok p) (Err e) h k in cc

pub phrase_or_refusal : {names : List Bytes} (text : Bytes) (p : Tree) (why : Refusal) → IsJudgedFrom names text (Ok p) → IsJudgedFrom names text (Err why) → ⊥
phrase_or_refusal {names = names} text p why h k = core_or {names = names} text p why (core text p h) (meaning text why k)

one_refusal_of : (names : List Bytes) (text : Bytes) (why other : Refusal) → Meaning names text why → Meaning names text other → why ≡ other
one_refusal_of names text length_refused length_refused h k = refl
one_refusal_of names text length_refused (tokens_refused f) h k = absurd (long_fault text f h k)
one_refusal_of names text length_refused (syntax_refused to) h k = absurd (long_bad text h (syntax_bad text to k))
one_refusal_of names text length_refused (depth_refused to) h k = absurd (long_bad text h (depth_bad text to k))
one_refusal_of names text length_refused (expansion_refused f) h k = absurd (long_core text (Err f) h k)
one_refusal_of names text (tokens_refused e) length_refused h k = absurd (long_fault text e k h)
one_refusal_of names text (tokens_refused e) (tokens_refused f) h k = ap tokens_refused (faults_same names text e f h.told k.told h.fault k.fault)
one_refusal_of names text (tokens_refused e) (syntax_refused to) h k = absurd (fault_read text e k.tokens h k.read)
one_refusal_of names text (tokens_refused e) (depth_refused to) h k = absurd (fault_read text e k.tokens h k.read)
one_refusal_of names text (tokens_refused e) (expansion_refused f) h k = absurd (fault_read text e k.tokens h k.read)
one_refusal_of names text (syntax_refused at) length_refused h k = absurd (long_bad text k (syntax_bad text at h))
one_refusal_of names text (syntax_refused at) (tokens_refused f) h k = absurd (fault_read text f h.tokens k h.read)
one_refusal_of names text (syntax_refused at) (syntax_refused to) h k = ap syntax_refused (one_syntax_fault text at to h k)
one_refusal_of names text (syntax_refused at) (depth_refused to) h k = absurd (syntax_depth text at to h k)
one_refusal_of names text (syntax_refused at) (expansion_refused f) h k = absurd (core_bad text (Err f) k (syntax_bad text at h))
one_refusal_of names text (depth_refused at) length_refused h k = absurd (long_bad text k (depth_bad text at h))
one_refusal_of names text (depth_refused at) (tokens_refused f) h k = absurd (fault_read text f h.tokens k h.read)
one_refusal_of names text (depth_refused at) (syntax_refused to) h k = absurd (syntax_depth text to at k h)
one_refusal_of names text (depth_refused at) (depth_refused to) h k = ap depth_refused (one_depth_fault text at to h k)
one_refusal_of names text (depth_refused at) (expansion_refused f) h k = absurd (core_bad text (Err f) k (depth_bad text at h))
one_refusal_of names text (expansion_refused e) length_refused h k = absurd (long_core text (Err e) k h)
one_refusal_of names text (expansion_refused e) (tokens_refused f) h k = absurd (fault_read text f h.tokens k h.read)
one_refusal_of names text (expansion_refused e) (syntax_refused to) h k = absurd (core_bad text (Err e) h (syntax_bad text to k))
one_refusal_of names text (expansion_refused e) (depth_refused to) h k = absurd (core_bad text (Err e) h (depth_bad text to k))
one_refusal_of names text (expansion_refused e) (expansion_refused f) h k = ap expansion_refused (same_error (Err e) e f refl (same_result text (Err e) (Err f) h k))

pub one_refusal : {names : List Bytes} (text : Bytes) (why other : Refusal) → IsJudgedFrom names text (Err why) → IsJudgedFrom names text (Err other) → why ≡ other
one_refusal {names = names} text why other h k = one_refusal_of names text why other (meaning text why h) (meaning text other k)

pub judged_one_way : (names : List Bytes) → AreJudgedOneWay names
judged_one_way names = record {
  phrase = λ text p q h k. one_phrase text p q h k;
  apart = λ text p why h k. phrase_or_refusal text p why h k;
  refusal = λ text why other h k. one_refusal text why other h k;
}
