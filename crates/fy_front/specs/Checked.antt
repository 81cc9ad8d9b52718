-- Which texts are accepted, and why the others are refused: by the first stage that refuses, where the stages are the length, the tokens,
-- the syntax with its nesting, the expansion, the core limits, the typing with its limits, and the limits on the demand shapes of the
-- derivation that is in use.
use Rattle.std.specs.Prelude.{◌≡◌, ℕ, ◌+◌, ◌≤◌, List, [], length, Some, None, Ok, Err}
use Rattle.std.specs.declared.option.Option.{Option}
use Rattle.fy_base.specs.Outside.{Bytes}
use Rattle.fy_types.specs.Names.{first_names}
use Rattle.fy_types.specs.Types.{atom}
use Rattle.fy_types.specs.declared.types.Atom.TheVariants.{Comm}
use Rattle.fy_lexer.specs.declared.error.LexError.{LexError}
use Rattle.fy_lexer.specs.declared.error.LexError.TheVariants as lexing
use Rattle.fy_lexer.specs.declared.token.Token.{Token}
use Rattle.fy_lexer.specs.Tokens.{IsTokensOf}
use Rattle.fy_syntax.specs.Trees as written
use Rattle.fy_grammar.specs.Program.{IsTheProgram, IsRefusal}
use Rattle.fy_grammar.specs.declared.error.ParseError.{ParseError}
use Rattle.fy_grammar.specs.declared.error.ParseError.TheVariants as parsing
use Rattle.fy_phrase.specs.Reads.{reads}
use Rattle.fy_phrase.specs.Sizes.{depth}
use Rattle.fy_phrase.specs.Tree.{Tree}
use Rattle.fy_phrase.specs.declared.phrase.Phrase.{Phrase}
use Rattle.fy_phrase.specs.declared.shapes.ShapeTable.{ShapeTable}
use Rattle.fy_expand.specs.Expansion.{core_of}
use Rattle.fy_expand.specs.declared.error.ExpandError.{ExpandError}
use Rattle.fy_expand.specs.declared.error.ExpandError.TheVariants as expanding
use Rattle.fy_expand.specs.Judged.{IsJudged, IsJudgedFrom, length_refused, tokens_refused, syntax_refused, depth_refused, expansion_refused}
use Rattle.fy_expand.specs.Judged as judged
use Rattle.fy_derive.specs.Derivations.{PlainDerivation}
use Rattle.fy_derive.specs.Judging.{conclusion_of, refusal as refusal_of}
use Rattle.fy_derive.specs.Limits.{KeepsLimits}
use Rattle.fy_derive.specs.Printable.{IsPrintable}
use Rattle.fy_derive.specs.Reading.{plain_derivation}
use Rattle.fy_derive.specs.Typing.{HasType}
use Rattle.fy_derive.specs.Least.{visits, least_shape_table}
use Rattle.fy_derive.specs.Shapes.{PlainShape, shape_table}
use Rattle.fy_derive.specs.ShapeTables.{HasJustPairs}
use Rattle.fy_least.specs.Blame.{blame_of}
use Rattle.fy_least.specs.Limits.{KeepTypeLimits, PassTypeLimits}
use Rattle.fy_least.specs.Pairs.{HasAllPairs}
use Rattle.fy_least.specs.declared.error.FindError.{FindError}
use Rattle.fy_least.specs.declared.error.FindError.TheVariants as finding
use Rattle.pe_shapes.specs.Counts.{HasMany, HasAtMost}
use Rattle.pe_shapes.specs.Order.{AreInOrder}
use Rattle.pe_shapes.specs.Shaping.{most_shapes, most_pairs, IsShapeOf, IsPairOf, PassesWords, KeepsLimits as KeepsShapeLimits}
use Rattle.pe_shapes.specs.declared.error.ShapeError.{ShapeError}
use Rattle.pe_shapes.specs.declared.error.ShapeError.TheVariants as shaping
use Rattle.fy_front.specs.declared.error.FrontError.{FrontError}
use Rattle.fy_front.specs.declared.error.FrontError.TheVariants.{Refused, OutOfMemory}
use Rattle.fy_front.specs.declared.refusal.Refusal.{Refusal}
use Rattle.fy_front.specs.declared.refusal.Refusal.TheVariants as refusal
use Rattle.fy_front.specs.declared.texts.Core.{Core}
use Rattle.fy_front.specs.declared.texts.Program.{Program}

-- the refusal that each error is; none where memory was wanting
abbrev pub lex_refusal : LexError → Option Refusal
lex_refusal (lexing.BadByte place) = Some (refusal.Byte place)
lex_refusal (lexing.Unclosed place) = Some (refusal.Unclosed place)
lex_refusal (lexing.NumberTooLarge place) = Some (refusal.Number place)
lex_refusal lexing.TooManyTokens = Some refusal.Tokens
lex_refusal lexing.OutOfMemory = None

abbrev pub parse_refusal : ParseError → Option Refusal
parse_refusal (parsing.Syntax place) = Some (refusal.Syntax place)
parse_refusal (parsing.TooDeep place) = Some (refusal.Deep place)
parse_refusal parsing.OutOfMemory = None

abbrev pub expand_refusal : ExpandError → Option Refusal
expand_refusal (expanding.UnknownName place) = Some (refusal.Name place)
expand_refusal (expanding.UnknownType place) = Some (refusal.TypeName place)
expand_refusal (expanding.DoubleName place) = Some (refusal.Double place)
expand_refusal (expanding.LetrecName place) = Some (refusal.Letrec place)
expand_refusal (expanding.MergeRight place) = Some (refusal.Merge place)
expand_refusal (expanding.TooManyAlternatives place) = Some (refusal.Alternatives place)
expand_refusal (expanding.TypeTooLarge place) = Some (refusal.TypeSize place)
expand_refusal expanding.TooDeep = Some refusal.CoreDepth
expand_refusal expanding.TooLarge = Some refusal.CoreSize
expand_refusal expanding.TooManyVisits = Some refusal.Visits
expand_refusal expanding.OutOfMemory = None

abbrev pub find_refusal : FindError → Option Refusal
find_refusal (finding.NoType place) = Some (refusal.NoType place)
find_refusal finding.TypeTooLarge = Some refusal.LeastSize
find_refusal finding.OutOfMemory = None

abbrev pub shapes_refusal : ShapeError → Option Refusal
shapes_refusal shaping.TooManyShapes = Some refusal.Shapes
shapes_refusal shaping.TooManyEntries = Some refusal.Entries
shapes_refusal shaping.TablesTooLarge = Some refusal.Tables
shapes_refusal shaping.OutOfMemory = None

-- how a refusal of the judged text is told
abbrev pub told_as : judged.Refusal → Option Refusal
told_as length_refused = Some refusal.Length
told_as (tokens_refused error) = lex_refusal error
told_as (syntax_refused place) = Some (refusal.Syntax place)
told_as (depth_refused place) = Some (refusal.Deep place)
told_as (expansion_refused error) = expand_refusal error

-- the text's core phrase is a command, and its types keep their limits
pub record IsProgramText (text : Bytes) (p : Tree) : Type 0 where
  pub is_judged : IsJudged text (Ok p)
  pub within : KeepTypeLimits (visits 0 [] p)
  pub is_command : HasType [] p (atom Comm)

-- ---- demand shapes

-- a derivation that is in use: it shows that the phrase is a command, and keeps the limits on derivations, as the table of its demand shapes does those on shapes
pub record IsInUse (p : Tree) (d : PlainDerivation) : Type 0 where
  pub accepted : refusal_of (conclusion_of p d) ≡ None
  pub within : KeepsLimits d
  pub table : ShapeTable
  pub just : HasJustPairs table (shape_table p d)
  pub limits : KeepsShapeLimits p table

-- the text's core phrase is a command, as the derivation shows, which has each demand shape that some derivation of the phrase has
pub record IsShownBy (text : Bytes) (p : Tree) (d : PlainDerivation) : Type 0 where
  pub is_program : IsProgramText text p
  pub accepted : refusal_of (conclusion_of p d) ≡ None
  pub full : HasAllPairs [] p d

-- a shape of the least types, and a pair of a node and one of them
abbrev pub IsLeastShape : Tree → PlainShape → Type 0
IsLeastShape p s = (k : ℕ) × least_shape_table p k s

abbrev pub IsLeastPair : Tree → ℕ × PlainShape → Type 0
IsLeastPair p x = least_shape_table p x.0 x.1

-- ---- texts

-- the text's core phrase is a command by a derivation in use, which has each demand shape that some derivation of the phrase has
pub record IsAccepted (text : Bytes) : Type 0 where
  pub phrase : Tree
  pub is_program : IsProgramText text phrase
  pub derivation : PlainDerivation
  pub in_use : IsInUse phrase derivation
  pub full : HasAllPairs [] phrase derivation

-- the first stage that refuses the text, and why; typing refuses for its limits before the type. Where a derivation passes a limit on
-- demand shapes, so do the least types, which have the shapes of every derivation
pub data IsRefusedFor (text : Bytes) : Refusal → Type 0 where
  not_judged : {why : Refusal} (cause : judged.Refusal) → IsJudged text (Err cause) → told_as cause ≡ Some why → IsRefusedFor text why
  too_large : (p : Tree) → IsJudged text (Ok p) → PassTypeLimits (visits 0 [] p) → IsRefusedFor text refusal.LeastSize
  no_command : (p : Tree) → IsJudged text (Ok p) → KeepTypeLimits (visits 0 [] p) → ¬ HasType [] p (atom Comm) → IsRefusedFor text (refusal.NoType (blame_of [] p))
  many_shapes : (p : Tree) (d : PlainDerivation) → IsShownBy text p d → HasMany (most_shapes + 1) (IsShapeOf p d)
      → HasMany (most_shapes + 1) (IsLeastShape p) → IsRefusedFor text refusal.Shapes
  many_entries : (p : Tree) (d : PlainDerivation) → IsShownBy text p d → HasAtMost most_shapes (IsShapeOf p d) → HasMany (most_pairs + 1) (IsPairOf p d)
      → HasMany (most_pairs + 1) (IsLeastPair p) → IsRefusedFor text refusal.Entries
  large_tables : (p : Tree) (d : PlainDerivation) → IsShownBy text p d → (passes : PassesWords p d) → HasAtMost most_pairs (IsPairOf p d)
      → HasMany passes.shapes (IsLeastShape p) → IsRefusedFor text refusal.Tables

-- the names of the text: those that are there, and then its others in the order in which they first stand in it
pub record HasNamesFrom (there : List Bytes) (text : Bytes) (names : List Bytes) : Type 0 where
  pub tokens : List Token
  pub read : IsTokensOf there text tokens names

-- from the predefined names on
abbrev pub HasNames : Bytes → List Bytes → Type 0
HasNames = HasNamesFrom first_names

-- ---- what is made of a text

-- the tokens are a program that means the core phrase
pub record Means (tokens : List Token) (p : Tree) : Type 0 where
  pub tree : written.Tree
  pub program : IsTheProgram tokens tree
  pub core : core_of tree ≡ Ok p

-- why tokens mean no core phrase: they are no program of the allowed nesting, or expansion refuses it
pub data IsMeaningless (tokens : List Token) : Refusal → Type 0 where
  no_program : {why : Refusal} (cause : ParseError) → IsRefusal tokens cause → parse_refusal cause ≡ Some why → IsMeaningless tokens why
  no_core : {tree : written.Tree} {why : Refusal} (cause : ExpandError) → IsTheProgram tokens tree → core_of tree ≡ Err cause → expand_refusal cause ≡ Some why
      → IsMeaningless tokens why

-- the core phrase of a text whose names are numbered by the list, which becomes the other one
pub record IsPhraseOf (names : List Bytes) (text : Bytes) (after : List Bytes) (phrase : Phrase) : Type 0 where
  pub is_judged : IsJudgedFrom names text (Ok (reads phrase))
  pub shallow : depth (reads phrase) ≤ 1023
  pub named : HasNamesFrom names text after

-- the core phrase and the names of a text
pub record IsCore (text : Bytes) (core : Core) : Type 0 where
  pub is_judged : IsJudged text (Ok (reads core.phrase))
  pub shallow : depth (reads core.phrase) ≤ 1023
  pub named : HasNames text core.names
  pub few_names : length core.names ≤ 4000000000

-- a text whose names are numbered by the list has no core phrase, and so it is told
pub record IsUnjudgedFrom (names : List Bytes) (text : Bytes) (why : Refusal) : Type 0 where
  pub cause : judged.Refusal
  pub is_judged : IsJudgedFrom names text (Err cause)
  pub told : told_as cause ≡ Some why

abbrev pub IsUnjudged : Bytes → Refusal → Type 0
IsUnjudged = IsUnjudgedFrom first_names

-- the program of a text, with its names and a derivation that it is a command, which keeps the limits and can be written under these names, has each demand shape that some
-- derivation has, and whose demand shapes keep their limits
pub record IsOfText (text : Bytes) (program : Program) : Type 0 where
  pub is_program : IsProgramText text (reads program.phrase)
  pub shallow : depth (reads program.phrase) ≤ 1023
  pub named : HasNames text program.names
  pub derived : refusal_of (conclusion_of (reads program.phrase) (plain_derivation program.derivation)) ≡ None
  pub limits : KeepsLimits (plain_derivation program.derivation)
  pub printable : IsPrintable program.names (plain_derivation program.derivation)
  pub full : HasAllPairs [] (reads program.phrase) (plain_derivation program.derivation)
  pub table_is : HasJustPairs program.table (shape_table (reads program.phrase) (plain_derivation program.derivation))
  pub table_limits : KeepsShapeLimits (reads program.phrase) program.table
  pub table_ordered : AreInOrder program.table

-- the failure that a refusal is, or else want of memory
abbrev pub failure_of : Option Refusal → FrontError
failure_of (Some why) = Refused why
failure_of None = OutOfMemory

-- a refusal is one of these; where memory was wanting, nothing is said
abbrev pub IfRefused : (Refusal → Type 0) → FrontError → Type 0
IfRefused R (Refused why) = R why
IfRefused R OutOfMemory = Unit {0}
