-- From what was told of a text, to what is due for `why`.
use Rattle.std.proofs.Common.{◌≡◌, ◌≢◌, ◌∙◌, ℕ, Bool, true, false, List, [], ◌∷◌, sym, ap, refl, subst, Option, Some, None, Ok, Err}
use Rattle.std.specs.Prelude.{if◌then◌else◌}
use Rattle.std.specs.declared.result.Result.{Result}
use Rattle.fy_base.specs.Outside.{Bytes, FileCalls}
use Rattle.fy_base.specs.declared.data.Place.{Place}
use Rattle.fy_types.specs.declared.types.Atom.TheVariants.{Comm}
use Rattle.fy_types.specs.Types.{atom}
use Rattle.fy_types.specs.Paths.{type_of_paths}
use Rattle.fy_types.proofs.Central.{paths-of_types, subtype-iff}
use Rattle.fy_phrase.specs.Tree.{Tree}
use Rattle.fy_expand.specs.Judged.{IsJudged, length_refused, tokens_refused, syntax_refused, depth_refused, expansion_refused}
use Rattle.fy_expand.specs.Judged as judged
use Rattle.fy_expand.proofs.JudgedLemmas.{one_phrase, phrase_or_refusal}
use Rattle.fy_derive.specs.Least.{has, least_type}
use Rattle.fy_derive.specs.Typing.{HasType, by_subsumption}
use Rattle.fy_least.proofs.BelowLemmas.{has-below}
use Rattle.fy_least.proofs.PrincipalLemmas.{least-HasType}
use Rattle.fy_causes.specs.Blamed.{blamed}
use Rattle.fy_causes.specs.Hollow.{Told, told_of, why_of}
use Rattle.fy_show.specs.Entries.{Known}
use Rattle.fy_told.specs.ReasonTexts.{source_names}
use Rattle.fy_why.specs.Texts.{why_text}
use Rattle.fy_words.specs.Order.{why, width_wanted}
use Rattle.fy_world.specs.World.{Contents, Counts}
use Rattle.fy_world.specs.Did.{Did}
use Rattle.fy_world.specs.declared.note.Note.TheVariants as note
use Rattle.fy_world.specs.declared.world.Stop.{Stop}
use Rattle.fy_world.specs.declared.world.Stop.TheVariants.{Memory}
use Rattle.fy_front.specs.Checked.{IsAccepted, IsRefusedFor, not_judged, too_large, no_command, many_shapes, many_entries, large_tables, IsUnjudged, lex_refusal, expand_refusal, told_as}
use Rattle.fy_front.specs.declared.refusal.Refusal.{Refusal}
use Rattle.fy_front.specs.declared.refusal.Refusal.TheVariants as refusal
use Rattle.fy_lexer.specs.declared.error.LexError.{LexError}
use Rattle.fy_lexer.specs.declared.error.LexError.TheVariants as lexing
use Rattle.fy_expand.specs.declared.error.ExpandError.{ExpandError}
use Rattle.fy_expand.specs.declared.error.ExpandError.TheVariants as expanding
use Rattle.fy_tool.specs.Given.{IsToldWhy}
use Rattle.fy_tool.specs.Due.{accepted as accepted_due, explains, lined, tells_lines, untold}
use Rattle.fy_tool.specs.Answers.{Serves}
use Rattle.fy_tool.specs.Working.{ExplainsText, TellsWhy, untyped_at}
use Rattle.fy_tool.specs.declared.why.Telling.TheVariants.{Refused, Untyped}
use Rattle.fy_tool.proofs.Serving.{After, done_quietly, only}

-- ---- why there is a cause

-- what has `comm` among its least type is a command
least_command : (p : Tree) → has (least_type [] p) Comm ≡ true → HasType [] p (atom Comm)
least_command p e =
    by_subsumption (least-HasType p [])
    ((subtype-iff (type_of_paths (least_type [] p)) (atom Comm)).1 (rw (paths-of_types (least_type [] p)) (has-below (least_type [] p) Comm e)))

no_comm : (p : Tree) → ¬ HasType [] p (atom Comm) → has (least_type [] p) Comm ≡ false
no_comm p none = of (has (least_type [] p) Comm) refl
  where
    of : (b : Bool) → has (least_type [] p) Comm ≡ b → has (least_type [] p) Comm ≡ false
    of false e = e
    of true e = absurd (none (least_command p e))

-- the phrase of a text that has no type isn't a command
untyped : (text : Bytes) (reason : Refusal) (place : Place) (p : Tree) → IsRefusedFor text reason → reason ≡ refusal.NoType place → IsJudged text (Ok p) → has (least_type [] p) Comm ≡ false
untyped text reason place p (not_judged cause unread told) e is = absurd (phrase_or_refusal text p cause is unread)
untyped text reason place p (too_large q large passes) e is = absurd cc
untyped text reason place p (no_command q typed keep none) e is =
    let same = one_phrase text p q is typed in subst (λ (x : Tree). has (least_type [] x) Comm ≡ false) (sym same) (no_comm q none)
untyped text reason place p (many_shapes q d shown many least) e is = absurd cc
untyped text reason place p (many_entries q d shown few many least) e is = absurd cc
untyped text reason place p (large_tables q d shown passes few least) e is = absurd cc

-- so why it isn't is told
why_some : (p : Tree) → has (least_type [] p) Comm ≡ false → why_of p ≡ Some (told_of (blamed [] p))
why_some p none = ap (λ (b : Bool). if b then None else Some (told_of (blamed [] p))) none

same_place : (a b : Place) → Some a ≡ Some b → a ≡ b
same_place a b e = cc

untyped_is : (w : Refusal) (place : Place) → untyped_at w ≡ Some place → w ≡ refusal.NoType place
untyped_is (refusal.NoType here) place e = ap refusal.NoType (same_place here place e)
untyped_is refusal.Length place e = absurd cc
untyped_is (refusal.Byte here) place e = absurd cc
untyped_is (refusal.Unclosed here) place e = absurd cc
untyped_is (refusal.Number here) place e = absurd cc
untyped_is refusal.Tokens place e = absurd cc
untyped_is (refusal.Syntax here) place e = absurd cc
untyped_is (refusal.Deep here) place e = absurd cc
untyped_is (refusal.Name here) place e = absurd cc
untyped_is (refusal.TypeName here) place e = absurd cc
untyped_is (refusal.Double here) place e = absurd cc
untyped_is (refusal.Letrec here) place e = absurd cc
untyped_is (refusal.Merge here) place e = absurd cc
untyped_is (refusal.Alternatives here) place e = absurd cc
untyped_is (refusal.TypeSize here) place e = absurd cc
untyped_is refusal.CoreDepth place e = absurd cc
untyped_is refusal.CoreSize place e = absurd cc
untyped_is refusal.Visits place e = absurd cc
untyped_is refusal.LeastSize place e = absurd cc
untyped_is refusal.Shapes place e = absurd cc
untyped_is refusal.Entries place e = absurd cc
untyped_is refusal.Tables place e = absurd cc
untyped_is (refusal.Header here) place e = absurd cc

-- a note of another stage has no lines below it
silent : (w : Refusal) → untyped_at w ≡ None → tells_lines (why [] None) (note.Refused w) ≡ false
silent (refusal.NoType here) e = absurd cc
silent refusal.Length e = refl
silent (refusal.Byte here) e = refl
silent (refusal.Unclosed here) e = refl
silent (refusal.Number here) e = refl
silent refusal.Tokens e = refl
silent (refusal.Syntax here) e = refl
silent (refusal.Deep here) e = refl
silent (refusal.Name here) e = refl
silent (refusal.TypeName here) e = refl
silent (refusal.Double here) e = refl
silent (refusal.Letrec here) e = refl
silent (refusal.Merge here) e = refl
silent (refusal.Alternatives here) e = refl
silent (refusal.TypeSize here) e = refl
silent refusal.CoreDepth e = refl
silent refusal.CoreSize e = refl
silent refusal.Visits e = refl
silent refusal.LeastSize e = refl
silent refusal.Shapes e = refl
silent refusal.Entries e = refl
silent refusal.Tables e = refl
silent (refusal.Header here) e = refl

told_else : (w other : Refusal) → Some w ≡ Some other → untyped_at w ≡ None → untyped_at other ≡ None
told_else w other e none = subst (λ (r : Refusal). untyped_at r ≡ None) (same_refusal w other e) none
  where
    same_refusal : (a b : Refusal) → Some a ≡ Some b → a ≡ b
    same_refusal a b e = cc

lexed_else : (error : LexError) (other : Refusal) → lex_refusal error ≡ Some other → untyped_at other ≡ None
lexed_else (lexing.BadByte place) other e = told_else (refusal.Byte place) other e refl
lexed_else (lexing.Unclosed place) other e = told_else (refusal.Unclosed place) other e refl
lexed_else (lexing.NumberTooLarge place) other e = told_else (refusal.Number place) other e refl
lexed_else lexing.TooManyTokens other e = told_else refusal.Tokens other e refl
lexed_else lexing.OutOfMemory other e = absurd cc

expanded_else : (error : ExpandError) (other : Refusal) → expand_refusal error ≡ Some other → untyped_at other ≡ None
expanded_else (expanding.UnknownName place) other e = told_else (refusal.Name place) other e refl
expanded_else (expanding.UnknownType place) other e = told_else (refusal.TypeName place) other e refl
expanded_else (expanding.DoubleName place) other e = told_else (refusal.Double place) other e refl
expanded_else (expanding.LetrecName place) other e = told_else (refusal.Letrec place) other e refl
expanded_else (expanding.MergeRight place) other e = told_else (refusal.Merge place) other e refl
expanded_else (expanding.TooManyAlternatives place) other e = told_else (refusal.Alternatives place) other e refl
expanded_else (expanding.TypeTooLarge place) other e = told_else (refusal.TypeSize place) other e refl
expanded_else expanding.TooDeep other e = told_else refusal.CoreDepth other e refl
expanded_else expanding.TooLarge other e = told_else refusal.CoreSize other e refl
expanded_else expanding.TooManyVisits other e = told_else refusal.Visits other e refl
expanded_else expanding.OutOfMemory other e = absurd cc

judged_else : (cause : judged.Refusal) (other : Refusal) → told_as cause ≡ Some other → untyped_at other ≡ None
judged_else length_refused other e = told_else refusal.Length other e refl
judged_else (tokens_refused error) other e = lexed_else error other e
judged_else (syntax_refused place) other e = told_else (refusal.Syntax place) other e refl
judged_else (depth_refused place) other e = told_else (refusal.Deep place) other e refl
judged_else (expansion_refused error) other e = expanded_else error other e

pub told_why : (text : Bytes) (reason : Refusal) (place : Place) (width : ℕ) (lines : Bytes) → IsRefusedFor text reason → untyped_at reason ≡ Some place → TellsWhy text width lines → ExplainsText text width (Untyped place lines)
told_why text reason place width lines refused at is =
    let e = untyped_is reason place at in
    let some = why_some is.p (untyped text reason place is.p refused e is.is_judged) in (
      subst (IsRefusedFor text) e refused,
      record {
        p = is.p;
        is_judged = is.is_judged;
        why = told_of (blamed [] is.p);
        is_why = some;
        names = is.names;
        numbered = is.numbered;
        binders = is.binders;
        named = is.named;
        lines_are = is.lines_are ∙ ap (λ (o : Option Told). why_text width (source_names is.names is.binders) o) some;
      },
    )

-- a text that a stage other than the type refuses
pub told_refused : (text : Bytes) (reason : Refusal) (width : ℕ) → IsRefusedFor text reason → untyped_at reason ≡ None → ExplainsText text width (Refused reason)
told_refused text reason width refused none = (refused, silent reason none)

pub told_unread : (text : Bytes) (reason : Refusal) (width : ℕ) → IsUnjudged text reason → ExplainsText text width (Refused reason)
told_unread text reason width is = told_refused text reason width (not_judged is.cause is.is_judged is.told) (judged_else is.cause reason is.told)

-- one that is too long
pub told_long : (text : Bytes) (width : ℕ) → IsRefusedFor text refusal.Length → ExplainsText text width (Refused refusal.Length)
told_long text width refused = told_refused text refusal.Length width refused refl

-- ---- what is due

pub serves_explained : (file text : Bytes) (width : Option ℕ) (place : Place) (lines : Bytes) (b c d : Contents) (k k1 k2 : Counts) (e e1 e2 : FileCalls) (result : Result ℕ Stop) → IsRefusedFor text (refusal.NoType place)
    → IsToldWhy text (width_wanted width) lines → After (why file width) (only text) b c d k k1 k2 e e1 e2 result → result ≢ Err Memory → Did (lined 2 (note.Refused (refusal.NoType place)) lines) c d result
    → Serves (Some (why file width)) b d k k2 e e2 result
serves_explained file text width place lines b c d k k1 k2 e e1 e2 result refused is a ready did =
    done_quietly (why file width) (only text) b c d k k1 k2 e e1 e2 result (lined 2 (note.Refused (refusal.NoType place)) lines) a (λ input. explains file text width place lines refl refused is) did
    (λ _ memory. absurd (ready memory)) (λ _ _. a.kept)

pub serves_untold : (file text : Bytes) (width : Option ℕ) (b c d : Contents) (k k1 k2 : Counts) (e e1 e2 : FileCalls) (result : Result ℕ Stop) → IsAccepted text → After (why file width) (only text) b c d k k1 k2 e e1 e2 result → result ≢ Err Memory
    → Did accepted_due c d result → Serves (Some (why file width)) b d k k2 e e2 result
serves_untold file text width b c d k k1 k2 e e1 e2 result is a ready did =
    done_quietly (why file width) (only text) b c d k k1 k2 e e1 e2 result accepted_due a (λ input. untold file text width refl is) did (λ _ memory. absurd (ready memory)) (λ _ _. a.kept)

-- there are lines
some_begins : (b : ℕ) (rest : Bytes) → b ∷ rest ≢ []
some_begins b rest = λ e. cc

pub explained_some : (text : Bytes) (width : ℕ) (lines : Bytes) → IsToldWhy text width lines → lines ≢ []
explained_some text width lines is = λ none. some_begins 32 _ (sym is.lines_are ∙ none)
