-- The phrase of a judged text is readable, and its text is read again.
use Rattle.std.proofs.Common.{◌≡◌, ◌++◌, IsTrue, ℕ, ◌≤◌, nat_lt, if◌then◌else◌, Bool, true, false, Option, Some, None, Result, Ok, Err, slice_get, List, [], ◌∷◌, codes, refl, sym, ap, subst, arith}
use Rattle.std.proofs.lemmas.Bool.{false≢true}
use Rattle.std.proofs.lemmas.List.Elements.{All-nil, All-cons, All-head, All-tail}
use Rattle.fy_base.specs.Outside.{Bytes}
use Rattle.fy_base.specs.declared.data.Place.{Place}
use Rattle.fy_types.specs.Fields.{IsNamed}
use Rattle.fy_types.specs.Names.{AreNames}
use Rattle.fy_types.specs.Words.{is_identifier}
use Rattle.fy_lexer.specs.declared.token.Token.{Token}
use Rattle.fy_lexer.specs.Identifiers.{AreIdentifiers}
use Rattle.fy_lexer.specs.Tokens.{HasAdded, IsTokensOf, start_of}
use Rattle.fy_lexer.proofs.AgainLemmas.{steps_added}
use Rattle.fy_lexer.proofs.NamesLemmas.{HasAdded-then}
use Rattle.fy_lexer.proofs.IdentifierLemmas.{named_later, identifiers_weaker, identifiers_named}
use Rattle.fy_syntax.proofs.NameLemmas.{names_are_of_tokens}
use Rattle.fy_phrase.specs.CoreLimits.{size_of, visits_of}
use Rattle.fy_phrase.specs.PhraseNames.{AllNames, HasFullTypes}
use Rattle.fy_phrase.specs.Sizes.{nesting}
use Rattle.fy_phrase.specs.Tree.{Tree}
use Rattle.fy_expand.specs.declared.error.ExpandError.{ExpandError}
use Rattle.fy_expand.specs.declared.error.ExpandError.TheVariants.{TooDeep, TooLarge, TooManyVisits}
use Rattle.fy_expand.specs.Core.{core, in_prelude}
use Rattle.fy_expand.specs.Expansion.{unless, within_limits}
use Rattle.fy_expand.specs.Faults.{fault}
use Rattle.fy_expand.specs.Front.{front}
use Rattle.fy_expand.specs.Scope.{under, outermost, program_scope}
use Rattle.fy_expand.specs.Sizes.{limited}
use Rattle.fy_expand.proofs.ExpansionLemmas.{core_of-full, core_of-limits, core_of-names}
use Rattle.fy_show.specs.Entries.{Entry, one}
use Rattle.fy_again.specs.Phrases.{prelude}
use Rattle.fy_again.specs.Programs.{ProgramsAreReadAgain}
use Rattle.fy_again.proofs.CombineLemmas.{combined}
use Rattle.fy_again.proofs.FewLemmas.{AllFew, few_under}
use Rattle.fy_again.proofs.FineLemmas.{tokens_fine, tree_fine}
use Rattle.fy_again.proofs.FormedLemmas.{formed}
use Rattle.fy_again.proofs.ProgramLemmas.{phrases_read}
use Rattle.fy_again.proofs.ShapeLemmas.{Kind, variable, Fit, fit_under}

-- ---- a text that is expanded

unless_ok : (f : Option ExpandError) (q p : Tree) → within_limits (unless f q) ≡ Ok p → (None ≡ f) × (limited q ≡ Ok p)
unless_ok None q p h = (refl, h)
unless_ok (Some e) q p h = absurd cc

test_ok : (b : Bool) (e : ExpandError) (r : Result Tree ExpandError) (p : Tree) → (if b then Err e else r) ≡ Ok p → r ≡ Ok p
test_ok true e r p h = absurd cc
test_ok false e r p h = h

same_ok : (q p : Tree) (r : Result Tree ExpandError) → r ≡ Ok q → r ≡ Ok p → q ≡ p
same_ok q p r h k = cc

limited_ok : (q p : Tree) → limited q ≡ Ok p → q ≡ p
limited_ok q p h =
    let few : Result Tree ExpandError = if nat_lt 65536 (visits_of q) then Err TooManyVisits else Ok q in
    let small : Result Tree ExpandError = if nat_lt 65536 (size_of q) then Err TooLarge else few in
    same_ok q p (Ok q) refl
    (test_ok (nat_lt 65536 (visits_of q)) TooManyVisits (Ok q) p
    (test_ok (nat_lt 65536 (size_of q)) TooLarge few p (test_ok (nat_lt 512 (nesting q)) TooDeep small p h)))

-- ---- inside the prelude

inside_full : (at : Place) (p : Tree) → HasFullTypes (in_prelude at p) → HasFullTypes p
inside_full at p h = h.1.1.1.1.1

inside_names : (P : ℕ → Type 0) (at : Place) (p : Tree) → AllNames P (in_prelude at p) → AllNames P p
inside_names P at p h = h.1.1.1.1.1

inside_size : (at : Place) (p : Tree) → size_of (in_prelude at p) ≤ 65536 → size_of p ≤ 65536
inside_size at p h = omega (arith, h)

abbrev prelude_kinds : List Kind
prelude_kinds = variable ∷ variable ∷ variable ∷ variable ∷ variable ∷ []

outermost_fits : Fit [] outermost outermost
outermost_fits more n at h = absurd (false≢true (sym h))

prelude_fits : Fit prelude_kinds program_scope program_scope
prelude_fits =
    let a = fit_under [] outermost outermost 1 outermost_fits in
    let b = fit_under (variable ∷ []) (under 1 outermost) (under 1 outermost) 2 a in
    let c = fit_under (variable ∷ variable ∷ []) (under 2 (under 1 outermost)) (under 2 (under 1 outermost)) 3 b in
    let d = fit_under (variable ∷ variable ∷ variable ∷ []) (under 3 (under 2 (under 1 outermost))) (under 3 (under 2 (under 1 outermost))) 4 c in
    fit_under (variable ∷ variable ∷ variable ∷ variable ∷ []) (under 4 (under 3 (under 2 (under 1 outermost)))) (under 4 (under 3 (under 2 (under 1 outermost)))) 11 d

prelude_few : AllFew prelude
prelude_few =
    let none : AllFew [] = λ n. omega arith in
    let one_more : (s : List Entry) (x : Bytes) → AllFew s → AllFew (one x ∷ s) = λ s x few. few_under s (one x) (omega arith) few in
    let p = one_more [] (codes "putint") none in
    let q = one_more (one (codes "putint") ∷ []) (codes "putchar") p in
    let r = one_more (one (codes "putchar") ∷ one (codes "putint") ∷ []) (codes "putbool") q in
    let s = one_more (one (codes "putbool") ∷ one (codes "putchar") ∷ one (codes "putint") ∷ []) (codes "read") r in
    one_more (one (codes "read") ∷ one (codes "putbool") ∷ one (codes "putchar") ∷ one (codes "putint") ∷ []) (codes "newintseq") s

-- `len` is the first name
length_named : (names : List Bytes) → AreNames names → IsNamed names 0
length_named names are = record { name = codes "len"; numbered = ap (λ l. slice_get l 0) are.begins; identifier = refl }

-- a list of names has those before a text, and is of identifiers if a longer one is
added_by : (names after : List Bytes) (text : Bytes) (tokens : List Token) → IsTokensOf names text tokens after → HasAdded names after
added_by names after text tokens read = subst (λ l. HasAdded names l) (sym read.named) (steps_added (start_of names text) read.last read.steps)

front_identifiers : (names more : List Bytes) → AreIdentifiers (names ++ more) → AreIdentifiers names
front_identifiers [] more h = All-nil (λ x. IsTrue (is_identifier x))
front_identifiers (name ∷ names) more h =
    All-cons (λ x. IsTrue (is_identifier x)) name names (All-head (λ x. IsTrue (is_identifier x)) name (names ++ more) h)
    (front_identifiers names more (All-tail (λ x. IsTrue (is_identifier x)) name (names ++ more) h))

fewer_identifiers : (names all : List Bytes) → HasAdded names all → AreIdentifiers all → AreIdentifiers names
fewer_identifiers names all added h = front_identifiers names added.later (subst (λ l. AreIdentifiers l) added.is h)

pub programs_read : ProgramsAreReadAgain
programs_read names after all text tokens tree whole binders are ids added read from allowed ok named =
    let p = core program_scope tree in
    let two = unless_ok (fault program_scope tree) (in_prelude (front tree) p) whole ok in
    let same : in_prelude (front tree) p ≡ whole = limited_ok (in_prelude (front tree) p) whole two.1 in
    let fine = tree_fine allowed.spelled.1 (tokens_fine names after text tokens read from.within.fit) in
    let shape = formed prelude_kinds program_scope program_scope tree prelude_fits refl fine.0 two.0 in
    let full = inside_full (front tree) p (subst (λ q. HasFullTypes q) (sym same) (core_of-full tree whole tokens ok allowed.spelled)) in
    let identifiers = identifiers_weaker (λ i h. named_later i added h) tokens (identifiers_named.named names text tokens after read (fewer_identifiers names all (HasAdded-then names after all (added_by names after text tokens read) added) ids)) in
    let of_tree = names_are_of_tokens.named all tree tokens allowed.spelled identifiers in
    let all_named =
    inside_names (IsNamed all) (front tree) p (subst (λ q. AllNames (IsNamed all) q) (sym same) (core_of-names tree whole ok (IsNamed all) (length_named all are) of_tree)) in
    let small = inside_size (front tree) p (subst (λ q. size_of q ≤ 65536) (sym same) (core_of-limits tree whole ok).small) in
    phrases_read all binders p are ids (combined all binders are prelude_kinds prelude (tt, (tt, (tt, (tt, (tt, tt))))) prelude_few p shape full all_named small named)
