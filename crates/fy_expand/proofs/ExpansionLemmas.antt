-- What holds of a program's core phrase.
use Rattle.std.proofs.Common.{◌≡◌, ℕ, ◌≤◌, if◌then◌else◌, Bool, true, false, nat_lt, IsTrue, List, Option, Some, None, Result, Ok, Err, refl, subst}
use Rattle.std.specs.Result.{IfOk, IfErr}
use Rattle.std.proofs.lemmas.Bool.{ltb-false}
use Rattle.fy_base.specs.Outside.{Bytes}
use Rattle.fy_types.specs.Fields.{IsNamed}
use Rattle.fy_lexer.specs.declared.token.Token.{Token}
use Rattle.fy_syntax.specs.Trees as written
use Rattle.fy_syntax.specs.Spells.{IsProgram}
use Rattle.fy_syntax.specs.TreeNames as of_tree
use Rattle.fy_phrase.specs.Tree.{Tree}
use Rattle.fy_expand.specs.declared.error.ExpandError.{ExpandError}
use Rattle.fy_expand.specs.declared.error.ExpandError.TheVariants.{TooDeep, TooLarge, TooManyVisits}
use Rattle.fy_expand.specs.Scope.{program_scope}
use Rattle.fy_expand.specs.Front.{front}
use Rattle.fy_expand.specs.Core.{core, in_prelude}
use Rattle.fy_expand.specs.Faults.{fault}
use Rattle.fy_phrase.specs.Sizes.{nesting}
use Rattle.fy_phrase.specs.PhraseNames.{AllNames, HasFullTypes}
use Rattle.fy_phrase.specs.CoreLimits.{size_of, visits_of, deepest_written, KeepsCoreLimits}
use Rattle.fy_expand.specs.Sizes.{limited}
use Rattle.fy_expand.specs.Expansion.{unless, within_limits, core_of}
use Rattle.fy_phrase.specs.WellMade.{IsClosed, IsWellMade, HasDepths}
use Rattle.fy_expand.specs.NamesOf.{HasNamesOf}
use Rattle.fy_expand.specs.Judged.{HasTokens, IsAllowed, IsJudged, not_expanded, expanded, expansion_refused}
use Rattle.fy_expand.proofs.ClosedLemmas.{closed-whole}
use Rattle.fy_expand.proofs.DepthLemmas.{depths-whole}
use Rattle.fy_expand.proofs.MadeLemmas.{made-whole}
use Rattle.fy_expand.proofs.SpelledLemmas.{filled-program}
use Rattle.fy_expand.proofs.WrittenLemmas.{written-whole}
use Rattle.fy_expand.proofs.NameLemmas.{names-whole}
use Rattle.fy_expand.proofs.FullLemmas.{full-whole}
use Rattle.fy_expand.proofs.FullSpelled.{full-program}

-- the phrase of a program
abbrev whole : written.Tree → Tree
whole tree = in_prelude (front tree) (core program_scope tree)

-- another fact of what a call gave
pub IfOk-map : {T E : Type 0} (r : Result T E) (P Q : T → Type 0) → ((x : T) → P x → Q x) → IfOk r P → IfOk r Q
IfOk-map (Ok x) P Q f h = f x h
IfOk-map (Err e) P Q f h = h

pub IfErr-map : {T E : Type 0} (r : Result T E) (P Q : E → Type 0) → ((e : E) → P e → Q e) → IfErr r P → IfErr r Q
IfErr-map (Ok x) P Q f h = h
IfErr-map (Err e) P Q f h = f e h

unless-ok : (f : Option ExpandError) (q p : Tree) → within_limits (unless f q) ≡ Ok p → (None ≡ f) × (limited q ≡ Ok p)
unless-ok None q p h = (refl, h)
unless-ok (Some e) q p h = cc

test-ok : (b : Bool) (e : ExpandError) (r : Result Tree ExpandError) (p : Tree) → (if b then Err e else r) ≡ Ok p → (b ≡ false) × (r ≡ Ok p)
test-ok true e r p h = cc
test-ok false e r p h = (refl, h)

same-ok : (q p : Tree) (r : Result Tree ExpandError) → r ≡ Ok q → r ≡ Ok p → q ≡ p
same-ok q p r h k = cc

limited-ok : (q p : Tree) → deepest_written q ≤ 258 → limited q ≡ Ok p → (q ≡ p) × KeepsCoreLimits q
limited-ok q p w h =
    let few : Result Tree ExpandError = if nat_lt 65536 (visits_of q) then Err TooManyVisits else Ok q in
    let small : Result Tree ExpandError = if nat_lt 65536 (size_of q) then Err TooLarge else few in
    let one = test-ok (nat_lt 512 (nesting q)) TooDeep small p h in
    let two = test-ok (nat_lt 65536 (size_of q)) TooLarge few p one.1 in
    let three = test-ok (nat_lt 65536 (visits_of q)) TooManyVisits (Ok q) p two.1 in (
      same-ok q p (Ok q) refl three.1,
      record { shallow = ltb-false 512 (nesting q) one.0; small = ltb-false 65536 (size_of q) two.0; few_visits = ltb-false 65536 (visits_of q) three.0; written = w },
    )

-- there is no fault, and the phrase is the whole of the program
core_of-ok : (tree : written.Tree) (p : Tree) → core_of tree ≡ Ok p → (None ≡ fault program_scope tree) × (whole tree ≡ p) × KeepsCoreLimits (whole tree)
core_of-ok tree p h =
    let first = unless-ok (fault program_scope tree) (whole tree) p h in
    let second = limited-ok (whole tree) p (written-whole tree first.0) first.1 in
    (first.0, second.0, second.1)

pub core_of-closed : (tree : written.Tree) (p : Tree) → core_of tree ≡ Ok p → IsClosed p
core_of-closed tree p h = subst (λ q. IsClosed q) (core_of-ok tree p h).1 (closed-whole tree)

pub core_of-depths : (tree : written.Tree) (p : Tree) → core_of tree ≡ Ok p → HasDepths p
core_of-depths tree p h = subst (λ q. HasDepths q) (core_of-ok tree p h).1 (depths-whole tree)

pub core_of-limits : (tree : written.Tree) (p : Tree) → core_of tree ≡ Ok p → KeepsCoreLimits p
core_of-limits tree p h = let k = core_of-ok tree p h in subst (λ q. KeepsCoreLimits q) k.1 k.2

pub core_of-made : (tree : written.Tree) (p : Tree) (tokens : List Token) → core_of tree ≡ Ok p → IsProgram tree tokens → IsWellMade p
core_of-made tree p tokens h k =
    let l = core_of-ok tree p h in
    subst (λ q. IsWellMade q) l.1 (made-whole tree (filled-program tree tokens k) l.0)

pub core_of-names : (tree : written.Tree) (p : Tree) → core_of tree ≡ Ok p → (P : ℕ → Type 0) → P 0 → of_tree.AllNames P tree → AllNames P p
core_of-names tree p h P z k = subst (λ q. AllNames P q) (core_of-ok tree p h).1 (names-whole P z tree k)

pub core_of-has_names : (tree : written.Tree) (p : Tree) → core_of tree ≡ Ok p → HasNamesOf tree p
core_of-has_names tree p h = record {
  tests = λ test len k. core_of-names tree p h (λ n. IsTrue (test n)) len k;
  named = λ names len k. core_of-names tree p h (IsNamed names) len k;
}

pub core_of-full : (tree : written.Tree) (p : Tree) (tokens : List Token) → core_of tree ≡ Ok p → IsProgram tree tokens → HasFullTypes p
core_of-full tree p tokens h k = subst (λ q. HasFullTypes q) (core_of-ok tree p h).1 (full-whole tree (full-program tree tokens k))

-- how the text is judged whose tokens spell the program
pub core_of-judged : (tree : written.Tree) (p : Tree) (text : Bytes) (tokens : List Token) → core_of tree ≡ Ok p → HasTokens text tokens → IsAllowed tokens tree → IsJudged text (Ok p)
core_of-judged tree p text tokens h k l = expanded k l h

pub core_of-refused : (tree : written.Tree) (e : ExpandError) (text : Bytes) (tokens : List Token) → core_of tree ≡ Err e → HasTokens text tokens → IsAllowed tokens tree → IsJudged text (Err (expansion_refused e))
core_of-refused tree e text tokens h k l = not_expanded k l h
