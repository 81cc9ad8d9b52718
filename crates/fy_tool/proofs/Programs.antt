-- What holds of the core phrase of a judged text, so that code is made of it.
use Rattle.std.proofs.Common.{◌≡◌, ◌≤◌, List, Bool, true, false, if◌then◌else◌, refl, subst, arith, Some, None}
use Rattle.std.specs.Prelude.{Result, Ok, Err, nat_lt}
use Rattle.std.specs.declared.option.Option.{Option}
use Rattle.fy_base.specs.Outside.{Bytes}
use Rattle.fy_phrase.specs.Tree.{Tree}
use Rattle.fy_phrase.specs.CoreLimits.{size_of, visits_of}
use Rattle.fy_syntax.specs.Trees as written
use Rattle.fy_phrase.specs.Sizes.{depth, nesting}
use Rattle.fy_phrase.specs.WellMade.{IsClosed, HasDepths, IsWellMade}
use Rattle.fy_expand.specs.declared.error.ExpandError.{ExpandError}
use Rattle.fy_expand.specs.declared.error.ExpandError.TheVariants.{TooDeep, TooLarge, TooManyVisits}
use Rattle.fy_expand.specs.Core.{core, in_prelude}
use Rattle.fy_expand.specs.Expansion.{unless, within_limits, core_of}
use Rattle.fy_expand.specs.Faults.{fault}
use Rattle.fy_expand.specs.Front.{front}
use Rattle.fy_expand.specs.Judged.{IsJudgedFrom, expanded}
use Rattle.fy_expand.specs.Scope.{program_scope}
use Rattle.fy_expand.specs.Sizes.{limited}
use Rattle.fy_expand.proofs.DepthLemmas.{depth-below}
use Rattle.fy_expand.proofs.ExpansionLemmas.{core_of-closed, core_of-depths, core_of-made}
use Rattle.fy_expand.proofs.PhraseLemmas.{judged-limits}
use Rattle.pe_gen.specs.Sites.{is_merge}

pub judged-closed : {names : List Bytes} (text : Bytes) (p : Tree) → IsJudgedFrom names text (Ok p) → IsClosed p
judged-closed text p (expanded {tree = tree} h a is) = core_of-closed tree p is

pub judged-depths : {names : List Bytes} (text : Bytes) (p : Tree) → IsJudgedFrom names text (Ok p) → HasDepths p
judged-depths text p (expanded {tree = tree} h a is) = core_of-depths tree p is

pub judged-made : {names : List Bytes} (text : Bytes) (p : Tree) → IsJudgedFrom names text (Ok p) → IsWellMade p
judged-made text p (expanded {tokens = tokens} {tree = tree} h a is) = core_of-made tree p tokens is a.spelled

pub judged-depth : {names : List Bytes} (text : Bytes) (p : Tree) → IsJudgedFrom names text (Ok p) → depth p ≤ 511
judged-depth text p is = let below = depth-below 0 p (judged-depths text p is) in let shallow = (judged-limits text p is).shallow in omega arith

-- the whole stands in a definition

behind_test : (b : Bool) (e : ExpandError) (r : Result Tree ExpandError) (p : Tree) → (if b then Err e else r) ≡ Ok p → r ≡ Ok p
behind_test true e r p h = cc
behind_test false e r p h = h

limited_whole : (q p : Tree) → is_merge q ≡ false → limited q ≡ Ok p → is_merge p ≡ false
limited_whole q p plain h =
    let few : Result Tree ExpandError = if nat_lt 65536 (visits_of q) then Err TooManyVisits else Ok q in
    let small : Result Tree ExpandError = if nat_lt 65536 (size_of q) then Err TooLarge else few in
    let one = behind_test (nat_lt 512 (nesting q)) TooDeep small p h in
    let two = behind_test (nat_lt 65536 (size_of q)) TooLarge few p one in
    let three : Ok q ≡ Ok p = behind_test (nat_lt 65536 (visits_of q)) TooManyVisits (Ok q) p two in
    let same : q ≡ p = cc in
    subst (λ x. is_merge x ≡ false) same plain

unless_whole : (f : Option ExpandError) (q p : Tree) → is_merge q ≡ false → within_limits (unless f q) ≡ Ok p → is_merge p ≡ false
unless_whole None q p plain h = limited_whole q p plain h
unless_whole (Some e) q p plain h = cc

core_whole : (tree : written.Tree) (p : Tree) → core_of tree ≡ Ok p → is_merge p ≡ false
core_whole tree p h = unless_whole (fault program_scope tree) (in_prelude (front tree) (core program_scope tree)) p refl h

pub judged-whole : {names : List Bytes} (text : Bytes) (p : Tree) → IsJudgedFrom names text (Ok p) → is_merge p ≡ false
judged-whole text p (expanded {tree = tree} h a is) = core_whole tree p is
