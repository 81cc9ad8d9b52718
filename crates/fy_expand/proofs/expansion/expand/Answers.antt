use Rattle.std.proofs.Common.{◌≡◌, List, Ok, Err, inl, inr, ◌⊎◌}
use Rattle.fy_base.specs.Outside.{Bytes}
use Rattle.fy_lexer.specs.declared.token.Token.{Token}
use Rattle.fy_syntax.specs.Reading.{tree_of}
use Rattle.fy_syntax.specs.Spells.{IsProgram}
use Rattle.fy_phrase.specs.declared.phrase.Phrase.{Phrase}
use Rattle.fy_phrase.specs.Reads.{reads}
use Rattle.fy_phrase.specs.CoreLimits.{KeepsCoreLimits}
use Rattle.fy_phrase.specs.PhraseNames.{HasFullTypes}
use Rattle.fy_expand.specs.declared.error.ExpandError.{ExpandError}
use Rattle.fy_expand.specs.declared.error.ExpandError.TheVariants.{OutOfMemory}
use Rattle.fy_expand.specs.Expansion.{core_of}
use Rattle.fy_phrase.specs.WellMade.{HasDepths, IsClosed, IsWellMade}
use Rattle.fy_expand.specs.NamesOf.{HasNamesOf}
use Rattle.fy_expand.specs.Judged.{HasTokens, IsAllowed, IsJudged, expansion_refused}
use Rattle.fy_expand.proofs.ExpansionLemmas.{IfOk-map, IfErr-map, core_of-closed, core_of-depths, core_of-limits, core_of-made, core_of-has_names, core_of-full, core_of-judged, core_of-refused}
use Rattle.fy_expand.proofs.ProgramFrames.{AreSized-Name, AreSized-Outermost}
use Rattle.fy_expand.proofs.expansion.expand.Goals as goal

pub within-requires-clause-sized : goal.within-requires-clause-sized
within-requires-clause-sized c = AreSized-Name 11 _ (AreSized-Name 4 _ (AreSized-Name 3 _ (AreSized-Name 2 _ (AreSized-Name 1 _ AreSized-Outermost))))

pub returns-clause-closed : goal.returns-clause-closed
returns-clause-closed c =
    let tree = tree_of c.args.tree.now in
    IfOk-map c.within.result (λ (p : Phrase). core_of tree ≡ Ok (reads p)) (λ p. IsClosed (reads p)) (λ p h. core_of-closed tree (reads p) h) c.within.ensures.ok

pub returns-clause-depths : goal.returns-clause-depths
returns-clause-depths c =
    let tree = tree_of c.args.tree.now in
    IfOk-map c.within.result (λ (p : Phrase). core_of tree ≡ Ok (reads p)) (λ p. HasDepths (reads p)) (λ p h. core_of-depths tree (reads p) h) c.within.ensures.ok

pub returns-clause-limits : goal.returns-clause-limits
returns-clause-limits c =
    let tree = tree_of c.args.tree.now in
    IfOk-map c.within.result (λ (p : Phrase). core_of tree ≡ Ok (reads p)) (λ p. KeepsCoreLimits (reads p)) (λ p h. core_of-limits tree (reads p) h) c.within.ensures.ok

pub returns-clause-well_made : goal.returns-clause-well_made
returns-clause-well_made c =
    let tree = tree_of c.args.tree.now in
    IfOk-map c.within.result (λ (p : Phrase). core_of tree ≡ Ok (reads p)) (λ p. (tokens : List Token) → IsProgram tree tokens → IsWellMade (reads p))
    (λ p h tokens k. core_of-made tree (reads p) tokens h k) c.within.ensures.ok

pub returns-clause-names : goal.returns-clause-names
returns-clause-names c =
    let tree = tree_of c.args.tree.now in
    IfOk-map c.within.result (λ (p : Phrase). core_of tree ≡ Ok (reads p)) (λ p. HasNamesOf tree (reads p))
    (λ p h. core_of-has_names tree (reads p) h) c.within.ensures.ok

pub returns-clause-full_types : goal.returns-clause-full_types
returns-clause-full_types c =
    let tree = tree_of c.args.tree.now in
    IfOk-map c.within.result (λ (p : Phrase). core_of tree ≡ Ok (reads p)) (λ p. (tokens : List Token) → IsProgram tree tokens → HasFullTypes (reads p))
    (λ p h tokens k. core_of-full tree (reads p) tokens h k) c.within.ensures.ok

pub returns-clause-judged : goal.returns-clause-judged
returns-clause-judged c =
    let tree = tree_of c.args.tree.now in
    IfOk-map c.within.result (λ (p : Phrase). core_of tree ≡ Ok (reads p))
    (λ p. (text : Bytes) (tokens : List Token) → HasTokens text tokens → IsAllowed tokens tree → IsJudged text (Ok (reads p)))
    (λ p h text tokens k l. core_of-judged tree (reads p) text tokens h k l) c.within.ensures.ok

pub returns-clause-refused : goal.returns-clause-refused
returns-clause-refused c =
    let tree = tree_of c.args.tree.now in
    let Judged : ExpandError → Type 0 = λ e. (text : Bytes) (tokens : List Token) → HasTokens text tokens → IsAllowed tokens tree → IsJudged text (Err (expansion_refused e)) in
    let step : (e : ExpandError) → (e ≡ OutOfMemory) ⊎ (core_of tree ≡ Err e) → (e ≡ OutOfMemory) ⊎ Judged e = λ e h. elim h [
      | inl is ↦ inl is
      | inr is ↦ inr (λ text tokens k l. core_of-refused tree e text tokens is k l)
    ] in
    IfErr-map c.within.result (λ (e : ExpandError). (e ≡ OutOfMemory) ⊎ (core_of tree ≡ Err e)) (λ e. (e ≡ OutOfMemory) ⊎ Judged e) step c.within.ensures.err
