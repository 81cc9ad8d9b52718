-- Type safety: what is typed as a command never goes wrong.
use Rattle.std.specs.Prelude.{ℕ, ◌≡◌, ◌≢◌, [], None}
use Rattle.fy_base.specs.Outside.{Bytes}
use Rattle.fy_types.specs.declared.types.Atom.TheVariants.{Comm}
use Rattle.fy_types.specs.Types.{atom}
use Rattle.fy_phrase.specs.Tree.{Tree}
use Rattle.fy_phrase.specs.Copy.{copy_after, stuck}
use Rattle.fy_derive.specs.Derivations.{PlainDerivation}
use Rattle.fy_derive.specs.Typing.{HasType}
use Rattle.fy_derive.specs.Judging.{concludes, conclusion_of, refusal}

-- whatever the input and the number of steps, the run of the phrase isn't stuck: it goes on, or it has ended, or faulted at a place
unfoldable pub IsNeverStuck : Tree → Type 0
IsNeverStuck p = (input : Bytes) (m : ℕ) → (copy_after p input m).standing ≢ stuck

-- a phrase of type `comm`, with no variable in scope, is never stuck
abbrev pub TypedIsNeverStuck : Type 0
TypedIsNeverStuck = (p : Tree) → HasType [] p (atom Comm) → IsNeverStuck p

-- a phrase for which a derivation concludes `comm` is never stuck
abbrev pub ConcludedIsNeverStuck : Type 0
ConcludedIsNeverStuck = (p : Tree) (d : PlainDerivation) → conclusion_of p d ≡ concludes (atom Comm) → IsNeverStuck p

-- a phrase whose derivation of a command is refused at no node is never stuck
abbrev pub AcceptedIsNeverStuck : Type 0
AcceptedIsNeverStuck = (p : Tree) (d : PlainDerivation) → refusal (conclusion_of p d) ≡ None → IsNeverStuck p
