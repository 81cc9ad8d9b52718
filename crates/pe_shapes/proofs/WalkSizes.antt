-- The derivations in a derivation are less deep.
use Rattle.std.proofs.Common.{ℕ, ◌<◌, ◌≡◌, Box, Global, arith}
use Rattle.fy_derive.specs.declared.derivation.Derivation as form
use Rattle.fy_derive.specs.declared.derivation.Derivation.{Derivation, size-Derivation}
use Rattle.fy_derive.specs.declared.derivation.DerivationList.{DerivationList, size-DerivationList}

pub alt-size : (d x : Derivation) (i : ℕ) (b : Box Derivation Global) → d ≡ form.Alt i b → x ≡ b.value → size-Derivation x < size-Derivation d
alt-size d x i b e f = rw (e, f) (search (arith, form.the_lemmas))

pub left-size : (d x : Derivation) (b : Box Derivation Global) → d ≡ form.Left b → x ≡ b.value → size-Derivation x < size-Derivation d
left-size d x b e f = rw (e, f) (search (arith, form.the_lemmas))

pub right-size : (d x : Derivation) (b : Box Derivation Global) → d ≡ form.Right b → x ≡ b.value → size-Derivation x < size-Derivation d
right-size d x b e f = rw (e, f) (search (arith, form.the_lemmas))

pub rule-size : (d : Derivation) (l : DerivationList) → d ≡ form.Rule l → size-DerivationList l < size-Derivation d
rule-size d l e = rw e (search (arith, form.the_lemmas))

pub meet-size : (d : Derivation) (l : DerivationList) → d ≡ form.Meet l → size-DerivationList l < size-Derivation d
meet-size d l e = rw e (search (arith, form.the_lemmas))
