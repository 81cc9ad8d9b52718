-- A member of a list of derivations is less deep than the list.
use Rattle.std.proofs.Common.{ℕ, ◌<◌, ◌≡◌, length, get_or, arith}
use Rattle.fy_derive.specs.declared.derivation.Derivation as form
use Rattle.fy_derive.specs.declared.derivation.Derivation.{Derivation, size-Derivation}
use Rattle.fy_derive.specs.declared.derivation.DerivationList.{DerivationList, size-DerivationList}
use Rattle.fy_derive.specs.Reading.{derivations_in}

pub member_size : (l : DerivationList) (i : ℕ) (x : Derivation) → i < length (derivations_in l) → x ≡ get_or (derivations_in l) i x →
    size-Derivation x < size-DerivationList l
member_size l i x h e = search (arith, form.the_lemmas)
