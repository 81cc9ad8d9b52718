-- One unit more among those before, and the last unit.
use Rattle.std.proofs.Common.{ℕ, zero, suc, ◌+◌, ◌<◌, ◌≡◌, cond, List, [], ◌∷◌, ◌++◌, length, map, take, get_or, reverse, Some, None, sym, ap, ◌∙◌, arith}
use Rattle.std.proofs.lemmas.List.{take_more, map_push, reverse-append}
use Rattle.fy_types.specs.declared.types.Atom.TheVariants.{Comm}
use Rattle.fy_types.specs.Reading.{plain_type}
use Rattle.fy_derive.specs.Rules.{is_atom}
use Rattle.fy_link.specs.declared.error.LinkError.TheVariants as refused
use Rattle.fy_link.specs.declared.unit.Unit.{Unit as UnitValue}
use Rattle.fy_link.specs.Sources.{Named}
use Rattle.fy_link.specs.Links.{main_fault}
use Rattle.fy_link.specs.Read.{plain_named, source_in, owns_before}

abbrev own_of : UnitValue → Named
own_of value = plain_named value.said.own

-- one unit more before
pub owns-more : (units : List UnitValue) (i : ℕ) (x : UnitValue) → i < length units → x ≡ get_or units i x →
    owns_before (take (i + 1) units) ≡ plain_named x.said.own ∷ owns_before (take i units)
owns-more units i x h e =
    ap owns_before (take_more units i x h ∙ ap (λ y. take i units ++ y ∷ []) (sym e))
    ∙ (ap reverse (map_push own_of (take i units) x) ∙ reverse-append (map own_of (take i units)) (own_of x ∷ []))

-- the last unit decides
pub main-at : (units : List UnitValue) (k : ℕ) (u : UnitValue) → length units ≡ suc k → u ≡ get_or units k u →
    main_fault (map source_in units) ≡ cond (is_atom Comm (plain_type u.said.own.ty)) None (Some refused.NotMain)
main-at [] k u h e = absurd (omega (arith, h))
main-at (x ∷ []) zero u h e = ap (λ (y : UnitValue). cond (is_atom Comm (plain_type y.said.own.ty)) None (Some refused.NotMain)) (sym e)
main-at (x ∷ []) (suc k) u h e = absurd (omega (arith, h))
main-at (x ∷ y ∷ more) zero u h e = absurd (omega (arith, h))
main-at (x ∷ y ∷ more) (suc k) u h e = main-at (y ∷ more) k u (omega (arith, h)) e
