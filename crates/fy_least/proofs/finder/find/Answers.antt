use Rattle.std.proofs.Common.{◌≡◌, [], map, reverse, refl, ap}
use Rattle.fy_types.specs.declared.types.Atom.TheVariants.{Comm}
use Rattle.fy_types.specs.declared.types.TyList.{TyList}
use Rattle.fy_types.specs.Reading.{types_in, plain_type}
use Rattle.fy_types.proofs.TypeForms.{reads_atom}
use Rattle.fy_phrase.specs.Reads.{reads}
use Rattle.fy_derive.specs.Judging.{in_scope}
use Rattle.fy_least.proofs.FindLemmas.{finding-alone, limits-alone, pairs-alone, printable-alone}
use Rattle.fy_least.proofs.finder.find.Goals as goal

none-around : (l : TyList) → types_in l ≡ [] → in_scope l ≡ []
none-around l e = ap (λ ts. reverse (map plain_type ts)) e

pub returns-clause-found : goal.returns-clause-found
returns-clause-found c =
    finding-alone c.find_as.result (reads c.args.p.now) _ _ (none-around c.new.result c.new.ensures) (reads_atom _ Comm refl) c.find_as.ensures.found

pub returns-clause-limits : goal.returns-clause-limits
returns-clause-limits c = limits-alone c.find_as.result (reads c.args.p.now) _ (reads_atom _ Comm refl) c.find_as.ensures.limits

pub returns-clause-printable : goal.returns-clause-printable
returns-clause-printable c =
    printable-alone c.find_as.result (reads c.args.p.now) _ _ (none-around c.new.result c.new.ensures) (reads_atom _ Comm refl)
    c.find_as.ensures.printable

pub returns-clause-pairs : goal.returns-clause-pairs
returns-clause-pairs c =
    pairs-alone c.find_as.result (reads c.args.p.now) _ (none-around c.new.result c.new.ensures) c.find_as.ensures.pairs
