-- What a type reads as, by its form.
use Rattle.std.specs.declared.rc.Rc.{Rc}
use Rattle.std.proofs.Common.{ℕ, ◌≡◌, Global, sym, ap, ◌∙◌}
use Rattle.fy_types.specs.declared.types.Atom.{Atom}
use Rattle.fy_types.specs.declared.types.Ty as tree
use Rattle.fy_types.specs.declared.types.Ty.{Ty, fold-roll-Ty, Ty-F}
use Rattle.fy_types.specs.declared.types.Ty.TheVariants.{rolls-Ns, rolls-Atom, rolls-Arrow, rolls-Field, rolls-Meet}
use Rattle.fy_types.specs.declared.types.TyList.{TyList}
use Rattle.fy_types.specs.Types.{PlainType, PlainTypes, ns, atom, arrow, field, meet}
use Rattle.fy_types.specs.Reading.{plain_type, plain_types, ty_step, types_step}

pub reads_ns : (t : Ty) → t ≡ tree.Ns → plain_type t ≡ ns
reads_ns t is = rw is (ap plain_type (sym rolls-Ns) ∙ fold-roll-Ty PlainType PlainTypes ty_step types_step Ty-F.Ns)

pub reads_atom : (t : Ty) (a : Atom) → t ≡ tree.Atom a → plain_type t ≡ atom a
reads_atom t a is = rw is
    (ap plain_type (sym (rolls-Atom a)) ∙ fold-roll-Ty PlainType PlainTypes ty_step types_step (Ty-F.Atom a))

pub reads_arrow : (t : Ty) (a b : Rc Ty Global) → t ≡ tree.Arrow a b →
    plain_type t ≡ arrow (plain_type a.value) (plain_type b.value)
reads_arrow t a b is = rw is
    (ap plain_type (sym (rolls-Arrow a b)) ∙ fold-roll-Ty PlainType PlainTypes ty_step types_step (Ty-F.Arrow a b))

pub reads_field : (t : Ty) (i : ℕ) (a : Rc Ty Global) → t ≡ tree.Field i a → plain_type t ≡ field i (plain_type a.value)
reads_field t i a is = rw is
    (ap plain_type (sym (rolls-Field i a)) ∙ fold-roll-Ty PlainType PlainTypes ty_step types_step (Ty-F.Field i a))

pub reads_meet : (t : Ty) (l : TyList) → t ≡ tree.Meet l → plain_type t ≡ meet (plain_types l)
reads_meet t l is = rw is
    (ap plain_type (sym (rolls-Meet l)) ∙ fold-roll-Ty PlainType PlainTypes ty_step types_step (Ty-F.Meet l))
