-- The parts of a type are less deep than it.
use Rattle.std.specs.declared.rc.Rc.{Rc}
use Rattle.std.proofs.Common.{ℕ, ◌<◌, ◌≡◌, length, get_or, Global, arith}
use Rattle.fy_types.specs.declared.types.Ty as tree
use Rattle.fy_types.specs.declared.types.Ty.{Ty, size-Ty}
use Rattle.fy_types.specs.declared.types.TyList.{TyList, size-TyList}
use Rattle.fy_types.specs.Reading.{types_in}

pub field-size : (t : Ty) (i : ℕ) (a : Rc Ty Global) → t ≡ tree.Field i a → size-Ty a.value < size-Ty t
field-size t i a is = rw is (search (arith, tree.the_lemmas))

pub arrow-size : (t : Ty) (a b : Rc Ty Global) → t ≡ tree.Arrow a b → size-Ty b.value < size-Ty t
arrow-size t a b is = rw is (search (arith, tree.the_lemmas))

pub meet-size : (t : Ty) (l : TyList) → t ≡ tree.Meet l → size-TyList l < size-Ty t
meet-size t l is = rw is (search (arith, tree.the_lemmas))

pub item-size : (l : TyList) (i : ℕ) (x : Ty) → i < length (types_in l) → x ≡ get_or (types_in l) i x → size-Ty x < size-TyList l
item-size l i x within is = search (arith, tree.the_lemmas)
