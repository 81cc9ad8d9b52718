use Rattle.std.proofs.Common.{◌≡◌, true, sym, subst}
use Rattle.fy_types.specs.Nested.{IsTypeOf}
use Rattle.fy_types.specs.Once.{are_same}
use Rattle.fy_types.specs.Paths.{paths}
use Rattle.fy_types.specs.Reading.{plain_paths, plain_type}
use Rattle.fy_memo.proofs.EachLemmas.{same-itself}
use Rattle.fy_memo.proofs.types.Types.keep.Goals as goal

pub invariant_of-typed : goal.invariant_of-typed
invariant_of-typed c =
    let form = c.in_ok-clone.field-0.value in
    let ty = c.in_ok-clone-2.field-0.value in
    let right : IsTypeOf (plain_paths form) (plain_type ty) =
    subst (λ D. IsTypeOf (plain_paths D) (plain_type ty)) (sym c.in_ok-clone.ensures.cases)
    (subst (λ A. IsTypeOf (plain_paths c.args.domain.now.value) (plain_type A)) (sym c.in_ok-clone-2.ensures.cases) c.requires) in
    record {
      made = subst (λ P. are_same (paths (plain_type ty)) P ≡ true) right.0 (same-itself (paths (plain_type ty)));
      shallow = right.1;
      full = right.2;
      named = right.3;
    }
