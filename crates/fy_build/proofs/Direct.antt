-- Code in which constants are handed as data hands none as a thunk.
use Rattle.std.proofs.Common.{◌≡◌, ℕ, zero, suc, ◌<◌, List, [], ◌∷◌, length, Some, refl, sym, ◌∙◌, subst, arith}
use Rattle.std.proofs.lemmas.Option.{same_Some}
use Rattle.std.specs.Prelude.{slice_get, slice_index_or, All}
use Rattle.fy_phrase.specs.Tree.{Tree}
use Rattle.pe_code.specs.declared.code.PeInsn.{PeInsn}
use Rattle.pe_code.specs.declared.code.PeItem.{PeItem}
use Rattle.pe_code.specs.declared.code.PeCode.{PeCode}
use Rattle.pe_right.specs.Direct.{HandsNoConstant, IsHanded, passed, bound, same, IsDirectOf}

-- what stands in an instruction's place hands no constant
hands_none : (p : Tree) (old new : PeInsn) → IsHanded p old new → HandsNoConstant p new
hands_none p old new (passed is) = λ k v e has. cc
hands_none p old new (bound is) = λ k v e has. cc
hands_none p old new (same none) = none

found : {X : Type 0} (xs : List X) (k : ℕ) (d : X) → k < length xs → slice_get xs k ≡ Some (slice_index_or xs k d)
found [] k d lt = absurd (omega arith)
found (x ∷ xs) zero d lt = refl
found (x ∷ xs) (suc k) d lt = found xs k d (omega arith)

-- nor does any item of direct code
pub none_handed : (p : Tree) (code made : PeCode) → IsDirectOf p code made → All (λ item. HandsNoConstant p item.insn) made.items
none_handed p code made direct k d lt =
    let old : PeItem = slice_index_or code.items k d in
    let there = direct.items k old (found code.items k d (let size = direct.count in omega arith)) in
    let is : there.0 ≡ slice_index_or made.items k d = same_Some there.0 (slice_index_or made.items k d) (sym there.1 ∙ found made.items k d lt) in
    subst (λ (i : PeItem). HandsNoConstant p i.insn) is (hands_none p old.insn there.0.insn there.2.insn)
