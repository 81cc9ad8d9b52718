-- What the blocks of items read and write is near enough for the offsets of loads and stores.
use Rattle.std.proofs.Common.{◌≡◌, ℕ, zero, suc, ◌+◌, ◌<◌, ◌≤◌, true, List, [], ◌∷◌, ◌++◌, refl, sym, ap, ◌∙◌, subst, arith}
use Rattle.std.specs.Prelude.{slice_index_or}
use Rattle.std.specs.Option.{ForSome}
use Rattle.std.specs.List.{list_all}
use Rattle.std.proofs.lemmas.Bool.{and_from, and_parts}
use Rattle.std.proofs.lemmas.List.Folds.{list_all-append}
use Rattle.fy_base.specs.declared.data.FaultKind.TheVariants.{Range}
use Rattle.fy_base.specs.declared.data.PutKind.TheVariants as put
use Rattle.fy_base.specs.declared.data.UnOp.{UnOp}
use Rattle.fy_base.specs.declared.data.UnOp.TheVariants.{Neg, Chr}
use Rattle.fy_base.specs.declared.data.BinOp.{BinOp}
use Rattle.fy_base.specs.declared.data.BinOp.TheVariants.{Add, Sub, Mul, Div, Rem, And, Or}
use Rattle.pe_code.specs.declared.code.PeInsn.{PeInsn}
use Rattle.pe_code.specs.declared.code.PeInsn.TheVariants as insn
use Rattle.pe_code.specs.declared.code.Purpose.{Purpose}
use Rattle.pe_code.specs.declared.code.Purpose.TheVariants as purpose
use Rattle.pe_code.specs.declared.code.PeCode.{PeCode}
use Rattle.pe_code.specs.declared.code.StraightPart.{StraightPart}
use Rattle.pe_code.specs.declared.code.StraightPart.TheVariants as part
use Rattle.pe_code.specs.Code.{variable_of, straight_of}
use Rattle.pe_code.specs.Valid.{IsSoundPart, IsSoundStraight}
use Rattle.rv_word.specs.declared.micros.Register.TheVariants.{First}
use Rattle.rv_word.specs.declared.micros.Micro.{Micro}
use Rattle.rv_word.specs.declared.micros.Micro.TheVariants.{Fault}
use Rattle.rv_flow.specs.Emission.{is_near, are_near}
use Rattle.rv_straight.specs.Straight.{straight_code, fault_blocks}
use Rattle.rv_straight.specs.Laws.{IsNear}
use Rattle.rv_straight.proofs.Fine.{reach_near, straight_near, faults_near}
use Rattle.rv_select.specs.Numbers.{faults_from, label_of, entry_number}
use Rattle.rv_select.specs.Emission.{IsSmallStraight}
use Rattle.rv_select.specs.Blocks.{reach, open_frame, bind, purpose_block, main_block, left_block, again_block, new_block, unary_fault_blocks, binary_fault_blocks, blocks_of}

both_near : (xs ys : List Micro) → are_near xs ≡ true → are_near ys ≡ true → are_near (xs ++ ys) ≡ true
both_near xs ys h k = list_all-append is_near xs ys ∙ and_from (are_near xs) (are_near ys) h k

-- ---- the parts whose offsets are no literals

-- straight code of valid code at a depth
near_part : (code : PeCode) (depth : ℕ) (s : StraightPart) → depth ≤ 512 → IsSoundPart code depth s → IsNear s
near_part code depth (part.Literal v) le h = tt
near_part code depth (part.Cell k) le h = omega arith
near_part code depth (part.Unary op a) le h = tt
near_part code depth (part.Binary op a) le h = tt

pub small_straight : (code : PeCode) (depth : ℕ) (ss : List StraightPart) → depth ≤ 512 → IsSoundStraight code depth ss → IsSmallStraight ss
small_straight code depth ss le h = record { short = h.short; near = λ k n lt. near_part code depth (slice_index_or ss k n) le (h.parts k n lt) }

frame_is_near : (d label entry : ℕ) → are_near (open_frame d label entry) ≡ true
frame_is_near zero label entry = refl
frame_is_near (suc d) label entry = refl

-- ---- the blocks of an instruction

module _ (code : PeCode) (a d : ℕ) where
  purpose_is_near : (u : Purpose) → are_near (purpose_block code a d u) ≡ true
  purpose_is_near (purpose.Choose x y) = refl
  purpose_is_near (purpose.Repeat x) = refl
  purpose_is_near (purpose.Store x) = refl
  purpose_is_near (purpose.Write put.Int) = refl
  purpose_is_near (purpose.Write put.Char) = refl
  purpose_is_near (purpose.Write put.Bool) = refl

  main_is_near : (i : PeInsn) → ForSome (variable_of i) (λ k. k < 512) → ForSome (straight_of i) IsSmallStraight → are_near (main_block code a d i) ≡ true
  main_is_near (insn.UseVar k s) h q = both_near (reach k) _ (reach_near First k (h k refl)) refl
  main_is_near (insn.PassVar k y) h q = both_near (reach k) _ (reach_near First k (h k refl)) refl
  main_is_near (insn.LetVar k y) h q = both_near (reach k) _ (reach_near First k (h k refl)) (frame_is_near d _ _)
  main_is_near (insn.Bind y) h q = frame_is_near d _ _
  main_is_near (insn.Let n y) h q = frame_is_near d _ _
  main_is_near (insn.LetData v y) h q = frame_is_near d _ _
  main_is_near (insn.Knot n y) h q = frame_is_near d _ _
  main_is_near (insn.Escape y) h q = frame_is_near d _ _
  main_is_near (insn.Accept y) h q = frame_is_near d _ _
  main_is_near (insn.Eval ss) h q = both_near (straight_code ss 0 (label_of code a + 1)) _ (straight_near ss 0 (label_of code a + 1) (q ss refl).near) refl
  main_is_near (insn.Set k ss) h q =
      both_near (straight_code ss 0 (label_of code a + 1)) _ (straight_near ss 0 (label_of code a + 1) (q ss refl).near) (both_near (reach k) _ (reach_near First k (h k refl)) refl)
  main_is_near (insn.EvalFor ss u) h q = both_near (straight_code ss 0 (label_of code a + faults_from u)) (purpose_block code a d u) (straight_near ss 0 (label_of code a + faults_from u) (q ss refl).near) (purpose_is_near u)
  main_is_near i h q = refl

  left_is_near : (op : BinOp) (y : ℕ) → are_near (left_block code a d op y) ≡ true
  left_is_near And y = refl
  left_is_near Or y = refl
  left_is_near op y = refl

  unary_faults_are_near : (op : UnOp) → list_all are_near (unary_fault_blocks code a d op) ≡ true
  unary_faults_are_near Neg = refl
  unary_faults_are_near Chr = refl
  unary_faults_are_near op = refl

  binary_faults_are_near : (op : BinOp) → list_all are_near (binary_fault_blocks code a d op) ≡ true
  binary_faults_are_near Add = refl
  binary_faults_are_near Sub = refl
  binary_faults_are_near Mul = refl
  binary_faults_are_near Div = refl
  binary_faults_are_near Rem = refl
  binary_faults_are_near op = refl

  before_others : (b : List Micro) (bs : List (List Micro)) → are_near b ≡ true → list_all are_near bs ≡ true → list_all are_near (b ∷ bs) ≡ true
  before_others b bs h k = and_from (are_near b) (list_all are_near bs) h k

  all_are_near : (i : PeInsn) → ForSome (variable_of i) (λ k. k < 512) → ForSome (straight_of i) IsSmallStraight → list_all are_near (blocks_of code a d i) ≡ true
  all_are_near (insn.Op1 op x) h q = unary_faults_are_near op
  all_are_near (insn.Op2 op x y) h q = before_others (left_block code a d op y) (binary_fault_blocks code a d op) (left_is_near op y) (binary_faults_are_near op)
  all_are_near (insn.New x y) h q = before_others (new_block code a d y) [] (frame_is_near d _ _) refl
  all_are_near (insn.Cells x y) h q =
      before_others (bind d (label_of code y) (entry_number code y)) ((Fault Range a ∷ []) ∷ []) (frame_is_near d _ _) refl
  all_are_near (insn.Cond x y z) h q = refl
  all_are_near (insn.Case x ys) h q = refl
  all_are_near (insn.Seq x y) h q = refl
  all_are_near (insn.Assign x y) h q = refl
  all_are_near (insn.While x y) h q = refl
  all_are_near (insn.Loop x) h q = refl
  all_are_near (insn.Eval ss) h q = before_others (main_block code a d (insn.Eval ss)) (fault_blocks ss) (main_is_near (insn.Eval ss) h q) (faults_near ss)
  all_are_near (insn.Set k ss) h q = before_others (main_block code a d (insn.Set k ss)) (fault_blocks ss) (main_is_near (insn.Set k ss) h q) (faults_near ss)
  all_are_near (insn.EvalFor ss (purpose.Repeat x)) h q =
      before_others (main_block code a d (insn.EvalFor ss (purpose.Repeat x))) (again_block code a d ∷ fault_blocks ss) (main_is_near (insn.EvalFor ss (purpose.Repeat x)) h q) (faults_near ss)
  all_are_near (insn.EvalFor ss u) h q = before_others (main_block code a d (insn.EvalFor ss u)) (fault_blocks ss) (main_is_near (insn.EvalFor ss u) h q) (faults_near ss)
  all_are_near i h q = before_others (main_block code a d i) [] (main_is_near i h q) refl

near_at : (bs : List (List Micro)) (k : ℕ) → list_all are_near bs ≡ true → are_near (slice_index_or bs k []) ≡ true
near_at [] k h = refl
near_at (b ∷ bs) zero h = (and_parts (are_near b) (list_all are_near bs) h).0
near_at (b ∷ bs) (suc k) h = near_at bs k (and_parts (are_near b) (list_all are_near bs) h).1

pub block_is_near : (code : PeCode) (a d : ℕ) (i : PeInsn) (k : ℕ) → ForSome (variable_of i) (λ k. k < 512) → ForSome (straight_of i) IsSmallStraight → are_near (slice_index_or (blocks_of code a d i) k []) ≡ true
block_is_near code a d i k h q = near_at (blocks_of code a d i) k (all_are_near code a d i h q)

-- its own block, where there was nothing before
pub main_from_nothing : (code : PeCode) (a d : ℕ) (i : PeInsn) (old new : List Micro) → ForSome (variable_of i) (λ k. k < 512) → ForSome (straight_of i) IsSmallStraight → old ≡ [] → new ≡ old ++ main_block code a d i → are_near new ≡ true
main_from_nothing code a d i old new h q none e =
    let near : List Micro → Type 0 = λ ms. are_near ms ≡ true in
    subst near (sym (e ∙ ap (λ (l : List Micro). l ++ main_block code a d i) none)) (main_is_near code a d i h q)

-- and any other
pub block_from_nothing : (code : PeCode) (a d : ℕ) (i : PeInsn) (k : ℕ) (old new : List Micro) → ForSome (variable_of i) (λ k. k < 512) → ForSome (straight_of i) IsSmallStraight → old ≡ []
    → new ≡ old ++ slice_index_or (blocks_of code a d i) k [] → are_near new ≡ true
block_from_nothing code a d i k old new h q none e =
    let near : List Micro → Type 0 = λ ms. are_near ms ≡ true in
    subst near (sym (e ∙ ap (λ (l : List Micro). l ++ slice_index_or (blocks_of code a d i) k []) none)) (block_is_near code a d i k h q)
