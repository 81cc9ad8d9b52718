-- The first operations of an operator's block: they read its context and leave it.
use Rattle.std.proofs.Common.{◌≡◌, ℕ, ◌+◌, ◌*◌, ◌/◌, ◌%◌, ◌^◌, ◌<◌, ◌≤◌, true, pos, List, [], length, slice_index, slice_index_or, refl, sym, ap, ◌∙◌, subst, arith, lit<, lit≤, le-leb, lt-ltb, eq-eqb, mod-eq_of_lt, add-zero}
use Rattle.std.proofs.lemmas.Bool.{and_from}
use Rattle.fy_base.specs.declared.data.Datum.{Datum}
use Rattle.rv_insn.specs.declared.instructions.ImmOp.TheVariants.{Addi}
use Rattle.rv_insn.specs.declared.instructions.ShiftOp.TheVariants.{Slli}
use Rattle.rv_insn.specs.Operations.{imm_value, shift_value}
use Rattle.rv_insn.specs.Program.{stack_start}
use Rattle.rv_word.specs.declared.micros.Micro.{Micro}
use Rattle.rv_word.specs.Word.{Data, Code, block, limit, word_address, word_number, has_window}
use Rattle.rv_operators.specs.Operators.{word_of, operator_count, operator_blocks, fault_block, meet_operand, meet_operand_or_fault, meet_operands, meet_operands_or_fault}
use Rattle.rv_operators.specs.Laws.{HoldsOperators, at_block, IsMeeting, IsMeetingTwo, KeepsAll, MakesDatum}
use Rattle.rv_operators.proofs.Blocks.{Comes, Needs, arrives, block_comes, from_zero}

pub window_lies : (e : Data) (a c k : ℕ) → a ≡ word_address c → c + k ≤ length e.words → has_window e a k ≡ true
window_lies e a c k is le =
    and_from _ _ (le-leb stack_start a (omega arith)) (and_from _ _ (le-leb (a + 8 * k) (limit e) (omega arith)) (eq-eqb (a % 8) 0 (omega arith)))

-- the word that is read
pub read : (e : Data) (a c k v : ℕ) → a ≡ word_address c → slice_index e.words (c + k) ≡ v → slice_index e.words (word_number a + k) ≡ v
read e a c k v is h = let same : word_number a + k ≡ c + k = omega arith in ap (slice_index e.words) same ∙ h

pub moved : (a v : ℕ) → a ≡ v → v < 2 ^ 64 → imm_value Addi a 0 ≡ v
unfolding imm_value
moved a v is small = let same : a + 0 ≡ v = omega arith in ap (λ (n : ℕ). n % 2 ^ 64) same ∙ mod-eq_of_lt small

pub one_is : imm_value Addi 0 1 ≡ 1
unfolding imm_value
one_is = refl

pub least_is : shift_value Slli 1 63 ≡ 2 ^ 63
unfolding shift_value
least_is = refl

-- the data behind: the context at word c is left, and four registers have other values
abbrev pub left : Data → (c outside d f s t : ℕ) → Data
left e c outside d f s t =
    record e {
      named = record { frame = e.named.frame; context = outside; top = word_address c; datum = d; first = f; second = s; third = t };
    }

module _ (code : Code) (Q : ℕ → Data → Type 0) (rest : List Micro) where
  pub operand : (e : Data) (c entry outside : ℕ) (v : Datum) → IsMeeting e c 2 entry outside v
      → Needs code Q rest (left e c outside (word_of v) e.named.first e.named.second e.named.third) → Needs code Q (meet_operand rest) e
  operand e c entry outside v h n =
      let inside = h.inside in
      let few = h.few in (
        window_lies e e.named.context c 2 h.context h.inside,
        (
          word_address c,
          moved e.named.context (word_address c) h.context (omega arith),
          (
            outside,
            window_lies e e.named.context c 2 h.context h.inside,
            read e e.named.context c 1 outside h.context h.outside_is,
            subst (λ (d : ℕ). Needs code Q rest (left e c outside d e.named.first e.named.second e.named.third)) (sym h.datum) n,
          ),
        ),
      )

  pub operand_or_fault : (e : Data) (c entry outside : ℕ) (v : Datum) → IsMeeting e c 2 entry outside v
      → Needs code Q rest (left e c outside (word_of v) e.named.first e.named.second entry) → Needs code Q (meet_operand_or_fault rest) e
  operand_or_fault e c entry outside v h n =
      let inside = h.inside in
      let few = h.few in
      let first : slice_index e.words (c + 0) ≡ entry = ap (slice_index e.words) (add-zero c) ∙ h.entry_is in (
        window_lies e e.named.context c 2 h.context h.inside,
        (
          entry,
          window_lies e e.named.context c 1 h.context (omega arith),
          read e e.named.context c 0 entry h.context first,
          (
            word_address c,
            moved e.named.context (word_address c) h.context (omega arith),
            (
              outside,
              window_lies e e.named.context c 2 h.context h.inside,
              read e e.named.context c 1 outside h.context h.outside_is,
              subst (λ (d : ℕ). Needs code Q rest (left e c outside d e.named.first e.named.second entry)) (sym h.datum) n,
            ),
          ),
        ),
      )

  pub operands : (e : Data) (c entry outside : ℕ) (u v : Datum) → IsMeetingTwo e c entry outside u v
      → Needs code Q rest (left e c outside (word_of v) (word_of u) e.named.second e.named.third) → Needs code Q (meet_operands rest) e
  operands e c entry outside u v two n =
      let h = two.right in
      let inside = h.inside in
      let few = h.few in (
        window_lies e e.named.context c 3 h.context h.inside,
        (
          word_of u,
          window_lies e e.named.context c 3 h.context h.inside,
          read e e.named.context c 2 (word_of u) h.context two.left,
          (
            word_address c,
            moved e.named.context (word_address c) h.context (omega arith),
            (
              outside,
              window_lies e e.named.context c 2 h.context (omega arith),
              read e e.named.context c 1 outside h.context h.outside_is,
              subst (λ (d : ℕ). Needs code Q rest (left e c outside d (word_of u) e.named.second e.named.third)) (sym h.datum) n,
            ),
          ),
        ),
      )

  pub operands_or_fault : (e : Data) (c entry outside : ℕ) (u v : Datum) → IsMeetingTwo e c entry outside u v
      → Needs code Q rest (left e c outside (word_of v) (word_of u) e.named.second entry) → Needs code Q (meet_operands_or_fault rest) e
  operands_or_fault e c entry outside u v two n =
      let h = two.right in
      let inside = h.inside in
      let few = h.few in
      let first : slice_index e.words (c + 0) ≡ entry = ap (slice_index e.words) (add-zero c) ∙ h.entry_is in (
        window_lies e e.named.context c 3 h.context h.inside,
        (
          entry,
          window_lies e e.named.context c 1 h.context (omega arith),
          read e e.named.context c 0 entry h.context first,
          (
            word_of u,
            window_lies e e.named.context c 3 h.context h.inside,
            read e e.named.context c 2 (word_of u) h.context two.left,
            (
              word_address c,
              moved e.named.context (word_address c) h.context (omega arith),
              (
                outside,
                window_lies e e.named.context c 2 h.context (omega arith),
                read e e.named.context c 1 outside h.context h.outside_is,
                subst (λ (d : ℕ). Needs code Q rest (left e c outside d (word_of u) e.named.second entry)) (sym h.datum) n,
              ),
            ),
          ),
        ),
      )

-- a datum is made
pub made : (code : Code) (most meet : ℕ) (e : Data) (c outside f s t : ℕ) (w : Datum)
    → Comes code 0 most (at_block code meet (left e c outside (word_of w) f s t)) meet (MakesDatum c outside w e)
made code most meet e c outside f s t w =
    arrives code meet (MakesDatum c outside w e) most (left e c outside (word_of w) f s t)
    (record { datum = refl; top = refl; context = refl; frame = refl; keeps = record { words = refl; input = refl; output = refl } })

-- the entry of a fault, so many bytes behind that of the context
entry_moved : (entry j k bytes : ℕ) → bytes ≡ 8 * k → entry ≡ 8 * j → 8 * (j + k) < 2 ^ 64 → imm_value Addi entry bytes ≡ 8 * (j + k)
unfolding imm_value
entry_moved entry j k bytes b is small = let same : entry + bytes ≡ 8 * (j + k) = omega arith in ap (λ (n : ℕ). n % 2 ^ 64) same ∙ mod-eq_of_lt small

-- of an entry behind that of the context is come to where its label says
entered : (code : Code) (k bytes : ℕ) (e : Data) (c outside entry j d f s : ℕ) → bytes ≡ 8 * k → entry ≡ 8 * j → j + k < length code.entries → 8 * length code.entries ≤ 2 ^ 64
    → Needs code (λ label f. Comes code 0 0 (at_block code label f) (slice_index code.entries (j + k)) (KeepsAll e)) (fault_block (pos bytes)) (left e c outside d f s entry)
entered code k bytes e c outside entry j d f s b is within few =
    let same : 8 * (j + k) / 8 ≡ j + k = omega arith in (
      8 * (j + k),
      entry_moved entry j k bytes b is (omega arith),
      (
        lt-ltb (8 * (j + k) / 8) (length code.entries) (omega arith),
        subst (λ (n : ℕ). Comes code 0 0 (at_block code (slice_index code.entries n) (left e c outside d f s (8 * (j + k)))) (slice_index code.entries (j + k)) (KeepsAll e)) (sym same)
            (arrives code (slice_index code.entries (j + k)) (KeepsAll e) 0 (left e c outside d f s (8 * (j + k))) (record { words = refl; input = refl; output = refl })),
      ),
    )

-- the block of a label
pub held_block : (code : Code) (first meet k : ℕ) → HoldsOperators code first meet → k < operator_count → block code (first + k) ≡ slice_index_or (operator_blocks first meet) k []
held_block code first meet k h lt = h.blocks k lt

-- from the shared blocks of faults
pub faults_next : (code : Code) (first meet : ℕ) (e : Data) (c outside entry j d f s : ℕ) → HoldsOperators code first meet → entry ≡ 8 * j → j + 1 < length code.entries
    → Comes code 0 10 (at_block code first (left e c outside d f s entry)) (slice_index code.entries (j + 1)) (KeepsAll e)
faults_next code first meet e c outside entry j d f s h is within =
    let block_is : block code first ≡ fault_block (pos 8) = ap (block code) (sym (add-zero first)) ∙ held_block code first meet 0 h (lit< tt) in
    from_zero code 10 (at_block code first (left e c outside d f s entry)) (slice_index code.entries (j + 1)) (KeepsAll e)
    (block_comes code (slice_index code.entries (j + 1)) (KeepsAll e) 0 10 first (fault_block (pos 8)) (left e c outside d f s entry) block_is (lit≤ tt) (entered code 1 8 e c outside entry j d f s refl is within h.entries))

pub faults_after : (code : Code) (first meet : ℕ) (e : Data) (c outside entry j d f s : ℕ) → HoldsOperators code first meet → entry ≡ 8 * j → j + 2 < length code.entries
    → Comes code 0 10 (at_block code (first + 1) (left e c outside d f s entry)) (slice_index code.entries (j + 2)) (KeepsAll e)
faults_after code first meet e c outside entry j d f s h is within =
    from_zero code 10 (at_block code (first + 1) (left e c outside d f s entry)) (slice_index code.entries (j + 2)) (KeepsAll e)
    (block_comes code (slice_index code.entries (j + 2)) (KeepsAll e) 0 10 (first + 1) (fault_block (pos 16)) (left e c outside d f s entry) (held_block code first meet 1 h (lit< tt)) (lit≤ tt) (entered code 2 16 e c outside entry j d f s refl is within h.entries))
