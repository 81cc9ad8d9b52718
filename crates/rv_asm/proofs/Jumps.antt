-- Near and far forms of jumps and branches, and the form that takes an address, do what their items say.
use Rattle.std.proofs.Common.{◌≡◌, ◌≢◌, ◌⊎◌, ℕ, zero, suc, ◌+◌, ◌*◌, ◌/◌, ◌%◌, ◌^◌, ◌<◌, ℤ, pos, List, [], ◌∷◌, length, Bool, true, false, not, refl, sym, ap, ◌∙◌, subst, arith, inl, inr, lit<, lit≤, if◌then◌else◌}
use Rattle.std.proofs.lemmas.Bool.{cases_eq}
use Rattle.std.specs.List.{slice_index}
use Rattle.std.specs.Int.{cast_unsigned, w64}
use Rattle.rv_insn.specs.declared.instructions.BranchOp.{BranchOp}
use Rattle.rv_insn.specs.declared.instructions.BranchOp.TheVariants.{Beq, Bne, Blt, Bge, Bltu, Bgeu}
use Rattle.rv_insn.specs.declared.instructions.ImmOp.TheVariants.{Addi}
use Rattle.rv_insn.specs.declared.instructions.Insn.{Insn}
use Rattle.rv_insn.specs.declared.instructions.Insn.TheVariants.{Imm, Branch, Auipc, Jal, Jalr}
use Rattle.rv_insn.specs.Operations.{imm_value, is_taken, upper_value}
use Rattle.rv_insn.specs.Program.{Program}
use Rattle.rv_insn.specs.Step.{Core, reg, set_reg, with_reg, displaced, jumped, advanced, going, execute}
use Rattle.rv_asm.specs.Meaning.{Writes}
use Rattle.rv_asm.specs.Forms.{opposite, leads_far, IsFar, IsNearJump, IsNearBranch, IsFarBranch, IsAddress}
use Rattle.rv_asm.proofs.Steps.{Holds, Stands, goes_first, length-set_reg, written_is, others_stay, Has, writes, has_first, has_more, auipc_does, imm_does}

-- ---- near jumps

jal_does : (p : Program) (rd a to : ℕ) (offset : ℤ) (c : Core) → c.pc ≡ a → displaced a offset ≡ to → execute p (Jal rd offset) c ≡ going (jumped to (with_reg rd (a + 4) c))
unfolding execute
jal_does p rd a to offset c e l = rw (e, l) refl

near_has : (p : Program) (rd a to : ℕ) (offset : ℤ) (c : Core) → Holds p a (Jal rd offset) → c.pc ≡ a → displaced a offset ≡ to → Has p 1 c rd (a + 4) to
near_has p rd a to offset c h at l =
    let d : Core = jumped to (with_reg rd (a + 4) c) in
    record {
      after = d;
      goes = goes_first p 0 a (Jal rd offset) c d d h at (jal_does p rd a to offset c at l) refl;
      written = record { pc_is = refl; count = length-set_reg c.regs rd (a + 4); regs = λ r k. refl; stack = refl; status = refl };
    }

-- ---- far jumps

-- where a jump through x31 leads
lands : (x to : ℕ) (low : ℤ) → displaced x low ≡ to → to % 4 ≡ 0 → displaced x low / 2 * 2 ≡ to
lands x to low e even = rw e (omega arith)

jalr_does : (p : Program) (rd a x to : ℕ) (low : ℤ) (d : Core) → d.pc ≡ a → reg d 31 ≡ x → displaced x low / 2 * 2 ≡ to → execute p (Jalr rd 31 low) d ≡ going (jumped to (with_reg rd (a + 4) d))
unfolding execute
jalr_does p rd a x to low d e r l = rw (e, r, l) refl

-- every register but x31 is what one write makes of it
hidden : (regs : List ℕ) (rd x v r : ℕ) → length regs ≡ 32 → rd < 32 → (r ≢ 31) ⊎ (r ≡ rd) → slice_index (set_reg (set_reg regs 31 x) rd v) r ≡ slice_index (set_reg regs rd v) r
hidden regs zero x v r long small (inl other) = others_stay regs 31 x r other
hidden regs zero x v r long small (inr same) = others_stay regs 31 x r (omega arith)
hidden regs (suc d) x v r long small h = elim (cases_eq r (suc d)) [
  | inl same ↦
      (let P : ℕ → Type 0 = λ q. slice_index (set_reg (set_reg regs 31 x) (suc d) v) q ≡ slice_index (set_reg regs (suc d) v) q in
      let nonzero : suc d ≢ 0 = omega arith in
      let more : suc d < length (set_reg regs 31 x) = omega (arith, length-set_reg regs 31 x) in
      subst P (sym same) (written_is (set_reg regs 31 x) (suc d) v nonzero more ∙ sym (written_is regs (suc d) v nonzero (omega arith))))
  | inr other ↦
      (let free : r ≢ 31 = elim h [ inl k ↦ k | inr same ↦ absurd (other same) ] in
      others_stay (set_reg regs 31 x) (suc d) v r other ∙ others_stay regs 31 x r free ∙ sym (others_stay regs (suc d) v r other))
]

far_has : (p : Program) (rd a high to : ℕ) (low : ℤ) (c : Core) → rd < 32 → length c.regs ≡ 32 → Holds p a (Auipc 31 high) → Holds p (a + 4) (Jalr rd 31 low) → c.pc ≡ a → leads_far a high low ≡ to → to % 4 ≡ 0
    → Has p 2 c rd (a + 8) to
far_has p rd a high to low c small long h1 h2 at leads even =
    let x : ℕ = (a + upper_value high) % 2 ^ 64 in
    let d : Core = advanced (with_reg 31 x c) in
    let e : Core = jumped to (with_reg rd (a + 8) d) in
    let here : d.pc ≡ a + 4 = ap (λ n. n + 4) at in
    let scratch : reg d 31 ≡ x = written_is c.regs 31 x (omega arith) (omega arith) in
    let there : execute p (Jalr rd 31 low) d ≡ going e = jalr_does p rd (a + 4) x to low d here scratch (lands x to low leads even) ∙ ap (λ v. going (jumped to (with_reg rd v d))) (omega arith) in
    record {
      after = e;
      goes = goes_first p 1 a (Auipc 31 high) c d e h1 at (auipc_does p 31 high a c at) (goes_first p 0 (a + 4) (Jalr rd 31 low) d e e h2 here there refl);
      written = record {
        pc_is = refl;
        count = length-set_reg (set_reg c.regs 31 x) rd (a + 8) ∙ length-set_reg c.regs 31 x;
        regs = λ r k. hidden c.regs rd x (a + 8) r long small k;
        stack = refl;
        status = refl;
      };
    }

-- ---- forms of jumps

-- a near jump, and a far one, with the address behind them
pub near_jump_does : (p : Program) (rd a to next : ℕ) (form : List Insn) (c : Core) → IsNearJump rd a to form → Stands p a form → c.pc ≡ a → a + 4 * length form ≡ next → Writes p 2 rd next to c
near_jump_does p rd a to next form c f s at e =
    let T : List Insn → Type 0 = λ is. Stands p a is in
    let stands : Stands p a (Jal rd f.offset ∷ []) = subst T f.is s in
    let long : a + 4 ≡ next = (let n : length form ≡ 1 = ap (λ (is : List Insn). length is) f.is in omega arith) in
    let Q : ℕ → Type 0 = λ v. Has p 1 c rd v to in
    writes p 1 2 rd next to to c (lit≤ tt) (lit≤ tt) refl (subst Q long (near_has p rd a to f.offset c stands.0 at f.leads))

far_writes : (p : Program) (rd a to : ℕ) (form : List Insn) (c : Core) → rd < 32 → length c.regs ≡ 32 → IsFar rd a to form → Stands p a form → c.pc ≡ a → to % 4 ≡ 0 → Has p 2 c rd (a + 8) to
far_writes p rd a to form c small long f s at even =
    let T : List Insn → Type 0 = λ is. Stands p a is in
    let stands : Stands p a (Auipc 31 f.high ∷ Jalr rd 31 f.low ∷ []) = subst T f.is s in
    far_has p rd a f.high to f.low c small long stands.0 stands.1.0 at f.leads even

pub far_jump_does : (p : Program) (rd a to next : ℕ) (form : List Insn) (c : Core) → rd < 32 → length c.regs ≡ 32 → IsFar rd a to form → Stands p a form → c.pc ≡ a → to % 4 ≡ 0 → a + 4 * length form ≡ next
    → Writes p 2 rd next to c
far_jump_does p rd a to next form c small count f s at even e =
    let long : a + 8 ≡ next = (let n : length form ≡ 2 = ap (λ (is : List Insn). length is) f.is in omega arith) in
    let Q : ℕ → Type 0 = λ v. Has p 2 c rd v to in
    writes p 2 2 rd next to to c (lit≤ tt) (lit≤ tt) refl (subst Q long (far_writes p rd a to form c small count f s at even))

-- a jump that leaves no address: what x0 is written doesn't matter
plain_jump : (p : Program) (n v to : ℕ) (c : Core) → Has p n c 0 v to → Has p n c 0 0 to
plain_jump p n v to c h = record {
  after = h.after;
  goes = h.goes;
  written = record { pc_is = h.written.pc_is; count = h.written.count; regs = h.written.regs; stack = h.written.stack; status = h.written.status };
}

pub near_goes : (p : Program) (a to : ℕ) (form : List Insn) (c : Core) → IsNearJump 0 a to form → Stands p a form → c.pc ≡ a → Writes p 2 0 0 to c
near_goes p a to form c f s at =
    let T : List Insn → Type 0 = λ is. Stands p a is in
    let stands : Stands p a (Jal 0 f.offset ∷ []) = subst T f.is s in
    writes p 1 2 0 0 to to c (lit≤ tt) (lit≤ tt) refl (plain_jump p 1 (a + 4) to c (near_has p 0 a to f.offset c stands.0 at f.leads))

pub far_goes : (p : Program) (a to : ℕ) (form : List Insn) (c : Core) → length c.regs ≡ 32 → IsFar 0 a to form → Stands p a form → c.pc ≡ a → to % 4 ≡ 0 → Writes p 2 0 0 to c
far_goes p a to form c count f s at even =
    writes p 2 2 0 0 to to c (lit≤ tt) (lit≤ tt) refl (plain_jump p 2 (a + 8) to c (far_writes p 0 a to form c (lit< tt) count f s at even))

-- ---- branches

branch_does : (p : Program) (op : BranchOp) (rs1 rs2 a to : ℕ) (offset : ℤ) (taken : Bool) (c : Core) → c.pc ≡ a → is_taken op (reg c rs1) (reg c rs2) ≡ taken → displaced a offset ≡ to
    → execute p (Branch op rs1 rs2 offset) c ≡ going (jumped (if taken then to else a + 4) c)
unfolding execute
branch_does p op rs1 rs2 a to offset true c at e l = rw (e, at, l) refl
branch_does p op rs1 rs2 a to offset false c at e l = rw (e, at) refl

jumped_has : (p : Program) (a to : ℕ) (i : Insn) (c : Core) → Holds p a i → c.pc ≡ a → execute p i c ≡ going (jumped to c) → Has p 1 c 0 0 to
jumped_has p a to i c h at x = record {
  after = jumped to c;
  goes = goes_first p 0 a i c (jumped to c) (jumped to c) h at x refl;
  written = record { pc_is = refl; count = refl; regs = λ r k. refl; stack = refl; status = refl };
}

pub near_branch_does : (p : Program) (op : BranchOp) (rs1 rs2 a to next : ℕ) (form : List Insn) (c : Core) → IsNearBranch op rs1 rs2 a to form → Stands p a form → c.pc ≡ a → a + 4 * length form ≡ next
    → Writes p 3 0 0 (if is_taken op (reg c rs1) (reg c rs2) then to else next) c
near_branch_does p op rs1 rs2 a to next form c f s at e =
    let T : List Insn → Type 0 = λ is. Stands p a is in
    let stands : Stands p a (Branch op rs1 rs2 f.offset ∷ []) = subst T f.is s in
    let long : a + 4 ≡ next = (let n : length form ≡ 1 = ap (λ (is : List Insn). length is) f.is in omega arith) in
    let taken : Bool = is_taken op (reg c rs1) (reg c rs2) in
    let there : (if taken then to else a + 4) ≡ (if taken then to else next) = ap (λ n. if taken then to else n) long in
    writes p 1 3 0 0 _ _ c (lit≤ tt) (lit≤ tt) there
    (jumped_has p a (if taken then to else a + 4) (Branch op rs1 rs2 f.offset) c stands.0 at (branch_does p op rs1 rs2 a to f.offset taken c at refl f.leads))

-- the opposite comparison
twice_not : (b : Bool) → not (not b) ≡ b
twice_not true = refl
twice_not false = refl

opposite_is : (op : BranchOp) (x y : ℕ) → is_taken (opposite op) x y ≡ not (is_taken op x y)
unfolding is_taken
opposite_is Beq x y = refl
opposite_is Bne x y = sym (twice_not _)
opposite_is Blt x y = refl
opposite_is Bge x y = sym (twice_not _)
opposite_is Bltu x y = refl
opposite_is Bgeu x y = sym (twice_not _)

-- over the far jump
over : (a : ℕ) → a < 2 ^ 32 → displaced a (pos 12) ≡ a + 12
over a h = omega arith

-- a step that goes on with the registers as they are
before_has : (p : Program) (n a to : ℕ) (i : Insn) (c : Core) → Holds p a i → c.pc ≡ a → execute p i c ≡ going (jumped (a + 4) c) → Has p n (jumped (a + 4) c) 0 0 to → Has p (suc n) c 0 0 to
before_has p n a to i c h at x has = record {
  after = has.after;
  goes = goes_first p n a i c (jumped (a + 4) c) has.after h at x has.goes;
  written = record { pc_is = has.written.pc_is; count = has.written.count; regs = has.written.regs; stack = has.written.stack; status = has.written.status };
}

far_branch_by : (p : Program) (op : BranchOp) (rs1 rs2 a to high : ℕ) (low : ℤ) (taken : Bool) (c : Core) → length c.regs ≡ 32 → a < 2 ^ 32
    → Holds p a (Branch (opposite op) rs1 rs2 (pos 12)) → Holds p (a + 4) (Auipc 31 high) → Holds p (a + 4 + 4) (Jalr 0 31 low) → c.pc ≡ a → leads_far (a + 4) high low ≡ to → to % 4 ≡ 0
    → is_taken op (reg c rs1) (reg c rs2) ≡ taken → Writes p 3 0 0 (if taken then to else a + 12) c
far_branch_by p op rs1 rs2 a to high low true c count small h1 h2 h3 at leads even e =
    let free : is_taken (opposite op) (reg c rs1) (reg c rs2) ≡ false = opposite_is op (reg c rs1) (reg c rs2) ∙ ap not e in
    let first : execute p (Branch (opposite op) rs1 rs2 (pos 12)) c ≡ going (jumped (a + 4) c) = branch_does p (opposite op) rs1 rs2 a (a + 12) (pos 12) false c at free (over a small) in
    let rest : Has p 2 (jumped (a + 4) c) 0 0 to = plain_jump p 2 (a + 4 + 8) to (jumped (a + 4) c) (far_has p 0 (a + 4) high to low (jumped (a + 4) c) (lit< tt) count h2 h3 refl leads even) in
    writes p 3 3 0 0 to to c (lit≤ tt) (lit≤ tt) refl (before_has p 2 a to (Branch (opposite op) rs1 rs2 (pos 12)) c h1 at first rest)
far_branch_by p op rs1 rs2 a to high low false c count small h1 h2 h3 at leads even e =
    let free : is_taken (opposite op) (reg c rs1) (reg c rs2) ≡ true = opposite_is op (reg c rs1) (reg c rs2) ∙ ap not e in
    let first : execute p (Branch (opposite op) rs1 rs2 (pos 12)) c ≡ going (jumped (a + 12) c) = branch_does p (opposite op) rs1 rs2 a (a + 12) (pos 12) true c at free (over a small) in
    writes p 1 3 0 0 (a + 12) (a + 12) c (lit≤ tt) (lit≤ tt) refl (jumped_has p a (a + 12) (Branch (opposite op) rs1 rs2 (pos 12)) c h1 at first)

pub far_branch_does : (p : Program) (op : BranchOp) (rs1 rs2 a to next : ℕ) (form : List Insn) (c : Core) → length c.regs ≡ 32 → a < 2 ^ 32 → IsFarBranch op rs1 rs2 a to form → Stands p a form → c.pc ≡ a → to % 4 ≡ 0
    → a + 4 * length form ≡ next → Writes p 3 0 0 (if is_taken op (reg c rs1) (reg c rs2) then to else next) c
far_branch_does p op rs1 rs2 a to next form c count small f s at even e =
    let T : List Insn → Type 0 = λ is. Stands p a is in
    let whole : form ≡ Branch (opposite op) rs1 rs2 (pos 12) ∷ Auipc 31 f.far.high ∷ Jalr 0 31 f.far.low ∷ [] = f.is ∙ ap (λ (is : List Insn). Branch (opposite op) rs1 rs2 (pos 12) ∷ is) f.far.is in
    let stands : Stands p a (Branch (opposite op) rs1 rs2 (pos 12) ∷ Auipc 31 f.far.high ∷ Jalr 0 31 f.far.low ∷ []) = subst T whole s in
    let long : a + 12 ≡ next = (let n : length form ≡ 3 = ap (λ (is : List Insn). length is) whole in omega arith) in
    let taken : Bool = is_taken op (reg c rs1) (reg c rs2) in
    let Q : ℕ → Type 0 = λ n. Writes p 3 0 0 (if taken then to else n) c in
    subst Q long (far_branch_by p op rs1 rs2 a to f.far.high f.far.low taken c count small stands.0 stands.1.0 stands.1.1.0 at f.far.leads even refl)

-- ---- addresses

sum_is : (x to : ℕ) (low : ℤ) → displaced x low ≡ to → imm_value Addi x (cast_unsigned w64 low) ≡ to
unfolding imm_value
sum_is x to low e = e

pub address_does : (p : Program) (rd a to next : ℕ) (form : List Insn) (c : Core) → rd < 32 → length c.regs ≡ 32 → IsAddress rd a to form → Stands p a form → c.pc ≡ a → a + 4 * length form ≡ next → Writes p 2 rd to next c
address_does p rd a to next form c small count f s at e =
    let T : List Insn → Type 0 = λ is. Stands p a is in
    let stands : Stands p a (Auipc rd f.high ∷ Imm Addi rd rd f.low ∷ []) = subst T f.is s in
    let long : a + 4 + 4 ≡ next = (let n : length form ≡ 2 = ap (λ (is : List Insn). length is) f.is in omega arith) in
    let x : ℕ = (a + upper_value f.high) % 2 ^ 64 in
    let first : Has p 1 c rd x (a + 4) = has_first p a rd x (Auipc rd f.high) c stands.0 at (auipc_does p rd f.high a c at) in
    writes p 2 2 rd to (a + 4 + 4) next c (lit≤ tt) (lit≤ tt) long (has_more p 1 (a + 4) rd x to (Imm Addi rd rd f.low) c small count first stands.1.0 (imm_does p Addi rd x to f.low (sum_is x to f.low f.leads)))
