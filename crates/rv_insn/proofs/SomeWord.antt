-- Each encodable instruction has a word.
use Rattle.std.proofs.Common.{◌≡◌, ℕ, ◌+◌, ◌*◌, ◌/◌, ◌%◌, ◌^◌, ◌<◌, ℤ, refl, lit<, sym, ap, ◌∙◌, arith}
use Rattle.rv_insn.specs.declared.instructions.Insn.{Insn}
use Rattle.rv_insn.specs.declared.instructions.Insn.TheVariants.{Reg, Imm, Shift, Load, Store, Branch, Lui, Auipc, Jal, Jalr, Fence, Ecall}
use Rattle.rv_insn.specs.declared.instructions.RegOp.{RegOp}
use Rattle.rv_insn.specs.declared.instructions.RegOp.TheVariants.{Add}
use Rattle.rv_insn.specs.declared.instructions.ShiftOp.{ShiftOp}
use Rattle.rv_insn.specs.declared.instructions.ShiftOp.TheVariants.{Slli, Srli, Srai, Slliw, Srliw, Sraiw}
use Rattle.rv_insn.specs.declared.instructions.ImmOp.{ImmOp}
use Rattle.rv_insn.specs.declared.instructions.ImmOp.TheVariants.{Addi}
use Rattle.rv_insn.specs.declared.instructions.LoadOp.{LoadOp}
use Rattle.rv_insn.specs.declared.instructions.LoadOp.TheVariants.{Lb}
use Rattle.rv_insn.specs.declared.instructions.StoreOp.{StoreOp}
use Rattle.rv_insn.specs.declared.instructions.StoreOp.TheVariants.{Sb}
use Rattle.rv_insn.specs.declared.instructions.BranchOp.{BranchOp}
use Rattle.rv_insn.specs.declared.instructions.BranchOp.TheVariants.{Beq}
use Rattle.rv_insn.specs.Fields.{bits, twos_complement, opcode_of, rd_of, funct3_of, rs1_of, rs2_of, funct7_of, i_immediate, s_immediate, b_immediate, u_immediate, j_immediate}
use Rattle.rv_insn.specs.Encoding.{IsWordOf, IsEncodable, IsWithin, IsEven, Code, code, ShortCode, short_code, short_code_of, shift_code_of, amount_bits, reg_code, shift_code, imm_code, load_code, store_code, branch_code}
use Rattle.rv_insn.proofs.WordFields.{has_these, word_of, low_bits, low_12, low_13, low_21}

-- the fixed fields of an operation fit
record Fits (c : Code) : Type 0 where
  top : c.top < 2 ^ 7
  funct3 : c.funct3 < 2 ^ 3
  opcode : c.opcode < 2 ^ 7

record FitsShort (c : ShortCode) : Type 0 where
  funct3 : c.funct3 < 2 ^ 3
  opcode : c.opcode < 2 ^ 7

reg_fits : (op : RegOp) → Fits (reg_code op)
reg_fits Add = record { top = lit< tt; funct3 = lit< tt; opcode = lit< tt }
reg_fits op = record { top = lit< tt; funct3 = lit< tt; opcode = lit< tt }

imm_fits : (op : ImmOp) → FitsShort (imm_code op)
imm_fits Addi = record { funct3 = lit< tt; opcode = lit< tt }
imm_fits op = record { funct3 = lit< tt; opcode = lit< tt }

load_fits : (op : LoadOp) → FitsShort (load_code op)
load_fits Lb = record { funct3 = lit< tt; opcode = lit< tt }
load_fits op = record { funct3 = lit< tt; opcode = lit< tt }

store_fits : (op : StoreOp) → FitsShort (store_code op)
store_fits Sb = record { funct3 = lit< tt; opcode = lit< tt }
store_fits op = record { funct3 = lit< tt; opcode = lit< tt }

branch_fits : (op : BranchOp) → FitsShort (branch_code op)
branch_fits Beq = record { funct3 = lit< tt; opcode = lit< tt }
branch_fits op = record { funct3 = lit< tt; opcode = lit< tt }

-- a word of format I with these fields
record IsI (c : ShortCode) (rd rs1 : ℕ) (imm : ℤ) (w : ℕ) : Type 0 where
  fits : w < 2 ^ 32
  fixed : short_code_of w ≡ c
  rd_is : rd_of w ≡ rd
  rs1_is : rs1_of w ≡ rs1
  imm_is : i_immediate w ≡ imm

fixed_is : (c : ShortCode) (w : ℕ) → funct3_of w ≡ c.funct3 → opcode_of w ≡ c.opcode → short_code_of w ≡ c
fixed_is c w a b = ap (λ x. short_code x (opcode_of w)) a ∙ ap (λ x. short_code c.funct3 x) b

i_word : (c : ShortCode) (rd rs1 : ℕ) (imm : ℤ) → FitsShort c → rd < 32 → rs1 < 32 → IsWithin (2 ^ 11) imm → (w : ℕ) × IsI c rd rs1 imm w
i_word c rd rs1 imm f d s m =
    let raw : ℕ = low_bits 12 imm in
    let l = low_12 imm m in
    let q = has_these (raw / 2 ^ 5) (raw % 2 ^ 5) rs1 c.funct3 rd c.opcode (omega (arith, l.0)) (omega arith) s f.funct3 d f.opcode in
    let w : ℕ = word_of (raw / 2 ^ 5) (raw % 2 ^ 5) rs1 c.funct3 rd c.opcode in
    let high : bits w 31 20 ≡ raw = omega (arith, q.funct7_is, q.rs2_is, q.fits) in
    (w, record { fits = q.fits; fixed = fixed_is c w q.funct3_is q.opcode_is; rd_is = q.rd_is; rs1_is = q.rs1_is; imm_is = ap (λ x. twos_complement 12 x) high ∙ l.1 })

record IsS (c : ShortCode) (rs2 rs1 : ℕ) (imm : ℤ) (w : ℕ) : Type 0 where
  fits : w < 2 ^ 32
  fixed : short_code_of w ≡ c
  rs2_is : rs2_of w ≡ rs2
  rs1_is : rs1_of w ≡ rs1
  imm_is : s_immediate w ≡ imm

s_word : (c : ShortCode) (rs2 rs1 : ℕ) (imm : ℤ) → FitsShort c → rs2 < 32 → rs1 < 32 → IsWithin (2 ^ 11) imm → (w : ℕ) × IsS c rs2 rs1 imm w
s_word c rs2 rs1 imm f t s m =
    let raw : ℕ = low_bits 12 imm in
    let l = low_12 imm m in
    let q = has_these (raw / 2 ^ 5) rs2 rs1 c.funct3 (raw % 2 ^ 5) c.opcode (omega (arith, l.0)) t s f.funct3 (omega arith) f.opcode in
    let w : ℕ = word_of (raw / 2 ^ 5) rs2 rs1 c.funct3 (raw % 2 ^ 5) c.opcode in
    let parts : bits w 31 25 * 2 ^ 5 + bits w 11 7 ≡ raw = omega (arith, q.funct7_is, q.rd_is) in
    (w, record { fits = q.fits; fixed = fixed_is c w q.funct3_is q.opcode_is; rs2_is = q.rs2_is; rs1_is = q.rs1_is; imm_is = ap (λ x. twos_complement 12 x) parts ∙ l.1 })

record IsB (c : ShortCode) (rs1 rs2 : ℕ) (offset : ℤ) (w : ℕ) : Type 0 where
  fits : w < 2 ^ 32
  fixed : short_code_of w ≡ c
  rs1_is : rs1_of w ≡ rs1
  rs2_is : rs2_of w ≡ rs2
  offset_is : b_immediate w ≡ offset

b_parts : (w raw : ℕ) → w < 2 ^ 32 → raw < 2 ^ 13 → raw % 2 ≡ 0 → funct7_of w ≡ raw / 2 ^ 12 * 2 ^ 6 + raw / 2 ^ 5 % 2 ^ 6 → rd_of w ≡ raw / 2 % 2 ^ 4 * 2 + raw / 2 ^ 11 % 2
    → bits w 31 31 * 2 ^ 12 + bits w 7 7 * 2 ^ 11 + bits w 30 25 * 2 ^ 5 + bits w 11 8 * 2 ≡ raw
b_parts w raw h b e f d = omega arith

b_word : (c : ShortCode) (rs1 rs2 : ℕ) (offset : ℤ) → FitsShort c → rs1 < 32 → rs2 < 32 → IsWithin (2 ^ 12) offset → IsEven offset → (w : ℕ) × IsB c rs1 rs2 offset w
b_word c rs1 rs2 offset f s t m e =
    let raw : ℕ = low_bits 13 offset in
    let l = low_13 offset m e in
    let top : ℕ = raw / 2 ^ 12 * 2 ^ 6 + raw / 2 ^ 5 % 2 ^ 6 in
    let low : ℕ = raw / 2 % 2 ^ 4 * 2 + raw / 2 ^ 11 % 2 in
    let q = has_these top rs2 rs1 c.funct3 low c.opcode (omega (arith, l.0)) t s f.funct3 (omega arith) f.opcode in
    let w : ℕ = word_of top rs2 rs1 c.funct3 low c.opcode in
    let parts = b_parts w raw q.fits l.0 l.1 q.funct7_is q.rd_is in
    (w, record { fits = q.fits; fixed = fixed_is c w q.funct3_is q.opcode_is; rs1_is = q.rs1_is; rs2_is = q.rs2_is; offset_is = ap (λ x. twos_complement 13 x) parts ∙ l.2 })

record IsU (opcode rd high w : ℕ) : Type 0 where
  fits : w < 2 ^ 32
  opcode_is : opcode_of w ≡ opcode
  rd_is : rd_of w ≡ rd
  high_is : u_immediate w ≡ high

u_word : (opcode rd high : ℕ) → opcode < 2 ^ 7 → rd < 32 → high < 2 ^ 20 → (w : ℕ) × IsU opcode rd high w
u_word opcode rd high o d h =
    (high * 2 ^ 12 + rd * 2 ^ 7 + opcode, record { fits = omega arith; opcode_is = omega arith; rd_is = omega arith; high_is = omega arith })

j_parts : (w raw : ℕ) → raw < 2 ^ 21 → raw % 2 ≡ 0 → u_immediate w ≡ raw / 2 ^ 20 * 2 ^ 19 + raw / 2 % 2 ^ 10 * 2 ^ 9 + raw / 2 ^ 11 % 2 * 2 ^ 8 + raw / 2 ^ 12 % 2 ^ 8
    → bits w 31 31 * 2 ^ 20 + bits w 19 12 * 2 ^ 12 + bits w 20 20 * 2 ^ 11 + bits w 30 21 * 2 ≡ raw
j_parts w raw b e u = omega arith

j_is : (w raw : ℕ) → raw < 2 ^ 21 → raw % 2 ≡ 0 → u_immediate w ≡ raw / 2 ^ 20 * 2 ^ 19 + raw / 2 % 2 ^ 10 * 2 ^ 9 + raw / 2 ^ 11 % 2 * 2 ^ 8 + raw / 2 ^ 12 % 2 ^ 8
    → j_immediate w ≡ twos_complement 21 raw
j_is w raw b e u = ap (λ x. twos_complement 21 x) (j_parts w raw b e u)

-- a shift's word, by the fixed fields, with the amount above bit 19
shift_parts : (top amount w : ℕ) → top < 2 ^ 6 → amount < 2 ^ 6 → w < 2 ^ 32 → funct7_of w ≡ top * 2 + amount / 2 ^ 5 → rs2_of w ≡ amount % 2 ^ 5 → (bits w 31 26 ≡ top) × (bits w 25 20 ≡ amount)
shift_parts top amount w t a h f r = (omega arith, omega arith)

code_is : (top funct3 opcode top' funct3' opcode' : ℕ) → top ≡ top' → funct3 ≡ funct3' → opcode ≡ opcode' → code top funct3 opcode ≡ code top' funct3' opcode'
code_is top funct3 opcode top' funct3' opcode' a b c = cc

full_word : (op : ShiftOp) (top funct3 rd rs1 amount : ℕ) → top < 2 ^ 6 → funct3 < 2 ^ 3 → rd < 32 → rs1 < 32 → amount < 2 ^ 6 → amount_bits op ≡ 6 → shift_code op ≡ code top funct3 0b0010011
    → (w : ℕ) × IsWordOf (Shift op rd rs1 amount) w
full_word op top funct3 rd rs1 amount t f d s a n c =
    let q = has_these (top * 2 + amount / 2 ^ 5) (amount % 2 ^ 5) rs1 funct3 rd 0b0010011 (omega arith) (omega arith) s f d (lit< tt) in
    let w : ℕ = word_of (top * 2 + amount / 2 ^ 5) (amount % 2 ^ 5) rs1 funct3 rd 0b0010011 in
    let p = shift_parts top amount w t a q.fits q.funct7_is q.rs2_is in (
      w,
      record {
        fits = q.fits;
        fields = (
          ap (λ k. shift_code_of k w) n ∙ code_is (bits w 31 26) (funct3_of w) (opcode_of w) top funct3 0b0010011 p.0 q.funct3_is q.opcode_is ∙ sym c,
          q.rd_is,
          q.rs1_is,
          ap (λ k. bits w (19 + k) 20) n ∙ p.1,
        );
      },
    )

short_word : (op : ShiftOp) (top funct3 rd rs1 amount : ℕ) → top < 2 ^ 7 → funct3 < 2 ^ 3 → rd < 32 → rs1 < 32 → amount < 2 ^ 5 → amount_bits op ≡ 5 → shift_code op ≡ code top funct3 0b0011011
    → (w : ℕ) × IsWordOf (Shift op rd rs1 amount) w
short_word op top funct3 rd rs1 amount t f d s a n c =
    let q = has_these top amount rs1 funct3 rd 0b0011011 t a s f d (lit< tt) in
    let w : ℕ = word_of top amount rs1 funct3 rd 0b0011011 in (
      w,
      record {
        fits = q.fits;
        fields = (
          ap (λ k. shift_code_of k w) n ∙ code_is (bits w 31 25) (funct3_of w) (opcode_of w) top funct3 0b0011011 q.funct7_is q.funct3_is q.opcode_is ∙ sym c,
          q.rd_is,
          q.rs1_is,
          ap (λ k. bits w (19 + k) 20) n ∙ q.rs2_is,
        );
      },
    )

shift_word : (op : ShiftOp) (rd rs1 amount : ℕ) → rd < 32 → rs1 < 32 → amount < 2 ^ amount_bits op → (w : ℕ) × IsWordOf (Shift op rd rs1 amount) w
shift_word Slli rd rs1 amount d s a = full_word Slli 0b000000 0b001 rd rs1 amount (lit< tt) (lit< tt) d s a refl refl
shift_word Srli rd rs1 amount d s a = full_word Srli 0b000000 0b101 rd rs1 amount (lit< tt) (lit< tt) d s a refl refl
shift_word Srai rd rs1 amount d s a = full_word Srai 0b010000 0b101 rd rs1 amount (lit< tt) (lit< tt) d s a refl refl
shift_word Slliw rd rs1 amount d s a = short_word Slliw 0b0000000 0b001 rd rs1 amount (lit< tt) (lit< tt) d s a refl refl
shift_word Srliw rd rs1 amount d s a = short_word Srliw 0b0000000 0b101 rd rs1 amount (lit< tt) (lit< tt) d s a refl refl
shift_word Sraiw rd rs1 amount d s a = short_word Sraiw 0b0100000 0b101 rd rs1 amount (lit< tt) (lit< tt) d s a refl refl

pub some_word : (i : Insn) → IsEncodable i → (w : ℕ) × IsWordOf i w
some_word (Lui rd high) h =
    let q = u_word 0b0110111 rd high (lit< tt) h.0 h.1 in (q.0, record { fits = q.1.fits; fields = (q.1.opcode_is, q.1.rd_is, q.1.high_is) })
some_word (Auipc rd high) h =
    let q = u_word 0b0010111 rd high (lit< tt) h.0 h.1 in (q.0, record { fits = q.1.fits; fields = (q.1.opcode_is, q.1.rd_is, q.1.high_is) })
some_word (Jal rd offset) h =
    let raw : ℕ = low_bits 21 offset in
    let l = low_21 offset h.1 h.2 in
    let high : ℕ = raw / 2 ^ 20 * 2 ^ 19 + raw / 2 % 2 ^ 10 * 2 ^ 9 + raw / 2 ^ 11 % 2 * 2 ^ 8 + raw / 2 ^ 12 % 2 ^ 8 in
    let q = u_word 0b1101111 rd high (lit< tt) h.0 (omega (arith, l.0)) in
    (q.0, record { fits = q.1.fits; fields = (q.1.opcode_is, q.1.rd_is, j_is q.0 raw l.0 l.1 q.1.high_is ∙ l.2) })
some_word (Jalr rd base imm) h =
    let q = i_word (short_code 0b000 0b1100111) rd base imm (record { funct3 = lit< tt; opcode = lit< tt }) h.0 h.1 h.2 in
    (q.0, record { fits = q.1.fits; fields = (q.1.fixed, q.1.rd_is, q.1.rs1_is, q.1.imm_is) })
some_word (Branch op rs1 rs2 offset) h =
    let q = b_word (branch_code op) rs1 rs2 offset (branch_fits op) h.0 h.1 h.2 h.3 in
    (q.0, record { fits = q.1.fits; fields = (q.1.fixed, q.1.rs1_is, q.1.rs2_is, q.1.offset_is) })
some_word (Load op rd base imm) h =
    let q = i_word (load_code op) rd base imm (load_fits op) h.0 h.1 h.2 in
    (q.0, record { fits = q.1.fits; fields = (q.1.fixed, q.1.rd_is, q.1.rs1_is, q.1.imm_is) })
some_word (Store op rs2 base imm) h =
    let q = s_word (store_code op) rs2 base imm (store_fits op) h.0 h.1 h.2 in
    (q.0, record { fits = q.1.fits; fields = (q.1.fixed, q.1.rs2_is, q.1.rs1_is, q.1.imm_is) })
some_word (Imm op rd rs1 imm) h =
    let q = i_word (imm_code op) rd rs1 imm (imm_fits op) h.0 h.1 h.2 in
    (q.0, record { fits = q.1.fits; fields = (q.1.fixed, q.1.rd_is, q.1.rs1_is, q.1.imm_is) })
some_word (Shift op rd rs1 amount) h = shift_word op rd rs1 amount h.0 h.1 h.2
some_word (Reg op rd rs1 rs2) h =
    let f = reg_fits op in
    let c : Code = reg_code op in
    let q = has_these c.top rs2 rs1 c.funct3 rd c.opcode f.top h.2 h.1 f.funct3 h.0 f.opcode in
    let w : ℕ = word_of c.top rs2 rs1 c.funct3 rd c.opcode in
    (w, record { fits = q.fits; fields = (code_is (funct7_of w) (funct3_of w) (opcode_of w) c.top c.funct3 c.opcode q.funct7_is q.funct3_is q.opcode_is, q.rd_is, q.rs1_is, q.rs2_is) })
some_word (Fence rd rs1 imm) h =
    let q = i_word (short_code 0b000 0b0001111) rd rs1 imm (record { funct3 = lit< tt; opcode = lit< tt }) h.0 h.1 h.2 in
    (q.0, record { fits = q.1.fits; fields = (q.1.fixed, q.1.rd_is, q.1.rs1_is, q.1.imm_is) })
some_word Ecall h = (115, record { fits = lit< tt; fields = refl })
