-- What a machine shows of the word machine, and the registers that only lowered code uses.
use Rattle.std.proofs.Common.{◌≡◌, ℕ, ◌*◌, ◌^◌, ◌<◌, ◌≤◌, true, false, nat_eq, if◌then◌else◌, List, length, slice_index, slice_set, refl, ◌∙◌, arith, length-set, lit<}
use Rattle.std.proofs.lemmas.List.{get_or-set_other, get_or-set_same}
use Rattle.rv_insn.specs.declared.events.Event.TheVariants.{Going}
use Rattle.rv_insn.specs.declared.events.Status.TheVariants.{Running}
use Rattle.rv_insn.specs.Program.{table_start, stack_start}
use Rattle.rv_insn.specs.Memory.{doublewords}
use Rattle.rv_insn.specs.Step.{reg, set_reg}
use Rattle.rv_insn.specs.Run.{World}
use Rattle.rv_word.specs.declared.micros.Register.{Register}
use Rattle.rv_word.specs.declared.micros.Register.TheVariants.{Zero, Frame, Context, Top, Datum, First, Second, Third}
use Rattle.rv_word.specs.Word.{Named, Data, get, set, limit}
use Rattle.rv_flow.specs.Lowering.{number_of}

-- the registers that lowered code may write
pub data Dest : Type 0 where
  N : Register → Dest
  X10 X11 X17 X30 X31 : Dest

-- those that it may read: the bounds of the regions too
pub data Source : Type 0 where
  R : Dest → Source
  X2 X3 X4 : Source

abbrev pub dest_number : Dest → ℕ
dest_number (N r) = number_of r
dest_number X10 = 10
dest_number X11 = 11
dest_number X17 = 17
dest_number X30 = 30
dest_number X31 = 31

abbrev pub source_number : Source → ℕ
source_number (R d) = dest_number d
source_number X2 = 2
source_number X3 = 3
source_number X4 = 4

-- what the word machine doesn't see
pub record Scratch : Type 0 where
  pub x10 : ℕ
  pub x11 : ℕ
  pub x17 : ℕ
  pub x30 : ℕ
  pub x31 : ℕ

pub record View : Type 0 where
  pub held : Data
  pub scratch : Scratch

abbrev pub view : Data → Scratch → View
view e h = record { held = e; scratch = h }

abbrev pub value : View → Dest → ℕ
value v (N r) = get v.held.named r
value v X10 = v.scratch.x10
value v X11 = v.scratch.x11
value v X17 = v.scratch.x17
value v X30 = v.scratch.x30
value v X31 = v.scratch.x31

abbrev pub read : View → Source → ℕ
read v (R d) = value v d
read v X2 = stack_start
read v X3 = limit v.held
read v X4 = table_start

abbrev pub put_named : Named → Dest → ℕ → Named
put_named n (N r) x = set n r x
put_named n X10 x = n
put_named n X11 x = n
put_named n X17 x = n
put_named n X30 x = n
put_named n X31 x = n

abbrev pub put_scratch : Scratch → Dest → ℕ → Scratch
put_scratch h (N r) x = h
put_scratch h X10 x = record h { x10 = x }
put_scratch h X11 x = record h { x11 = x }
put_scratch h X17 x = record h { x17 = x }
put_scratch h X30 x = record h { x30 = x }
put_scratch h X31 x = record h { x31 = x }

abbrev pub put : View → Dest → ℕ → View
put v d x = record { held = record v.held { named = put_named v.held.named d x }; scratch = put_scratch v.scratch d x }

-- the machine shows a view at an address
pub record Shows (w : World) (address : ℕ) (v : View) : Type 0 where
  pub pc_is : w.core.pc ≡ address
  pub running : w.core.status ≡ Running
  pub going : w.ending ≡ Going
  pub count : length w.core.regs ≡ 32
  pub regs : (s : Source) → reg w.core (source_number s) ≡ read v s
  pub words : doublewords w.core.stack ≡ v.held.words
  pub size : length w.core.stack ≡ 8 * length v.held.words
  pub few : length v.held.words ≤ 2 ^ 27
  pub input : w.input ≡ v.held.input
  pub output : w.output ≡ v.held.output

-- ---- a register that was written

-- what holds of the number and the value of a register that is written, and of those of each other, holds of each; nothing is written to x0
either_put : (P : ℕ → ℕ → Type 0) (v : View) (d : Dest) (x : ℕ) (s : Source) → (nat_eq (dest_number d) 0 ≡ false → P (dest_number d) x)
    → (nat_eq (source_number s) (dest_number d) ≡ false → P (source_number s) (read v s)) → (dest_number d ≡ 0 → P (source_number s) (read v s)) → P (source_number s) (read (put v d x) s)
either_put P v (N Zero) x s same other none = none refl
either_put P v (N Frame) x (R (N Frame)) same other none = same refl
either_put P v (N Frame) x s same other none = other refl
either_put P v (N Context) x (R (N Context)) same other none = same refl
either_put P v (N Context) x s same other none = other refl
either_put P v (N Top) x (R (N Top)) same other none = same refl
either_put P v (N Top) x s same other none = other refl
either_put P v (N Datum) x (R (N Datum)) same other none = same refl
either_put P v (N Datum) x s same other none = other refl
either_put P v (N First) x (R (N First)) same other none = same refl
either_put P v (N First) x s same other none = other refl
either_put P v (N Second) x (R (N Second)) same other none = same refl
either_put P v (N Second) x s same other none = other refl
either_put P v (N Third) x (R (N Third)) same other none = same refl
either_put P v (N Third) x s same other none = other refl
either_put P v X10 x (R X10) same other none = same refl
either_put P v X10 x (R (N Zero)) same other none = other refl
either_put P v X10 x s same other none = other refl
either_put P v X11 x (R X11) same other none = same refl
either_put P v X11 x (R (N Zero)) same other none = other refl
either_put P v X11 x s same other none = other refl
either_put P v X17 x (R X17) same other none = same refl
either_put P v X17 x (R (N Zero)) same other none = other refl
either_put P v X17 x s same other none = other refl
either_put P v X30 x (R X30) same other none = same refl
either_put P v X30 x (R (N Zero)) same other none = other refl
either_put P v X30 x s same other none = other refl
either_put P v X31 x (R X31) same other none = same refl
either_put P v X31 x (R (N Zero)) same other none = other refl
either_put P v X31 x s same other none = other refl

dest_below : (d : Dest) → dest_number d < 32
dest_below (N Zero) = lit< tt
dest_below (N r) = lit< tt
dest_below d = lit< tt

unwritten : (regs : List ℕ) (rd x r : ℕ) → nat_eq r rd ≡ false → slice_index (set_reg regs rd x) r ≡ slice_index regs r
unwritten regs rd x r h = elim (nat_eq rd 0) as (λ b. slice_index (if b then regs else slice_set regs rd x) r ≡ slice_index regs r) [
  | true ↦ refl
  | false ↦ get_or-set_other regs rd r x 0 (λ e. let none : ⊥ = grind arith in none)
]

lost : (regs : List ℕ) (rd x r : ℕ) → rd ≡ 0 → slice_index (set_reg regs rd x) r ≡ slice_index regs r
lost regs rd x r h = let e : nat_eq rd 0 ≡ true = grind arith in rw e refl

kept : (regs : List ℕ) (rd x : ℕ) → nat_eq rd 0 ≡ false → rd < length regs → slice_index (set_reg regs rd x) rd ≡ x
kept regs rd x h below = rw h (get_or-set_same regs rd x 0 below)

pub length-set_reg : (regs : List ℕ) (rd x : ℕ) → length (set_reg regs rd x) ≡ length regs
length-set_reg regs rd x = elim (nat_eq rd 0) as (λ b. length (if b then regs else slice_set regs rd x) ≡ length regs) [
  | true ↦ refl
  | false ↦ length-set regs rd x
]

-- what is read after a write
pub written_reads : (regs : List ℕ) (v : View) (d : Dest) (x : ℕ) (s : Source) → length regs ≡ 32 → slice_index regs (source_number s) ≡ read v s
    → slice_index (set_reg regs (dest_number d) x) (source_number s) ≡ read (put v d x) s
written_reads regs v d x s count e =
    let P : ℕ → ℕ → Type 0 = λ n y. slice_index (set_reg regs (dest_number d) x) n ≡ y in
    let below : dest_number d < length regs = (let b = dest_below d in omega arith) in
    either_put P v d x s (λ h. kept regs (dest_number d) x h below) (λ h. unwritten regs (dest_number d) x (source_number s) h ∙ e) (λ h. lost regs (dest_number d) x (source_number s) h ∙ e)
