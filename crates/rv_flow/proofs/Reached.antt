-- Where instructions lead, and the address of each item of code.
use Rattle.std.proofs.Common.{◌≡◌, ℕ, ◌+◌, ◌*◌, ◌^◌, ◌<◌, ◌≤◌, Bool, true, false, if◌then◌else◌, length, All, Some, refl, sym, ◌∙◌, ap, subst, arith, slice_index}
use Rattle.std.specs.List.{slice_get}
use Rattle.rv_insn.specs.declared.events.Event.{Event}
use Rattle.rv_insn.specs.declared.events.Event.TheVariants.{Going}
use Rattle.rv_insn.specs.declared.instructions.Insn.{Insn}
use Rattle.rv_insn.specs.Program.{Program, code_start}
use Rattle.rv_insn.specs.Step.{Core, reg}
use Rattle.rv_insn.specs.Run.{World, run}
use Rattle.rv_insn.proofs.Runs.{run_none, run_splits}
use Rattle.rv_asm.specs.declared.items.Item.{Item}
use Rattle.rv_asm.specs.declared.items.Item.TheVariants.{Mark, Plain, FarTo}
use Rattle.rv_asm.specs.Meaning.{Does}
use Rattle.rv_word.specs.Word.{Data, Code}
use Rattle.rv_flow.specs.Lowering.{blocks_items, items_of}
use Rattle.rv_flow.specs.Laws.{IsSameOutside}
use Rattle.rv_flow.proofs.Lists.{mapped_is}
use Rattle.rv_flow.proofs.Shown.{Scratch, view, Shows}
use Rattle.rv_flow.proofs.Lines.{Did, Behind, Away, Still, Over, Unsaid}

-- ---- addresses

-- a machine at an address
pub record IsAt (address : ℕ) (core : Core) : Type 0 where
  pub pc_is : core.pc ≡ address
  pub count : length core.regs ≡ 32
  pub zero_is : reg core 0 ≡ 0

-- a program that code's items stand in: the one with the number k at the address `at k`, and each label at `label_at`
pub record IsPlaced (code : Code) (p : Program) (at label_at : ℕ → ℕ) : Type 0 where
  pub does : (k : ℕ) (item : Item) (core : Core) → slice_get (items_of code) k ≡ Some item → IsAt (at k) core → Does p label_at (at (k + 1)) core item
  pub behind : (k : ℕ) (insn : Insn) → slice_get (items_of code) k ≡ Some (Plain insn) → at (k + 1) ≡ at k + 4
  pub low : (k : ℕ) → at k < 2 ^ 32
  pub entries : (k : ℕ) → k ≤ length code.entries → at k ≡ code_start + 8 * k
  pub marks : (k label : ℕ) → slice_get (items_of code) k ≡ Some (Mark label) → label_at label ≡ at k
  pub entries_few : length code.entries ≤ 2097152
  pub table_is : p.table ≡ code.table
  pub table_few : length code.table ≤ 1048576
  pub table_fits : All (λ w. w < 2 ^ 64) code.table
  pub places_are : p.places ≡ code.places
  pub places_few : length code.places ≤ 524288

-- the first items are the far jumps to the entries
pub entry_item : (code : Code) (k : ℕ) → k < length code.entries → slice_get (items_of code) k ≡ Some (FarTo (slice_index code.entries k))
entry_item code k below = mapped_is (λ label. FarTo label) code.entries (blocks_items (length code.entries) (length code.table) 0 code.blocks) k below

-- ---- where a machine comes

-- between `least` and `most` instructions lead to an address with this data
pub record Comes (p : Program) (w : World) (least most address : ℕ) (e : Data) : Type 0 where
  pub count : ℕ
  pub above : least ≤ count
  pub below : count ≤ most
  pub scratch : Scratch
  pub shows : Shows (run p count w) address (view e scratch)

-- at most so many lead to an instruction that repeats itself for ever
pub record Sticks (p : Program) (w : World) (most : ℕ) (e : Data) : Type 0 where
  pub count : ℕ
  pub below : count ≤ most
  pub still : run p 1 (run p count w) ≡ run p count w
  pub going : (run p count w).ending ≡ Going
  pub same : IsSameOutside (run p count w) e

-- at most so many lead to an end
pub record Finishes (p : Program) (w : World) (most : ℕ) (how : Event) (e : Data) : Type 0 where
  pub count : ℕ
  pub below : count ≤ most
  pub ends : (run p count w).ending ≡ how
  pub same : IsSameOutside (run p count w) e

-- a label of a block, and the way to it
pub record ComesTo (code : Code) (p : Program) (label_at : ℕ → ℕ) (w : World) (least most label : ℕ) (e : Data) : Type 0 where
  pub within : label < length code.blocks
  pub comes : Comes p w least most (label_at label) e

-- the machine comes to the same, where `next` is the address behind
abbrev pub IsReached : Code → Program → (ℕ → ℕ) → ℕ → World → ℕ → ℕ → Did → Type 0
IsReached code p label_at next w least most (Behind e) = Comes p w least most next e
IsReached code p label_at next w least most (Away label e) = ComesTo code p label_at w least most label e
IsReached code p label_at next w least most (Still e) = Sticks p w most e
IsReached code p label_at next w least most (Over how e) = Finishes p w most how e
IsReached code p label_at next w least most Unsaid = Unit {0}

-- ---- some instructions before

pub comes_later : (p : Program) (w : World) (k least most address : ℕ) (e : Data) (least2 most2 : ℕ) → Comes p (run p k w) least most address e → least2 ≤ k + least → k + most ≤ most2 → Comes p w least2 most2 address e
comes_later p w k least most address e least2 most2 c h i =
    let P : World → Type 0 = λ x. Shows x address (view e c.scratch) in
    let above = c.above in
    let below = c.below in
    record { count = k + c.count; above = omega arith; below = omega arith; scratch = c.scratch; shows = subst P (sym (run_splits p k c.count w)) c.shows }

pub sticks_later : (p : Program) (w : World) (k most : ℕ) (e : Data) (most2 : ℕ) → Sticks p (run p k w) most e → k + most ≤ most2 → Sticks p w most2 e
sticks_later p w k most e most2 c i =
    let same : run p (k + c.count) w ≡ run p c.count (run p k w) = run_splits p k c.count w in
    let P : World → Type 0 = λ x. run p 1 x ≡ x in
    let Q : World → Type 0 = λ x. IsSameOutside x e in
    let below = c.below in
    record { count = k + c.count; below = omega arith; still = subst P (sym same) c.still; going = ap (λ x. x.ending) same ∙ c.going; same = subst Q (sym same) c.same }

pub finishes_later : (p : Program) (w : World) (k most : ℕ) (how : Event) (e : Data) (most2 : ℕ) → Finishes p (run p k w) most how e → k + most ≤ most2 → Finishes p w most2 how e
finishes_later p w k most how e most2 c i =
    let same : run p (k + c.count) w ≡ run p c.count (run p k w) = run_splits p k c.count w in
    let Q : World → Type 0 = λ x. IsSameOutside x e in
    let below = c.below in
    record { count = k + c.count; below = omega arith; ends = ap (λ x. x.ending) same ∙ c.ends; same = subst Q (sym same) c.same }

pub later : (code : Code) (p : Program) (label_at : ℕ → ℕ) (next : ℕ) (w : World) (k least most : ℕ) (d : Did) (least2 most2 : ℕ) → IsReached code p label_at next (run p k w) least most d → least2 ≤ k + least → k + most ≤ most2
    → IsReached code p label_at next w least2 most2 d
later code p label_at next w k least most (Behind e) least2 most2 c h i = comes_later p w k least most next e least2 most2 c h i
later code p label_at next w k least most (Away label e) least2 most2 c h i = record { within = c.within; comes = comes_later p w k least most (label_at label) e least2 most2 c.comes h i }
later code p label_at next w k least most (Still e) least2 most2 c h i = sticks_later p w k most e most2 c i
later code p label_at next w k least most (Over how e) least2 most2 c h i = finishes_later p w k most how e most2 c i
later code p label_at next w k least most Unsaid least2 most2 c h i = tt

-- ---- at once

pub comes_now : (p : Program) (w : World) (most address : ℕ) (e : Data) (h : Scratch) → Shows w address (view e h) → Comes p w 0 most address e
comes_now p w most address e h s =
    let P : World → Type 0 = λ x. Shows x address (view e h) in
    record { count = 0; above = omega arith; below = omega arith; scratch = h; shows = subst P (sym (run_none p w)) s }

pub sticks_now : (p : Program) (w : World) (most : ℕ) (e : Data) → run p 1 w ≡ w → w.ending ≡ Going → IsSameOutside w e → Sticks p w most e
sticks_now p w most e still going same =
    let none : run p 0 w ≡ w = run_none p w in
    let P : World → Type 0 = λ x. run p 1 x ≡ x in
    let Q : World → Type 0 = λ x. IsSameOutside x e in
    record { count = 0; below = omega arith; still = subst P (sym none) still; going = ap (λ x. x.ending) none ∙ going; same = subst Q (sym none) same }

-- a condition decides which
pub reached_either : (P : Did → Type 0) (b : Bool) (x y : Did) → (b ≡ true → P x) → (b ≡ false → P y) → P (if b then x else y)
reached_either P true x y f g = f refl
reached_either P false x y f g = g refl
