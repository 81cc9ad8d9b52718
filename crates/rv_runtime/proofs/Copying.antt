-- Displays are copied, in rounds of eight words and a last one of four.
use Rattle.std.proofs.Common.{◌≡◌, ℕ, zero, suc, ◌+◌, ◌*◌, ◌^◌, ◌<◌, ◌≤◌, pos, if◌then◌else◌, List, [], ◌∷◌, ◌++◌, length, refl, sym, ap, ◌∙◌, arith, lt-ltb}
use Rattle.std.proofs.lemmas.Bool.{lt-leb}
use Rattle.rv_insn.specs.declared.instructions.RegOp.TheVariants.{Sub}
use Rattle.rv_insn.specs.declared.instructions.ImmOp.TheVariants.{Addi, Sltiu}
use Rattle.rv_insn.specs.declared.instructions.BranchOp.TheVariants.{Bne}
use Rattle.rv_insn.specs.Operations.{reg_value, imm_value}
use Rattle.rv_word.specs.declared.micros.Register.TheVariants.{Zero, Top, First, Second, Third}
use Rattle.rv_word.specs.declared.micros.Micro.{Micro}
use Rattle.rv_word.specs.declared.micros.Micro.TheVariants.{Imm, Alu, Window, Test, Jump}
use Rattle.rv_word.specs.Word.{Data, Code, word_address}
use Rattle.rv_runtime.specs.Routines.{go, copy_display, copy_few, copied_words}
use Rattle.rv_runtime.specs.Laws.{HoldsRoutines, KeepsRest, AreCopied, Copies, DisplaysAreCopied, at_block}
use Rattle.rv_runtime.proofs.Runs.{Comes, at, from, join, wider}
use Rattle.rv_runtime.proofs.Straight.{behind_all, straight, jumps, branches, passes}
use Rattle.rv_runtime.proofs.Held.{copy_display-is, copy_few-is}
use Rattle.rv_runtime.proofs.Digits.{bne-same, bne-other}
use Rattle.rv_runtime.proofs.Words.{KeepsMost, CopiesRow, windows, copies_row, copied-also}

-- ---- operations on addresses

pub moved : (a k : ℕ) → a + k ≤ 2 ^ 28 → imm_value Addi (word_address a) (8 * k) ≡ word_address (a + k)
unfolding imm_value
moved a k small = omega arith

between : (t n : ℕ) → t + n ≤ 2 ^ 28 → reg_value Sub (word_address (t + n)) (word_address t) ≡ 8 * n
unfolding reg_value
between t n small = omega arith

less-one : (x y : ℕ) → x < y → imm_value Sltiu x y ≡ 1
unfolding imm_value
less-one x y h = ap (λ b. if b then 1 else 0) (lt-ltb x y h)

more-zero : (x y : ℕ) → y ≤ x → imm_value Sltiu x y ≡ 0
unfolding imm_value
more-zero x y h = ap (λ b. if b then 1 else 0) (lt-leb (suc x) y (omega arith))

-- ---- the blocks in parts

abbrev count_micros : List Micro
count_micros = Alu Sub First Second Top ∷ Imm Sltiu First First (pos 64) ∷ []

abbrev eight_micros : List Micro
eight_micros = Imm Addi Third Third (pos 64) ∷ Imm Addi Top Top (pos 64) ∷ []

abbrev again_micros : List Micro
again_micros = Test Bne Top Second copy_display ∷ Jump go ∷ []

abbrev round_micros : List Micro
round_micros = Window Third 8 ∷ Window Top 8 ∷ copied_words 8 0 (eight_micros ++ again_micros)

abbrev four_micros : List Micro
four_micros = Imm Addi Top Top (pos 32) ∷ []

-- ---- copying

-- with the steps from the block on
pub record Copied (code : Code) (a t n most : ℕ) (e : Data) : Type 0 where
  pub after : Data
  pub comes : Comes code (at_block code copy_display e) (at_block code go after) 1 most
  pub frame : after.named.frame ≡ e.named.frame
  pub top : after.named.top ≡ word_address (t + n)
  pub keeps : KeepsRest e after
  pub words : AreCopied a t n e.words after.words

-- the registers and words before so many words are copied
pub record IsBegun (a t n : ℕ) (e : Data) : Type 0 where
  pub third : e.named.third ≡ word_address a
  pub top : e.named.top ≡ word_address t
  pub second : e.named.second ≡ word_address (t + n)
  pub apart : a + n ≤ t
  pub room : t + n ≤ length e.words
  pub few : length e.words ≤ 2 ^ 27

-- how many bytes are left, against 64
counted : (a t n : ℕ) (e : Data) → IsBegun a t n e → reg_value Sub e.named.second e.named.top ≡ 8 * n
counted a t n e b =
    let room = b.room in
    let few = b.few in
    rw (b.second, b.top) (between t n (omega arith))

from_there : (a t n : ℕ) (before after : List ℕ) → AreCopied (a + 0) (t + 0) n before after → AreCopied a t n before after
from_there a t n before after c = let x : a + 0 ≡ a = omega arith in let y : t + 0 ≡ t = omega arith in rw (x, y) at c

-- eight words are copied, and others may be left
record Rounded (code : Code) (a t : ℕ) (e : Data) : Type 0 where
  after : Data
  comes : Comes code (at_block code copy_display e) (at again_micros after) 1 39
  frame : after.named.frame ≡ e.named.frame
  third : after.named.third ≡ word_address (a + 8)
  top : after.named.top ≡ word_address (t + 8)
  second : after.named.second ≡ e.named.second
  keeps : KeepsRest e after
  words : AreCopied a t 8 e.words after.words

module _ (code : Code) (h : HoldsRoutines code) where
  -- fewer than eight words are left
  four : (a t : ℕ) (e : Data) → IsBegun a t 4 e → Copied code a t 4 64 e
  four a t e b =
      let f : Data = behind_all count_micros e in
      let apart = b.apart in
      let room = b.room in
      let few = b.few in
      let first : f.named.first ≡ 1 = ap (λ x. imm_value Sltiu x 64) (counted a t 4 e b) ∙ less-one 32 64 (omega arith) in
      let count : Comes code (at_block code copy_display e) (at (Test Bne First Zero copy_few ∷ round_micros) f) 2 2 = from (copy_display-is code h) (straight code count_micros (Test Bne First Zero copy_few ∷ round_micros) e refl) in
      let branch : Comes code (at (Test Bne First Zero copy_few ∷ round_micros) f) (at_block code copy_few f) 1 3 = branches code Bne First Zero copy_few round_micros f (bne-other f.named.first 0 (λ z. omega (arith, first, z))) in
      let window : Comes code (at_block code copy_few f) (at (copied_words 4 0 (four_micros ++ Jump go ∷ [])) f) 2 16 =
      from (copy_few-is code h) (join (windows code Third 4 a (Window Top 4 ∷ copied_words 4 0 (four_micros ++ Jump go ∷ [])) f b.third (omega arith)) (windows code Top 4 t (copied_words 4 0 (four_micros ++ Jump go ∷ [])) f b.top (omega arith))) in
      let row : CopiesRow code 4 0 a t (four_micros ++ Jump go ∷ []) f = copies_row code 4 0 a t (four_micros ++ Jump go ∷ []) f b.third b.top (omega arith) (omega arith) in
      let kept : KeepsMost f row.after = row.keeps in
      let g : Data = behind_all four_micros row.after in
      let last : Comes code (at (four_micros ++ Jump go ∷ []) row.after) (at (Jump go ∷ []) g) 1 1 = straight code four_micros (Jump go ∷ []) row.after refl in
      let top : g.named.top ≡ word_address (t + 4) = ap (λ x. imm_value Addi x 32) (kept.top ∙ b.top) ∙ moved t 4 (omega arith) in
      record {
        after = g;
        comes = wider 1 64 (omega arith) (omega arith) (join count (join branch (join window (join row.comes (join last (jumps code go [] g))))));
        frame = kept.frame;
        top = top;
        keeps = record { context = kept.context; datum = kept.datum; input = kept.input; output = kept.output };
        words = from_there a t 4 f.words row.after.words row.words;
      }

  -- at least eight are left
  eight : (a t n : ℕ) (e : Data) → IsBegun a t n e → 8 ≤ n → Rounded code a t e
  eight a t n e b many =
      let f : Data = behind_all count_micros e in
      let apart = b.apart in
      let room = b.room in
      let few = b.few in
      let first : f.named.first ≡ 0 = ap (λ x. imm_value Sltiu x 64) (counted a t n e b) ∙ more-zero (8 * n) 64 (omega arith) in
      let count : Comes code (at_block code copy_display e) (at (Test Bne First Zero copy_few ∷ round_micros) f) 2 2 = from (copy_display-is code h) (straight code count_micros (Test Bne First Zero copy_few ∷ round_micros) e refl) in
      let pass : Comes code (at (Test Bne First Zero copy_few ∷ round_micros) f) (at round_micros f) 1 3 = passes code Bne First Zero copy_few round_micros f (bne-same f.named.first 0 first) in
      let window : Comes code (at round_micros f) (at (copied_words 8 0 (eight_micros ++ again_micros)) f) 2 16 =
      join (windows code Third 8 a (Window Top 8 ∷ copied_words 8 0 (eight_micros ++ again_micros)) f b.third (omega arith)) (windows code Top 8 t (copied_words 8 0 (eight_micros ++ again_micros)) f b.top (omega arith)) in
      let row : CopiesRow code 8 0 a t (eight_micros ++ again_micros) f = copies_row code 8 0 a t (eight_micros ++ again_micros) f b.third b.top (omega arith) (omega arith) in
      let kept : KeepsMost f row.after = row.keeps in
      let g : Data = behind_all eight_micros row.after in
      let last : Comes code (at (eight_micros ++ again_micros) row.after) (at again_micros g) 2 2 = straight code eight_micros again_micros row.after refl in
      record {
        after = g;
        comes = wider 1 39 (omega arith) (omega arith) (join count (join pass (join window (join row.comes last))));
        frame = kept.frame;
        third = ap (λ x. imm_value Addi x 64) (kept.third ∙ b.third) ∙ moved a 8 (omega arith);
        top = ap (λ x. imm_value Addi x 64) (kept.top ∙ b.top) ∙ moved t 8 (omega arith);
        second = kept.second;
        keeps = record { context = kept.context; datum = kept.datum; input = kept.input; output = kept.output };
        words = from_there a t 8 f.words row.after.words row.words;
      }

  pub copies : (rounds a t : ℕ) (e : Data) → IsBegun a t (4 * suc rounds) e → Copied code a t (4 * suc rounds) (64 * suc rounds) e
  copies zero a t e b = four a t e b
  copies (suc zero) a t e b =
      let r : Rounded code a t e = eight a t 8 e b (omega arith) in
      let g : Data = r.after in
      let end : Comes code (at again_micros g) (at_block code go g) 2 5 = join (passes code Bne Top Second copy_display (Jump go ∷ []) g (bne-same g.named.top g.named.second (r.top ∙ sym (r.second ∙ b.second)))) (jumps code go [] g) in
      record { after = g; comes = wider 1 128 (omega arith) (omega arith) (join r.comes end); frame = r.frame; top = r.top; keeps = r.keeps; words = r.words }
  copies (suc (suc rounds)) a t e b =
      let n : ℕ = 4 * suc (suc (suc rounds)) in
      let m : ℕ = 4 * suc rounds in
      let apart = b.apart in
      let room = b.room in
      let few = b.few in
      let r : Rounded code a t e = eight a t n e b (omega arith) in
      let g : Data = r.after in
      let kept : KeepsRest e g = r.keeps in
      let second : g.named.second ≡ word_address (t + 8 + m) = (let z : word_address (t + n) ≡ word_address (t + 8 + m) = omega arith in r.second ∙ b.second ∙ z) in
      let size : length g.words ≡ length e.words = r.words.size in
      let again : Comes code (at again_micros g) (at_block code copy_display g) 1 3 = branches code Bne Top Second copy_display (Jump go ∷ []) g (bne-other g.named.top g.named.second (λ z. omega (arith, z, r.top, second))) in
      let begun : IsBegun (a + 8) (t + 8) m g = record { third = r.third; top = r.top; second = second; apart = omega arith; room = omega (arith, size); few = omega (arith, size) } in
      let rest : Copied code (a + 8) (t + 8) m (64 * suc rounds) g = copies rounds (a + 8) (t + 8) g begun in
      let on : KeepsRest g rest.after = rest.keeps in
      record {
        after = rest.after;
        comes = wider 1 (64 * suc (suc (suc rounds))) (omega arith) (omega arith) (join r.comes (join again rest.comes));
        frame = rest.frame ∙ r.frame;
        top = rest.top ∙ (let z : word_address (t + 8 + m) ≡ word_address (t + n) = omega arith in z);
        keeps = record { context = on.context ∙ kept.context; datum = on.datum ∙ kept.datum; input = on.input ∙ kept.input; output = on.output ∙ kept.output };
        words = copied-also a t 8 m (a + 8) (t + 8) n e.words g.words rest.after.words refl refl (omega arith) (omega arith) r.words rest.words;
      }

-- ---- the law

as_law : (code : Code) (a t n most : ℕ) (e : Data) → most ≤ 16 * n → Copied code a t n most e → Copies code a t n e
as_law code a t n most e low c =
    let cost = c.comes.cost in
    record {
      after = c.after;
      leads = record { steps = c.comes.steps; some = c.comes.least_is; leads = c.comes.leads; cost = omega arith };
      frame = c.frame;
      top = c.top;
      keeps = c.keeps;
      words = c.words;
    }

pub displays_are_copied : DisplaysAreCopied
displays_are_copied code a t n e h b =
    let begun : IsBegun a t n e = record { third = b.third; top = b.top; second = b.second; apart = b.apart; room = b.room; few = b.few } in
    let fours : IsBegun a t (4 * suc b.rounds) e = rw b.fours at begun in
    rw b.fours (as_law code a t (4 * suc b.rounds) (64 * suc b.rounds) e (omega arith) (copies code h b.rounds a t e fours))
