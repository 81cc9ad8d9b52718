-- Frames are made.
use Rattle.std.proofs.Common.{◌≡◌, ℕ, zero, suc, ◌+◌, ◌*◌, ◌/◌, ◌^◌, ◌≤◌, pos, List, [], ◌∷◌, ◌++◌, length, slice_index, slice_set, refl, sym, ap, ◌∙◌, subst, arith, length-set, get_or-set_same, get_or-set_other}
use Rattle.pe_frame.specs.Frames.{frame_words}
use Rattle.rv_insn.specs.declared.instructions.RegOp.TheVariants.{Add}
use Rattle.rv_insn.specs.declared.instructions.ImmOp.TheVariants.{Addi}
use Rattle.rv_insn.specs.declared.instructions.BranchOp.TheVariants.{Bne}
use Rattle.rv_insn.specs.Operations.{reg_value, imm_value}
use Rattle.rv_word.specs.declared.micros.Register.TheVariants.{Frame, Top, Second, Third}
use Rattle.rv_word.specs.declared.micros.Micro.{Micro}
use Rattle.rv_word.specs.declared.micros.Micro.TheVariants.{Imm, Alu, Save, Test, Jump}
use Rattle.rv_word.specs.Word.{Data, Code, word_address}
use Rattle.rv_runtime.specs.Routines.{go, make_frame, copy_display}
use Rattle.rv_runtime.specs.Laws.{HoldsRoutines, KeepsRest, AreCopied, IsFrameBegun, HasFrame, FramesAreMade, at_block}
use Rattle.rv_runtime.proofs.Runs.{Comes, at, from, join, wider}
use Rattle.rv_runtime.proofs.Straight.{behind_all, straight, jumps, branches, passes}
use Rattle.rv_runtime.proofs.Held.{make_frame-is}
use Rattle.rv_runtime.proofs.Digits.{bne-same, bne-other}
use Rattle.rv_runtime.proofs.Words.{windows, saves, saved, copied-none}
use Rattle.rv_runtime.proofs.Copying.{Copied, IsBegun, moved, copies}

-- ---- sizes

-- a frame has four words, and four for each four of the display that are begun behind its first
frame_words-fours : (depth : ℕ) → 1 ≤ depth → frame_words depth ≡ 4 + 4 * ((depth + 2) / 4)
frame_words-fours zero some = absurd (omega arith)
frame_words-fours (suc d) some = omega arith

added : (t n : ℕ) → t + n ≤ 2 ^ 28 → reg_value Add (word_address t) (8 * n) ≡ word_address (t + n)
unfolding reg_value
added t n small = omega arith

same-address : (a : ℕ) → a ≤ 2 ^ 28 → imm_value Addi (word_address a) 0 ≡ word_address a
unfolding imm_value
same-address a small = omega arith

-- ---- the block in parts

abbrev frame_micros : List Micro
frame_micros = Alu Add Second Top Third ∷ Imm Addi Third Frame (pos 24) ∷ Imm Addi Frame Top (pos 0) ∷ Imm Addi Top Top (pos 32) ∷ []

abbrev end_micros : List Micro
end_micros = Test Bne Top Second copy_display ∷ Jump go ∷ []

-- the frame's first four words stand, and the rest of its display is to be copied
record IsStarted (f t depth : ℕ) (e g : Data) : Type 0 where
  frame : g.named.frame ≡ word_address t
  top : g.named.top ≡ word_address (t + 4)
  second : g.named.second ≡ word_address (t + frame_words depth)
  third : g.named.third ≡ word_address (f + 3)
  keeps : KeepsRest e g
  words : g.words ≡ slice_set e.words (t + 3) (word_address f)

-- the words of a frame whose display was copied
framed : (f t depth n : ℕ) (before after : List ℕ) → frame_words depth ≡ 4 + n → depth ≤ suc n → 1 ≤ depth → f + (2 + depth) ≤ t → t + frame_words depth ≤ length before
    → AreCopied (f + 3) (t + 4) n (slice_set before (t + 3) (word_address f)) after → HasFrame f t depth before after
framed f t depth n before after size long some apart room c =
    let w : ℕ = word_address f in
    record {
      size = c.size ∙ length-set before (t + 3) w;
      below = λ k h. c.below k (omega arith) ∙ get_or-set_other before (t + 3) k w 0 (λ e. omega (arith, e));
      first = c.below (t + 3) (omega arith) ∙ get_or-set_same before (t + 3) w 0 (omega arith);
      display = λ j h.
          let here : t + 3 + suc j ≡ t + 4 + j = omega arith in
          ap (slice_index after) here ∙ c.copied j (omega arith) ∙ get_or-set_other before (t + 3) (f + 3 + j) w 0 (λ e. omega (arith, e));
      above = λ k h. c.above k (omega arith) ∙ get_or-set_other before (t + 3) k w 0 (λ e. omega (arith, e));
    }

-- with the steps from the block on
record Made (code : Code) (f t depth most : ℕ) (e : Data) : Type 0 where
  after : Data
  comes : Comes code (at_block code make_frame e) (at_block code go after) 1 most
  frame : after.named.frame ≡ word_address t
  top : after.named.top ≡ word_address (t + frame_words depth)
  keeps : KeepsRest e after
  words : HasFrame f t depth e.words after.words

module _ (code : Code) (h : HoldsRoutines code) (f t depth : ℕ) (e : Data) (b : IsFrameBegun f t depth e) where
  started : Data
  started = behind_all frame_micros (saved Frame (t + 3) e)

  begins : Comes code (at_block code make_frame e) (at end_micros started) 6 13
  unfolding started
  begins =
      let room = b.room in
      let fours : frame_words depth ≡ 4 + 4 * ((depth + 2) / 4) = frame_words-fours depth b.some in
      let window : Comes code (at_block code make_frame e) (at (Save Top 3 Frame ∷ (frame_micros ++ end_micros)) e) 1 8 = from (make_frame-is code h) (windows code Top 4 t (Save Top 3 Frame ∷ (frame_micros ++ end_micros)) e b.top (omega arith)) in
      let save : Comes code (at (Save Top 3 Frame ∷ (frame_micros ++ end_micros)) e) (at (frame_micros ++ end_micros) (saved Frame (t + 3) e)) 1 1 = saves code Top Frame 3 t (frame_micros ++ end_micros) e b.top (omega arith) in
      join window (join save (straight code frame_micros end_micros (saved Frame (t + 3) e) refl))

  is_started : IsStarted f t depth e started
  unfolding started
  is_started =
      let room = b.room in
      let few = b.few in
      let apart = b.apart in
      let fours : frame_words depth ≡ 4 + 4 * ((depth + 2) / 4) = frame_words-fours depth b.some in
      record {
        frame = ap (λ x. imm_value Addi x 0) b.top ∙ same-address t (omega arith);
        top = ap (λ x. imm_value Addi x 32) b.top ∙ moved t 4 (omega arith);
        second = ap (λ x. reg_value Add x e.named.third) b.top ∙ ap (λ x. reg_value Add (word_address t) x) b.third ∙ added t (frame_words depth) (omega arith);
        third = ap (λ x. imm_value Addi x 24) b.frame ∙ moved f 3 (omega arith);
        keeps = record { context = refl; datum = refl; input = refl; output = refl };
        words = ap (λ w. slice_set e.words (t + 3) w) b.frame;
      }

  -- nothing is left of the display
  alone : 4 + 4 * 0 ≡ frame_words depth → Made code f t depth (100 + 16 * depth) e
  alone size =
      let g : Data = started in
      let s : IsStarted f t depth e g = is_started in
      let apart = b.apart in
      let some = b.some in
      let fours : frame_words depth ≡ 4 + 4 * ((depth + 2) / 4) = frame_words-fours depth b.some in
      let here : word_address (t + 4) ≡ word_address (t + frame_words depth) = omega (arith, size) in
      let end : Comes code (at end_micros g) (at_block code go g) 2 5 = join (passes code Bne Top Second copy_display (Jump go ∷ []) g (bne-same g.named.top g.named.second (s.top ∙ here ∙ sym s.second))) (jumps code go [] g) in
      let copied : AreCopied (f + 3) (t + 4) 0 (slice_set e.words (t + 3) (word_address f)) g.words = subst (λ (words : List ℕ). AreCopied (f + 3) (t + 4) 0 words g.words) s.words (copied-none (f + 3) (t + 4) g.words) in
      record {
        after = g;
        comes = wider 1 (100 + 16 * depth) (omega arith) (omega arith) (join begins end);
        frame = s.frame;
        top = s.top ∙ here;
        keeps = s.keeps;
        words = framed f t depth 0 e.words g.words (sym size) (omega (arith, size)) b.some b.apart b.room copied;
      }

  -- the rest of it is copied
  inside : (rounds : ℕ) → 4 + 4 * suc rounds ≡ frame_words depth → Made code f t depth (100 + 16 * depth) e
  inside rounds size =
      let n : ℕ = 4 * suc rounds in
      let g : Data = started in
      let s : IsStarted f t depth e g = is_started in
      let kept : KeepsRest e g = s.keeps in
      let apart = b.apart in
      let some = b.some in
      let room = b.room in
      let few = b.few in
      let fours : frame_words depth ≡ 4 + 4 * ((depth + 2) / 4) = frame_words-fours depth b.some in
      let length_is : length g.words ≡ length e.words = ap length s.words ∙ length-set e.words (t + 3) (word_address f) in
      let second : g.named.second ≡ word_address (t + 4 + n) = (let z : word_address (t + frame_words depth) ≡ word_address (t + 4 + n) = omega (arith, size) in s.second ∙ z) in
      let branch : Comes code (at end_micros g) (at_block code copy_display g) 1 3 = branches code Bne Top Second copy_display (Jump go ∷ []) g (bne-other g.named.top g.named.second (λ z. omega (arith, z, s.top, second))) in
      let begun : IsBegun (f + 3) (t + 4) n g = record { third = s.third; top = s.top; second = second; apart = omega (arith, size); room = omega (arith, size, length_is); few = omega (arith, length_is) } in
      let rest : Copied code (f + 3) (t + 4) n (64 * suc rounds) g = copies code h rounds (f + 3) (t + 4) g begun in
      let on : KeepsRest g rest.after = rest.keeps in
      let copied : AreCopied (f + 3) (t + 4) n (slice_set e.words (t + 3) (word_address f)) rest.after.words = subst (λ (words : List ℕ). AreCopied (f + 3) (t + 4) n words rest.after.words) s.words rest.words in
      record {
        after = rest.after;
        comes = wider 1 (100 + 16 * depth) (omega arith) (omega (arith, size)) (join begins (join branch rest.comes));
        frame = rest.frame ∙ s.frame;
        top = rest.top ∙ (let z : word_address (t + 4 + n) ≡ word_address (t + frame_words depth) = omega (arith, size) in z);
        keeps = record { context = on.context ∙ kept.context; datum = on.datum ∙ kept.datum; input = on.input ∙ kept.input; output = on.output ∙ kept.output };
        words = framed f t depth n e.words rest.after.words (sym size) (omega (arith, size)) b.some b.apart b.room copied;
      }

  made : (fours : ℕ) → 4 + 4 * fours ≡ frame_words depth → Made code f t depth (100 + 16 * depth) e
  made zero size = alone size
  made (suc rounds) size = inside rounds size

pub frames_are_made : FramesAreMade
frames_are_made code f t depth e h b =
    let m : Made code f t depth (100 + 16 * depth) e = made code h f t depth e b ((depth + 2) / 4) (sym (frame_words-fours depth b.some)) in
    record {
      after = m.after;
      leads = record { steps = m.comes.steps; some = m.comes.least_is; leads = m.comes.leads; cost = m.comes.cost };
      frame = m.frame;
      top = m.top;
      keeps = m.keeps;
      words = m.words;
    }
