-- The machine of an image at its start.
use Rattle.std.proofs.Common.{◌≡◌, ℕ, ◌+◌, ◌*◌, ◌^◌, ◌<◌, ◌≤◌, List, length, drop, replicate, slice_index, All, inl, inr, refl, sym, ◌∙◌, ap, arith, lit<}
use Rattle.std.proofs.lemmas.Bool.{cases_lt}
use Rattle.std.proofs.lemmas.List.{length-replicate, get_or-replicate, get_or_past, get_or-drop, ext_get_or}
use Rattle.std.proofs.lemmas.List.Elements.{All-replicate}
use Rattle.fy_base.specs.Outside.{Bytes}
use Rattle.fy_image.specs.declared.image.Image.{Image}
use Rattle.fy_image.specs.Start.{start_memory}
use Rattle.fy_image.specs.Machine.{start_of, going_world}
use Rattle.rv_insn.specs.Program.{code_start, stack_start}
use Rattle.rv_insn.specs.Memory.{doubleword, doublewords}
use Rattle.rv_insn.specs.Step.{reg}
use Rattle.rv_insn.proofs.Doublewords.{doublewords_at, length-doublewords}
use Rattle.rv_word.specs.declared.micros.Register.TheVariants.{Zero}
use Rattle.rv_word.specs.Laws.{IsSound}
use Rattle.rv_word.proofs.Registers.{zero_is}
use Rattle.rv_flow.specs.Laws.{start_data}
use Rattle.rv_flow.proofs.Shown.{N, X10, Source, R, X3, source_number, Scratch, view, read, Shows}

-- ---- a stack of zeros

abbrev bytes_of : ℕ → List ℕ
bytes_of count = replicate (8 * count) 0

zero_byte : (m k : ℕ) → slice_index (replicate m 0) k ≡ 0
zero_byte m k = elim (cases_lt k m) [
  | inl within ↦ get_or-replicate m k 0 0 within
  | inr past ↦ get_or_past (replicate m 0) k 0 (omega (arith, length-replicate {A = ℕ} m 0))
]

zero_word : (count k : ℕ) → doubleword (bytes_of count) k ≡ 0
zero_word count k =
    let at : (m : ℕ) → slice_index (drop (8 * k) (bytes_of count)) m ≡ 0 = λ m. get_or-drop (8 * k) (bytes_of count) m 0 ∙ zero_byte (8 * count) (8 * k + m) in
    omega (arith, at 0, at 1, at 2, at 3, at 4, at 5, at 6, at 7)

words_are : (count : ℕ) → doublewords (bytes_of count) ≡ replicate count 0
words_are count =
    let bytes : length (bytes_of count) ≡ 8 * count = length-replicate {A = ℕ} (8 * count) 0 in
    let many = length-doublewords (bytes_of count) in
    ext_get_or 0 (doublewords (bytes_of count)) (replicate count 0) (omega (arith, length-replicate {A = ℕ} count 0))
    (λ k below. doublewords_at (bytes_of count) k (omega arith) ∙ zero_word count k ∙ sym (get_or-replicate count k 0 0 (omega arith)))

-- ---- the start

pub start_scratch : Scratch
start_scratch = record { x10 = 0; x11 = 0; x17 = 0; x30 = 0; x31 = 0 }

reads_start : (image : Image) (input : Bytes) (s : Source) → reg (start_of image) (source_number s) ≡ read (view (start_data image.stack_words input) start_scratch) s
unfolding start_of start_memory start_scratch
reads_start image input (R (N Zero)) = refl
reads_start image input (R (N r)) = refl
reads_start image input (R X10) = refl
reads_start image input (R d) = refl
reads_start image input X3 = ap (λ n. stack_start + 8 * n) (sym (length-replicate {A = ℕ} image.stack_words 0))
reads_start image input s = refl

pub start_shows : (image : Image) (input : Bytes) → image.stack_words ≤ 67108864 → Shows (going_world (start_of image) input) code_start (view (start_data image.stack_words input) start_scratch)
unfolding start_of start_memory
start_shows image input most =
    let many : length (replicate {A = ℕ} image.stack_words 0) ≡ image.stack_words = length-replicate {A = ℕ} image.stack_words 0 in
    record {
      pc_is = refl;
      running = refl;
      going = refl;
      count = refl;
      regs = reads_start image input;
      words = words_are image.stack_words;
      size = length-replicate {A = ℕ} (8 * image.stack_words) 0 ∙ ap (λ n. 8 * n) (sym many);
      few = omega arith;
      input = refl;
      output = refl;
    }

pub start_sound : (stack_words : ℕ) (input : Bytes) → stack_words ≤ 67108864 → All (λ byte. byte < 256) input → IsSound (start_data stack_words input)
start_sound stack_words input most bytes =
    let many : length (replicate {A = ℕ} stack_words 0) ≡ stack_words = length-replicate {A = ℕ} stack_words 0 in
    record {
      named = λ r. omega (arith, zero_is r);
      words = All-replicate (λ w. w < 2 ^ 64) stack_words 0 (lit< tt);
      input = bytes;
      size = omega arith;
    }
