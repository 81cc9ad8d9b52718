-- The program of an image of assembled words.
use Rattle.std.proofs.Common.{◌≡◌, ℕ, zero, suc, ◌<◌, List, [], ◌∷◌, length, map, get_or, Option, Some, None, refl, sym, ap, subst, arith}
use Rattle.std.proofs.lemmas.Grind.{get_or_default_zero}
use Rattle.std.specs.Prelude.{All}
use Rattle.std.specs.Option.{IfSome}
use Rattle.fy_image.specs.declared.image.Image.{Image}
use Rattle.fy_image.specs.Machine.{IsProgramOf}
use Rattle.rv_insn.specs.Encoding.{IsWordOf}
use Rattle.rv_insn.specs.Program.{Program, AreRead}
use Rattle.rv_insn.specs.declared.instructions.Insn.{Insn}
use Rattle.rv_asm.specs.declared.items.Item.{Item}
use Rattle.rv_asm.specs.declared.items.Assembled.{Assembled}
use Rattle.rv_asm.specs.Assembly.{joined, IsAssembly}

abbrev readings : List Insn → List (Option Insn)
readings insns = map (λ insn. Some insn) insns

length-readings : (insns : List Insn) → length (readings insns) ≡ length insns
length-readings [] = refl
length-readings (insn ∷ insns) = ap suc (length-readings insns)

-- each place has an instruction
instruction_at : (insns : List Insn) (k : ℕ) → k < length insns → (insn : Insn) × (get_or (readings insns) k None ≡ Some insn)
instruction_at [] k lt = absurd (omega arith)
instruction_at (insn ∷ insns) zero lt = (insn, refl)
instruction_at (insn ∷ insns) (suc k) lt = instruction_at insns k (omega arith)

module _ (items : List Item) (assembled : Assembled) (image : Image) (made : IsAssembly items assembled) (words_are : image.code ≡ assembled.words) where
  pub program_of : Program
  program_of = record { words = image.code; instructions = readings (joined made.forms); table = image.table; places = image.places }

  read : AreRead image.code (readings (joined made.forms))
  read = let P : List ℕ → Type 0 = λ ws. AreRead ws (readings (joined made.forms)) in subst P (sym words_are) made.words_are

  pub is_the_images : IsProgramOf image program_of
  unfolding program_of
  is_the_images = record { words_are = refl; read = read; table_is = refl; places_are = refl }

  pub words_are_instructions : All (λ word. (insn : Insn) × IsWordOf insn word) image.code
  words_are_instructions k d lt =
      let size : length (readings (joined made.forms)) ≡ length image.code = read.same_length in
      let insn = instruction_at (joined made.forms) k (let e = length-readings (joined made.forms) in omega arith) in
      let sound = (read.each k (omega arith)).sound in
      let is : IsWordOf insn.0 (get_or image.code k 0) = subst (λ (o : Option Insn). IfSome o (λ i. IsWordOf i (get_or image.code k 0))) insn.1 sound in
      let P : ℕ → Type 0 = λ w. IsWordOf insn.0 w in
      (insn.0, subst P (sym (get_or_default_zero image.code k d lt)) is)
