-- From the parts of the commands on ELF files to what is due for the words.
use Rattle.std.proofs.Common.{◌≡◌, ◌≢◌, ℕ, ◌∷◌, [], ◌<◌, ap, refl, length, if◌then◌else◌, Some, inl, inr}
use Rattle.std.proofs.lemmas.Bool.{lt-ltb}
use Rattle.std.specs.declared.result.Result.{Result}
use Rattle.std.specs.declared.result.Result.TheVariants.{Err}
use Rattle.fy_base.specs.Outside.{Bytes, FileCalls}
use Rattle.fy_elf.specs.Elf.{IsElfBytes}
use Rattle.fy_elf.specs.Memory.{LoadsAsStart}
use Rattle.fy_elf.specs.Refusals.{refusal_of, header_fields, content_fields}
use Rattle.fy_elf.specs.declared.error.ElfError.{ElfError}
use Rattle.fy_elf.specs.declared.error.ElfError.TheVariants.{TooLarge}
use Rattle.fy_image.specs.Form.{IsImageBytes}
use Rattle.fy_image.specs.declared.image.Image.{Image}
use Rattle.fy_words.specs.Order.{elf, unelf}
use Rattle.fy_world.specs.World.{Contents, Counts}
use Rattle.fy_world.specs.Note.{elf_note}
use Rattle.fy_world.specs.Runs.{told}
use Rattle.fy_world.specs.Did.{Did}
use Rattle.fy_world.specs.Working.{Keeps, KeepsElf}
use Rattle.fy_world.specs.declared.note.Note.{Note}
use Rattle.fy_world.specs.declared.world.Stop.{Stop}
use Rattle.fy_world.specs.declared.world.Stop.TheVariants.{Memory}
use Rattle.fy_world.proofs.Counting.{called_none}
use Rattle.fy_tool.specs.Due.{elves, unelves, no_elf}
use Rattle.fy_tool.specs.Answers.{Serves}
use Rattle.fy_tool.proofs.Serving.{After, done_quietly, none_done, only}

-- bytes that are too many are no ELF file of an image
pub elf_too_long : (bytes : Bytes) → 33554432 < length bytes → refusal_of bytes ≡ Some TooLarge
unfolding refusal_of
elf_too_long bytes longer = ap (λ b. if b then Some TooLarge else header_fields content_fields (record { offset = 0; bytes = bytes })) (lt-ltb 33554432 (length bytes) longer)

-- `elf` of an image
pub serves_elf : (from to bytes : Bytes) (image : Image) (b c d : Contents) (k k1 k2 : Counts) (e e1 e2 : FileCalls) (result : Result ℕ Stop) → IsImageBytes image bytes → After (elf from to) (only bytes) b c d k k1 k2 e e1 e2 result → KeepsElf image to c d result
    → Serves (Some (elf from to)) b d k k2 e e2 result
serves_elf from to bytes image b c d k k1 k2 e e1 e2 result spelled a (inl unbegun) = none_done (elf from to) (only bytes) b c d k k1 k2 e e1 e2 result a unbegun
serves_elf from to bytes image b c d k k1 k2 e e1 e2 result spelled a (inr was) =
    done_quietly (elf from to) (only bytes) b c d k k1 k2 e e1 e2 result _ a (λ input. elves from to bytes image was.bytes refl spelled was.spelled.elf was.spelled.loads) was.did (λ _ memory. absurd (was.ready memory)) (λ none. absurd cc)

-- `unelf` of an image's ELF file
pub serves_unelf : (from to bytes : Bytes) (image : Image) (b c d : Contents) (k k1 k2 : Counts) (e e1 e2 : FileCalls) (result : Result ℕ Stop) → IsElfBytes image bytes → LoadsAsStart image bytes → After (unelf from to) (only bytes) b c d k k1 k2 e e1 e2 result
    → Keeps image to c d result → Serves (Some (unelf from to)) b d k k2 e e2 result
serves_unelf from to bytes image b c d k k1 k2 e e1 e2 result is loads a (inl unbegun) = none_done (unelf from to) (only bytes) b c d k k1 k2 e e1 e2 result a unbegun
serves_unelf from to bytes image b c d k k1 k2 e e1 e2 result is loads a (inr was) =
    done_quietly (unelf from to) (only bytes) b c d k k1 k2 e e1 e2 result _ a (λ input. unelves from to bytes image was.bytes refl is loads was.spelled) was.did (λ _ memory. absurd (was.ready memory)) (λ none. absurd cc)

-- `unelf` of other bytes
pub serves_no_elf : (from to bytes : Bytes) (error : ElfError) (why : Note) (b c d : Contents) (k k1 k2 : Counts) (e e1 e2 : FileCalls) (result : Result ℕ Stop) → refusal_of bytes ≡ Some error → elf_note error ≡ Some why
    → After (unelf from to) (only bytes) b c d k k1 k2 e e1 e2 result → result ≢ Err Memory → Did (told 6 (why ∷ [])) c d result → e2 ≡ e1 → Serves (Some (unelf from to)) b d k k2 e e2 result
serves_no_elf from to bytes error why b c d k k1 k2 e e1 e2 result refusal is a ready did same =
    done_quietly (unelf from to) (only bytes) b c d k k1 k2 e e1 e2 result (told 6 (why ∷ [])) a (λ input. no_elf from to bytes error why refl refusal is) did (λ _ memory. absurd (ready memory)) (λ _ _. called_none e1 e2 same)
