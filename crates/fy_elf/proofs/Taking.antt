-- What was taken off the rest of a file.
use Rattle.std.proofs.Common.{◌≡◌, ◌+◌, [], ◌++◌, length, length-append, append_assoc, sym, ap, ◌∙◌, refl, arith}
use Rattle.fy_base.specs.Outside.{Bytes}
use Rattle.fy_elf.specs.Reading.{IsTaken}
use Rattle.fy_elf.specs.Refusals.{Rest}

-- nothing
pub taken_none : (rest : Rest) → IsTaken [] rest rest
taken_none rest = record { bytes_are = refl; offset_is = omega arith }

-- one after the other
pub taken_more : (a b : Bytes) (r0 r1 r2 : Rest) → IsTaken a r0 r1 → IsTaken b r1 r2 → IsTaken (a ++ b) r0 r2
taken_more a b r0 r1 r2 first second = record {
  bytes_are = first.bytes_are ∙ ap (λ rest. a ++ rest) second.bytes_are ∙ sym (append_assoc a b r2.bytes);
  offset_is = omega (arith, second.offset_is, first.offset_is, length-append a b);
}

-- what is left between two parts
abbrev pub between : Bytes → Bytes → Rest → Rest → Rest
between a b before now = record { offset = before.offset + length a; bytes = b ++ now.bytes }

pub taken_first : (a b : Bytes) (before now : Rest) → IsTaken (a ++ b) before now → IsTaken a before (between a b before now)
taken_first a b before now taken = record { bytes_are = taken.bytes_are ∙ append_assoc a b now.bytes; offset_is = refl }

pub taken_second : (a b : Bytes) (before now : Rest) → IsTaken (a ++ b) before now → IsTaken b (between a b before now) now
taken_second a b before now taken = record { bytes_are = refl; offset_is = omega (arith, taken.offset_is, length-append a b) }

-- other words for the same bytes
pub taken_as : (a b : Bytes) (before now : Rest) → a ≡ b → IsTaken a before now → IsTaken b before now
taken_as a b before now same taken = record {
  bytes_are = taken.bytes_are ∙ ap (λ bytes. bytes ++ now.bytes) same;
  offset_is = taken.offset_is ∙ ap (λ bytes. before.offset + length bytes) same;
}

-- nothing was taken
pub start_is : (before now : Rest) → IsTaken [] before now → before ≡ now
start_is before now taken = let o : before.offset ≡ now.offset = omega (arith, taken.offset_is) in λ i. record { offset = o i; bytes = taken.bytes_are i }
