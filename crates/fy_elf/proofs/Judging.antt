-- Which field is refused, one field at a time.
use Rattle.std.proofs.Common.{◌≡◌, ℕ, ◌+◌, ◌-◌, ◌*◌, ◌/◌, ◌%◌, ◌^◌, ◌<◌, ◌≤◌, Bool, true, false, not, if◌then◌else◌, nat_eq, ltb, leb, eqb, List, [], ◌∷◌, ◌++◌, length, get_or, take, drop, length-append, sym, ap, ◌∙◌, refl, arith, subst, Some, None, Option}
use Rattle.std.proofs.lemmas.Bool.{lt-ltb, le-ltb, le-leb, ne_eqb, eq-eqb}
use Rattle.std.proofs.lemmas.Nat.{from_le_bytes-to_le_bytes_4, from_le_bytes-to_le_bytes_8}
use Rattle.std.proofs.lemmas.Slice.Eq.{bytes_eq-Decides}
use Rattle.std.proofs.Math.Nat.{mul-div_cancel_left, mul-mod_right}
use Rattle.std.proofs.Math.Seq.{take-append_seam, drop-append_seam}
use Rattle.std.specs.Int.{w32, w64, from_le_bytes}
use Rattle.std.specs.Prelude.{OnOk}
use Rattle.std.specs.Str.{bytes_eq}
use Rattle.std.specs.declared.result.Result.{Result}
use Rattle.std.specs.declared.result.Result.TheVariants.{Ok, Err}
use Rattle.fy_base.specs.Outside.{Bytes}
use Rattle.fy_image.specs.Form.{word, double}
use Rattle.fy_elf.specs.Elf.{number_bytes, numbers_bytes}
use Rattle.fy_elf.specs.Reading.{IsTaken, IsJudged, Judges}
use Rattle.fy_elf.specs.Refusals.{Rest, Judge, IsCause, field, exact, exacts, any, nonzero, sized, size_of, count_in, is_size, ended}
use Rattle.fy_elf.specs.declared.counted.Counted.{Counted}
use Rattle.fy_elf.specs.declared.number.Number.{Number}
use Rattle.fy_elf.specs.declared.error.ElfError.{ElfError}
use Rattle.fy_elf.specs.declared.error.ElfError.TheVariants as errors
use Rattle.fy_elf.proofs.Taking.{between, taken_first, taken_second, taken_as, taken_more, start_is}
use Rattle.std.proofs.lemmas.List.{append-nil, take_more, take_all, take-append-drop, drop_more}
use Rattle.std.proofs.lemmas.List.Concat.{flat_map-append}

-- a refusal is its error's cause
pub cause_some : (error : ElfError) (refusal : Option ElfError) → refusal ≡ Some error → IsCause error refusal
cause_some (errors.Bad n) refusal is = is
cause_some errors.Truncated refusal is = is
cause_some (errors.Trailing n) refusal is = is
cause_some errors.TooLarge refusal is = is
cause_some errors.OutOfMemory refusal is = tt

pub cause_cut : (error : ElfError) (refusal : Option ElfError) → error ≡ errors.Truncated → refusal ≡ Some errors.Truncated → IsCause error refusal
cause_cut error refusal is cut = cause_some error refusal (cut ∙ ap (λ e. Some e) (sym is))

-- an error of what is the same refusal
pub cause_along : (error : ElfError) (a b : Option ElfError) → a ≡ b → IsCause error b → IsCause error a
cause_along error a b same cause = let P : Option ElfError → Type 0 = λ r. IsCause error r in subst P (sym same) cause

pub judged_along : {T : Type 0} (result : Result T ElfError) (a b : Option ElfError) → a ≡ b → IsJudged result b → IsJudged result a
judged_along (Ok value) a b same judged = same ∙ judged
judged_along (Err error) a b same judged = cause_along error a b same judged

-- bytes that aren't refused give want of memory alone
pub cause_none : (error : ElfError) → IsCause error None → error ≡ errors.OutOfMemory
cause_none (errors.Bad n) cause = absurd (cc)
cause_none errors.Truncated cause = absurd (cc)
cause_none (errors.Trailing n) cause = absurd (cc)
cause_none errors.TooLarge cause = absurd (cc)
cause_none errors.OutOfMemory cause = refl

-- ---- any field

-- one that is cut off
pub cut_off : (size : ℕ) (is : Bytes → Bool) (next : Bytes → Judge) (before : Rest) → length before.bytes < size → field size is next before ≡ Some errors.Truncated
unfolding field
cut_off size is next before short = rw (lt-ltb (length before.bytes) size short) refl

-- one that is there
whole : (size : ℕ) (is : Bytes → Bool) (next : Bytes → Judge) (part : Bytes) (before now : Rest) (good : Bool) → IsTaken part before now → length part ≡ size → is part ≡ good
    → field size is next before ≡ (if not good then Some (errors.Bad before.offset) else next part now)
unfolding field
whole size is next part before now good taken long same =
    let l : ltb (length before.bytes) size ≡ false = le-ltb (length before.bytes) size (omega (arith, ap (λ b. length b) taken.bytes_are, length-append part now.bytes, long)) in
    let t : take size before.bytes ≡ part = ap (λ b. take size b) taken.bytes_are ∙ ap (λ n. take n (part ++ now.bytes)) (sym long) ∙ take-append_seam part now.bytes in
    let d : drop size before.bytes ≡ now.bytes = ap (λ b. drop size b) taken.bytes_are ∙ ap (λ n. drop n (part ++ now.bytes)) (sym long) ∙ drop-append_seam part now.bytes in
    let o : before.offset + size ≡ now.offset = omega (arith, taken.offset_is, long) in
    rw (l, t, same, d, o) refl

pub passed : (size : ℕ) (is : Bytes → Bool) (next : Bytes → Judge) (part : Bytes) (before now : Rest) → IsTaken part before now → length part ≡ size → is part ≡ true → field size is next before ≡ next part now
passed size is next part before now taken long good = whole size is next part before now true taken long good

pub refused : (size : ℕ) (is : Bytes → Bool) (next : Bytes → Judge) (part : Bytes) (before now : Rest) → IsTaken part before now → length part ≡ size → is part ≡ false → field size is next before ≡ Some (errors.Bad before.offset)
refused size is next part before now taken long bad = whole size is next part before now false taken long bad

-- ---- given bytes and numbers

same_bytes : (bytes : Bytes) → bytes_eq bytes bytes ≡ true
same_bytes bytes = (bytes_eq-Decides bytes bytes).1 refl

pub exact_passed : (bytes : Bytes) (before now : Rest) → IsTaken bytes before now → (next : Judge) → exact bytes next before ≡ next now
exact_passed bytes before now taken next = passed (length bytes) (λ part. bytes_eq part bytes) (λ part. next) bytes before now taken refl (same_bytes bytes)

pub exact_refused : (bytes part : Bytes) (before now : Rest) → IsTaken part before now → length part ≡ length bytes → bytes_eq part bytes ≡ false → (next : Judge) → exact bytes next before ≡ Some (errors.Bad before.offset)
exact_refused bytes part before now taken long other next = refused (length bytes) (λ p. bytes_eq p bytes) (λ p. next) part before now taken long other

-- told by a test, and by an error
pub exact_eq : (bytes part : Bytes) (test : Bool) (before now : Rest) → test ≡ bytes_eq part bytes → test ≡ true → IsTaken part before now → (next : Judge) → exact bytes next before ≡ next now
exact_eq bytes part test before now is good taken next = exact_passed bytes before now (taken_as part bytes before now ((bytes_eq-Decides part bytes).0 (sym is ∙ good)) taken) next

pub exact_ne : (bytes part : Bytes) (test : Bool) (before now : Rest) (offset : ℕ) → test ≡ bytes_eq part bytes → test ≡ false → IsTaken part before now → length part ≡ length bytes → offset ≡ before.offset
    → (next : Judge) → exact bytes next before ≡ Some (errors.Bad offset)
exact_ne bytes part test before now offset is bad taken long at next = exact_refused bytes part before now taken long (sym is ∙ bad) next ∙ ap (λ o. Some (errors.Bad o)) (sym at)

pub exact_cut : (error : ElfError) (bytes : Bytes) (before : Rest) → error ≡ errors.Truncated → length before.bytes < length bytes → (next : Judge) → IsCause error (exact bytes next before)
exact_cut error bytes before is short next = cause_cut error _ is (cut_off (length bytes) (λ part. bytes_eq part bytes) (λ part. next) before short)

-- other words for the bytes
pub exact_as : {T : Type 0} (result : Result T ElfError) (a b : Bytes) (before now : Rest) → a ≡ b → Judges result (exact a) before now → Judges result (exact b) before now
exact_as result a b before now same judged = let P : Bytes → Type 0 = λ x. Judges result (exact x) before now in subst P same judged

pub on_taken_as : {T : Type 0} (result : Result T ElfError) (a b : Bytes) (before now : Rest) → a ≡ b → OnOk result (IsTaken a before now) → OnOk result (IsTaken b before now)
on_taken_as result a b before now same taken = let P : Bytes → Type 0 = λ x. OnOk result (IsTaken x before now) in subst P same taken

-- the bytes of numbers are those of the first and of the others
pub numbers_first : (number : Number) (numbers : List Number) → numbers_bytes (number ∷ numbers) ≡ number_bytes number ++ numbers_bytes numbers
unfolding numbers_bytes
numbers_first number numbers = refl

pub numbers_append : (a b : List Number) → numbers_bytes (a ++ b) ≡ numbers_bytes a ++ numbers_bytes b
unfolding numbers_bytes
numbers_append a b = flat_map-append number_bytes a b

pub numbers_none : numbers_bytes [] ≡ []
unfolding numbers_bytes
numbers_none = refl

-- numbers of which the first are there: those behind them decide
pub exacts_on : (numbers others : List Number) (before now : Rest) → IsTaken (numbers_bytes numbers) before now → (next : Judge) → exacts (numbers ++ others) next before ≡ exacts others next now
exacts_on [] others before now taken next = ap (λ rest. exacts others next rest) (start_is before now (taken_as (numbers_bytes []) [] before now numbers_none taken))
exacts_on (number ∷ numbers) others before now taken next =
    let a = number_bytes number in
    let b = numbers_bytes numbers in
    let parts = taken_as (numbers_bytes (number ∷ numbers)) (a ++ b) before now (numbers_first number numbers) taken in
    exact_passed a before (between a b before now) (taken_first a b before now parts) (exacts (numbers ++ others) next)
    ∙ exacts_on numbers others (between a b before now) now (taken_second a b before now parts) next

pub exacts_passed : (numbers : List Number) (before now : Rest) → IsTaken (numbers_bytes numbers) before now → (next : Judge) → exacts numbers next before ≡ next now
exacts_passed numbers before now taken next = ap (λ ns. exacts ns next before) (sym (append-nil numbers)) ∙ exacts_on numbers [] before now taken next

-- one number more
pub numbers_more : (numbers : List Number) (i : ℕ) (d : Number) (r0 r1 r2 : Rest) → i < length numbers → IsTaken (numbers_bytes (take i numbers)) r0 r1 → IsTaken (number_bytes (get_or numbers i d)) r1 r2 → IsTaken (numbers_bytes (take (i + 1) numbers)) r0 r2
numbers_more numbers i d r0 r1 r2 low before one =
    let x = get_or numbers i d in
    let last : numbers_bytes (x ∷ []) ≡ number_bytes x = numbers_first x [] ∙ ap (λ b. number_bytes x ++ b) numbers_none ∙ append-nil (number_bytes x) in
    let all : numbers_bytes (take i numbers) ++ number_bytes x ≡ numbers_bytes (take (i + 1) numbers) =
    ap (λ b. numbers_bytes (take i numbers) ++ b) (sym last) ∙ sym (numbers_append (take i numbers) (x ∷ [])) ∙ ap (λ ns. numbers_bytes ns) (sym (take_more numbers i d low)) in
    taken_as _ _ r0 r2 all (taken_more _ _ r0 r1 r2 before one)

pub numbers_all : (numbers : List Number) (i : ℕ) (r0 r1 : Rest) → length numbers ≤ i → IsTaken (numbers_bytes (take i numbers)) r0 r1 → IsTaken (numbers_bytes numbers) r0 r1
numbers_all numbers i r0 r1 high taken = taken_as _ _ r0 r1 (ap (λ ns. numbers_bytes ns) (take_all i numbers high)) taken

-- numbers of which the next is refused
pub exacts_bad : (numbers : List Number) (i : ℕ) (d : Number) (error : ElfError) (before now : Rest) → i < length numbers → IsTaken (numbers_bytes (take i numbers)) before now
    → ((next : Judge) → IsCause error (exact (number_bytes (get_or numbers i d)) next now)) → (next : Judge) → IsCause error (exacts numbers next before)
exacts_bad numbers i d error before now low taken bad next =
    cause_along error _ _
    (ap (λ ns. exacts ns next before) (sym (take-append-drop i numbers))
    ∙ exacts_on (take i numbers) (drop i numbers) before now taken next
    ∙ ap (λ ns. exacts ns next now) (drop_more numbers i d low))
    (bad (exacts (drop (i + 1) numbers) next))

-- ---- whatever bytes

pub any_passed : (size : ℕ) (part : Bytes) (before now : Rest) → IsTaken part before now → length part ≡ size → (next : Judge) → any size next before ≡ next now
any_passed size part before now taken long next = passed size (λ p. true) (λ p. next) part before now taken long refl

pub any_cut : (error : ElfError) (size : ℕ) (before : Rest) → error ≡ errors.Truncated → length before.bytes < size → (next : Judge) → IsCause error (any size next before)
any_cut error size before is short next = cause_cut error _ is (cut_off size (λ part. true) (λ part. next) before short)

-- ---- numbers that aren't 0

pub nonzero_cut : (error : ElfError) (before : Rest) → error ≡ errors.Truncated → length before.bytes < 4 → (next : Judge) → IsCause error (nonzero next before)
nonzero_cut error before is short next = cause_cut error _ is (cut_off 4 (λ part. not (nat_eq (from_le_bytes w32 part) 0)) (λ part. next) before short)

pub nonzero_passed : (n : ℕ) (before now : Rest) → IsTaken (word n) before now → 0 < n → n < 2 ^ 32 → (next : Judge) → nonzero next before ≡ next now
nonzero_passed n before now taken some fits next =
    let good : nat_eq n 0 ≡ false = ne_eqb n 0 (λ e. omega arith) in
    passed 4 (λ part. not (nat_eq (from_le_bytes w32 part) 0)) (λ part. next) (word n) before now taken refl
    (ap (λ k. not (nat_eq k 0)) (from_le_bytes-to_le_bytes_4 n fits) ∙ ap not good)

nonzero_refused : (before now : Rest) → IsTaken (word 0) before now → (next : Judge) → nonzero next before ≡ Some (errors.Bad before.offset)
nonzero_refused before now taken next = refused 4 (λ part. not (nat_eq (from_le_bytes w32 part) 0)) (λ part. next) (word 0) before now taken refl refl

pub nonzero_zero : (n : ℕ) (before now : Rest) (offset : ℕ) → IsTaken (word n) before now → n ≡ 0 → offset ≡ before.offset → (next : Judge) → nonzero next before ≡ Some (errors.Bad offset)
nonzero_zero n before now offset taken none at next =
    nonzero_refused before now (taken_as (word n) (word 0) before now (ap (λ k. word k) none) taken) next ∙ ap (λ o. Some (errors.Bad o)) (sym at)

-- ---- sizes

pub sized_by : (counted : Counted) (size : ℕ) (before now : Rest) → IsTaken (double size) before now → size < 2 ^ 64 → is_size counted size ≡ true → (next : ℕ → Judge) → sized counted next before ≡ next (count_in counted size) now
sized_by counted size before now taken fits good next =
    let back = from_le_bytes-to_le_bytes_8 size fits in
    passed 8 (λ part. is_size counted (from_le_bytes w64 part)) (λ part. next (count_in counted (from_le_bytes w64 part))) (double size) before now taken refl (ap (λ k. is_size counted k) back ∙ good)
    ∙ ap (λ k. next (count_in counted k) now) back

pub sized_refused : (counted : Counted) (size : ℕ) (before now : Rest) → IsTaken (double size) before now → size < 2 ^ 64 → is_size counted size ≡ false → (next : ℕ → Judge) → sized counted next before ≡ Some (errors.Bad before.offset)
sized_refused counted size before now taken fits bad next =
    refused 8 (λ part. is_size counted (from_le_bytes w64 part)) (λ part. next (count_in counted (from_le_bytes w64 part))) (double size) before now taken refl
    (ap (λ k. is_size counted k) (from_le_bytes-to_le_bytes_8 size fits) ∙ bad)

pub sized_cut : (error : ElfError) (counted : Counted) (before : Rest) → error ≡ errors.Truncated → length before.bytes < 8 → (next : ℕ → Judge) → IsCause error (sized counted next before)
sized_cut error counted before is short next =
    cause_cut error _ is (cut_off 8 (λ part. is_size counted (from_le_bytes w64 part)) (λ part. next (count_in counted (from_le_bytes w64 part))) before short)

pub sized_bad : (counted : Counted) (size : ℕ) (before now : Rest) (offset : ℕ) → IsTaken (double size) before now → size < 2 ^ 64 → is_size counted size ≡ false → offset ≡ before.offset
    → (next : ℕ → Judge) → sized counted next before ≡ Some (errors.Bad offset)
sized_bad counted size before now offset taken fits bad at next = sized_refused counted size before now taken fits bad next ∙ ap (λ o. Some (errors.Bad o)) (sym at)

-- the size of a count has that count
pub count_back : (counted : Counted) (n : ℕ) → 0 < counted.unit → count_in counted (size_of counted n) ≡ n
count_back counted n some =
    let less : size_of counted n - counted.base ≡ counted.unit * n = omega arith in
    ap (λ k. k / counted.unit) less ∙ mul-div_cancel_left n some

pub size_good : (counted : Counted) (n : ℕ) → 0 < counted.unit → counted.least ≤ n → n ≤ counted.most → is_size counted (size_of counted n) ≡ true
size_good counted n some low high =
    let count = count_back counted n some in
    let less : size_of counted n - counted.base ≡ counted.unit * n = omega arith in
    let rest : (size_of counted n - counted.base) % counted.unit ≡ 0 = ap (λ k. k % counted.unit) less ∙ mul-mod_right counted.unit n in
    let a : leb counted.base (size_of counted n) ≡ true = le-leb counted.base (size_of counted n) (omega arith) in
    let b : eqb ((size_of counted n - counted.base) % counted.unit) 0 ≡ true = eq-eqb _ _ rest in
    let c : leb counted.least (count_in counted (size_of counted n)) ≡ true = ap (λ k. leb counted.least k) count ∙ le-leb counted.least n low in
    let d : leb (count_in counted (size_of counted n)) counted.most ≡ true = ap (λ k. leb k counted.most) count ∙ le-leb n counted.most high in
    rw (a, b, c, d) refl

pub sized_passed : (counted : Counted) (n : ℕ) (before now : Rest) → 0 < counted.unit → counted.least ≤ n → n ≤ counted.most → size_of counted n < 2 ^ 64 → IsTaken (double (size_of counted n)) before now
    → (next : ℕ → Judge) → sized counted next before ≡ next n now
sized_passed counted n before now some low high fits taken next =
    sized_by counted (size_of counted n) before now taken fits (size_good counted n some low high) next ∙ ap (λ k. next k now) (count_back counted n some)

-- a size that was read, and the count that was found in it
pub sized_read : (counted : Counted) (size n : ℕ) (before now : Rest) → 0 < counted.unit → counted.least ≤ n → n ≤ counted.most → size < 2 ^ 64 → size_of counted n ≡ size → IsTaken (double size) before now
    → (next : ℕ → Judge) → sized counted next before ≡ next n now
sized_read counted size n before now some low high fits is taken next =
    sized_passed counted n before now some low high (omega arith) (taken_as (double size) (double (size_of counted n)) before now (ap (λ k. double k) (sym is)) taken) next

-- ---- the end

pub end_good : (rest : Rest) → length rest.bytes ≡ 0 → ended rest ≡ None
unfolding ended
end_good rest none = rw none refl

pub end_bad : (rest : Rest) → 0 < length rest.bytes → ended rest ≡ Some (errors.Trailing (length rest.bytes))
unfolding ended
end_bad rest some = let e = ne_eqb (length rest.bytes) 0 (λ z. omega arith) in rw e refl
