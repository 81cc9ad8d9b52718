-- The headers, segment by segment.
use Rattle.std.proofs.Common.{◌≡◌, ℕ, ◌+◌, ◌*◌, ◌^◌, ◌<◌, ◌≤◌, List, [], ◌∷◌, ◌++◌, append_assoc, sym, ap, ◌∙◌, refl, arith, subst}
use Rattle.std.specs.Prelude.{IfOk}
use Rattle.std.specs.declared.result.Result.{Result}
use Rattle.std.specs.declared.result.Result.TheVariants.{Ok, Err}
use Rattle.fy_base.specs.Outside.{Bytes}
use Rattle.fy_image.specs.Form.{double}
use Rattle.fy_elf.specs.Elf.{number_bytes, numbers_bytes, file_header, segment_start, segment_end, program_header, code_segment, table_segment, stack_segment, note_segment, headers}
use Rattle.fy_elf.specs.Reading.{IsTaken, JudgesBy, SizesFit}
use Rattle.fy_elf.specs.Refusals.{Rest, Judge, IsCause, exacts, sized, size_of, segment_fields, stack_fields, header_fields, code_counted, table_counted, stack_counted, places_counted}
use Rattle.fy_elf.specs.declared.counted.Counted.{Counted}
use Rattle.fy_elf.specs.declared.error.ElfError.{ElfError}
use Rattle.fy_elf.specs.declared.headers.Segment.{Segment}
use Rattle.fy_elf.specs.declared.headers.Sizes.{Sizes}
use Rattle.fy_elf.specs.declared.number.Number.{Number}
use Rattle.fy_elf.specs.declared.number.Number.TheVariants.{Double}
use Rattle.fy_elf.proofs.Taking.{between, taken_first, taken_second, taken_as, taken_more}
use Rattle.fy_elf.proofs.Judging.{numbers_append, exacts_passed, sized_passed, cause_along}

-- ---- a segment

-- what stands behind a size
abbrev pub behind_size : Segment → ℕ → List Number
behind_size segment size = Double size ∷ Double segment.alignment ∷ []

pub segment_parts : (segment : Segment) (size : ℕ) → numbers_bytes (program_header segment size size) ≡ numbers_bytes (segment_start segment) ++ (double size ++ numbers_bytes (behind_size segment size))
unfolding program_header numbers_bytes segment_start segment_end number_bytes
segment_parts segment size = refl

-- what stands behind the size of the stack
abbrev behind_stack : List Number
behind_stack = Double stack_segment.alignment ∷ []

pub stack_parts : (size : ℕ) → numbers_bytes (program_header stack_segment 0 size) ≡ numbers_bytes (segment_start stack_segment) ++ (numbers_bytes (Double 0 ∷ []) ++ (double size ++ numbers_bytes behind_stack))
unfolding program_header numbers_bytes segment_start segment_end number_bytes
stack_parts size = refl

-- a segment that was taken part by part
pub segment_taken : (segment : Segment) (size : ℕ) (start behind : List Number) (r0 r1 r2 r3 : Rest) → start ≡ segment_start segment → behind ≡ behind_size segment size
    → IsTaken (numbers_bytes start) r0 r1 → IsTaken (double size) r1 r2 → IsTaken (numbers_bytes behind) r2 r3 → IsTaken (numbers_bytes (program_header segment size size)) r0 r3
segment_taken segment size start behind r0 r1 r2 r3 starts behinds first second third =
    taken_as _ _ r0 r3 (ap (λ ns. numbers_bytes ns ++ (double size ++ numbers_bytes behind)) starts ∙ ap (λ ns. numbers_bytes (segment_start segment) ++ (double size ++ numbers_bytes ns)) behinds ∙ sym (segment_parts segment size))
    (taken_more _ _ r0 r1 r3 first (taken_more _ _ r1 r2 r3 second third))

pub stack_taken : (size : ℕ) (start behind : List Number) (r0 r1 r2 r3 r4 : Rest) → start ≡ segment_start stack_segment → behind ≡ behind_stack
    → IsTaken (numbers_bytes start) r0 r1 → IsTaken (numbers_bytes (Double 0 ∷ [])) r1 r2 → IsTaken (double size) r2 r3 → IsTaken (numbers_bytes behind) r3 r4 → IsTaken (numbers_bytes (program_header stack_segment 0 size)) r0 r4
stack_taken size start behind r0 r1 r2 r3 r4 starts behinds first zero second third =
    let z = numbers_bytes (Double 0 ∷ []) in
    taken_as _ _ r0 r4
    (ap (λ ns. numbers_bytes ns ++ (z ++ (double size ++ numbers_bytes behind))) starts ∙ ap (λ ns. numbers_bytes (segment_start stack_segment) ++ (z ++ (double size ++ numbers_bytes ns))) behinds ∙ sym (stack_parts size))
    (taken_more _ _ r0 r1 r4 first (taken_more _ _ r1 r2 r4 zero (taken_more _ _ r2 r3 r4 second third)))

-- three parts of which the second is a size
sized_between : (counted : Counted) (n : ℕ) (start behind : List Number) (before now : Rest) → 0 < counted.unit → counted.least ≤ n → n ≤ counted.most → size_of counted n < 2 ^ 64
    → IsTaken (numbers_bytes start ++ (double (size_of counted n) ++ numbers_bytes behind)) before now → (behind_of : ℕ → List Number) → behind_of n ≡ behind
    → (next : ℕ → Judge) → exacts start (sized counted (λ k. exacts (behind_of k) (next k))) before ≡ next n now
sized_between counted n start behind before now some low high fits taken behind_of same next =
    let a = numbers_bytes start in
    let b : Bytes = double (size_of counted n) in
    let d = numbers_bytes behind in
    let r1 = between a (b ++ d) before now in
    let r2 = between b d r1 now in
    let later = taken_second a (b ++ d) before now taken in
    exacts_passed start before r1 (taken_first a (b ++ d) before now taken) (sized counted (λ k. exacts (behind_of k) (next k)))
    ∙ sized_passed counted n r1 r2 some low high fits (taken_first b d r1 now later) (λ k. exacts (behind_of k) (next k))
    ∙ ap (λ ns. exacts ns (next n) r2) same
    ∙ exacts_passed behind r2 now (taken_second b d r1 now later) (next n)

pub segment_passed : (segment : Segment) (counted : Counted) (n : ℕ) (before now : Rest) → 0 < counted.unit → counted.least ≤ n → n ≤ counted.most → size_of counted n < 2 ^ 64
    → IsTaken (numbers_bytes (program_header segment (size_of counted n) (size_of counted n))) before now → (next : ℕ → Judge) → segment_fields segment counted next before ≡ next n now
segment_passed segment counted n before now some low high fits taken next =
    sized_between counted n (segment_start segment) (behind_size segment (size_of counted n)) before now some low high fits
    (taken_as _ _ before now (segment_parts segment (size_of counted n)) taken) (λ k. behind_size segment (size_of counted k)) refl next

-- the sizes of so many parts
pub code_size : (n : ℕ) → size_of code_counted n ≡ 4 * n
unfolding code_counted
code_size n = omega arith

pub table_size : (n : ℕ) → size_of table_counted n ≡ 8 * n
unfolding table_counted
table_size n = omega arith

pub stack_size : (n : ℕ) → size_of stack_counted n ≡ 8 * n
unfolding stack_counted
stack_size n = omega arith

pub places_size : (n : ℕ) → size_of places_counted n ≡ 16 + 8 * n
unfolding places_counted
places_size n = refl

code_passed : (c : ℕ) (before now : Rest) → 1 ≤ c → c ≤ 4194304 → IsTaken (numbers_bytes (program_header code_segment (4 * c) (4 * c))) before now → (next : ℕ → Judge) → segment_fields code_segment code_counted next before ≡ next c now
unfolding code_counted
code_passed c before now low high taken next =
    segment_passed code_segment code_counted c before now (omega arith) low high (omega arith) (taken_as _ _ before now (ap (λ s. numbers_bytes (program_header code_segment s s)) (sym (code_size c))) taken) next

table_passed : (c t : ℕ) (before now : Rest) → t ≤ 1048576 → IsTaken (numbers_bytes (program_header (table_segment c) (8 * t) (8 * t))) before now → (next : ℕ → Judge) → segment_fields (table_segment c) table_counted next before ≡ next t now
unfolding table_counted
table_passed c t before now high taken next =
    segment_passed (table_segment c) table_counted t before now (omega arith) (omega arith) high (omega arith) (taken_as _ _ before now (ap (λ s. numbers_bytes (program_header (table_segment c) s s)) (sym (table_size t))) taken) next

note_passed : (c t n : ℕ) (before now : Rest) → n ≤ 524288 → IsTaken (numbers_bytes (program_header (note_segment c t) (16 + 8 * n) (16 + 8 * n))) before now
    → (next : ℕ → Judge) → segment_fields (note_segment c t) places_counted next before ≡ next n now
unfolding places_counted
note_passed c t n before now high taken next =
    segment_passed (note_segment c t) places_counted n before now (omega arith) (omega arith) high (omega arith) taken next

pub stack_passed : (s : ℕ) (before now : Rest) → 1024 ≤ s → s ≤ 67108864 → IsTaken (numbers_bytes (program_header stack_segment 0 (8 * s))) before now → (next : ℕ → Judge) → stack_fields next before ≡ next s now
unfolding stack_counted
stack_passed s before now low high taken next =
    let size = size_of stack_counted s in
    let a = numbers_bytes (segment_start stack_segment) in
    let b : Bytes = numbers_bytes (Double 0 ∷ []) ++ (double size ++ numbers_bytes behind_stack) in
    let parts = taken_as _ (a ++ b) before now (ap (λ k. numbers_bytes (program_header stack_segment 0 k)) (sym (stack_size s)) ∙ stack_parts size) taken in
    exacts_passed (segment_start stack_segment) before (between a b before now) (taken_first a b before now parts) (exacts (Double 0 ∷ []) (sized stack_counted (λ n. exacts behind_stack (next n))))
    ∙ sized_between stack_counted s (Double 0 ∷ []) behind_stack (between a b before now) now (omega arith) low high (omega arith) (taken_second a b before now parts) (λ k. behind_stack) refl next

-- other words for numbers
exacts_is : (a b : List Number) (before now : Rest) → a ≡ b → ((next : Judge) → exacts a next before ≡ next now) → (next : Judge) → exacts b next before ≡ next now
exacts_is a b before now same judged next = ap (λ ns. exacts ns next before) (sym same) ∙ judged next

exacts_fail : (error : ElfError) (a b : List Number) (before : Rest) → a ≡ b → ((next : Judge) → IsCause error (exacts a next before)) → (next : Judge) → IsCause error (exacts b next before)
exacts_fail error a b before same judged next = cause_along error _ _ (ap (λ ns. exacts ns next before) (sym same)) (judged next)

-- ---- what is told of a segment by other words

pub taken_is : (result : Result ℕ ElfError) (s t : Segment) (k l : Counted) (size : ℕ → ℕ) (before now : Rest) → s ≡ t → k ≡ l → ((n : ℕ) → size_of l n ≡ size n)
    → IfOk result (λ n. IsTaken (numbers_bytes (program_header s (size_of k n) (size_of k n))) before now) → IfOk result (λ n. IsTaken (numbers_bytes (program_header t (size n) (size n))) before now)
taken_is (Ok n) s t k l size before now segments counts sizes taken =
    let same : size_of k n ≡ size n = ap (λ c. size_of c n) counts ∙ sizes n in
    taken_as _ _ before now (ap (λ x. numbers_bytes (program_header x (size_of k n) (size_of k n))) segments ∙ ap (λ x. numbers_bytes (program_header t x x)) same) taken
taken_is (Err error) s t k l size before now segments counts sizes taken = taken

pub range_is : (result : Result ℕ ElfError) (k l : Counted) → k ≡ l → IfOk result (λ n. (k.least ≤ n) × (n ≤ k.most)) → IfOk result (λ n. (l.least ≤ n) × (n ≤ l.most))
range_is result k l same range = let P : Counted → Type 0 = λ c. IfOk result (λ n. (c.least ≤ n) × (n ≤ c.most)) in subst P same range

pub judged_is : (result : Result ℕ ElfError) (s t : Segment) (k l : Counted) (before now : Rest) → s ≡ t → k ≡ l → JudgesBy result (segment_fields s k) before now → JudgesBy result (segment_fields t l) before now
judged_is result s t k l before now segments counts judged =
    let P : Segment → Type 0 = λ x. JudgesBy result (segment_fields x k) before now in
    let Q : Counted → Type 0 = λ x. JudgesBy result (segment_fields t x) before now in
    subst Q counts (subst P segments judged)

-- ---- all headers

abbrev pub after_stack : (Sizes → Judge) → ℕ → ℕ → ℕ → Judge
after_stack next c t s = segment_fields (note_segment c t) places_counted (λ n. next (record { code_words = c; table_words = t; stack_words = s; places = n }))

abbrev pub after_table : (Sizes → Judge) → ℕ → ℕ → Judge
after_table next c t = stack_fields (after_stack next c t)

abbrev pub after_code : (Sizes → Judge) → ℕ → Judge
after_code next c = segment_fields (table_segment c) table_counted (after_table next c)

abbrev pub after_file : (Sizes → Judge) → Judge
after_file next = segment_fields code_segment code_counted (after_code next)

pub header_is : (next : Sizes → Judge) (rest : Rest) → header_fields next rest ≡ exacts file_header (after_file next) rest
unfolding header_fields
header_is next rest = refl

-- their bytes
abbrev pub code_header : Sizes → Bytes
code_header z = numbers_bytes (program_header code_segment (4 * z.code_words) (4 * z.code_words))

abbrev pub table_header : Sizes → Bytes
table_header z = numbers_bytes (program_header (table_segment z.code_words) (8 * z.table_words) (8 * z.table_words))

abbrev pub stack_header : Sizes → Bytes
stack_header z = numbers_bytes (program_header stack_segment 0 (8 * z.stack_words))

abbrev pub note_header_of : Sizes → Bytes
note_header_of z = numbers_bytes (program_header (note_segment z.code_words z.table_words) (16 + 8 * z.places) (16 + 8 * z.places))

pub headers_parts : (z : Sizes) → numbers_bytes (headers z) ≡ numbers_bytes file_header ++ (code_header z ++ (table_header z ++ (stack_header z ++ note_header_of z)))
unfolding headers
headers_parts z =
    let c = program_header code_segment (4 * z.code_words) (4 * z.code_words) in
    let t = program_header (table_segment z.code_words) (8 * z.table_words) (8 * z.table_words) in
    let s = program_header stack_segment 0 (8 * z.stack_words) in
    let n = program_header (note_segment z.code_words z.table_words) (16 + 8 * z.places) (16 + 8 * z.places) in
    numbers_append file_header (c ++ (t ++ (s ++ n)))
    ∙ ap (λ b. numbers_bytes file_header ++ b)
    (numbers_append c (t ++ (s ++ n)) ∙ ap (λ b. numbers_bytes c ++ b) (numbers_append t (s ++ n) ∙ ap (λ b. numbers_bytes t ++ b) (numbers_append s n)))

-- the headers of sizes in their ranges aren't refused
pub headers_passed : (z : Sizes) (before now : Rest) → SizesFit z → IsTaken (numbers_bytes (headers z)) before now → (next : Sizes → Judge) → header_fields next before ≡ next z now
headers_passed z before now fits taken next =
    let f = numbers_bytes file_header in
    let c = code_header z in
    let t = table_header z in
    let s = stack_header z in
    let n = note_header_of z in
    let r1 = between f (c ++ (t ++ (s ++ n))) before now in
    let r2 = between c (t ++ (s ++ n)) r1 now in
    let r3 = between t (s ++ n) r2 now in
    let r4 = between s n r3 now in
    let t0 = taken_as _ (f ++ (c ++ (t ++ (s ++ n)))) before now (headers_parts z) taken in
    let t1 = taken_second f (c ++ (t ++ (s ++ n))) before now t0 in
    let t2 = taken_second c (t ++ (s ++ n)) r1 now t1 in
    let t3 = taken_second t (s ++ n) r2 now t2 in
    let t4 = taken_second s n r3 now t3 in
    header_is next before
    ∙ exacts_passed file_header before r1 (taken_first f (c ++ (t ++ (s ++ n))) before now t0) (after_file next)
    ∙ code_passed z.code_words r1 r2 fits.code_least fits.code_most (taken_first c (t ++ (s ++ n)) r1 now t1) (after_code next)
    ∙ table_passed z.code_words z.table_words r2 r3 fits.table_most (taken_first t (s ++ n) r2 now t2) (after_table next z.code_words)
    ∙ stack_passed z.stack_words r3 r4 fits.stack_least fits.stack_most (taken_first s n r3 now t3) (after_stack next z.code_words z.table_words)
    ∙ note_passed z.code_words z.table_words z.places r4 now fits.places_most t4 (λ k. next (record { code_words = z.code_words; table_words = z.table_words; stack_words = z.stack_words; places = k }))

-- what was taken header by header
pub headers_taken : (z : Sizes) (r0 r1 r2 r3 r4 r5 : Rest) → IsTaken (numbers_bytes file_header) r0 r1 → IsTaken (code_header z) r1 r2 → IsTaken (table_header z) r2 r3 → IsTaken (stack_header z) r3 r4 → IsTaken (note_header_of z) r4 r5
    → IsTaken (numbers_bytes (headers z)) r0 r5
headers_taken z r0 r1 r2 r3 r4 r5 f c t s n = taken_as _ _ r0 r5 (sym (headers_parts z)) (taken_more _ _ r0 r1 r5 f (taken_more _ _ r1 r2 r5 c (taken_more _ _ r2 r3 r5 t (taken_more _ _ r3 r4 r5 s n))))

-- what was written header by header
pub headers_put : (z : Sizes) (b0 b1 b2 b3 b4 b5 : Bytes) (h : List Number) (c t s n : Segment) → h ≡ file_header → c ≡ code_segment → t ≡ table_segment z.code_words → s ≡ stack_segment → n ≡ note_segment z.code_words z.table_words
    → b1 ≡ b0 ++ numbers_bytes h
    → b2 ≡ b1 ++ numbers_bytes (program_header c (4 * z.code_words) (4 * z.code_words))
    → b3 ≡ b2 ++ numbers_bytes (program_header t (8 * z.table_words) (8 * z.table_words))
    → b4 ≡ b3 ++ numbers_bytes (program_header s 0 (8 * z.stack_words))
    → b5 ≡ b4 ++ numbers_bytes (program_header n (16 + 8 * z.places) (16 + 8 * z.places))
    → b5 ≡ b0 ++ numbers_bytes (headers z)
headers_put z b0 b1 b2 b3 b4 b5 h c t s n hs cs ts ss ns e1 e2 e3 e4 e5 =
    let head = numbers_bytes file_header in
    let code = code_header z in
    let table = table_header z in
    let stack = stack_header z in
    let note = note_header_of z in
    let p1 : b1 ≡ b0 ++ head = e1 ∙ ap (λ x. b0 ++ numbers_bytes x) hs in
    let p2 : b2 ≡ b1 ++ code = e2 ∙ ap (λ x. b1 ++ numbers_bytes (program_header x (4 * z.code_words) (4 * z.code_words))) cs in
    let p3 : b3 ≡ b2 ++ table = e3 ∙ ap (λ x. b2 ++ numbers_bytes (program_header x (8 * z.table_words) (8 * z.table_words))) ts in
    let p4 : b4 ≡ b3 ++ stack = e4 ∙ ap (λ x. b3 ++ numbers_bytes (program_header x 0 (8 * z.stack_words))) ss in
    let p5 : b5 ≡ b4 ++ note = e5 ∙ ap (λ x. b4 ++ numbers_bytes (program_header x (16 + 8 * z.places) (16 + 8 * z.places))) ns in
    p5
    ∙ ap (λ b. b ++ note) p4 ∙ append_assoc b3 stack note
    ∙ ap (λ b. b ++ (stack ++ note)) p3 ∙ append_assoc b2 table (stack ++ note)
    ∙ ap (λ b. b ++ (table ++ (stack ++ note))) p2 ∙ append_assoc b1 code (table ++ (stack ++ note))
    ∙ ap (λ b. b ++ (code ++ (table ++ (stack ++ note)))) p1 ∙ append_assoc b0 head (code ++ (table ++ (stack ++ note)))
    ∙ ap (λ b. b0 ++ b) (sym (headers_parts z))

-- the file's header was judged
pub file_step : (start : List Number) (r0 r1 : Rest) → start ≡ file_header → ((next : Judge) → exacts start next r0 ≡ next r1) → (next : Sizes → Judge) → header_fields next r0 ≡ after_file next r1
file_step start r0 r1 same judged next = header_is next r0 ∙ exacts_is start file_header r0 r1 same judged (after_file next)

pub file_fail : (error : ElfError) (start : List Number) (r0 : Rest) → start ≡ file_header → ((next : Judge) → IsCause error (exacts start next r0)) → (next : Sizes → Judge) → IsCause error (header_fields next r0)
file_fail error start r0 same judged next = cause_along error _ _ (header_is next r0) (exacts_fail error start file_header r0 same judged (after_file next))
