-- The cells of sequences, behind one another in the order of their frames.
use Rattle.std.proofs.Common.{◌≡◌, ◌⊎◌, ℕ, zero, suc, ◌+◌, ◌<◌, ◌≤◌, List, [], ◌∷◌, ◌++◌, length, get_or, set, take, drop, replicate, slice_get, pos, Some, refl, sym, ap, ap₂, ◌∙◌, subst, subst₂, arith, inl, inr}
use Rattle.std.proofs.lemmas.List.{length-take-le, length-drop, length-append, length-replicate}
use Rattle.std.proofs.lemmas.Bool.{cases_order}
use Rattle.std.proofs.lemmas.Option.{slice_get-get_or}
use Rattle.fy_base.specs.declared.data.Datum.{Datum}
use Rattle.fy_base.specs.declared.data.Datum.TheVariants as datum_kind
use Rattle.fy_base.specs.declared.data.Place.{Place}
use Rattle.pe_machine.specs.States as states
use Rattle.pe_machine.specs.States.{to_sequence, oldest, with_element, with_binding}
use Rattle.pe_machine.specs.Sound.{IsNumbered, cells_of, cells_in, count_in, AreLaid}
use Rattle.pe_machine.specs.Places.{IsPlace}
use Rattle.pe_machine.specs.Shown.{binding_of, fresh_binding, frame_of, frames_onto}
use Rattle.pe_machine.specs.declared.frames.Frame.{Frame}
use Rattle.pe_machine.specs.declared.frames.Binding.{Binding}
use Rattle.pe_machine.specs.declared.frames.Binding.TheVariants as binding
use Rattle.pe_machine.proofs.Stacks.{frames_onto-push, oldest_take}
use Rattle.pe_machine.proofs.FrameLemmas.{binding_at}

-- ---- where they begin

pub laid_end : (n : ℕ) (xs : List Frame) (e : ℕ) → AreLaid n xs e → n ≤ e
laid_end n [] e is = omega (arith, is)
laid_end n (x ∷ xs) e is = let h = laid_end (n + count_in x.binding) xs e is.1 in omega arith

pub laid_push : (n : ℕ) (xs : List Frame) (e : ℕ) (x : Frame) → AreLaid n xs e → x.cells ≡ e → AreLaid n (xs ++ x ∷ []) (e + count_in x.binding)
laid_push n [] e x is at = (at ∙ sym is, ap (λ (k : ℕ). k + count_in x.binding) is)
laid_push n (y ∷ xs) e x is at = (is.0, laid_push (n + count_in y.binding) xs e x is.1 at)

pub laid_take : (n : ℕ) (xs : List Frame) (e k : ℕ) (d : Frame) → AreLaid n xs e → k < length xs → AreLaid n (take k xs) (get_or xs k d).cells
laid_take n [] e k d is h = absurd (omega arith)
laid_take n (x ∷ xs) e zero d is h = sym is.0
laid_take n (x ∷ xs) e (suc k) d is h = (is.0, laid_take (n + count_in x.binding) xs e k d is.1 (omega arith))

-- the cells of the frame at a place are behind those before n, and before the end
pub laid_within : (n : ℕ) (xs : List Frame) (e k : ℕ) (d : Frame) → AreLaid n xs e → k < length xs → (n ≤ (get_or xs k d).cells) × ((get_or xs k d).cells + count_in (get_or xs k d).binding ≤ e)
laid_within n [] e k d is h = absurd (omega arith)
laid_within n (x ∷ xs) e zero d is h = let at = is.0 in let rest = laid_end (n + count_in x.binding) xs e is.1 in (omega arith, omega arith)
laid_within n (x ∷ xs) e (suc k) d is h = let r = laid_within (n + count_in x.binding) xs e k d is.1 (omega arith) in let low = r.0 in (omega arith, r.1)

-- and those of a newer frame behind them
pub laid_order : (n : ℕ) (xs : List Frame) (e i j : ℕ) (d : Frame) → AreLaid n xs e → i < j → j < length xs → (get_or xs i d).cells + count_in (get_or xs i d).binding ≤ (get_or xs j d).cells
laid_order n [] e i j d is lt h = absurd (omega arith)
laid_order n (x ∷ xs) e i zero d is lt h = absurd (omega arith)
laid_order n (x ∷ xs) e zero (suc j) d is lt h =
    let at = is.0 in
    let low = (laid_within (n + count_in x.binding) xs e j d is.1 (omega arith)).0 in
    omega arith
laid_order n (x ∷ xs) e (suc i) (suc j) d is lt h = laid_order (n + count_in x.binding) xs e i j d is.1 (omega arith) (omega arith)

pub laid_set : (n : ℕ) (xs : List Frame) (e i : ℕ) (x y : Frame) → AreLaid n xs e → i < length xs → x ≡ get_or xs i x → y.cells ≡ x.cells → count_in y.binding ≡ count_in x.binding → AreLaid n (set xs i y) e
laid_set n [] e i x y is h read cells count = absurd (omega arith)
laid_set n (z ∷ xs) e zero x y is h read cells count = (
  cells ∙ ap (λ (f : Frame). f.cells) read ∙ is.0,
  subst (λ (k : ℕ). AreLaid (n + k) xs e) (sym (count ∙ ap (λ (f : Frame). count_in f.binding) read)) is.1,
)
laid_set n (z ∷ xs) e (suc i) x y is h read cells count = (is.0, laid_set (n + count_in z.binding) xs e i x y is.1 (omega arith) read cells count)

-- ---- parts of lists

take_within : (j m : ℕ) (cs : List Datum) → j ≤ m → take j (take m cs) ≡ take j cs
take_within zero m cs h = refl
take_within (suc j) zero cs h = absurd (omega arith)
take_within (suc j) (suc m) [] h = refl
take_within (suc j) (suc m) (c ∷ cs) h = ap (λ (r : List Datum). c ∷ r) (take_within j m cs (omega arith))

pub part_take : (i j m : ℕ) (cs : List Datum) → i + j ≤ m → take j (drop i cs) ≡ take j (drop i (take m cs))
part_take zero j m cs h = sym (take_within j m cs (omega arith))
part_take (suc i) j zero cs h = absurd (omega arith)
part_take (suc i) j (suc m) [] h = refl
part_take (suc i) j (suc m) (c ∷ cs) h = part_take i j m cs (omega arith)

pub part_append : (i j : ℕ) (cs ds : List Datum) → i + j ≤ length cs → take j (drop i cs) ≡ take j (drop i (cs ++ ds))
part_append zero zero cs ds h = refl
part_append zero (suc j) [] ds h = absurd (omega arith)
part_append zero (suc j) (c ∷ cs) ds h = ap (λ (r : List Datum). c ∷ r) (part_append zero j cs ds (omega arith))
part_append (suc i) j [] ds h = absurd (omega arith)
part_append (suc i) j (c ∷ cs) ds h = part_append i j cs ds (omega arith)

take_replicate : (n : ℕ) (v : Datum) → take n (replicate n v) ≡ replicate n v
take_replicate zero v = refl
take_replicate (suc n) v = ap (λ (r : List Datum). v ∷ r) (take_replicate n v)

pub part_new : (cs : List Datum) (n : ℕ) (v : Datum) → take n (drop (length cs) (cs ++ replicate n v)) ≡ replicate n v
part_new [] n v = take_replicate n v
part_new (c ∷ cs) n v = part_new cs n v

-- another cell is set
part_before : (i j p : ℕ) (v : Datum) (cs : List Datum) → i + j ≤ p → take j (drop i cs) ≡ take j (drop i (set cs p v))
part_before i j p v [] h = refl
part_before zero zero p v (c ∷ cs) h = refl
part_before zero (suc j) zero v (c ∷ cs) h = absurd (omega arith)
part_before zero (suc j) (suc p) v (c ∷ cs) h = ap (λ (r : List Datum). c ∷ r) (part_before zero j p v cs (omega arith))
part_before (suc i) j zero v (c ∷ cs) h = absurd (omega arith)
part_before (suc i) j (suc p) v (c ∷ cs) h = part_before i j p v cs (omega arith)

part_behind : (i j p : ℕ) (v : Datum) (cs : List Datum) → p < i → take j (drop i cs) ≡ take j (drop i (set cs p v))
part_behind zero j p v cs h = absurd (omega arith)
part_behind (suc i) j p v [] h = refl
part_behind (suc i) j zero v (c ∷ cs) h = refl
part_behind (suc i) j (suc p) v (c ∷ cs) h = part_behind i j p v cs (omega arith)

pub part_other : (i j p : ℕ) (v : Datum) (cs : List Datum) → (i + j ≤ p) ⊎ (p < i) → take j (drop i cs) ≡ take j (drop i (set cs p v))
part_other i j p v cs (inl h) = part_before i j p v cs h
part_other i j p v cs (inr h) = part_behind i j p v cs h

-- one of them is set
set_at : (i j p q : ℕ) (v : Datum) (cs : List Datum) → q ≡ i + p → p < j → take j (drop i (set cs q v)) ≡ set (take j (drop i cs)) p v
set_at zero zero p q v cs e h = absurd (omega arith)
set_at zero (suc j) p q v [] e h = refl
set_at zero (suc j) zero zero v (c ∷ cs) e h = refl
set_at zero (suc j) zero (suc q) v (c ∷ cs) e h = absurd (omega arith)
set_at zero (suc j) (suc p) zero v (c ∷ cs) e h = absurd (omega arith)
set_at zero (suc j) (suc p) (suc q) v (c ∷ cs) e h = ap (λ (r : List Datum). c ∷ r) (set_at zero j p q v cs (omega arith) (omega arith))
set_at (suc i) zero p q v cs e h = absurd (omega arith)
set_at (suc i) (suc j) p zero v cs e h = absurd (omega arith)
set_at (suc i) (suc j) p (suc q) v [] e h = refl
set_at (suc i) (suc j) p (suc q) v (c ∷ cs) e h = set_at i (suc j) p q v cs (omega arith) h

pub part_set : (i j p : ℕ) (v : Datum) (cs : List Datum) → p < j → take j (drop i (set cs (i + p) v)) ≡ set (take j (drop i cs)) p v
part_set i j p v cs h = set_at i j p (i + p) v cs refl h

-- ---- frames by other cells

-- the first e cells are the same in their parts
abbrev pub HaveSameParts : ℕ → List Datum → List Datum → Type 0
HaveSameParts e cells now = (i j : ℕ) → i + j ≤ e → take j (drop i cells) ≡ take j (drop i now)

pub binding_same : (a b : List Datum) (x : Binding) → take (count_in x) a ≡ take (count_in x) b → binding_of a x ≡ binding_of b x
binding_same a b (binding.ToThunk t) h = refl
binding_same a b (binding.ToCell v) h = refl
binding_same a b binding.ToEscape h = refl
binding_same a b (binding.ToSequence place count) h = ap (λ (vs : List Datum). to_sequence (record { place = place; values = vs })) h

pub frame_same : (cells now : List Datum) (x : Frame) → take (count_in x.binding) (drop x.cells cells) ≡ take (count_in x.binding) (drop x.cells now) → frame_of cells x ≡ frame_of now x
frame_same cells now x h = ap (λ (b : states.Binding). record (frame_of cells x) { binding = b }) (binding_same (drop x.cells cells) (drop x.cells now) x.binding h)

pub frames_same : (cells now : List Datum) (n : ℕ) (xs : List Frame) (e : ℕ) (fs : List states.Frame) → AreLaid n xs e → HaveSameParts e cells now → frames_onto cells fs xs ≡ frames_onto now fs xs
frames_same cells now n [] e fs is same = refl
frames_same cells now n (x ∷ xs) e fs is same =
    let at = is.0 in
    let rest = laid_end (n + count_in x.binding) xs e is.1 in
    ap (λ (f : states.Frame). frames_onto cells (f ∷ fs) xs) (frame_same cells now x (same x.cells (count_in x.binding) (omega arith)))
    ∙ frames_same cells now (n + count_in x.binding) xs e (frame_of now x ∷ fs) is.1 same

-- ---- how many there are

cells_of_binding : (rest : List Datum) (b : Binding) → count_in b ≤ length rest → cells_of (binding_of rest b) ≡ count_in b
cells_of_binding rest (binding.ToThunk t) h = refl
cells_of_binding rest (binding.ToCell v) h = refl
cells_of_binding rest binding.ToEscape h = refl
cells_of_binding rest (binding.ToSequence place count) h = length-take-le count rest h

cells_onto : (cells : List Datum) (n : ℕ) (xs : List Frame) (e : ℕ) (fs : List states.Frame) → AreLaid n xs e → e ≤ length cells → n + cells_in (frames_onto cells fs xs) ≡ cells_in fs + e
cells_onto cells n [] e fs is h = omega (arith, is)
cells_onto cells n (x ∷ xs) e fs is h =
    let at = is.0 in
    let rest = laid_end (n + count_in x.binding) xs e is.1 in
    let long = length-drop x.cells cells in
    let own = cells_of_binding (drop x.cells cells) x.binding (omega arith) in
    let more = cells_onto cells (n + count_in x.binding) xs e (frame_of cells x ∷ fs) is.1 h in
    omega arith

-- the machine's frames hold as many cells as the array of frames says
pub cells_counted : (cells : List Datum) (xs : List Frame) (e : ℕ) → AreLaid 0 xs e → e ≤ length cells → cells_in (frames_onto cells [] xs) ≡ e
cells_counted cells xs e is h = let all = cells_onto cells 0 xs e [] is h in omega arith

-- ---- cuts

-- the oldest frames, by the cells that they have
pub cut_is : (cells now : List Datum) (n m : ℕ) (xs ys : List Frame) → now ≡ take m cells → ys ≡ take n xs → AreLaid 0 (take n xs) m → frames_onto now [] ys ≡ oldest n (frames_onto cells [] xs)
cut_is cells now n m xs ys now_is ys_is laid =
    ap₂ (λ (a : List Datum) (b : List Frame). frames_onto a [] b) now_is ys_is
    ∙ sym (oldest_take cells n xs ∙ frames_same cells (take m cells) 0 (take n xs) m [] laid (λ i j h. part_take i j m cells h))

pub cut_laid : (cells now : List Datum) (n m : ℕ) (xs ys : List Frame) → now ≡ take m cells → ys ≡ take n xs → AreLaid 0 (take n xs) m → m ≤ length cells → AreLaid 0 ys (length now)
cut_laid cells now n m xs ys now_is ys_is laid within =
    let long : m ≡ length now = sym (ap length now_is ∙ length-take-le m cells within) in
    subst₂ (λ (zs : List Frame) (e : ℕ). AreLaid 0 zs e) (sym ys_is) long laid

-- ---- one frame more

pub pushed_is : (cells now : List Datum) (v : Datum) (xs ys : List Frame) (x : Frame) → now ≡ cells ++ replicate (count_in x.binding) v → ys ≡ xs ++ x ∷ [] → AreLaid 0 xs (length cells)
    → frames_onto now [] ys ≡ frame_of now x ∷ frames_onto cells [] xs
pushed_is cells now v xs ys x now_is ys_is laid =
    let more : List Datum = replicate (count_in x.binding) v in
    ap (λ (b : List Frame). frames_onto now [] b) ys_is
    ∙ frames_onto-push now [] xs x
    ∙ ap (λ (fs : List states.Frame). frame_of now x ∷ fs)
    (ap (λ (a : List Datum). frames_onto a [] xs) now_is ∙ sym (frames_same cells (cells ++ more) 0 xs (length cells) [] laid (λ i j h. part_append i j cells more h)))

pub pushed_laid : (cells now : List Datum) (v : Datum) (xs ys : List Frame) (x : Frame) → now ≡ cells ++ replicate (count_in x.binding) v → ys ≡ xs ++ x ∷ [] → x.cells ≡ length cells → AreLaid 0 xs (length cells)
    → AreLaid 0 ys (length now)
pushed_laid cells now v xs ys x now_is ys_is at laid =
    let long : length cells + count_in x.binding ≡ length now =
    sym (ap length now_is ∙ length-append cells (replicate (count_in x.binding) v) ∙ ap (λ (k : ℕ). length cells + k) (length-replicate (count_in x.binding) v)) in
    subst₂ (λ (zs : List Frame) (e : ℕ). AreLaid 0 zs e) (sym ys_is) long (laid_push 0 xs (length cells) x laid at)

-- its cells hold v
pub fresh_is : (cells now : List Datum) (x : Frame) → now ≡ cells ++ replicate (count_in x.binding) (datum_kind.Int (pos 0)) → x.cells ≡ length cells → binding_of (drop x.cells now) x.binding ≡ fresh_binding x.binding
fresh_is cells now x now_is at =
    ap₂ (λ (k : ℕ) (a : List Datum). binding_of (drop k a) x.binding) at now_is ∙ fresh_by cells x.binding
  where
    fresh_by : (cs : List Datum) (b : Binding) → binding_of (drop (length cs) (cs ++ replicate (count_in b) (datum_kind.Int (pos 0)))) b ≡ fresh_binding b
    fresh_by cs (binding.ToThunk t) = refl
    fresh_by cs (binding.ToCell v) = refl
    fresh_by cs binding.ToEscape = refl
    fresh_by cs (binding.ToSequence place count) = ap (λ (vs : List Datum). to_sequence (record { place = place; values = vs })) (part_new cs count (datum_kind.Int (pos 0)))

-- ---- a cell is set

-- the frames by cells of which one, of the sequence of the frame at a place, is another
pub element_is : (n m place i count : ℕ) (at : Place) (v : Datum) (cells : List Datum) (xs : List Frame) (x : Frame) → IsNumbered m (frames_onto cells [] xs) → AreLaid 0 xs (length cells) → place < length xs
    → ((d : Frame) → (get_or xs place d).number ≡ n) → x ≡ get_or xs place x → x.binding ≡ binding.ToSequence at count → i < count
    → with_binding n (with_element i v) (frames_onto cells [] xs) ≡ frames_onto (set cells (x.cells + i) v) [] xs
element_is n m place i count at v cells xs x numbered laid lt number read bound less =
    let now : List Datum = set cells (x.cells + i) v in
    let start : x.cells ≡ (get_or xs place x).cells = ap (λ (f : Frame). f.cells) read in
    let many : count_in (get_or xs place x).binding ≡ count = ap (λ (f : Frame). count_in f.binding) (sym read) ∙ ap (λ (b : Binding). count_in b) bound in
    let own : frame_of now x ≡ record (frame_of cells x) { binding = with_element i v (frame_of cells x).binding } =
    ap (λ (b : states.Binding). record (frame_of cells x) { binding = b })
    (ap (λ (b : Binding). binding_of (drop x.cells now) b) bound
    ∙ ap (λ (vs : List Datum). to_sequence (record { place = at; values = vs })) (part_set x.cells count i v cells less)
    ∙ sym (ap (λ (b : Binding). with_element i v (binding_of (drop x.cells cells) b)) bound)) in
    binding_at cells n m place (with_element i v) now xs xs x numbered refl lt (number x)
    (subst (λ (f : Frame). frame_of now f ≡ record (frame_of cells f) { binding = with_element i v (frame_of cells f).binding }) read own)
    (λ k within other. sym (frame_same cells now (get_or xs k x)
    (part_other (get_or xs k x).cells (count_in (get_or xs k x).binding) (x.cells + i) v cells (elim (cases_order k place) [
      | inl here ↦ absurd (other here)
      | inr apart ↦ elim apart [
        | inl before ↦ let order = laid_order 0 xs (length cells) k place x laid before lt in inl (omega arith)
        | inr after ↦ let order = laid_order 0 xs (length cells) place k x laid after within in inr (omega (arith, order, start, many, less))
      ]
    ]))))

-- the same by how many cells the frame has
pub element_at : (n m place i : ℕ) (v : Datum) (cells : List Datum) (xs : List Frame) (x : Frame) → IsNumbered m (frames_onto cells [] xs) → AreLaid 0 xs (length cells) → place < length xs
    → ((d : Frame) → (get_or xs place d).number ≡ n) → x ≡ get_or xs place x → i < count_in x.binding
    → with_binding n (with_element i v) (frames_onto cells [] xs) ≡ frames_onto (set cells (x.cells + i) v) [] xs
element_at n m place i v cells xs x numbered laid lt number read less = by x.binding refl
  where
    by : (b : Binding) → x.binding ≡ b → with_binding n (with_element i v) (frames_onto cells [] xs) ≡ frames_onto (set cells (x.cells + i) v) [] xs
    by (binding.ToSequence at count) bound =
        let many : count_in x.binding ≡ count = ap (λ (b : Binding). count_in b) bound in
        element_is n m place i count at v cells xs x numbered laid lt number read bound (omega (arith, less, many))
    by (binding.ToThunk t) bound = let none : count_in x.binding ≡ 0 = ap (λ (b : Binding). count_in b) bound in absurd (omega (arith, less, none))
    by (binding.ToCell u) bound = let none : count_in x.binding ≡ 0 = ap (λ (b : Binding). count_in b) bound in absurd (omega (arith, less, none))
    by binding.ToEscape bound = let none : count_in x.binding ≡ 0 = ap (λ (b : Binding). count_in b) bound in absurd (omega (arith, less, none))

-- past the cells of the frame nothing changes
set_past : (vs : List Datum) (i : ℕ) (v : Datum) → length vs ≤ i → set vs i v ≡ vs
set_past [] i v h = refl
set_past (u ∷ vs) zero v h = absurd (omega arith)
set_past (u ∷ vs) (suc i) v h = ap (λ (r : List Datum). u ∷ r) (set_past vs i v (omega arith))

element_stays : (rest : List Datum) (b : Binding) (i : ℕ) (v : Datum) → count_in b ≤ i → count_in b ≤ length rest → binding_of rest b ≡ with_element i v (binding_of rest b)
element_stays rest (binding.ToThunk t) i v h long = refl
element_stays rest (binding.ToCell u) i v h long = refl
element_stays rest binding.ToEscape i v h long = refl
element_stays rest (binding.ToSequence at count) i v h long =
    let many = length-take-le count rest long in
    ap (λ (vs : List Datum). to_sequence (record { place = at; values = vs })) (sym (set_past (take count rest) i v (omega arith)))

pub element_past : (n m end place i : ℕ) (v : Datum) (cells : List Datum) (xs : List Frame) (x : Frame) → end ≡ length xs → IsNumbered m (frames_onto cells [] xs) → AreLaid 0 xs (length cells) → IsPlace xs end n (Some place)
    → x ≡ get_or xs place x → count_in x.binding ≤ i → with_binding n (with_element i v) (frames_onto cells [] xs) ≡ frames_onto cells [] xs
element_past n m end place i v cells xs x all numbered laid at read past =
    let below = at.0 in
    let lt : place < length xs = omega (arith, all) in
    let end_is = (laid_within 0 xs (length cells) place x laid lt).1 in
    let start : x.cells ≡ (get_or xs place x).cells = ap (λ (f : Frame). f.cells) read in
    let many : count_in x.binding ≡ count_in (get_or xs place x).binding = ap (λ (f : Frame). count_in f.binding) read in
    let long = length-drop x.cells cells in
    let own : frame_of cells x ≡ record (frame_of cells x) { binding = with_element i v (frame_of cells x).binding } =
    ap (λ (b : states.Binding). record (frame_of cells x) { binding = b }) (element_stays (drop x.cells cells) x.binding i v past (omega (arith, end_is, start, many, long))) in
    binding_at cells n m place (with_element i v) cells xs xs x numbered refl lt (at.1 x)
    (subst (λ (f : Frame). frame_of cells f ≡ record (frame_of cells f) { binding = with_element i v (frame_of cells f).binding }) read own) (λ k within other. refl)

-- ---- a cell is read

read_at : (i j p q : ℕ) (d : Datum) (cs : List Datum) → q ≡ i + p → p < j → get_or (take j (drop i cs)) p d ≡ get_or cs q d
read_at zero zero p q d cs e h = absurd (omega arith)
read_at zero (suc j) p q d [] e h = refl
read_at zero (suc j) zero zero d (c ∷ cs) e h = refl
read_at zero (suc j) zero (suc q) d (c ∷ cs) e h = absurd (omega arith)
read_at zero (suc j) (suc p) zero d (c ∷ cs) e h = absurd (omega arith)
read_at zero (suc j) (suc p) (suc q) d (c ∷ cs) e h = read_at zero j p q d cs (omega arith) (omega arith)
read_at (suc i) zero p q d cs e h = absurd (omega arith)
read_at (suc i) (suc j) p zero d cs e h = absurd (omega arith)
read_at (suc i) (suc j) p (suc q) d [] e h = refl
read_at (suc i) (suc j) p (suc q) d (c ∷ cs) e h = read_at i (suc j) p q d cs (omega arith) h

pub part_get : (i j p : ℕ) (v : Datum) (cs : List Datum) → p < j → i + j ≤ length cs → v ≡ get_or cs (i + p) v → slice_get (take j (drop i cs)) p ≡ Some v
part_get i j p v cs less inside read =
    let rest = length-drop i cs in
    let long = length-take-le j (drop i cs) (omega arith) in
    slice_get-get_or (take j (drop i cs)) p v (omega arith) ∙ ap Some (read_at i j p (i + p) v cs refl less ∙ sym read)
