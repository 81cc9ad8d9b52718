-- Plans, and what they lead to.
use Rattle.std.proofs.Common.{◌≡◌, ℕ, ◌+◌, ◌*◌, ◌-◌, ◌<◌, ◌≤◌, true, false, cond, List, [], ◌∷◌, length, get_or, take, refl, sym, ap, ◌∙◌, subst, arith, Some, None}
use Rattle.std.specs.Prelude.{nat_lt, negsuc, pos, slice_get, MatchOption}
use Rattle.fy_base.specs.declared.data.Datum.{Datum}
use Rattle.pe_code.specs.declared.code.PeCode.{PeCode}
use Rattle.std.specs.Option.{option_map}
use Rattle.std.specs.declared.option.Option.{Option}
use Rattle.std.proofs.lemmas.List.{take_all}
use Rattle.std.proofs.lemmas.Option.{slice_get-get_or, get_or_from_slice_get}
use Rattle.std.proofs.lemmas.Bool.{cond-true, cond-false}
use Rattle.pe_machine.specs.States as states
use Rattle.pe_machine.specs.States.{PeState, PeContext, completed, oldest, jump_of, is_listed, Wanted, Sequence, sequence_at, element_in, with_value}
use Rattle.fy_phrase.specs.Contexts.{element_c, store_c}
use Rattle.fy_phrase.specs.Copy.{Which, element}
use Rattle.fy_base.specs.declared.data.Datum.TheVariants as datum_kind
use Rattle.fy_base.specs.declared.data.FaultKind.TheVariants.{Range}
use Rattle.pe_code.specs.declared.code.SequenceShapes.{SequenceShapes}
use Rattle.pe_machine.specs.declared.frames.Thunk.{Thunk}
use Rattle.pe_machine.specs.Step.{PeMove, goes, faults, sticks, loses, focused, answered, taken, datum_meets, datum_under, datum_focused, is_target, jumped, with_variable, push, if_listed, assigned, assignment_meets, is_assignment, cell_entered, element_picked, index_entered, index_meets, Asked, a_cell, a_length, no_part, asked_at, sequence_asked}
use Rattle.pe_machine.specs.Sound.{AreBased, cells_in}
use Rattle.pe_machine.specs.Shown.{held_of, context_of, frames_onto, contexts_onto}
use Rattle.pe_machine.specs.Places.{IsHeldAt, handed_by}
use Rattle.pe_machine.specs.Turns.{oldest_contexts, kept_of, picked_in, IsFair}
use Rattle.pe_machine.specs.declared.contexts.Held.{Held}
use Rattle.pe_machine.specs.declared.contexts.Context.{Context}
use Rattle.pe_machine.specs.declared.contexts.Context.TheVariants as held_context
use Rattle.pe_machine.specs.declared.frames.Frame.{Frame}
use Rattle.pe_machine.specs.declared.turns.Kept.{Kept}
use Rattle.pe_machine.proofs.Stacks.{contexts_more, contexts_all, contexts_take, oldest_all, length-contexts, length-frames}
use Rattle.pe_machine.proofs.ContextLemmas.{based_at, based_oldest, oldest_contexts_same}

-- ---- what is kept

-- nothing is cut
pub kept_whole : (s : PeState) (i j load : ℕ) → length s.contexts ≤ i → length s.frames ≤ j → load ≡ s.load → kept_of (record { contexts = i; frames = j; load = load }) s ≡ s
kept_whole s i j load contexts frames same =
    ap (λ (cs : List states.Held). record s { contexts = cs; frames = oldest j s.frames; load = load }) (contexts_all i s.contexts contexts)
    ∙ ap (λ (fs : List states.Frame). record s { frames = fs; load = load }) (oldest_all j s.frames frames)
    ∙ ap (λ (n : ℕ). record s { load = n }) same

-- and with the arrays as they stand
pub stays : (s : PeState) (contexts : List Held) (cells : List Datum) (frames : List Frame) (i j load : ℕ) → s.contexts ≡ contexts_onto [] contexts → s.frames ≡ frames_onto cells [] frames → length contexts ≤ i → length frames ≤ j → load ≡ s.load
    → kept_of (record { contexts = i; frames = j; load = load }) s ≡ s
stays s contexts cells frames i j load cs fs many_contexts many_frames same =
    let long : length s.contexts ≡ length contexts = ap length cs ∙ length-contexts contexts in
    let deep : length s.frames ≡ length frames = ap length fs ∙ length-frames cells frames in
    kept_whole s i j load (omega arith) (omega arith) same

pub fair_at : (limit place : ℕ) (held : Held) (items : List Held) (s : PeState) → s.contexts ≡ contexts_onto [] items → AreBased limit s.frames (contexts_onto [] items) → IsHeldAt held place items
    → IsFair limit s (record { contexts = place; frames = held.frames; load = held.base })
fair_at limit place held items s shown are at =
    let based = based_at limit place s.frames items held are at.0 in
    let rest : contexts_onto [] (take place items) ≡ oldest_contexts place s.contexts = sym (contexts_take place items) ∙ ap (λ (cs : List states.Held). oldest_contexts place cs) (sym shown) in
    let P : Held → Type 0 = λ h. IsFair limit s (record { contexts = place; frames = h.frames; load = h.base }) in
    let h : Held = get_or items place held in
    subst P (at.1 held) (record {
      counted = based.counted;
      cells = based.cells;
      within = based.within;
      based = subst (λ (cs : List states.Held). AreBased limit (oldest h.frames s.frames) cs) rest based.older;
    })

-- all frames stay
pub fair_fewer : (limit : ℕ) (s : PeState) (i j load : ℕ) → length s.frames ≤ j → 8 * (j + i) ≤ load → cells_in s.frames ≤ load → load ≤ limit → AreBased limit s.frames s.contexts
    → IsFair limit s (record { contexts = i; frames = j; load = load })
fair_fewer limit s i j load many counted cells within are =
    let all = sym (oldest_all j s.frames many) in
    record {
      counted = counted;
      cells = subst (λ (fs : List states.Frame). cells_in fs ≤ load) all cells;
      within = within;
      based = subst (λ (fs : List states.Frame). AreBased limit fs (oldest_contexts i s.contexts)) all (based_oldest limit i s.frames s.contexts are);
    }

-- with fewer contexts
pub fair_under : (limit : ℕ) (s : PeState) (i place j load : ℕ) → i ≤ place → IsFair limit s (record { contexts = place; frames = j; load = load }) → IsFair limit s (record { contexts = i; frames = j; load = load })
fair_under limit s i place j load less fair =
    let counted = fair.counted in
    record {
      counted = omega arith;
      cells = fair.cells;
      within = fair.within;
      based =
          subst (λ (cs : List states.Held). AreBased limit (oldest j s.frames) cs) (oldest_contexts_same i place s.contexts less)
          (based_oldest limit i (oldest j s.frames) (oldest_contexts place s.contexts) fair.based);
    }

-- ---- the newest context

pub newest_is : (o : Option Held) (items : List Held) → o ≡ slice_get items (length items - 1) → MatchOption o (contexts_onto [] items ≡ []) (λ held. IsHeldAt held (length items - 1) items)
newest_is None [] is = refl
newest_is None (x ∷ xs) is = absurd (let some : None ≡ Some (get_or (x ∷ xs) (length (x ∷ xs) - 1) x) = is ∙ slice_get-get_or (x ∷ xs) (length (x ∷ xs) - 1) x (omega arith) in cc)
newest_is (Some h) [] is = absurd (let none : Some h ≡ None = is in cc)
newest_is (Some h) (x ∷ xs) is = (omega arith, λ d. get_or_from_slice_get (x ∷ xs) (length (x ∷ xs) - 1) h d (sym is))

-- the newest, and the others
split : (held : Held) (place : ℕ) (items : List Held) → IsHeldAt held place items → place + 1 ≡ length items → contexts_onto [] items ≡ held_of held ∷ contexts_onto [] (take place items)
split held place items at last =
    ap (contexts_onto []) (sym (take_all (place + 1) items (omega arith)))
    ∙ contexts_more items place held at.0
    ∙ ap (λ (h : Held). held_of h ∷ contexts_onto [] (take place items)) (at.1 held)

pub taken_none : (meets : PeContext → PeState → PeMove) (cs : List states.Held) (s : PeState) → cs ≡ [] → taken meets cs s ≡ sticks
taken_none meets cs s none = ap (λ (x : List states.Held). taken meets x s) none

pub answered_at : (meets : PeContext → PeState → PeMove) (held : Held) (place : ℕ) (items : List Held) (kept : Kept) (s : PeState) → s.contexts ≡ contexts_onto [] items → IsHeldAt held place items → place + 1 ≡ length items
    → kept ≡ record { contexts = place; frames = held.frames; load = held.base } → answered meets s.contexts s ≡ meets (context_of held.context) (kept_of kept s)
answered_at meets held place items kept s shown at last is =
    let rest : contexts_onto [] (take place items) ≡ oldest_contexts place s.contexts = sym (contexts_take place items) ∙ ap (λ (cs : List states.Held). oldest_contexts place cs) (sym shown) in
    ap (λ (cs : List states.Held). answered meets cs s) (shown ∙ split held place items at last)
    ∙ ap (λ (cs : List states.Held). meets (context_of held.context) (record s { contexts = cs; frames = oldest held.frames s.frames; load = held.base })) rest
    ∙ ap (λ (k : Kept). meets (context_of held.context) (kept_of k s)) (sym is)

-- no context of the array is that of a sequence without all its cells, so a datum answers it
answers_of : (code : PeCode) (v : Datum) (c : Context) (h : states.Held) (cs : List states.Held) (s : PeState) → datum_under code v (context_of c) h cs s ≡ answered (datum_meets code v) (h ∷ cs) s
answers_of code v (held_context.Op1 op at) h cs s = refl
answers_of code v (held_context.OpL op q at) h cs s = refl
answers_of code v (held_context.OpR op u at) h cs s = refl
answers_of code v (held_context.If p q) h cs s = refl
answers_of code v (held_context.Case parts at) h cs s = refl
answers_of code v (held_context.Arg t) h cs s = refl
answers_of code v (held_context.Pick i) h cs s = refl
answers_of code v (held_context.Then q) h cs s = refl
answers_of code v (held_context.Assign p) h cs s = refl
answers_of code v (held_context.Store u) h cs s = refl
answers_of code v (held_context.While loop c) h cs s = refl
answers_of code v (held_context.Body loop) h cs s = refl
answers_of code v (held_context.Loop loop) h cs s = refl
answers_of code v (held_context.New d body) h cs s = refl
answers_of code v (held_context.Drop n) h cs s = refl
answers_of code v (held_context.Put kind) h cs s = refl
answers_of code v (held_context.Escape n) h cs s = refl
answers_of code v (held_context.Cells d body place) h cs s = refl
answers_of code v (held_context.Element is_written name) h cs s = refl

pub focused_at : (code : PeCode) (v : Datum) (held : Held) (place : ℕ) (items : List Held) (kept : Kept) (s : PeState) → s.contexts ≡ contexts_onto [] items → IsHeldAt held place items → place + 1 ≡ length items
    → kept ≡ record { contexts = place; frames = held.frames; load = held.base } → datum_focused code v s.contexts s ≡ datum_meets code v (context_of held.context) (kept_of kept s)
focused_at code v held place items kept s shown at last is =
    let top = shown ∙ split held place items at last in
    ap (λ (cs : List states.Held). datum_focused code v cs s) top
    ∙ answers_of code v held.context (held_of held) (contexts_onto [] (take place items)) s
    ∙ ap (λ (cs : List states.Held). answered (datum_meets code v) cs s) (sym top)
    ∙ answered_at (datum_meets code v) held place items kept s shown at last is

pub focused_none : (code : PeCode) (v : Datum) (cs : List states.Held) (s : PeState) → cs ≡ [] → datum_focused code v cs s ≡ sticks
focused_none code v cs s none = ap (λ (x : List states.Held). datum_focused code v x s) none

-- a jump looks at no more of a state than its frames and its next number
pub jumped_same : (n : ℕ) (cs : List states.Held) (s t : PeState) → s.frames ≡ t.frames → s.next ≡ t.next → jumped n cs s ≡ jumped n cs t
jumped_same n [] s t frames next = refl
jumped_same n (c ∷ cs) s t frames next =
    ap (λ (m : PeMove). cond (is_target n c.context) m (jumped n cs s))
    (ap (λ (fs : List states.Frame). goes (record s { focus = completed; contexts = cs; frames = oldest c.frames fs; load = c.base })) frames
    ∙ ap (λ (k : ℕ). goes (record s { focus = completed; contexts = cs; frames = oldest c.frames t.frames; next = k; load = c.base })) next)
    ∙ ap (λ (m : PeMove). cond (is_target n c.context) (goes (record t { focus = completed; contexts = cs; frames = oldest c.frames t.frames; load = c.base })) m) (jumped_same n cs s t frames next)

-- the newest context taken off, and nothing else
taken_state : (place j load : ℕ) (items : List Held) (s : PeState) → s.contexts ≡ contexts_onto [] items → length s.frames ≤ j → load ≡ s.load
    → record s { contexts = contexts_onto [] (take place items) } ≡ kept_of (record { contexts = place; frames = j; load = load }) s
taken_state place j load items s shown frames same =
    let rest : contexts_onto [] (take place items) ≡ oldest_contexts place s.contexts = sym (contexts_take place items) ∙ ap (λ (cs : List states.Held). oldest_contexts place cs) (sym shown) in
    ap (λ (cs : List states.Held). record s { contexts = cs }) rest
    ∙ ap (λ (fs : List states.Frame). record s { contexts = oldest_contexts place s.contexts; frames = fs }) (sym (oldest_all j s.frames frames))
    ∙ ap (λ (n : ℕ). record s { contexts = oldest_contexts place s.contexts; frames = oldest j s.frames; load = n }) (sym same)

pub taken_at : (meets : PeContext → PeState → PeMove) (held : Held) (place j load : ℕ) (items : List Held) (cells : List Datum) (frames : List Frame) (s : PeState) → s.contexts ≡ contexts_onto [] items → s.frames ≡ frames_onto cells [] frames → IsHeldAt held place items
    → place + 1 ≡ length items → length frames ≤ j → load ≡ s.load → taken meets s.contexts s ≡ meets (context_of held.context) (kept_of (record { contexts = place; frames = j; load = load }) s)
taken_at meets held place j load items cells frames s shown deep at last many same =
    let few : length s.frames ≡ length frames = ap length deep ∙ length-frames cells frames in
    ap (λ (cs : List states.Held). taken meets cs s) (shown ∙ split held place items at last)
    ∙ ap (λ (t : PeState). meets (context_of held.context) t) (taken_state place j load items s shown (omega arith) same)

-- the frames stay where only contexts are taken off
pub frames_stay : (cells : List Datum) (frames : List Frame) (i j load : ℕ) (s : PeState) → s.frames ≡ frames_onto cells [] frames → length frames ≤ j → (kept_of (record { contexts = i; frames = j; load = load }) s).frames ≡ s.frames
frames_stay cells frames i j load s deep many =
    let few : length s.frames ≡ length frames = ap length deep ∙ length-frames cells frames in oldest_all j s.frames (omega arith)

-- ---- jumps

pub jumped_found : (n place : ℕ) (held : Held) (items : List Held) (kept : Kept) (s : PeState) → s.contexts ≡ contexts_onto [] items → IsHeldAt held place items → is_target n (context_of held.context) ≡ true
    → kept ≡ record { contexts = place; frames = held.frames; load = held.base } → jumped n (contexts_onto [] (take (place + 1) items)) s ≡ focused completed (kept_of kept s)
jumped_found n place held items kept s shown at target is =
    let rest : contexts_onto [] (take place items) ≡ oldest_contexts place s.contexts = sym (contexts_take place items) ∙ ap (λ (cs : List states.Held). oldest_contexts place cs) (sym shown) in
    ap (λ (cs : List states.Held). jumped n cs s) (contexts_more items place held at.0 ∙ ap (λ (h : Held). held_of h ∷ contexts_onto [] (take place items)) (at.1 held))
    ∙ cond-true (is_target n (context_of held.context)) _ _ target
    ∙ ap (λ (cs : List states.Held). goes (record s { focus = completed; contexts = cs; frames = oldest held.frames s.frames; load = held.base })) rest
    ∙ ap (λ (k : Kept). focused completed (kept_of k s)) (sym is)

pub jumped_past : (n place : ℕ) (held : Held) (items : List Held) (s : PeState) → IsHeldAt held place items → is_target n (context_of held.context) ≡ false
    → jumped n (contexts_onto [] (take (place + 1) items)) s ≡ jumped n (contexts_onto [] (take place items)) s
jumped_past n place held items s at other =
    ap (λ (cs : List states.Held). jumped n cs s) (contexts_more items place held at.0 ∙ ap (λ (h : Held). held_of h ∷ contexts_onto [] (take place items)) (at.1 held))
    ∙ cond-false (is_target n (context_of held.context)) _ _ other

-- ---- variables

pub variable_given : (o : Option states.Frame) (go : states.Thunk → PeMove) (t : states.Thunk) → Some t ≡ option_map handed_by o → with_variable o go ≡ go t
variable_given None go t is = absurd (cc)
variable_given (Some f) go t is = let same : t ≡ handed_by f = cc in ap go (sym same)

pub variable_lost : (o : Option states.Frame) (go : states.Thunk → PeMove) → None ≡ option_map handed_by o → with_variable o go ≡ loses
variable_lost None go is = refl
variable_lost (Some f) go is = absurd (cc)

-- ---- sequences of cells

-- the newest context taken off, whatever meets it
pub taken_top : (meets : PeContext → PeState → PeMove) (held : Held) (place : ℕ) (items : List Held) (s : PeState) → s.contexts ≡ contexts_onto [] items → IsHeldAt held place items → place + 1 ≡ length items
    → taken meets s.contexts s ≡ meets (context_of held.context) (record s { contexts = contexts_onto [] (take place items) })
taken_top meets held place items s shown at last = ap (λ (cs : List states.Held). taken meets cs s) (shown ∙ split held place items at last)

-- the context under the newest taken off, where the newest is gone
pub taken_under : (meets : PeContext → PeState → PeMove) (next : Held) (place top j load : ℕ) (items : List Held) (s : PeState) → s.contexts ≡ contexts_onto [] items → IsHeldAt next place items → top ≡ place + 1
    → taken meets (oldest_contexts top s.contexts) (kept_of (record { contexts = top; frames = j; load = load }) s) ≡ meets (context_of next.context) (kept_of (record { contexts = place; frames = j; load = load }) s)
taken_under meets next place top j load items s shown at above =
    let rest : contexts_onto [] (take place items) ≡ oldest_contexts place s.contexts = sym (contexts_take place items) ∙ ap (λ (cs : List states.Held). oldest_contexts place cs) (sym shown) in
    let cut : oldest_contexts top s.contexts ≡ held_of next ∷ oldest_contexts place s.contexts =
    ap (λ (n : ℕ). oldest_contexts n s.contexts) above
    ∙ ap (λ (cs : List states.Held). oldest_contexts (place + 1) cs) shown
    ∙ contexts_take (place + 1) items
    ∙ contexts_more items place next at.0
    ∙ ap (λ (h : Held). held_of h ∷ contexts_onto [] (take place items)) (at.1 next)
    ∙ ap (λ (cs : List states.Held). held_of next ∷ cs) rest in
    ap (λ (cs : List states.Held). taken meets cs (kept_of (record { contexts = top; frames = j; load = load }) s)) cut

-- or there is none
pub under_none : (meets : PeContext → PeState → PeMove) (top : ℕ) (items : List Held) (s t : PeState) → s.contexts ≡ contexts_onto [] items → top ≡ 0 → taken meets (oldest_contexts top s.contexts) t ≡ sticks
under_none meets top items s t shown none =
    let cut : oldest_contexts top s.contexts ≡ [] =
    ap (λ (n : ℕ). oldest_contexts n s.contexts) none ∙ ap (λ (cs : List states.Held). oldest_contexts 0 cs) shown ∙ contexts_take 0 items in
    ap (λ (cs : List states.Held). taken meets cs t) cut

-- a cell that is there takes a datum
pub element_there : (i n : ℕ) (v : Datum) (c : Sequence) (fs : List states.Frame) (s : PeState) → sequence_at n fs ≡ Some c → i < length c.values → s.frames ≡ fs
    → assignment_meets (element i) n (store_c v) s ≡ focused completed (record s { frames = with_value (element i) n v s.frames })
element_there i n v c fs s is lt same =
    let held : element_in i (sequence_at n s.frames) ≡ Some (get_or c.values i v) =
    ap (λ (gs : List states.Frame). element_in i (sequence_at n gs)) same ∙ ap (element_in i) is ∙ slice_get-get_or c.values i v lt in
    ap (λ (o : Option Datum). assigned o (element i) n v s) held

-- a sequence of so many cells
pub picked_of : (v : Datum) (w : Wanted) (c : Sequence) (count : ℕ) (s : PeState) → length c.values ≡ count
    → element_picked v w (Some c) s ≡ picked_in v count c.place (λ i. cell_entered w.is_written (element i) w.number s)
picked_of (datum_kind.Int (pos i)) w c count s same = ap (λ (k : ℕ). cond (nat_lt i k) (cell_entered w.is_written (element i) w.number s) (faults Range c.place)) same
picked_of (datum_kind.Int (negsuc i)) w c count s same = refl
picked_of (datum_kind.Bool b) w c count s same = refl
picked_of (datum_kind.Char k) w c count s same = refl

-- an index that jumps
pub index_jump : (code : PeCode) (shape n : ℕ) (w : Wanted) (t : Thunk) (held : Held) (place : ℕ) (items : List Held) (s : PeState) → s.contexts ≡ contexts_onto [] items → IsHeldAt held place items → place + 1 ≡ length items
    → held.context ≡ held_context.Arg t → if_listed (is_listed (Some n) s.frames) (jumped n s.contexts s) ≡ taken (λ c z. index_entered code (Some shape) w (jump_of n) z) s.contexts s
index_jump code shape n w t held place items s shown at last is =
    let rest : List states.Held = contexts_onto [] (take place items) in
    let top : s.contexts ≡ held_of held ∷ rest = shown ∙ split held place items at last in
    let there : PeMove → PeMove = λ m. if_listed (is_listed (Some n) s.frames) m in
    ap (λ (cs : List states.Held). there (jumped n cs s)) top
    ∙ ap (λ (c : Context). there (cond (is_target n (context_of c)) (goes (record s { focus = completed; contexts = rest; frames = oldest held.frames s.frames; load = held.base })) (jumped n rest s))) is
    ∙ ap there (jumped_same n rest s (push (element_c w) (record s { contexts = rest })) refl refl)
    ∙ sym (ap (λ (cs : List states.Held). taken (λ c z. index_entered code (Some shape) w (jump_of n) z) cs s) top)

-- a context without an argument
pub no_argument : (code : PeCode) (w : Wanted) (c : Context) (s : PeState) → ((t : Thunk) → c ≡ held_context.Arg t → ⊥) → index_meets code w (context_of c) s ≡ sticks
no_argument code w (held_context.Op1 op at) s other = refl
no_argument code w (held_context.OpL op q at) s other = refl
no_argument code w (held_context.OpR op u at) s other = refl
no_argument code w (held_context.If p q) s other = refl
no_argument code w (held_context.Case parts at) s other = refl
no_argument code w (held_context.Arg t) s other = absurd (other t refl)
no_argument code w (held_context.Pick i) s other = refl
no_argument code w (held_context.Then q) s other = refl
no_argument code w (held_context.Assign p) s other = refl
no_argument code w (held_context.Store u) s other = refl
no_argument code w (held_context.While loop c) s other = refl
no_argument code w (held_context.Body loop) s other = refl
no_argument code w (held_context.Loop loop) s other = refl
no_argument code w (held_context.New d body) s other = refl
no_argument code w (held_context.Drop n) s other = refl
no_argument code w (held_context.Put kind) s other = refl
no_argument code w (held_context.Escape n) s other = refl
no_argument code w (held_context.Cells d body place) s other = refl
no_argument code w (held_context.Element is_written name) s other = refl

-- one without a datum that is assigned
pub no_store : (which : Which) (n : ℕ) (c : Context) (s : PeState) → ((v : Datum) → c ≡ held_context.Store v → ⊥) → assignment_meets which n (context_of c) s ≡ sticks
no_store which n (held_context.Op1 op at) s other = refl
no_store which n (held_context.OpL op q at) s other = refl
no_store which n (held_context.OpR op u at) s other = refl
no_store which n (held_context.If p q) s other = refl
no_store which n (held_context.Case parts at) s other = refl
no_store which n (held_context.Arg t) s other = refl
no_store which n (held_context.Pick i) s other = refl
no_store which n (held_context.Then q) s other = refl
no_store which n (held_context.Assign p) s other = refl
no_store which n (held_context.Store u) s other = absurd (other u refl)
no_store which n (held_context.While loop c) s other = refl
no_store which n (held_context.Body loop) s other = refl
no_store which n (held_context.Loop loop) s other = refl
no_store which n (held_context.New d body) s other = refl
no_store which n (held_context.Drop m) s other = refl
no_store which n (held_context.Put kind) s other = refl
no_store which n (held_context.Escape m) s other = refl
no_store which n (held_context.Cells d body place) s other = refl
no_store which n (held_context.Element is_written name) s other = refl

-- what a shape asks of a sequence
pub asked_reads : (shapes : SequenceShapes) (shape : ℕ) → is_assignment shapes.element shape ≡ true → asked_at shapes shape ≡ a_cell false
asked_reads shapes shape is = cond-true (is_assignment shapes.element shape) _ _ is

pub asked_writes : (shapes : SequenceShapes) (shape : ℕ) → is_assignment shapes.element shape ≡ false → is_assignment shapes.assigned_element shape ≡ true → asked_at shapes shape ≡ a_cell true
asked_writes shapes shape a is = cond-false (is_assignment shapes.element shape) _ _ a ∙ cond-true (is_assignment shapes.assigned_element shape) _ _ is

pub asked_measures : (shapes : SequenceShapes) (shape : ℕ) → is_assignment shapes.element shape ≡ false → is_assignment shapes.assigned_element shape ≡ false → is_assignment shapes.row_length shape ≡ true
    → asked_at shapes shape ≡ a_length
asked_measures shapes shape a b is =
    cond-false (is_assignment shapes.element shape) _ _ a ∙ cond-false (is_assignment shapes.assigned_element shape) _ _ b ∙ cond-true (is_assignment shapes.row_length shape) _ _ is

pub asked_nothing : (shapes : SequenceShapes) (shape : ℕ) → is_assignment shapes.element shape ≡ false → is_assignment shapes.assigned_element shape ≡ false → is_assignment shapes.row_length shape ≡ false
    → asked_at shapes shape ≡ no_part
asked_nothing shapes shape a b c =
    cond-false (is_assignment shapes.element shape) _ _ a ∙ cond-false (is_assignment shapes.assigned_element shape) _ _ b ∙ cond-false (is_assignment shapes.row_length shape) _ _ c

-- with the frames as they stand
pub sequence_asked_by : (code : PeCode) (asked meant : Asked) (n : ℕ) (o : Option Sequence) (c : Sequence) (s : PeState) → asked ≡ meant → o ≡ Some c
    → sequence_asked code asked n o s ≡ sequence_asked code meant n (Some c) s
sequence_asked_by code asked meant n o c s a is = ap (λ (k : Asked). sequence_asked code k n o s) a ∙ ap (λ (p : Option Sequence). sequence_asked code meant n p s) is
