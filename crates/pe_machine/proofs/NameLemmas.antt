-- Names that lead to their frames still do where frames are cut, made and set.
use Rattle.std.proofs.Common.{◌≡◌, ℕ, ◌+◌, ◌<◌, List, [], ◌∷◌, ◌++◌, length, get_or, set, take, sym, ap, ◌∙◌, subst, arith, inl, inr, Some, None}
use Rattle.std.specs.Prelude.{All}
use Rattle.std.specs.declared.option.Option.{Option}
use Rattle.std.proofs.lemmas.List.{get_or-take, get_or_append_left, get_or_push, get_or-set_same, get_or-set_other, get_or_read, length-take, length-set, length_push}
use Rattle.std.proofs.lemmas.List.Elements.{All-weaker, All-push, All-take, All-set}
use Rattle.std.proofs.lemmas.Bool.{cases_lt, cases_eq, cases_order}
use Rattle.fy_base.specs.declared.data.Datum.{Datum}
use Rattle.pe_machine.specs.Sound.{IsNumbered}
use Rattle.pe_machine.specs.Shown.{frames_onto}
use Rattle.pe_machine.specs.Names.{Frames, IsPlacedName, IsPlacedLink, IsPlacedThunk, IsPlacedBinding, IsPlacedFrame, IsPlacedContext, IsPlacedPointer, IsPlacedFocus, IsPlacedChange, ArePlacedContexts, ArePlacedFrames}
use Rattle.pe_machine.specs.declared.frames.FrameName.{FrameName}
use Rattle.pe_machine.specs.declared.frames.Thunk.{Thunk}
use Rattle.pe_machine.specs.declared.frames.Thunk.TheVariants as thunk
use Rattle.pe_machine.specs.declared.frames.Binding.{Binding}
use Rattle.pe_machine.specs.declared.frames.Binding.TheVariants as binding
use Rattle.pe_machine.specs.declared.frames.Frame.{Frame}
use Rattle.pe_machine.specs.declared.contexts.Context.{Context}
use Rattle.pe_machine.specs.declared.contexts.Context.TheVariants as held
use Rattle.pe_machine.specs.declared.contexts.Held.{Held}
use Rattle.pe_machine.specs.declared.contexts.Pointer.{Pointer}
use Rattle.pe_machine.specs.declared.contexts.Focus.{Focus}
use Rattle.pe_machine.specs.declared.contexts.Focus.TheVariants as focus
use Rattle.pe_machine.specs.declared.turns.Change.{Change}
use Rattle.pe_machine.specs.declared.turns.Change.TheVariants as change
use Rattle.pe_machine.proofs.FrameLemmas.{numbers_rise, numbers_small}

-- ---- from some frames to others, if each name keeps its place

module _ (a b : Frames) (keeps : (name : FrameName) → IsPlacedName a name → IsPlacedName b name) where
  kept_link : (link : Option FrameName) → IsPlacedLink a link → IsPlacedLink b link
  kept_link None is = tt
  kept_link (Some name) is = keeps name is

  kept_thunk : (t : Thunk) → IsPlacedThunk a t → IsPlacedThunk b t
  kept_thunk (thunk.Source node frame) is = kept_link frame is
  kept_thunk (thunk.Literal v) is = tt
  kept_thunk (thunk.Cell name) is = keeps name is
  kept_thunk (thunk.Jump name) is = keeps name is
  kept_thunk (thunk.Sequence name) is = keeps name is

  kept_binding : (x : Binding) → IsPlacedBinding a x → IsPlacedBinding b x
  kept_binding (binding.ToThunk t) is = kept_thunk t is
  kept_binding (binding.ToCell v) is = tt
  kept_binding binding.ToEscape is = tt
  kept_binding (binding.ToSequence place count) is = tt

  kept_frame : (f : Frame) → IsPlacedFrame a f → IsPlacedFrame b f
  kept_frame f is = (kept_binding f.binding is.0, kept_link f.around is.1)

  kept_context : (c : Context) → IsPlacedContext a c → IsPlacedContext b c
  kept_context (held.OpL op q at) is = kept_link q.frame is
  kept_context (held.If p q) is = (kept_link p.frame is.0, kept_link q.frame is.1)
  kept_context (held.Case parts at) is = kept_link parts.frame is
  kept_context (held.Arg t) is = kept_thunk t is
  kept_context (held.Then q) is = kept_link q.frame is
  kept_context (held.Assign p) is = kept_link p.frame is
  kept_context (held.While loop c) is = (kept_link loop.frame is.0, kept_link c.frame is.1)
  kept_context (held.Body loop) is = kept_link loop.frame is
  kept_context (held.Loop loop) is = kept_link loop.frame is
  kept_context (held.New d body) is = kept_link body.frame is
  kept_context (held.Cells d body place) is = kept_link body.frame is
  kept_context (held.Element is_written name) is = keeps name is
  kept_context _ is = tt

  kept_focus : (f : Focus) → IsPlacedFocus a f → IsPlacedFocus b f
  kept_focus (focus.Code p) is = kept_link p.frame is
  kept_focus (focus.Value v) is = tt
  kept_focus focus.Completed is = tt

  kept_change : (c : Change) → IsPlacedChange a c → IsPlacedChange b c
  kept_change (change.Focus f) is = kept_focus f is
  kept_change (change.Push c p) is = (kept_context c is.0, kept_link p.frame is.1)
  kept_change (change.PushValue c v) is = kept_context c is
  kept_change (change.Bind d t p) is = (kept_thunk t is.0, kept_link p.frame is.1)
  kept_change (change.NewCell d v p) is = kept_link p.frame is
  kept_change (change.NewEscape d p) is = kept_link p.frame is
  kept_change (change.SetCell name v) is = keeps name is
  kept_change (change.SetElement name i v) is = keeps name is
  kept_change (change.Assign name v) is = keeps name is

  kept_contexts : (contexts : List Held) → ArePlacedContexts a contexts → ArePlacedContexts b contexts
  kept_contexts contexts are = All-weaker (λ h. IsPlacedContext a h.context) (λ h. IsPlacedContext b h.context) (λ h. kept_context h.context) contexts are

  kept_frames : (frames : List Frame) → All (IsPlacedFrame a) frames → All (IsPlacedFrame b) frames
  kept_frames frames are = All-weaker (IsPlacedFrame a) (IsPlacedFrame b) kept_frame frames are

-- ---- frames are cut

abbrev pub with_items : List Frame → Frames → Frames
with_items items frames = record frames { items = items }

abbrev pub cut_to : ℕ → Frames → Frames
cut_to n frames = with_items (take n frames.items) frames

kept_by_cut : (n : ℕ) (frames : Frames) (name : FrameName) → IsPlacedName frames name → IsPlacedName (cut_to n frames) name
kept_by_cut n frames name is = (
  is.0,
  λ k d within same.
      let few : k < n = omega (arith, length-take n frames.items) in
      let long : k < length frames.items = omega (arith, length-take n frames.items) in
      is.1 k d long (ap (λ (f : Frame). f.number) (sym (get_or-take n frames.items k d few)) ∙ same),
)

-- the frames are the oldest n of those before
module _ (n : ℕ) (frames : Frames) (items : List Frame) (is : items ≡ take n frames.items) where
  cut_name : (name : FrameName) → IsPlacedName frames name → IsPlacedName (with_items items frames) name
  cut_name name placed = let P : List Frame → Type 0 = λ xs. IsPlacedName (with_items xs frames) name in subst P (sym is) (kept_by_cut n frames name placed)

  pub cut_focus : (f : Focus) → IsPlacedFocus frames f → IsPlacedFocus (with_items items frames) f
  cut_focus f placed = kept_focus frames (with_items items frames) cut_name f placed

  pub cut_contexts : (m : ℕ) (contexts left : List Held) → left ≡ take m contexts → ArePlacedContexts frames contexts → ArePlacedContexts (with_items items frames) left
  cut_contexts m contexts left few are =
      let P : List Held → Type 0 = λ hs. ArePlacedContexts (with_items items frames) hs in
      subst P (sym few) (All-take (λ h. IsPlacedContext (with_items items frames) h.context) m contexts (kept_contexts frames (with_items items frames) cut_name contexts are))

  pub cut_frames : ArePlacedFrames frames → ArePlacedFrames (with_items items frames)
  cut_frames are =
      let P : List Frame → Type 0 = λ xs. All (IsPlacedFrame (with_items items frames)) xs in
      subst P (sym is) (All-take (IsPlacedFrame (with_items items frames)) n frames.items (kept_frames frames (with_items items frames) cut_name frames.items are))

pub cut_change : (n : ℕ) (frames now : Frames) (c : Change) → now ≡ cut_to n frames → IsPlacedChange frames c → IsPlacedChange now c
cut_change n frames now c is placed = let P : Frames → Type 0 = λ f. IsPlacedChange f c in subst P (sym is) (kept_change frames (cut_to n frames) (kept_by_cut n frames) c placed)

-- ---- a frame is made

abbrev pub one_more : List Frame → Frames → Frames
one_more items frames = record { items = items; next = frames.next + 1 }

abbrev with_frame : Frame → Frames → Frames
with_frame x frames = one_more (frames.items ++ x ∷ []) frames

kept_by_push : (x : Frame) (frames : Frames) → x.number ≡ frames.next → (name : FrameName) → IsPlacedName frames name → IsPlacedName (with_frame x frames) name
kept_by_push x frames new name is =
    let below = is.0 in (
      omega arith,
      λ k d within same. elim (cases_lt k (length frames.items)) [
        | inl older ↦ is.1 k d older (ap (λ (f : Frame). f.number) (sym (get_or_append_left frames.items (x ∷ []) d k older)) ∙ same)
        | inr newer ↦
            let last : length frames.items ≡ k = omega (arith, length_push frames.items x) in
            let number : x.number ≡ name.number = ap (λ (f : Frame). f.number) (sym (get_or_push frames.items x d k last)) ∙ same in
            absurd (omega arith)
      ],
    )

-- the new frame's own name
name_of_new : (cells : List Datum) (x : Frame) (frames : Frames) (name : FrameName) → IsNumbered frames.next (frames_onto cells [] frames.items) → x.number ≡ frames.next → name.number ≡ frames.next → name.place ≡ length frames.items
    → IsPlacedName (with_frame x frames) name
name_of_new cells x frames name numbered new number place = (
  omega arith,
  λ k d within same. elim (cases_lt k (length frames.items)) [
    | inl older ↦
        let small = numbers_small cells frames.next k frames.items d numbered older in
        let again : (get_or frames.items k d).number ≡ name.number = ap (λ (f : Frame). f.number) (sym (get_or_append_left frames.items (x ∷ []) d k older)) ∙ same in
        absurd (omega arith)
    | inr newer ↦ omega (arith, length_push frames.items x)
  ],
)

-- the frames are those before with one more, and the next number is one more
module _ (x : Frame) (frames : Frames) (items : List Frame) (is : items ≡ frames.items ++ x ∷ []) (new : x.number ≡ frames.next) where
  push_name : (name : FrameName) → IsPlacedName frames name → IsPlacedName (one_more items frames) name
  push_name name placed = let P : List Frame → Type 0 = λ xs. IsPlacedName (one_more xs frames) name in subst P (sym is) (kept_by_push x frames new name placed)

  pub push_focus : (f : Focus) → IsPlacedFocus frames f → IsPlacedFocus (one_more items frames) f
  push_focus f placed = kept_focus frames (one_more items frames) push_name f placed

  pub push_contexts : (contexts : List Held) → ArePlacedContexts frames contexts → ArePlacedContexts (one_more items frames) contexts
  push_contexts contexts are = kept_contexts frames (one_more items frames) push_name contexts are

  pub push_frames : ArePlacedFrames frames → IsPlacedFrame frames x → ArePlacedFrames (one_more items frames)
  push_frames are placed =
      let Q : Frame → Type 0 = IsPlacedFrame (one_more items frames) in
      let P : List Frame → Type 0 = λ xs. All Q xs in
      subst P (sym is)
      (All-push Q frames.items x (kept_frames frames (one_more items frames) push_name frames.items are) (kept_frame frames (one_more items frames) push_name x placed))

  pub push_new : (cells : List Datum) (name : FrameName) → IsNumbered frames.next (frames_onto cells [] frames.items) → name.number ≡ frames.next → name.place ≡ length frames.items → IsPlacedName (one_more items frames) name
  push_new cells name numbered number place =
      let P : List Frame → Type 0 = λ xs. IsPlacedName (one_more xs frames) name in subst P (sym is) (name_of_new cells x frames name numbered new number place)

-- ---- a frame is set, and keeps its number

abbrev pub with_set : ℕ → Frame → Frames → Frames
with_set place y frames = with_items (set frames.items place y) frames

kept_by_set : (place : ℕ) (x y : Frame) (frames : Frames) → place < length frames.items → x ≡ get_or frames.items place x → y.number ≡ x.number → (name : FrameName) → IsPlacedName frames name → IsPlacedName (with_set place y frames) name
kept_by_set place x y frames inside read number name is = (
  is.0,
  λ k d within same.
      let long : k < length frames.items = omega (arith, length-set frames.items place y) in
      elim (cases_eq k place) [
        | inl here ↦
            let P : ℕ → Type 0 = λ i. (get_or (set frames.items place y) i d).number ≡ name.number in
            let at : (get_or (set frames.items place y) place d).number ≡ name.number = subst P here same in
            let of_x : x.number ≡ name.number = sym number ∙ ap (λ (f : Frame). f.number) (sym (get_or-set_same frames.items place y d inside)) ∙ at in
            here ∙ is.1 place d inside (ap (λ (f : Frame). f.number) (sym (get_or_read frames.items place x inside read d)) ∙ of_x)
        | inr other ↦ is.1 k d long (ap (λ (f : Frame). f.number) (sym (get_or-set_other frames.items place k y d other)) ∙ same)
      ],
)

module _ (place : ℕ) (x y : Frame) (frames : Frames) (inside : place < length frames.items) (read : x ≡ get_or frames.items place x) (number : y.number ≡ x.number) where
  pub set_focus : (f : Focus) → IsPlacedFocus frames f → IsPlacedFocus (with_set place y frames) f
  set_focus f placed = kept_focus frames (with_set place y frames) (kept_by_set place x y frames inside read number) f placed

  pub set_contexts : (contexts : List Held) → ArePlacedContexts frames contexts → ArePlacedContexts (with_set place y frames) contexts
  set_contexts contexts are = kept_contexts frames (with_set place y frames) (kept_by_set place x y frames inside read number) contexts are

  pub set_frames : ArePlacedFrames frames → IsPlacedFrame frames y → ArePlacedFrames (with_set place y frames)
  set_frames are placed =
      All-set (IsPlacedFrame (with_set place y frames)) frames.items place y (kept_frame frames (with_set place y frames) (kept_by_set place x y frames inside read number) y placed)
      (kept_frames frames (with_set place y frames) (kept_by_set place x y frames inside read number) frames.items are)

-- ---- names of frames that are there

pub name_of_frame : (cells : List Datum) (place : ℕ) (x : Frame) (frames : Frames) → IsNumbered frames.next (frames_onto cells [] frames.items) → place < length frames.items → x ≡ get_or frames.items place x
    → IsPlacedName frames (record { place = place; number = x.number })
name_of_frame cells place x frames numbered inside read =
    let is : (d : Frame) → x.number ≡ (get_or frames.items place d).number = λ d. ap (λ (f : Frame). f.number) (get_or_read frames.items place x inside read d) in
    let small = numbers_small cells frames.next place frames.items x numbered inside in
    let same_x = is x in (
      omega arith,
      λ k d within same. elim (cases_order k place) [
        | inl here ↦ here
        | inr apart ↦
            let same_d = is d in
            elim apart [
              | inl before ↦ let rises = numbers_rise cells frames.next k place frames.items d numbered before inside in absurd (omega arith)
              | inr after ↦ let rises = numbers_rise cells frames.next place k frames.items d numbered after within in absurd (omega arith)
            ]
      ],
    )

pub frame_at : (place : ℕ) (x : Frame) (frames : Frames) → ArePlacedFrames frames → place < length frames.items → x ≡ get_or frames.items place x → IsPlacedFrame frames x
frame_at place x frames are inside read = subst (IsPlacedFrame frames) (sym read) (are place x inside)

-- ---- a context is pushed

pub with_context : (frames : Frames) (contexts more : List Held) (h : Held) → more ≡ contexts ++ h ∷ [] → ArePlacedContexts frames contexts → IsPlacedContext frames h.context → ArePlacedContexts frames more
with_context frames contexts more h is are placed =
    let P : List Held → Type 0 = λ hs. ArePlacedContexts frames hs in
    subst P (sym is) (All-push (λ g. IsPlacedContext frames g.context) contexts h are placed)

-- ---- the body of a sequence that gets its cells

pub cut_pointer : (n : ℕ) (frames now : Frames) (p : Pointer) → now ≡ cut_to n frames → IsPlacedPointer frames p → IsPlacedPointer now p
cut_pointer n frames now p is placed = let P : Frames → Type 0 = λ f. IsPlacedPointer f p in subst P (sym is) (kept_link frames (cut_to n frames) (kept_by_cut n frames) p.frame placed)
