-- Making a frame: its binding stands at the top, and its display comes of that of the frame around it.
use Rattle.std.proofs.Common.{◌≡◌, ℕ, zero, suc, ◌+◌, ◌*◌, ◌<◌, ◌≤◌, List, [], ◌∷◌, length, Some, None, refl, sym, ap, ◌∙◌, subst, inl, inr, arith}
use Rattle.std.proofs.lemmas.Option.{same_Some}
use Rattle.std.specs.Prelude.{slice_index}
use Rattle.std.specs.declared.option.Option.{Option}
use Rattle.fy_base.specs.Outside.{Bytes}
use Rattle.pe_code.specs.declared.code.PeCode.{PeCode}
use Rattle.pe_code.specs.Valid.{LeadsTo}
use Rattle.pe_frame.specs.Frames.{frame_words, display_start}
use Rattle.pe_machine.specs.States.{code_at, Thunk}
use Rattle.pe_items.specs.Items.{ItemBinding, to_thunk, Item, frame, address_on, frame_from, handed_on}
use Rattle.rv_word.specs.declared.micros.Register.TheVariants.{Frame, Top, Datum, Third}
use Rattle.rv_word.specs.declared.micros.Micro.TheVariants.{Enter}
use Rattle.rv_word.specs.Word.{Data, Code, goes, word_address, block}
use Rattle.rv_runtime.specs.Routines.{make_frame}
use Rattle.rv_runtime.specs.Laws.{IsFrameBegun, Makes}
use Rattle.rv_select.specs.Numbers.{go, label_of, entry_number, entry_word, column_word}
use Rattle.rv_select.specs.Blocks.{open_frame, bind}
use Rattle.rv_select.specs.Layout.{word_in, frame_word, frames_from, address_found, column, payload, IsGoodThunk, IsGoodBinding, HasThird, LeavesBelow, HasItems, HoldsItems}
use Rattle.rv_select.proofs.Runs.{Reach, Later, wider, known_later}
use Rattle.rv_select.proofs.Wp.{Wp, with_value, by_block}
use Rattle.rv_select.proofs.Values.{moves, moves_on}
use Rattle.rv_select.proofs.Around.{frame_room, frames_none, frames_here, from_itself}
use Rattle.rv_select.proofs.Memory.{IsSameBelow, same_itself, same_then, same_wrote, same_less, unwritten, ShowsFrames, shows_frames}
use Rattle.rv_select.proofs.SelectedCode.{IsSelected}
use Rattle.rv_select.proofs.ItemSteps.{Helpers, ComesTo}
use Rattle.rv_select.proofs.Landing.{AreBytes, Keeps, has_same, went_code, no_room}

-- the binding of a frame stands at word x
pub record IsBound (code : PeCode) (m : List ℕ) (depths : Option ℕ → Option ℕ) (x : ℕ) (b : ItemBinding) : Type 0 where
  pub column_is : word_in m x 0 ≡ column_word (column code (handed_on x b))
  pub payload_is : word_in m x 1 ≡ payload (handed_on x b)
  pub third : HasThird b (word_in m x 2)
  pub below : LeavesBelow b x
  pub good : IsGoodBinding code depths b

-- so does its display
abbrev pub HasDisplay : List ℕ → List Item → ℕ → Option ℕ → Type 0
HasDisplay m is d around = (j y : ℕ) → j < d → address_found (frame_from is j around) ≡ Some y → word_in m (address_on is) (display_start + j) ≡ word_address y

-- then the frame is one more item
grown : (code : PeCode) (is : List Item) (b : ItemBinding) (d : ℕ) (around : Option ℕ) (m n : List ℕ) → HasItems code m is → IsBound code m (frames_from is) (address_on is) b → frames_from is around ≡ Some d
    → IsSameBelow (address_on is + 3) m n → HasDisplay n is d around → address_on is + frame_words d ≤ length m → HasItems code n (frame d b around ∷ is)
grown code is b d around m n h bound deep same display room =
    let k = has_same code is m n (same_less (address_on is) (address_on is + 3) m n (omega arith) same) h in
    record {
      foot = k.foot;
      fits = (let z = same.size in omega arith);
      few = k.few;
      laid = (
        record {
          column_is = same.under (address_on is + 0) (omega arith) ∙ bound.column_is;
          payload_is = same.under (address_on is + 1) (omega arith) ∙ bound.payload_is;
          third = subst (HasThird b) (sym (same.under (address_on is + 2) (omega arith))) bound.third;
          below = bound.below;
          display = display;
          depth_is = deep;
          good = bound.good;
        },
        k.laid,
      );
    }

-- the display of a new frame around which is the frame at word f
displayed : (is : List Item) (f d : ℕ) (m n : List ℕ) → ShowsFrames m is f d → slice_index n (address_on is + display_start) ≡ word_address f
    → ((j : ℕ) → suc j < suc d → slice_index n (address_on is + display_start + suc j) ≡ slice_index m (f + display_start + j)) → HasDisplay n is (suc d) (Some f)
displayed is f d m n shows first rest zero y lt found = first ∙ ap word_address (sym (from_itself is f y found))
displayed is f d m n shows first rest (suc j) y lt found =
    let here : address_on is + (display_start + suc j) ≡ address_on is + display_start + suc j = omega arith in
    let there : f + display_start + j ≡ f + (display_start + j) = omega arith in
    ap (λ k. slice_index n k) here ∙ rest j lt ∙ ap (λ k. slice_index m k) there ∙ shows.display j y (omega arith) found

-- how long the code is that ends the making
pub open_length : (d label entry : ℕ) → length (open_frame d label entry) ≤ 3
open_length zero label entry = omega arith
open_length (suc d) label entry = omega arith

module _ (code : PeCode) (w : Code) (sel : IsSelected code w) (help : Helpers) where
  module _ (newest : ℕ) (is : List Item) (b : ItemBinding) (y n : ℕ) (input output : Bytes) (size : ℕ) where
    -- the frame is made, and code goes on in it
    abbrev pub MadeIn : ℕ → Option ℕ → Data → Type 0
    MadeIn d around e =
        Wp w (Later w n (ComesTo code w (record { focus = code_at (record { address = y; frame = Some (address_on is) }); newest = newest; items = frame d b around ∷ is }) input output size))
        (open_frame d (label_of code y) (entry_number code y)) e

    pub framed_outmost : (around : Option ℕ) (e : Data) → HoldsItems code newest is e → IsBound code e.words (frames_from is) (address_on is) b → frames_from is around ≡ Some 0 → LeadsTo code 1 y
        → address_on is + 3 ≤ length e.words → Keeps input output size e → MadeIn 0 around e
    framed_outmost around e h bound deep leads room keeps =
        let few = h.memory.few in (
          word_address (address_on is),
          moves e.named.top (word_address (address_on is)) h.top_is (omega arith),
          (
            word_address (address_on (frame 0 b around ∷ is)),
            moves_on e.named.top (address_on is) (address_on (frame 0 b around ∷ is)) 24 h.top_is (omega arith) (omega arith),
            inl (went_code code w newest (frame 0 b around ∷ is) (record { address = y; frame = Some (address_on is) }) 1
                (with_value Top (word_address (address_on (frame 0 b around ∷ is))) (with_value Frame (word_address (address_on is)) e)) input output size
                (record {
                  newest_is = h.newest_is;
                  top_is = refl;
                  memory = grown code is b 0 around e.words e.words h.memory bound deep (same_itself (address_on is + 3) e.words) (λ j z lt found. absurd (omega arith)) room;
                  bytes = h.bytes;
                })
                refl leads (frames_here 0 b around is)
                (record { input_is = keeps.input_is; output_is = keeps.output_is; size_is = keeps.size_is })),
          ),
        )

    -- data with the size and the entry of the body
    abbrev pub begun : ℕ → Data → Data
    begun d e = with_value Datum (entry_word (entry_number code y)) (with_value Third (8 * frame_words (suc d)) e)

    -- around it is the frame at word f
    module _ (f d : ℕ) (e : Data) (h : HoldsItems code newest is e) (bound : IsBound code e.words (frames_from is) (address_on is) b) (deep : frames_from is (Some f) ≡ Some (suc d)) (leads : LeadsTo code (suc (suc d)) y)
        (room : address_on is + frame_words (suc d) ≤ length e.words) (keeps : Keeps input output size e) where
      begins : suc d ≤ 512 → e.named.frame ≡ word_address f → IsFrameBegun f (address_on is) (suc d) (begun d e)
      begins few f_is =
          let shows = shows_frames code e.words is f d deep h.memory.laid in
          let within = shows.within in
          let enough = frame_room d in
          record {
            frame = f_is;
            top = h.top_is;
            third = refl;
            some = omega arith;
            most = few;
            apart = omega arith;
            room = room;
            few = h.memory.few;
          }

      made : Makes w f (address_on is) (suc d) (begun d e)
          → Reach w (ComesTo code w (record { focus = code_at (record { address = y; frame = Some (address_on is) }); newest = newest; items = frame (suc d) b (Some f) ∷ is }) input output size) (100 + 16 * suc d + 9)
          (record { rest = block w make_frame; held = begun d e })
      made m =
          let after = m.after in
          let shows = shows_frames code e.words is f d deep h.memory.laid in
          let entry = sel.first_entry y leads.item leads.stands in
          let same : IsSameBelow (address_on is + 3) e.words after.words = record { size = m.words.size; under = λ k lt. m.words.below k lt } in
          let holds : HoldsItems code newest (frame (suc d) b (Some f) ∷ is) after =
          record {
            newest_is = m.keeps.context ∙ h.newest_is;
            top_is = m.top ∙ ap word_address (let up : address_on is + frame_words (suc d) ≡ address_on (frame (suc d) b (Some f) ∷ is) = omega arith in up);
            memory = grown code is b (suc d) (Some f) e.words after.words h.memory bound deep same (displayed is f d e.words after.words shows m.words.first m.words.display) room;
            bytes = subst AreBytes (sym m.keeps.input) h.bytes;
          } in
          known_later w (ComesTo code w (record { focus = code_at (record { address = y; frame = Some (address_on is) }); newest = newest; items = frame (suc d) b (Some f) ∷ is }) input output size)
          (record { rest = block w make_frame; held = begun d e }) (goes (record { rest = block w go; held = after })) m.leads.steps (100 + 16 * suc d) 9 m.leads.some m.leads.leads m.leads.cost
          (inr (by_block w (ComesTo code w (record { focus = code_at (record { address = y; frame = Some (address_on is) }); newest = newest; items = frame (suc d) b (Some f) ∷ is }) input output size)
          go (Enter Datum ∷ []) after 9 (sel.callers 1 (omega arith)) (omega arith) (
            entry_number code y,
            label_of code y,
            m.keeps.datum,
            entry.inside,
            entry.leads,
            went_code code w newest (frame (suc d) b (Some f) ∷ is) (record { address = y; frame = Some (address_on is) }) (suc (suc d)) after input output size holds m.frame leads (frames_here (suc d) b (Some f) is)
                (record { input_is = m.keeps.input ∙ keeps.input_is; output_is = m.keeps.output ∙ keeps.output_is; size_is = m.words.size ∙ keeps.size_is }),
          )))

    -- at any depth
    pub framed : (d : ℕ) (around : Option ℕ) (e : Data) → HoldsItems code newest is e → e.named.frame ≡ frame_word around → IsBound code e.words (frames_from is) (address_on is) b → frames_from is around ≡ Some d → d ≤ 512
        → LeadsTo code (d + 1) y → address_on is + frame_words d ≤ length e.words → Keeps input output size e → 109 + 16 * d ≤ n → MadeIn d around e
    framed zero around e h f bound deep most leads room keeps cost = framed_outmost around e h bound deep (subst (λ k. LeadsTo code k y) (let one : 0 + 1 ≡ 1 = omega arith in one) leads) room keeps
    framed (suc d) None e h f bound deep most leads room keeps cost = absurd (none (frames_none is) deep)
      where
        none : frames_from is None ≡ Some 0 → frames_from is None ≡ Some (suc d) → ⊥
        none p q = let z = same_Some 0 (suc d) (sym p ∙ q) in omega arith
    framed (suc d) (Some x) e h f bound deep most leads room keeps cost =
        let leads' = subst (λ k. LeadsTo code k y) (let one : suc d + 1 ≡ suc (suc d) = omega arith in one) leads in
        inr (wider w (ComesTo code w (record { focus = code_at (record { address = y; frame = Some (address_on is) }); newest = newest; items = frame (suc d) b (Some x) ∷ is }) input output size)
        (100 + 16 * suc d + 9) n (record { rest = block w make_frame; held = begun d e }) (omega arith)
        (made x d e h bound deep leads' room keeps (help.makes_frames w x (address_on is) (suc d) (begun d e) sel.routines (begins x d e h bound deep leads' room keeps most f))))

  -- a frame for the thunk in First and Second
  pub bound : (newest : ℕ) (is : List Item) (t : Thunk) (d y n : ℕ) (around : Option ℕ) (e : Data) → 10 ≤ n → HoldsItems code newest is e → e.named.frame ≡ frame_word around
      → e.named.first ≡ column_word (column code t) → e.named.second ≡ payload t → IsGoodThunk code (frames_from is) t → frames_from is around ≡ Some d → d ≤ 512 → LeadsTo code (d + 1) y → 109 + 16 * d ≤ n
      → Wp w (Later w n (ComesTo code w (record { focus = code_at (record { address = y; frame = Some (address_on is) }); newest = newest; items = frame d (to_thunk t) around ∷ is }) e.input e.output (length e.words)))
      (bind d (label_of code y) (entry_number code y)) e
  bound newest is t d y n around e few h f first second good deep most leads cost = (
    address_on is,
    h.top_is,
    λ lt. no_room code w sel help (record { focus = code_at (record { address = y; frame = Some (address_on is) }); newest = newest; items = frame d (to_thunk t) around ∷ is }) e.input e.output (length e.words) n e few refl (omega arith),
    λ le. (
      address_on is,
      h.top_is,
      (let room = frame_room d in omega arith),
      (
        address_on is,
        h.top_is,
        (let room = frame_room d in omega arith),
        λ n1 w1. (
          address_on is,
          h.top_is,
          (let z = w1.size in let room = frame_room d in omega arith),
          λ n2 w2.
              let same : IsSameBelow (address_on is) e.words n2 =
              same_then (address_on is) e.words n1 n2 (same_wrote (address_on is) e.words n1 (address_on is + 0) e.named.first w1 (omega arith)) (same_wrote (address_on is) n1 n2 (address_on is + 1) e.named.second w2 (omega arith)) in
              framed newest is (to_thunk t) y n e.input e.output (length e.words) d around (record e { words = n2 })
              (record { newest_is = h.newest_is; top_is = h.top_is; memory = has_same code is e.words n2 same h.memory; bytes = h.bytes }) f
              (record { column_is = unwritten n1 n2 (address_on is) 1 0 e.named.second (column_word (column code t)) w2 (λ q. omega (arith, q)) (w1.here ∙ first); payload_is = w2.here ∙ second; third = tt; below = tt; good = good })
              deep most leads (let z = same.size in omega arith) (record { input_is = refl; output_is = refl; size_is = same.size }) cost,
        ),
      ),
    ),
  )
