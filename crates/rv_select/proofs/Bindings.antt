-- The binding of a variable is reached by few straight instructions.
use Rattle.std.proofs.Common.{◌≡◌, ℕ, zero, suc, ◌+◌, ◌-◌, ◌^◌, ◌<◌, ◌≤◌, true, List, [], ◌∷◌, ◌++◌, length, ℤ, pos, Some, None, refl, sym, ap, ◌∙◌, subst, inl, inr, arith}
use Rattle.std.proofs.lemmas.Bool.{cond_both, cond-true, ltb-false}
use Rattle.std.proofs.lemmas.Option.{same_Some}
use Rattle.std.specs.Prelude.{slice_index, nat_lt, if◌then◌else◌}
use Rattle.std.specs.Int.{cast_unsigned, w64}
use Rattle.std.specs.List.{list_all}
use Rattle.std.specs.declared.option.Option.{Option}
use Rattle.rv_insn.specs.declared.instructions.RegOp.TheVariants.{Add}
use Rattle.rv_insn.specs.declared.instructions.ImmOp.TheVariants.{Addi}
use Rattle.rv_insn.specs.Operations.{imm_value}
use Rattle.pe_code.specs.declared.code.PeInsn.TheVariants as insn
use Rattle.pe_code.specs.declared.code.PeItem.{PeItem}
use Rattle.pe_code.specs.declared.code.PeCode.{PeCode}
use Rattle.pe_code.specs.Code.{item_at, variable_of}
use Rattle.pe_code.specs.Valid.{IsSoundItem, IsValid}
use Rattle.pe_frame.specs.Frames.{display_start}
use Rattle.pe_machine.specs.States.{Pointer, Focus, code_at}
use Rattle.pe_items.specs.Items.{Item, FoundFrame, frame_from, ItemState}
use Rattle.rv_word.specs.declared.micros.Register.{Register}
use Rattle.rv_word.specs.declared.micros.Register.TheVariants.{Frame, First, Second, Third}
use Rattle.rv_word.specs.declared.micros.Micro.{Micro}
use Rattle.rv_word.specs.declared.micros.Micro.TheVariants.{Set, Imm, Alu, Window, Get, Look, Enter}
use Rattle.rv_word.specs.Word.{get, Data, Code, State, Led, goes, hangs, wrong, word_address, word_number, has_window, block, onward, does, led_on}
use Rattle.rv_flow.specs.Lowering.{micro_items}
use Rattle.rv_select.specs.Numbers.{label_of, row_address}
use Rattle.rv_straight.specs.Straight.{word_of_frame}
use Rattle.rv_select.specs.Blocks.{move, behind, main_block}
use Rattle.rv_select.specs.Program.{word_code}
use Rattle.rv_select.specs.Layout.{word_in, frame_word, frames_from, address_found, HasItems, RunsItem, HasFocus, Stands}
use Rattle.rv_select.specs.Laws.{is_straight_item, IsReached, BindingsAreReached}
use Rattle.rv_select.proofs.Runs.{one_on, runs_split}
use Rattle.rv_select.proofs.Wp.{with_value, window_holds}
use Rattle.rv_select.proofs.Values.{moves, moves_on}
use Rattle.rv_select.proofs.Around.{frame_room, from_itself, from_none}
use Rattle.rv_select.proofs.Memory.{hands_on, shows_frames}
use Rattle.rv_select.proofs.Placed.{selected}
use Rattle.rv_select.proofs.Step.{all_found}

module _ (w : Code) where
  abbrev led : ℕ → List Micro → Data → Led
  led n rest e = led_on w n (goes (record { rest = rest; held = e }))

  -- ---- single operations

  -- one that goes on, and what is behind it
  one_more : (m : Micro) (rest : List Micro) (e d : Data) (n : ℕ) (r : Led) → does w m rest e ≡ onward rest d → led n rest d ≡ r → led (1 + n) (m ∷ rest) e ≡ r
  one_more m rest e d n r h k =
      let s : Led = goes (record { rest = m ∷ rest; held = e }) in
      runs_split w 1 n s ∙ ap (λ l. led_on w n l) (one_on w s ∙ h) ∙ k

  one_last : (m : Micro) (rest : List Micro) (e d : Data) → does w m rest e ≡ onward rest d → led 1 (m ∷ rest) e ≡ onward rest d
  one_last m rest e d h = one_on w (goes (record { rest = m ∷ rest; held = e })) ∙ h

  by_add : (s : Register) (imm : ℤ) (rest : List Micro) (e : Data) (v : ℕ) → imm_value Addi (get e.named s) (cast_unsigned w64 imm) ≡ v → does w (Imm Addi First s imm) rest e ≡ onward rest (with_value First v e)
  by_add s imm rest e v h = ap (λ x. onward rest (with_value First x e)) h

  by_window : (k x : ℕ) (rest : List Micro) (e : Data) → e.named.frame ≡ word_address x → x + k ≤ length e.words → does w (Window Frame k) rest e ≡ onward rest e
  by_window k x rest e h fits = cond-true (has_window e e.named.frame k) (onward rest e) (hangs e) (window_holds e e.named.frame x k h fits)

  by_get : (s : Register) (k x v : ℕ) (rest : List Micro) (e : Data) → get e.named s ≡ word_address x → x + (k + 1) ≤ length e.words → slice_index e.words (x + k) ≡ v
      → does w (Get First s k) rest e ≡ onward rest (with_value First v e)
  by_get s k x v rest e h fits is =
      let number : word_number (get e.named s) ≡ x = omega arith in
      cond-true (has_window e (get e.named s) (k + 1)) (onward rest (with_value First (slice_index e.words (word_number (get e.named s) + k)) e)) wrong (window_holds e (get e.named s) x (k + 1) h fits)
      ∙ ap (λ y. onward rest (with_value First y e)) (ap (λ j. slice_index e.words (j + k)) number ∙ is)

  -- ---- a word of the frame

  -- straight operations that bring it to First
  record Brings (word : ℕ) (ops : List Micro) : Type 0 where
    few : length (micro_items (length w.entries) (length w.table) ops) ≤ 4
    straight : list_all is_straight_item (micro_items (length w.entries) (length w.table) ops) ≡ true
    leads : (rest : List Micro) (e : Data) (x v : ℕ) → e.named.frame ≡ word_address x → x + word + 1 ≤ length e.words → length e.words ≤ 2 ^ 27 → word_in e.words x word ≡ v
        → led (length ops) (ops ++ rest) e ≡ onward rest (with_value First v e)

  brings_near : (word : ℕ) → Brings word (Get First Frame word ∷ [])
  brings_near word = record {
    few = omega arith;
    straight = refl;
    leads = λ rest e x v frame fits few is. one_last (Get First Frame word) rest e (with_value First v e) (by_get Frame word x v rest e frame (omega arith) is);
  }

  brings_once : (word : ℕ) → 256 ≤ word → Brings word (behind First Frame 255 ∷ Get First First (word - 255) ∷ [])
  brings_once word far = record {
    few = omega arith;
    straight = refl;
    leads = λ rest e x v frame fits few is.
        let get : List Micro = Get First First (word - 255) ∷ rest in
        let on : Data = with_value First (word_address (x + 255)) e in
        let at : x + 255 + (word - 255) ≡ x + word = omega arith in
        one_more (behind First Frame 255) get e on 1 (onward rest (with_value First v e))
        (by_add Frame (pos 2040) get e (word_address (x + 255)) (moves_on e.named.frame x (x + 255) 2040 frame (omega arith) (omega arith)))
        (one_last (Get First First (word - 255)) rest on (with_value First v e) (by_get First (word - 255) (x + 255) v rest on refl (omega arith) (ap (λ j. slice_index e.words j) at ∙ is)));
  }

  brings_twice : (word : ℕ) → 510 ≤ word → Brings word (behind First Frame 255 ∷ behind First First 255 ∷ Get First First (word - 510) ∷ [])
  brings_twice word far = record {
    few = omega arith;
    straight = refl;
    leads = λ rest e x v frame fits few is.
        let get : List Micro = Get First First (word - 510) ∷ rest in
        let once : Data = with_value First (word_address (x + 255)) e in
        let twice : Data = with_value First (word_address (x + 510)) e in
        let at : x + 510 + (word - 510) ≡ x + word = omega arith in
        one_more (behind First Frame 255) (behind First First 255 ∷ get) e once 2 (onward rest (with_value First v e))
        (by_add Frame (pos 2040) (behind First First 255 ∷ get) e (word_address (x + 255)) (moves_on e.named.frame x (x + 255) 2040 frame (omega arith) (omega arith)))
        (one_more (behind First First 255) get once twice 1 (onward rest (with_value First v e))
        (by_add First (pos 2040) get once (word_address (x + 510)) (moves_on (word_address (x + 255)) (x + 255) (x + 510) 2040 refl (omega arith) (omega arith)))
        (one_last (Get First First (word - 510)) rest twice (with_value First v e) (by_get First (word - 510) (x + 510) v rest twice refl (omega arith) (ap (λ j. slice_index e.words j) at ∙ is))));
  }

  brings : (word : ℕ) → Brings word (word_of_frame First word)
  brings word =
      let once : List Micro = behind First Frame 255 ∷ Get First First (word - 255) ∷ [] in
      let twice : List Micro = behind First Frame 255 ∷ behind First First 255 ∷ Get First First (word - 510) ∷ [] in
      cond_both (nat_lt word 256) (Get First Frame word ∷ []) (if nat_lt word 510 then once else twice) (λ ops. Brings word ops) (λ near. brings_near word)
      (λ far. cond_both (nat_lt word 510) once twice (λ ops. Brings word ops) (λ below. brings_once word (ltb-false word 256 far)) (λ above. brings_twice word (ltb-false word 510 above)))

-- ---- where the item runs

-- its own frame, and those of which its display tells
own_is : (code : PeCode) (words : List ℕ) (is : List Item) (here : Option ℕ) (depth : ℕ) (f : FoundFrame) → HasItems code words is → frames_from is here ≡ Some depth → frame_from is 0 here ≡ Some f → frame_word here ≡ word_address f.address
own_is code words is None depth f h deep found = absurd (let none = from_none is 0 in cc)
own_is code words is (Some x) depth f h deep found = ap word_address (sym (from_itself is x f.address (ap address_found found)))

-- the frame in use, at word x, has the address of another in a word
record Tells (words : List ℕ) (here : Option ℕ) (k : ℕ) (f : FoundFrame) : Type 0 where
  x : ℕ
  spot : frame_word here ≡ word_address x
  within : x + (display_start + k) + 1 ≤ length words
  value : word_in words x (display_start + k) ≡ word_address f.address

tells : (code : PeCode) (words : List ℕ) (is : List Item) (here : Option ℕ) (depth k : ℕ) (f : FoundFrame) → HasItems code words is → frames_from is here ≡ Some depth → suc k < depth → frame_from is (suc k) here ≡ Some f → Tells words here k f
tells code words is None depth k f h deep lt found = absurd (let none = from_none is (suc k) in cc)
tells code words is (Some x) zero k f h deep lt found = absurd (omega arith)
tells code words is (Some x) (suc d) k f h deep lt found =
    let shows = shows_frames code words is x d deep h.laid in
    let within = shows.within in
    let room = frame_room d in
    let fits = h.fits in
    record { x = x; spot = refl; within = omega arith; value = shows.display k f.address (omega arith) (ap address_found found) }

-- what is known where it runs
record Running (code : PeCode) (w : Code) (s : ItemState) (t : State) (p : Pointer) (k : ℕ) (ops : List Micro) : Type 0 where
  depth : ℕ
  memory : HasItems code t.held.words s.items
  deep : frames_from s.items p.frame ≡ Some depth
  inside : k < depth
  frame : t.held.named.frame ≡ frame_word p.frame
  at : t.rest ≡ ops

running : (code : PeCode) (w : Code) (a k shape : ℕ) (i : PeItem) (s : ItemState) (t : State) (p : Pointer) (ops : List Micro) → IsValid code → item_at code a ≡ Some i → i.insn ≡ insn.UseVar k shape
    → block w (label_of code a) ≡ ops → Stands code w s t → s.focus ≡ code_at p → p.address ≡ a → Running code w s t p k ops
running code w a k shape i s t p ops valid stands is block_is (inr h) focus at = absurd (let same = sym focus ∙ ap (λ (z : ItemState). z.focus) h.state in cc)
running code w a k shape i s t p ops valid stands is block_is (inl h) focus at =
    let r : RunsItem code w s.items p t.rest t.held = (let F : Focus → Type 0 = λ q. HasFocus code w s.items q t.rest t.held in subst F focus h.focus) in
    let sound : IsSoundItem code i = all_found (λ j. IsSoundItem code j) code.items a i valid.items stands in
    let here : Some r.leads.item ≡ Some i = sym r.leads.stands ∙ ap (λ n. item_at code n) at ∙ stands in
    let same : r.leads.item.depth ≡ i.depth = ap (λ (j : PeItem). j.depth) (same_Some r.leads.item i here) in
    let depth_is = r.leads.depth_is in
    let below : k < i.depth = sound.variable k (ap variable_of is) in
    record {
      depth = r.depth;
      memory = h.items.memory;
      deep = r.deep;
      inside = omega arith;
      frame = r.frame;
      at = r.at ∙ ap (λ n. block w (label_of code n)) at ∙ block_is;
    }

-- ---- each variable

module _ (code : PeCode) (a shape : ℕ) (i : PeItem) (valid : IsValid code) (stands : item_at code a ≡ Some i) where
  abbrev w : Code
  w = word_code code

  block_is : (k : ℕ) → i.insn ≡ insn.UseVar k shape → block w (label_of code a) ≡ main_block code a i.depth (insn.UseVar k shape)
  block_is k is = (selected code valid).main a i stands ∙ ap (λ j. main_block code a i.depth j) is

  -- what is behind the operations that reach
  abbrev others : List Micro
  others =
      Window First 2 ∷ Get Second First 0 ∷ Get Frame First 1
      ∷ Set Third (row_address code shape) ∷ Alu Add Second Second Third ∷ Look Second Second ∷ Enter Second ∷ []

  innermost : i.insn ≡ insn.UseVar 0 shape → IsReached code w a 0
  innermost is = record {
    check = [];
    reaching = move First Frame ∷ [];
    rest = others;
    begins = block_is 0 is;
    is_check = tt;
    few = omega arith;
    straight = refl;
    reached = λ s t p f h focus at found.
        let r = running code w a 0 shape i s t p (move First Frame ∷ others) valid stands is (block_is 0 is) h focus at in
        let own = own_is code t.held.words s.items p.frame r.depth f r.memory r.deep found in
        let within = (hands_on code t.held.words s.items 0 p.frame f found r.memory.laid).within in
        let fits = r.memory.fits in
        let few = r.memory.few in
        ap (λ (ops : List Micro). led w 1 ops t.held) r.at
        ∙ one_last w (move First Frame) others t.held (with_value First (word_address f.address) t.held)
        (by_add w Frame (pos 0) others t.held (word_address f.address) (moves t.held.named.frame (word_address f.address) (r.frame ∙ own) (omega arith)));
  }

  further : (k : ℕ) → i.insn ≡ insn.UseVar (suc k) shape → IsReached code w a (suc k)
  further k is =
      let word : ℕ = display_start + k in
      let b = brings w word in
      let ops : List Micro = word_of_frame First word ++ others in
      let check : Micro = Window Frame (display_start + suc k) in
      record {
        check = check ∷ [];
        reaching = word_of_frame First word;
        rest = others;
        begins = block_is (suc k) is;
        is_check = tt;
        few = b.few;
        straight = b.straight;
        reached = λ s t p f h focus at found.
            let r = running code w a (suc k) shape i s t p (check ∷ ops) valid stands is (block_is (suc k) is) h focus at in
            let q = tells code t.held.words s.items p.frame r.depth k f r.memory r.deep r.inside found in
            let frame = r.frame ∙ q.spot in
            let within = q.within in
            let few = r.memory.few in
            ap (λ (l : List Micro). led w (1 + length (word_of_frame First word)) l t.held) r.at
            ∙ one_more w check ops t.held t.held (length (word_of_frame First word)) (onward others (with_value First (word_address f.address) t.held))
            (by_window w (display_start + suc k) q.x ops t.held frame (omega arith)) (b.leads others t.held q.x (word_address f.address) frame within few q.value);
      }

  pub reached : (k : ℕ) → i.insn ≡ insn.UseVar k shape → IsReached code w a k
  reached zero is = innermost is
  reached (suc k) is = further k is

pub bindings_are_reached : BindingsAreReached
bindings_are_reached code a k shape i valid stands is = reached code a shape i valid stands k is
