-- Where blocks end: states of the word machine that stand for states of items.
use Rattle.std.proofs.Common.{◌≡◌, ℕ, ◌+◌, ◌<◌, ◌≤◌, List, ◌∷◌, length, All, Some, refl, sym, ◌∙◌, inl, inr, arith}
use Rattle.fy_base.specs.Outside.{Bytes}
use Rattle.fy_base.specs.declared.data.Datum.{Datum}
use Rattle.rv_insn.specs.declared.events.Event.TheVariants as event
use Rattle.pe_code.specs.declared.code.PeCode.{PeCode}
use Rattle.pe_code.specs.Valid.{LeadsTo}
use Rattle.pe_machine.specs.States.{Pointer, Sequence, code_at, value, completed, PeContext}
use Rattle.pe_items.specs.Items.{Item, context, sequence, address_on, ItemState}
use Rattle.rv_word.specs.declared.micros.Register.TheVariants.{Top, Context, First}
use Rattle.rv_word.specs.Word.{Data, Code, stops, word_address, block}
use Rattle.rv_runtime.specs.Routines.{exhausted}
use Rattle.rv_operators.specs.Operators.{word_of}
use Rattle.rv_operators.specs.Laws.{IsDatum}
use Rattle.rv_select.specs.Numbers.{meet, label_of, entry_word}
use Rattle.rv_select.specs.Blocks.{open_context, push, push_frame}
use Rattle.rv_select.specs.Layout.{word_in, frame_word, frames_from, HasParts, ContextIsLaid, SequenceIsLaid, HasItems, HoldsItems}
use Rattle.rv_select.proofs.Runs.{Later, known, wider}
use Rattle.rv_select.proofs.Wp.{Wp, at, with_value}
use Rattle.rv_select.proofs.Values.{moves, moves_on}
use Rattle.rv_select.proofs.Around.{frames_more}
use Rattle.rv_select.proofs.Memory.{IsSameBelow, same_then, same_wrote, unwritten, parts_along, laid_same}
use Rattle.rv_select.proofs.SelectedCode.{IsSelected}
use Rattle.rv_select.proofs.ItemSteps.{Helpers, IsAt, ComesTo}

abbrev pub AreBytes : Bytes → Type 0
AreBytes input = All (λ byte. byte < 256) input

-- what stays of the outside and of the stack's size
pub record Keeps (input output : Bytes) (size : ℕ) (e : Data) : Type 0 where
  pub input_is : e.input ≡ input
  pub output_is : e.output ≡ output
  pub size_is : length e.words ≡ size

pub keeps_itself : (e : Data) → Keeps e.input e.output (length e.words) e
keeps_itself e = record { input_is = refl; output_is = refl; size_is = refl }

-- memory with the same items
pub has_same : (code : PeCode) (is : List Item) (m n : List ℕ) → IsSameBelow (address_on is) m n → HasItems code m is → HasItems code n is
has_same code is m n e h = record {
  foot = e.under 0 (omega arith) ∙ h.foot;
  fits = (let f = h.fits in let z = e.size in omega arith);
  few = (let f = h.few in let z = e.size in omega arith);
  laid = laid_same code m n is e h.laid;
}

-- with one item more
pub has_more : (code : PeCode) (is : List Item) (c : PeContext) (outside : ℕ) (m n : List ℕ) → HasItems code m is → IsSameBelow (address_on is) m n → ContextIsLaid code n is c outside → address_on is + 4 ≤ length m
    → HasItems code n (context c outside ∷ is)
has_more code is c outside m n h e g le =
    let k = has_same code is m n e h in
    record { foot = k.foot; fits = (let z = e.size in omega arith); few = k.few; laid = (g, k.laid) }

-- with the cells of a sequence on the newest context
pub has_cells : (code : PeCode) (is : List Item) (c : Sequence) (m : List ℕ) → HasItems code m is → SequenceIsLaid code m is c → address_on is + length c.values ≤ length m → HasItems code m (sequence c ∷ is)
has_cells code is c m h laid le = record { foot = h.foot; fits = omega arith; few = h.few; laid = (laid, h.laid) }

module _ (code : PeCode) (w : Code) where
  pub went_code : (newest : ℕ) (is : List Item) (p : Pointer) (depth : ℕ) (e : Data) (input output : Bytes) (size : ℕ) → HoldsItems code newest is e → e.named.frame ≡ frame_word p.frame
      → LeadsTo code depth p.address → frames_from is p.frame ≡ Some depth → Keeps input output size e
      → IsAt code w (record { focus = code_at p; newest = newest; items = is }) input output size (record { rest = block w (label_of code p.address); held = e })
  went_code newest is p depth e input output size h f leads deep k = record {
    stands = inl (record { items = h; focus = record { depth = depth; leads = leads; deep = deep; frame = f; at = refl } });
    input_is = k.input_is;
    output_is = k.output_is;
    size_is = k.size_is;
  }

  pub went_value : (newest : ℕ) (is : List Item) (v : Datum) (e : Data) (input output : Bytes) (size : ℕ) → HoldsItems code newest is e → e.named.datum ≡ word_of v → IsDatum v → Keeps input output size e
      → IsAt code w (record { focus = value v; newest = newest; items = is }) input output size (record { rest = block w meet; held = e })
  went_value newest is v e input output size h d good k = record {
    stands = inl (record { items = h; focus = record { datum = d; good = good; at = refl } });
    input_is = k.input_is;
    output_is = k.output_is;
    size_is = k.size_is;
  }

  pub went_completed : (newest : ℕ) (is : List Item) (e : Data) (input output : Bytes) (size : ℕ) → HoldsItems code newest is e → Keeps input output size e
      → IsAt code w (record { focus = completed; newest = newest; items = is }) input output size (record { rest = block w meet; held = e })
  went_completed newest is e input output size h k = record {
    stands = inl (record { items = h; focus = refl });
    input_is = k.input_is;
    output_is = k.output_is;
    size_is = k.size_is;
  }

module _ (code : PeCode) (w : Code) (sel : IsSelected code w) (help : Helpers) where
  -- the stack hasn't the words of a state
  pub no_room : (s : ItemState) (input output : Bytes) (size n : ℕ) (e : Data) → 10 ≤ n → e.output ≡ output → size < address_on s.items
      → Later w n (ComesTo code w s input output size) (at w exhausted e)
  no_room s input output size n e few same lt =
      let told = help.exhausts w e sel.routines in
      inr (wider w (ComesTo code w s input output size) 10 n (record { rest = block w exhausted; held = e }) few
      (known w (ComesTo code w s input output size) (record { rest = block w exhausted; held = e }) (stops event.Exhausted e) 1 10 (omega arith) told.ends told.cost
      (record { output_is = same; past = lt })))

  -- a context whose words were saved on top is the newest, and code goes on
  pub opened : (newest : ℕ) (is : List Item) (c : PeContext) (p : Pointer) (depth n : ℕ) (input output : Bytes) (size : ℕ) (m : List ℕ) (e : Data) → HasItems code m is → IsSameBelow (address_on is) m e.words
      → ContextIsLaid code e.words is c newest → address_on is + 4 ≤ length m → e.named.top ≡ word_address (address_on is) → e.named.frame ≡ frame_word p.frame → AreBytes e.input → Keeps input output size e
      → LeadsTo code depth p.address → frames_from is p.frame ≡ Some depth
      → Wp w (Later w n (ComesTo code w (record { focus = code_at p; newest = address_on is; items = context c newest ∷ is }) input output size)) (open_context (label_of code p.address)) e
  opened newest is c p depth n input output size m e h same laid room top f bytes keeps leads deep =
      let few = h.few in (
        word_address (address_on is),
        moves e.named.top (word_address (address_on is)) top (omega arith),
        (
          word_address (address_on (context c newest ∷ is)),
          moves_on e.named.top (address_on is) (address_on (context c newest ∷ is)) 32 top (omega arith) (omega arith),
          inl (went_code code w (address_on is) (context c newest ∷ is) p depth (with_value Top (word_address (address_on (context c newest ∷ is))) (with_value Context (word_address (address_on is)) e)) input output size
              (record { newest_is = refl; top_is = refl; memory = has_more code is c newest m e.words h same laid room; bytes = bytes }) f leads (frames_more (context c newest) is p.frame depth deep)
              (record { input_is = keeps.input_is; output_is = keeps.output_is; size_is = keeps.size_is })),
        ),
      )

  -- a context with an entry alone
  pub pushed : (newest : ℕ) (is : List Item) (c : PeContext) (p : Pointer) (depth n k : ℕ) (e : Data) → 10 ≤ n → HoldsItems code newest is e → e.named.frame ≡ frame_word p.frame
      → LeadsTo code depth p.address → frames_from is p.frame ≡ Some depth → ((w2 w3 : ℕ) → HasParts code (frames_from is) c (entry_word k) w2 w3)
      → Wp w (Later w n (ComesTo code w (record { focus = code_at p; newest = address_on is; items = context c newest ∷ is }) e.input e.output (length e.words))) (push k (label_of code p.address)) e
  pushed newest is c p depth n k e few h f leads deep parts = (
    address_on is,
    h.top_is,
    λ lt. no_room (record { focus = code_at p; newest = address_on is; items = context c newest ∷ is }) e.input e.output (length e.words) n e few refl (omega arith),
    λ le. (
      address_on is,
      h.top_is,
      le,
      (
        address_on is,
        h.top_is,
        omega arith,
        λ n1 w1. (
          address_on is,
          h.top_is,
          (let z = w1.size in omega arith),
          λ n2 w2.
              let here : word_in n2 (address_on is) 0 ≡ entry_word k = unwritten n1 n2 (address_on is) 1 0 e.named.context (entry_word k) w2 (λ q. omega (arith, q)) w1.here in
              opened newest is c p depth n e.input e.output (length e.words) e.words (record (with_value First (entry_word k) e) { words = n2 }) h.memory
              (same_then (address_on is) e.words n1 n2 (same_wrote (address_on is) e.words n1 (address_on is + 0) (entry_word k) w1 (omega arith)) (same_wrote (address_on is) n1 n2 (address_on is + 1) e.named.context w2 (omega arith)))
              (record {
                outside_is = w2.here ∙ h.newest_is;
                parts = parts_along code (frames_from is) c (entry_word k) (word_in n2 (address_on is) 2) (word_in n2 (address_on is) 3) (word_in n2 (address_on is) 0) (word_in n2 (address_on is) 2) (word_in n2 (address_on is) 3)
                    (sym here) refl refl (parts (word_in n2 (address_on is) 2) (word_in n2 (address_on is) 3));
              })
              le h.top_is f h.bytes (record { input_is = refl; output_is = refl; size_is = w2.size ∙ w1.size }) leads deep,
        ),
      ),
    ),
  )

  -- and one with the frame in use too
  pub pushed_frame : (newest : ℕ) (is : List Item) (c : PeContext) (p : Pointer) (depth n k : ℕ) (e : Data) → 10 ≤ n → HoldsItems code newest is e → e.named.frame ≡ frame_word p.frame
      → LeadsTo code depth p.address → frames_from is p.frame ≡ Some depth → ((w3 : ℕ) → HasParts code (frames_from is) c (entry_word k) (frame_word p.frame) w3)
      → Wp w (Later w n (ComesTo code w (record { focus = code_at p; newest = address_on is; items = context c newest ∷ is }) e.input e.output (length e.words))) (push_frame k (label_of code p.address)) e
  pushed_frame newest is c p depth n k e few h f leads deep parts = (
    address_on is,
    h.top_is,
    λ lt. no_room (record { focus = code_at p; newest = address_on is; items = context c newest ∷ is }) e.input e.output (length e.words) n e few refl (omega arith),
    λ le. (
      address_on is,
      h.top_is,
      le,
      (
        address_on is,
        h.top_is,
        omega arith,
        λ n1 w1. (
          address_on is,
          h.top_is,
          (let z = w1.size in omega arith),
          λ n2 w2. (
            address_on is,
            h.top_is,
            (let z = w1.size in let y = w2.size in omega arith),
            λ n3 w3.
                let same1 = same_wrote (address_on is) e.words n1 (address_on is + 0) (entry_word k) w1 (omega arith) in
                let same2 = same_wrote (address_on is) n1 n2 (address_on is + 1) e.named.context w2 (omega arith) in
                let same3 = same_wrote (address_on is) n2 n3 (address_on is + 2) e.named.frame w3 (omega arith) in
                let here : word_in n3 (address_on is) 0 ≡ entry_word k =
                unwritten n2 n3 (address_on is) 2 0 e.named.frame (entry_word k) w3 (λ q. omega (arith, q))
                (unwritten n1 n2 (address_on is) 1 0 e.named.context (entry_word k) w2 (λ q. omega (arith, q)) w1.here) in
                let out : word_in n3 (address_on is) 1 ≡ word_address newest = unwritten n2 n3 (address_on is) 2 1 e.named.frame (word_address newest) w3 (λ q. omega (arith, q)) (w2.here ∙ h.newest_is) in
                opened newest is c p depth n e.input e.output (length e.words) e.words (record (with_value First (entry_word k) e) { words = n3 }) h.memory
                (same_then (address_on is) e.words n2 n3 (same_then (address_on is) e.words n1 n2 same1 same2) same3)
                (record {
                  outside_is = out;
                  parts = parts_along code (frames_from is) c (entry_word k) (frame_word p.frame) (word_in n3 (address_on is) 3) (word_in n3 (address_on is) 0) (word_in n3 (address_on is) 2) (word_in n3 (address_on is) 3)
                      (sym here) (sym (w3.here ∙ f)) refl (parts (word_in n3 (address_on is) 3));
                })
                le h.top_is f h.bytes (record { input_is = refl; output_is = refl; size_is = w3.size ∙ w2.size ∙ w1.size }) leads deep,
          ),
        ),
      ),
    ),
  )
