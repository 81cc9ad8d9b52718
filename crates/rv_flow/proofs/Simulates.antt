-- The machine does what the word machine does.
use Rattle.std.proofs.Common.{◌≡◌, ℕ, zero, suc, ◌+◌, ◌^◌, ◌<◌, ◌≤◌, true, List, [], ◌∷◌, ◌++◌, length, drop, map, All, Some, refl, sym, ◌∙◌, ap, subst, arith, append_assoc}
use Rattle.std.specs.List.{slice_get}
use Rattle.rv_insn.specs.Program.{Program}
use Rattle.rv_insn.specs.Run.{World, run}
use Rattle.rv_insn.proofs.Runs.{run_splits}
use Rattle.rv_asm.specs.declared.items.Item.{Item}
use Rattle.rv_asm.specs.declared.items.Item.TheVariants.{Mark}
use Rattle.rv_word.specs.declared.micros.Micro.{Micro}
use Rattle.rv_word.specs.Word.{Named, Data, Code, State, Led, goes, hangs, stops, wrong, block, does, does_first, word_step, after_step, led_on, word_run}
use Rattle.rv_word.specs.Costs.{cost, next_cost, led_cost, spent}
use Rattle.rv_word.specs.Discipline.{is_disciplined_from, bounds_of, is_disciplined}
use Rattle.rv_word.specs.Laws.{IsSound}
use Rattle.rv_word.proofs.Right.{IsFine, LeadsFine, needs_met, led_fine}
use Rattle.rv_word.proofs.Sound.{LeadsSound, led_sound}
use Rattle.rv_flow.specs.Lowering.{micro_items, items_of}
use Rattle.rv_flow.proofs.Lists.{first_is, rest_is, behind_is}
use Rattle.rv_flow.proofs.Shown.{Scratch, view, Shows}
use Rattle.rv_flow.proofs.Lines.{Line, Last, line_item, last_items, Did, Behind, Away, Still, Over, Unsaid, lines_do, led_by, lines_least, lines_most, lines_count, lines_of, last_of, lines_are}
use Rattle.rv_flow.proofs.Reached.{IsPlaced, Sticks, Finishes, sticks_later, finishes_later, IsReached}
use Rattle.rv_flow.proofs.Steps.{stands_at}
use Rattle.rv_flow.proofs.Chained.{lines_reached}
use Rattle.rv_flow.proofs.Agree.{IsSmall, are_led}
use Rattle.rv_flow.proofs.Spent.{within_cost, at_least_one}
use Rattle.rv_flow.proofs.Placed.{HasBlock, block_stands}

count_is : (is : List Line) (last : Last) → length (map line_item is ++ last_items last) ≡ lines_count is last
count_is [] last = refl
count_is (i ∷ is) last = ap suc (count_is is last)

-- items from some number on
abbrev pub Stand : Code → ℕ → List Micro → List Item → Type 0
Stand code k ms tail = drop k (items_of code) ≡ micro_items (length code.entries) (length code.table) ms ++ tail

-- the machine stands where the word machine stands
pub record Matches (code : Code) (at : ℕ → ℕ) (w : World) (s : State) : Type 0 where
  pub k : ℕ
  pub tail : List Item
  pub there : Stand code k s.rest tail
  pub scratch : Scratch
  pub shows : Shows w (at k) (view s.held scratch)

pub record Moves (code : Code) (p : Program) (at : ℕ → ℕ) (w : World) (least most : ℕ) (s : State) : Type 0 where
  pub count : ℕ
  pub above : least ≤ count
  pub below : count ≤ most
  pub matches : Matches code at (run p count w) s

-- the machine comes to the same
abbrev pub Simulated : Code → Program → (ℕ → ℕ) → World → ℕ → ℕ → Led → Type 0
Simulated code p at w least most (goes s) = Moves code p at w least most s
Simulated code p at w least most (hangs e) = Sticks p w most e
Simulated code p at w least most (stops how e) = Finishes p w most how e
Simulated code p at w least most wrong = Unit {0}

-- some instructions before, and looser bounds
later : (code : Code) (p : Program) (at : ℕ → ℕ) (w : World) (n least most : ℕ) (r : Led) (least2 most2 : ℕ) → Simulated code p at (run p n w) least most r → least2 ≤ n + least → n + most ≤ most2 → Simulated code p at w least2 most2 r
later code p at w n least most (goes s) least2 most2 c h i =
    let P : World → Type 0 = λ x. Matches code at x s in
    let above = c.above in
    let below = c.below in
    record { count = n + c.count; above = omega arith; below = omega arith; matches = subst P (sym (run_splits p n c.count w)) c.matches }
later code p at w n least most (hangs e) least2 most2 c h i = sticks_later p w n most e most2 c i
later code p at w n least most (stops how e) least2 most2 c h i = finishes_later p w n most how e most2 c i
later code p at w n least most wrong least2 most2 c h i = tt

pub looser : (code : Code) (p : Program) (at : ℕ → ℕ) (w : World) (least most : ℕ) (r : Led) (least2 most2 : ℕ) → Simulated code p at w least most r → least2 ≤ least → most ≤ most2 → Simulated code p at w least2 most2 r
looser code p at w least most (goes s) least2 most2 c h i =
    let above = c.above in
    let below = c.below in
    record { count = c.count; above = omega arith; below = omega arith; matches = c.matches }
looser code p at w least most (hangs e) least2 most2 c h i = let below = c.below in record { count = c.count; below = omega arith; still = c.still; going = c.going; same = c.same }
looser code p at w least most (stops how e) least2 most2 c h i = let below = c.below in record { count = c.count; below = omega arith; ends = c.ends; same = c.same }
looser code p at w least most wrong least2 most2 c h i = tt

module _ (code : Code) (p : Program) (at label_at : ℕ → ℕ) (placed : IsPlaced code p at label_at) where
  -- a block stands where its label is
  enters_block : (w : World) (label : ℕ) (e : Data) (h : Scratch) → label < length code.blocks → Shows w (label_at label) (view e h) → Matches code at w (record { rest = block code label; held = e })
  enters_block w label e h within s =
      let b : HasBlock (length code.entries) (length code.table) (items_of code) label (block code label) = block_stands code label within in
      let rest : List Item = micro_items (length code.entries) (length code.table) (block code label) ++ b.tail in
      let mark : slice_get (items_of code) b.k ≡ Some (Mark label) = first_is (items_of code) b.k (Mark label) rest b.is in
      let P : ℕ → Type 0 = λ a. Shows w a (view e h) in
      let here : Shows w (at b.k) (view e h) = subst P (placed.marks b.k label mark) s in
      let next : w.core.pc ≡ at (b.k + 1) = placed.does b.k (Mark label) w.core mark (stands_at w (at b.k) (view e h) here) in
      record { k = b.k + 1; tail = b.tail; there = rest_is (items_of code) b.k (Mark label) rest b.is; scratch = h; shows = subst P (sym here.pc_is ∙ next) here }

  pub from_reached : (w : World) (n : ℕ) (tail : List Item) (rest : List Micro) (least most : ℕ) (d : Did) → Stand code n rest tail → IsReached code p label_at (at n) w least most d → Simulated code p at w least most (led_by code rest d)
  from_reached w n tail rest least most (Behind e) there c = record { count = c.count; above = c.above; below = c.below; matches = record { k = n; tail = tail; there = there; scratch = c.scratch; shows = c.shows } }
  from_reached w n tail rest least most (Away label e) there c = record { count = c.comes.count; above = c.comes.above; below = c.comes.below; matches = enters_block (run p c.comes.count w) label e c.comes.scratch c.within c.comes.shows }
  from_reached w n tail rest least most (Still e) there c = c
  from_reached w n tail rest least most (Over how e) there c = c
  from_reached w n tail rest least most Unsaid there c = c

  small : (e : Data) → IsSound e → IsSmall code e
  small e sound = record { sound = sound; entries = placed.entries_few; table = placed.table_few; places = placed.places_few }

  -- one micro-operation
  micro_simulated : (w : World) (m : Micro) (rest : List Micro) (e : Data) (windows : Named) → is_disciplined code ≡ true → is_disciplined_from (bounds_of code) windows (m ∷ rest) ≡ true → IsSound e → Matches code at w (record { rest = m ∷ rest; held = e })
      → Simulated code p at w 1 (cost m) (does code m rest e)
  micro_simulated w m rest e windows disciplined here sound c =
      let entries : ℕ = length code.entries in
      let words : ℕ = length code.table in
      let is : List Line = lines_of entries words m in
      let last : Last = last_of m in
      let others : List Item = micro_items entries words rest in
      let P : List Item → Type 0 = λ l. drop c.k (items_of code) ≡ (l ++ others) ++ c.tail in
      let split : drop c.k (items_of code) ≡ ((map line_item is ++ last_items last) ++ others) ++ c.tail = subst P (lines_are entries words m) c.there in
      let whole : drop c.k (items_of code) ≡ (map line_item is ++ last_items last) ++ (others ++ c.tail) = split ∙ append_assoc (map line_item is ++ last_items last) others c.tail in
      let n : ℕ = c.k + lines_count is last in
      let Q : ℕ → Type 0 = λ j. drop (c.k + j) (items_of code) ≡ others ++ c.tail in
      let behind : Stand code n rest c.tail = subst Q (count_is is last) (behind_is (items_of code) c.k (map line_item is ++ last_items last) (others ++ c.tail) whole) in
      let d : Did = lines_do code is last (view e c.scratch) in
      let r : IsReached code p label_at (at n) w (lines_least is last) (lines_most is last) d =
      lines_reached code p at label_at placed w c.k (view e c.scratch) is last (others ++ c.tail) n c.shows (whole ∙ append_assoc (map line_item is) (last_items last) (others ++ c.tail)) refl in
      let s : Simulated code p at w (lines_least is last) (lines_most is last) (led_by code rest d) = from_reached w n c.tail rest (lines_least is last) (lines_most is last) d behind r in
      let S : Led → Type 0 = λ x. Simulated code p at w (lines_least is last) (lines_most is last) x in
      looser code p at w (lines_least is last) (lines_most is last) (does code m rest e) 1 (cost m)
      (subst S (are_led code rest m e c.scratch windows disciplined (needs_met (bounds_of code) windows m rest here) (small e sound)) s) (at_least_one entries words m) (within_cost entries words m)

  first_simulated : (w : World) (rest : List Micro) (e : Data) (windows : Named) → is_disciplined code ≡ true → is_disciplined_from (bounds_of code) windows rest ≡ true → IsSound e → Matches code at w (record { rest = rest; held = e })
      → Simulated code p at w 1 (next_cost rest) (does_first code rest e)
  first_simulated w [] e windows disciplined here sound c = tt
  first_simulated w (m ∷ rest) e windows disciplined here sound c = micro_simulated w m rest e windows disciplined here sound c

  -- one step more
  more : (w : World) (least most : ℕ) (r : Led) (most2 : ℕ) → is_disciplined code ≡ true → LeadsFine code r → LeadsSound r → Simulated code p at w least most r → most + led_cost r ≤ most2 → Simulated code p at w (suc least) most2 (after_step code r)
  more w least most (goes s) most2 disciplined fine sound c h =
      let above = c.above in
      let below = c.below in
      later code p at w c.count 1 (next_cost s.rest) (word_step code s) (suc least) most2 (first_simulated (run p c.count w) s.rest s.held fine.windows disciplined fine.disciplined sound c.matches) (omega arith) (omega arith)
  more w least most (hangs e) most2 disciplined fine sound c h = let below = c.below in record { count = c.count; below = omega arith; still = c.still; going = c.going; same = c.same }
  more w least most (stops how e) most2 disciplined fine sound c h = let below = c.below in record { count = c.count; below = omega arith; ends = c.ends; same = c.same }
  more w least most wrong most2 disciplined fine sound c h = tt

  -- n steps take n instructions more, and at most what is spent
  pub run_simulated : (w : World) (s : State) (least most n : ℕ) → is_disciplined code ≡ true → All (λ word. word < 2 ^ 64) code.table → IsFine code s → IsSound s.held → Moves code p at w least most s
      → Simulated code p at w (n + least) (most + spent code n s) (word_run code n s)
  unfolding led_on spent
  run_simulated w s least most zero disciplined table fine sound c =
      let above = c.above in
      let below = c.below in
      record { count = c.count; above = omega arith; below = omega arith; matches = c.matches }
  run_simulated w s least most (suc n) disciplined table fine sound c =
      let r : Led = led_on code n (goes s) in
      let steps : Simulated code p at w (n + least) (most + spent code n s) r = run_simulated w s least most n disciplined table fine sound c in
      looser code p at w (suc (n + least)) (most + (spent code n s + led_cost r)) (after_step code r) (suc n + least) (most + (spent code n s + led_cost r))
      (more w (n + least) (most + spent code n s) r (most + (spent code n s + led_cost r)) disciplined (led_fine code n (goes s) disciplined fine) (led_sound code n (goes s) disciplined table fine sound) steps (omega arith))
      (omega arith) (omega arith)
