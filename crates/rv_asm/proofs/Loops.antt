-- Steps of the loops over items: what is left of the lists gives the rest of the result.
use Rattle.std.proofs.Common.{◌≡◌, ℕ, ◌+◌, ◌≤◌, List, [], ◌∷◌, ◌++◌, length, drop, true, sym, ap, ◌∙◌, subst, append_assoc}
use Rattle.std.specs.List.{slice_index, AllZip}
use Rattle.std.proofs.lemmas.List.{append-nil, drop_all}
use Rattle.rv_insn.specs.declared.instructions.Insn.{Insn}
use Rattle.rv_insn.specs.Encoding.{IsWordOf}
use Rattle.rv_asm.specs.declared.items.Item.{Item}
use Rattle.rv_asm.specs.declared.planning.Choice.{Choice}
use Rattle.rv_asm.specs.Assembly.{joined}
use Rattle.rv_asm.specs.Choosing.{form_of, size_of, is_reached}
use Rattle.rv_asm.specs.Planning.{place_of, places_of, forms_of, AllReach, Appends}

-- ---- words of instructions

-- whatever words the other instructions have, all have the words so far and those
abbrev pub WordsTo : List Insn → List ℕ → ℕ → List ℕ → Type 0
WordsTo insns old k words = (rest : List ℕ) → AllZip IsWordOf (drop k insns) rest → Appends insns old (words ++ rest)

-- no instruction is left
pub words_all : (insns : List Insn) (old : List ℕ) (k : ℕ) (words : List ℕ) → length insns ≤ k → WordsTo insns old k words → Appends insns old words
words_all insns old k words long so_far =
    let Z : List Insn → Type 0 = λ l. AllZip IsWordOf l [] in
    subst (Appends insns old) (append-nil words) (so_far [] (subst Z (sym (drop_all k insns long)) tt))

-- ---- places

-- one item more
pub places_more : (items : List Item) (choices : List Choice) (k here next : ℕ) (item : Item) (choice : Choice) (places new all : List ℕ) → drop k items ≡ item ∷ drop (k + 1) items → drop k choices ≡ choice ∷ drop (k + 1) choices
    → new ≡ places ++ place_of here item → next ≡ here + size_of choice.near item → places ++ places_of here (drop k items) (drop k choices) ≡ all → new ++ places_of next (drop (k + 1) items) (drop (k + 1) choices) ≡ all
places_more items choices k here next item choice places new all e f pushed size so_far =
    let rest : List ℕ = places_of (here + size_of choice.near item) (drop (k + 1) items) (drop (k + 1) choices) in
    ap (λ n. new ++ places_of n (drop (k + 1) items) (drop (k + 1) choices)) size ∙ ap (λ l. l ++ rest) pushed ∙ append_assoc places (place_of here item) rest
    ∙ ap (λ (l : List Item). places ++ places_of here l (choice ∷ drop (k + 1) choices)) (sym e) ∙ ap (λ (l : List Choice). places ++ places_of here (drop k items) l) (sym f) ∙ so_far

-- ---- reach

-- the item at a place reaches, and those behind it
pub reach_at : (places : List ℕ) (items : List Item) (choices : List Choice) (k here : ℕ) (item : Item) (choice : Choice) → drop k items ≡ item ∷ drop (k + 1) items → drop k choices ≡ choice ∷ drop (k + 1) choices
    → AllReach places here (drop k items) (drop k choices) → (is_reached choice.near item here (slice_index places choice.target) ≡ true) × AllReach places (here + size_of choice.near item) (drop (k + 1) items) (drop (k + 1) choices)
reach_at places items choices k here item choice e f all =
    let I : List Item → Type 0 = λ l. AllReach places here l (choice ∷ drop (k + 1) choices) in
    let C : List Choice → Type 0 = λ l. AllReach places here (drop k items) l in
    subst I e (subst C f all)

-- ---- words of items

-- words of instructions one behind the other
zip-append : (xs ys : List Insn) (ws vs : List ℕ) → AllZip IsWordOf xs ws → AllZip IsWordOf ys vs → AllZip IsWordOf (xs ++ ys) (ws ++ vs)
zip-append [] ys [] vs h k = k
zip-append [] ys (w ∷ ws) vs h k = absurd h
zip-append (x ∷ xs) ys [] vs h k = absurd h
zip-append (x ∷ xs) ys (w ∷ ws) vs h k = (h.0, zip-append xs ys ws vs h.1 k)

-- whatever words the other items have, all have the words so far and those
abbrev pub ItemsTo : List ℕ → List Item → List Choice → ℕ → ℕ → List ℕ → Type 0
ItemsTo places items choices k here words = (rest : List ℕ) → AllZip IsWordOf (joined (forms_of places here (drop k items) (drop k choices))) rest → AllZip IsWordOf (joined (forms_of places 0 items choices)) (words ++ rest)

-- one item more, and none left
pub items_more : (places : List ℕ) (items : List Item) (choices : List Choice) (k here next : ℕ) (item : Item) (choice : Choice) (words new : List ℕ) → drop k items ≡ item ∷ drop (k + 1) items → drop k choices ≡ choice ∷ drop (k + 1) choices
    → next ≡ here + size_of choice.near item → Appends (form_of choice.near here (slice_index places choice.target) item) words new → ItemsTo places items choices k here words → ItemsTo places items choices (k + 1) next new
items_more places items choices k here next item choice words new e f size added so_far rest h =
    let form : List Insn = form_of choice.near here (slice_index places choice.target) item in
    let N : ℕ → Type 0 = λ n. AllZip IsWordOf (joined (forms_of places n (drop (k + 1) items) (drop (k + 1) choices))) rest in
    let I : List Item → Type 0 = λ l. AllZip IsWordOf (joined (forms_of places here l (choice ∷ drop (k + 1) choices))) (added.words ++ rest) in
    let C : List Choice → Type 0 = λ l. AllZip IsWordOf (joined (forms_of places here (drop k items) l)) (added.words ++ rest) in
    let both : AllZip IsWordOf (form ++ joined (forms_of places (here + size_of choice.near item) (drop (k + 1) items) (drop (k + 1) choices))) (added.words ++ rest) = zip-append form _ added.words rest added.are (subst N size h) in
    let same : words ++ (added.words ++ rest) ≡ new ++ rest = sym (append_assoc words added.words rest) ∙ ap (λ l. l ++ rest) (sym added.is) in
    let W : List ℕ → Type 0 = λ l. AllZip IsWordOf (joined (forms_of places 0 items choices)) l in
    subst W same (so_far (added.words ++ rest) (subst C (sym f) (subst I (sym e) both)))

pub items_all : (places : List ℕ) (items : List Item) (choices : List Choice) (k here : ℕ) (words : List ℕ) → length items ≤ k → ItemsTo places items choices k here words → AllZip IsWordOf (joined (forms_of places 0 items choices)) words
items_all places items choices k here words long so_far =
    let I : List Item → Type 0 = λ l. AllZip IsWordOf (joined (forms_of places here l (drop k choices))) [] in
    let W : List ℕ → Type 0 = λ l. AllZip IsWordOf (joined (forms_of places 0 items choices)) l in
    subst W (append-nil words) (so_far [] (subst I (sym (drop_all k items long)) tt))
