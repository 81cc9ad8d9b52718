-- Lines of notes, put one after another.
use Rattle.std.proofs.Common.{◌≡◌, ◌≢◌, ℕ, suc, ◌+◌, ◌<◌, List, [], ◌∷◌, ◌++◌, sym, ap, ◌∙◌, refl, take, drop, length, get_or, add-one, append_assoc, take-suc, drop-cons, arith, Some, None}
use Rattle.std.proofs.lemmas.List.{take-append-drop}
use Rattle.std.specs.Prelude.{OnErr}
use Rattle.std.specs.Option.{option_to_list}
use Rattle.std.specs.declared.option.Option.{Option}
use Rattle.std.specs.declared.result.Result.{Result}
use Rattle.std.specs.declared.result.Result.TheVariants.{Ok, Err}
use Rattle.fy_base.specs.Outside.{Bytes, appended, GainedPart}
use Rattle.fy_world.specs.World.{Contents}
use Rattle.fy_world.specs.declared.note.Note.{Note}
use Rattle.fy_world.specs.Note.{note_text, texts, ended_lines}
use Rattle.fy_world.proofs.Contents.{appended-appended}

-- the lines of these notes
abbrev lines : List Note → Bytes
lines notes = ended_lines (texts notes)

pub ended-append : (xs ys : List Bytes) → ended_lines (xs ++ ys) ≡ ended_lines xs ++ ended_lines ys
ended-append [] ys = refl
ended-append (x ∷ xs) ys = ap (λ t. x ++ 10 ∷ t) (ended-append xs ys) ∙ sym (append_assoc x (10 ∷ ended_lines xs) (ended_lines ys))

lines-append : (xs ys : List Note) → lines (xs ++ ys) ≡ lines xs ++ lines ys
lines-append [] ys = refl
lines-append (x ∷ xs) ys = ap (λ t. note_text x ++ 10 ∷ t) (lines-append xs ys) ∙ sym (append_assoc (note_text x) (10 ∷ lines xs) (lines ys))

-- all lines are those so far, the one here and the others
lines_at : (xs : List Note) (i : ℕ) (x : Note) → i < length xs → x ≡ get_or xs i x → lines xs ≡ (lines (take i xs) ++ (note_text x ++ 10 ∷ [])) ++ lines (drop (i + 1) xs)
lines_at xs i x lt is =
    let here : drop i xs ≡ x ∷ drop (i + 1) xs = rw (add-one i) (drop-cons xs i x lt ∙ ap (λ y. y ∷ drop (suc i) xs) (sym is)) in
    sym (ap lines (take-append-drop i xs)) ∙ lines-append (take i xs) (drop i xs) ∙ ap (λ t. lines (take i xs) ++ lines t) here
    ∙ ap (λ t. lines (take i xs) ++ t) (sym (append_assoc (note_text x) (10 ∷ []) (lines (drop (i + 1) xs))))
    ∙ sym (append_assoc (lines (take i xs)) (note_text x ++ 10 ∷ []) (lines (drop (i + 1) xs)))

lines_take : (xs : List Note) (i : ℕ) (x : Note) → i < length xs → x ≡ get_or xs i x → lines (take (i + 1) xs) ≡ lines (take i xs) ++ (note_text x ++ 10 ∷ [])
lines_take xs i x lt is =
    let more : take (i + 1) xs ≡ take i xs ++ x ∷ [] = rw (add-one i) (take-suc xs i x lt ∙ ap (λ y. take i xs ++ y ∷ []) (sym is)) in
    ap lines more ∙ lines-append (take i xs) (x ∷ [])

-- the line here was put
pub put_line : (b c d : Contents) (xs : List Note) (i : ℕ) (x : Note) (bytes : Bytes) → i < length xs → x ≡ get_or xs i x → bytes ≡ note_text x ++ 10 ∷ []
    → c ≡ record b { notes = appended b.notes (lines (take i xs)) } → d ≡ record c { notes = appended c.notes bytes } → d ≡ record b { notes = appended b.notes (lines (take (i + 1) xs)) }
put_line b c d xs i x bytes lt is e h k =
    k ∙ ap (λ (c : Contents). record { files = c.files; input = c.input; output = c.output; notes = appended c.notes bytes }) h
    ∙ ap (λ n. record { files = b.files; input = b.input; output = b.output; notes = n })
    (appended-appended b.notes (lines (take i xs)) bytes ∙ ap (λ t. appended b.notes t) (ap (λ t. lines (take i xs) ++ t) e ∙ sym (lines_take xs i x lt is)))

-- the line here was put in part
part_line : (b c : Contents) (now : Option Bytes) (xs : List Note) (i : ℕ) (x : Note) (bytes : Bytes) → i < length xs → x ≡ get_or xs i x → bytes ≡ note_text x ++ 10 ∷ []
    → c ≡ record b { notes = appended b.notes (lines (take i xs)) } → GainedPart c.notes now bytes → GainedPart b.notes now (lines xs)
part_line b c now xs i x bytes lt is e h k = record {
  part = lines (take i xs) ++ k.part;
  gained = k.gained ∙ ap (λ (c : Contents). appended c.notes k.part) h ∙ appended-appended b.notes (lines (take i xs)) k.part;
  begins = record {
    rest = k.begins.rest ++ lines (drop (i + 1) xs);
    is = lines_at xs i x lt is ∙ ap (λ t. (lines (take i xs) ++ t) ++ lines (drop (i + 1) xs)) (sym e ∙ k.begins.is)
        ∙ ap (λ t. t ++ lines (drop (i + 1) xs)) (sym (append_assoc (lines (take i xs)) k.part k.begins.rest))
        ∙ append_assoc (lines (take i xs) ++ k.part) k.begins.rest (lines (drop (i + 1) xs));
  };
}

pub part_line_err : {T E : Type 0} (result : Result T E) (b c : Contents) (now : Option Bytes) (xs : List Note) (i : ℕ) (x : Note) (bytes : Bytes) → i < length xs → x ≡ get_or xs i x → bytes ≡ note_text x ++ 10 ∷ []
    → c ≡ record b { notes = appended b.notes (lines (take i xs)) } → GainedPart c.notes now bytes → OnErr result (GainedPart b.notes now (lines xs))
part_line_err (Ok r) b c now xs i x bytes lt is e h k = tt
part_line_err (Err r) b c now xs i x bytes lt is e h k = part_line b c now xs i x bytes lt is e h k

-- ---- some lines

-- a line has its end at least
pub ended_some : (line rest : Bytes) → line ++ 10 ∷ rest ≢ []
ended_some [] rest = λ none. cc
ended_some (b ∷ line) rest = λ none. cc

-- some before or behind others are some
pub some_before : {T : Type 0} (xs ys : List T) → xs ≢ [] → xs ++ ys ≢ []
some_before [] ys some = λ none. some refl
some_before (x ∷ xs) ys some = λ none. cc

pub some_behind : {T : Type 0} (xs ys : List T) → ys ≢ [] → xs ++ ys ≢ []
some_behind [] ys some = some
some_behind (x ∷ xs) ys some = λ none. cc

pub some_texts : (notes : List Note) → notes ≢ [] → texts notes ≢ []
some_texts [] some = λ none. some refl
some_texts (note ∷ notes) some = λ none. cc

-- how a run ended is told by what it counted, at least
pub some_counted : (found : Option Note) (count : Note) → texts (option_to_list found ++ count ∷ []) ≢ []
some_counted None count = λ none. cc
some_counted (Some note) count = λ none. cc

-- a list that has a place has some
some_at : {T : Type 0} (xs : List T) (i : ℕ) → i < length xs → xs ≢ []
some_at [] i lt = absurd (omega arith)
some_at (x ∷ xs) i lt = λ none. cc

pub some_at_err : {A T E : Type 0} (result : Result T E) (xs : List A) (i : ℕ) → i < length xs → OnErr result (xs ≢ [])
some_at_err (Ok r) xs i lt = tt
some_at_err (Err r) xs i lt = some_at xs i lt

-- a list without length has none
pub none_long : {T : Type 0} (xs : List T) → length xs ≡ 0 → xs ≡ []
none_long [] is = refl
none_long (x ∷ xs) is = absurd (omega arith)
