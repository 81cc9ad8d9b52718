-- Lists of units: bytes in lines, and the names that the lines are.
use Rattle.std.proofs.Common.{◌≡◌, ◌≢◌, ℕ, ◌+◌, ◌-◌, ◌≤◌, ◌<◌, nat_eq, Bool, true, false, cond, ◌==◌, List, [], ◌∷◌, ◌++◌, length, map, take, drop, get_or, add-one, take-suc, drop-cons, refl, sym, ap, ◌∙◌, subst, arith, append_assoc, Some, None, Ok, Err}
use Rattle.std.proofs.lemmas.List.{append_cancel_right, map-append, length-map, length_push, take_all, take-append-drop, drop_at}
use Rattle.std.proofs.lemmas.List.Elements.{All-nil, All-cons, All-head, All-tail, All-push, All-get_or, All-weaker}
use Rattle.std.proofs.lemmas.List.Splits.{slice_split_none, slice_split_at}
use Rattle.std.proofs.lemmas.Bool.{eqb-true, eqb-false}
use Rattle.std.proofs.lemmas.Bool.Decides.{nat_tests}
use Rattle.std.specs.Borrow.{Bor}
use Rattle.std.specs.Cmp.Lexicographic.{same_text, other_text}
use lib.Pointwise.{pointwise}
use Rattle.std.specs.List.{slice_split, onto_first}
use Rattle.std.specs.Prelude.{All, IsUtf8, IfOk}
use Rattle.std.specs.declared.alloc.Global.{Global}
use Rattle.std.specs.declared.option.Option.{Option}
use Rattle.std.specs.declared.result.Result.{Result}
use Rattle.std.specs.declared.vec.Vec.{Vec}
use Rattle.fy_base.specs.Outside.{Bytes}
use Rattle.fy_base.specs.declared.error.OutOfMemory.{OutOfMemory}
use Rattle.fy_world.specs.Note.{ended_lines}
use Rattle.fy_tool.specs.Units.{IsListable, ListsUnits, ListsNone}
use Rattle.fy_tool.specs.Working.{IsText, texts_of, AreTexts, IsList}

-- whether a byte ends a line
abbrev pub ends : ℕ → Bool
ends b = b == 10

-- what stands between bytes 10
abbrev pub lines_of : Bytes → List Bytes
lines_of text = slice_split (λ b. b == 10) text

-- ---- from lines to their text

-- the text of lines, of which the last has no end
abbrev joined : Bytes → List Bytes → Bytes
joined line [] = line
joined line (next ∷ more) = line ++ 10 ∷ joined next more

ended_joined : (line : Bytes) (more : List Bytes) → ended_lines (line ∷ more) ≡ joined line more ++ 10 ∷ []
ended_joined line [] = refl
ended_joined line (next ∷ more) = ap (λ t. line ++ 10 ∷ t) (ended_joined next more) ∙ sym (append_assoc line (10 ∷ joined next more) (10 ∷ []))

lacks_end : (line : Bytes) → All (λ b. b ≢ 10) line → All (λ b. ends b ≡ false) line
lacks_end line all = All-weaker (λ b. b ≢ 10) (λ b. ends b ≡ false) (λ b differs. grind (arith, nat_tests)) line all

split_joined : (line : Bytes) (more : List Bytes) → All IsListable (line ∷ more) → lines_of (joined line more) ≡ line ∷ more
split_joined line [] all = slice_split_none ends line (lacks_end line (All-head IsListable line [] all).one_line)
split_joined line (next ∷ more) all =
    slice_split_at ends line 10 (joined next more) (lacks_end line (All-head IsListable line (next ∷ more) all).one_line) refl
    ∙ ap (λ parts. line ∷ parts) (split_joined next more (All-tail IsListable line (next ∷ more) all))

-- what a list is: a text and byte 10, and its names are the text's lines
pub record EndsSo (bytes : Bytes) (names : List Bytes) : Type 0 where
  pub text : Bytes
  pub is : bytes ≡ text ++ 10 ∷ []
  pub lines : lines_of text ≡ names

pub ends_so : (bytes : Bytes) (names : List Bytes) → ListsUnits bytes names → EndsSo bytes names
ends_so bytes [] lists = let lt : 1 ≤ 0 = lists.some in absurd (omega arith)
ends_so bytes (name ∷ names) lists = record { text = joined name names; is = lists.lines ∙ ended_joined name names; lines = split_joined name names lists.each }

-- the names of a list whose text is known
pub names_are : (bytes text : Bytes) (names : List Bytes) → bytes ≡ text ++ 10 ∷ [] → ListsUnits bytes names → lines_of text ≡ names
names_are bytes text names is lists =
    let e = ends_so bytes names lists in
    ap lines_of (append_cancel_right text e.text (10 ∷ []) (sym is ∙ e.is)) ∙ e.lines

-- ---- from a text to its lines

onto_ended : (b : ℕ) (parts : List Bytes) → 1 ≤ length parts → ended_lines (onto_first b parts) ≡ b ∷ ended_lines parts
onto_ended b [] some = absurd (omega arith)
onto_ended b (part ∷ parts) some = refl

onto_some : (b : ℕ) (parts : List Bytes) → 1 ≤ length (onto_first b parts)
onto_some b [] = omega arith
onto_some b (part ∷ parts) = omega arith

cond_some : (b : ℕ) (parts : List Bytes) (c : Bool) → 1 ≤ length (cond c ([] ∷ parts) (onto_first b parts))
cond_some b parts true = omega arith
cond_some b parts false = onto_some b parts

pub lines_some : (text : Bytes) → 1 ≤ length (lines_of text)
lines_some [] = omega arith
lines_some (b ∷ text) = cond_some b (lines_of text) (ends b)

cond_ended : (b : ℕ) (parts : List Bytes) (c : Bool) → ends b ≡ c → 1 ≤ length parts → ended_lines (cond c ([] ∷ parts) (onto_first b parts)) ≡ b ∷ ended_lines parts
cond_ended b parts true e some = ap (λ x. x ∷ ended_lines parts) (sym (eqb-true b 10 e))
cond_ended b parts false e some = onto_ended b parts some

pub ended_split : (text : Bytes) → ended_lines (lines_of text) ≡ text ++ 10 ∷ []
ended_split [] = refl
ended_split (b ∷ text) = cond_ended b (lines_of text) (ends b) refl (lines_some text) ∙ ap (λ t. b ∷ t) (ended_split text)

-- none of the lines has a byte 10
abbrev Lacks : Bytes → Type 0
Lacks line = All (λ b. b ≢ 10) line

onto_lacks : (b : ℕ) (parts : List Bytes) → b ≢ 10 → All Lacks parts → All Lacks (onto_first b parts)
onto_lacks b [] differs all = All-cons Lacks (b ∷ []) [] (All-cons (λ x. x ≢ 10) b [] differs (All-nil (λ x. x ≢ 10))) (All-nil Lacks)
onto_lacks b (part ∷ parts) differs all =
    All-cons Lacks (b ∷ part) parts (All-cons (λ x. x ≢ 10) b part differs (All-head Lacks part parts all)) (All-tail Lacks part parts all)

cond_lacks : (b : ℕ) (parts : List Bytes) (c : Bool) → ends b ≡ c → All Lacks parts → All Lacks (cond c ([] ∷ parts) (onto_first b parts))
cond_lacks b parts true e all = All-cons Lacks [] parts (All-nil (λ x. x ≢ 10)) all
cond_lacks b parts false e all = onto_lacks b parts (eqb-false b 10 e) all

pub lines_lack : (text : Bytes) → All Lacks (lines_of text)
lines_lack [] = All-cons Lacks [] [] (All-nil (λ x. x ≢ 10)) (All-nil Lacks)
lines_lack (b ∷ text) = cond_lacks b (lines_of text) (ends b) refl (lines_lack text)

both_listable : (lines : List Bytes) → All Lacks lines → All IsText lines → All IsListable lines
both_listable [] lack texts = All-nil IsListable
both_listable (line ∷ lines) lack texts =
    let is = All-head IsText line lines texts in
    All-cons IsListable line lines (record { some = is.some; one_line = All-head Lacks line lines lack; text = is.text })
    (both_listable lines (All-tail Lacks line lines lack) (All-tail IsText line lines texts))

-- ---- lines that are read as texts

abbrev IsTextThere : Bor Bytes → Type 0
IsTextThere line = IsText line.now

each_text : (lines : List (Bor Bytes)) → All IsText (map (λ (line : Bor Bytes). line.now) lines) → All IsTextThere lines
each_text [] all = All-nil IsTextThere
each_text (line ∷ lines) all =
    let rest = map (λ (l : Bor Bytes). l.now) lines in
    All-cons IsTextThere line lines (All-head IsText line.now rest all) (each_text lines (All-tail IsText line.now rest all))

-- one of them is none
pub not_text : (lines : List (Bor Bytes)) (i : ℕ) (d : Bor Bytes) → i < length lines → ¬ IsText (get_or lines i d).now → ¬ All IsText (map (λ (line : Bor Bytes). line.now) lines)
not_text lines i d lt none all = none (All-get_or IsTextThere lines i d lt (each_text lines all))

-- so many of the lines are these texts
pub record TextsSoFar (lines : List (Bor Bytes)) (i : ℕ) (names : Vec (Bor Bytes) Global) : Type 0 where
  pub all : All IsText (map (λ (line : Bor Bytes). line.now) (take i lines))
  pub same : texts_of names ≡ map (λ (line : Bor Bytes). line.now) (take i lines)

pub texts_none : (lines : List (Bor Bytes)) (names : Vec (Bor Bytes) Global) → names.items ≡ [] → TextsSoFar lines 0 names
texts_none lines names none = record { all = All-nil IsText; same = ap (map (λ (line : Bor Bytes). line.now)) none }

pub taken_now : (lines : List (Bor Bytes)) (i : ℕ) (d : Bor Bytes) → i < length lines → map (λ (l : Bor Bytes). l.now) (take (i + 1) lines) ≡ map (λ (l : Bor Bytes). l.now) (take i lines) ++ (get_or lines i d).now ∷ []
taken_now lines i d lt =
    let more : take (i + 1) lines ≡ take i lines ++ get_or lines i d ∷ [] = rw (add-one i) (take-suc lines i d lt) in
    ap (map (λ (l : Bor Bytes). l.now)) more ∙ map-append (λ (l : Bor Bytes). l.now) (take i lines) (get_or lines i d ∷ [])

pub all_now : (lines : List (Bor Bytes)) (i : ℕ) (d : Bor Bytes) → i < length lines
    → map (λ (l : Bor Bytes). l.now) lines ≡ map (λ (l : Bor Bytes). l.now) (take i lines) ++ (get_or lines i d).now ∷ map (λ (l : Bor Bytes). l.now) (drop (i + 1) lines)
all_now lines i d lt =
    let here : drop i lines ≡ get_or lines i d ∷ drop (i + 1) lines = rw (add-one i) (drop-cons lines i d lt) in
    ap (map (λ (l : Bor Bytes). l.now)) (sym (take-append-drop i lines)) ∙ map-append (λ (l : Bor Bytes). l.now) (take i lines) (drop i lines)
    ∙ ap (λ rest. map (λ (l : Bor Bytes). l.now) (take i lines) ++ map (λ (l : Bor Bytes). l.now) rest) here

pub texts_more : (lines : List (Bor Bytes)) (i : ℕ) (d name : Bor Bytes) (names later : Vec (Bor Bytes) Global) → TextsSoFar lines i names → i < length lines → (length (get_or lines i d).now == 0) ≡ false
    → (name.now ≡ (get_or lines i d).now) × IsUtf8 (get_or lines i d).now → later.items ≡ names.items ++ name ∷ [] → TextsSoFar lines (i + 1) later
texts_more lines i d name names later so_far lt some text pushed =
    let taken = taken_now lines i d lt in
    let now = (get_or lines i d).now in
    record {
      all = subst (All IsText) (sym taken) (All-push IsText (map (λ (l : Bor Bytes). l.now) (take i lines)) now so_far.all (record { some = grind (arith, nat_tests); text = text.1 }));
      same = ap (map (λ (l : Bor Bytes). l.now)) pushed ∙ map-append (λ (l : Bor Bytes). l.now) names.items (name ∷ []) ∙ (λ k. so_far.same k ++ text.0 k ∷ []) ∙ sym taken;
    }

pub empty_none : (line : Bytes) → (length line == 0) ≡ true → ¬ IsText line
empty_none line empty is = let some = is.some in absurd (grind (arith, nat_tests))

pub texts_all : (lines : List (Bor Bytes)) (i : ℕ) (names : Vec (Bor Bytes) Global) → length lines ≤ i → TextsSoFar lines i names → AreTexts (map (λ (line : Bor Bytes). line.now) lines) (Some names)
texts_all lines i names past so_far =
    let whole = ap (map (λ (line : Bor Bytes). line.now)) (take_all i lines past) in
    (subst (All IsText) whole so_far.all, so_far.same ∙ whole)

-- ---- the answers

pub none_long : (bytes : Bytes) → 65536 < length bytes → ListsNone bytes
none_long bytes longer names lists = let short = lists.short in absurd (omega arith)

-- bytes that don't end with byte 10
pub none_open : (bytes : Bytes) → ((text : Bytes) → bytes ≢ text ++ 10 ∷ []) → ListsNone bytes
none_open bytes unended names lists = let e = ends_so bytes names lists in unended e.text e.is

length_now : (lines : List (Bor Bytes)) → length (map (λ (line : Bor Bytes). line.now) lines) ≡ length lines
length_now lines = length-map lines (λ (line : Bor Bytes). line.now)

-- bytes whose end isn't byte 10
pub ends_open : (bytes : Bytes) → pointwise nat_eq (drop (length bytes - 1) bytes) (10 ∷ []) ≡ false → ListsNone bytes
ends_open bytes differs =
    none_open bytes (λ text is. other_text (drop (length bytes - 1) bytes) (10 ∷ []) (sym differs)
    (ap (λ (b : Bytes). drop (length b - 1) b) is ∙ drop_at text (10 ∷ []) (length (text ++ 10 ∷ []) - 1) (let long = length_push text 10 in omega arith)))

-- bytes whose end is
pub ends_with : (bytes text : Bytes) → pointwise nat_eq (drop (length bytes - 1) bytes) (10 ∷ []) ≡ true → text ≡ take (length bytes - 1) bytes → bytes ≡ text ++ 10 ∷ []
ends_with bytes text same is =
    sym (take-append-drop (length bytes - 1) bytes) ∙ (λ k. sym is k ++ same_text (drop (length bytes - 1) bytes) (10 ∷ []) (sym same) k)

none_many : (bytes text : Bytes) → bytes ≡ text ++ 10 ∷ [] → 64 < length (lines_of text) → ListsNone bytes
none_many bytes text is many names lists =
    let same = names_are bytes text names is lists in
    let few = lists.few in
    let past : 64 < length names = subst (λ (ls : List Bytes). 64 < length ls) same many in
    absurd (omega arith)

pub many_listed : (bytes text : Bytes) (lines : List (Bor Bytes)) → bytes ≡ text ++ 10 ∷ [] → map (λ (line : Bor Bytes). line.now) lines ≡ lines_of text → 64 < length lines → ListsNone bytes
many_listed bytes text lines is same many =
    let long = length_now lines in
    let all : length (map (λ (line : Bor Bytes). line.now) lines) ≡ length (lines_of text) = ap length same in
    none_many bytes text is (omega arith)

listed : (bytes text : Bytes) (found : Option (Vec (Bor Bytes) Global)) → length bytes ≤ 65536 → bytes ≡ text ++ 10 ∷ [] → length (lines_of text) ≤ 64 → AreTexts (lines_of text) found → IsList bytes found
listed bytes text None short is few none = λ names lists.
    none (subst (All IsText) (sym (names_are bytes text names is lists)) (All-weaker IsListable IsText (λ name a. record { some = a.some; text = a.text }) names lists.each))
listed bytes text (Some found) short is few are =
    subst (ListsUnits bytes) (sym are.1) (record {
      short = short;
      lines = is ∙ sym (ended_split text);
      some = lines_some text;
      few = few;
      each = both_listable (lines_of text) (lines_lack text) are.0;
    })

pub names_listed : (bytes text : Bytes) (lines : List Bytes) (result : Result (Option (Vec (Bor Bytes) Global)) OutOfMemory) → length bytes ≤ 65536 → bytes ≡ text ++ 10 ∷ [] → lines ≡ lines_of text → length lines ≤ 64
    → IfOk result (AreTexts lines) → IfOk result (IsList bytes)
names_listed bytes text lines (Err e) short is same few are = tt
names_listed bytes text lines (Ok found) short is same few are =
    listed bytes text found short is (subst (λ (ls : List Bytes). length ls ≤ 64) same few) (subst (λ (ls : List Bytes). AreTexts ls found) same are)

pub few_lines : (lines : List (Bor Bytes)) → length lines ≤ 64 → length (map (λ (line : Bor Bytes). line.now) lines) ≤ 64
few_lines lines few = let long = length_now lines in omega arith
