-- The texts of phrases: a row a form. `[q:l]` in the comments is the part q, in parentheses where its level is below l.
use Rattle.std.specs.Prelude.{ℕ, suc, ◌+◌, ◌/◌, pos, negsuc, Bool, true, false, ◌&&◌, ◌==◌, nat_le, nat_lt, if◌then◌else◌, Option, Some, None, option_map, List, [], ◌∷◌, ◌++◌, length, unwrap_or, codes}
use Rattle.std.specs.Ordering.{int_eq}
use Rattle.fy_base.specs.Outside.{Bytes}
use Rattle.fy_base.specs.declared.data.Datum.TheVariants as datum
use Rattle.fy_base.specs.declared.data.UnOp.TheVariants as unary_op
use Rattle.fy_types.specs.Types.{PlainType, PlainTypes, no_types, and_type}
use Rattle.fy_types.specs.Print.{name_text}
use Rattle.fy_syntax.specs.Print.{operator_text, prefix_text}
use Rattle.fy_phrase.specs.Tree.{Tree, Trees, var, lit, unary, binary, cond, case, lam, app, field, sel, merge, let_in, rec, skip, seq, assign, while_do, forever, new, cells, escape, accept, put, read, mark, no_trees, and_tree}
use Rattle.fy_phrase.specs.Sizes.{greatest_u64}
use Rattle.fy_show.specs.declared.manner.Manner.{Manner}
use Rattle.fy_show.specs.declared.manner.Manner.TheVariants.{Whole, Bare, Short, Cut}
use Rattle.fy_short.specs.Cut.{cut}
use Rattle.fy_short.specs.DataTexts.{datum_level, datum_text, string_text, operator_level, left_level, data_word, put_word}
use Rattle.fy_short.specs.ShortTypes.{is_int, short_type, alternatives_text}
use Rattle.fy_show.specs.Entries.{Fields, Entry, unnamed, one, all, Scope, Known, entry_at, field_name}
use Rattle.fy_show.specs.Fresh.{record_at, fields_of, all_fresh, bound}

-- a level of the grammar, and a text for each manner of showing the parts
abbrev pub Shown : Type 0
Shown = ℕ × (Manner → Bytes)

abbrev pub enclosed : ℕ → ℕ → Bytes → Bytes
enclosed l level text = if nat_lt level l then codes "(" ++ text ++ codes ")" else text

-- the text where it has at most n bytes, else with `..` for each part where that has, else `..`
abbrev pub short : ℕ → ℕ → Shown → Bytes
short n l q =
    if nat_le (length (q.1 Whole)) n then enclosed l q.0 (q.1 Whole)
    else (if nat_le (length (q.1 Bare)) n then enclosed l q.0 (q.1 Bare) else codes "..")

-- `[q:l]`: a part whole, as `..`, short, or cut
abbrev pub part : Manner → ℕ → Shown → Bytes
part Whole l q = enclosed l q.0 (q.1 Whole)
part Bare l q = codes ".."
part (Short n) l q = short n l q
part (Cut n) l q = enclosed l q.0 (cut n (q.1 Whole))

-- the number of items of a sequence, if its parts are taken apart too
abbrev pub item_count : Tree → ℕ
item_count (seq p q at) = item_count p + item_count q
item_count p = 1

-- whether the first has n / 2 of n items, by counts of 64 bits
abbrev pub are_halves : Tree → Tree → Bool
are_halves p q = greatest_u64 (item_count p) == greatest_u64 (item_count p + item_count q) / 2

-- whether the sequence is the one into whose halves that many items are parted
abbrev pub is_halved : Tree → Bool
is_halved (seq p q at) = are_halves p q && (is_halved p && is_halved q)
is_halved p = true

-- a half of such a sequence goes on with its items
abbrev pub item : Bool → Manner → Shown → Bytes
item halves m q = if halves && (q.0 == 2) then q.1 m else part m 3 q

-- the name that a binder is shown with
abbrev pub entry_name : Entry → Bytes
entry_name unnamed = []
entry_name (one x) = x
entry_name (all fs) = []

-- a record's fields, each as itself
abbrev pub fields_text : Bytes → Fields → Bytes
fields_text lead [] = []
fields_text lead (f ∷ fs) = lead ++ f.1 ++ codes " == " ++ f.1 ++ fields_text (codes ", ") fs

-- a variable: its name, and for a record its fields
abbrev pub entry_shown : Entry → Shown
entry_shown unnamed = (12, λ m. codes "n")
entry_shown (one x) = (12, λ m. x)
entry_shown (all []) = (12, λ m. [])
entry_shown (all (f ∷ [])) = (3, λ m. fields_text [] (f ∷ []))
entry_shown (all (f ∷ g ∷ fs)) = (12, λ m. codes "(" ++ fields_text [] (f ∷ g ∷ fs) ++ codes ")")

-- what a folded phrase is shown as
abbrev pub folded : Option Entry → Shown → Shown
folded None row = row
folded (Some e) row = entry_shown e

-- a field of a record with a name is shown by the field's name
abbrev pub named_field : Option Bytes → Shown → Shown
named_field None row = row
named_field (Some x) row = (12, λ m. x)

abbrev pub selected : ℕ → Option Fields → Shown → Shown
selected i None row = row
selected i (Some fs) row = named_field (field_name fs i) row

-- the fields of a record that is bound, with their names
abbrev pub fields_in : Entry → Fields
fields_in unnamed = []
fields_in (one x) = []
fields_in (all fs) = fs

-- the name of a field that is defined
abbrev pub defined_name : Fields → ℕ → Bytes
defined_name fs i = unwrap_or (field_name fs i) []

-- `f: A, g: B, ..`, the first behind a lead
abbrev pub declared_text : Known → Fields → Bytes → List (ℕ × PlainType) → Bytes
declared_text k fs lead [] = []
declared_text k fs lead (f ∷ more) = lead ++ defined_name fs f.0 ++ codes ": " ++ short_type k.names f.1 ++ declared_text k fs (codes ", ") more

-- `letrec f: A, .. where f == p, ..`
abbrev pub letrec_text : Known → Entry → PlainType → Bytes → Bytes
letrec_text k e T definitions = codes "letrec " ++ declared_text k (fields_in e) [] (fields_of T) ++ codes " where " ++ definitions

-- the parts of a sequence or of a string, which the abstraction of `seq` picks by its index
abbrev pub is_index : Tree → Bool
is_index (var n at) = n == 0
is_index p = false

abbrev pub parts_at_index : Tree → Option Trees
parts_at_index (case e parts at) = if is_index e then Some parts else None
parts_at_index p = None

abbrev pub is_int_alone : PlainTypes → Bool
is_int_alone (and_type A no_types) = is_int A
is_int_alone As = false

abbrev pub parts_by_index : Tree → Option Trees
parts_by_index (lam d As b at) = if is_int_alone As then parts_at_index b else None
parts_by_index p = None

abbrev pub parts_count : Trees → ℕ
parts_count no_trees = 0
parts_count (and_tree p more) = suc (parts_count more)

-- the one part of the empty string, `chr` of the literal -1
abbrev pub is_minus_one : Tree → Bool
is_minus_one (lit (datum.Int z) at) = int_eq z (negsuc 0)
is_minus_one p = false

abbrev pub is_no_letter : Tree → Bool
is_no_letter (unary unary_op.Chr p at) = is_minus_one p
is_no_letter p = false

abbrev pub is_empty_string : Trees → Bool
is_empty_string (and_tree p no_trees) = is_no_letter p
is_empty_string parts = false

-- the field `len` of a sequence has its number of parts, and that of the empty string 0
abbrev pub sequence_length : Trees → ℕ
sequence_length parts = if is_empty_string parts then 0 else parts_count parts

abbrev pub is_length : Tree → Option Trees → Bool
is_length (lit (datum.Int z) at) (Some parts) = int_eq z (pos (sequence_length parts))
is_length p parts = false

-- whether a merge is what `seq(..)` or a string means: the parts by their index, and their number as the field `len`, which is name 0
abbrev pub is_sequence : Tree → Tree → Bool
is_sequence p (field i q at) = (i == 0) && is_length q (parts_by_index p)
is_sequence p q = false

-- the characters that parts are, if all are
abbrev pub in_front : Option Bytes → ℕ → Option Bytes
in_front None c = None
in_front (Some bytes) c = Some (c ∷ bytes)

abbrev pub letters : Trees → Option Bytes
letters no_trees = Some []
letters (and_tree (lit (datum.Char c) at) more) = in_front (letters more) c
letters (and_tree p more) = None

-- `".."` of characters, and else `seq(..)` of the texts of the parts
abbrev pub sequence_text : Trees → Bytes → Bytes
sequence_text parts inside =
    if is_empty_string parts then string_text [] else unwrap_or (option_map string_text (letters parts)) (codes "seq(" ++ inside ++ codes ")")

abbrev mutual
  -- what a phrase in the scope is shown as
  pub form : Known → Scope → Tree → Shown
  -- the name of the variable
  form k s (var n at) = entry_shown (entry_at s n)
  -- the datum
  form k s (lit v at) = (datum_level v, λ m. datum_text v)
  -- `op [p:9]`
  form k s (unary op p at) = (9, λ m. prefix_text op ++ part m 9 (form k s p))
  -- `[p:l] op [q:l+1]`, and of a relation `[p:7] op [q:7]`
  form k s (binary op p q at) =
      (operator_level op, λ m. part m (left_level op) (form k s p) ++ codes " " ++ operator_text op ++ part m (operator_level op + 1) (form k s q))
  -- `if [b:3] then [p:3] else [q:3]`
  form k s (cond b p q at) =
      (3, λ m. codes "if " ++ part m 3 (form k s b) ++ codes " then " ++ part m 3 (form k s p) ++ codes " else " ++ part m 3 (form k s q))
  -- `seq(..) [e:11]`: the call of which it comes
  form k s (case e parts at) = (10, λ m. sequence_text parts (parts_text k s m [] parts) ++ codes " " ++ part m 11 (form k s e))
  -- `\x: A | B. [b:3]`
  form k s (lam d As b at) =
      let e = bound k s (lam d As b at) in
      folded (k.folded (lam d As b at))
      (3, λ m. codes "\\" ++ entry_name e ++ codes ": " ++ alternatives_text k.names [] As ++ codes ". " ++ part m 3 (form k (e ∷ s) b))
  -- `[p:10] [q:11]`
  form k s (app p q at) = (10, λ m. part m 10 (form k s p) ++ codes " " ++ part m 11 (form k s q))
  -- `i == [p:3]`
  form k s (field i p at) = (3, λ m. name_text k.names i ++ codes " == " ++ part m 3 (form k s p))
  -- `[p:11].i`
  form k s (sel p i at) = selected i (record_at k s p) (11, λ m. part m 11 (form k s p) ++ codes "." ++ name_text k.names i)
  -- `seq(..)` or `".."` where it means one, and else `[p:1], [q:2]`
  form k s (merge p q at) =
      folded (k.folded (merge p q at))
      (if is_sequence p q then (12, λ m. called k s m p) else (1, λ m. part m 1 (form k s p) ++ codes ", " ++ part m 2 (form k s q)))
  -- `let x == [p:3] in [b:3]`, and of a `rec` `letrec f: A, .. where f == [p:3], .. in [b:3]`
  form k s (let_in d p b at) =
      let e = bound k s (let_in d p b at) in
      (3, λ m. opening k s e m (form k s p) p ++ codes " in " ++ part m 3 (form k (e ∷ s) b))
  -- `letrec f: A, .. where f == [p:3], .. in (f == f, ..)`
  form k s (rec d T b at) =
      let e = bound k s (rec d T b at) in
      folded (k.folded (rec d T b at))
      (3, λ m. letrec_text k e T (definitions k (e ∷ s) (fields_in e) m b) ++ codes " in " ++ (entry_shown e).1 Whole)
  form k s (skip at) = (12, λ m. codes "skip")
  -- `[p:3]; [q:3]; ..`
  form k s (seq p q at) =
      let halves = is_halved (seq p q at) in
      (2, λ m. item halves m (form k s p) ++ codes "; " ++ item halves m (form k s q))
  -- `[p:4] := [q:3]`
  form k s (assign p q at) = (3, λ m. part m 4 (form k s p) ++ codes " := " ++ part m 3 (form k s q))
  -- `while [b:3] do [c:3]`
  form k s (while_do b c at) = (3, λ m. codes "while " ++ part m 3 (form k s b) ++ codes " do " ++ part m 3 (form k s c))
  -- `loop [c:3]`
  form k s (forever c at) = (3, λ m. codes "loop " ++ part m 3 (form k s c))
  -- `new x: D := [e:3] in [b:3]`
  form k s (new d D e b at) =
      let x = bound k s (new d D e b at) in
      (3, λ m. codes "new " ++ entry_name x ++ codes ": " ++ data_word D ++ codes " := " ++ part m 3 (form k s e) ++ codes " in " ++ part m 3 (form k (x ∷ s) b))
  -- `newintseq [e:11] (\x: intvarseq. [b:3])`: the call of which it comes
  form k s (cells d e b at) =
      let x = bound k s (cells d e b at) in
      (10, λ m. codes "newintseq " ++ part m 11 (form k s e) ++ codes " (\\" ++ entry_name x ++ codes ": intvarseq. " ++ part m 3 (form k (x ∷ s) b) ++ codes ")")
  -- `escape x in [b:3]`
  form k s (escape d b at) =
      let x = bound k s (escape d b at) in (3, λ m. codes "escape " ++ entry_name x ++ codes " in " ++ part m 3 (form k (x ∷ s) b))
  -- `accept x: D in [b:3]`
  form k s (accept d D b at) =
      let x = bound k s (accept d D b at) in
      (3, λ m. codes "accept " ++ entry_name x ++ codes ": " ++ data_word D ++ codes " in " ++ part m 3 (form k (x ∷ s) b))
  -- `putint [p:11]`, `putchar ..`, `putbool ..`: the calls of which they come
  form k s (put kind p at) = (10, λ m. put_word kind ++ codes " " ++ part m 11 (form k s p))
  -- `read [p:11]`
  form k s (read p at) = (10, λ m. codes "read " ++ part m 11 (form k s p))
  -- the name of the cell or the jump
  form k s (mark n at) = (12, λ m. k.marks n)

  -- what stands in front of `in`, where the definition is shown as q
  pub opening : Known → Scope → Entry → Manner → Shown → Tree → Bytes
  opening k s e m q (rec d T p at) = letrec_text k e T (definitions k (e ∷ s) (fields_in e) m p)
  opening k s e m q p = codes "let " ++ entry_name e ++ codes " == " ++ part m 3 q

  -- `f == [p:3], ..`: the definitions of a `letrec`, a merge of fields
  pub definitions : Known → Scope → Fields → Manner → Tree → Bytes
  definitions k s fs m (merge p q at) = definitions k s fs m p ++ codes ", " ++ definitions k s fs m q
  definitions k s fs m (field i p at) = defined_name fs i ++ codes " == " ++ part m 3 (form k s p)
  definitions k s fs m p = []

  -- the call that the abstraction of a sequence comes from; its index has no use but to pick
  pub called : Known → Scope → Manner → Tree → Bytes
  called k s m (lam d As b at) = called k (one (codes "n") ∷ s) m b
  called k s m (case e parts at) = sequence_text parts (parts_text k s m [] parts)
  called k s m p = []

  -- `[p:3], [q:3], ..`: the parts of `seq`, the first behind a lead
  pub parts_text : Known → Scope → Manner → Bytes → Trees → Bytes
  parts_text k s m lead no_trees = []
  parts_text k s m lead (and_tree p more) = lead ++ part m 3 (form k s p) ++ parts_text k s m (codes ", ") more

-- the text of a `rec` of that type with that body
abbrev pub rec_text : Known → Scope → Manner → PlainType → Tree → Bytes
rec_text k s m T b =
    let e = all_fresh k s T (b ∷ []) in
    letrec_text k e T (definitions k (e ∷ s) (fields_in e) m b) ++ codes " in " ++ (entry_shown e).1 Whole

-- the whole text of a phrase
abbrev pub text_of : Known → Scope → Tree → Bytes
text_of k s p = (form k s p).1 Whole
