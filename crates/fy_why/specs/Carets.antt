-- The part of a phrase that carets stand under.
use Rattle.std.specs.Prelude.{ℕ, ◌+◌, nat_le, if◌then◌else◌, Option, Some, None, List, [], ◌∷◌, ◌++◌, length, replicate, slice_get, codes}
use Rattle.fy_base.specs.Outside.{Bytes}
use Rattle.fy_syntax.specs.Print.{operator_text, prefix_text}
use Rattle.fy_phrase.specs.Tree.{Tree, Trees, no_trees, and_tree, unary, binary, cond, case, app, sel, rec, seq, assign, while_do, forever, new, cells, escape, accept, put, read}
use Rattle.fy_short.specs.DataTexts.{operator_level, left_level, data_word, put_word}
use Rattle.fy_show.specs.declared.manner.Manner.{Manner}
use Rattle.fy_show.specs.declared.manner.Manner.TheVariants.{Cut}
use Rattle.fy_show.specs.Entries.{Scope, Known}
use Rattle.fy_show.specs.Fresh.{bound}
use Rattle.fy_show.specs.Texts.{form, part, item, is_halved, letrec_text, definitions, fields_in, entry_name, sequence_text, parts_text}
use Rattle.fy_causes.specs.Causes.{Cause, not_command, useless, wants, differ, branches, parts, no_procedure, no_domain, no_field, declared, no_acceptor, assigned}

-- the part that fails
abbrev pub failing : Cause → Option ℕ
failing not_command = None
failing useless = None
failing (wants i atoms) = Some i
failing differ = Some 1
failing branches = Some 2
failing (parts i J) = Some i
failing no_procedure = Some 0
failing (no_domain ms) = Some 1
failing (no_field is) = Some 0
failing (declared x) = None
failing no_acceptor = Some 0
failing (assigned ds es) = Some 1

-- parts in at most 40 bytes
abbrev pub at_most_40 : Manner
at_most_40 = Cut 40

-- the text of a phrase with such parts; a `letrec` without what stands behind `in`
abbrev pub shown : Known → Scope → Tree → Bytes
shown k s (rec d T b at) =
    let e = bound k s (rec d T b at) in letrec_text k e T (definitions k (e ∷ s) (fields_in e) at_most_40 b)
shown k s p = (form k s p).1 at_most_40

-- `[p:l]`, and a half of a sequence
abbrev pub cut_part : Known → Scope → ℕ → Tree → Bytes
cut_part k s l p = part at_most_40 l (form k s p)

abbrev pub half : Known → Scope → Tree → Tree → Bytes
half k s whole p = item (is_halved whole) at_most_40 (form k s p)

-- a part with what stands in front of it, each of two, of three, and of the parts of a `seq`
abbrev pub Span : Type 0
Span = Bytes × Bytes

abbrev pub one : Bytes → Bytes → List Span
one front p = (front, p) ∷ []

abbrev pub two : Bytes → Bytes → Bytes → Bytes → List Span
two front p word q = (front, p) ∷ (front ++ p ++ word, q) ∷ []

abbrev pub three : Bytes → Bytes → Bytes → Bytes → Bytes → Bytes → List Span
three front p word q word' r = (front, p) ∷ two (front ++ p ++ word) q word' r

abbrev pub each : Known → Scope → Bytes → Trees → List Span
each k s front no_trees = []
each k s front (and_tree p ps) = (front, cut_part k s 3 p) ∷ each k s (front ++ cut_part k s 3 p ++ codes ", ") ps

-- the direct parts with what stands in front of them, as in the text of the form: a row a form that is blamed for a part
abbrev pub spans : Known → Scope → Tree → List Span
spans k s (unary op p at) = one (prefix_text op) (cut_part k s 9 p)
spans k s (binary op p q at) = two [] (cut_part k s (left_level op) p) (codes " " ++ operator_text op) (cut_part k s (operator_level op + 1) q)
spans k s (cond b p q at) = three (codes "if ") (cut_part k s 3 b) (codes " then ") (cut_part k s 3 p) (codes " else ") (cut_part k s 3 q)
spans k s (case e ps at) =
    (sequence_text ps (parts_text k s at_most_40 [] ps) ++ codes " ", cut_part k s 11 e) ∷ each k s (codes "seq(") ps
spans k s (app p q at) = two [] (cut_part k s 10 p) (codes " ") (cut_part k s 11 q)
spans k s (sel p i at) = one [] (cut_part k s 11 p)
spans k s (seq p q at) = two [] (half k s (seq p q at) p) (codes "; ") (half k s (seq p q at) q)
spans k s (assign p q at) = two [] (cut_part k s 4 p) (codes " := ") (cut_part k s 3 q)
spans k s (while_do b c at) = two (codes "while ") (cut_part k s 3 b) (codes " do ") (cut_part k s 3 c)
spans k s (forever c at) = one (codes "loop ") (cut_part k s 3 c)
spans k s (new d D e b at) =
    let x = bound k s (new d D e b at) in
    two (codes "new " ++ entry_name x ++ codes ": " ++ data_word D ++ codes " := ") (cut_part k s 3 e) (codes " in ") (cut_part k (x ∷ s) 3 b)
spans k s (cells d e b at) =
    let x = bound k s (cells d e b at) in
    two (codes "newintseq ") (cut_part k s 11 e) (codes " (\\" ++ entry_name x ++ codes ": intvarseq. ") (cut_part k (x ∷ s) 3 b)
spans k s (escape d b at) =
    let x = bound k s (escape d b at) in one (codes "escape " ++ entry_name x ++ codes " in ") (cut_part k (x ∷ s) 3 b)
spans k s (accept d D b at) =
    let x = bound k s (accept d D b at) in one (codes "accept " ++ entry_name x ++ codes ": " ++ data_word D ++ codes " in ") (cut_part k (x ∷ s) 3 b)
spans k s (put kind p at) = one (put_word kind ++ codes " ") (cut_part k s 11 p)
spans k s (read p at) = one (codes "read ") (cut_part k s 11 p)
spans k s p = []

-- blanks under what stands in front, and a caret under each byte of the part, unless a part of it is cut off
abbrev pub carets : Bytes → Option Span → List Bytes
carets line None = []
carets line (Some x) =
    if nat_le (length x.0 + length x.1) (length line) then (replicate (length x.0) 32 ++ replicate (length x.1) 94) ∷ [] else []

abbrev pub carets_of : Bytes → List Span → Option ℕ → List Bytes
carets_of line xs None = []
carets_of line xs (Some i) = carets line (slice_get xs i)
