-- The lines of a derivation with what its nodes are about, as text for a terminal or for LaTeX.
use Rattle.std.specs.Prelude.{ℕ, ◌+◌, ◌-◌, ◌*◌, ◌==◌, ◌&&◌, ◌||◌, Bool, true, false, not, nat_lt, max, List, [], ◌∷◌, ◌++◌, length, drop, Option, Some, None, if◌then◌else◌, codes, decimal}
use Rattle.fy_base.specs.Outside.{Bytes}
use Rattle.fy_types.specs.Types.{PlainType}
use Rattle.fy_types.specs.Words.{is_letter, is_digit}
use Rattle.fy_phrase.specs.Tree.{Tree, var, lit, unary, binary, cond, case, lam, app, field, sel, merge, let_in, rec, skip, seq, assign, while_do, forever, new, cells, escape, accept, put, read, mark}
use Rattle.fy_derive.specs.Derivations.{PlainDerivation, PlainDerivations, by_ns, sub, meets, alt, left, right, rule, count}
use Rattle.fy_derive.specs.Rules.{same_type}
use Rattle.fy_short.specs.Cut.{cut}
use Rattle.fy_show.specs.Entries.{Known}
use Rattle.fy_show.specs.Texts.{text_of}
use Rattle.fy_told.specs.ReasonTexts.{type_told}
use Rattle.fy_tree.specs.declared.style.Form.{Form}
use Rattle.fy_tree.specs.declared.style.Form.TheVariants.{Plain, Latex}
use Rattle.fy_tree.specs.Annotated.{Spot, Annotated, raised, node, AnnotatedList, no_annotated, and_annotated, conclusion_of}

-- the names, the form, and how many bytes a line has
pub record Look : Type 0 where
  pub known : Known
  pub form : Form
  pub width : ℕ

-- ---- the names of rules

-- the rule of a form: a row a form
abbrev pub form_rule : Tree → Bytes
form_rule (var k at) = codes "name"
form_rule (lit v at) = codes "literal"
form_rule (unary op p at) = codes "prefix"
form_rule (binary op p q at) = codes "operator"
form_rule (cond b p q at) = codes "if"
form_rule (case e parts at) = codes "part"
form_rule (lam d As b at) = codes "abs"
form_rule (app p q at) = codes "call"
form_rule (field i p at) = codes "field"
form_rule (sel p i at) = codes "select"
form_rule (merge p q at) = codes "merge"
form_rule (let_in d p b at) = codes "let"
form_rule (rec d T b at) = codes "letrec"
form_rule (skip at) = codes "skip"
form_rule (seq p q at) = codes ";"
form_rule (assign p q at) = codes ":="
form_rule (while_do b c at) = codes "while"
form_rule (forever c at) = codes "loop"
form_rule (new d D e b at) = codes "new"
form_rule (cells d e b at) = codes "newintseq"
form_rule (escape d b at) = codes "escape"
form_rule (accept d D b at) = codes "accept"
form_rule (put kind p at) = codes "put"
form_rule (read p at) = codes "read"
form_rule (mark m at) = codes "mark"

-- the rule of a node
abbrev pub node_rule : PlainDerivation → Tree → Bytes
node_rule by_ns p = codes "ns"
node_rule (sub B d) p = codes "sub"
node_rule (meets ds) p = codes "meet"
node_rule (alt i d) p = codes "abs " ++ decimal i
node_rule (left d) p = codes "merge left"
node_rule (right d) p = codes "merge right"
node_rule (rule ds) p = form_rule p

-- whether a node has premises
abbrev pub has_derivations : PlainDerivations → Bool
has_derivations ds = nat_lt 0 (count ds)

abbrev pub has_premises : PlainDerivation → Bool
has_premises by_ns = false
has_premises (sub B d) = true
has_premises (meets ds) = has_derivations ds
has_premises (alt i d) = true
has_premises (left d) = true
has_premises (right d) = true
has_premises (rule ds) = has_derivations ds

-- ---- a line of text

-- a number in six columns
abbrev pub column : Bytes → Bytes
column digits = drop (length digits) (codes "      ") ++ digits

-- what a premise adds, in front of what it is about
abbrev pub in_front : Bytes → Bytes → Bytes
in_front [] sign = []
in_front (b ∷ bs) sign = (b ∷ bs) ++ sign

-- what stands in front of the phrase
abbrev pub head_of : Bytes → ℕ → Bytes → Bytes → Bytes
head_of lead n word added = column (decimal n) ++ codes " " ++ lead ++ word ++ codes "  " ++ in_front added (codes " |- ")

-- what stands behind it: the type, and the types to which it is raised
abbrev pub tail_of : Known → Bytes → PlainType → Bytes
tail_of k above A = codes " : " ++ type_told k A ++ above

-- the phrase in what is left of the line, but in twelve bytes at least
abbrev pub fitted : ℕ → Bytes → Bytes → Bytes → Bytes
fitted width head tail phrase = head ++ cut (max 12 (width - (length head + length tail))) phrase ++ tail ++ 10 ∷ []

abbrev pub line : Look → Bytes → Bytes → Spot → Bytes
line look lead above r =
    fitted look.width (head_of lead r.number (node_rule r.node r.phrase) r.added) (tail_of look.known above r.conclusion) (text_of look.known r.scope r.phrase)

-- ---- LaTeX

abbrev pub is_one_of : Bytes → ℕ → Bool
is_one_of [] b = false
is_one_of (c ∷ cs) b = (b == c) || is_one_of cs b

-- a byte that stands as it is
abbrev pub is_plain : ℕ → Bool
is_plain b = is_letter b || is_digit b || is_one_of (codes " ()+-*/=:;,.!?|<>'\"[]@`") b

-- two of these would become one sign
abbrev pub is_joined : ℕ → ℕ → Bool
is_joined last b = (b == last) && is_one_of (codes "-<>") b

abbrev pub letter : ℕ → Bytes
letter b = if is_plain b then b ∷ [] else codes "\\char" ++ decimal b ++ codes "{}"

-- the bytes of a text for LaTeX, behind one that stands before them
abbrev pub escaped : ℕ → Bytes → Bytes
escaped last [] = []
escaped last (b ∷ bs) = (if is_joined last b then codes "{}" else []) ++ letter b ++ escaped b bs

-- `\fy{..}`
abbrev pub fy : Bytes → Bytes
fy text = codes "\\fy{" ++ escaped 0 text ++ codes "}"

abbrev pub added_fy : Bytes → Bytes
added_fy [] = []
added_fy (b ∷ bs) = fy (b ∷ bs) ++ codes "\\vdash "

-- the line in front of the premises, and the one behind them
abbrev pub first_line : Bytes → Bytes → Bytes
first_line lead word = lead ++ codes "\\inferrule*[right=" ++ word ++ (codes "]{" ++ 10 ∷ [])

abbrev pub last_line : Known → Bytes → Spot → Bytes
last_line k lead r =
    lead ++ codes "}{" ++ added_fy r.added ++ fy (cut 60 (text_of k r.scope r.phrase)) ++ codes ":" ++ fy (type_told k r.conclusion) ++ (codes "}" ++ 10 ∷ [])

-- ---- both forms

-- what a node has in front of its premises, between them, and behind them
abbrev pub opening : Look → Form → Bytes → Bytes → Spot → Bytes
opening look Plain lead above r = line look lead above r
opening look Latex lead above r = first_line lead (node_rule r.node r.phrase)

abbrev pub parting : Form → Bytes → Bytes
parting Plain lead = []
parting Latex lead = lead ++ (codes "\\\\" ++ 10 ∷ [])

abbrev pub closing : Look → Form → Bytes → Spot → Bytes
closing look Plain lead r = []
closing look Latex lead r = last_line look.known lead r

-- what stands for the premises of a node below which no more is shown
abbrev pub left_out : Form → Bytes → ℕ → Bytes
left_out Plain lead n = codes "       " ++ lead ++ (codes ".." ++ 10 ∷ [])
left_out Latex lead n = lead ++ codes "\\fycut{" ++ decimal n ++ (codes "}" ++ 10 ∷ [])

abbrev pub cut_off : Form → Bytes → ℕ → PlainDerivation → Bytes
cut_off form lead n d = if has_premises d then left_out form lead n else []

-- one level farther in
abbrev pub inside : Bytes → Bytes
inside lead = lead ++ codes "  "

-- the node that is looked for, unless it is this one
abbrev pub sought : ℕ → Option ℕ → Option ℕ
sought n None = None
sought n (Some m) = if m == n then None else Some m

-- a subsumption stands on the line of its part, and in LaTeX is a node of its own
abbrev pub raised_lines : Look → Form → Bytes → Bytes → Spot → (Bytes → Bytes → Bytes) → Bytes
raised_lines look Plain lead above r part = part lead (codes " <= " ++ type_told look.known r.conclusion ++ above)
raised_lines look Latex lead above r part =
    first_line lead (node_rule r.node r.phrase) ++ part (inside lead) [] ++ last_line look.known lead r

-- one to the type that the part has already is left out, as it is where another node is looked for
abbrev pub part_lines : Look → Option ℕ → Bytes → Bytes → Spot → PlainType → (Option ℕ → Bytes → Bytes → Bytes) → Bytes
part_lines look (Some m) lead above r A part = part (Some m) lead []
part_lines look None lead above r A part =
    if same_type r.conclusion A then part None lead above else raised_lines look look.form lead above r (part None)

-- a node, or where another one is looked for its premises alone
abbrev pub node_lines : Look → Option ℕ → Bytes → ℕ → Bytes → Spot → (Option ℕ → Bytes → ℕ → Bytes) → Bytes
node_lines look (Some m) lead more above r below = below (Some m) lead more
node_lines look None lead more above r below =
    opening look look.form lead above r
    ++ (if more == 0 then cut_off look.form (inside lead) r.number r.node else below None (inside lead) (more - 1))
    ++ closing look look.form lead r

-- what stands in front of a premise behind others
abbrev pub parted : Look → Option ℕ → Bytes → Bytes
parted look (Some m) lead = []
parted look None lead = parting look.form lead

abbrev mutual
  -- the lines of the tree, down to so many levels below its root; where a node is looked for, those of the tree below that one
  pub lines : Look → Option ℕ → Bytes → ℕ → Bytes → Annotated → Bytes
  lines look seek lead more above (raised r a) =
      part_lines look (sought r.spot.number seek) lead above r.spot (conclusion_of a) (λ again inner behind. lines look again inner more behind a)
  lines look seek lead more above (node r below) =
      node_lines look (sought r.spot.number seek) lead more above r.spot (λ again inner fewer. each_lines look again inner fewer [] below)

  -- those of the premises, each but the first behind what parts them
  pub each_lines : Look → Option ℕ → Bytes → ℕ → Bytes → AnnotatedList → Bytes
  each_lines look seek lead more before no_annotated = []
  each_lines look seek lead more before (and_annotated a below) =
      before ++ lines look seek lead more [] a ++ each_lines look seek lead more (parted look seek lead) below

-- those of a subsumption above its part, and those of another node
abbrev pub above_part : Look → Option ℕ → Bytes → ℕ → Bytes → Spot → Annotated → Bytes
above_part look seek lead more above r a =
    part_lines look seek lead above r (conclusion_of a) (λ again inner behind. lines look again inner more behind a)

abbrev pub above_premises : Look → Option ℕ → Bytes → ℕ → Bytes → Spot → AnnotatedList → Bytes
above_premises look seek lead more above r below =
    node_lines look seek lead more above r (λ again inner fewer. each_lines look again inner fewer [] below)
