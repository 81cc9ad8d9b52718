-- The lines that tell why judging stops.
use Rattle.std.specs.Prelude.{ℕ, zero, suc, ◌+◌, ◌-◌, ◌==◌, Bool, true, false, not, ◌&&◌, nat_lt, List, [], ◌∷◌, ◌++◌, length, map, take, replicate, Option, Some, None, option_map, unwrap_or, if◌then◌else◌, codes, decimal}
use Rattle.std.specs.List.{list_any}
use Rattle.fy_base.specs.Outside.{Bytes}
use Rattle.fy_base.specs.declared.data.Place.{Place}
use Rattle.fy_types.specs.declared.types.Atom.TheVariants.{Comm}
use Rattle.fy_types.specs.Types.{PlainType, PlainTypes, ns, atom}
use Rattle.fy_types.specs.Print.{atom_text, name_text}
use Rattle.fy_phrase.specs.Tree.{Tree, place_of, var, lit, unary, binary, cond, case, lam, app, field, sel, merge, let_in, rec, skip, seq, assign, while_do, forever, new, cells, escape, accept, put, read, mark}
use Rattle.fy_derive.specs.Atoms.{data_atom, acceptor_atom, datum_atom, operand_atom, unary_atom, binary_atom, put_atom}
use Rattle.fy_derive.specs.Derivations.{PlainDerivation, PlainDerivations, by_ns, sub, meets, alt, left, right, rule, no_derivations, and_derivation, count, nodes}
use Rattle.fy_derive.specs.Kinds.{Kind, of_call, of_field, of_assignment, kind_of}
use Rattle.fy_derive.specs.Rules.{nothing, first, given, Premise, premises}
use Rattle.fy_derive.specs.Rules as rules
use Rattle.fy_derive.specs.Placed.{body_of, left_of, right_of}
use Rattle.fy_derive.specs.Subsumption.{is_below}
use Rattle.fy_derive.specs.Tables.{type_at}
use Rattle.fy_short.specs.Cut.{cut}
use Rattle.fy_short.specs.ShortTypes.{short_type}
use Rattle.fy_show.specs.declared.binders.Binder.{Binder}
use Rattle.fy_show.specs.Entries.{Entry, unnamed, one, all, Scope, Known, has_name}
use Rattle.fy_show.specs.Fresh.{uses, fields_of, bound}
use Rattle.fy_show.specs.Texts.{text_of, defined_name}
use Rattle.fy_reasons.specs.Expected.{Asked, anything, one_of, an_arrow, a_field, taken_by, first_wrong, advised, lacking}
use Rattle.fy_reasons.specs.Reasons.{Reason, other_form, other_count, no_alternative, few_parts, not_below, taken_right, other_types, no_command, Stop}

-- a line of a text about a node
abbrev pub told : Bytes → Bytes
told text = codes "  " ++ text ++ 10 ∷ []

abbrev pub quoted : Bytes → Bytes
quoted text = codes "`" ++ text ++ codes "`"

abbrev pub place_text : Place → Bytes
place_text at = decimal at.line ++ codes ":" ++ decimal at.col

-- a type, and the phrase, in at most 60 bytes
abbrev pub type_told : Known → PlainType → Bytes
type_told k A = cut 60 (short_type k.names A)

abbrev pub phrase_told : Known → Scope → Tree → Bytes
phrase_told k s p = quoted (cut 60 (text_of k s p))

-- texts with ` or ` before the last and `, ` before others
abbrev pub separator_text : ℕ → Bytes
separator_text behind = if behind == 0 then [] else (if behind == 1 then codes " or " else codes ", ")

abbrev pub or_text : List Bytes → Bytes
or_text [] = []
or_text (x ∷ more) = x ++ separator_text (length more) ++ or_text more

-- texts, the first behind a lead and each other behind `, `
abbrev pub listed : Bytes → List Bytes → Bytes
listed lead [] = []
listed lead (x ∷ more) = lead ++ x ++ listed (codes ", ") more

-- the kind of a node, with its number
abbrev pub node_text : PlainDerivation → Bytes
node_text by_ns = codes "ns"
node_text (sub B d) = codes "sub"
node_text (meets ds) = codes "meet " ++ decimal (count ds)
node_text (alt i d) = codes "alt " ++ decimal i
node_text (left d) = codes "left"
node_text (right d) = codes "right"
node_text (rule ds) = codes "rule " ++ decimal (count ds)

-- what a phrase is: a row a form
abbrev pub form_text : Tree → Bytes
form_text (var n at) = codes "a name"
form_text (lit v at) = codes "a literal"
form_text (unary op p at) = codes "a prefix"
form_text (binary op p q at) = codes "an operator"
form_text (cond b p q at) = codes "a conditional"
form_text (case e parts at) = codes "a part of a sequence"
form_text (lam d As b at) = codes "an abstraction"
form_text (app p q at) = codes "a call"
form_text (field i p at) = codes "a field"
form_text (sel p i at) = codes "a selection"
form_text (merge p q at) = codes "a merge"
form_text (let_in d p b at) = codes "a `let`"
form_text (rec d T b at) = codes "a `letrec`"
form_text (skip at) = codes "`skip`"
form_text (seq p q at) = codes "a sequence"
form_text (assign p q at) = codes "an assignment"
form_text (while_do b c at) = codes "a `while`"
form_text (forever c at) = codes "a `loop`"
form_text (new d D e b at) = codes "a `new`"
form_text (cells d e b at) = codes "a new sequence"
form_text (escape d b at) = codes "an `escape`"
form_text (accept d D b at) = codes "an `accept`"
form_text (put kind p at) = codes "an output"
form_text (read p at) = codes "an input"
form_text (mark m at) = codes "a mark"

-- `from int and int follows ..`: two data of one type
abbrev pub operands_text : List Bytes → Bytes
operands_text [] = []
operands_text (D ∷ []) = D ++ codes " and " ++ D
operands_text (D ∷ E ∷ more) = codes "A and A, which is " ++ or_text (D ∷ E ∷ more) ++ codes ","

abbrev pub names_of : List PlainType → List Bytes
names_of = map (short_type [])

-- from what a rule concludes what: a row a form
abbrev pub rule_text : Tree → Bytes
rule_text (var n at) = codes "from nothing follows the type of the name"
rule_text (lit v at) = codes "from nothing follows " ++ atom_text (datum_atom v)
rule_text (unary op p at) = codes "from " ++ atom_text (operand_atom op) ++ codes " follows " ++ atom_text (unary_atom op)
rule_text (binary op p q at) = codes "from " ++ operands_text (names_of (taken_by op)) ++ codes " follows " ++ atom_text (binary_atom op)
rule_text (cond b p q at) = codes "from bool, A and A follows A"
rule_text (case e parts at) = codes "from int and A for each part follows A"
rule_text (lam d As b at) = []
rule_text (app p q at) = codes "from A -> C and A follows C"
rule_text (field i p at) = codes "from A follows i: A"
rule_text (sel p i at) = codes "from i: A follows A"
rule_text (merge p q at) = []
rule_text (let_in d p b at) = codes "from A and C follows C, where the name has A"
rule_text (rec d T b at) = codes "from the declared type follows that type"
rule_text (skip at) = codes "from nothing follows comm"
rule_text (seq p q at) = codes "from comm and C follows C, which is comm or compl"
rule_text (assign p q at) = codes "from intacc, boolacc or characc and int, bool or char follows comm"
rule_text (while_do b c at) = codes "from bool and comm follows comm"
rule_text (forever c at) = codes "from comm follows compl"
rule_text (new d D e b at) = codes "from " ++ atom_text (data_atom D) ++ codes " and C follows C, which is comm or compl"
rule_text (cells d e b at) = codes "from int and C follows C, which is comm or compl"
rule_text (escape d b at) = codes "from comm follows comm"
rule_text (accept d D b at) = codes "from comm follows " ++ atom_text (acceptor_atom D)
rule_text (put kind p at) = codes "from " ++ atom_text (put_atom kind) ++ codes " follows comm"
rule_text (read p at) = codes "from intacc follows comm"
rule_text (mark m at) = []

-- the node that a phrase wants
abbrev pub types_count : PlainTypes → ℕ
types_count PlainTypes.no_types = 0
types_count (PlainTypes.and_type A As) = 1 + types_count As

abbrev pub rule_wanted : Option ℕ → Bytes
rule_wanted None = []
rule_wanted (Some n) = codes "`rule " ++ decimal n ++ codes "`"

abbrev pub alternative_wanted : Tree → Bytes
alternative_wanted (lam d As b at) = codes "`alt I`, I from 0 to " ++ decimal (types_count As - 1)
alternative_wanted (merge p q at) = codes "`left` or `right`"
alternative_wanted p = []

abbrev pub premise_count : Tree → Option ℕ
premise_count p = option_map (λ Ps. length Ps) (premises p)

abbrev pub wants_text : Tree → Bytes
wants_text p = alternative_wanted p ++ rule_wanted (premise_count p)

-- what a phrase is, and the node that it wants
abbrev pub form_line : Tree → Bytes
form_line p = codes "This is " ++ form_text p ++ codes ", which wants " ++ wants_text p

-- the alternatives of an abstraction, with their indices
abbrev pub alternative_texts : Known → ℕ → PlainTypes → List Bytes
alternative_texts k i PlainTypes.no_types = []
alternative_texts k i (PlainTypes.and_type A As) = (decimal i ++ codes ": " ++ type_told k A) ∷ alternative_texts k (i + 1) As

abbrev pub alternatives_of : Tree → PlainTypes
alternatives_of (lam d As b at) = As
alternatives_of p = PlainTypes.no_types

-- what the right operand of a merge takes
abbrev pub kind_text : Known → Option Kind → Bytes
kind_text k None = []
kind_text k (Some of_call) = codes "a call"
kind_text k (Some (of_field i)) = codes "the field " ++ name_text k.names i
kind_text k (Some of_assignment) = codes "an assignment"

-- what A lacks of B
abbrev pub lacking_text : Known → Option PlainType → Bytes
lacking_text k None = []
lacking_text k (Some C) = codes ": it has no " ++ type_told k C

abbrev pub not_below_line : Known → PlainType → PlainType → Bytes
not_below_line k A B = told (type_told k A ++ codes " isn't below " ++ type_told k B ++ lacking_text k (lacking A B) ++ codes ".")

-- the numbers of a node's premises
abbrev pub premise_numbers : ℕ → PlainDerivations → List ℕ
premise_numbers n no_derivations = []
premise_numbers n (and_derivation d ds) = n ∷ premise_numbers (n + nodes d) ds

abbrev pub premises_of : PlainDerivation → PlainDerivations
premises_of (rule ds) = ds
premises_of d = no_derivations

-- what premises conclude, from the i-th on, which are counted from 1
abbrev pub premise_lines : Known → ℕ → List ℕ → List PlainType → Bytes
premise_lines k i [] As = []
premise_lines k i (n ∷ more) [] = []
premise_lines k i (n ∷ more) (A ∷ As) =
    told (codes "premise " ++ decimal i ++ codes " (node " ++ decimal n ++ codes ") concludes " ++ type_told k A) ++ premise_lines k (i + 1) more As

-- what is asked of a premise
abbrev pub asked_text : Known → Asked → Bytes
asked_text k anything = []
asked_text k (one_of Bs) = or_text (map (type_told k) Bs)
asked_text k an_arrow = codes "an arrow"
asked_text k (a_field i) = codes "the field " ++ name_text k.names i

-- a subsumption that makes it so, or why the one type isn't above
abbrev pub advice_text : Known → ℕ → Asked → PlainType → Option PlainType → Bytes
advice_text k n a A (Some B) = told (codes "`sub [" ++ type_told k B ++ codes "]` above node " ++ decimal n ++ codes " makes it so.")
advice_text k n (one_of (B ∷ [])) A None = not_below_line k A B
advice_text k n a A None = []

-- the number with the index
abbrev pub number_at : List ℕ → ℕ → ℕ
number_at [] i = 0
number_at (n ∷ more) zero = n
number_at (n ∷ more) (suc i) = number_at more i

abbrev pub asked_line : Known → ℕ → Asked → Bytes
asked_line k n a = told (codes "Premise " ++ decimal n ++ codes " has to conclude " ++ asked_text k a ++ codes ", to the letter.")

abbrev pub wrong_lines : Known → List ℕ → List PlainType → Option (ℕ × Asked) → Bytes
wrong_lines k numbers As None = []
wrong_lines k numbers As (Some w) =
    asked_line k (w.0 + 1) w.1 ++ advice_text k (number_at numbers w.0) w.1 (type_at As w.0) (advised w.1 (type_at As w.0) (type_at As (w.0 + 1)))

abbrev pub raised_to : PlainDerivation → PlainType
raised_to (sub B d) = B
raised_to d = ns

abbrev pub alternatives_line : Known → Tree → Bytes
alternatives_line k p = told (codes "Its alternatives are " ++ listed [] (alternative_texts k 0 (alternatives_of p)) ++ codes ".")

abbrev pub left_line : Known → PlainType → Tree → Bytes
left_line k A q = told (codes "The left operand concludes " ++ type_told k A ++ codes ", which begins with " ++ kind_text k (kind_of q) ++ codes ".")

abbrev pub right_line : Known → Scope → Tree → Bytes
right_line k s q = codes "  What begins so is taken by the right operand " ++ phrase_told k s q ++ codes ".\n"

abbrev pub taken_right_lines : Known → Scope → PlainType → Tree → Bytes
taken_right_lines k s A p = left_line k A (right_of p) ++ right_line k s (right_of p)

-- of at most six premises what they conclude, and what is asked of the first that concludes something else
abbrev pub other_types_lines : Known → Stop → List PlainType → Bytes
other_types_lines k s As =
    told (codes "The rule of " ++ form_text s.phrase ++ codes ": " ++ rule_text s.phrase ++ codes ".")
    ++ premise_lines k 1 (take 6 (premise_numbers (s.number + 1) (premises_of s.node))) As
    ++ wrong_lines k (premise_numbers (s.number + 1) (premises_of s.node)) As (first_wrong s.phrase As 0 As)

abbrev pub whole_line : Known → PlainType → Bytes
whole_line k A = told (codes "The whole concludes " ++ type_told k A ++ codes ", and a program is a comm, to the letter.")

abbrev pub raised_line : PlainType → Bytes
raised_line A = if is_below A (atom Comm) then told (codes "`sub [comm]` above it makes it so.") else []

abbrev pub no_command_lines : Known → PlainType → Bytes
no_command_lines k A = whole_line k A ++ raised_line A

-- the sentences of a reason: a row a reason
abbrev pub reason_lines : Known → Scope → Stop → Reason → Bytes
reason_lines k names s other_form = told (form_line s.phrase ++ codes ".")
reason_lines k names s other_count = told (form_line s.phrase ++ codes ": " ++ rule_text s.phrase ++ codes ".")
reason_lines k names s no_alternative = alternatives_line k s.phrase
reason_lines k names s few_parts = told (codes "A meet has two parts or more.")
reason_lines k names s (not_below A) = not_below_line k A (raised_to s.node)
reason_lines k names s (taken_right A) = taken_right_lines k names A s.phrase
reason_lines k names s (other_types As) = other_types_lines k s As
reason_lines k names s (no_command A) = no_command_lines k A

-- a variable that the phrase uses, with its type; of a `letrec` its fields
abbrev pub variable_text : Known → Entry → PlainType → Bytes
variable_text k unnamed A = []
variable_text k (one x) A = x ++ codes ": " ++ type_told k A
variable_text k (all fs) A = listed [] (map (λ f. defined_name fs f.0 ++ codes ": " ++ type_told k f.1) (fields_of A))

-- whether the phrase uses the variable by its name
abbrev pub is_mentioned : Known → Scope → Tree → Entry → Bool
is_mentioned k s p unnamed = false
is_mentioned k s p (one x) = uses k x s p
is_mentioned k s p (all fs) = list_any (λ f. uses k f.1 s p) fs

-- whether an entry farther in has the variable's name
abbrev pub is_hidden : List Entry → Entry → Bool
is_hidden inner unnamed = true
is_hidden inner (one x) = list_any (has_name x) inner
is_hidden inner (all fs) = list_any (λ f. list_any (has_name f.1) inner) fs

-- the variables that the phrase uses, the innermost first, where these are farther in
abbrev pub variable_texts : Known → Scope → Tree → List Entry → Scope → List PlainType → List Bytes
variable_texts k s p inner [] G = []
variable_texts k s p inner (e ∷ outer) [] = []
variable_texts k s p inner (e ∷ outer) (A ∷ G) =
    (if is_mentioned k s p e && not (is_hidden inner e) then variable_text k e A ∷ [] else []) ++ variable_texts k s p (inner ++ e ∷ []) outer G

-- `where x: A, ..`, of at most six
abbrev pub where_line : List Bytes → Bytes
where_line [] = []
where_line (x ∷ more) = told (codes "where " ++ listed [] (take 6 (x ∷ more)))

-- the names in scope of a premise, which may stand under the phrase's binder
abbrev pub is_bound : rules.Binder → Bool
is_bound nothing = false
is_bound first = true
is_bound (given T) = true

abbrev pub names_under : Known → Scope → Tree → Bool → Scope
names_under k s p inside = if inside then bound k s p ∷ s else s

abbrev pub premises_at : Tree → List Premise
premises_at p = unwrap_or (premises p) []

-- what each is about, and whether that is under the phrase's binder
abbrev pub about : Premise → Bool × Tree
about P = (is_bound P.0, P.1)

abbrev pub premise_parts : Tree → List (Bool × Tree)
premise_parts p = map about (premises_at p)

-- so many premises about the whole phrase
abbrev pub whole_premises : ℕ → Tree → List Premise
whole_premises n p = replicate n (nothing, p)

abbrev mutual
  -- the names in scope at the node m, where those at the node n, the derivation's first, are s
  pub names_at : Known → ℕ → PlainDerivation → ℕ → Scope → Tree → Scope
  names_at k m by_ns n s p = s
  names_at k m (sub B d) n s p = if m == n then s else names_at k m d (n + 1) s p
  names_at k m (meets ds) n s p = if m == n then s else names_in k m ds (n + 1) s p (whole_premises (count ds) p)
  names_at k m (alt i d) n s p = if m == n then s else names_at k m d (n + 1) (bound k s p ∷ s) (body_of p)
  names_at k m (left d) n s p = if m == n then s else names_at k m d (n + 1) s (left_of p)
  names_at k m (right d) n s p = if m == n then s else names_at k m d (n + 1) s (right_of p)
  names_at k m (rule ds) n s p = if m == n then s else names_in k m ds (n + 1) s p (premises_at p)

  -- in that of the premises which has the node
  pub names_in : Known → ℕ → PlainDerivations → ℕ → Scope → Tree → List Premise → Scope
  names_in k m no_derivations n s p Ps = s
  names_in k m (and_derivation d ds) n s p [] = s
  names_in k m (and_derivation d ds) n s p (P ∷ Ps) =
      if nat_lt m (n + nodes d) then names_at k m d n (names_under k s p (is_bound P.0)) P.1 else names_in k m ds (n + nodes d) s p Ps

-- the lines below the note `derivation node N`, with the names in scope at the node
abbrev pub stop_lines : Known → Scope → Stop → Bytes
stop_lines k names s =
    told (quoted (node_text s.node) ++ codes " for " ++ phrase_told k names s.phrase ++ codes " at " ++ place_text (place_of s.phrase))
    ++ reason_lines k names s s.reason ++ where_line (variable_texts k names s.phrase [] names s.types)

-- what is known of names, by the list of names and the binders of the source
abbrev pub source_names : List Bytes → List Binder → Known
source_names names binders = record { names = names; binders = binders; folded = λ p. None; marks = λ m. [] }

-- the lines of a refusal of a program's derivation, and `accepted` where it is none
abbrev pub told_of : Known → PlainDerivation → Tree → Option Stop → Bytes
told_of k d p None = codes "accepted" ++ 10 ∷ []
told_of k d p (Some s) = stop_lines k (names_at k s.number d 0 [] p) s
