-- What the words ask for.
use Rattle.std.specs.Prelude.{ℕ, ◌<◌, ◌≤◌, ◌+◌, ◌-◌, ◌*◌, ◌^◌, ◌&&◌, ◌||◌, not, true, false, nat_le, nat_eq, Bool, if◌then◌else◌, List, [], ◌∷◌, ◌++◌, length, drop, unwrap_or, option_and_then, Some, None, codes}
use Rattle.std.specs.Fmt.{decimal}
use Rattle.std.specs.List.{starts_with}
use Rattle.std.specs.Option.{option_map, option_to_list}
use Rattle.std.specs.declared.option.Option.{Option}
use Rattle.std.specs.Str.{bytes_eq}
use Rattle.fy_base.specs.Outside.{Bytes}
use Rattle.fy_words.specs.declared.command.Command.{Command}
use Rattle.fy_words.specs.declared.command.Command.TheVariants as command

-- a command with what its words name; an option that isn't among the words is none
pub data Order : Type 0 where
  check : (file : Bytes) → Order
  derive : (file : Bytes) → Order
  judge : (file derivation : Bytes) → Order
  why : (file : Bytes) (width : Option ℕ) → Order
  tree : (file : Bytes) (derivation : Option Bytes) (latex : Bool) (levels node width : Option ℕ) → Order
  build : (file image : Bytes) (stack : Option ℕ) (derivation : Option Bytes) → Order
  exec : (image : Bytes) (steps last : Option ℕ) → Order
  run : (file : Bytes) (steps stack : Option ℕ) (derivation image : Option Bytes) → Order
  copy : (file : Bytes) (steps : Option ℕ) → Order
  trace : (file : Bytes) (steps : Option ℕ) (straight : Bool) → Order
  list : (file : Bytes) → Order
  sample : (number size : ℕ) → Order
  audit : (image : Bytes) → Order
  migrate : (from to : Bytes) → Order
  elf : (from to : Bytes) → Order
  unelf : (from to : Bytes) → Order
  unit : (file to : Bytes) → Order
  join : (file to : Bytes) → Order
  link : (file to : Bytes) (stack : Option ℕ) → Order

-- the order that a command stands for
abbrev pub order_of : Command → Order
order_of (command.Check file) = check file.now
order_of (command.Derive file) = derive file.now
order_of (command.Judge file derivation) = judge file.now derivation.now
order_of (command.Why file width) = why file.now width
order_of (command.Tree file derivation latex levels node width) = tree file.now (option_map (λ name. name.now) derivation) latex levels node width
order_of (command.Build file image stack derivation) = build file.now image.now stack (option_map (λ name. name.now) derivation)
order_of (command.Exec image steps last) = exec image.now steps last
order_of (command.Run file steps stack derivation image) = run file.now steps stack (option_map (λ name. name.now) derivation) (option_map (λ name. name.now) image)
order_of (command.Copy file steps) = copy file.now steps
order_of (command.Trace file steps straight) = trace file.now steps straight
order_of (command.List file) = list file.now
order_of (command.Sample number size) = sample number size
order_of (command.Audit image) = audit image.now
order_of (command.Migrate from to) = migrate from.now to.now
order_of (command.Elf from to) = elf from.now to.now
order_of (command.Unelf from to) = unelf from.now to.now
order_of (command.Unit file to) = unit file.now to.now
order_of (command.Join file to) = join file.now to.now
order_of (command.Link file to stack) = link file.now to.now stack

-- ---- options and operands

-- a word that begins with two hyphens is an option
abbrev pub is_option : Bytes → Bool
is_option word = starts_with nat_eq word (codes "--")

-- every other word is an operand
abbrev pub operands : List Bytes → List Bytes
operands [] = []
operands (word ∷ words) = if is_option word then operands words else word ∷ operands words

-- what stands behind the key in a word that begins with it
abbrev pub behind : Bytes → Bytes → Option Bytes
behind key word = if starts_with nat_eq word key then Some (drop (length key) word) else None

-- the values of an option: what stands behind its key, word by word
abbrev pub values : Bytes → List Bytes → List Bytes
values key [] = []
values key (word ∷ words) = option_to_list (behind key word) ++ values key words

-- whether a word begins with one of the keys
abbrev pub has_key : List Bytes → Bytes → Bool
has_key [] word = false
has_key (key ∷ keys) word = starts_with nat_eq word key || has_key keys word

-- whether each option has one of the keys
abbrev pub are_known : List Bytes → List Bytes → Bool
are_known keys [] = true
are_known keys (word ∷ words) = (not (is_option word) || has_key keys word) && are_known keys words

-- ---- their form

-- a name has a byte or more
abbrev pub name_of : Bytes → Option Bytes
name_of [] = None
name_of (b ∷ bs) = Some (b ∷ bs)

-- the number that digits write after those of a number
abbrev pub number_from : ℕ → Bytes → ℕ
number_from value [] = value
number_from value (d ∷ ds) = number_from (10 * value + (d - 48)) ds

-- the number in a range that is written so, in plain decimal
abbrev pub number_in : ℕ → ℕ → Bytes → Option ℕ
number_in least most text =
    let n = number_from 0 text in if nat_le least n && (nat_le n most && bytes_eq (decimal n) text) then Some n else None

-- the one operand
abbrev pub only_operand : List Bytes → Option Bytes
only_operand (word ∷ []) = name_of word
only_operand _ = None

-- the two operands
abbrev pub both_operands : List Bytes → Option (Bytes × Bytes)
both_operands (first ∷ second ∷ []) = Some (first, second)
both_operands _ = None

-- the two operands, where both are names
abbrev pub both_with : Option Bytes → Option Bytes → Option (Bytes × Bytes)
both_with (Some first) (Some second) = Some (first, second)
both_with _ _ = None

abbrev pub both_names : List Bytes → Option (Bytes × Bytes)
both_names (first ∷ second ∷ []) = both_with (name_of first) (name_of second)
both_names _ = None

-- an option that stands among the words at most once: not among them, its value, or none where that isn't in form or stands twice
abbrev pub at_most_once : {X : Type 0} → (Bytes → Option X) → List Bytes → Option (Option X)
at_most_once form [] = Some None
at_most_once form (value ∷ []) = option_map Some (form value)
at_most_once form (value ∷ other ∷ more) = None

-- an option without a value that stands among the words at most once: whether it is among them
abbrev pub flag : List Bytes → Option Bool
flag [] = Some false
flag ([] ∷ []) = Some true
flag _ = None

abbrev pub image_option : List Bytes → Option (Option Bytes)
image_option words = at_most_once name_of (values (codes "--image=") words)

abbrev pub derivation_option : List Bytes → Option (Option Bytes)
derivation_option words = at_most_once name_of (values (codes "--derivation=") words)

abbrev pub stack_option : List Bytes → Option (Option ℕ)
stack_option words = at_most_once (number_in 1024 67108864) (values (codes "--stack=") words)

abbrev pub steps_option : List Bytes → Option (Option ℕ)
steps_option words = at_most_once (number_in 1 1000000000000) (values (codes "--steps=") words)

-- the steps of the copy rule
abbrev pub copy_option : List Bytes → Option (Option ℕ)
copy_option words = at_most_once (number_in 1 1000000000) (values (codes "--steps=") words)

-- the steps of push-enter code
abbrev pub trace_steps_option : List Bytes → Option (Option ℕ)
trace_steps_option words = at_most_once (number_in 1 1000000) (values (codes "--steps=") words)

-- code in which nodes are evaluated in one step
abbrev pub straight_option : List Bytes → Option Bool
straight_option words = flag (values (codes "--straight") words)

abbrev pub trace_option : List Bytes → Option (Option ℕ)
trace_option words = at_most_once (number_in 1 4096) (values (codes "--trace=") words)

-- the bytes of a phrase
abbrev pub width_option : List Bytes → Option (Option ℕ)
width_option words = at_most_once (number_in 40 1000) (values (codes "--width=") words)

-- rules of inference for LaTeX
abbrev pub latex_option : List Bytes → Option Bool
latex_option words = flag (values (codes "--form=latex") words)

-- the levels of a tree
abbrev pub levels_option : List Bytes → Option (Option ℕ)
levels_option words = at_most_once (number_in 0 2048) (values (codes "--depth=") words)

-- a node of a derivation
abbrev pub node_option : List Bytes → Option (Option ℕ)
node_option words = at_most_once (number_in 0 262143) (values (codes "--node=") words)

-- ---- the commands

-- `check FILE`
abbrev pub check_from : List Bytes → Option Order
check_from words = if are_known [] words then option_map check (only_operand (operands words)) else None

-- `derive FILE`
abbrev pub derive_from : List Bytes → Option Order
derive_from words = if are_known [] words then option_map derive (only_operand (operands words)) else None

-- `judge FILE --derivation=D`
abbrev pub judge_with : Option Bytes → Option (Option Bytes) → Option Order
judge_with (Some file) (Some (Some derivation)) = Some (judge file derivation)
judge_with _ _ = None

abbrev pub judge_from : List Bytes → Option Order
judge_from words = if are_known (codes "--derivation=" ∷ []) words then judge_with (only_operand (operands words)) (derivation_option words) else None

-- `why FILE [--width=W]`
abbrev pub why_with : Option Bytes → Option (Option ℕ) → Option Order
why_with (Some file) (Some width) = Some (why file width)
why_with _ _ = None

abbrev pub why_from : List Bytes → Option Order
why_from words = if are_known (codes "--width=" ∷ []) words then why_with (only_operand (operands words)) (width_option words) else None

-- `tree FILE [--derivation=D] [--form=latex] [--depth=K] [--node=N] [--width=W]`
abbrev pub tree_with : Option Bytes → Option (Option Bytes) → Option Bool → Option (Option ℕ) → Option (Option ℕ) → Option (Option ℕ) → Option Order
tree_with (Some file) (Some derivation) (Some latex) (Some levels) (Some node) (Some width) = Some (tree file derivation latex levels node width)
tree_with _ _ _ _ _ _ = None

abbrev pub tree_from : List Bytes → Option Order
tree_from words =
    if are_known (codes "--derivation=" ∷ codes "--form=latex" ∷ codes "--depth=" ∷ codes "--node=" ∷ codes "--width=" ∷ []) words
    then tree_with (only_operand (operands words)) (derivation_option words) (latex_option words) (levels_option words) (node_option words) (width_option words)
    else None

-- `build FILE --image=OUT [--stack=W] [--derivation=D]`
abbrev pub build_with : Option Bytes → Option (Option Bytes) → Option (Option ℕ) → Option (Option Bytes) → Option Order
build_with (Some file) (Some (Some image)) (Some stack) (Some derivation) = Some (build file image stack derivation)
build_with _ _ _ _ = None

abbrev pub build_from : List Bytes → Option Order
build_from words =
    if are_known (codes "--image=" ∷ codes "--stack=" ∷ codes "--derivation=" ∷ []) words
    then build_with (only_operand (operands words)) (image_option words) (stack_option words) (derivation_option words)
    else None

-- `exec IMAGE [--steps=N] [--trace=K]`
abbrev pub exec_with : Option Bytes → Option (Option ℕ) → Option (Option ℕ) → Option Order
exec_with (Some image) (Some steps) (Some last) = Some (exec image steps last)
exec_with _ _ _ = None

abbrev pub exec_from : List Bytes → Option Order
exec_from words =
    if are_known (codes "--steps=" ∷ codes "--trace=" ∷ []) words then exec_with (only_operand (operands words)) (steps_option words) (trace_option words) else None

-- `run FILE [--steps=N] [--stack=W] [--derivation=D] [--image=OUT]`
abbrev pub run_with : Option Bytes → Option (Option ℕ) → Option (Option ℕ) → Option (Option Bytes) → Option (Option Bytes) → Option Order
run_with (Some file) (Some steps) (Some stack) (Some derivation) (Some image) = Some (run file steps stack derivation image)
run_with _ _ _ _ _ = None

abbrev pub run_from : List Bytes → Option Order
run_from words =
    if are_known (codes "--steps=" ∷ codes "--stack=" ∷ codes "--derivation=" ∷ codes "--image=" ∷ []) words
    then run_with (only_operand (operands words)) (steps_option words) (stack_option words) (derivation_option words) (image_option words)
    else None

-- `copy FILE [--steps=M]`
abbrev pub copy_with : Option Bytes → Option (Option ℕ) → Option Order
copy_with (Some file) (Some steps) = Some (copy file steps)
copy_with _ _ = None

abbrev pub copy_from : List Bytes → Option Order
copy_from words = if are_known (codes "--steps=" ∷ []) words then copy_with (only_operand (operands words)) (copy_option words) else None

-- `trace FILE [--steps=N] [--straight]`
abbrev pub trace_with : Option Bytes → Option (Option ℕ) → Option Bool → Option Order
trace_with (Some file) (Some steps) (Some straight) = Some (trace file steps straight)
trace_with _ _ _ = None

abbrev pub trace_from : List Bytes → Option Order
trace_from words =
    if are_known (codes "--steps=" ∷ codes "--straight" ∷ []) words then trace_with (only_operand (operands words)) (trace_steps_option words) (straight_option words) else None

-- `list FILE`
abbrev pub list_from : List Bytes → Option Order
list_from words = if are_known [] words then option_map list (only_operand (operands words)) else None

-- `sample NUMBER SIZE`
abbrev pub sample_with : Option ℕ → Option ℕ → Option Order
sample_with (Some number) (Some size) = Some (sample number size)
sample_with _ _ = None

abbrev pub sample_from : List Bytes → Option Order
sample_from words =
    if are_known [] words
    then option_and_then (λ both. sample_with (number_in 0 4294967295 both.0) (number_in 1 2000 both.1)) (both_operands (operands words))
    else None

-- `audit IMAGE`
abbrev pub audit_from : List Bytes → Option Order
audit_from words = if are_known [] words then option_map audit (only_operand (operands words)) else None

-- `migrate IN OUT`
abbrev pub migrate_from : List Bytes → Option Order
migrate_from words = if are_known [] words then option_map (λ both. migrate both.0 both.1) (both_names (operands words)) else None

-- `elf IN OUT`
abbrev pub elf_from : List Bytes → Option Order
elf_from words = if are_known [] words then option_map (λ both. elf both.0 both.1) (both_names (operands words)) else None

-- `unelf IN OUT`
abbrev pub unelf_from : List Bytes → Option Order
unelf_from words = if are_known [] words then option_map (λ both. unelf both.0 both.1) (both_names (operands words)) else None

-- `unit FILE OUT`
abbrev pub unit_from : List Bytes → Option Order
unit_from words = if are_known [] words then option_map (λ both. unit both.0 both.1) (both_names (operands words)) else None

-- `join LIST OUT`
abbrev pub join_from : List Bytes → Option Order
join_from words = if are_known [] words then option_map (λ both. join both.0 both.1) (both_names (operands words)) else None

-- `link LIST OUT [--stack=W]`
abbrev pub link_with : Option (Bytes × Bytes) → Option (Option ℕ) → Option Order
link_with (Some both) (Some stack) = Some (link both.0 both.1 stack)
link_with _ _ = None

abbrev pub link_from : List Bytes → Option Order
link_from words = if are_known (codes "--stack=" ∷ []) words then link_with (both_names (operands words)) (stack_option words) else None

-- the order that words are, if they are one: the first word is the command
abbrev pub command_from : List Bytes → Option Order
command_from [] = None
command_from (name ∷ words) =
    if bytes_eq name (codes "check") then check_from words
    else (if bytes_eq name (codes "derive") then derive_from words
    else (if bytes_eq name (codes "judge") then judge_from words
    else (if bytes_eq name (codes "why") then why_from words
    else (if bytes_eq name (codes "tree") then tree_from words
    else (if bytes_eq name (codes "build") then build_from words
    else (if bytes_eq name (codes "exec") then exec_from words
    else (if bytes_eq name (codes "run") then run_from words
    else (if bytes_eq name (codes "copy") then copy_from words
    else (if bytes_eq name (codes "trace") then trace_from words
    else (if bytes_eq name (codes "list") then list_from words
    else (if bytes_eq name (codes "sample") then sample_from words
    else (if bytes_eq name (codes "audit") then audit_from words
    else (if bytes_eq name (codes "migrate") then migrate_from words
    else (if bytes_eq name (codes "elf") then elf_from words
    else (if bytes_eq name (codes "unelf") then unelf_from words
    else (if bytes_eq name (codes "unit") then unit_from words
    else (if bytes_eq name (codes "join") then join_from words
    else (if bytes_eq name (codes "link") then link_from words
    else None))))))))))))))))))

-- ---- what is wanted where no option says it

-- words of stack
abbrev pub stack_wanted : Option ℕ → ℕ
stack_wanted stack = unwrap_or stack 1048576

-- instructions of a run
abbrev pub steps_wanted : Option ℕ → ℕ
steps_wanted steps = unwrap_or steps 1000000000

-- steps of the copy rule
abbrev pub copy_wanted : Option ℕ → ℕ
copy_wanted steps = unwrap_or steps 100000

-- steps of push-enter code
abbrev pub trace_steps_wanted : Option ℕ → ℕ
trace_steps_wanted steps = unwrap_or steps 10000

-- bytes of a phrase
abbrev pub width_wanted : Option ℕ → ℕ
width_wanted width = unwrap_or width 78

-- bytes of a line of a tree
abbrev pub line_wanted : Option ℕ → ℕ
line_wanted width = unwrap_or width 100

-- levels of a tree: as many as derivations have
abbrev pub levels_wanted : Option ℕ → ℕ
levels_wanted levels = unwrap_or levels 2048

-- a stack of a size that images have
abbrev pub IsStackInRange : Option ℕ → Type 0
IsStackInRange stack = (1024 ≤ stack_wanted stack) × (stack_wanted stack ≤ 67108864)

-- an order whose image has a stack of a size that images have, or whose steps are few enough, or whose sample has a size that samples have
abbrev pub IsInRange : Order → Type 0
IsInRange (build file image stack derivation) = IsStackInRange stack
IsInRange (run file steps stack derivation image) = IsStackInRange stack
IsInRange (copy file steps) = copy_wanted steps ≤ 1000000000
IsInRange (trace file steps straight) = trace_steps_wanted steps ≤ 1000000
IsInRange (sample number size) = (number < 2 ^ 32) × (1 ≤ size) × (size ≤ 2000)
IsInRange (check file) = Unit {0}
IsInRange (derive file) = Unit {0}
IsInRange (judge file derivation) = Unit {0}
IsInRange (why file width) = Unit {0}
IsInRange (tree file derivation latex levels below width) = Unit {0}
IsInRange (exec image steps last) = Unit {0}
IsInRange (list file) = Unit {0}
IsInRange (audit image) = Unit {0}
IsInRange (migrate from to) = Unit {0}
IsInRange (elf from to) = Unit {0}
IsInRange (unelf from to) = Unit {0}
IsInRange (unit file to) = Unit {0}
IsInRange (join file to) = Unit {0}
IsInRange (link file to stack) = IsStackInRange stack
