-- The whole text of a derivation: the program inside the prelude, or the tree below a node.
use Rattle.std.specs.Prelude.{ℕ, zero, suc, ◌+◌, Bool, true, false, List, [], ◌∷◌, ◌++◌, Option, Some, None, if◌then◌else◌, codes}
use Rattle.fy_base.specs.Outside.{Bytes}
use Rattle.fy_types.specs.Types.{PlainType}
use Rattle.fy_phrase.specs.Tree.{Tree, let_in}
use Rattle.fy_derive.specs.Derivations.{PlainDerivation, PlainDerivations, sub, rule, no_derivations, and_derivation, nodes}
use Rattle.fy_derive.specs.Judging.{judged}
use Rattle.fy_show.specs.Entries.{Scope}
use Rattle.fy_show.specs.Fresh.{bound}
use Rattle.fy_told.specs.ReasonTexts.{variable_text}
use Rattle.fy_tree.specs.declared.style.Form.{Form}
use Rattle.fy_tree.specs.declared.style.Form.TheVariants.{Plain, Latex}
use Rattle.fy_tree.specs.Annotated.{concluded, shown_of}
use Rattle.fy_tree.specs.Lines.{Look, lines}

-- whether so many `let`s stand at the root, each below the one before
abbrev pub has_lets : ℕ → PlainDerivation → Tree → Bool
has_lets zero d p = true
has_lets (suc c) (sub B d) p = has_lets (suc c) d p
has_lets (suc c) (rule (and_derivation e (and_derivation d no_derivations))) (let_in x q b at) = has_lets c d b
has_lets (suc c) d p = false

-- what only the text has
abbrev pub if_plain : Form → Bytes → Bytes
if_plain Plain text = text
if_plain Latex text = []

-- the types of the names of so many `let`s, and then the lines of what stands below them
abbrev pub below_lets : Look → ℕ → ℕ → Bytes → PlainDerivation → ℕ → List PlainType → Scope → Tree → Bytes
below_lets look more zero before d n G s p = if_plain look.form (10 ∷ []) ++ lines look None [] more [] (shown_of look.known d n G s [] p)
below_lets look more (suc c) before (sub B d) n G s p = below_lets look more (suc c) before d (n + 1) G s p
below_lets look more (suc c) before (rule (and_derivation e (and_derivation d no_derivations))) n G s (let_in x q b at) =
    let A = concluded (judged e (n + 1) G q) in
    let entry = bound look.known s (let_in x q b at) in
    if_plain look.form (before ++ variable_text look.known entry A)
    ++ below_lets look more c (codes ", ") d (n + 1 + nodes e) (A ∷ G) (entry ∷ s) b
below_lets look more (suc c) before d n G s p = []

-- the names that every program has
abbrev pub prelude_count : ℕ
prelude_count = 5

-- the lines down to so many levels below a node, or below the program inside the prelude
abbrev pub tree_text : Look → Option ℕ → ℕ → PlainDerivation → Tree → Bytes
tree_text look (Some m) more d p = lines look (Some m) [] more [] (shown_of look.known d 0 [] [] [] p)
tree_text look None more d p =
    if has_lets prelude_count d p then below_lets look more prelude_count [] d 0 [] [] p
    else lines look None [] more [] (shown_of look.known d 0 [] [] [] p)
